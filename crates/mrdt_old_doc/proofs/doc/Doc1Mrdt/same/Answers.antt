use Rattle.std.proofs.Common.{◌≡◌, ◌<◌, ◌^◌, ◌↔◌, IsTrue, length, subst}
use Rattle.mrdt_old_doc.specs.OldDocument.{old_document}
use Rattle.mrdt_old_doc.proofs.doc.Doc1Mrdt.same.Goals as goal

pub returns-clause-same : goal.returns-clause-same
returns-clause-same c =
    subst (λ s. IsTrue c.same.result ↔ old_document.is_same s c.args.other.now) c.self.view_is (subst (λ s. IsTrue c.same.result ↔ old_document.is_same c.self.inside.product s) c.other.view_is c.same.ensures.same)

pub returns-clause-spelled : goal.returns-clause-spelled
returns-clause-spelled c =
    subst (λ s. length (old_document.state_spelling s) < 2 ^ 64 → old_document.state_spelling s ≡ old_document.state_spelling c.args.other.now → old_document.is_same s c.args.other.now) c.self.view_is
    (subst (λ s. length (old_document.state_spelling c.self.inside.product) < 2 ^ 64 → old_document.state_spelling c.self.inside.product ≡ old_document.state_spelling s → old_document.is_same c.self.inside.product s) c.other.view_is c.same.ensures.spelled)
