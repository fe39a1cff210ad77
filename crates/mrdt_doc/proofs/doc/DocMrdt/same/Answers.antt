use Rattle.std.proofs.Common.{◌≡◌, ◌<◌, ◌^◌, ◌↔◌, IsTrue, length, subst}
use Rattle.branch_doc.specs.Document.{document}
use Rattle.mrdt_doc.proofs.doc.DocMrdt.same.Goals as goal

pub returns-clause-same : goal.returns-clause-same
returns-clause-same c =
    subst (λ s. IsTrue c.same.result ↔ document.is_same s c.args.other.now) c.self.view_is (subst (λ s. IsTrue c.same.result ↔ document.is_same c.self.inside.product s) c.other.view_is c.same.ensures.same)

pub returns-clause-spelled : goal.returns-clause-spelled
returns-clause-spelled c =
    subst (λ s. length (document.state_spelling s) < 2 ^ 64 → document.state_spelling s ≡ document.state_spelling c.args.other.now → document.is_same s c.args.other.now) c.self.view_is
    (subst (λ s. length (document.state_spelling c.self.inside.product) < 2 ^ 64 → document.state_spelling c.self.inside.product ≡ document.state_spelling s → document.is_same c.self.inside.product s) c.other.view_is c.same.ensures.spelled)
