use Rattle.std.proofs.Common.{◌≡◌, ◌<◌, ◌^◌, ◌↔◌, IsTrue, length, subst}
use Rattle.mrdt_wide.specs.Wide.{wide_document}
use Rattle.mrdt_wide.proofs.wide.WideMrdt.same.Goals as goal

pub returns-clause-same : goal.returns-clause-same
returns-clause-same c =
    subst (λ s. IsTrue c.same.result ↔ wide_document.is_same s c.args.other.now) c.self.view_is (subst (λ s. IsTrue c.same.result ↔ wide_document.is_same c.self.inside.product s) c.other.view_is c.same.ensures.same)

pub returns-clause-spelled : goal.returns-clause-spelled
returns-clause-spelled c =
    subst (λ s. length (wide_document.state_spelling s) < 2 ^ 64 → wide_document.state_spelling s ≡ wide_document.state_spelling c.args.other.now → wide_document.is_same s c.args.other.now) c.self.view_is
    (subst (λ s. length (wide_document.state_spelling c.self.inside.product) < 2 ^ 64 → wide_document.state_spelling c.self.inside.product ≡ wide_document.state_spelling s → wide_document.is_same c.self.inside.product s) c.other.view_is c.same.ensures.spelled)
