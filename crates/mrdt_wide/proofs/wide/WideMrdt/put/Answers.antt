use Rattle.std.proofs.Common.{◌≡◌, ◌++◌, subst}
use Rattle.std.specs.Result.{OnOk, OnErr}
use Rattle.mrdt_model.specs.Spelled.{AppendsPart}
use Rattle.mrdt_wide.specs.Wide.{wide_document}
use Rattle.mrdt_wide.proofs.wide.WideMrdt.put.Goals as goal

pub returns-clause-ok : goal.returns-clause-ok
returns-clause-ok c = subst (λ s. OnOk c.put.result (c.put.new.out.items ≡ c.args.out.now.items ++ wide_document.state_spelling s)) c.self.view_is c.put.ensures.ok

pub returns-clause-err : goal.returns-clause-err
returns-clause-err c = subst (λ s. OnErr c.put.result (AppendsPart c.args.out.now.items c.put.new.out.items (wide_document.state_spelling s))) c.self.view_is c.put.ensures.err
