use Rattle.std.proofs.Common.{◌≡◌, ◌++◌, subst}
use Rattle.std.specs.Result.{OnOk, OnErr}
use Rattle.mrdt_model.specs.Spelled.{AppendsPart}
use Rattle.mrdt_old_doc.specs.OldDocument.{old_document}
use Rattle.mrdt_old_doc.proofs.doc.Doc1Mrdt.put.Goals as goal

pub returns-clause-ok : goal.returns-clause-ok
returns-clause-ok c = subst (λ s. OnOk c.put.result (c.put.new.out.items ≡ c.args.out.now.items ++ old_document.state_spelling s)) c.self.view_is c.put.ensures.ok

pub returns-clause-err : goal.returns-clause-err
returns-clause-err c = subst (λ s. OnErr c.put.result (AppendsPart c.args.out.now.items c.put.new.out.items (old_document.state_spelling s))) c.self.view_is c.put.ensures.err
