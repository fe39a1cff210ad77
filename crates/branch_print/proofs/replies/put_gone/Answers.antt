use Rattle.std.proofs.Common.{true, subst, sym, OnErr}
use Rattle.mrdt_model.specs.Spelled.{AppendsPart}
use Rattle.branch_print.specs.Texts.{named_text}
use Rattle.branch_print.proofs.replies.put_gone.Goals as goal

pub returns-in-None-clause-err : goal.returns-in-None-clause-err
returns-in-None-clause-err c =
    subst (λ named. OnErr c.put_text.result (AppendsPart c.args.out.now.items c.put_text.new.out.items (named_text true named))) (sym c.in-None.is) c.put_text.ensures.err
