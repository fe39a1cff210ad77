use Rattle.std.proofs.Common.{subst, sym, OnErr}
use Rattle.mrdt_model.specs.Spelled.{AppendsPart}
use Rattle.branch_print.specs.Texts.{took_text}
use Rattle.branch_print.proofs.replies.put_took.Goals as goal

pub returns-in-None-clause-err : goal.returns-in-None-clause-err
returns-in-None-clause-err c =
    subst (λ took. OnErr c.put_text.result (AppendsPart c.args.out.now.items c.put_text.new.out.items (took_text took))) (sym c.in-None.is) c.put_text.ensures.err
