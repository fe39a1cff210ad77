use Rattle.std.proofs.Common.{subst, sym, OnErr}
use Rattle.mrdt_model.specs.Spelled.{AppendsPart}
use Rattle.branch_show.specs.Json.{json_maybe}
use Rattle.branch_show.proofs.json_answers.put_maybe.Goals as goal

pub returns-in-None-clause-err : goal.returns-in-None-clause-err
returns-in-None-clause-err c =
    subst (λ bytes. OnErr c.put_text.result (AppendsPart c.args.out.now.items c.put_text.new.out.items (json_maybe bytes))) (sym c.in-None.is) c.put_text.ensures.err
