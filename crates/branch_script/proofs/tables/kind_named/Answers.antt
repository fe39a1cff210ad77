use Rattle.std.proofs.Common.{◌≡◌, rules, arith}
use Rattle.std.specs.Prelude.{codes}
use Rattle.std.proofs.lemmas.Slice.Eq.{text_from_reads}
use Rattle.branch_script.specs.Tables.{kind_named}
use Rattle.branch_script.proofs.tables.kind_named.Goals as goal

pub returns-in-counter : goal.returns-in-counter
unfolding kind_named
returns-in-counter c =
    let text : c.args.word.now ≡ codes "counter" = text_from_reads _ _ (omega arith) (search rules) in
    rw text
