use Rattle.std.proofs.Common.{◌∙◌, Some, ap, sym}
use Rattle.branch_command.proofs.Addresses.{one_more, one_says_none}
use Rattle.branch_command.proofs.bundles.read_addresses.Goals as goal

pub returns-in_default-clause-usage : goal.returns-in_default-clause-usage
returns-in_default-clause-usage c = λ u.
    one_says_none c.args.words.now c.loop-word.word-index _ c.loop-word-test.true c.in_default.ensures

pub loop-word-preserved : goal.loop-word-preserved
loop-word-preserved c =
    one_more c.args.words.now c.loop-word.word-index _ c.loop-word.here.items c.in-Some.address c.loop-word-test.true c.loop-word.invariant c.in-Some.ensures ∙ ap Some (sym c.in-Ok.ensures)
