-- The records of the moves so far are spelled.
use Rattle.std.proofs.Common.{◌≡◌, length, take}
use Rattle.branch_history.specs.History.{store_of}
use Rattle.branch_machine.specs.Fixed.{fix}
use Rattle.branch_files.specs.Records.{history_text}
use Rattle.store_compact.proofs.spelling.spell_heads.Given as goal

abbrev pub invariant-loop-made : goal.invariant-loop-made
invariant-loop-made g l =
    (l.text.items ≡ history_text (fix g.T.Mrdt.meaning l.fn.terms g.A.Address.address) (take l.made-index l.moves))
    × (l.commits ≡ length (store_of l.fn.terms.origin (take l.made-index l.moves)).commits)
