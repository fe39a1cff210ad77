-- The steps are counted in the ledger of the blank.
use Rattle.store_seen.proofs.shared.value_by_folds.Given as goal

abbrev pub ghosts-value_by : goal.ghosts-value_by
ghosts-value_by g a = record { name = a.blank.name; parts = a.blank.parts }
