-- The steps are counted in the ledger of the blank.
use Rattle.store_seen.proofs.shared.base_by_folds.Given as goal

abbrev pub ghosts-base_by : goal.ghosts-base_by
ghosts-base_by g a = record { name = a.blank.name; parts = a.blank.parts }
