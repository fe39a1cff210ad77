-- The steps are counted in the ledger of the blank.
use Rattle.store_seen.proofs.shared.push_behind.Given as goal

abbrev pub ghosts-put_longer : goal.ghosts-put_longer
ghosts-put_longer g a = record { name = a.blank.name; parts = a.blank.parts }
