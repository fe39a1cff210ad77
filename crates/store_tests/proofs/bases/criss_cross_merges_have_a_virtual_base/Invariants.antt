-- The steps are counted in the ledger of the blank.
use Rattle.store_tests.proofs.bases.criss_cross_merges_have_a_virtual_base.Given as goal

abbrev pub ghosts-base_twice : goal.ghosts-base_twice
ghosts-base_twice g a = record { name = a.blank.name; parts = a.blank.parts }
