use Rattle.branch_front.proofs.front.Front.split_off.Given as goal

abbrev pub ghosts-split_off_as : goal.ghosts-split_off_as
ghosts-split_off_as g a = record { number = a.parts }
