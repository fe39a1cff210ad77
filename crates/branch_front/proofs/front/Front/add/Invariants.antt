use Rattle.branch_front.proofs.front.Front.add.Given as goal

abbrev pub ghosts-add_as : goal.ghosts-add_as
ghosts-add_as g a = record { begun = a.self.now.begun; parts = a.self.now.parts }
