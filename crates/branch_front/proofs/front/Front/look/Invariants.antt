use Rattle.branch_front.proofs.front.Front.look.Given as goal

abbrev pub ghosts-look_as : goal.ghosts-look_as
ghosts-look_as g a = record { begun = a.self.now.begun; parts = a.self.now.parts }
