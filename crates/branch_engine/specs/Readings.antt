-- What the files of a store read as.
use Rattle.std.specs.Prelude.{◌⊎◌}
use Rattle.branch_disk.specs.Disk.{Files}
use Rattle.branch_machine.specs.Fixed.{Fixed}
use Rattle.branch_files.specs.Reading.{Opens, ReadsAs}
use Rattle.branch_engine.specs.Play.{History}

-- the files read as this history, and as the store's terms
abbrev pub ReadAs : {S O R Q A : Type 0} → Fixed S O R Q A → History O R → Files → Type 0
ReadAs fixed moves files = ReadsAs fixed.meaning fixed.address files (Opens fixed.terms moves)

-- the files read as one history or as the other
abbrev pub ReadAsEither : {S O R Q A : Type 0} → Fixed S O R Q A → History O R → History O R → Files → Type 0
ReadAsEither fixed before after files = ReadAs fixed before files ⊎ ReadAs fixed after files
