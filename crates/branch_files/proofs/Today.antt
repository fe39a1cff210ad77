-- To read files of the form that is written today is to read files.
use Rattle.std.proofs.Common.{inl, inr, ℕ, List}
use Rattle.mrdt_model.specs.Laws.{Meaning}
use Rattle.branch_disk.specs.Disk.{Files}
use Rattle.branch_machine.specs.Fixed.{present}
use Rattle.branch_files.specs.Reading.{Answer, ReadsIn, ReadsAs}
use Rattle.branch_files.proofs.Limited.{is_header}

module _ {S O R Q A : Type 0} (m : Meaning S O R Q A) (address : List ℕ → List ℕ) (files : Files) (a : Answer O R) where
  pub reads-today : ReadsIn present m address files a → ReadsAs m address files a
  reads-today (inl (is, none)) = inl (is, λ terms. none terms (is_header terms))
  reads-today (inr (terms, moves, fits, spans, ends)) = inr (terms, moves, spans, ends)

  pub today-reads : ReadsAs m address files a → ReadsIn present m address files a
  today-reads (inl (is, none)) = inl (is, λ terms fits. none terms)
  today-reads (inr (terms, moves, spans, ends)) = inr (terms, moves, is_header terms, spans, ends)
