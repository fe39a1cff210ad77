-- What making moves again answers, and what it leaves of a store.
use Rattle.std.specs.Prelude.{◌≡◌, ◌⊎◌, ℕ, true, List, [], ◌∷◌, ◌++◌, length, Option, Result, Ok, Err}
use Rattle.std.specs.Option.{ForSome}
use mathlib.Core.List.{IsPrefix}
use Rattle.branch_disk.specs.Disk.{Files, LeavesOnly}
use Rattle.branch_disk.specs.declared.disk.Disk.{Ghosts}
use Rattle.heads_journal.specs.Heads.{IsNoStore}
use Rattle.branch_history.specs.declared.moves.Move.{Move}
use Rattle.branch_history.specs.Steps.{Step}
use Rattle.branch_machine.specs.Fixed.{Fixed}
use Rattle.branch_machine.specs.Objects.{store_after}
use Rattle.branch_machine.specs.Validity.{IsFullyValid}
use Rattle.branch_files.specs.Stands.{Stands}
use Rattle.branch_renewal.specs.Laws.{RepeatsBy, IsRefused}
use Rattle.store_seen.specs.declared.answers.PrepareRefused.{PrepareRefused}
use Rattle.store_seen.specs.declared.answers.PrepareRefused.TheVariants as prepare_refusal
use Rattle.store_seen.specs.declared.answers.PairPrepareRefused.{PairPrepareRefused}
use Rattle.store_seen.specs.declared.answers.PairPrepareRefused.TheVariants as pair_refusal
use Rattle.store_core.specs.declared.answers.LandRefused.{LandRefused}
use Rattle.store_core.specs.declared.answers.LandRefused.TheVariants as land_refusal
use Rattle.store_core.specs.declared.answers.ForkRefused.{ForkRefused}
use Rattle.store_core.specs.declared.answers.ForkRefused.TheVariants as fork_refusal
use Rattle.store_core.specs.declared.answers.InitRefused.{InitRefused}
use Rattle.store_core.specs.declared.answers.InitRefused.TheVariants as init_refusal
use Rattle.store_core.specs.Images.{AllStand, WithOrWithout}
use Rattle.store_core.specs.Inits.{IsEmpty, HasBytes}
use Rattle.store_core.specs.Views.{StoreView}
use Rattle.moves_again.specs.declared.answers.MoveRefused.{MoveRefused}
use Rattle.moves_again.specs.declared.answers.MoveRefused.TheVariants.{Refused, DiskFault, Memory}
use Rattle.moves_again.specs.declared.answers.MakeRefused.{MakeRefused}
use Rattle.moves_again.specs.declared.answers.MakeRefused.TheVariants as make_refusal

abbrev pub land_refused : LandRefused → MoveRefused
land_refused (land_refusal.Dropped branch) = Refused
land_refused (land_refusal.Stale newest) = Refused
land_refused (land_refusal.FullCommits count) = Refused
land_refused (land_refusal.FullMoves count) = Refused
land_refused (land_refusal.Collision address stored fresh) = Refused
land_refused land_refusal.DiskFault = DiskFault
land_refused (land_refusal.Failed moves) = DiskFault
land_refused land_refusal.Memory = Memory

abbrev pub fork_refused : ForkRefused → MoveRefused
fork_refused (fork_refusal.UnknownBranch name) = Refused
fork_refused (fork_refusal.NameTaken number) = Refused
fork_refused (fork_refusal.FullBranches count) = Refused
fork_refused (fork_refusal.FullMoves count) = Refused
fork_refused fork_refusal.DiskFault = DiskFault
fork_refused (fork_refusal.Failed moves) = DiskFault
fork_refused fork_refusal.Memory = Memory

abbrev pub prepare_refused : PrepareRefused → MoveRefused
prepare_refused (prepare_refusal.Exhausted clock) = Refused
prepare_refused (prepare_refusal.ValueTooLarge length) = Refused
prepare_refused prepare_refusal.Memory = Memory

abbrev pub merge_refused : PairPrepareRefused → MoveRefused
merge_refused (pair_refusal.ValueTooLarge length) = Refused
merge_refused pair_refusal.Memory = Memory

-- one more move was made of a store, or none
abbrev pub MakesOne : {D S O R Q A : Type 0} → Fixed S O R Q A → Move O R
    → StoreView (Move O R) D → StoreView (Move O R) D → Result (Unit {0}) MoveRefused → Type 0
MakesOne fixed made old new (Ok done) = new ≡ record old { history = old.history ++ made ∷ []; disk = new.disk }
MakesOne fixed made old new (Err Refused) = (new ≡ old) × IsRefused fixed old.history made
MakesOne fixed made old new (Err DiskFault) = new ≡ record old { failed = true; disk = new.disk }
MakesOne fixed made old new (Err Memory) = new ≡ old

-- some move is made again by this step
abbrev pub RepeatsSome : {S O R Q A : Type 0} → Fixed S O R Q A → List (Move O R) → Step O Q → Type 0
RepeatsSome {S} {O} {R} fixed moves step = (made : Move O R) × RepeatsBy fixed moves made step

-- and what is answered to the step is so of that move
abbrev pub MakesSo : {D S O R Q A : Type 0} → Fixed S O R Q A → Step O Q
    → StoreView (Move O R) D → StoreView (Move O R) D → Result (Unit {0}) MoveRefused → Type 0
MakesSo {D} {S} {O} {R} fixed step old new result =
    (made : Move O R) → RepeatsBy fixed old.history made step → MakesOne fixed made old new result

-- of more moves a store made these first ones, and they are on its disk
abbrev pub HasMade : {D O R : Type 0} → List (Move O R) → StoreView (Move O R) D → StoreView (Move O R) D → Type 0
HasMade first old new = new ≡ record old { history = old.history ++ first; disk = new.disk }

-- All of these moves were made of a store, or those before one that the machine refuses; or some first ones, behind which
-- the disk failed or memory was short.
abbrev pub MakesAll : {D S O R Q A : Type 0} → Fixed S O R Q A → List (Move O R)
    → StoreView (Move O R) D → StoreView (Move O R) D → Result (Unit {0}) MoveRefused → Type 0
MakesAll {D} {S} {O} {R} fixed moves old new (Ok done) = HasMade moves old new
MakesAll {D} {S} {O} {R} fixed moves old new (Err Refused) =
    (first : List (Move O R)) × (made : Move O R) × (rest : List (Move O R)) × (moves ≡ first ++ made ∷ rest)
    × HasMade first old new × IsRefused fixed (old.history ++ first) made
MakesAll {D} {S} {O} {R} fixed moves old new (Err DiskFault) =
    (first : List (Move O R)) × (new ≡ record old { history = old.history ++ first; failed = true; disk = new.disk })
MakesAll {D} {S} {O} {R} fixed moves old new (Err Memory) = (first : List (Move O R)) × HasMade first old new

-- files stand for a history with some first ones of more moves behind it
abbrev pub StandsWithSome : {S O R Q A : Type 0} → Fixed S O R Q A → List (Move O R) → List (Move O R) → Files → Type 0
StandsWithSome {S} {O} {R} fixed history more c =
    (first : List (Move O R)) × IsPrefix first more × Stands fixed (history ++ first) c

-- files have no header, or stand for some first ones of these moves
abbrev pub NoneOrSome : {S O R Q A : Type 0} → Fixed S O R Q A → List (Move O R) → Files → Type 0
NoneOrSome fixed moves c = IsNoStore c.heads ⊎ StandsWithSome fixed [] moves c

-- The moves before the one of the commit that would have this number are valid, and each image stands for them; the machine
-- refuses the one of that commit, for what its new value or a new object is.
pub record StopsAt {S O R Q A : Type 0} (fixed : Fixed S O R Q A) (moves : List (Move O R)) (number : ℕ)
    (images : Files → Type 0) : Type 0 where
  pub first : List (Move O R)
  pub made : Move O R
  pub rest : List (Move O R)
  pub parts : moves ≡ first ++ made ∷ rest
  pub counted : number ≡ length (store_after fixed first).commits
  pub refused : IsRefused fixed first made
  pub valid : IsFullyValid fixed first
  pub stands : AllStand fixed first images

-- all moves are made: they are so many, they are valid, and each image stands for them
pub record AllMade {S O R Q A : Type 0} (fixed : Fixed S O R Q A) (moves : List (Move O R)) (count : ℕ)
    (images : Files → Type 0) : Type 0 where
  pub counted : count ≡ length moves
  pub valid : IsFullyValid fixed moves
  pub stands : AllStand fixed moves images

-- why moves are not made on a disk: it has bytes, and keeps them; or the machine refuses one, and those before it are made
abbrev pub MakeRefusedAs : {S O R Q A : Type 0} → Fixed S O R Q A → List (Move O R) → Option Files → Option Files → (Files → Type 0) → MakeRefused → Type 0
MakeRefusedAs fixed moves told now images (make_refusal.NotEmpty n) = ForSome told (HasBytes n) × (now ≡ told)
MakeRefusedAs fixed moves told now images (make_refusal.Refused number) =
    ForSome told IsEmpty × StopsAt fixed moves number images
MakeRefusedAs fixed moves told now images make_refusal.DiskFault = Unit {0}
MakeRefusedAs fixed moves told now images make_refusal.Memory = ForSome told IsEmpty

-- why moves are not made again, where one of them was not: the number is that of the commit that would come next
abbrev pub stopped : ℕ → MoveRefused → MakeRefused
stopped number Refused = make_refusal.Refused number
stopped number DiskFault = make_refusal.DiskFault
stopped number Memory = make_refusal.Memory

abbrev pub init_refused : InitRefused → MakeRefused
init_refused (init_refusal.NotEmpty length) = make_refusal.NotEmpty length
init_refused init_refusal.DiskFault = make_refusal.DiskFault
init_refused init_refusal.Memory = make_refusal.Memory

-- at each moment images stand for the history of a store, as they did, or for it with this move
abbrev pub LeavesOne : {D S O R Q A : Type 0} → Ghosts D → Fixed S O R Q A → Move O R
    → StoreView (Move O R) D → StoreView (Move O R) D → Type 0
LeavesOne disk fixed made old new =
    AllStand fixed old.history (disk.may_leave old.disk)
    → LeavesOnly disk.moment disk.left_since old.disk new.disk (WithOrWithout fixed old.history (made ∷ []))

-- and so of the move that a step makes again
abbrev pub LeavesSo : {D S O R Q A : Type 0} → Ghosts D → Fixed S O R Q A → Step O Q
    → StoreView (Move O R) D → StoreView (Move O R) D → Type 0
LeavesSo {D} {S} {O} {R} disk fixed step old new =
    (made : Move O R) → RepeatsBy fixed old.history made step → LeavesOne disk fixed made old new
