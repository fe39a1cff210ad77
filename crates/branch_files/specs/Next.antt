-- What may stand behind a history in its files.
use Rattle.std.specs.Prelude.{◌≡◌, ◌≢◌, ◌⊎◌, ℕ, ◌+◌, ◌-◌, ◌<◌, ◌≤◌, List, [], ◌++◌, length, take, drop, Option, None, IsSome, IsTrue}
use Rattle.branch_wire.specs.Reading.{HasLength64}
use Rattle.branch_wire.specs.declared.action.Action.{Action}
use Rattle.branch_wire.specs.Objects.{CommitFields, value_object, commit_object}
use Rattle.branch_wire.specs.declared.action.Action.TheVariants as wire
use Rattle.branch_graph.specs.Graph.{reaches}
use Rattle.branch_history.specs.declared.moves.Move.{Move}
use Rattle.branch_names.specs.declared.layout.Layout.{Layout}
use Rattle.branch_names.specs.declared.layout.Layout.TheVariants.{Whole, Changes}
use Rattle.branch_names.specs.Heads.{head_of, branch_named, IsKeptBranch}
use Rattle.branch_history.specs.Commits.{graph_of, clock_of}
use Rattle.branch_history.specs.Merging.{brought}
use Rattle.branch_history.specs.History.{Store}
use Rattle.branch_history.specs.Validity.{AreCommits}
use Rattle.heads_journal.specs.Reading.{IsOpen}
use Rattle.branch_machine.specs.Fixed.{Form, FixedIn}
use Rattle.branch_machine.specs.Objects.{store_after, end_of, region}
use Rattle.branch_machine.specs.Validity.{IsFullMove}
use Rattle.heads_journal.specs.declared.record.Record.{Record}
use Rattle.heads_journal.specs.declared.record.Record.TheVariants.{Fork, Operation, Merge, Forward, Join, Received, Place, Drop}
use Rattle.heads_journal.specs.Format.{record_fields, Fits}
use Rattle.branch_objects_codec.specs.Grammar.{IsCommit}
use Rattle.branch_files.specs.Records.{record_of, IsKnownIn, gate_of}

-- where the objects end behind the move of a record
abbrev pub end_at : Record → ℕ
end_at (Fork number from name end) = end
end_at (Operation branch address end) = end
end_at (Merge branch from address end) = end
end_at (Forward branch to end) = end
end_at (Join branch joined end) = end
end_at (Received address end) = end
end_at (Place number commit name end) = end
end_at (Drop branch end) = end

-- the record is of a move that makes a commit
abbrev pub MakesCommit : Record → Type 0
MakesCommit (Fork number from name end) = ⊥
MakesCommit (Operation branch address end) = Unit {0}
MakesCommit (Merge branch from address end) = Unit {0}
MakesCommit (Forward branch to end) = ⊥
MakesCommit (Join branch joined end) = Unit {0}
MakesCommit (Received address end) = Unit {0}
MakesCommit (Place number commit name end) = ⊥
MakesCommit (Drop branch end) = ⊥

-- the head of the branch reaches the commit
abbrev pub IsReached : {O R : Type 0} → Store O R → ℕ → ℕ → Type 0
IsReached s r m = IsTrue (reaches (graph_of s.commits) (head_of s.branches r) m)

-- the commit reaches the head of the branch
abbrev pub Reaches : {O R : Type 0} → Store O R → ℕ → ℕ → Type 0
Reaches s r m = IsTrue (reaches (graph_of s.commits) m (head_of s.branches r))

-- the branch is there, and was not dropped
abbrev pub HasBranch : {O R : Type 0} → Store O R → ℕ → Type 0
HasBranch s r = IsKeptBranch s.branches r

abbrev pub HasCommit : {O R : Type 0} → Store O R → ℕ → Type 0
HasCommit s m = m < length s.commits

-- there is room for one more commit, whose objects end here
abbrev pub Adds : {S O R Q A : Type 0} {form : Form} → FixedIn form S O R Q A → List (Move O R) → ℕ → Type 0
Adds fixed moves end = (end_of fixed moves < end) × (length (store_after fixed moves).commits < fixed.terms.limits.commits)

-- a branch of this number may be forked, with this name
abbrev pub IsNewBranch : {S O R Q A : Type 0} {form : Form} → FixedIn form S O R Q A → Store O R → ℕ → List ℕ → Type 0
IsNewBranch fixed s number name = (number ≡ length s.branches) × (number < fixed.terms.limits.branches) × (branch_named s.branches name ≡ None)

-- the commits may be joined to the head of the branch: two to eight, which this reaches none of, and none twice or below another
abbrev pub AreJoined : {O R : Type 0} → Store O R → ℕ → List ℕ → Type 0
AreJoined s r ms = AreCommits s.commits ms × (2 ≤ length ms) × (length ms ≤ 8) × (brought (graph_of s.commits) (head_of s.branches r) ms ≡ ms)

-- what a record of each kind asks of the history before it
abbrev pub Suits : {S O R Q A : Type 0} {form : Form} → FixedIn form S O R Q A → List (Move O R) → Record → Type 0
Suits fixed moves (Fork number from name end) = let s = store_after fixed moves in IsNewBranch fixed s number name × HasBranch s from × (end ≡ end_of fixed moves)
Suits fixed moves (Operation r address end) =
    let s = store_after fixed moves in
    HasBranch s r × Adds fixed moves end × (clock_of s.commits (head_of s.branches r) < fixed.terms.limits.clock)
Suits fixed moves (Merge r m address end) = let s = store_after fixed moves in HasBranch s r × HasCommit s m × ¬ IsReached s r m × ¬ Reaches s r m × Adds fixed moves end
Suits fixed moves (Forward r m end) =
    let s = store_after fixed moves in
    HasBranch s r × HasCommit s m × ¬ IsReached s r m × Reaches s r m × (end ≡ end_of fixed moves)
Suits fixed moves (Join r ms end) = let s = store_after fixed moves in HasBranch s r × AreJoined s r ms × Adds fixed moves end
Suits fixed moves (Received address end) = end_of fixed moves < end
Suits fixed moves (Place number m name end) = let s = store_after fixed moves in IsNewBranch fixed s number name × HasCommit s m × (end ≡ end_of fixed moves)
Suits fixed moves (Drop r end) = HasBranch (store_after fixed moves) r × (r ≢ 0) × (end ≡ end_of fixed moves)

-- behind the history an open gate stands, and there are as many bytes as a record and the next gate need
pub record IsOpenAt {S O R Q A : Type 0} {form : Form} (fixed : FixedIn form S O R Q A) (moves : List (Move O R)) (heads : List ℕ) : Type 0 where
  pub gate : IsOpen (drop (gate_of fixed moves) heads)
  pub long : gate_of fixed moves + 65 ≤ length heads

-- behind the history the record is spelled, which is of a known kind, and it may come there
pub record IsNext {S O R Q A : Type 0} {form : Form} (fixed : FixedIn form S O R Q A) (moves : List (Move O R)) (heads : List ℕ) (r : Record) : Type 0 where
  pub there : IsOpenAt fixed moves heads
  pub spelled : take 63 (drop (gate_of fixed moves + 1) heads) ≡ record_fields r
  pub fits : Fits r
  pub known : IsKnownIn form.version r
  pub room : length moves < fixed.terms.limits.moves
  pub suits : Suits fixed moves r

-- the bytes from the end of the history's objects to where those of the record end
abbrev pub bytes_behind : {S O R Q A : Type 0} {form : Form} → FixedIn form S O R Q A → List (Move O R) → List ℕ → Record → List ℕ
bytes_behind fixed moves objects r = take (end_at r - end_of fixed moves) (drop (end_of fixed moves) objects)

-- what a commit does is what the record says, by spellings of the type
abbrev pub Does : {S O R Q A : Type 0} {form : Form} → FixedIn form S O R Q A → Record → Action → Type 0
Does fixed (Operation r address end) (wire.Operation op reply) = fixed.meaning.is_op_spelling op × fixed.meaning.is_reply_spelling reply
Does fixed (Merge r m address end) wire.Merge = Unit {0}
Does fixed (Join r ms end) wire.Merge = Unit {0}
Does fixed (Received address end) (wire.Operation op reply) = fixed.meaning.is_op_spelling op × fixed.meaning.is_reply_spelling reply
Does fixed (Received address end) wire.Merge = Unit {0}
Does fixed r action = ⊥

-- nothing, or, in the layout that keeps values, the object of a value of the type
abbrev pub IsValuePart : {S O R Q A : Type 0} {form : Form} → FixedIn form S O R Q A → List ℕ → Type 0
IsValuePart fixed bytes = (bytes ≡ []) ⊎ ((fixed.terms.layout ≡ Whole) × (v : List ℕ) × HasLength64 v × fixed.meaning.is_state_spelling v × (bytes ≡ value_object v))

-- a commit has the address of its value in the layout that keeps values, and none in the other
abbrev pub IsLaidOut : Layout → Option (List ℕ) → Type 0
IsLaidOut Whole value = IsSome value
IsLaidOut Changes value = value ≡ None

-- a commit has as many parents as it may have in files of a version: in version 1 two at the most
abbrev pub AreFewIn : ℕ → List (List ℕ) → Type 0
AreFewIn version parents = version ≡ 1 → length parents ≤ 2

-- the object of a commit of the layout that does what the record says, with as many parents as files of the form may have
abbrev pub IsCommitPart : {S O R Q A : Type 0} {form : Form} → FixedIn form S O R Q A → Record → List ℕ → Type 0
IsCommitPart {form = form} fixed r bytes = (c : CommitFields) × IsCommit c × Does fixed r c.action × AreFewIn form.version c.parents × IsLaidOut fixed.terms.layout c.value × (bytes ≡ commit_object c)

-- an object of a value, or none, and then the object of a commit with the address of its value; in the other layout the object of a commit without one alone
abbrev pub HasShape : {S O R Q A : Type 0} {form : Form} → FixedIn form S O R Q A → Record → List ℕ → Type 0
HasShape fixed r bytes = (first second : List ℕ) × IsValuePart fixed first × IsCommitPart fixed r second × (bytes ≡ first ++ second)

-- the machine makes a move that has this record, and this region
abbrev pub IsMade : {S O R Q A : Type 0} {form : Form} → FixedIn form S O R Q A → List (Move O R) → Record → List ℕ → Type 0
IsMade {S} {O} {R} fixed moves r bytes = (made : Move O R) × IsFullMove fixed moves made × (record_of fixed moves made ≡ r) × (region fixed moves made ≡ bytes)
