-- The machine over a store that keeps its objects: it receives no commit that is here, and refuses a move last of all for a collision of addresses.
use Rattle.std.specs.Prelude.{ℕ, List, [], ◌∷◌, ◌&&◌, Option, Some, None, option_and_then}
use Rattle.std.specs.Option.{option_map}
use Rattle.std.specs.List.{position_from}
use Rattle.mrdt_model.specs.Laws.{Meaning}
use Rattle.branch_wire.specs.StoredObjects.{same, collision}
use Rattle.branch_history.specs.declared.moves.Move.{Move}
use Rattle.branch_history.specs.Commits.{Commit, visible}
use Rattle.branch_history.specs.History.{operation_commit, merge_commit}
use Rattle.branch_history.specs.Steps.{Step, Look, Fork, Land, Merge, ReceiveOperation, ReceiveMerge, Place, Drop, Ask, Refusal, Collision, Here, Turn}
use Rattle.branch_history.specs.Machine.{answers, unless, turn}
use Rattle.branch_machine.specs.Fixed.{Form, FixedIn}
use Rattle.branch_machine.specs.Objects.{Pair, pair_at, pairs_of, store_after, objects_of, new_objects}

-- why the objects of a move cannot be stored: the first of them that has the address of a stored one, or of an earlier one of them, with other bytes
unfoldable pub collision_refusal : {S O R Q A : Type 0} {form : Form} → FixedIn form S O R Q A → List (Move O R) → Move O R → Option Refusal
collision_refusal fixed moves made = option_map (λ c. Collision (fixed.address c.1) c.0 c.1) (collision fixed.address (objects_of fixed moves) (new_objects fixed moves made))

-- the first commit that has these two objects
abbrev pub commit_with : List Pair → Pair → Option ℕ
commit_with pairs p = position_from (λ q. same q.value p.value && same q.commit p.commit) 0 pairs

-- the commit that a step receives, if it receives one
abbrev pub commit_received : {S O R Q A : Type 0} → Meaning S O R Q A → List (Commit O R) → Step O Q → Option (Commit O R)
commit_received meaning commits (Look name) = None
commit_received meaning commits (Fork name from) = None
commit_received meaning commits (Land r h op) = None
commit_received meaning commits (Merge r h ms) = None
commit_received meaning commits (ReceiveOperation origin h op) = Some (operation_commit commits origin h op (meaning.reply_of (visible commits h) op))
commit_received meaning commits (ReceiveMerge origin h ms) = Some (merge_commit commits origin (h ∷ ms))
commit_received meaning commits (Place name n) = None
commit_received meaning commits (Drop r h) = None
commit_received meaning commits (Ask n query) = None

-- the objects of a commit that would come next
abbrev pub pair_next : {S O R Q A : Type 0} {form : Form} → FixedIn form S O R Q A → List (Move O R) → Commit O R → Pair
pair_next fixed moves c = let commits = (store_after fixed moves).commits in pair_at fixed commits (pairs_of fixed commits) c

-- the commit that has these objects after a history
unfoldable pub commit_at : {S O R Q A : Type 0} {form : Form} → FixedIn form S O R Q A → List (Move O R) → Pair → Option ℕ
commit_at fixed moves p = commit_with (pairs_of fixed (store_after fixed moves).commits) p

-- the commit that is here of those that a step receives
abbrev pub commit_here : {S O R Q A : Type 0} {form : Form} → FixedIn form S O R Q A → List (Move O R) → Step O Q → Option ℕ
commit_here fixed moves step = option_and_then (λ c. commit_at fixed moves (pair_next fixed moves c)) (commit_received fixed.meaning (store_after fixed moves).commits step)

-- the turn, unless what it receives is here
abbrev pub unless_here : {O R A : Type 0} → Option ℕ → Turn O R A → Turn O R A
unless_here None t = t
unless_here (Some n) t = answers (Here n)

-- the turn, unless the move that it makes is refused
abbrev pub unless_made : {O R A : Type 0} → (Move O R → Option Refusal) → List (Move O R) → Turn O R A → Turn O R A
unless_made refusal [] t = t
unless_made refusal (made ∷ more) t = unless (refusal made) t

-- what a step does after a history
unfoldable pub full_turn : {S O R Q A : Type 0} {form : Form} → FixedIn form S O R Q A → List (Move O R) → Step O Q → Turn O R A
full_turn fixed moves step =
    let t = turn fixed.meaning fixed.terms moves step in
    unless_here (commit_here fixed moves step) (unless_made (collision_refusal fixed moves) t.made t)
