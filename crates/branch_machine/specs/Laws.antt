-- What holds of every valid history of a store that keeps its objects.
use Rattle.std.specs.Prelude.{◌≡◌, ℕ, ◌<◌, ◌≤◌, ◌^◌, List, [], ◌∷◌, ◌++◌, length, Some, None}
use Rattle.mrdt_model.specs.Laws.{Meaning}
use Rattle.branch_wire.specs.Reading.{HasLength64}
use Rattle.branch_wire.specs.StoredObjects.{fresh}
use Rattle.branch_history.specs.declared.moves.Move.{Move}
use Rattle.branch_history.specs.declared.moves.Move.TheVariants as move
use Rattle.branch_names.specs.declared.terms.Terms.{Terms}
use Rattle.branch_history.specs.Commits.{Commit}
use Rattle.branch_history.specs.History.{received_commit}
use Rattle.branch_history.specs.Steps.{Step, Turn}
use Rattle.branch_history.specs.Validity.{IsMove, IsValid}
use Rattle.branch_machine.specs.Fixed.{Form, FixedIn, fix}
use Rattle.branch_machine.specs.Objects.{Pair, both, commit_text, value_text, store_after, pair_at, pairs_of, objects_of, new_objects, objects_text}
use Rattle.branch_machine.specs.Machine.{collision_refusal, pair_next, commit_at, full_turn}
use Rattle.branch_machine.specs.Validity.{IsFullMove, IsFullyValid, IsItem, Receives}

-- an address has 32 bytes
abbrev pub HasSize : (List ℕ → List ℕ) → Type 0
HasSize address = (bytes : List ℕ) → length (address bytes) ≡ 32

-- the machine that keeps objects makes no other moves than the one that keeps none
abbrev pub MakesFewerMoves : {S O R Q A : Type 0} → Meaning S O R Q A → Type 0
MakesFewerMoves {S} {O} {R} m =
    (terms : Terms) (address : List ℕ → List ℕ) (moves : List (Move O R)) → IsFullyValid (fix m terms address) moves → IsValid m terms moves

-- what a move receives is not here: no commit has its two objects
abbrev pub IsNew : {S O R Q A : Type 0} {form : Form} → FixedIn form S O R Q A → List (Move O R) → Move O R → Type 0
IsNew fixed moves (move.Fork name number from) = Unit {0}
IsNew fixed moves (move.Operation r op reply) = Unit {0}
IsNew fixed moves (move.Merge r m) = Unit {0}
IsNew fixed moves (move.Join r ms) = Unit {0}
IsNew fixed moves (move.Forward r m) = Unit {0}
IsNew fixed moves (move.Received parents origin clock act) = commit_at fixed moves (pair_next fixed moves (received_commit (store_after fixed moves).commits parents origin clock act)) ≡ None
IsNew fixed moves (move.Place name number n) = Unit {0}
IsNew fixed moves (move.Drop r) = Unit {0}

-- those that receive nothing that is here, without a collision
abbrev pub MakesWithoutCollision : {S O R Q A : Type 0} → Meaning S O R Q A → Type 0
MakesWithoutCollision {S} {O} {R} m =
    (terms : Terms) (address : List ℕ → List ℕ) (moves : List (Move O R)) (made : Move O R)
    → let fixed = fix m terms address in
    (IsFullMove fixed moves made → IsMove m terms moves made × IsNew fixed moves made × (collision_refusal fixed moves made ≡ None))
    × (IsMove m terms moves made → IsNew fixed moves made → collision_refusal fixed moves made ≡ None → IsFullMove fixed moves made)

abbrev pub HasFullyValidPrefixes : {S O R Q A : Type 0} → Meaning S O R Q A → Type 0
HasFullyValidPrefixes {S} {O} {R} m =
    (terms : Terms) (address : List ℕ → List ℕ) (first second : List (Move O R)) → IsFullyValid (fix m terms address) (first ++ second) → IsFullyValid (fix m terms address) first

-- no moves are valid, and a valid history with one more move of the machine is one
abbrev pub GrowsByFullMoves : {S O R Q A : Type 0} → Meaning S O R Q A → Type 0
GrowsByFullMoves {S} {O} {R} m =
    (terms : Terms) (address : List ℕ → List ℕ) → IsFullyValid (fix m terms address) []
    × ((moves : List (Move O R)) (made : Move O R) → IsFullyValid (fix m terms address) moves → IsFullMove (fix m terms address) moves made → IsFullyValid (fix m terms address) (moves ++ made ∷ []))

-- a move appends its region to the objects
abbrev pub AppendsRegions : {S O R Q A : Type 0} → Meaning S O R Q A → Type 0
AppendsRegions {S} {O} {R} m =
    (terms : Terms) (address : List ℕ → List ℕ) (moves : List (Move O R)) (made : Move O R)
    → let fixed = fix m terms address in
    objects_of fixed (moves ++ made ∷ []) ≡ objects_of fixed moves ++ fresh (objects_of fixed moves) (new_objects fixed moves made)

-- no two commits have equal objects
abbrev pub HasDistinctCommits : {S O R Q A : Type 0} → Meaning S O R Q A → Type 0
HasDistinctCommits {S} {O} {R} m =
    (terms : Terms) (address : List ℕ → List ℕ) → HasSize address → (moves : List (Move O R)) → IsFullyValid (fix m terms address) moves
    → let fixed = fix m terms address in
    let commits = (store_after fixed moves).commits in
    (j k : ℕ) → j < length commits → k < length commits → commit_text (pairs_of fixed commits) j ≡ commit_text (pairs_of fixed commits) k → j ≡ k

-- the objects of a move that makes a commit are that of the commit's value, where the layout keeps it, and that of the commit; other moves have none
abbrev pub StoresBoth : {S O R Q A : Type 0} → Meaning S O R Q A → Type 0
StoresBoth {S} {O} {R} m =
    (terms : Terms) (address : List ℕ → List ℕ) (moves : List (Move O R)) (made : Move O R)
    → let fixed = fix m terms address in
    let old = (store_after fixed moves).commits in
    let new = (store_after fixed (moves ++ made ∷ [])).commits in
    ((c : Commit O R) → new ≡ old ++ c ∷ []
    → let p = pair_at fixed old (pairs_of fixed old) c in
    (new_objects fixed moves made ≡ both p) × (pairs_of fixed new ≡ pairs_of fixed old ++ p ∷ []))
    × (new ≡ old → new_objects fixed moves made ≡ [])

-- the objects of a store whose first value is not too long are never too long for a file
abbrev pub StaysShort : {S O R Q A : Type 0} → Meaning S O R Q A → Type 0
StaysShort {S} {O} {R} m =
    (terms : Terms) (address : List ℕ → List ℕ) → HasSize address → length (m.spelling_of []) ≤ 2 ^ 32 → (moves : List (Move O R)) → IsFullyValid (fix m terms address) moves
    → length (objects_text (fix m terms address) moves) < 2 ^ 63

-- a commit that has the two objects of an item is named, and an item that is received stands behind the objects of the commits
abbrev pub KeepsItems : {S O R Q A : Type 0} → Meaning S O R Q A → Type 0
KeepsItems {S} {O} {R} {Q} {A} m =
    (terms : Terms) (address : List ℕ → List ℕ) (moves : List (Move O R)) (item : Pair)
    → let fixed = fix m terms address in
    let pairs = pairs_of fixed (store_after fixed moves).commits in
    ((n : ℕ) → commit_at fixed moves item ≡ Some n → (n < length pairs) × (value_text pairs n ≡ item.value) × (commit_text pairs n ≡ item.commit))
    × ((step : Step O Q) (made : Move O R) → IsItem fixed moves step item → (full_turn fixed moves step).made ≡ made ∷ [] → pairs_of fixed (store_after fixed (moves ++ made ∷ [])).commits ≡ pairs ++ item ∷ [])

-- no item is without an answer
abbrev pub AnswersItems : {S O R Q A : Type 0} → Meaning S O R Q A → Type 0
AnswersItems {S} {O} {R} {Q} {A} m =
    (terms : Terms) (address : List ℕ → List ℕ) (moves : List (Move O R)) (item : Pair)
    → ((t : Turn O R A) → ¬ Receives (fix m terms address) moves item t) → ⊥

-- an item that is not too long is answered in one way
abbrev pub AnswersItemsOnce : {S O R Q A : Type 0} → Meaning S O R Q A → Type 0
AnswersItemsOnce {S} {O} {R} {Q} {A} m =
    (terms : Terms) (address : List ℕ → List ℕ) → HasSize address → (moves : List (Move O R)) → IsFullyValid (fix m terms address) moves
    → (item : Pair) → HasLength64 item.commit → (t u : Turn O R A) → Receives (fix m terms address) moves item t → Receives (fix m terms address) moves item u → t ≡ u
