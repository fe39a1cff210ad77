-- What a store makes of a bundle.
use Rattle.std.specs.Prelude.{◌≡◌, ◌⊎◌, ℕ, List, [], ◌∷◌, ◌++◌, Option, Some, None, length}
use Rattle.std.specs.List.{AllByRecursion, flat_map, position_from}
use Rattle.branch_wire.specs.StoredObjects.{same}
use Rattle.branch_history.specs.declared.moves.Move.{Move}
use Rattle.branch_history.specs.declared.moves.Move.TheVariants as move
use Rattle.branch_names.specs.Heads.{branch_named}
use Rattle.branch_history.specs.Steps.{Refusal, NameTaken, New, Here, Forked, Refused, Place, Turn}
use Rattle.branch_machine.specs.Fixed.{Fixed}
use Rattle.branch_machine.specs.Objects.{Pair, pairs_of, store_after}
use Rattle.branch_machine.specs.Machine.{full_turn}
use Rattle.branch_machine.specs.Validity.{Receives}
use Rattle.branch_bundle_laws.specs.Bundles.{Bundle}
use Rattle.branch_bundle_laws.specs.Text.{bundle_text, IsBundle}

-- an item is taken where its commit is here, or new
abbrev pub IsTaken : {O R A : Type 0} → Turn O R A → Type 0
IsTaken t = (n : ℕ) × ((t.outcome ≡ Here n) ⊎ (t.outcome ≡ New n))

-- a move that receives a commit
abbrev pub IsReceiving : {O R : Type 0} → Move O R → Type 0
IsReceiving {O} {R} m = (parents : List ℕ) × (origin clock : ℕ) × (act : Option (O × R)) × (m ≡ move.Received parents origin clock act)

-- the moves that turns make, in order
abbrev pub made_by : {O R A : Type 0} → List (Turn O R A) → List (Move O R)
made_by turns = flat_map (λ t. t.made) turns

-- The items in order, each received behind what those before it made. An item that is not taken is the last.
abbrev pub ReceivesAll : {S O R Q A : Type 0} → Fixed S O R Q A → List (Move O R) → List Pair → List (Turn O R A) → Type 0
ReceivesAll fixed moves [] turns = turns ≡ []
ReceivesAll fixed moves (item ∷ items) [] = ⊥
ReceivesAll fixed moves (item ∷ items) (t ∷ ts) = Receives fixed moves item t × ((IsTaken t × ReceivesAll fixed (moves ++ t.made) items ts) ⊎ (¬ IsTaken t × (ts ≡ [])))

-- the first commit with an address
abbrev pub addressed : {S O R Q A : Type 0} → Fixed S O R Q A → List (Move O R) → List ℕ → Option ℕ
addressed fixed moves a = position_from (λ p. same (fixed.address p.commit) a) 0 (pairs_of fixed (store_after fixed moves).commits)

-- A bundle is received under a name: all its items are taken, its tip is there then, and a branch of the name is placed at it.
pub record ReceivesBundle {S O R Q A : Type 0} (fixed : Fixed S O R Q A) (moves : List (Move O R)) (bundle : Bundle) (name : List ℕ) (turns : List (Turn O R A)) (placed : Turn O R A) : Type 0 where
  pub received : ReceivesAll fixed moves bundle.items turns
  pub taken : AllByRecursion IsTaken turns
  pub tip : ℕ
  pub there : addressed fixed (moves ++ made_by turns) bundle.tip ≡ Some tip
  pub turn : placed ≡ full_turn fixed (moves ++ made_by turns) (Place name tip)

-- what the receiving of a bundle answers
pub data Receipt : Type 0 where
  -- the bytes are no bundle, or its tip names no commit
  NoBundle : Receipt
  -- the number of an item, from 1, and why it is refused
  Stopped : ℕ → Refusal → Receipt
  -- why no branch is placed
  NotPlaced : Refusal → Receipt
  -- how many commits were new, the branch's number, and its head
  Placed : ℕ → ℕ → ℕ → Receipt

-- the last turn refuses so
abbrev pub EndsRefused : {O R A : Type 0} → List (Turn O R A) → Refusal → Type 0
EndsRefused [] r = ⊥
EndsRefused (t ∷ []) r = t.outcome ≡ Refused r
EndsRefused (t ∷ u ∷ ts) r = EndsRefused (u ∷ ts) r

-- the turn that places a branch at a commit
abbrev pub placing : {S O R Q A : Type 0} → Fixed S O R Q A → List (Move O R) → List ℕ → ℕ → Turn O R A
placing fixed after name n = full_turn fixed after (Place name n)

-- the first commit with the address of the tip is given to the test
abbrev pub HasTip : {S O R Q A : Type 0} → Fixed S O R Q A → List (Move O R) → List ℕ → (ℕ → Type 0) → Type 0
HasTip fixed after tip P = (k : ℕ) × (addressed fixed after tip ≡ Some k) × P k

-- What is answered behind the items, and which moves come then: the tip is no commit; an item was refused; the branch is refused; or it is placed.
abbrev pub EndsAs : {S O R Q A : Type 0} → Fixed S O R Q A → List (Move O R) → List ℕ → List ℕ → List (Turn O R A) → Receipt → List (Move O R) → Type 0
EndsAs fixed after tip name turns NoBundle made = AllByRecursion IsTaken turns × (addressed fixed after tip ≡ None) × (made ≡ [])
EndsAs fixed after tip name turns (Stopped i r) made = EndsRefused turns r × (i ≡ length turns) × (made ≡ [])
EndsAs fixed after tip name turns (NotPlaced r) made = AllByRecursion IsTaken turns × HasTip fixed after tip (λ k. (placing fixed after name k).outcome ≡ Refused r) × (made ≡ [])
EndsAs fixed after tip name turns (Placed count number head) made =
    AllByRecursion IsTaken turns × (addressed fixed after tip ≡ Some head) × ((placing fixed after name head).outcome ≡ Forked number head)
    × (count ≡ length (made_by turns)) × (made ≡ (placing fixed after name head).made)

-- the receiving of a bundle's items, in order, and what comes behind them
abbrev pub ReceivesItems : {S O R Q A : Type 0} → Fixed S O R Q A → List (Move O R) → Bundle → List ℕ → Receipt → List (Move O R) → Type 0
ReceivesItems {S} {O} {R} {Q} {A} fixed moves b name receipt made =
    (turns : List (Turn O R A)) × (last : List (Move O R)) × ReceivesAll fixed moves b.items turns
    × EndsAs fixed (moves ++ made_by turns) b.tip name turns receipt last × (made ≡ made_by turns ++ last)

-- the receiving of bytes under a free name: they are no bundle of the store's layout, or they are one, and its items are received
abbrev pub ReceivesFree : {S O R Q A : Type 0} → Fixed S O R Q A → List (Move O R) → List ℕ → List ℕ → Receipt → List (Move O R) → Type 0
ReceivesFree fixed moves bytes name receipt made =
    (((b : Bundle) → IsBundle fixed.terms.layout b → ¬ (bytes ≡ bundle_text fixed.terms.layout b)) × (receipt ≡ NoBundle) × (made ≡ []))
    ⊎ ((b : Bundle) × IsBundle fixed.terms.layout b × (bytes ≡ bundle_text fixed.terms.layout b) × ReceivesItems fixed moves b name receipt made)

-- the receiving of bytes under a name: where it is taken, nothing is looked at
abbrev pub ReceivesBytes : {S O R Q A : Type 0} → Fixed S O R Q A → List (Move O R) → List ℕ → List ℕ → Receipt → List (Move O R) → Type 0
ReceivesBytes fixed moves bytes name receipt made =
    ((number : ℕ) × (branch_named (store_after fixed moves).branches name ≡ Some number) × (receipt ≡ NotPlaced (NameTaken number)) × (made ≡ []))
    ⊎ ((branch_named (store_after fixed moves).branches name ≡ None) × ReceivesFree fixed moves bytes name receipt made)
