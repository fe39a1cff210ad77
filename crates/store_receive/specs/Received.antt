-- What receiving a bundle answers, and what it leaves of a store and its disk.
use Rattle.std.specs.Prelude.{◌≡◌, ◌⊎◌, ℕ, ◌+◌, List, ◌++◌, length, map, slice_get, Some, None, true}
use Rattle.std.specs.List.{AllByRecursion}
use Rattle.branch_disk.specs.Disk.{Files}
use Rattle.branch_history.specs.declared.moves.Move.{Move}
use Rattle.branch_history.specs.Steps.{Refusal, Refused, Forked, Turn}
use Rattle.branch_history.specs.Steps as machine
use Rattle.branch_machine.specs.Fixed.{Fixed}
use Rattle.branch_machine.specs.Objects.{Pair}
use Rattle.branch_machine.specs.Validity.{IsFullyValid}
use Rattle.branch_files.specs.Stands.{Stands}
use Rattle.branch_bundle_laws.specs.Bundles.{Bundle}
use Rattle.branch_bundle_laws.specs.Text.{bundle_text, IsBundle}
use Rattle.branch_bundle_laws.specs.Receiving.{IsTaken, made_by, ReceivesAll, ReceivesBundle, ReceivesItems, ReceivesFree, Receipt, EndsRefused, addressed, placing}
use Rattle.branch_bundle_laws.specs.Receiving as receipt
use Rattle.branch_bundle.specs.declared.bundle.Item.{Item}
use Rattle.branch_bundle.specs.Held.{pair_of}
use Rattle.store_core.specs.declared.answers.ReceiveRefused.{ReceiveRefused}
use Rattle.store_core.specs.declared.answers.ReceiveRefused.TheVariants as refusal
use Rattle.store_core.specs.declared.answers.PlaceRefused.{PlaceRefused}
use Rattle.store_core.specs.declared.answers.PlaceRefused.TheVariants as place_refusal
use Rattle.store_core.specs.Views.{StoreView}
use Rattle.store_receive.specs.declared.answers.Placed.{Placed}
use Rattle.store_receive.specs.declared.answers.NotReceived.{NotReceived}
use Rattle.store_receive.specs.declared.answers.NotReceived.TheVariants as unreceived

-- the machine refuses the item of this number so
abbrev pub TellsItem : NotReceived → ℕ → Refusal → Type 0
TellsItem (unreceived.BadBundle item) n r = (item ≡ n) × (r ≡ machine.BadBundle)
TellsItem (unreceived.OwnOrigin item) n r = (item ≡ n) × (r ≡ machine.OwnOrigin)
TellsItem (unreceived.TimeClash item number) n r = (item ≡ n) × (r ≡ machine.TimeClash number)
TellsItem (unreceived.Exhausted clock) n r = r ≡ machine.Exhausted clock
TellsItem (unreceived.ValueTooLarge length) n r = r ≡ machine.ValueTooLarge length
TellsItem (unreceived.FullCommits count) n r = r ≡ machine.FullCommits count
TellsItem (unreceived.FullMoves count) n r = r ≡ machine.FullMoves count
TellsItem (unreceived.Collision address stored fresh) n r = r ≡ machine.Collision address stored fresh
TellsItem e n r = ⊥

-- the machine refuses the branch so
abbrev pub TellsBranch : NotReceived → Refusal → Type 0
TellsBranch (unreceived.NameTaken number) r = r ≡ machine.NameTaken number
TellsBranch (unreceived.FullBranches count) r = r ≡ machine.FullBranches count
TellsBranch (unreceived.FullMoves count) r = r ≡ machine.FullMoves count
TellsBranch e r = ⊥

-- what a bundle is answered that was not received
abbrev pub TellsReceipt : NotReceived → Receipt → Type 0
TellsReceipt e receipt.NoBundle = e ≡ unreceived.NoBundle
TellsReceipt e (receipt.Stopped n r) = TellsItem e n r
TellsReceipt e (receipt.NotPlaced r) = TellsBranch e r
TellsReceipt e (receipt.Placed count number head) = ⊥

-- the store made these moves, and they are on its disk
abbrev pub HasMade : {D O R : Type 0} → List (Move O R) → StoreView (Move O R) D
    → StoreView (Move O R) D → Type 0
HasMade made old new = new ≡ record old { history = old.history ++ made; disk = new.disk }

-- the disk failed under the store, behind these moves
abbrev pub HasFailed : {D O R : Type 0} → List (Move O R) → StoreView (Move O R) D
    → StoreView (Move O R) D → Type 0
HasFailed made old new =
    new ≡ record old { history = old.history ++ made; failed = true; disk = new.disk }

-- items were taken, one after the other, by these moves
pub record AreTaken {S O R Q A : Type 0} (fixed : Fixed S O R Q A) (moves : List (Move O R))
    (items : List Pair) (made : List (Move O R)) : Type 0 where
  pub turns : List (Turn O R A)
  pub received : ReceivesAll fixed moves items turns
  pub taken : AllByRecursion IsTaken turns
  pub made_is : made ≡ made_by turns

-- some first ones of the items were
pub record AreSomeTaken {S O R Q A : Type 0} (fixed : Fixed S O R Q A) (moves : List (Move O R))
    (items : List Pair) (made : List (Move O R)) : Type 0 where
  pub first : List Pair
  pub rest : List Pair
  pub parts : items ≡ first ++ rest
  pub taken : AreTaken fixed moves first made

-- the items of a bundle were, and the branch was placed at its tip
pub record IsAllTaken {S O R Q A : Type 0} (fixed : Fixed S O R Q A) (moves : List (Move O R))
    (bundle : Bundle) (name : List ℕ) (made : List (Move O R)) : Type 0 where
  pub turns : List (Turn O R A)
  pub placed : Turn O R A
  pub received : ReceivesBundle fixed moves bundle name turns placed
  pub made_is : made ≡ made_by turns ++ placed.made

-- the moves of a first part of the items of a bundle, or of all and of the branch
abbrev pub AreFirstMoves : {S O R Q A : Type 0} → Fixed S O R Q A → List (Move O R) → Bundle
    → List ℕ → List (Move O R) → Type 0
AreFirstMoves fixed moves bundle name made = AreSomeTaken fixed moves bundle.items made
    ⊎ IsAllTaken fixed moves bundle name made

-- files stand for a history and such moves behind it, which are valid there
pub record StandsOnTheWay {S O R Q A : Type 0} (fixed : Fixed S O R Q A) (moves : List (Move O R))
    (bundle : Bundle) (name : List ℕ) (c : Files) : Type 0 where
  pub made : List (Move O R)
  pub first : AreFirstMoves fixed moves bundle name made
  pub valid : IsFullyValid fixed (moves ++ made)
  pub stands : Stands fixed (moves ++ made) c

-- nothing was made, since the disk failed or memory was short
abbrev pub MakesNothing : {M D : Type 0} → StoreView M D → StoreView M D → NotReceived → Type 0
MakesNothing old new e = ((e ≡ unreceived.Memory) × (new ≡ old))
    ⊎ ((e ≡ unreceived.DiskFault) × (new ≡ record old { failed = true; disk = new.disk }))

-- Receiving was interrupted behind some first ones of the items, since the disk failed or memory was
-- short.
pub record IsInterrupted {D S O R Q A : Type 0} (fixed : Fixed S O R Q A) (items : List Pair)
    (old new : StoreView (Move O R) D) (e : NotReceived) : Type 0 where
  pub made : List (Move O R)
  pub first : AreSomeTaken fixed old.history items made
  pub why : ((e ≡ unreceived.Memory) × HasMade made old new) ⊎ ((e ≡ unreceived.DiskFault) × HasFailed made old new)

-- a bundle was received or refused, as the receipt says, by these moves
pub record IsReceived {D S O R Q A : Type 0} (fixed : Fixed S O R Q A) (bundle : Bundle)
    (name : List ℕ) (old new : StoreView (Move O R) D) (receipt : Receipt) : Type 0 where
  pub made : List (Move O R)
  pub received : ReceivesItems fixed old.history bundle name receipt made
  pub now : HasMade made old new

-- why a bundle was not received
abbrev pub IsNotReceived : {D S O R Q A : Type 0} → Fixed S O R Q A → Bundle → List ℕ
    → StoreView (Move O R) D → StoreView (Move O R) D → NotReceived → Type 0
IsNotReceived fixed bundle name old new e =
    ((receipt : Receipt) × TellsReceipt e receipt × IsReceived fixed bundle name old new receipt)
    ⊎ IsInterrupted fixed bundle.items old new e

-- bytes were received under a free name, or refused, as the receipt says, by these moves
pub record AreReceived {D S O R Q A : Type 0} (fixed : Fixed S O R Q A) (bytes name : List ℕ)
    (old new : StoreView (Move O R) D) (receipt : Receipt) : Type 0 where
  pub made : List (Move O R)
  pub received : ReceivesFree fixed old.history bytes name receipt made
  pub now : HasMade made old new

-- receiving bytes was interrupted: behind no item, or behind some first ones of their bundle
abbrev pub AreInterrupted : {D S O R Q A : Type 0} → Fixed S O R Q A → List ℕ
    → StoreView (Move O R) D → StoreView (Move O R) D → NotReceived → Type 0
AreInterrupted fixed bytes old new e = MakesNothing old new e
    ⊎ ((b : Bundle) × IsBundle fixed.terms.layout b × (bytes ≡ bundle_text fixed.terms.layout b)
    × IsInterrupted fixed b.items old new e)

-- why bytes were not received
abbrev pub AreNotReceived : {D S O R Q A : Type 0} → Fixed S O R Q A → List ℕ → List ℕ
    → StoreView (Move O R) D → StoreView (Move O R) D → NotReceived → Type 0
AreNotReceived fixed bytes name old new e =
    ((receipt : Receipt) × TellsReceipt e receipt × AreReceived fixed bytes name old new receipt)
    ⊎ AreInterrupted fixed bytes old new e

-- files stand for a history, or are on the way of the bundle with these bytes
abbrev pub StandsOnTheirWay : {S O R Q A : Type 0} → Fixed S O R Q A → List (Move O R) → List ℕ
    → List ℕ → Files → Type 0
StandsOnTheirWay fixed moves bytes name c = Stands fixed moves c
    ⊎ ((b : Bundle) × IsBundle fixed.terms.layout b × (bytes ≡ bundle_text fixed.terms.layout b)
    × StandsOnTheWay fixed moves b name c)

-- all items were taken, of which so many were new
pub record TakesAll {D S O R Q A : Type 0} (fixed : Fixed S O R Q A) (items : List Pair)
    (old new : StoreView (Move O R) D) (count : ℕ) : Type 0 where
  pub made : List (Move O R)
  pub taken : AreTaken fixed old.history items made
  pub counted : count ≡ length made
  pub now : HasMade made old new

-- the machine refuses one of them, of which this is told, and those before it were taken
pub record StopsAt {D S O R Q A : Type 0} (fixed : Fixed S O R Q A) (items : List Pair)
    (old new : StoreView (Move O R) D) (e : NotReceived) : Type 0 where
  pub turns : List (Turn O R A)
  pub received : ReceivesAll fixed old.history items turns
  pub refusal : Refusal
  pub ends : EndsRefused turns refusal
  pub tells : TellsItem e (length turns) refusal
  pub now : HasMade (made_by turns) old new

-- the same of items with any numbers: this is told of it by its own number
pub record StopsIn {D S O R Q A : Type 0} (fixed : Fixed S O R Q A) (items : List Item)
    (old new : StoreView (Move O R) D) (e : NotReceived) : Type 0 where
  pub turns : List (Turn O R A)
  pub received : ReceivesAll fixed old.history (map pair_of items) turns
  pub refusal : Refusal
  pub ends : EndsRefused turns refusal
  pub before : ℕ
  pub counted : length turns ≡ before + 1
  pub item : Item
  pub last : slice_get items before ≡ Some item
  pub tells : TellsItem e item.number refusal
  pub now : HasMade (made_by turns) old new

-- files stand for a history after some first ones of the items, which are valid there
pub record StandsAfterSome {S O R Q A : Type 0} (fixed : Fixed S O R Q A) (moves : List (Move O R))
    (items : List Pair) (c : Files) : Type 0 where
  pub made : List (Move O R)
  pub first : AreSomeTaken fixed moves items made
  pub valid : IsFullyValid fixed (moves ++ made)
  pub stands : Stands fixed (moves ++ made) c

-- a branch of a name was placed at a commit
pub record IsPlaced {D S O R Q A : Type 0} (fixed : Fixed S O R Q A) (name : List ℕ) (n : ℕ)
    (old new : StoreView (Move O R) D) (placed : Placed) : Type 0 where
  pub head : placed.head ≡ n
  pub outcome : (placing fixed old.history name n).outcome ≡ Forked placed.branch n
  pub now : HasMade (placing fixed old.history name n).made old new

-- the machine refuses the branch so, and nothing changes
pub record RefusesBranch {D S O R Q A : Type 0} (fixed : Fixed S O R Q A) (name : List ℕ) (n : ℕ)
    (old new : StoreView (Move O R) D) (r : Refusal) : Type 0 where
  pub refused : (placing fixed old.history name n).outcome ≡ Refused r
  pub same : new ≡ old

-- why it was not placed
abbrev pub IsNotPlaced : {D S O R Q A : Type 0} → Fixed S O R Q A → List ℕ → ℕ
    → StoreView (Move O R) D → StoreView (Move O R) D → NotReceived → Type 0
IsNotPlaced fixed name n old new e =
    ((r : Refusal) × TellsBranch e r × RefusesBranch fixed name n old new r)
    ⊎ MakesNothing old new e

-- files stand for a history, or for it with the branch, which is valid there
abbrev pub StandsAfterPlace : {S O R Q A : Type 0} → Fixed S O R Q A → List (Move O R) → List ℕ
    → ℕ → Files → Type 0
StandsAfterPlace fixed moves name n c = Stands fixed moves c
    ⊎ (IsFullyValid fixed (moves ++ (placing fixed moves name n).made)
    × Stands fixed (moves ++ (placing fixed moves name n).made) c)

-- the commit with an address is the one of which this is true
abbrev pub AtTip : {S O R Q A : Type 0} → Fixed S O R Q A → List (Move O R) → List ℕ → (ℕ → Type 0)
    → Type 0
AtTip fixed moves tip P = (n : ℕ) × (addressed fixed moves tip ≡ Some n) × P n

-- the branch was placed at it
abbrev pub PlacesAtTip : {D S O R Q A : Type 0} → Fixed S O R Q A → List ℕ → List ℕ
    → StoreView (Move O R) D → StoreView (Move O R) D → Placed → Type 0
PlacesAtTip fixed name tip old new placed =
    AtTip fixed old.history tip (λ n. IsPlaced fixed name n old new placed)

-- or it was not: there is none, or the branch is refused
abbrev pub NotPlacedAtTip : {D S O R Q A : Type 0} → Fixed S O R Q A → List ℕ → List ℕ
    → StoreView (Move O R) D → StoreView (Move O R) D → NotReceived → Type 0
NotPlacedAtTip fixed name tip old new e =
    ((e ≡ unreceived.NoBundle) × (addressed fixed old.history tip ≡ None) × (new ≡ old))
    ⊎ AtTip fixed old.history tip (λ n. IsNotPlaced fixed name n old new e)

abbrev pub StandsAtTip : {S O R Q A : Type 0} → Fixed S O R Q A → List (Move O R) → List ℕ
    → List ℕ → Files → Type 0
StandsAtTip fixed moves name tip c = Stands fixed moves c
    ⊎ AtTip fixed moves tip (λ n. StandsAfterPlace fixed moves name n c)

-- why a branch was not placed, of what the core answers; a core that had failed places none
abbrev pub place_stopped : PlaceRefused → NotReceived
place_stopped (place_refusal.NameTaken number) = unreceived.NameTaken number
place_stopped (place_refusal.FullBranches count) = unreceived.FullBranches count
place_stopped (place_refusal.FullMoves count) = unreceived.FullMoves count
place_stopped place_refusal.DiskFault = unreceived.DiskFault
place_stopped (place_refusal.Failed moves) = unreceived.DiskFault
place_stopped place_refusal.Memory = unreceived.Memory

-- why an item was not taken, of what the core answers; a core that had failed takes none
abbrev pub item_stopped : ReceiveRefused → NotReceived
item_stopped (refusal.Failed moves) = unreceived.DiskFault
item_stopped (refusal.BadBundle item) = unreceived.BadBundle item
item_stopped (refusal.OwnOrigin item) = unreceived.OwnOrigin item
item_stopped (refusal.TimeClash item number) = unreceived.TimeClash item number
item_stopped (refusal.Exhausted clock) = unreceived.Exhausted clock
item_stopped (refusal.ValueTooLarge length) = unreceived.ValueTooLarge length
item_stopped (refusal.FullCommits count) = unreceived.FullCommits count
item_stopped (refusal.FullMoves count) = unreceived.FullMoves count
item_stopped (refusal.Collision address stored fresh) = unreceived.Collision address stored fresh
item_stopped refusal.DiskFault = unreceived.DiskFault
item_stopped refusal.Memory = unreceived.Memory
