-- What holds of bundles.
use Rattle.std.specs.Prelude.{◌≡◌, ◌⊎◌, ℕ, ◌+◌, ◌<◌, ◌≤◌, Bool, false, List, [], ◌∷◌, ◌++◌, length, None, Some, IsTrue}
use Rattle.std.specs.List.{AllByRecursion, flat_map}
use Rattle.mrdt_model.specs.Executions.{HoldSameEvents}
use Rattle.mrdt_model.specs.Laws.{Meaning}
use Rattle.branch_wire.specs.Reading.{HasLength64, ReadsOneWay}
use Rattle.branch_names.specs.Names.{is_name}
use Rattle.branch_graph.specs.Graph.{parents_of, reaches}
use Rattle.branch_history.specs.declared.moves.Move.{Move}
use Rattle.branch_names.specs.declared.layout.Layout.{Layout}
use Rattle.branch_names.specs.declared.layout.Layout.TheVariants.{Whole, Changes}
use Rattle.branch_names.specs.declared.terms.Terms.{Terms}
use Rattle.branch_names.specs.Heads.{head_of, branch_named, with_branch}
use Rattle.branch_history.specs.Commits.{graph_of, clock_of, visible}
use Rattle.branch_history.specs.declared.moves.Move.TheVariants as move
use Rattle.branch_history.specs.Steps.{Refusal, OwnOrigin, TimeClash, Exhausted, ValueTooLarge, FullCommits, FullMoves, Collision, New, Forked, Refused, Place, Step, Turn}
use Rattle.branch_history.specs.Machine.{fork_refusal, makes}
use Rattle.branch_machine.specs.Fixed.{Fixed, fix}
use Rattle.branch_machine.specs.Objects.{Pair, commit_text, value_text, address_at, pairs_of, store_after}
use Rattle.branch_machine.specs.Machine.{commit_at, full_turn}
use Rattle.branch_machine.specs.Validity.{IsFullyValid, IsItem, Receives}
use Rattle.branch_machine.specs.Laws.{HasSize}
use Rattle.branch_bundle_laws.specs.Bundles.{Bundle, item_at, commits_here, is_sent, bundle_of}
use Rattle.branch_bundle_laws.specs.Text.{item_text, bundle_text, IsBundle}
use Rattle.branch_bundle_laws.specs.Shared.{AreShared, IsMatched}
use Rattle.branch_bundle_laws.specs.Receiving.{IsTaken, IsReceiving, made_by, ReceivesAll, addressed, ReceivesBundle, Receipt, Placed, ReceivesBytes}

-- a bundle's bytes are read in one way, and nothing else begins with them
abbrev pub ReadsBundles : Type 0
ReadsBundles = (layout : Layout) → ReadsOneWay (IsBundle layout) (bundle_text layout)

-- bytes that begin with a bundle of one layout begin with none of another
abbrev pub TellsLayouts : Type 0
TellsLayouts = (l m : Layout) (b c : Bundle) (x y : List ℕ) → bundle_text l b ++ x ≡ bundle_text m c ++ y → l ≡ m

-- a bundle has 52 bytes, and those of its items
abbrev pub HasBundleLength : Type 0
HasBundleLength = (layout : Layout) (b : Bundle) → length b.tip ≡ 32 → length (bundle_text layout b) ≡ 52 + length (flat_map item_text b.items)

-- one item whose objects have 161 and 132 bytes make a bundle of 345, and one of a commit's object of 100 alone makes one of 152
abbrev pub HasRowLength : Type 0
HasRowLength = (tip value commit : List ℕ) → length tip ≡ 32
    → (length value ≡ 161 → length commit ≡ 132 → length (bundle_text Whole (record { tip = tip; items = (record { value = value; commit = commit }) ∷ [] })) ≡ 345)
    × (length commit ≡ 100 → length (bundle_text Changes (record { tip = tip; items = (record { value = []; commit = commit }) ∷ [] })) ≡ 152)

-- what is sent of a valid history is a bundle, if it is not too long
abbrev pub SendsBundles : {S O R Q A : Type 0} → Meaning S O R Q A → Type 0
SendsBundles {S} {O} {R} m =
    (terms : Terms) (address : List ℕ → List ℕ) → HasSize address → (moves : List (Move O R)) → IsFullyValid (fix m terms address) moves → (tip : ℕ) (addresses : List (List ℕ))
    → let b = bundle_of (fix m terms address) moves tip addresses in
    HasLength64 (bundle_text terms.layout b) → IsBundle terms.layout b

-- items, one after another, have one list of answers at most
abbrev pub ReceivesAllInOneWay : {S O R Q A : Type 0} → Meaning S O R Q A → Type 0
ReceivesAllInOneWay {S} {O} {R} {Q} {A} m =
    (terms : Terms) (address : List ℕ → List ℕ) → HasSize address → (moves : List (Move O R)) → let fixed = fix m terms address in
    IsFullyValid fixed moves → (items : List Pair) → AllByRecursion (λ item. HasLength64 item.commit) items
    → (ts us : List (Turn O R A)) → ReceivesAll fixed moves items ts → ReceivesAll fixed moves items us → ts ≡ us

-- and so have bytes
abbrev pub ReceivesBytesInOneWay : {S O R Q A : Type 0} → Meaning S O R Q A → Type 0
ReceivesBytesInOneWay {S} {O} {R} m =
    (terms : Terms) (address : List ℕ → List ℕ) → HasSize address → (moves : List (Move O R)) → let fixed = fix m terms address in
    IsFullyValid fixed moves → (bytes name : List ℕ) → HasLength64 bytes
    → (p q : Receipt) (first second : List (Move O R)) → ReceivesBytes fixed moves bytes name p first → ReceivesBytes fixed moves bytes name q second → (p ≡ q) × (first ≡ second)

-- no bytes are without an answer
abbrev pub AnswersBytes : {S O R Q A : Type 0} → Meaning S O R Q A → Type 0
AnswersBytes {S} {O} {R} m =
    (terms : Terms) (address : List ℕ → List ℕ) (moves : List (Move O R)) → let fixed = fix m terms address in
    IsFullyValid fixed moves → (bytes name : List ℕ) → ¬ ((p : Receipt) (made : List (Move O R)) → ¬ ReceivesBytes fixed moves bytes name p made)

-- What the receiving of bytes makes: commits that are received, and then maybe a branch that is placed. All of it is valid.
pub record MakesReceived {S O R Q A : Type 0} (fixed : Fixed S O R Q A) (moves : List (Move O R)) (name : List ℕ) (made : List (Move O R)) : Type 0 where
  pub valid : IsFullyValid fixed (moves ++ made)
  pub received : List (Move O R)
  pub placed : List (Move O R)
  pub is : made ≡ received ++ placed
  pub each : AllByRecursion IsReceiving received
  pub last : (placed ≡ []) ⊎ ((number n : ℕ) × (placed ≡ move.Place name number n ∷ []))

abbrev pub ReceivesMoves : {S O R Q A : Type 0} → Meaning S O R Q A → Type 0
ReceivesMoves {S} {O} {R} m =
    (terms : Terms) (address : List ℕ → List ℕ) (moves : List (Move O R)) → let fixed = fix m terms address in
    IsFullyValid fixed moves → (bytes name : List ℕ) → IsTrue (is_name name) → (p : Receipt) (made : List (Move O R)) → ReceivesBytes fixed moves bytes name p made → MakesReceived fixed moves name made

-- a commit's clock is at most its number
abbrev pub HasLowClocks : {S O R Q A : Type 0} → Meaning S O R Q A → Type 0
HasLowClocks {S} {O} {R} m =
    (terms : Terms) (address : List ℕ → List ℕ) → HasSize address → (moves : List (Move O R)) → IsFullyValid (fix m terms address) moves
    → let commits = (store_after (fix m terms address) moves).commits in
    (n : ℕ) → n < length commits → clock_of commits n ≤ n

-- commits of two histories of one layout that see the same events, in whatever order, have values of the same bytes
abbrev pub HasSameValues : {S O R Q A : Type 0} → Meaning S O R Q A → Type 0
HasSameValues {S} {O} {R} m =
    (terms others : Terms) (address another : List ℕ → List ℕ) (moves more : List (Move O R)) → let one = fix m terms address in
    let other = fix m others another in
    terms.layout ≡ others.layout → IsFullyValid one moves → IsFullyValid other more
    → let cs = (store_after one moves).commits in
    let ds = (store_after other more).commits in
    (n k : ℕ) → n < length cs → k < length ds → HoldSameEvents (visible cs n) (visible ds k) → value_text (pairs_of one cs) n ≡ value_text (pairs_of other ds) k

-- what two valid histories share they have in the same way
abbrev pub MatchesShared : {S O R Q A : Type 0} → Meaning S O R Q A → Type 0
MatchesShared {S} {O} {R} m =
    (terms others : Terms) (address : List ℕ → List ℕ) → HasSize address → (moves more : List (Move O R)) → let one = fix m terms address in
    let other = fix m others address in
    IsFullyValid one moves → IsFullyValid other more
    → (shared : ℕ → Bool) (to : ℕ → ℕ) → AreShared one moves other more shared to → (n : ℕ) → IsTrue (shared n) → IsMatched (store_after one moves).commits (store_after other more).commits shared to n

-- of a commit whose parents two valid histories share, some step of the second one receives the item
abbrev pub ReceivesNext : {S O R Q A : Type 0} → Meaning S O R Q A → Type 0
ReceivesNext {S} {O} {R} {Q} {A} m =
    (terms others : Terms) (address : List ℕ → List ℕ) → HasSize address → (moves more : List (Move O R)) → let one = fix m terms address in
    let other = fix m others address in
    IsFullyValid one moves → IsFullyValid other more
    → (shared : ℕ → Bool) (to : ℕ → ℕ) → AreShared one moves other more shared to
    → let commits = (store_after one moves).commits in
    (n : ℕ) → 0 < n → n < length commits → AllByRecursion (λ p. IsTrue (shared p)) (parents_of (graph_of commits) n) → (step : Step O Q) × IsItem other more step (item_at (pairs_of one commits) n)

-- What the history has behind a new item: the one move receives a commit, which has the item's objects, and all older commits and the branches stay.
pub record HasItem {S O R Q A : Type 0} (fixed : Fixed S O R Q A) (moves : List (Move O R)) (item : Pair) (made : List (Move O R)) (n : ℕ) : Type 0 where
  pub number : n ≡ length (store_after fixed moves).commits
  pub one : (m : Move O R) × IsReceiving m × (made ≡ m ∷ [])
  pub pairs : pairs_of fixed (store_after fixed (moves ++ made)).commits ≡ pairs_of fixed (store_after fixed moves).commits ++ item ∷ []
  pub branches : (store_after fixed (moves ++ made)).branches ≡ (store_after fixed moves).branches
  pub valid : IsFullyValid fixed (moves ++ made)

-- behind an item that is not new there is nothing more
abbrev pub AddsItems : {S O R Q A : Type 0} → Meaning S O R Q A → Type 0
AddsItems {S} {O} {R} {Q} {A} m =
    (terms : Terms) (address : List ℕ → List ℕ) (moves : List (Move O R)) → let fixed = fix m terms address in
    IsFullyValid fixed moves → (item : Pair) (t : Turn O R A) → Receives fixed moves item t
    → ((n : ℕ) → t.outcome ≡ New n → HasItem fixed moves item t.made n) × (((n : ℕ) → ¬ (t.outcome ≡ New n)) → t.made ≡ [])

-- What the history has behind items: it is valid, old commits keep their objects, the branches stay, and where all items were taken each is that of a commit.
pub record HasItems {S O R Q A : Type 0} (fixed : Fixed S O R Q A) (moves : List (Move O R)) (items : List Pair) (turns : List (Turn O R A)) : Type 0 where
  pub valid : IsFullyValid fixed (moves ++ made_by turns)
  pub more : List Pair
  pub pairs : pairs_of fixed (store_after fixed (moves ++ made_by turns)).commits ≡ pairs_of fixed (store_after fixed moves).commits ++ more
  pub branches : (store_after fixed (moves ++ made_by turns)).branches ≡ (store_after fixed moves).branches
  pub here : AllByRecursion IsTaken turns → AllByRecursion (λ item. (n : ℕ) × (commit_at fixed (moves ++ made_by turns) item ≡ Some n)) items

abbrev pub AddsAllItems : {S O R Q A : Type 0} → Meaning S O R Q A → Type 0
AddsAllItems {S} {O} {R} {Q} {A} m =
    (terms : Terms) (address : List ℕ → List ℕ) (moves : List (Move O R)) → let fixed = fix m terms address in
    IsFullyValid fixed moves → (items : List Pair) (turns : List (Turn O R A)) → ReceivesAll fixed moves items turns → HasItems fixed moves items turns

-- Where a branch is placed at the tip of a bundle it stands there, behind the others, which stay, and has the name. No commit comes.
abbrev pub PlacesBranches : {S O R Q A : Type 0} → Meaning S O R Q A → Type 0
PlacesBranches {S} {O} {R} {Q} {A} m =
    (terms : Terms) (address : List ℕ → List ℕ) (moves : List (Move O R)) → let fixed = fix m terms address in
    (bundle : Bundle) (name : List ℕ) (turns : List (Turn O R A)) (placed : Turn O R A) (number head : ℕ)
    → ReceivesBundle fixed moves bundle name turns placed → placed.outcome ≡ Forked number head
    → let before = store_after fixed (moves ++ made_by turns) in
    let after = store_after fixed ((moves ++ made_by turns) ++ placed.made) in
    (head_of after.branches number ≡ head) × (branch_named after.branches name ≡ Some number) × (after.branches ≡ with_branch before.branches name head) × (after.commits ≡ before.commits)

-- what an item of a good bundle may be refused for: never that it is bad
abbrev pub MayMeet : Refusal → Type 0
MayMeet OwnOrigin = Unit {0}
MayMeet (TimeClash n) = Unit {0}
MayMeet (Exhausted clock) = Unit {0}
MayMeet (ValueTooLarge size) = Unit {0}
MayMeet (FullCommits count) = Unit {0}
MayMeet (FullMoves count) = Unit {0}
MayMeet (Collision address stored new) = Unit {0}
MayMeet refusal = ⊥

-- an item of a good bundle is taken, or refused for something else than that it is bad
abbrev pub IsAnswered : {O R A : Type 0} → Turn O R A → Type 0
IsAnswered t = IsTaken t ⊎ ((r : Refusal) × (t.outcome ≡ Refused r) × MayMeet r)

-- the other history has commits with the objects of those, but commit 0, that the tip reaches and that are not sent
abbrev pub HoldsLeftOut : {S O R Q A : Type 0} → Fixed S O R Q A → List (Move O R) → ℕ → List (List ℕ) → Fixed S O R Q A → List (Move O R) → Type 0
HoldsLeftOut one moves tip addresses other more =
    let commits = (store_after one moves).commits in
    let pairs = pairs_of one commits in
    let here = commits_here one.address pairs addresses in
    (n : ℕ) → IsTrue (reaches (graph_of commits) tip n) → 0 < n → is_sent (graph_of commits) tip here n ≡ false → (k : ℕ) × (commit_at other more (item_at pairs n) ≡ Some k)

-- the objects of the two histories are told apart by their addresses
pub record AreTold {S O R Q A : Type 0} (one : Fixed S O R Q A) (moves : List (Move O R)) (other : Fixed S O R Q A) (more : List (Move O R)) : Type 0 where
  pub commits : (n k : ℕ) → n < length (store_after one moves).commits → k < length (store_after other more).commits
      → let ps = pairs_of one (store_after one moves).commits in
      let qs = pairs_of other (store_after other more).commits in
      address_at one.address ps n ≡ address_at other.address qs k → commit_text ps n ≡ commit_text qs k
  pub values : (n k : ℕ) → n < length (store_after one moves).commits → k < length (store_after other more).commits
      → let ps = pairs_of one (store_after one moves).commits in
      let qs = pairs_of other (store_after other more).commits in
      one.address (value_text ps n) ≡ other.address (value_text qs k) → value_text ps n ≡ value_text qs k

-- each address is that of a commit
abbrev pub HasAddresses : {S O R Q A : Type 0} → Fixed S O R Q A → List (Move O R) → List (List ℕ) → Type 0
HasAddresses fixed moves addresses =
    let commits = (store_after fixed moves).commits in
    AllByRecursion (λ a. (k : ℕ) × (k < length commits) × (address_at fixed.address (pairs_of fixed commits) k ≡ a)) addresses

-- With no addresses nothing is left out. With addresses of commits that the other history has it holds what is left out, if the objects of the two are told apart by their addresses.
abbrev pub HoldsWhatItNames : {S O R Q A : Type 0} → Meaning S O R Q A → Type 0
HoldsWhatItNames {S} {O} {R} m =
    (terms others : Terms) (address : List ℕ → List ℕ) → HasSize address → (moves more : List (Move O R)) → let one = fix m terms address in
    let other = fix m others address in
    IsFullyValid one moves → IsFullyValid other more
    → (tip : ℕ)
    → HoldsLeftOut one moves tip [] other more
    × (AreTold one moves other more → (addresses : List (List ℕ)) → HasAddresses other more addresses → HoldsLeftOut one moves tip addresses other more)

-- a valid history sends a bundle of one of its commits to a valid history of the same layout that holds what is left out
pub record Sends {S O R Q A : Type 0} (one : Fixed S O R Q A) (moves : List (Move O R)) (tip : ℕ) (addresses : List (List ℕ)) (other : Fixed S O R Q A) (more : List (Move O R)) : Type 0 where
  pub layouts : one.terms.layout ≡ other.terms.layout
  pub valid : IsFullyValid one moves
  pub also : IsFullyValid other more
  pub there : tip < length (store_after one moves).commits
  pub holds : HoldsLeftOut one moves tip addresses other more

-- a commit of the other history has the objects of the tip
abbrev pub IsTip : {S O R Q A : Type 0} → Fixed S O R Q A → List (Move O R) → ℕ → Fixed S O R Q A → List (Move O R) → ℕ → Type 0
IsTip one moves tip other later k = item_at (pairs_of other (store_after other later).commits) k ≡ item_at (pairs_of one (store_after one moves).commits) tip

-- A bundle is accepted: each item is taken or refused for something else than that it is bad, and where all are taken the tip is there with its objects.
abbrev pub AcceptsBundles : {S O R Q A : Type 0} → Meaning S O R Q A → Type 0
AcceptsBundles {S} {O} {R} {Q} {A} m =
    (terms others : Terms) (address : List ℕ → List ℕ) → HasSize address → (moves more : List (Move O R)) (tip : ℕ) (addresses : List (List ℕ)) (turns : List (Turn O R A)) → let one = fix m terms address in
    let other = fix m others address in
    let b = bundle_of one moves tip addresses in
    let later = more ++ made_by turns in
    Sends one moves tip addresses other more → ReceivesAll other more b.items turns
    → AllByRecursion IsAnswered turns
    × (AllByRecursion IsTaken turns → (k : ℕ) × (addressed other later b.tip ≡ Some k) × IsTip one moves tip other later k)

-- no answer refuses an item for something else than that it is bad
abbrev pub MeetsNothing : {O R A : Type 0} → List (Turn O R A) → Type 0
MeetsNothing turns = AllByRecursion (λ t. (r : Refusal) → MayMeet r → ¬ (t.outcome ≡ Refused r)) turns

-- Where no item meets something else, the name is free and there is room for a branch, the bundle is received whole: the branch stands at a commit with the objects of the tip.
abbrev pub TakesBundles : {S O R Q A : Type 0} → Meaning S O R Q A → Type 0
TakesBundles {S} {O} {R} {Q} {A} m =
    (terms others : Terms) (address : List ℕ → List ℕ) → HasSize address → (moves more : List (Move O R)) (tip : ℕ) (addresses : List (List ℕ)) (turns : List (Turn O R A)) (name : List ℕ) → let one = fix m terms address in
    let other = fix m others address in
    let b = bundle_of one moves tip addresses in
    let later = more ++ made_by turns in
    Sends one moves tip addresses other more → ReceivesAll other more b.items turns → MeetsNothing turns
    → branch_named (store_after other more).branches name ≡ None → fork_refusal others later ≡ None
    → (placed : Turn O R A) × (k : ℕ) × ReceivesBundle other more b name turns placed × (placed.outcome ≡ Forked (length (store_after other more).branches) k) × IsTip one moves tip other later k

-- And so of its bytes: they are received, and answered by how many commits were new, the branch's number and its head.
abbrev pub TakesBytes : {S O R Q A : Type 0} → Meaning S O R Q A → Type 0
TakesBytes {S} {O} {R} {Q} {A} m =
    (terms others : Terms) (address : List ℕ → List ℕ) → HasSize address → (moves more : List (Move O R)) (tip : ℕ) (addresses : List (List ℕ)) (turns : List (Turn O R A)) (name : List ℕ) → let one = fix m terms address in
    let other = fix m others address in
    let b = bundle_of one moves tip addresses in
    let later = more ++ made_by turns in
    let number = length (store_after other more).branches in
    Sends one moves tip addresses other more → HasLength64 (bundle_text terms.layout b) → ReceivesAll other more b.items turns → MeetsNothing turns
    → branch_named (store_after other more).branches name ≡ None → fork_refusal others later ≡ None
    → (k : ℕ) × ReceivesBytes other more (bundle_text terms.layout b) name (Placed (length (made_by turns)) number k) (made_by turns ++ move.Place name number k ∷ []) × IsTip one moves tip other later k

-- where commits have the objects of all items, they are taken, and nothing is made
abbrev pub ReceivesHeld : {S O R Q A : Type 0} → Meaning S O R Q A → Type 0
ReceivesHeld {S} {O} {R} {Q} {A} m =
    (terms : Terms) (address : List ℕ → List ℕ) (moves : List (Move O R)) → let fixed = fix m terms address in
    (items : List Pair) → AllByRecursion (λ item. (n : ℕ) × (commit_at fixed moves item ≡ Some n)) items
    → (turns : List (Turn O R A)) → ReceivesAll fixed moves items turns → AllByRecursion IsTaken turns × (made_by turns ≡ [])

-- its items have answers
abbrev pub AnswersBundles : {S O R Q A : Type 0} → Meaning S O R Q A → Type 0
AnswersBundles {S} {O} {R} {Q} {A} m =
    (terms others : Terms) (address : List ℕ → List ℕ) → HasSize address → (moves more : List (Move O R)) (tip : ℕ) (addresses : List (List ℕ)) → let one = fix m terms address in
    let other = fix m others address in
    Sends one moves tip addresses other more → (turns : List (Turn O R A)) × ReceivesAll other more (bundle_of one moves tip addresses).items turns

-- a branch of a free name is placed, if there is room for it
abbrev pub PlacesFreeNames : {S O R Q A : Type 0} → Meaning S O R Q A → Type 0
PlacesFreeNames {S} {O} {R} {Q} {A} m =
    (terms : Terms) (address : List ℕ → List ℕ) (moves : List (Move O R)) (name : List ℕ) (n : ℕ) → let fixed = fix m terms address in
    let number = length (store_after fixed moves).branches in
    branch_named (store_after fixed moves).branches name ≡ None → fork_refusal terms moves ≡ None
    → full_turn fixed moves (Place name n) ≡ makes (move.Place name number n) (Forked number n)
