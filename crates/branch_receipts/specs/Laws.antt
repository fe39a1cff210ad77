-- What holds of bytes that are received.
use Rattle.std.specs.Prelude.{◌≡◌, ℕ, List, ◌++◌, None}
use Rattle.mrdt_model.specs.Laws.{Meaning}
use Rattle.branch_wire.specs.Reading.{HasLength64}
use Rattle.branch_names.specs.declared.terms.Terms.{Terms}
use Rattle.branch_names.specs.Heads.{branch_named}
use Rattle.branch_history.specs.declared.moves.Move.{Move}
use Rattle.branch_history.specs.Steps.{Turn}
use Rattle.branch_machine.specs.Fixed.{fix}
use Rattle.branch_machine.specs.Objects.{Pair, store_after}
use Rattle.branch_machine.specs.Validity.{IsFullyValid}
use Rattle.branch_machine.specs.Laws.{HasSize}
use Rattle.branch_bundle_laws.specs.Bundles.{Bundle, bundle_of}
use Rattle.branch_bundle_laws.specs.Text.{bundle_text}
use Rattle.branch_bundle_laws.specs.Receiving.{made_by, ReceivesAll, ReceivesBundle, Receipt, ReceivesFree}
use Rattle.branch_bundle_laws.specs.Laws.{Sends}
use Rattle.branch_receipts.specs.Receipts.{Keeps, HasReceived, IsAcceptable}

-- what was received stands behind all that was there
abbrev pub KeepsReceived : {S O R Q A : Type 0} → Meaning S O R Q A → Type 0
KeepsReceived {S} {O} {R} m =
    (terms : Terms) (address : List ℕ → List ℕ) (moves : List (Move O R))
    → let fixed = fix m terms address in
    IsFullyValid fixed moves
    → (bytes name : List ℕ) (receipt : Receipt) (made : List (Move O R))
    → ReceivesFree fixed moves bytes name receipt made
    → HasReceived fixed moves bytes name made receipt

-- so do some items of a bundle, and all of it with the branch
abbrev pub KeepsOnTheWay : {S O R Q A : Type 0} → Meaning S O R Q A → Type 0
KeepsOnTheWay {S} {O} {R} {Q} {A} m =
    (terms : Terms) (address : List ℕ → List ℕ) (moves : List (Move O R))
    → let fixed = fix m terms address in
    IsFullyValid fixed moves
    → (name : List ℕ)
    → ((items : List Pair) (turns : List (Turn O R A)) → ReceivesAll fixed moves items turns
    → Keeps fixed moves name (made_by turns))
    × ((bundle : Bundle) (turns : List (Turn O R A)) (placed : Turn O R A)
    → ReceivesBundle fixed moves bundle name turns placed
    → Keeps fixed moves name (made_by turns ++ placed.made))

-- What a valid history sends is acceptable under a free name to every valid one that holds what was
-- left out, if it is not too long.
abbrev pub AcceptsSent : {S O R Q A : Type 0} → Meaning S O R Q A → Type 0
AcceptsSent {S} {O} {R} m =
    (terms others : Terms) (address : List ℕ → List ℕ) → HasSize address
    → (moves more : List (Move O R)) (tip : ℕ) (addresses : List (List ℕ))
    → let one = fix m terms address in
    let other = fix m others address in
    let bytes = bundle_text terms.layout (bundle_of one moves tip addresses) in
    Sends one moves tip addresses other more → HasLength64 bytes
    → (name : List ℕ) → branch_named (store_after other more).branches name ≡ None
    → (receipt : Receipt) (made : List (Move O R))
    → ReceivesFree other more bytes name receipt made
    → IsAcceptable one moves tip other (more ++ made) receipt
