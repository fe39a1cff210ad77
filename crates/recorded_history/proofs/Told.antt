-- When an item has the objects of what was made anew of its fields.
use Rattle.std.proofs.Common.{◌≡◌, ℕ, ◌+◌, ◌<◌, ◌^◌, List, [], ◌∷◌, ◌++◌, length, map, refl, ap, sym, ◌∙◌, arith, subst, Some, None, Option, IfSome, Bor}
use Rattle.mrdt_model.specs.Laws.{KeepsLaws}
use Rattle.branch_wire.specs.Objects.{CommitFields, commit_object, value_object}
use Rattle.branch_wire.specs.declared.action.Action.{Action}
use Rattle.branch_wire.specs.declared.action.Action.TheVariants as wire
use Rattle.branch_objects_codec.specs.Grammar.{IsCommit}
use Rattle.branch_history.specs.declared.moves.Move.{Move}
use Rattle.branch_history.specs.Commits.{Commit, clock_of, greatest_clock, visible, visible_at_all}
use Rattle.branch_history.specs.History.{Store, merge_commit}
use Rattle.branch_history.specs.Machine.{event_made}
use Rattle.branch_history.specs.Steps.{Step, Look, Fork, Land, Merge, ReceiveOperation, ReceiveMerge, Place, Drop, Ask}
use Rattle.branch_history.specs.Validity.{IsStep}
use Rattle.branch_history.proofs.Grown.{visible-new, visible_at_all-one}
use Rattle.branch_history.proofs.Histories.{valid-kept}
use Rattle.branch_history.proofs.Kept.{IsKept}
use Rattle.branch_machine.specs.Fixed.{Fixed}
use Rattle.object_store.specs.Commits.{value_of, value_address_of, commit_fields, commit_pair}
use Rattle.branch_machine.specs.Objects.{Pair, both, kept_value, kept_address, pairs_of, store_after}
use Rattle.branch_machine.specs.Machine.{pair_next}
use Rattle.branch_machine.specs.Laws.{HasSize}
use Rattle.branch_machine.specs.Validity.{IsFullyValid, IsItem}
use Rattle.branch_machine.proofs.Valid.{valid-before}
use Rattle.store_seen.specs.declared.arrival.WrittenArrival.{WrittenArrival}
use Rattle.store_seen.specs.declared.arrival.WrittenArrival.TheVariants as written
use Rattle.store_seen.specs.Keeps.{bytes_at, kept_spelling}
use Rattle.store_seen.specs.Arrivals.{IsWrittenOperation, IsWrittenMerge, IsWrittenOf}
use Rattle.recorded_history.specs.Asks.{item_with, IsAsked, Replies, IsTold, value_spelling}
use Rattle.recorded_history.proofs.Layouts.{value-is, address-is}
use Rattle.recorded_history.proofs.Asked.{fields, made_operation, of-step, told-operation, told-merge}

module _ {S O R Q A : Type 0} (fixed : Fixed S O R Q A) (laws : KeepsLaws fixed.meaning) (size : HasSize fixed.address) (history : List (Move O R)) (valid : IsFullyValid fixed history) where
  abbrev s : Store O R
  s = store_after fixed history

  abbrev pairs : List Pair
  pairs = pairs_of fixed s.commits

  kept : IsKept fixed.meaning fixed.terms s
  kept = valid-kept fixed.meaning fixed.terms laws history (valid-before fixed history valid)

  abbrev named : Commit O R → CommitFields
  named c = fields fixed laws size history valid c

  abbrev operated : ℕ → ℕ → O → Commit O R
  operated origin h op = made_operation fixed laws size history valid origin h op

  abbrev merged : ℕ → ℕ → List ℕ → Commit O R
  merged origin h ms = merge_commit s.commits origin (h ∷ ms)

  -- the object of the value that was made anew, where it is kept, is that of the commit that would come next
  value-operation : (origin h : ℕ) (op : O) → IsStep {Q = Q} fixed.meaning s (ReceiveOperation origin h op) → (parent clock many : ℕ) (value_bytes : Option (List ℕ)) (op_bytes reply_bytes : List ℕ) → IsWrittenOperation fixed.meaning fixed.terms.layout s.commits origin h op parent clock many value_bytes op_bytes reply_bytes → (pair_next fixed history (operated origin h op)).value ≡ value_of value_bytes
  value-operation origin h op may parent clock many value_bytes op_bytes reply_bytes w =
      ap (λ x. kept_value fixed.terms.layout (fixed.meaning.spelling_of x))
      (visible-new s.commits (operated origin h op) kept.ordered.ranked (may.1, tt) ∙ ap (λ x. event_made fixed.meaning s.commits origin h op ∷ x) (visible_at_all-one s.commits h))
      ∙ sym (value-is fixed.terms.layout (fixed.meaning.spelling_of (event_made fixed.meaning s.commits origin h op ∷ visible s.commits h)) value_bytes w.value_is)

  value-merge : (origin h : ℕ) (ms : List ℕ) → IsStep {Q = Q} fixed.meaning s (ReceiveMerge origin h ms) → (parents : List ℕ) (clock many : ℕ) (value_bytes : Option (List ℕ)) → IsWrittenMerge fixed.meaning fixed.terms.layout s.commits (h ∷ ms) parents clock many value_bytes → (pair_next fixed history (merged origin h ms)).value ≡ value_of value_bytes
  value-merge origin h ms may parents clock many value_bytes w =
      ap (λ x. kept_value fixed.terms.layout (fixed.meaning.spelling_of x)) (visible-new s.commits (merged origin h ms) kept.ordered.ranked (may.1, may.2))
      ∙ sym (value-is fixed.terms.layout (fixed.meaning.spelling_of (visible_at_all s.commits (h ∷ ms))) value_bytes w.value_is)

  -- so is its address
  address-next : (c : Commit O R) (spelling : List ℕ) (value_bytes : Option (List ℕ)) → value_bytes ≡ kept_spelling fixed.terms.layout spelling → (pair_next fixed history c).value ≡ value_of value_bytes → (named c).value ≡ value_address_of fixed.address value_bytes
  address-next c spelling value_bytes is values = ap (λ (v : List ℕ). kept_address fixed.terms.layout (fixed.address v)) values ∙ sym (address-is fixed.terms.layout spelling value_bytes is fixed.address)

  -- an operation's reply, by what is done
  reply-is : (action : Action) (o r given : List ℕ) → action ≡ wire.Operation o r → Replies action given → r ≡ given
  reply-is action o r given is replies = subst (λ (x : Action). Replies x given) is replies

  is-reply : (action : Action) (o r given : List ℕ) → action ≡ wire.Operation o r → r ≡ given → Replies action given
  is-reply action o r given is same = subst (λ (x : Action). Replies x given) (sym is) same

  module _ (value : List ℕ) (f : CommitFields) where
    abbrev item : Pair
    item = item_with value f

    -- the pair of a commit whose value and fields are these
    pair-as : (c : Commit O R) → (pair_next fixed history c).value ≡ value → named c ≡ f → pair_next fixed history c ≡ item
    pair-as c values is = ap (λ (v : List ℕ). let p : Pair = record { value = v; commit = commit_object (named c) } in p) values ∙ ap (λ (g : CommitFields). item_with value g) is

    same-fields : (g : CommitFields) → g.parents ≡ f.parents → g.branch ≡ f.branch → g.clock ≡ f.clock → g.value ≡ f.value → g.action ≡ f.action → g ≡ f
    same-fields g a b c d e = λ i. record { parents = a i; branch = b i; clock = c i; value = d i; action = e i }

    told-item-operation : (origin h : ℕ) (op : O) → IsAsked fixed history f (ReceiveOperation origin h op) → (parent clock many : ℕ) (value_bytes : Option (Bor (List ℕ))) (op_bytes reply_bytes : Bor (List ℕ)) → IsWrittenOperation fixed.meaning fixed.terms.layout s.commits origin h op parent clock many (bytes_at value_bytes) op_bytes.now reply_bytes.now
        → f.clock < 2 ^ 64 → IsTold fixed.address value f (written.Operation parent clock many value_bytes op_bytes reply_bytes) → IsItem fixed history (ReceiveOperation origin h op) item
    told-item-operation origin h op asked parent clock many value_bytes op_bytes reply_bytes w small (timed, replies, valued, addressed) =
        let (have, on, reply, does) = asked.asks in
        let may = asked.may in
        let c = operated origin h op in
        let values : (pair_next fixed history c).value ≡ value = value-operation origin h op may parent clock many (bytes_at value_bytes) op_bytes.now reply_bytes.now w ∙ sym valued in
        let clocks : clock_of s.commits h + 1 ≡ f.clock = sym w.clock_is ∙ sym timed in
        let spelled : reply ≡ fixed.meaning.reply_spelling (fixed.meaning.reply_of (visible s.commits h) op) = reply-is f.action (fixed.meaning.op_spelling op) reply reply_bytes.now does replies ∙ w.reply_is in
        let is = same-fields (named c) have.addressed (sym on) clocks (address-next c (fixed.meaning.spelling_of (event_made fixed.meaning s.commits origin h op ∷ visible s.commits h)) (bytes_at value_bytes) w.value_is (values ∙ valued) ∙ sym addressed) (ap (wire.Operation (fixed.meaning.op_spelling op)) (sym spelled) ∙ sym does) in
        record { may = may; commit = c; received = refl; clock = subst (λ k. k < 2 ^ 64) (sym clocks) small; objects = pair-as c values is }

    told-item-merge : (origin h : ℕ) (ms : List ℕ) → IsAsked fixed history f (ReceiveMerge origin h ms) → (parents : Bor (List ℕ)) (clock many : ℕ) (value_bytes : Option (Bor (List ℕ))) → IsWrittenMerge fixed.meaning fixed.terms.layout s.commits (h ∷ ms) parents.now clock many (bytes_at value_bytes)
        → f.clock < 2 ^ 64 → IsTold fixed.address value f (written.Merge parents clock many value_bytes) → IsItem fixed history (ReceiveMerge origin h ms) item
    told-item-merge origin h ms asked parents clock many value_bytes w small (timed, valued, addressed) =
        let (have, on, does) = asked.asks in
        let may = asked.may in
        let c = merged origin h ms in
        let values : (pair_next fixed history c).value ≡ value = value-merge origin h ms may parents.now clock many (bytes_at value_bytes) w ∙ sym valued in
        let clocks : greatest_clock s.commits (h ∷ ms) ≡ f.clock = sym w.clock_is ∙ sym timed in
        let is = same-fields (named c) have.addressed (sym on) clocks (address-next c (fixed.meaning.spelling_of (visible_at_all s.commits (h ∷ ms))) (bytes_at value_bytes) w.value_is (values ∙ valued) ∙ sym addressed) (sym does) in
        record { may = may; commit = c; received = refl; clock = subst (λ k. k < 2 ^ 64) (sym clocks) small; objects = pair-as c values is }

    -- what was made anew has the item's objects: then the step receives the item
    pub told-item : (step : Step O Q) (w : WrittenArrival) → IsAsked fixed history f step → IsWrittenOf fixed.meaning fixed.terms.layout s.commits step w → f.clock < 2 ^ 64 → IsTold fixed.address value f w → IsItem fixed history step item
    told-item (Look name) w asked is small told = absurd asked.asks
    told-item (Fork name from) w asked is small told = absurd asked.asks
    told-item (Land r h op) w asked is small told = absurd asked.asks
    told-item (Merge r h ms) w asked is small told = absurd asked.asks
    told-item (ReceiveOperation origin h op) (written.Operation parent clock many value_bytes op_bytes reply_bytes) asked is small told = told-item-operation origin h op asked parent clock many value_bytes op_bytes reply_bytes is small told
    told-item (ReceiveOperation origin h op) (written.Merge parents clock many value_bytes) asked is small told = absurd is
    told-item (ReceiveMerge origin h ms) (written.Operation parent clock many value_bytes op_bytes reply_bytes) asked is small told = absurd is
    told-item (ReceiveMerge origin h ms) (written.Merge parents clock many value_bytes) asked is small told = told-item-merge origin h ms asked parents clock many value_bytes is small told
    told-item (Place name n) w asked is small told = absurd asked.asks
    told-item (Drop r h) w asked is small told = absurd asked.asks
    told-item (Ask n query) w asked is small told = absurd asked.asks

    -- the address that is told is that of the value's object, where it is kept
    told-address : (w : WrittenArrival) → IsTold fixed.address value f w → f.value ≡ value_address_of fixed.address (value_spelling w)
    told-address (written.Operation parent clock many value_bytes op_bytes reply_bytes) told = told.3
    told-address (written.Merge parents clock many value_bytes) told = told.2

    none_received : (c : Commit O R) → None ≡ Some c → ⊥
    none_received c is = cc

    module _ (known : IsCommit f) where
      item-told-operation : (origin h : ℕ) (op : O) → IsItem fixed history (ReceiveOperation origin h op) item → (parent clock many : ℕ) (value_bytes : Option (Bor (List ℕ))) (op_bytes reply_bytes : Bor (List ℕ)) → IsWrittenOperation fixed.meaning fixed.terms.layout s.commits origin h op parent clock many (bytes_at value_bytes) op_bytes.now reply_bytes.now
          → IsTold fixed.address value f (written.Operation parent clock many value_bytes op_bytes reply_bytes)
      item-told-operation origin h op i parent clock many value_bytes op_bytes reply_bytes w =
          let c = operated origin h op in
          let is : named c ≡ f = told-operation fixed laws size history valid item f known refl origin h op i in
          let values : (pair_next fixed history c).value ≡ value = ap (λ (p : Pair). p.value) (of-step fixed laws size history valid item (ReceiveOperation origin h op) c refl i) in
          let own : (pair_next fixed history c).value ≡ value_of (bytes_at value_bytes) = value-operation origin h op i.may parent clock many (bytes_at value_bytes) op_bytes.now reply_bytes.now w in
          let reply : List ℕ = fixed.meaning.reply_spelling (fixed.meaning.reply_of (visible s.commits h) op) in (
            ap (λ (g : CommitFields). g.clock) (sym is) ∙ sym w.clock_is,
            is-reply f.action (fixed.meaning.op_spelling op) reply reply_bytes.now (ap (λ (g : CommitFields). g.action) (sym is)) (sym w.reply_is),
            sym values ∙ own,
            ap (λ (g : CommitFields). g.value) (sym is) ∙ address-next c (fixed.meaning.spelling_of (event_made fixed.meaning s.commits origin h op ∷ visible s.commits h)) (bytes_at value_bytes) w.value_is own,
          )

      item-told-merge : (origin h : ℕ) (ms : List ℕ) → IsItem fixed history (ReceiveMerge origin h ms) item → (parents : Bor (List ℕ)) (clock many : ℕ) (value_bytes : Option (Bor (List ℕ))) → IsWrittenMerge fixed.meaning fixed.terms.layout s.commits (h ∷ ms) parents.now clock many (bytes_at value_bytes) → IsTold fixed.address value f (written.Merge parents clock many value_bytes)
      item-told-merge origin h ms i parents clock many value_bytes w =
          let c = merged origin h ms in
          let is : named c ≡ f = told-merge fixed laws size history valid item f known refl origin h ms i in
          let values : (pair_next fixed history c).value ≡ value = ap (λ (p : Pair). p.value) (of-step fixed laws size history valid item (ReceiveMerge origin h ms) c refl i) in
          let own : (pair_next fixed history c).value ≡ value_of (bytes_at value_bytes) = value-merge origin h ms i.may parents.now clock many (bytes_at value_bytes) w in (
            ap (λ (g : CommitFields). g.clock) (sym is) ∙ sym w.clock_is,
            sym values ∙ own,
            ap (λ (g : CommitFields). g.value) (sym is) ∙ address-next c (fixed.meaning.spelling_of (visible_at_all s.commits (h ∷ ms))) (bytes_at value_bytes) w.value_is own,
          )

      -- and only then
      pub item-told : (step : Step O Q) (w : WrittenArrival) → IsItem fixed history step item → IsWrittenOf fixed.meaning fixed.terms.layout s.commits step w → IsTold fixed.address value f w
      item-told (Look name) w i is = absurd (none_received i.commit i.received)
      item-told (Fork name from) w i is = absurd (none_received i.commit i.received)
      item-told (Land r h op) w i is = absurd (none_received i.commit i.received)
      item-told (Merge r h ms) w i is = absurd (none_received i.commit i.received)
      item-told (ReceiveOperation origin h op) (written.Operation parent clock many value_bytes op_bytes reply_bytes) i is = item-told-operation origin h op i parent clock many value_bytes op_bytes reply_bytes is
      item-told (ReceiveOperation origin h op) (written.Merge parents clock many value_bytes) i is = absurd is
      item-told (ReceiveMerge origin h ms) (written.Operation parent clock many value_bytes op_bytes reply_bytes) i is = absurd is
      item-told (ReceiveMerge origin h ms) (written.Merge parents clock many value_bytes) i is = item-told-merge origin h ms i parents clock many value_bytes is
      item-told (Place name n) w i is = absurd (none_received i.commit i.received)
      item-told (Drop r h) w i is = absurd (none_received i.commit i.received)
      item-told (Ask n query) w i is = absurd (none_received i.commit i.received)

      pub item-address : (step : Step O Q) (w : WrittenArrival) → IsItem fixed history step item → IsWrittenOf fixed.meaning fixed.terms.layout s.commits step w → f.value ≡ value_address_of fixed.address (value_spelling w)
      item-address step w i is = told-address w (item-told step w i is)

    -- the value's object of an item that the step receives, where it is kept, is that of the value that was made anew
    pub item-value : (step : Step O Q) (w : WrittenArrival) → IsItem fixed history step item → IsWrittenOf fixed.meaning fixed.terms.layout s.commits step w → value ≡ value_of (value_spelling w)
    item-value (Look name) w i is = absurd (none_received i.commit i.received)
    item-value (Fork name from) w i is = absurd (none_received i.commit i.received)
    item-value (Land r h op) w i is = absurd (none_received i.commit i.received)
    item-value (Merge r h ms) w i is = absurd (none_received i.commit i.received)
    item-value (ReceiveOperation origin h op) (written.Operation parent clock many value_bytes op_bytes reply_bytes) i is =
        sym (ap (λ (p : Pair). p.value) (of-step fixed laws size history valid item (ReceiveOperation origin h op) (operated origin h op) refl i)) ∙ value-operation origin h op i.may parent clock many (bytes_at value_bytes) op_bytes.now reply_bytes.now is
    item-value (ReceiveOperation origin h op) (written.Merge parents clock many value_bytes) i is = absurd is
    item-value (ReceiveMerge origin h ms) (written.Operation parent clock many value_bytes op_bytes reply_bytes) i is = absurd is
    item-value (ReceiveMerge origin h ms) (written.Merge parents clock many value_bytes) i is =
        sym (ap (λ (p : Pair). p.value) (of-step fixed laws size history valid item (ReceiveMerge origin h ms) (merged origin h ms) refl i)) ∙ value-merge origin h ms i.may parents.now clock many (bytes_at value_bytes) is
    item-value (Place name n) w i is = absurd (none_received i.commit i.received)
    item-value (Drop r h) w i is = absurd (none_received i.commit i.received)
    item-value (Ask n query) w i is = absurd (none_received i.commit i.received)

-- the address that is told is that of the spelling
pub known-is : (address : List ℕ → List ℕ) (value : Option (Bor (List ℕ))) (known : Option (List ℕ)) → known ≡ value_address_of address (bytes_at value) → IfSome value (λ v. IfSome known (λ a. a ≡ address (value_object v.now)))
known-is address None known is = tt
known-is address (Some v) None is = tt
known-is address (Some v) (Some a) is = cc is

-- what is staged are the objects of the item
pub staged-pair : (address : List ℕ → List ℕ) (value : List ℕ) (spelling : Option (List ℕ)) (f : CommitFields) → value ≡ value_of spelling → f.value ≡ value_address_of address spelling → commit_pair address spelling f.parents f.branch f.clock f.action ≡ both (item_with value f)
staged-pair address value spelling f valued addressed =
    ap (λ (v : List ℕ). both (let p : Pair = record { value = v; commit = commit_object (record { parents = f.parents; branch = f.branch; clock = f.clock; value = value_address_of address spelling; action = f.action }) } in p)) (sym valued)
    ∙ ap (λ (a : Option (List ℕ)). both (item_with value (record { parents = f.parents; branch = f.branch; clock = f.clock; value = a; action = f.action }))) (sym addressed)

-- and the address is that of the item's commit
pub staged-address : (address : List ℕ → List ℕ) (spelling : Option (List ℕ)) (f : CommitFields) → f.value ≡ value_address_of address spelling → address (commit_object (commit_fields address spelling f.parents f.branch f.clock f.action)) ≡ address (commit_object f)
staged-address address spelling f addressed =
    ap (λ (a : Option (List ℕ)). address (commit_object (record { parents = f.parents; branch = f.branch; clock = f.clock; value = a; action = f.action }))) (sym addressed)
