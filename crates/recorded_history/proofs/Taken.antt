-- What a recorded history answers to an item.
use Rattle.std.proofs.Common.{◌≡◌, inl, inr, ℕ, ◌≤◌, ◌^◌, List, [], ◌∷◌, ◌++◌, length, refl, ap, sym, ◌∙◌, subst, append-nil, append_assoc, Option, Some, None, Ok, Err}
use Rattle.std.specs.Prelude.{option_and_then, IsErrOf, Result}
use Rattle.mrdt_model.specs.Laws.{Meaning}
use Rattle.branch_wire.specs.StoredObjects.{Stored, collision, fresh, file_of}
use Rattle.branch_history.specs.declared.moves.Move.{Move}
use Rattle.branch_history.specs.declared.moves.Move.TheVariants as move
use Rattle.branch_history.specs.Commits.{Commit, greatest_clock, visible}
use Rattle.branch_history.specs.History.{Store, operation_commit, merge_commit}
use Rattle.branch_history.specs.Machine.{makes, answers, event_made, received_operation_refusal, received_merge_refusal, receive_operation_turn, receive_merge_turn, turn}
use Rattle.branch_history.specs.Steps as machine
use Rattle.branch_history.specs.Validity.{IsValid}
use Rattle.branch_history.proofs.Histories.{received-operation}
use Rattle.branch_history.proofs.Valid.{made_unless, store_of-more}
use Rattle.branch_machine.specs.Fixed.{Fixed, fix}
use Rattle.branch_machine.specs.Objects.{Pair, both, store_after, objects_of, end_of}
use Rattle.branch_machine.specs.Machine.{collision_refusal, commit_received, pair_next, commit_at, commit_here, full_turn}
use Rattle.branch_machine.specs.Laws.{IsNew}
use Rattle.branch_machine.specs.Validity.{IsItem, Receives}
use Rattle.branch_machine.proofs.Valid.{full_move-is}
use Rattle.branch_files.specs.Records.{record_of, record_with, new_address}
use Rattle.heads_journal.specs.declared.record.Record.TheVariants as journal
use Rattle.machine_answers.specs.Answers.{Answer, Made, Still, Refused, Short, TurnsAs, CountsAs}
use Rattle.mrdt_model.specs.declared.errors.Unread.{Unread}
use Rattle.mrdt_model.specs.declared.errors.Unread.TheVariants as unread
use Rattle.object_store.specs.declared.errors.StageRefused.{StageRefused}
use Rattle.object_store.specs.declared.errors.StageRefused.TheVariants as staging
use Rattle.object_store.specs.Refusals.{RefusesToStage}
use Rattle.object_store.specs.Views.{ObjectsView}
use Rattle.store_seen.specs.declared.answers.ReceiveRefused as seen
use Rattle.store_seen.specs.declared.answers.ReceiveRefused.TheVariants as seen_refusal
use Rattle.store_seen.specs.Answers.{not_received}
use Rattle.store_seen.specs.Turns.{StoodAt, StoodBefore}
use Rattle.store_seen.specs.Turns as turns
use Rattle.store_seen.specs.Views.{CoreView, VersionsView}
use Rattle.recorded_history.specs.Asks.{IsAddressed}
use Rattle.recorded_history.specs.Keeps.{IsRecorded}
use Rattle.recorded_history.specs.Machine.{FullyRefuses, addresses_of}
use Rattle.recorded_history.specs.Receives.{HasTurn, AnswersItem, PendsBehind, ReceivesItem, ReceivesMore, HasItsRecord, HasLastRecord, item_answer, item_refused, refused_item, unstaged_item, unread_item}
use Rattle.recorded_history.specs.Views.{RecordedView, recorded_of}
use Rattle.recorded_history.specs.declared.arrivals.Arrived.{Arrived}
use Rattle.recorded_history.specs.declared.arrivals.Arrived.TheVariants as arrived
use Rattle.recorded_history.specs.declared.arrivals.ReceiveRefused.{ReceiveRefused}
use Rattle.recorded_history.specs.declared.arrivals.ReceiveRefused.TheVariants as refusal
use Rattle.recorded_history.proofs.Kept.{laid-out, core-on, pending-on, recorded-on}
use Rattle.recorded_history.proofs.Pending.{written-alone}
use Rattle.recorded_history.proofs.Steps.{full-makes, full-collides, full-refuses, one-refused, one-stored, one-addresses, one-address, refusal_for, new_pair}

-- a move that receives a commit
pub record IsArrivalOf {S O R Q A : Type 0} (fixed : Fixed S O R Q A) (history : List (Move O R)) (c : Commit O R) (made : Move O R) : Type 0 where
  pub parents : List ℕ
  pub origin : ℕ
  pub clock : ℕ
  pub act : Option (O × R)
  pub is : made ≡ move.Received parents origin clock act
  pub one : (store_after fixed (history ++ made ∷ [])).commits ≡ (store_after fixed history).commits ++ c ∷ []

module _ {S O R Q A : Type 0} (fixed : Fixed S O R Q A) (history : List (Move O R)) where
  abbrev s : Store O R
  s = store_after fixed history

  arrives-operation : (origin h : ℕ) (op : O) (m : Move O R) → (receive_operation_turn fixed.meaning fixed.terms history origin h op).made ≡ m ∷ [] → IsArrivalOf fixed history (operation_commit s.commits origin h op (fixed.meaning.reply_of (visible s.commits h) op)) m
  arrives-operation origin h op m is =
      let e = event_made fixed.meaning s.commits origin h op in
      let made : Move O R = move.Received (h ∷ []) origin e.time.clock (Some (op, e.reply)) in
      let parts = made_unless {O = O} {R = R} {A = A} (received_operation_refusal fixed.meaning fixed.terms history origin h op) (makes made (machine.New (length s.commits))) m is in
      let same : made ≡ m = cc parts.1 in
      subst (IsArrivalOf fixed history (operation_commit s.commits origin h op e.reply)) same
      (record {
        parents = h ∷ [];
        origin = origin;
        clock = e.time.clock;
        act = Some (op, e.reply);
        is = refl;
        one = ap (λ (t : Store O R). t.commits) (store_of-more fixed.terms.origin history made)
            ∙ ap (λ (c : Commit O R). s.commits ++ c ∷ []) (received-operation fixed.meaning fixed.terms s.commits h origin e.time.clock op e.reply refl);
      })

  arrives-merge : (origin : ℕ) (parents : List ℕ) (m : Move O R) → (receive_merge_turn fixed.meaning fixed.terms history origin parents).made ≡ m ∷ [] → IsArrivalOf fixed history (merge_commit s.commits origin parents) m
  arrives-merge origin parents m is =
      let made : Move O R = move.Received parents origin (greatest_clock s.commits parents) None in
      let parts = made_unless {O = O} {R = R} {A = A} (received_merge_refusal fixed.meaning fixed.terms history origin parents) (makes made (machine.New (length s.commits))) m is in
      let same : made ≡ m = cc parts.1 in
      subst (IsArrivalOf fixed history (merge_commit s.commits origin parents)) same
      (record { parents = parents; origin = origin; clock = greatest_clock s.commits parents; act = None; is = refl; one = ap (λ (t : Store O R). t.commits) (store_of-more fixed.terms.origin history made) })

  -- the move of a step that receives
  pub arrives : (step : machine.Step O Q) (m : Move O R) (c : Commit O R) → commit_received fixed.meaning s.commits step ≡ Some c → (turn fixed.meaning fixed.terms history step).made ≡ m ∷ [] → IsArrivalOf fixed history c m
  unfolding turn
  arrives (machine.Look name) m c received is = absurd (cc)
  arrives (machine.Fork name from) m c received is = absurd (cc)
  arrives (machine.Land r h op) m c received is = absurd (cc)
  arrives (machine.Merge r h ms) m c received is = absurd (cc)
  arrives (machine.ReceiveOperation origin h op) m c received is =
      let same : operation_commit s.commits origin h op (fixed.meaning.reply_of (visible s.commits h) op) ≡ c = cc received in
      subst (λ (c : Commit O R). IsArrivalOf fixed history c m) same (arrives-operation origin h op m is)
  arrives (machine.ReceiveMerge origin h ms) m c received is =
      let same : merge_commit s.commits origin (h ∷ ms) ≡ c = cc received in
      subst (λ (c : Commit O R). IsArrivalOf fixed history c m) same (arrives-merge origin (h ∷ ms) m is)
  arrives (machine.Place name n) m c received is = absurd (cc)
  arrives (machine.Drop r h) m c received is = absurd (cc)
  arrives (machine.Ask n query) m c received is = absurd (cc)

  -- an item that is not here, and the step that receives it
  module _ (item : Pair) (none : commit_at fixed history item ≡ None) (step : machine.Step O Q) (of : IsItem fixed history step item) where
    pub plain : commit_here fixed history step ≡ None
    plain = ap (option_and_then (λ (c : Commit O R). commit_at fixed history (pair_next fixed history c))) of.received ∙ ap (commit_at fixed history) of.objects ∙ none

    pub received : Receives fixed history item (full_turn fixed history step)
    received = inr (inl (none, step, of, refl))

    refused-by : (refusal : machine.Refusal) → FullyRefuses fixed history step refusal → HasTurn fixed history item [] (let answer : Answer A R = Refused refusal in answer)
    refused-by refusal is = (full_turn fixed history step, received, is, refl)

    seen-by : (refusal : machine.Refusal) → turn fixed.meaning fixed.terms history step ≡ answers {A = A} (machine.Refused refusal) → HasTurn fixed history item [] (let answer : Answer A R = Refused refusal in answer)
    seen-by refusal is = refused-by refusal (full-refuses fixed history step plain refusal is)

    -- what the half in memory refuses, the machine that keeps objects refuses
    pub seen-refuses : (why : seen.ReceiveRefused) → TurnsAs (not_received why) (turn fixed.meaning fixed.terms history step) → AnswersItem fixed history item [] (let answer : Answer A R = item_refused (refused_item why) in answer)
    seen-refuses seen_refusal.OwnOrigin is = seen-by machine.OwnOrigin is
    seen-refuses (seen_refusal.TimeClash number) is = seen-by (machine.TimeClash number) is
    seen-refuses (seen_refusal.Exhausted clock) is = seen-by (machine.Exhausted clock) is
    seen-refuses (seen_refusal.ValueTooLarge length) is = seen-by (machine.ValueTooLarge length) is
    seen-refuses (seen_refusal.FullCommits count) is = seen-by (machine.FullCommits count) is
    seen-refuses (seen_refusal.FullMoves count) is = seen-by (machine.FullMoves count) is
    seen-refuses seen_refusal.Memory is = refl

    -- a step that makes a move
    module _ (made : Move O R) (outcome : machine.Outcome A R) (turned : turn fixed.meaning fixed.terms history step ≡ makes made outcome) where
      pub arrival : IsArrivalOf fixed history of.commit made
      arrival = arrives step made of.commit of.received (ap (λ (t : machine.Turn O R A). t.made) turned)

      pair-is : new_pair fixed history made of.commit arrival.one ≡ item
      pair-is = of.objects

      refusal-is : collision_refusal fixed history made ≡ refusal_for fixed.address (collision fixed.address (objects_of fixed history) (both item))
      refusal-is = one-refused fixed history made of.commit arrival.one ∙ ap (λ (p : Pair). refusal_for fixed.address (collision fixed.address (objects_of fixed history) (both p))) pair-is

      -- its objects are not staged
      pub stage-refuses : (why : StageRefused) → RefusesToStage fixed.address (objects_of fixed history) (both item) why → AnswersItem fixed history item [] (let answer : Answer A R = item_refused (unstaged_item why) in answer)
      stage-refuses (staging.Collision a y x) is =
          refused-by (machine.Collision a y x)
          (full-collides fixed history step plain made (machine.Collision a y x) (ap (λ (t : machine.Turn O R A). t.made) turned)
          (refusal-is ∙ ap (refusal_for fixed.address) is.0 ∙ ap (λ (b : List ℕ). Some (machine.Collision b y x)) (sym is.1)))
      stage-refuses staging.Memory is = refl

      -- or they are
      module _ (free : collision fixed.address (objects_of fixed history) (both item) ≡ None) where
        pub free-is : collision_refusal fixed history made ≡ None
        free-is = refusal-is ∙ ap (refusal_for fixed.address) free

        pub full-is : full_turn fixed history step ≡ makes made outcome
        full-is = full-makes fixed history step plain made outcome turned free-is

        pub new-is : IsNew fixed history made
        new-is = (full_move-is fixed history made (step, of.may, ap (λ (t : machine.Turn O R A). t.made) full-is)).1

        pub stored-is : objects_of fixed (history ++ made ∷ []) ≡ objects_of fixed history ++ fresh (objects_of fixed history) (both item)
        stored-is = one-stored fixed history made of.commit arrival.one ∙ ap (λ (p : Pair). objects_of fixed history ++ fresh (objects_of fixed history) (both p)) pair-is

        pub addresses-are : addresses_of fixed (history ++ made ∷ []) ≡ addresses_of fixed history ++ fixed.address item.commit ∷ []
        addresses-are = one-addresses fixed history made of.commit arrival.one ∙ ap (λ (p : Pair). addresses_of fixed history ++ fixed.address p.commit ∷ []) pair-is

        pub address-is : new_address fixed history made ≡ fixed.address item.commit
        address-is = one-address fixed history made of.commit arrival.one ∙ ap (λ (p : Pair). fixed.address p.commit) pair-is

        pub record-is : (address : List ℕ) (end : ℕ) → address ≡ fixed.address item.commit → end ≡ end_of fixed (history ++ made ∷ []) → journal.Received address end ≡ record_with (new_address fixed history made) (end_of fixed (history ++ made ∷ [])) made
        record-is address end is ends =
            ap (λ (a : List ℕ). journal.Received a end) (is ∙ sym address-is) ∙ ap (λ (n : ℕ). journal.Received (new_address fixed history made) n) ends
            ∙ ap (λ (m : Move O R). record_with (new_address fixed history made) (end_of fixed (history ++ made ∷ [])) m) (sym arrival.is)

-- what is no item of any step is refused
pub bad-item : {S O R Q A : Type 0} (fixed : Fixed S O R Q A) (history : List (Move O R)) (item : Pair) → commit_at fixed history item ≡ None → ((step : machine.Step O Q) → ¬ IsItem fixed history step item) → HasTurn fixed history item [] (let answer : Answer A R = Refused machine.BadBundle in answer)
bad-item fixed history item none without = (answers (machine.Refused machine.BadBundle), inr (inr (none, without, refl)), refl, refl)

-- what was not read is refused
pub unread-refused : {S O R Q A : Type 0} (fixed : Fixed S O R Q A) (history : List (Move O R)) (item : Pair) (why : Unread) → commit_at fixed history item ≡ None → (why ≡ unread.NotCanonical → (step : machine.Step O Q) → ¬ IsItem fixed history step item)
    → AnswersItem fixed history item [] (let answer : Answer A R = item_refused (unread_item why) in answer)
unread-refused fixed history item unread.NotCanonical none without = bad-item fixed history item none (without refl)
unread-refused fixed history item unread.Memory none without = refl

-- an item's step, over an equal core and an equal object
pub item-moved : {S O R Q A : Type 0} (meaning : Meaning S O R Q A) (address : List ℕ → List ℕ) (core other : CoreView (Move O R)) → core ≡ other → (step : machine.Step O Q) (value x y : List ℕ) → x ≡ y
    → IsItem (fix meaning core.terms address) core.history step (let p : Pair = record { value = value; commit = x } in p) → IsItem (fix meaning other.terms address) other.history step (let p : Pair = record { value = value; commit = y } in p)
item-moved {S} {O} {R} {Q} {A} meaning address core other same step value x y e is =
    subst (λ (k : CoreView (Move O R)). IsItem (fix meaning k.terms address) k.history step (let p : Pair = record { value = value; commit = y } in p)) same
    (subst (λ (z : List ℕ). IsItem (fix meaning core.terms address) core.history step (let p : Pair = record { value = value; commit = z } in p)) e is)

-- what is refused leaves the half in memory as it was
pub receive-stays : {S O R Q A : Type 0} (meaning : Meaning S O R Q A) (step : machine.Step O Q) (old new : VersionsView (Move O R)) (why : seen.ReceiveRefused) → turns.Steps meaning step old new old.addresses (not_received why) → new ≡ old
receive-stays {S} {O} {R} {Q} {A} meaning step old new why is = at why is
  where
    unchanged : new.core.history ≡ old.core.history → new ≡ record { core = record { history = new.core.history; terms = old.core.terms }; addresses = old.addresses } → new ≡ old
    unchanged same rest = rest ∙ ap (λ (l : List (Move O R)). let v : VersionsView (Move O R) = record { core = record { history = l; terms = old.core.terms }; addresses = old.addresses } in v) same

    at : (why : seen.ReceiveRefused) → turns.Steps meaning step old new old.addresses (not_received why) → new ≡ old
    at seen_refusal.OwnOrigin is = unchanged is.takes.history is.rest
    at (seen_refusal.TimeClash number) is = unchanged is.takes.history is.rest
    at (seen_refusal.Exhausted clock) is = unchanged is.takes.history is.rest
    at (seen_refusal.ValueTooLarge length) is = unchanged is.takes.history is.rest
    at (seen_refusal.FullCommits count) is = unchanged is.takes.history is.rest
    at (seen_refusal.FullMoves count) is = unchanged is.takes.history is.rest
    at seen_refusal.Memory is = unchanged is.takes.history is.rest

-- how many moves there are is no matter where none is made
pub refused-counts : {M : Type 0} (A R : Type 0) (why : ReceiveRefused) (history : List M) → CountsAs (let answer : Answer A R = item_refused why in answer) history
refused-counts A R refusal.BadBundle history = tt
refused-counts A R refusal.OwnOrigin history = tt
refused-counts A R (refusal.TimeClash number) history = tt
refused-counts A R (refusal.Exhausted clock) history = tt
refused-counts A R (refusal.ValueTooLarge size) history = tt
refused-counts A R (refusal.FullCommits count) history = tt
refused-counts A R (refusal.FullMoves count) history = tt
refused-counts A R (refusal.Collision address stored new) history = tt
refused-counts A R refusal.Memory history = tt

-- nothing comes behind what is pending where an item is refused
refused-pends : {M : Type 0} (A R : Type 0) (why : ReceiveRefused) (pending : List M) → PendsBehind (let answer : Answer A R = item_refused why in answer) pending [] pending
refused-pends A R refusal.BadBundle pending = sym (append-nil pending)
refused-pends A R refusal.OwnOrigin pending = sym (append-nil pending)
refused-pends A R (refusal.TimeClash number) pending = sym (append-nil pending)
refused-pends A R (refusal.Exhausted clock) pending = sym (append-nil pending)
refused-pends A R (refusal.ValueTooLarge size) pending = sym (append-nil pending)
refused-pends A R (refusal.FullCommits count) pending = sym (append-nil pending)
refused-pends A R (refusal.FullMoves count) pending = sym (append-nil pending)
refused-pends A R (refusal.Collision address stored new) pending = sym (append-nil pending)
refused-pends A R refusal.Memory pending = tt

-- a refusal where nothing has changed
pub item-stays : {S O R Q A : Type 0} (fixed : Fixed S O R Q A) (item : Pair) (r new : RecordedView (Move O R)) (why : ReceiveRefused) → new ≡ r → AnswersItem fixed (r.written ++ r.pending) item [] (let answer : Answer A R = item_refused why in answer)
    → ReceivesMore fixed item r new (item_refused why)
item-stays {S} {O} {R} {Q} {A} fixed item r new why same is =
    subst (λ (x : RecordedView (Move O R)). ReceivesMore fixed item r x (item_refused why)) (sym same)
    (record { made = []; answers = is; pending = refused-pends A R why r.pending; rest = refl; counted = refused-counts A R why (r.written ++ r.pending) })

-- what is here already
pub item-here : {S O R Q A : Type 0} (fixed : Fixed S O R Q A) (item : Pair) (r : RecordedView (Move O R)) (n : ℕ) → commit_at fixed (r.written ++ r.pending) item ≡ Some n → ReceivesMore fixed item r r (Still (machine.Here n))
item-here fixed item r n is = record { made = []; answers = (answers (machine.Here n), inl (n, is, refl), refl, refl); pending = sym (append-nil r.pending); rest = refl; counted = tt }

-- where memory is short, no move is made
pub item-short : {S O R Q A : Type 0} (fixed : Fixed S O R Q A) (item : Pair) (r new : RecordedView (Move O R)) → new ≡ record r { pending = new.pending } → ReceivesMore fixed item r new (let answer : Answer A R = Short in answer)
item-short fixed item r new rest = record { made = []; answers = refl; pending = tt; rest = rest; counted = tt }

-- and what was pending is undone
pub item-undone : {S O R Q A : Type 0} (fixed : Fixed S O R Q A) (item : Pair) (r mid new : RecordedView (Move O R)) → mid ≡ record r { pending = mid.pending } → new ≡ record mid { pending = [] } → ReceivesMore fixed item r new (let answer : Answer A R = Short in answer)
item-undone {S} {O} {R} fixed item r mid new rest undone =
    let back : new ≡ record r { pending = [] } = undone ∙ ap (λ (x : RecordedView (Move O R)). record x { pending = [] }) rest in
    item-short fixed item r new (back ∙ ap (λ (l : List (Move O R)). record r { pending = l }) (sym (ap (λ (x : RecordedView (Move O R)). x.pending) back)))

module _ {S O R Q A : Type 0} (meaning : Meaning S O R Q A) (address : List ℕ → List ℕ) (settled : CoreView (Move O R)) (old : VersionsView (Move O R)) (objects : ObjectsView) (stood : List ℕ) (kept : IsRecorded meaning address (recorded_of settled old.core) stood old objects) where
  abbrev own : Fixed S O R Q A
  own = fix meaning settled.terms address

  abbrev waiting : List (Move O R)
  waiting = (recorded_of settled old.core).pending

  abbrev history : List (Move O R)
  history = settled.history ++ waiting

  -- each commit has its address
  pub addressed : IsAddressed meaning address old
  addressed = let k = laid-out meaning address settled old objects stood kept in record { valid = k.valid; addressed = k.addressed }

  module _ (item : Pair) (unseen : commit_at own history item ≡ None) (step : machine.Step O Q) (of : IsItem own history step item) (staged : ObjectsView) (free : collision address (objects.stored ++ objects.staged) (both item) ≡ None) (stored_is : staged.stored ≡ objects.stored) (staged_is : staged.staged ≡ objects.staged ++ fresh (objects.stored ++ objects.staged) (both item))
      (new : VersionsView (Move O R)) (commit moves : ℕ) (given : List ℕ) (given_is : given ≡ address item.commit) (steps : turns.Steps meaning step old new (old.addresses ++ given ∷ []) (Made (machine.New commit) moves)) where
    abbrev made : Move O R
    made = steps.takes.turns.0

    abbrev outcome : machine.Outcome A R
    outcome = machine.New commit

    turned : turn meaning settled.terms history step ≡ makes made outcome
    turned = subst (λ (k : CoreView (Move O R)). turn meaning k.terms k.history step ≡ makes made outcome) kept.moves steps.takes.turns.1

    no_clash : collision address (objects_of own history) (both item) ≡ None
    no_clash = ap (λ (s : Stored). collision address s (both item)) (sym kept.staged) ∙ free

    grown : new.core ≡ record old.core { history = old.core.history ++ made ∷ [] }
    grown =
        ap (λ (v : VersionsView (Move O R)). v.core) steps.rest
        ∙ ap (λ (l : List (Move O R)). let k : CoreView (Move O R) = record { history = l; terms = old.core.terms } in k) (steps.takes.history ∙ ap (λ (t : machine.Turn O R A). old.core.history ++ t.made) steps.takes.turns.1)

    longer : new.core ≡ record { history = history ++ made ∷ []; terms = settled.terms }
    longer = core-on meaning address settled old objects stood kept made new.core grown

    one : recorded_of settled new.core ≡ record { written = settled.history; pending = waiting ++ made ∷ []; terms = settled.terms }
    one = pending-on meaning address settled waiting made new longer

    whole : staged.stored ++ staged.staged ≡ objects_of own (history ++ made ∷ [])
    whole =
        ap (λ (s : Stored). s ++ staged.staged) stored_is ∙ ap (λ (s : Stored). objects.stored ++ s) staged_is
        ∙ sym (append_assoc objects.stored objects.staged (fresh (objects.stored ++ objects.staged) (both item))) ∙ ap (λ (s : Stored). s ++ fresh s (both item)) kept.staged
        ∙ sym (stored-is own history item unseen step of made outcome turned no_clash)

    stood_at : StoodAt settled.terms history made 0
    stood_at = subst (λ (m : Move O R). StoodAt settled.terms history m 0) (sym (arrival own history item unseen step of made outcome turned).is) tt

    -- the move is pending behind those that were
    pub item-kept : IsValid meaning new.core.terms new.core.history → IsRecorded meaning address (recorded_of settled new.core) (stood ++ 0 ∷ []) new staged
    item-kept valid =
        recorded-on meaning address settled waiting made new longer staged stood 0 kept.valid valid (new-is own history item unseen step of made outcome turned no_clash) (free-is own history item unseen step of made outcome turned no_clash) kept.came stood_at
        (ap (λ (v : VersionsView (Move O R)). v.addresses) steps.rest ∙ ap (λ (l : List (List ℕ)). l ++ given ∷ []) kept.addressed ∙ ap (λ (a : List ℕ). addresses_of own history ++ a ∷ []) given_is
        ∙ sym (addresses-are own history item unseen step of made outcome turned no_clash))
        (stored_is ∙ kept.stored) whole

    -- as the machine makes it of the item
    pub item-taken : ReceivesMore own item (recorded_of settled old.core) (recorded_of settled new.core) (Made outcome moves)
    item-taken =
        let full = full-is own history item unseen step of made outcome turned no_clash in
        let all : new.core.history ≡ settled.history ++ (recorded_of settled new.core).pending =
        ap (λ (k : CoreView (Move O R)). k.history) longer ∙ append_assoc settled.history waiting (made ∷ []) ∙ ap (λ (r : RecordedView (Move O R)). settled.history ++ r.pending) (sym one) in
        record {
          made = made ∷ [];
          answers = (full_turn own history step, received own history item unseen step of, (made, full), ap (λ (t : machine.Turn O R A). t.made) (sym full));
          pending = ap (λ (r : RecordedView (Move O R)). r.pending) one;
          rest = refl;
          counted = subst (λ (l : List (Move O R)). (moves ≡ length l) × (length l ≤ 2 ^ 48)) all steps.takes.counted;
        }

    -- with its record
    pub item-record : (end : ℕ) → end ≡ length (file_of (staged.stored ++ staged.staged)) → HasLastRecord own (recorded_of settled old.core) (recorded_of settled new.core) (arrived.New commit moves (journal.Received given end))
    item-record end is =
        (made, ap (λ (r : RecordedView (Move O R)). r.pending) one, record-is own history item unseen step of made outcome turned no_clash given end given_is (is ∙ ap (λ (s : Stored). length (file_of s)) whole))

-- the same where no move was pending
module _ {S O R Q A : Type 0} (fixed : Fixed S O R Q A) (item : Pair) (old new : RecordedView (Move O R)) (none : old.pending ≡ []) where
  alone-by : (answer : Answer A R) → (more : ReceivesMore fixed item old new answer) → new.pending ≡ more.made → ReceivesItem fixed item old new answer
  alone-by answer more is = record {
    answers = subst (λ (l : List (Move O R)). AnswersItem fixed l item new.pending answer) (written-alone old none)
        (subst (λ (l : List (Move O R)). AnswersItem fixed (old.written ++ old.pending) item l answer) (sym is) more.answers);
    rest = more.rest;
    counted = more.counted;
  }

  behind-none : (made : List (Move O R)) → new.pending ≡ old.pending ++ made → new.pending ≡ made
  behind-none made is = is ∙ ap (λ (l : List (Move O R)). l ++ made) none

  pub received-alone : (result : Result Arrived ReceiveRefused) → ReceivesMore fixed item old new (item_answer result) → (IsErrOf result refusal.Memory → new.pending ≡ []) → ReceivesItem fixed item old new (item_answer result)
  received-alone (Ok (arrived.Here commit)) more short = alone-by (Still (machine.Here commit)) more (behind-none more.made more.pending)
  received-alone (Ok (arrived.New commit moves record_of_it)) more short = alone-by (Made (machine.New commit) moves) more (behind-none more.made more.pending)
  received-alone (Err refusal.BadBundle) more short = alone-by (Refused machine.BadBundle) more (behind-none more.made more.pending)
  received-alone (Err refusal.OwnOrigin) more short = alone-by (Refused machine.OwnOrigin) more (behind-none more.made more.pending)
  received-alone (Err (refusal.TimeClash number)) more short = alone-by (Refused (machine.TimeClash number)) more (behind-none more.made more.pending)
  received-alone (Err (refusal.Exhausted clock)) more short = alone-by (Refused (machine.Exhausted clock)) more (behind-none more.made more.pending)
  received-alone (Err (refusal.ValueTooLarge size)) more short = alone-by (Refused (machine.ValueTooLarge size)) more (behind-none more.made more.pending)
  received-alone (Err (refusal.FullCommits count)) more short = alone-by (Refused (machine.FullCommits count)) more (behind-none more.made more.pending)
  received-alone (Err (refusal.FullMoves count)) more short = alone-by (Refused (machine.FullMoves count)) more (behind-none more.made more.pending)
  received-alone (Err (refusal.Collision address stored fresh)) more short = alone-by (Refused (machine.Collision address stored fresh)) more (behind-none more.made more.pending)
  received-alone (Err refusal.Memory) more short = alone-by Short more (short refl ∙ sym more.answers)

  pub record-alone : new.written ≡ old.written → (got : Arrived) → HasLastRecord fixed old new got → HasItsRecord fixed new got
  record-alone same (arrived.Here commit) is = tt
  record-alone same (arrived.New commit moves r) (made, pending, is) = (
    made,
    behind-none (made ∷ []) pending,
    is ∙ ap (λ (l : List (Move O R)). record_of fixed l made) (written-alone old none ∙ sym same),
  )
