-- The commit of another store, received anew: the item that the bytes of its objects are, if any move has the record and them.
use Rattle.std.proofs.Common.{◌≡◌, ◌⊎◌, inl, inr, ℕ, ◌+◌, ◌<◌, ◌≤◌, ◌^◌, Bool, true, false, cond, List, [], ◌∷◌, ◌++◌, length, take, drop, length-append, refl, sym, ◌∙◌, ap, arith, subst, Option, Some, None, option_and_then}
use Rattle.std.specs.List.{concat, list_any}
use Rattle.std.proofs.lemmas.List.{append_cancel_right}
use Rattle.std.proofs.Math.Seq.{take-append_seam, drop-append_seam}
use Rattle.branch_wire.specs.declared.action.Action.{Action}
use Rattle.mrdt_model.specs.Laws.{Meaning, KeepsLaws}
use Rattle.branch_wire.specs.Fields.{field}
use Rattle.branch_wire.specs.Reading.{HasLength64}
use Rattle.branch_names.specs.declared.layout.Layout.{Layout}
use Rattle.branch_names.specs.declared.layout.Layout.TheVariants.{Whole, Changes}
use Rattle.branch_wire.specs.Objects.{value_object, commit_kind, commit_object}
use Rattle.branch_objects_codec.proofs.OneWay.{not_value}
use Rattle.branch_wire.specs.StoredObjects.{Stored, same, first_with, clash, collision, fresh}
use Rattle.branch_history.specs.declared.moves.Move.{Move}
use Rattle.branch_history.specs.declared.moves.Move.TheVariants as move
use Rattle.branch_history.specs.Commits.{Commit, clock_of, greatest_clock, visible}
use Rattle.branch_history.specs.History.{Store, received_commit, merge_commit, operation_commit}
use Rattle.branch_history.specs.Machine.{turn, makes, received_merge_refusal}
use Rattle.branch_history.specs.Steps.{Step, ReceiveOperation, ReceiveMerge, Outcome, Refusal, New, Turn}
use Rattle.branch_history.specs.Validity.{IsStep}
use Rattle.branch_history.proofs.Grown.{clock_of-new}
use Rattle.branch_history.proofs.Histories.{valid-kept, received-operation, received-merge}
use Rattle.branch_history.proofs.Turns.{receive_operation-makes, receive_merge-makes}
use Rattle.branch_history.proofs.Valid.{store_of-more, IsReceived, IsAccepted-from}
use Rattle.heads_journal.specs.declared.record.Record.{Record}
use Rattle.heads_journal.specs.declared.record.Record.TheVariants as entry
use Rattle.heads_journal.specs.Format.{Fits}
use Rattle.branch_machine.specs.Fixed.{Fixed, fix}
use Rattle.branch_machine.specs.Laws.{HasSize}
use Rattle.branch_machine.specs.Machine.{collision_refusal, commit_received, pair_next, commit_at, commit_here, unless_here, unless_made, full_turn}
use Rattle.branch_history.specs.Machine.{unless}
use Rattle.branch_machine.specs.Objects.{Pair, given, both, kept_value, kept_address, store_after, objects_of, end_of, region}
use Rattle.branch_machine.specs.Validity.{IsFullMove, IsFullyValid, Receives}
use Rattle.branch_machine.proofs.Distinct.{no-collision}
use Rattle.branch_machine.proofs.Items.{answered-once}
use Rattle.branch_machine.proofs.Stored.{clash-none}
use Rattle.branch_machine.proofs.Valid.{full_move-is, valid-before, valid-second, valid-more}
use Rattle.branch_files.specs.Records.{record_of, AreKnown}
use Rattle.branch_files.specs.Next.{end_at, bytes_behind, IsMade}
use Rattle.branch_files.proofs.Shapes.{received-objects}
use Rattle.machine_answers.specs.Answers.{Made, Still, Refused}
use Rattle.recorded_history.specs.Machine.{IsRecordOf}
use Rattle.recorded_history.specs.Receives.{ReceivesItem}
use Rattle.recorded_history.specs.Views.{RecordedView}
use Rattle.recorded_history.proofs.Alone.{found-alone}
use Rattle.commit_replay.specs.declared.parts.Parts.{Parts}
use Rattle.commit_replay.specs.Follows.{MayCome}
use Rattle.commit_replay.specs.Parts.{value_text, IsKept, IsDoneIn, IsOfType}
use Rattle.commit_replay.specs.declared.plan.Plan.{Plan}
use Rattle.commit_replay.specs.Plans.{IsPlanned}
use Rattle.commit_replay.specs.Walk.{TakesItem, IsTaken, IsKeptIfSame, IsValueOf, IsItemIn, IsReceivedIn, MadeAnew}
use Rattle.commit_replay.proofs.Parted.{value-part}
use Rattle.commit_replay.proofs.Steps.{files, whole, starts, whole-short, behind-is, spans-more, planned-not}

-- the first of two objects that do not collide with stored ones clashes with none of these
first-free : (address : List ℕ → List ℕ) (x y : List ℕ) (stored : Stored) → collision address stored (x ∷ y ∷ []) ≡ None → clash address x stored ≡ None
first-free address x y stored none = at (clash address x stored) none
  where
    at : (o : Option (List ℕ)) → ◌≡◌ {A = Option (List ℕ × List ℕ)} (elim o [ None ↦ collision address (stored ++ x ∷ []) (y ∷ []) | Some z ↦ Some (z, x) ]) None → o ≡ None
    at None is = refl
    at (Some z) is = cc

-- where only the second is added, which is of another kind, the first is stored
first-stored : (stored : Stored) (k : ℕ) (x y : List ℕ) → (1 ≡ k → ⊥) → concat (fresh stored ((1 ∷ x) ∷ (k ∷ y) ∷ [])) ≡ k ∷ y → list_any (same (1 ∷ x)) stored ≡ true
first-stored stored k x y other is = at (list_any (same (1 ∷ x)) stored) refl is
  where
    at : (b : Bool) → list_any (same (1 ∷ x)) stored ≡ b → concat (cond b (fresh stored ((k ∷ y) ∷ [])) ((1 ∷ x) ∷ fresh (stored ++ (1 ∷ x) ∷ []) ((k ∷ y) ∷ []))) ≡ k ∷ y → list_any (same (1 ∷ x)) stored ≡ true
    at true e added = e
    at false e added =
        let wrong : 1 ∷ (x ++ concat (fresh (stored ++ (1 ∷ x) ∷ []) ((k ∷ y) ∷ []))) ≡ k ∷ y = added in
        let kinds : 1 ≡ k = cc wrong in
        absurd (other kinds)

module _ {S O R Q A : Type 0} (fixed : Fixed S O R Q A) (moves : List (Move O R)) where
  abbrev s : Store O R
  s = store_after fixed moves

  -- a step that receives the commit of a move
  module _ (parents : List ℕ) (origin clock : ℕ) (act : Option (O × R)) where
    abbrev m : Move O R
    m = move.Received parents origin clock act

    abbrev c : Commit O R
    c = received_commit s.commits parents origin clock act

    record IsItsStep (step : Step O Q) : Type 0 where
      may : IsStep fixed.meaning s step
      received : commit_received fixed.meaning s.commits step ≡ Some c
      outcome : Outcome A R
      makes_it : turn fixed.meaning fixed.terms moves step ≡ makes m outcome

    full-received : (step : Step O Q) (is : IsItsStep step) → commit_at fixed moves (pair_next fixed moves c) ≡ None → collision_refusal fixed moves m ≡ None → full_turn fixed moves step ≡ makes m is.outcome
    unfolding full_turn
    full-received step is new free =
        let t : Turn O R A = makes m is.outcome in
        let here : commit_here fixed moves step ≡ None = ap (option_and_then (λ (k : Commit O R). commit_at fixed moves (pair_next fixed moves k))) is.received ∙ new in
        ap (λ (u : Turn O R A). unless_here (commit_here fixed moves step) (unless_made (collision_refusal fixed moves) u.made u)) is.makes_it
        ∙ ap (λ (n : Option ℕ). unless_here n (unless_made (collision_refusal fixed moves) t.made t)) here
        ∙ ap (λ (o : Option Refusal). unless o t) free

    clock-small : KeepsLaws fixed.meaning → IsFullyValid fixed (moves ++ m ∷ []) → clock < 2 ^ 64
    clock-small laws valid =
        let low = (valid-kept fixed.meaning fixed.terms laws (moves ++ m ∷ []) (valid-before fixed (moves ++ m ∷ []) valid)).low (length s.commits) in
        let is : clock_of (store_after fixed (moves ++ m ∷ [])).commits (length s.commits) ≡ clock = ap (λ (t : Store O R). clock_of t.commits (length s.commits)) (store_of-more fixed.terms.origin moves m) ∙ clock_of-new s.commits c in
        let most = fixed.terms.limits.in_range.clock_high in
        omega (arith, low, is, most)

  its-step : (parents : List ℕ) (origin clock : ℕ) (act : Option (O × R)) → IsReceived fixed.meaning fixed.terms moves parents origin clock act → (step : Step O Q) × IsItsStep parents origin clock act step
  its-step parents origin clock None is =
      let p : ℕ = is.parent in
      let ps : List ℕ = is.others in
      let none = subst (λ (l : List ℕ). received_merge_refusal fixed.meaning fixed.terms moves origin l ≡ None) is.parents_are is.received in (
        ReceiveMerge origin p ps,
        record {
          may = (is.small, is.stands, is.all_stand, is.few, is.apart);
          received = ap (λ (l : List ℕ). Some (merge_commit s.commits origin l)) (sym is.parents_are) ∙ ap (λ (k : Commit O R). Some k) (sym (received-merge fixed.meaning fixed.terms s.commits parents origin clock is.greatest));
          outcome = New (length s.commits);
          makes_it = receive_merge-makes fixed.meaning fixed.terms moves origin p ps none
              ∙ ap (λ (l : List ℕ). makes (move.Received l origin (greatest_clock s.commits l) None) (New (length s.commits))) (sym is.parents_are)
              ∙ ap (λ (k : ℕ). makes (move.Received parents origin k None) (New (length s.commits))) (sym is.greatest);
        },
      )
  its-step parents origin clock (Some d) is =
      let p : ℕ = is.parent in (
        ReceiveOperation origin p d.0,
        record {
          may = (is.small, is.stands, is.known);
          received = ap (λ (x : R). Some (operation_commit s.commits origin p d.0 x)) (sym is.replies)
              ∙ ap (λ (k : Commit O R). Some k) (sym (received-operation fixed.meaning fixed.terms s.commits p origin clock d.0 d.1 is.next))
              ∙ ap (λ (l : List ℕ). Some (received_commit s.commits l origin clock (Some (d.0, d.1)))) (sym is.parents_are);
          outcome = New (length s.commits);
          makes_it = receive_operation-makes fixed.meaning fixed.terms moves origin p d.0 is.received
              ∙ ap (λ (x : R). makes (move.Received (p ∷ []) origin (clock_of s.commits p + 1) (Some (d.0, x))) (New (length s.commits))) (sym is.replies)
              ∙ ap (λ (k : ℕ). makes (move.Received (p ∷ []) origin k (Some (d.0, d.1))) (New (length s.commits))) (sym is.next)
              ∙ ap (λ (l : List ℕ). makes (move.Received l origin clock (Some (d.0, d.1))) (New (length s.commits))) (sym is.parents_are);
        },
      )

  -- the object of its value, where the layout keeps it, stands there, or was stored
  value-of : (layout : Layout) (told : List ℕ) (v a : Option (List ℕ)) (k : ℕ) (y : List ℕ) → IsKept layout v → (1 ≡ k → ⊥) → let value : List ℕ = kept_value layout told in
      a ≡ kept_address layout (fixed.address value) → let added : List ℕ = concat (fresh (objects_of fixed moves) (given value ++ (k ∷ y) ∷ [])) in
      added ≡ value_text v ++ k ∷ y → (added ≡ k ∷ y) ⊎ (added ≡ value ++ k ∷ y) → collision fixed.address (objects_of fixed moves) (given value ++ (k ∷ y) ∷ []) ≡ None → IsValueOf fixed moves v a value
  value-of Whole told None a k y kept other addressed whole_is parts free =
      let objects : Stored = objects_of fixed moves in
      let value : List ℕ = value_object told in
      let there : list_any (same value) objects ≡ true = first-stored objects k (field told) y other whole_is in
      subst (λ (o : Option (List ℕ)). IsValueOf fixed moves None o value) (sym addressed)
      (found-alone fixed.address value objects there (λ z any e. clash-none fixed.address value z objects (first-free fixed.address value (k ∷ y) objects free) any e))
  value-of Whole told (Some spelling) a k y kept other addressed whole_is (inl is) free =
      absurd (let wrong : 1 ∷ (field spelling ++ k ∷ y) ≡ k ∷ y = sym whole_is ∙ is in let kinds : 1 ≡ k = cc wrong in other kinds)
  value-of Whole told (Some spelling) a k y kept other addressed whole_is (inr is) free =
      append_cancel_right (value_object told) (value_object spelling) (k ∷ y) (sym is ∙ whole_is)
  value-of Changes told None a k y kept other addressed whole_is parts free = subst (λ (o : Option (List ℕ)). IsValueOf fixed moves None o []) (sym addressed) refl
  value-of Changes told (Some spelling) a k y kept other addressed whole_is parts free = let e : Changes ≡ Whole = kept.0 in absurd (cc e)

-- bytes that may stand behind the history
module _ {S O R Q A : Type 0} (fixed : Fixed S O R Q A) (moves : List (Move O R)) (r : Record) (bytes : List ℕ) (laws : KeepsLaws fixed.meaning) (size : HasSize fixed.address) (valid : IsFullyValid fixed moves) (known : AreKnown fixed moves) (fits : Fits r) (may : MayCome fixed moves r) (long : end_of fixed moves + length bytes ≡ end_at r)
    (parts : Parts) (done : IsDoneIn fixed.terms.layout bytes parts) (inside : IsOfType fixed.meaning parts.value) where
  -- the machine takes the item that they are, where they and the record are those of a move
  taken : (parents : List ℕ) (origin clock : ℕ) (act : Option (O × R)) → let m : Move O R = move.Received parents origin clock act in
      IsFullMove fixed moves m → record_of fixed moves m ≡ r → region fixed moves m ≡ bytes → (item : Pair) × IsItemIn fixed moves parts bytes item × TakesItem fixed moves item r bytes
  taken parents origin clock act full recorded stored =
      let m : Move O R = move.Received parents origin clock act in
      let k : Commit O R = received_commit (store_after fixed moves).commits parents origin clock act in
      let p : Pair = pair_next fixed moves k in
      let is = full_move-is fixed moves m full in
      let begins = starts fixed moves r bytes laws size valid known fits may long in
      let behind = behind-is fixed moves r bytes laws size valid known fits may long in
      let few = whole-short fixed moves r bytes laws size valid known fits may long in
      let all : List ℕ = whole fixed moves r bytes laws size valid known fits may long in
      let spans = spans-more fixed moves all r valid begins known fits may m full recorded (stored ∙ sym behind) in
      let told = received-objects fixed laws size (files fixed moves all r valid begins known fits may) few moves parents origin clock act spans (value_text parts.value) done.commit
      (value-part fixed r bytes parts.value done.are.kept inside) done.are.commit (ap (bytes_behind fixed moves all) recorded ∙ behind ∙ done.are.whole) in
      let found = its-step fixed moves parents origin clock act (IsAccepted-from fixed.meaning fixed.terms moves m is.0) in
      let all_of : bytes ≡ value_text parts.value ++ p.commit = done.are.whole ∙ ap (λ (t : List ℕ). value_text parts.value ++ t) told.1 in
      let free = subst (λ (xs : Stored). collision fixed.address (objects_of fixed moves) xs ≡ None) told.2 (no-collision fixed moves m is.2) in
      let spelling : List ℕ = fixed.meaning.spelling_of (visible ((store_after fixed moves).commits ++ k ∷ []) (length (store_after fixed moves).commits)) in
      let own_address : Option (List ℕ) = kept_address fixed.terms.layout (fixed.address p.value) in
      let added : concat (fresh (objects_of fixed moves) (both p)) ≡ region fixed moves m = ap (λ (xs : Stored). concat (fresh (objects_of fixed moves) xs)) (sym told.2) in (
        p,
        record {
          value = value-of fixed moves fixed.terms.layout spelling parts.value parts.address (commit_kind own_address) _ done.are.kept (not_value own_address) (sym done.addressed ∙ told.0) (added ∙ stored ∙ all_of)
              (subst (λ (l : List ℕ). (l ≡ p.commit) ⊎ (l ≡ p.value ++ p.commit)) (sym added) told.3) free;
          whole = all_of;
        },
        record {
          turn = full_turn fixed moves found.0;
          receives = inr
              (inl (
                is.1,
                found.0,
                record { may = found.1.may; commit = k; received = found.1.received; clock = clock-small fixed moves parents origin clock act laws (valid-more fixed moves m valid full); objects = refl },
                refl,
              ));
          made = m;
          makes = ap (λ (t : Turn O R A). t.made) (full-received fixed moves parents origin clock act found.0 found.1 is.1 is.2);
          recorded = recorded;
          stored = stored;
        },
      )

  -- what is not taken, the machine does not make
  pub not-received : (address : List ℕ) (end : ℕ) → r ≡ entry.Received address end → ((item : Pair) → IsItemIn fixed moves parts bytes item → TakesItem fixed moves item r bytes → ⊥) → IsMade fixed moves r bytes → ⊥
  not-received address end is_r none (move.Received parents origin clock act, full, same_r, is) = let found = taken parents origin clock act full same_r is in none found.0 found.1 found.2
  not-received address end is_r none (move.Fork name count from, full, same_r, is) = let e : record_of fixed moves (move.Fork name count from) ≡ entry.Received address end = same_r ∙ is_r in cc e
  not-received address end is_r none (move.Operation b op reply, full, same_r, is) = let e : record_of fixed moves (move.Operation b op reply) ≡ entry.Received address end = same_r ∙ is_r in cc e
  not-received address end is_r none (move.Merge b k, full, same_r, is) = let e : record_of fixed moves (move.Merge b k) ≡ entry.Received address end = same_r ∙ is_r in cc e
  not-received address end is_r none (move.Join b ks, full, same_r, is) = let e : record_of fixed moves (move.Join b ks) ≡ entry.Received address end = same_r ∙ is_r in cc e
  not-received address end is_r none (move.Forward b k, full, same_r, is) = let e : record_of fixed moves (move.Forward b k) ≡ entry.Received address end = same_r ∙ is_r in cc e
  not-received address end is_r none (move.Place name count k, full, same_r, is) = let e : record_of fixed moves (move.Place name count k) ≡ entry.Received address end = same_r ∙ is_r in cc e
  not-received address end is_r none (move.Drop b, full, same_r, is) = let e : record_of fixed moves (move.Drop b) ≡ entry.Received address end = same_r ∙ is_r in cc e

-- what neither a plan nor the item remakes, the machine does not make
pub not-anew : {S O R Q A : Type 0} (meaning : Meaning S O R Q A) (address : List ℕ → List ℕ) (old new : RecordedView (Move O R)) → let fixed : Fixed S O R Q A = fix meaning old.terms address in
    (r : Record) (bytes : List ℕ) (laws : KeepsLaws meaning) (size : HasSize address) (valid : IsFullyValid fixed old.written) (known : AreKnown fixed old.written) (fits : Fits r) (may : MayCome fixed old.written r) (long : end_of fixed old.written + length bytes ≡ end_at r)
    (parts : Parts) (done : IsDoneIn old.terms.layout bytes parts) (action : Action) → done.commit.action ≡ action → (plan : Option (Plan O)) → IsPlanned meaning r action plan → MadeAnew fixed old new plan parts r bytes false → IsOfType meaning parts.value → IsMade fixed old.written r bytes → ⊥
not-anew meaning address old new r bytes laws size valid known fits may long parts done action does (Some p) planned made inside =
    planned-not (fix meaning old.terms address) old.written r bytes laws size valid known fits may long r refl action p planned parts.value done.commit done.are inside does made.1
not-anew meaning address old new r bytes laws size valid known fits may long parts done action does None (own, end, is) made inside =
    not-received (fix meaning old.terms address) old.written r bytes laws size valid known fits may long parts done inside own end is made.1

-- an item that the bytes are is the one that is cut out of them
module _ {S O R Q A : Type 0} (fixed : Fixed S O R Q A) (moves : List (Move O R)) (parts : Parts) (bytes : List ℕ) (done : IsDoneIn fixed.terms.layout bytes parts) where
  abbrev text : List ℕ
  text = value_text parts.value

  pub cut-value : take parts.place bytes ≡ text
  cut-value = ap (λ (n : ℕ). take n bytes) (sym done.placed) ∙ ap (take (length text)) done.are.whole ∙ take-append_seam text (commit_object done.commit)

  pub within : parts.place ≤ length bytes
  within = omega (arith, done.placed, ap length done.are.whole, length-append text (commit_object done.commit))

  module _ (item : Pair) (is : IsItemIn fixed moves parts bytes item) where
    cut-commit : item.commit ≡ drop parts.place bytes
    cut-commit = sym (ap (λ (n : ℕ). drop n bytes) (sym done.placed) ∙ ap (drop (length text)) is.whole ∙ drop-append_seam text item.commit)

    pub value-shown : (spelling : List ℕ) → parts.value ≡ Some spelling → item.value ≡ take parts.place bytes
    value-shown spelling some =
        subst (λ (o : Option (List ℕ)). IsValueOf fixed moves o parts.address item.value) some is.value ∙ ap value_text (sym some) ∙ sym cut-value

    -- none is told: it is the stored one with the address, where there is one, and else there is none
    value-untold : (address : Option (List ℕ)) → parts.value ≡ None → parts.address ≡ address → IsValueOf fixed moves None address item.value
    value-untold address none at =
        subst (λ (a : Option (List ℕ)). IsValueOf fixed moves None a item.value) at
        (subst (λ (o : Option (List ℕ)). IsValueOf fixed moves o parts.address item.value) none is.value)

    pub value-stored : (stored address : List ℕ) → parts.value ≡ None → parts.address ≡ Some address → Some stored ≡ first_with fixed.address address (objects_of fixed moves) → item.value ≡ stored
    value-stored stored address none at found =
        let alike : Some item.value ≡ Some stored = sym (value-untold (Some address) none at) ∙ sym found in
        cc alike

    pub none-stored : (address : List ℕ) → parts.value ≡ None → parts.address ≡ Some address → None ≡ first_with fixed.address address (objects_of fixed moves) → ⊥
    none-stored address none at found =
        let alike : Some item.value ≡ None = sym (value-untold (Some address) none at) ∙ sym found in
        cc alike

    pub value-none : parts.value ≡ None → parts.address ≡ None → item.value ≡ take parts.place bytes
    value-none none at = value-untold None none at ∙ ap value_text (sym none) ∙ sym cut-value

-- what is answered to that item
pub received-if : {S O R Q A : Type 0} (fixed : Fixed S O R Q A) (old new : RecordedView (Move O R)) (parts : Parts) (r : Record) (bytes : List ℕ) → IsDoneIn fixed.terms.layout bytes parts → (given : Pair) → given.commit ≡ drop parts.place bytes → ((item : Pair) → IsItemIn fixed old.written parts bytes item → item.value ≡ given.value)
    → (same : Bool) → IsTaken fixed old new given r bytes same → IsReceivedIn fixed old new parts r bytes same
received-if fixed old new parts r bytes done given commit value true is = is
received-if fixed old new parts r bytes done given commit value false is = (
  is.0,
  λ item of takes.
      let alike : item ≡ given =
      ap (λ (v : List ℕ). let p : Pair = record { value = v; commit = item.commit } in p) (value item of)
      ∙ ap (λ (t : List ℕ). let p : Pair = record { value = given.value; commit = t } in p) (cut-commit fixed old.written parts bytes done item of ∙ sym commit) in
      is.1 (subst (λ (p : Pair). TakesItem fixed old.written p r bytes) alike takes),
)

-- what a recorded history answers to the item
module _ {S O R Q A : Type 0} (meaning : Meaning S O R Q A) (laws : KeepsLaws meaning) (address : List ℕ → List ℕ) (size : HasSize address) (old new : RecordedView (Move O R)) (valid : IsFullyValid (fix meaning old.terms address) old.written) (settled : old.pending ≡ [])
    (item : Pair) (short : HasLength64 item.commit) (r : Record) (bytes : List ℕ) where
  abbrev own : Fixed S O R Q A
  own = fix meaning old.terms address

  back : record old { pending = [] } ≡ old
  back = ap (λ (p : List (Move O R)). record old { pending = p }) (sym settled)

  same-turn : (turned : Turn O R A) → Receives own old.written item turned → (takes : TakesItem own old.written item r bytes) → turned.made ≡ takes.made ∷ []
  same-turn turned receives takes = ap (λ (t : Turn O R A). t.made) (answered-once own laws size old.written valid item short turned takes.turn receives takes.receives) ∙ takes.makes

  -- it makes no move
  not-taken : (turned : Turn O R A) → Receives own old.written item turned → new ≡ record old { pending = [] } → turned.made ≡ [] → IsTaken own old new item r bytes false
  not-taken turned receives rest none = (rest ∙ back, λ takes. (let e : [] ≡ takes.made ∷ [] = sym none ∙ same-turn turned receives takes in cc e))

  pub still-taken : (outcome : Outcome A R) → ReceivesItem own item old new (Still outcome) → IsTaken own old new item r bytes false
  still-taken outcome is =
      not-taken is.answers.0 is.answers.1 (is.rest ∙ ap (λ (p : List (Move O R)). record old { pending = p }) is.answers.3) (ap (λ (t : Turn O R A). t.made) is.answers.2)

  pub refused-taken : (why : Refusal) → ReceivesItem own item old new (Refused why) → IsTaken own old new item r bytes false
  refused-taken why is =
      not-taken is.answers.0 is.answers.1 (is.rest ∙ ap (λ (p : List (Move O R)). record old { pending = p }) is.answers.3) (ap (λ (t : Turn O R A). t.made) is.answers.2)

  -- it makes one, which is kept where it is the one that stands in the files
  taken-if-same : (turned : Turn O R A) → Receives own old.written item turned → (made : Move O R) → turned.made ≡ made ∷ [] → IsFullyValid own (old.written ++ made ∷ [])
      → (kept : Bool) → IsKeptIfSame own (record old { pending = made ∷ [] }) new made r bytes kept → IsTaken own old new item r bytes kept
  taken-if-same turned receives made one longer true is = record { made = made; full = (valid-second own old.written (made ∷ []) longer).0; recorded = is.0; stored = is.1; grown = is.2 }
  taken-if-same turned receives made one longer false is = (
    is.0 ∙ back,
    λ takes.
        let e : made ∷ [] ≡ takes.made ∷ [] = sym one ∙ same-turn turned receives takes in
        let alike : made ≡ takes.made = cc e in
        is.1 (ap (record_of own old.written) alike ∙ takes.recorded) (ap (region own old.written) alike ∙ takes.stored),
  )

  pub new-taken : (mid : RecordedView (Move O R)) (outcome : Outcome A R) (count : ℕ) → ReceivesItem own item old mid (Made outcome count) → (its : Record) → IsRecordOf own mid its → IsFullyValid (fix meaning mid.terms address) (mid.written ++ mid.pending)
      → (kept : Bool) → ((n : Move O R) → mid.pending ≡ n ∷ [] → its ≡ record_of (fix meaning mid.terms address) mid.written n → IsKeptIfSame (fix meaning mid.terms address) mid new n r bytes kept) → IsTaken own old new item r bytes kept
  new-taken mid outcome count is its recorded longer kept keeps =
      let turned : Turn O R A = is.answers.0 in
      let made : Move O R = is.answers.2.0 in
      let one : turned.made ≡ made ∷ [] = ap (λ (t : Turn O R A). t.made) is.answers.2.1 in
      let pending : mid.pending ≡ made ∷ [] = is.answers.3 ∙ one in
      let all : mid ≡ record old { pending = made ∷ [] } = is.rest ∙ ap (λ (p : List (Move O R)). record old { pending = p }) pending in
      let e : recorded.0 ∷ [] ≡ made ∷ [] = sym recorded.1 ∙ pending in
      let alike : recorded.0 ≡ made = cc e in
      let told : its ≡ record_of own mid.written made = recorded.2 ∙ ap (record_of own mid.written) alike in
      taken-if-same turned is.answers.1 made one (subst (λ (x : RecordedView (Move O R)). IsFullyValid (fix meaning x.terms address) (x.written ++ x.pending)) all longer) kept
      (subst
      (λ (x : RecordedView (Move O R)). (n : Move O R) → x.pending ≡ n ∷ [] → its ≡ record_of (fix meaning x.terms address) x.written n → IsKeptIfSame (fix meaning x.terms address) x new n r bytes kept) all
      keeps made refl (subst (λ (x : RecordedView (Move O R)). its ≡ record_of own x.written made) all told))
