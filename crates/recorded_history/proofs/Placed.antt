-- What a placed and a dropped branch answer: neither makes a commit.
use Rattle.std.proofs.Common.{◌≡◌, ℕ, ◌≤◌, ◌^◌, List, [], ◌∷◌, ◌++◌, length, ap, sym, ◌∙◌, subst, Option, Some, None}
use Rattle.mrdt_model.specs.Laws.{Meaning}
use Rattle.branch_names.specs.declared.terms.Terms.{Terms}
use Rattle.branch_names.specs.Heads.{branch_named}
use Rattle.branch_wire.specs.StoredObjects.{file_of}
use Rattle.branch_history.specs.declared.moves.Move.{Move}
use Rattle.branch_history.specs.declared.moves.Move.TheVariants as move
use Rattle.branch_history.specs.History.{Store, store_of}
use Rattle.branch_history.specs.Machine.{makes, answers, unless, fork_refusal, drop_refusal, place_turn, turn}
use Rattle.branch_history.specs.Steps as machine
use Rattle.branch_history.specs.Validity.{IsValid}
use Rattle.branch_history.proofs.Valid.{made_unless, store_of-more}
use Rattle.branch_machine.specs.Fixed.{Fixed, fix}
use Rattle.branch_machine.specs.Objects.{objects_of, end_of}
use Rattle.branch_machine.specs.Machine.{commit_here}
use Rattle.branch_machine.specs.Laws.{IsNew}
use Rattle.branch_files.specs.Records.{record_with, new_address}
use Rattle.machine_answers.specs.Answers.{Made, Refused, Short}
use Rattle.object_store.specs.Views.{ObjectsView}
use Rattle.store_seen.specs.declared.answers.PlaceRefused.{PlaceRefused}
use Rattle.store_seen.specs.declared.answers.PlaceRefused.TheVariants as unplaced
use Rattle.store_seen.specs.declared.answers.DropRefused.{DropRefused}
use Rattle.store_seen.specs.declared.answers.DropRefused.TheVariants as undropped
use Rattle.store_seen.specs.Answers.{not_placed, not_dropped}
use Rattle.store_seen.specs.Turns.{StoodAt}
use Rattle.store_seen.specs.Turns as turns
use Rattle.store_seen.specs.Views.{CoreView, VersionsView}
use Rattle.recorded_history.specs.Keeps.{IsRecorded}
use Rattle.recorded_history.specs.Machine.{Steps, IsRecordOf}
use Rattle.recorded_history.specs.Views.{RecordedView, recorded_of}
use Rattle.recorded_history.proofs.Steps.{full-makes, full-refuses, none-free, none-objects, none-addresses}
use Rattle.recorded_history.proofs.Kept.{core-settled, core-more, settled-valid, settled-addressed, settled-whole, pending-one, recorded-more}

-- the moves that are made
module _ {S O R Q A : Type 0} (meaning : Meaning S O R Q A) (terms : Terms) (history : List (Move O R)) where
  module _ (name : List ℕ) (n number head : ℕ) (made : Move O R) where
    placed_as : (o : Option ℕ) → place_turn {A = A} terms history name n o ≡ makes made (machine.Forked number head) → made ≡ move.Place name number n
    placed_as (Some taken) is = let never : [] ≡ made ∷ [] = ap (λ t. t.made) is in absurd (cc)
    placed_as None is =
        let last = length (store_of terms.origin history).branches in
        let placed = makes {A = A} (move.Place name last n) (machine.Forked last n) in
        let parts = made_unless (fork_refusal terms history) placed made (ap (λ t. t.made) is) in
        let turned : placed ≡ makes made (machine.Forked number head) = sym (ap (λ o. unless o placed) parts.0) ∙ is in
        let same : move.Place name last n ≡ made = cc parts.1 in
        let one : machine.Outcome A R = machine.Forked last n in
        let other : machine.Outcome A R = machine.Forked number head in
        let counted : one ≡ other = ap (λ t. t.outcome) turned in
        let at : last ≡ number = cc in
        sym same ∙ ap (λ k. move.Place name k n) at

    pub placed-by : turn meaning terms history (machine.Place name n) ≡ makes made (machine.Forked number head) → made ≡ move.Place name number n
    unfolding turn
    placed-by is = placed_as (branch_named (store_of terms.origin history).branches name) is

  module _ (r h : ℕ) (made : Move O R) where
    pub dropped-by : turn meaning terms history (machine.Drop r h) ≡ makes made (machine.DroppedAt r h) → made ≡ move.Drop r
    unfolding turn
    dropped-by is =
        let parts = made_unless (drop_refusal terms history r h) (makes {A = A} (move.Drop r) (machine.DroppedAt r h)) made (ap (λ t. t.made) is) in
        let same : move.Drop r ≡ made = cc parts.1 in
        sym same

  -- they make no commit
  pub place-same : (name : List ℕ) (number n : ℕ) → (store_of terms.origin (history ++ move.Place name number n ∷ [])).commits ≡ (store_of terms.origin history).commits
  place-same name number n = ap (λ (s : Store O R). s.commits) (store_of-more terms.origin history (move.Place name number n))

  pub drop-same : (r : ℕ) → (store_of terms.origin (history ++ move.Drop r ∷ [])).commits ≡ (store_of terms.origin history).commits
  drop-same r = ap (λ (s : Store O R). s.commits) (store_of-more terms.origin history (move.Drop r))

module _ {S O R Q A : Type 0} (meaning : Meaning S O R Q A) (address : List ℕ → List ℕ) (settled : CoreView (Move O R)) (old : VersionsView (Move O R)) (objects : ObjectsView) (stood : List ℕ) (kept : IsRecorded meaning address (recorded_of settled old.core) stood old objects) (none : (recorded_of settled old.core).pending ≡ []) where
  abbrev fixed : Fixed S O R Q A
  fixed = fix meaning settled.terms address

  core_is : old.core ≡ settled
  core_is = core-settled meaning address settled old objects stood kept none

  -- a step that receives nothing
  module _ (step : machine.Step O Q) (plain : commit_here fixed settled.history step ≡ None) (new : VersionsView (Move O R)) where
    -- nothing has changed
    module _ (same : new ≡ old) where
      pending_none : recorded_of settled new.core ≡ record (recorded_of settled old.core) { pending = [] }
      pending_none =
          ap (λ (v : VersionsView (Move O R)). recorded_of settled v.core) same
          ∙ ap (λ (l : List (Move O R)). let r : RecordedView (Move O R) = record { written = settled.history; pending = l; terms = settled.terms } in r) none

      refused : (refusal : machine.Refusal) → turn meaning old.core.terms old.core.history step ≡ answers {A = A} (machine.Refused refusal) → Steps fixed step (recorded_of settled old.core) (recorded_of settled new.core) (Refused refusal)
      refused refusal is = record {
        turns = full-refuses fixed settled.history step plain refusal (subst (λ (k : CoreView (Move O R)). turn meaning k.terms k.history step ≡ answers {A = A} (machine.Refused refusal)) core_is is);
        pending = pending_none;
        counted = tt;
      }

      pub short : Steps fixed step (recorded_of settled old.core) (recorded_of settled new.core) Short
      short = record { turns = tt; pending = pending_none; counted = tt }

    unchanged : new.core.history ≡ old.core.history → new ≡ record { core = record { history = new.core.history; terms = old.core.terms }; addresses = old.addresses } → new ≡ old
    unchanged same rest = rest ∙ ap (λ (l : List (Move O R)). let v : VersionsView (Move O R) = record { core = record { history = l; terms = old.core.terms }; addresses = old.addresses } in v) same

    pub place-stays : (why : PlaceRefused) → turns.Steps meaning step old new old.addresses (not_placed why) → new ≡ old
    place-stays (unplaced.NameTaken number) is = unchanged is.takes.history is.rest
    place-stays (unplaced.FullBranches count) is = unchanged is.takes.history is.rest
    place-stays (unplaced.FullMoves count) is = unchanged is.takes.history is.rest
    place-stays unplaced.Memory is = unchanged is.takes.history is.rest

    pub place-refused : (why : PlaceRefused) → turns.Steps meaning step old new old.addresses (not_placed why) → Steps fixed step (recorded_of settled old.core) (recorded_of settled new.core) (not_placed why)
    place-refused (unplaced.NameTaken number) is = refused (place-stays (unplaced.NameTaken number) is) (machine.NameTaken number) is.takes.turns
    place-refused (unplaced.FullBranches count) is = refused (place-stays (unplaced.FullBranches count) is) (machine.FullBranches count) is.takes.turns
    place-refused (unplaced.FullMoves count) is = refused (place-stays (unplaced.FullMoves count) is) (machine.FullMoves count) is.takes.turns
    place-refused unplaced.Memory is = short (place-stays unplaced.Memory is)

    pub drop-stays : (why : DropRefused) → turns.Steps meaning step old new old.addresses (not_dropped why) → new ≡ old
    drop-stays (undropped.Dropped branch) is = unchanged is.takes.history is.rest
    drop-stays undropped.KeepsMain is = unchanged is.takes.history is.rest
    drop-stays (undropped.Stale newest) is = unchanged is.takes.history is.rest
    drop-stays (undropped.FullMoves count) is = unchanged is.takes.history is.rest
    drop-stays undropped.Memory is = unchanged is.takes.history is.rest

    pub drop-refused : (why : DropRefused) → turns.Steps meaning step old new old.addresses (not_dropped why) → Steps fixed step (recorded_of settled old.core) (recorded_of settled new.core) (not_dropped why)
    drop-refused (undropped.Dropped branch) is = refused (drop-stays (undropped.Dropped branch) is) (machine.Dropped branch) is.takes.turns
    drop-refused undropped.KeepsMain is = refused (drop-stays undropped.KeepsMain is) machine.KeepsMain is.takes.turns
    drop-refused (undropped.Stale newest) is = refused (drop-stays (undropped.Stale newest) is) (machine.Stale newest) is.takes.turns
    drop-refused (undropped.FullMoves count) is = refused (drop-stays (undropped.FullMoves count) is) (machine.FullMoves count) is.takes.turns
    drop-refused undropped.Memory is = short (drop-stays undropped.Memory is)

    -- the move is pending, which makes no commit
    module _ (made : Move O R) (outcome : machine.Outcome A R) (moves : ℕ) (steps : turns.Steps meaning step old new old.addresses (Made outcome moves)) (made_is : steps.takes.turns.0 ≡ made) where
      turned_old : turn meaning old.core.terms old.core.history step ≡ makes made outcome
      turned_old = steps.takes.turns.1 ∙ ap (λ (m : Move O R). makes {A = A} m outcome) made_is

      turned : turn meaning settled.terms settled.history step ≡ makes made outcome
      turned = subst (λ (k : CoreView (Move O R)). turn meaning k.terms k.history step ≡ makes made outcome) core_is turned_old

      grown : new.core ≡ record old.core { history = old.core.history ++ made ∷ [] }
      grown =
          ap (λ (v : VersionsView (Move O R)). v.core) steps.rest
          ∙ ap (λ (l : List (Move O R)). let k : CoreView (Move O R) = record { history = l; terms = old.core.terms } in k) (steps.takes.history ∙ ap (λ (t : machine.Turn O R A). old.core.history ++ t.made) turned_old)

      longer : new.core ≡ record { history = settled.history ++ made ∷ []; terms = settled.terms }
      longer = core-more meaning address settled old objects stood kept none made new.core grown

      module _ (same : (store_of settled.terms.origin (settled.history ++ made ∷ [])).commits ≡ (store_of settled.terms.origin settled.history).commits) where
        whole : objects.stored ++ objects.staged ≡ objects_of fixed (settled.history ++ made ∷ [])
        whole = settled-whole meaning address settled old objects stood kept none ∙ sym (none-objects fixed settled.history made same)

        pub quiet-kept : (head : ℕ) → IsValid meaning new.core.terms new.core.history → IsNew fixed settled.history made → StoodAt settled.terms settled.history made head → IsRecorded meaning address (recorded_of settled new.core) (head ∷ []) new objects
        quiet-kept head valid unseen stood_at =
            recorded-more meaning address settled made new longer objects head (settled-valid meaning address settled old objects stood kept) valid unseen (none-free fixed settled.history made same) stood_at
            (ap (λ (v : VersionsView (Move O R)). v.addresses) steps.rest ∙ settled-addressed meaning address settled old objects stood kept none ∙ sym (none-addresses fixed settled.history made same)) kept.stored whole

        pub quiet-taken : Steps fixed step (recorded_of settled old.core) (recorded_of settled new.core) (Made outcome moves)
        quiet-taken =
            let full = full-makes fixed settled.history step plain made outcome turned (none-free fixed settled.history made same) in
            let one = pending-one meaning address settled made new longer in
            let all : new.core.history ≡ settled.history ++ (recorded_of settled new.core).pending =
            ap (λ (k : CoreView (Move O R)). k.history) longer ∙ ap (λ (r : RecordedView (Move O R)). settled.history ++ r.pending) (sym one) in
            record {
              turns = (made, full);
              pending = one ∙ ap (λ (t : machine.Turn O R A). let r : RecordedView (Move O R) = record { written = settled.history; pending = t.made; terms = settled.terms } in r) (sym full);
              counted = subst (λ (l : List (Move O R)). (moves ≡ length l) × (length l ≤ 2 ^ 48)) all steps.takes.counted;
            }

        -- its record, given where the objects end
        pub quiet-record : (end : ℕ) → end ≡ length (file_of (objects.stored ++ objects.staged)) → IsRecordOf fixed (recorded_of settled new.core) (record_with (new_address fixed settled.history made) end made)
        quiet-record end is =
            let ends : end ≡ end_of fixed (settled.history ++ made ∷ []) = is ∙ ap (λ s. length (file_of s)) whole in
            (made, ap (λ (r : RecordedView (Move O R)). r.pending) (pending-one meaning address settled made new longer), ap (λ n. record_with (new_address fixed settled.history made) n made) ends)
