-- What a core answered to an item of a bundle, from what was received in memory and put on the disk.
use Rattle.std.proofs.Common.{◌≡◌, inl, inr, ℕ, Bool, true, false, List, [], ◌∷◌, length, refl, sym, ◌∙◌, ap, subst}
use Rattle.std.specs.Prelude.{Err}
use Rattle.branch_disk.specs.Disk.{Files, LeavesOnly}
use Rattle.branch_disk.specs.Moments.{started}
use Rattle.branch_disk.specs.declared.disk.Disk.{Ghosts}
use Rattle.mrdt_model.specs.Laws.{Meaning}
use Rattle.branch_history.specs.declared.moves.Move.{Move}
use Rattle.branch_history.specs.Steps.{Step, Outcome, Turn, Refusal}
use Rattle.branch_history.specs.Steps as machine
use Rattle.branch_history.specs.Machine.{answers, makes}
use Rattle.branch_machine.specs.Fixed.{Fixed, fix}
use Rattle.branch_machine.specs.Machine.{full_turn}
use Rattle.branch_machine.specs.Objects.{Pair}
use Rattle.branch_machine.specs.Validity.{Receives}
use Rattle.machine_answers.specs.Answers.{Answer, Made, Refused, Failed, Short}
use Rattle.recorded_history.specs.declared.arrivals.ReceiveRefused.{ReceiveRefused as ReceiveRefusedBelow}
use Rattle.recorded_history.specs.declared.arrivals.ReceiveRefused.TheVariants as below
use Rattle.recorded_history.specs.Machine.{Steps}
use Rattle.recorded_history.specs.Receives.{ReceivesItem}
use Rattle.recorded_history.specs.Receives as recorded
use Rattle.recorded_history.specs.Views.{RecordedView}
use Rattle.store_core.specs.declared.answers.ReceiveRefused.{ReceiveRefused}
use Rattle.store_core.specs.Answers.{turn_of}
use Rattle.store_core.specs.Images.{AllStand, WithOrWithout}
use Rattle.store_core.specs.Receiving.{item_refused, receive_answer, IsTurnOf, TakesItem}
use Rattle.store_core.specs.Views.{StoreView}
use Rattle.store_core.proofs.Answered.{Answered, view_of}

-- A commit was received in memory, and is pending: the machine makes the move of a step that receives it.
module _ {S O R Q A : Type 0} (fixed : Fixed S O R Q A) (item : Pair) (r0 r1 : RecordedView (Move O R)) (outcome : Outcome A R) (moves : ℕ) where
  pub record Stepped : Type 0 where
    pub step : Step O Q
    pub steps : Steps fixed step r0 r1 (Made outcome moves)
    pub received : Receives fixed r0.written item (full_turn fixed r0.written step)

  -- no turn that makes a move makes none
  moves-none : (turn : Turn O R A) (m : Move O R) (other : Outcome A R) → turn ≡ makes m outcome → turn ≡ answers other → ⊥
  moves-none turn m other turns t = let bad : m ∷ [] ≡ [] = ap (λ (u : Turn O R A). u.made) (sym turns ∙ t) in absurd (cc bad)

  stepped-by : ReceivesItem fixed item r0 r1 (Made outcome moves) → (turn : Turn O R A) → (m : Move O R) → turn ≡ makes m outcome → r1.pending ≡ turn.made → Receives fixed r0.written item turn → Stepped
  stepped-by is turn m turns pending (inl (n, here, t)) = absurd (moves-none turn m (machine.Here n) turns t)
  stepped-by is turn m turns pending (inr (inr (none, never, t))) = absurd (moves-none turn m (machine.Refused machine.BadBundle) turns t)
  stepped-by is turn m turns pending (inr (inl (none, step, item-of, t))) = record {
    step = step;
    steps = record {
      turns = (m, sym t ∙ turns);
      pending = is.rest ∙ ap (λ (ms : List (Move O R)). record r0 { pending = ms }) (pending ∙ ap (λ (u : Turn O R A). u.made) t);
      counted = is.counted;
    };
    received = inr (inl (none, step, item-of, refl));
  }

  pub stepped : ReceivesItem fixed item r0 r1 (Made outcome moves) → Stepped
  stepped is = let (turn, received, turns, pending) = is.answers in stepped-by is turn turns.0 turns.1 pending received

-- the bytes that were handed on are those of the item
pub of_bytes : {S O R Q A : Type 0} (fixed : Fixed S O R Q A) (r0 r1 : RecordedView (Move O R)) (answer : Answer A R) (value commit v c : List ℕ) → value ≡ v → commit ≡ c
    → ReceivesItem fixed (record { value = value; commit = commit }) r0 r1 answer → ReceivesItem fixed (record { value = v; commit = c }) r0 r1 answer
of_bytes fixed r0 r1 answer value commit v c same also is =
    subst (λ x. ReceivesItem fixed (record { value = v; commit = x }) r0 r1 answer) also
    (subst (λ x. ReceivesItem fixed (record { value = x; commit = commit }) r0 r1 answer) same is)

module _ {D S O R Q A : Type 0} (disk : Ghosts D) (meaning : Meaning S O R Q A) (address : List ℕ → List ℕ) (item : Pair) where
  -- the step receives the item of the store
  pub turn_at : (old : StoreView (Move O R) D) (r0 r1 : RecordedView (Move O R)) (outcome : Outcome A R) (moves : ℕ) (d opened : D) (failed0 : Bool) → view_of r0 failed0 d opened ≡ old
      → (s : Stepped (fix meaning r0.terms address) item r0 r1 outcome moves) → Receives (fix meaning old.terms address) old.history item (turn_of meaning address old s.step)
  turn_at old r0 r1 outcome moves d opened failed0 view_is s =
      subst (λ (v : StoreView (Move O R) D). Receives (fix meaning v.terms address) v.history item (turn_of meaning address v s.step)) view_is s.received

  -- what was answered to a step that receives the item is answered to the item
  pub by_step : (old new : StoreView (Move O R) D) (answer : Answer A R) (step : Step O Q) → IsTurnOf (fix meaning old.terms address) old.history item answer (turn_of meaning address old step)
      → Answered disk meaning address step old new answer → TakesItem disk meaning address item old new answer
  by_step old new answer step received a = record { turn = turn_of meaning address old step; received = received; takes = a.takes; leaves = a.leaves }

  -- nothing moved
  module _ (old new : StoreView (Move O R) D) (only_now : (d : D) (c : Files) → disk.left_since d (disk.moment d) c → disk.may_leave d c)
      (stands : old.failed ≡ false → AllStand (fix meaning old.terms address) old.history (disk.may_leave old.disk)) (same : new ≡ old) where
    -- at each moment of the call a crash leaves the history
    still : (made : List (Move O R)) → old.failed ≡ false → LeavesOnly disk.moment disk.left_since old.disk new.disk (WithOrWithout (fix meaning old.terms address) old.history made)
    still made worked = subst (λ (v : StoreView (Move O R) D). LeavesOnly disk.moment disk.left_since old.disk v.disk (WithOrWithout (fix meaning old.terms address) old.history made)) (sym same)
        (started disk.moment disk.left_since old.disk _ (λ c left. inl (stands worked c (only_now old.disk c left))))

    history : new.history ≡ old.history
    history = ap (λ (v : StoreView (Move O R) D). v.history) same

    faults : disk.faults new.disk ≡ disk.faults old.disk
    faults = ap (λ (v : StoreView (Move O R) D). disk.faults v.disk) same

    pub refused : (turn : Turn O R A) (why : Refusal) → old.failed ≡ false → Receives (fix meaning old.terms address) old.history item turn → turn ≡ answers (machine.Refused why) → TakesItem disk meaning address item old new (Refused why)
    refused turn why worked received turns = record {
      turn = turn;
      received = received;
      takes = record { turns = turns; history = history; counted = tt };
      leaves = record { worked = worked; keeps = same; stands = tt; moments = still turn.made; tells = tt; faults = faults };
    }

    -- no turn was taken
    abbrev none : Turn O R A
    none = answers (machine.Refused machine.BadBundle)

    pub short : old.failed ≡ false → TakesItem disk meaning address item old new Short
    short worked = record {
      turn = none;
      received = refl;
      takes = record { turns = tt; history = history; counted = tt };
      leaves = record { worked = worked; keeps = same; stands = tt; moments = still []; tells = tt; faults = faults };
    }

    pub failed : (n : ℕ) → old.failed ≡ true → n ≡ length old.history → TakesItem disk meaning address item old new (Failed n)
    failed n had counted = record {
      turn = none;
      received = refl;
      takes = record { turns = tt; history = history; counted = counted ∙ sym (ap length history) };
      leaves = record { worked = had; keeps = same; stands = tt; moments = still []; tells = tt; faults = faults };
    }

  -- an item that was answered in memory, and moved nothing
  module _ (old : StoreView (Move O R) D) (r0 r1 : RecordedView (Move O R)) (d opened : D) (failed0 : Bool) (view_is : view_of r0 failed0 d opened ≡ old)
      (only_now : (d : D) (c : Files) → disk.left_since d (disk.moment d) c → disk.may_leave d c)
      (stands : failed0 ≡ false → AllStand (fix meaning r0.terms address) r0.written (disk.may_leave d)) (settled : r0.pending ≡ []) where
    abbrev now : StoreView (Move O R) D
    now = view_of r1 failed0 d opened

    abbrev before : StoreView (Move O R) D
    before = view_of r0 failed0 d opened

    abbrev Is : Answer A R → Type 0
    Is answer = ReceivesItem (fix meaning r0.terms address) item r0 r1 answer

    -- what waits is what waited
    unmoved : r1.pending ≡ [] → (answer : Answer A R) → Is answer → r1 ≡ r0
    unmoved none answer is = is.rest ∙ ap (λ (ms : List (Move O R)). record r0 { pending = ms }) (none ∙ sym settled)

    same : r1 ≡ r0 → now ≡ before
    same kept = ap (λ (x : RecordedView (Move O R)). view_of x failed0 d opened) kept

    of_old : (answer : Answer A R) → TakesItem disk meaning address item before now answer → TakesItem disk meaning address item old now answer
    of_old answer takes = subst (λ (v : StoreView (Move O R) D). TakesItem disk meaning address item v now answer) view_is takes

    pub item_failed : (n : ℕ) → failed0 ≡ true → n ≡ length r0.written → TakesItem disk meaning address item old old (Failed n)
    item_failed n had counted = subst (λ (v : StoreView (Move O R) D). TakesItem disk meaning address item v v (Failed n)) view_is
        (failed before before only_now stands refl n had counted)

    module _ (worked : failed0 ≡ false) where
      refuses : (why : Refusal) → Is (Refused why) → TakesItem disk meaning address item old now (Refused why)
      refuses why is = let (turn, received, turns, pending) = is.answers in
          of_old (Refused why) (refused before now only_now stands (same (unmoved pending (Refused why) is)) turn why worked received turns)

      pub item_refused_as : (number : ℕ) (e : ReceiveRefusedBelow) → Is (recorded.item_refused e) → TakesItem disk meaning address item old now (receive_answer (Err (item_refused number e)))
      item_refused_as number below.BadBundle is = refuses machine.BadBundle is
      item_refused_as number below.OwnOrigin is = refuses machine.OwnOrigin is
      item_refused_as number (below.TimeClash commit) is = refuses (machine.TimeClash commit) is
      item_refused_as number (below.Exhausted clock) is = refuses (machine.Exhausted clock) is
      item_refused_as number (below.ValueTooLarge length) is = refuses (machine.ValueTooLarge length) is
      item_refused_as number (below.FullCommits count) is = refuses (machine.FullCommits count) is
      item_refused_as number (below.FullMoves count) is = refuses (machine.FullMoves count) is
      item_refused_as number (below.Collision a stored fresh) is = refuses (machine.Collision a stored fresh) is
      item_refused_as number below.Memory is = of_old Short (short before now only_now stands (same (unmoved is.answers Short is)) worked)

      pub item_refused_at : (number : ℕ) (x : ReceiveRefused) (e : ReceiveRefusedBelow) → x ≡ item_refused number e → Is (recorded.item_refused e) → TakesItem disk meaning address item old now (receive_answer (Err x))
      item_refused_at number x e same is = subst (λ (y : ReceiveRefused). TakesItem disk meaning address item old now (receive_answer (Err y))) (sym same) (item_refused_as number e is)
