-- What a call answered and left, from what was made and put on the disk.
use Rattle.std.proofs.Common.{◌≡◌, ℕ, ◌≤◌, ◌^◌, Bool, true, false, List, [], ◌∷◌, ◌++◌, length, refl, sym, ◌∙◌, ap, subst, inl}
use Rattle.branch_io.specs.Causes.{Rose}
use Rattle.branch_disk.specs.Disk.{Files, LeavesOnly}
use Rattle.branch_disk.specs.Moments.{started, weakened, now_too}
use Rattle.branch_disk.specs.declared.disk.Disk.{Ghosts}
use Rattle.mrdt_model.specs.Laws.{Meaning}
use Rattle.branch_history.specs.declared.moves.Move.{Move}
use Rattle.branch_history.specs.Steps.{Step, Outcome, Turn, Refusal}
use Rattle.branch_machine.specs.Fixed.{fix}
use Rattle.branch_machine.specs.Validity.{IsFullyValid}
use Rattle.machine_answers.specs.Answers.{Answer, Made, Refused, Fault, Failed, Short, Takes}
use Rattle.heads_journal.specs.declared.record.Record.{Record}
use Rattle.recorded_history.specs.Machine.{FullyRefuses, Makes, Steps}
use Rattle.recorded_history.specs.Views.{RecordedView}
use Rattle.store_core.specs.Answers.{turn_of, Leaves}
use Rattle.store_core.specs.Contents.{HoldsExactly, LeavesExactly, LeavesTorn, MayTear, PutsExactly}
use Rattle.store_core.specs.Images.{AllStand, WithFirst, WithOrWithout}
use Rattle.store_core.specs.Turns.{Moves}
use Rattle.store_core.specs.Views.{StoreView}
use Rattle.store_core.proofs.Landings.{moves_so, made_so, leaves_so, valid_so, exactly_so, torn_so}

-- a store with this recorded history
abbrev pub view_of : {M D : Type 0} → RecordedView M → Bool → D → D → StoreView M D
view_of r failed d opened = record { history = r.written; terms = r.terms; failed = failed; disk = d; opened = opened }

module _ {D S O R Q A : Type 0} (disk : Ghosts D) (meaning : Meaning S O R Q A) (address : List ℕ → List ℕ) (step : Step O Q) where
  -- both clauses of a call
  pub record Answered (old new : StoreView (Move O R) D) (answer : Answer A R) : Type 0 where
    pub takes : Takes (turn_of meaning address old step) old.history new.history answer
    pub leaves : Leaves disk meaning address step old new answer

  module _ (old new : StoreView (Move O R) D) where
    abbrev turn_made : List (Move O R)
    turn_made = (turn_of meaning address old step).made

    -- at each moment of the call a crash leaves the history, or that with the move
    abbrev pub LeavesEither : Type 0
    LeavesEither = LeavesOnly disk.moment disk.left_since old.disk new.disk (WithOrWithout (fix meaning old.terms address) old.history turn_made)

    -- the move was made
    pub made : (m : Move O R) (outcome : Outcome A R) (n : ℕ) → Moves (fix meaning old.terms address) old new step m outcome n
        → AllStand (fix meaning old.terms address) (old.history ++ m ∷ []) (disk.may_leave new.disk) → LeavesEither → LeavesExactly meaning address disk.contents old new
        → disk.faults new.disk ≡ disk.faults old.disk → Answered old new (Made outcome n)
    made m outcome n moves stands moments tells same =
        let turned : turn_made ≡ m ∷ [] = ap (λ (t : Turn O R A). t.made) moves.turn_is in
        let longer : new.history ≡ old.history ++ m ∷ [] = ap (λ (v : StoreView (Move O R) D). v.history) moves.history in
        let history : new.history ≡ old.history ++ turn_made = longer ∙ sym (ap (λ (ms : List (Move O R)). old.history ++ ms) turned) in
        let keeps : new ≡ record old { history = new.history; disk = new.disk } =
        moves.history ∙ sym (ap (λ (h : List (Move O R)). record old { history = h; disk = new.disk }) longer) in
        record {
          takes = record { turns = (m, moves.turn_is); history = history; counted = (moves.counted, moves.few) };
          leaves = record {
            worked = moves.worked;
            keeps = keeps;
            stands = subst (λ (ms : List (Move O R)). AllStand (fix meaning old.terms address) (old.history ++ ms) (disk.may_leave new.disk)) (sym turned) stands;
            moments = λ _. moments;
            tells = tells;
            faults = same;
          };
        }

    -- the disk failed under the move
    pub fault : ((d : D) (t : ℕ) (c : Files) → t ≤ disk.moment d → disk.may_leave d c → disk.left_since d t c)
        → (m : Move O R) → turn_made ≡ m ∷ [] → old.failed ≡ false → new ≡ record old { failed = true; disk = new.disk } → LeavesEither
        → LeavesTorn meaning address disk.contents old new step
        → IsFullyValid (fix meaning old.terms address) (old.history ++ turn_made) → disk.faults old.disk ≤ disk.faults new.disk → Rose (disk.faults old.disk) (disk.faults new.disk)
        → Answered old new Fault
    fault counts_now m turned worked keeps moments tells valid later rose = record {
      takes = record { turns = (m, turned); history = ap (λ (v : StoreView (Move O R) D). v.history) keeps; counted = tt };
      leaves = record {
        worked = worked;
        keeps = keeps;
        stands = (λ c image. now_too disk.moment disk.left_since disk.may_leave counts_now _ _ _ moments c image, valid);
        moments = λ _. moments;
        tells = tells;
        faults = (later, rose);
      };
    }

    module _ (only_now : (d : D) (c : Files) → disk.left_since d (disk.moment d) c → disk.may_leave d c)
        (stands : old.failed ≡ false → AllStand (fix meaning old.terms address) old.history (disk.may_leave old.disk)) (same : new ≡ old) where
      -- nothing moved
      still : old.failed ≡ false → LeavesEither
      still worked = subst (λ (v : StoreView (Move O R) D). LeavesOnly disk.moment disk.left_since old.disk v.disk (WithOrWithout (fix meaning old.terms address) old.history turn_made)) (sym same)
          (started disk.moment disk.left_since old.disk _ (λ c left. inl (stands worked c (only_now old.disk c left))))

      history : new.history ≡ old.history
      history = ap (λ (v : StoreView (Move O R) D). v.history) same

      faults : disk.faults new.disk ≡ disk.faults old.disk
      faults = ap (λ (v : StoreView (Move O R) D). disk.faults v.disk) same

      pub refused : (why : Refusal) → old.failed ≡ false → FullyRefuses (fix meaning old.terms address) old.history step why → Answered old new (Refused why)
      refused why worked is = record {
        takes = record { turns = is; history = history; counted = tt };
        leaves = record { worked = worked; keeps = same; stands = tt; moments = still; tells = tt; faults = faults };
      }

      pub short : old.failed ≡ false → Answered old new Short
      short worked = record {
        takes = record { turns = tt; history = history; counted = tt };
        leaves = record { worked = worked; keeps = same; stands = tt; moments = still; tells = tt; faults = faults };
      }

      pub failed : (n : ℕ) → old.failed ≡ true → n ≡ length old.history → Answered old new (Failed n)
      failed n had counted = record {
        takes = record { turns = tt; history = history; counted = counted ∙ sym (ap length history) };
        leaves = record { worked = had; keeps = same; stands = tt; moments = still; tells = tt; faults = faults };
      }

  -- a move that was made in memory, and then put on the disk
  module _ (old : StoreView (Move O R) D) (r0 r1 r2 : RecordedView (Move O R)) (m : Move O R) (outcome : Outcome A R) (n : ℕ) (r : Record)
      (makes : Makes (fix meaning r0.terms address) r0 r1 step m outcome n r) (d0 d1 opened : D) (failed0 failed1 : Bool)
      (view_is : view_of r0 failed0 d0 opened ≡ old) (worked : failed0 ≡ false)
      (any_moment : LeavesOnly disk.moment disk.left_since d0 d1 (WithFirst (fix meaning r1.terms address) r1.written r1.pending)) where
    moments : LeavesEither (view_of r0 failed0 d0 opened) (view_of r2 failed1 d1 opened)
    moments = weakened disk.moment disk.left_since d0 d1 _ _ any_moment (leaves_so meaning address r0 r1 step m outcome n r makes d0 opened failed0 _ refl)

    pub put_made : r2 ≡ record { written = r1.written ++ r1.pending; pending = []; terms = r1.terms } → length (r1.written ++ r1.pending) ≤ 2 ^ 48 → failed1 ≡ false
        → AllStand (fix meaning r1.terms address) (r1.written ++ r1.pending) (disk.may_leave d1) → PutsExactly meaning address r1 (disk.contents d0) (disk.contents d1)
        → disk.faults d1 ≡ disk.faults d0 → Answered old (view_of r2 failed1 d1 opened) (Made outcome n)
    put_made settled few works stands exact same =
        let moves = moves_so meaning address r0 r1 step m outcome n r makes d0 opened failed0 _ refl worked r2 settled few d1 failed1 works in
        let stand = subst (λ (x : RecordedView (Move O R)). AllStand (fix meaning x.terms address) (x.written ++ x.pending) (disk.may_leave d1)) makes.pending stands in
        let tells : HoldsExactly (fix meaning r0.terms address) r2.written (disk.contents d0) (disk.contents d1) =
        exactly_so meaning address r0 r1 step m outcome n r makes d0 opened failed0 _ refl disk.contents (disk.contents d1) r2 settled exact in
        subst (λ (v : StoreView (Move O R) D). Answered v (view_of r2 failed1 d1 opened) (Made outcome n)) view_is
        (made (view_of r0 failed0 d0 opened) (view_of r2 failed1 d1 opened) m outcome n moves stand moments tells same)

    pub put_fault : ((d : D) (t : ℕ) (c : Files) → t ≤ disk.moment d → disk.may_leave d c → disk.left_since d t c)
        → r2 ≡ record r1 { pending = [] } → failed1 ≡ true → IsFullyValid (fix meaning r1.terms address) (r1.written ++ r1.pending)
        → MayTear meaning address r1 (disk.contents d0) (disk.contents d1)
        → disk.faults d0 ≤ disk.faults d1 → Rose (disk.faults d0) (disk.faults d1) → Answered old (view_of r2 failed1 d1 opened) Fault
    put_fault counts_now undone fails valid torn later rose =
        let back : r2 ≡ record r0 { pending = [] } = undone ∙ ap (λ (x : RecordedView (Move O R)). record x { pending = [] }) makes.pending in
        let written : r2.written ≡ r0.written = ap (λ (x : RecordedView (Move O R)). x.written) back in
        let terms : r2.terms ≡ r0.terms = ap (λ (x : RecordedView (Move O R)). x.terms) back in
        let keeps : view_of r2 failed1 d1 opened ≡ view_of r0 true d1 opened = cc (written, terms, fails) in
        let tells = torn_so meaning address r0 r1 step m outcome n r makes d0 opened failed0 _ refl disk.contents (disk.contents d1) torn in
        subst (λ (v : StoreView (Move O R) D). Answered v (view_of r2 failed1 d1 opened) Fault) view_is
        (fault (view_of r0 failed0 d0 opened) (view_of r2 failed1 d1 opened) counts_now m (made_so meaning address r0 r1 step m outcome n r makes d0 opened failed0 _ refl) worked keeps moments tells
        (valid_so meaning address r0 r1 step m outcome n r makes d0 opened failed0 _ refl valid) later rose)

  -- nothing moved, of a store with this recorded history
  module _ (old : StoreView (Move O R) D) (r0 r1 : RecordedView (Move O R)) (d opened : D) (failed0 : Bool) (view_is : view_of r0 failed0 d opened ≡ old)
      (only_now : (d : D) (c : Files) → disk.left_since d (disk.moment d) c → disk.may_leave d c)
      (stands : failed0 ≡ false → AllStand (fix meaning r0.terms address) r0.written (disk.may_leave d)) (kept : r1 ≡ r0) where
    same : view_of r1 failed0 d opened ≡ view_of r0 failed0 d opened
    same = ap (λ (x : RecordedView (Move O R)). view_of x failed0 d opened) kept

    pub still_refused : (why : Refusal) → failed0 ≡ false → FullyRefuses (fix meaning r0.terms address) r0.written step why → Answered old (view_of r1 failed0 d opened) (Refused why)
    still_refused why worked is = subst (λ (v : StoreView (Move O R) D). Answered v (view_of r1 failed0 d opened) (Refused why)) view_is
        (refused (view_of r0 failed0 d opened) (view_of r1 failed0 d opened) only_now stands same why worked is)

    pub still_short : failed0 ≡ false → Answered old (view_of r1 failed0 d opened) Short
    still_short worked = subst (λ (v : StoreView (Move O R) D). Answered v (view_of r1 failed0 d opened) Short) view_is
        (short (view_of r0 failed0 d opened) (view_of r1 failed0 d opened) only_now stands same worked)

    pub still_failed : (n : ℕ) → failed0 ≡ true → n ≡ length r0.written → Answered old old (Failed n)
    still_failed n had counted = subst (λ (v : StoreView (Move O R) D). Answered v v (Failed n)) view_is
        (failed (view_of r0 failed0 d opened) (view_of r0 failed0 d opened) only_now stands refl n had counted)

  -- a step that is answered in memory, and moves nothing
  module _ (old : StoreView (Move O R) D) (r0 r1 : RecordedView (Move O R)) (d opened : D) (failed0 : Bool) (view_is : view_of r0 failed0 d opened ≡ old)
      (only_now : (d : D) (c : Files) → disk.left_since d (disk.moment d) c → disk.may_leave d c)
      (stands : failed0 ≡ false → AllStand (fix meaning r0.terms address) r0.written (disk.may_leave d)) (settled : r0.pending ≡ []) (worked : failed0 ≡ false) where
    unmoved : r1 ≡ record r0 { pending = [] } → r1 ≡ r0
    unmoved is = is ∙ sym (ap (λ (ms : List (Move O R)). record r0 { pending = ms }) settled)

    pub step_refused : (why : Refusal) → Steps {A = A} (fix meaning r0.terms address) step r0 r1 (Refused why) → Answered old (view_of r1 failed0 d opened) (Refused why)
    step_refused why steps = still_refused old r0 r1 d opened failed0 view_is only_now stands (unmoved steps.pending) why worked steps.turns

    pub step_short : Steps {A = A} (fix meaning r0.terms address) step r0 r1 Short → Answered old (view_of r1 failed0 d opened) Short
    step_short steps = still_short old r0 r1 d opened failed0 view_is only_now stands (unmoved steps.pending) worked
