-- What is told of a step that may make a move, from what the core answers to it.
use Rattle.std.proofs.Common.{◌≡◌, ℕ, List, [], ◌∷◌, ◌++◌, refl, ap, sym, subst, ◌∙◌, false}
use Rattle.std.specs.Prelude.{Result, Err}
use Rattle.branch_disk.specs.Disk.{Files}
use Rattle.branch_disk.specs.declared.disk.Disk.{Ghosts}
use Rattle.branch_history.specs.declared.moves.Move.{Move}
use Rattle.branch_history.specs.Steps as machine
use Rattle.branch_machine.specs.Validity.{IsFullyValid}
use Rattle.branch_files.specs.Laws.{ReadsWhatStands}
use Rattle.machine_answers.specs.Answers.{Answer, Made, Still, Refused, Fault, Failed, Short, Takes}
use Rattle.store_core.specs.Answers as answers
use Rattle.store_core.specs.Images.{AllStand}
use Rattle.store_core.specs.Turns.{Moves}
use Rattle.store_core.specs.Views.{held}
use Rattle.branch_engine.proofs.Values.{Values, fixed_of}
use Rattle.branch_engine.specs.declared.refused.TellRefused.{TellRefused}
use Rattle.branch_engine.specs.declared.refused.TellRefused.TheVariants as refusal
use Rattle.branch_engine.specs.Engines.{Store, EngineView, AreLooksAt, Telling, Writes}
use Rattle.branch_engine.proofs.Played.{IsWhole, looks-grow, whole-so}
use Rattle.branch_engine.proofs.Does.{Members, members, DoesSo, IsTold, IsHalfTold, nothing_done, writes_so, writes_still, does-fault}
use Rattle.branch_engine.proofs.Replies.{TakesTurn, view_of, leaves_either, moves_too, works_moved}

module _ {S O R Q A D : Type 0} (d : Ghosts D) (only : (x : D) (c : Files) → d.left_since x (d.moment x) c → d.may_leave x c) (values : Values S O R Q A)
    (old : EngineView O R D) (core : Store O R D) (step : machine.Step O Q) where
  abbrev m : Members D
  m = members d.may_leave d.moment d.left_since d.faults only

  abbrev new : EngineView O R D
  new = view_of core old.sessions

  -- what the core answered to the step
  pub record Answered (answer : Answer A R) : Type 0 where
    pub takes : Takes {A = A} (answers.turn_of values.meaning values.address old.core step) old.core.history core.history answer
    pub leaves : answers.Leaves d values.meaning values.address step old.core core answer

  -- the machine made the move
  moved_so : (outcome : machine.Outcome A R) (moves : ℕ) → Answered (Made outcome moves) → (made : Move O R) × Moves (fixed_of values old.core.terms) old.core core step made outcome moves
  moved_so outcome moves a =
      let (made, is) = a.takes.turns in
      let longer : core.history ≡ old.core.history ++ made ∷ [] = a.takes.history ∙ ap (λ (t : machine.Turn O R A). old.core.history ++ t.made) is in (
        made,
        record {
          worked = a.leaves.worked;
          turn_is = is;
          history = a.leaves.keeps ∙ ap (λ h. record old.core { history = h; disk = core.disk }) longer;
          counted = a.takes.counted.0;
          few = a.takes.counted.1;
        },
      )

  -- each session's look stays at a beginning of the core's history
  pub looks-behind : (answer : Answer A R) → Answered answer → AreLooksAt (held old.core) old.sessions → AreLooksAt (held core) old.sessions
  looks-behind (Made outcome moves) a looks =
      looks-grow (held old.core) (held core) old.sessions _ looks (ap (λ (k : Store O R D). k.terms) a.leaves.keeps) a.takes.history
  looks-behind (Still outcome) a looks = subst (λ (k : Store O R D). AreLooksAt (held k) old.sessions) (sym a.leaves.keeps) looks
  looks-behind (Refused why) a looks = subst (λ (k : Store O R D). AreLooksAt (held k) old.sessions) (sym a.leaves.keeps) looks
  looks-behind Fault a looks = let same : held core ≡ held old.core = ap held a.leaves.keeps in subst (λ k. AreLooksAt k old.sessions) (sym same) looks
  looks-behind (Failed moves) a looks = subst (λ (k : Store O R D). AreLooksAt (held k) old.sessions) (sym a.leaves.keeps) looks
  looks-behind Short a looks = subst (λ (k : Store O R D). AreLooksAt (held k) old.sessions) (sym a.leaves.keeps) looks

  module _ (telling : Telling S O R Q A) (takes : TakesTurn m values old telling step) (out out' : List ℕ) (r : Result (Unit {0}) TellRefused) where
    -- these words are told of the move that the machine makes with this outcome, however far the session came
    abbrev pub TellsMove : machine.Outcome A R → ℕ → List ℕ → Type 0
    TellsMove outcome moves words = (made : Move O R) → Moves (fixed_of values old.core.terms) old.core core step made outcome moves → IsWhole m.may_leave values core
        → IsTold m values telling old new words × IsHalfTold m values telling old new words

    pub made_so : (outcome : machine.Outcome A R) (moves : ℕ) (words : List ℕ) → Answered (Made outcome moves) → TellsMove outcome moves words
        → ReadsWhatStands values.meaning → IsFullyValid (fixed_of values old.core.terms) old.core.history → IsFullyValid (fixed_of values core.terms) core.history
        → (core.failed ≡ false → AllStand (fixed_of values core.terms) core.history (d.may_leave core.disk))
        → Writes words out out' r → DoesSo m values telling old new out out' r
    made_so outcome moves words a tells law valid now stands wrote =
        let (made, does) = moved_so outcome moves a in
        let whole = whole-so d.may_leave values law core now (stands (ap (λ (k : Store O R D). k.failed) a.leaves.keeps ∙ a.leaves.worked)) in
        let works = works_moved m values old telling step takes law core made outcome moves does valid now (a.leaves.moments a.leaves.worked) a.leaves.faults new refl in
        let told = tells made does whole in writes_so m values telling old new out out' words r works told.0 told.1 wrote

    pub refused_so : (why : machine.Refusal) (words : List ℕ) → Answered (Refused why) → IsTold m values telling old old words → Writes words out out' r → DoesSo m values telling old new out out' r
    refused_so why words a told wrote =
        writes_still m values telling old new out out' words r a.leaves.worked (ap (λ (k : Store O R D). view_of k old.sessions) a.leaves.keeps) told wrote

    pub faulted_so : Answered Fault → ReadsWhatStands values.meaning → IsFullyValid (fixed_of values old.core.terms) old.core.history → out' ≡ out → r ≡ Err refusal.DiskFault
        → DoesSo m values telling old new out out' r
    faulted_so a law valid same is =
        subst (DoesSo m values telling old new out out') (sym is) (subst (λ o. DoesSo m values telling old new out o (Err refusal.DiskFault)) (sym same)
        (does-fault m values telling old new out a.leaves.keeps (λ name. refl)
        (moves_too m values old telling step takes a.takes.turns.0 a.takes.turns.1)
        (leaves_either m values old telling step takes law new valid a.leaves.stands.1 (a.leaves.moments a.leaves.worked))
        a.leaves.faults.0 a.leaves.faults.1))

    pub short_so : Answered Short → out' ≡ out → r ≡ Err refusal.Memory → DoesSo m values telling old new out out' r
    short_so a same is =
        subst (λ o. DoesSo m values telling old new out o r) (sym same)
        (nothing_done m values telling old new out r is a.leaves.worked (ap (λ (k : Store O R D). view_of k old.sessions) a.leaves.keeps))
