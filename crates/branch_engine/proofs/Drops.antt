-- What is told of a drop, from what the core answers to it.
use Rattle.std.proofs.Common.{◌≡◌, ℕ, List, [], ◌++◌, refl, ap, sym, subst, ◌∙◌, None, Some, true, false}
use Rattle.std.specs.Prelude.{Option, Result, Ok, Err}
use Rattle.std.specs.Option.{option_map, option_map_or}
use Rattle.branch_disk.specs.Disk.{Files}
use Rattle.branch_disk.specs.declared.disk.Disk.{Ghosts}
use Rattle.branch_names.specs.declared.branch.Branch.{Branch}
use Rattle.branch_names.specs.Heads.{name_of}
use Rattle.branch_history.specs.History.{store_of}
use Rattle.branch_history.specs.Steps as machine
use Rattle.branch_machine.specs.Validity.{IsFullyValid}
use Rattle.branch_files.specs.Laws.{ReadsWhatStands}
use Rattle.machine_answers.specs.Answers.{Answer, Refused}
use Rattle.store_core.specs.Images.{AllStand}
use Rattle.store_core.specs.declared.answers.DropRefused.{DropRefused}
use Rattle.store_core.specs.declared.answers.DropRefused.TheVariants as drop_refusal
use Rattle.branch_print.specs.Texts.{outcome_text, refusal_text, line_end}
use Rattle.store_core.specs.Answers.{drop_answer}
use Rattle.branch_engine.proofs.Values.{Values, fixed_of}
use Rattle.branch_engine.specs.declared.refused.TellRefused.{TellRefused}
use Rattle.branch_engine.specs.Engines.{Store, Seen, EngineView, Telling, Writes, RepliesAs, session_named}
use Rattle.branch_engine.proofs.Does.{Members, members, DoesSo, does_as}
use Rattle.branch_engine.proofs.Replies.{TakesTurn, view_of, drop_telling, turn_telling, turn_takes, turn_stays, moved, moved_half, drop_as}
use Rattle.branch_engine.proofs.Answered.{Answered, made_so, refused_so, faulted_so, short_so}

-- the name of a branch that there is
pub name-found : (o : Option Branch) (x : List ℕ × ℕ) → option_map (λ (b : Branch). (b.name, b.head)) o ≡ Some x → x.0 ≡ option_map_or (λ (b : Branch). b.name) o []
name-found None x h = absurd (let no : ⊥ = cc in no)
name-found (Some b) x h = let e : (b.name, b.head) ≡ x = cc in ap (λ y. y.0) (sym e)

abbrev pub drop_of : {O R Q : Type 0} → Seen O R → machine.Step O Q
drop_of seen = machine.Drop seen.branch seen.head

module _ {S O R Q A D : Type 0} (d : Ghosts D) (only : (x : D) (c : Files) → d.left_since x (d.moment x) c → d.may_leave x c) (values : Values S O R Q A)
    (old : EngineView O R D) (core : Store O R D) (session : List ℕ) (seen : Seen O R) where
  abbrev m : Members D
  m = members d.may_leave d.moment d.left_since d.faults only

  abbrev new : EngineView O R D
  new = view_of core old.sessions

  abbrev telling : Telling S O R Q A
  telling = turn_telling values false session seen.branch (drop_of seen)

  abbrev name : List ℕ
  name = name_of (store_of old.core.terms.origin old.core.history).branches seen.branch

  abbrev dropped_at : machine.Outcome A R
  dropped_at = machine.DroppedAt seen.branch seen.head

  -- what the core answered to the drop
  abbrev DropAnswered : Answer A R → Type 0
  DropAnswered answer = Answered d only values old core (drop_of seen) answer

  module _ (view : EngineView O R D) (is_view : old ≡ view) (found : session_named old.sessions session ≡ Some seen) (out out' : List ℕ) (r : Result (Unit {0}) TellRefused) where
    takes : TakesTurn m values old telling (drop_of seen)
    takes = turn_takes m values old false session seen.branch (drop_of seen)

    -- what is told of the machine's turn is told of the drop
    as_drop : DoesSo m values telling old new out out' r → DoesSo m values (drop_telling values session) view new out out' r
    as_drop does =
        subst (λ (v : EngineView O R D). DoesSo m values (drop_telling values session) v new out out' r) is_view
        (does_as m values (drop_telling values session) telling old new out out' (drop_as m values old session seen found) r does)

    refused : (why : machine.Refusal) → DropAnswered (Refused why) → Writes (refusal_text name why ++ line_end) out out' r → DoesSo m values (drop_telling values session) view new out out' r
    refused why a wrote =
        as_drop (refused_so d only values old core (drop_of seen) telling takes out out' r why (refusal_text name why ++ line_end) a
        (turn_stays m values old false session seen.branch (drop_of seen) (machine.Refused why) a.takes.turns refl) wrote)

    pub told-as : (answer : Result ℕ DropRefused) → DropAnswered (drop_answer seen answer) → old.core.failed ≡ false
        → ReadsWhatStands values.meaning → IsFullyValid (fixed_of values old.core.terms) old.core.history → IsFullyValid (fixed_of values core.terms) core.history
        → (core.failed ≡ false → AllStand (fixed_of values core.terms) core.history (d.may_leave core.disk))
        → RepliesAs values.forms name (drop_answer seen answer) out out' r → DoesSo m values (drop_telling values session) view new out out' r
    told-as (Ok moves) a worked law valid now stands replies =
        as_drop (made_so d only values old core (drop_of seen) telling takes out out' r dropped_at moves (outcome_text values.forms false session name dropped_at ++ line_end) a
        (λ made does whole. (
          moved m values old false session seen.branch (drop_of seen) core made dropped_at moves does whole refl,
          moved_half m values old false session seen.branch (drop_of seen) core made dropped_at moves does whole refl,
        )) law valid now stands replies)
    told-as (Err (drop_refusal.Dropped branch)) a worked law valid now stands replies = refused (machine.Dropped branch) a replies
    told-as (Err drop_refusal.KeepsMain) a worked law valid now stands replies = refused machine.KeepsMain a replies
    told-as (Err (drop_refusal.Stale newest)) a worked law valid now stands replies = refused (machine.Stale newest) a replies
    told-as (Err (drop_refusal.FullMoves count)) a worked law valid now stands replies = refused (machine.FullMoves count) a replies
    told-as (Err drop_refusal.DiskFault) a worked law valid now stands replies =
        as_drop (faulted_so d only values old core (drop_of seen) telling takes out out' r a law valid replies.0 replies.1)
    told-as (Err (drop_refusal.Failed moves)) a worked law valid now stands replies =
        let bad : false ≡ true = sym worked ∙ a.leaves.worked in absurd (let never : ⊥ = cc in never)
    told-as (Err drop_refusal.Memory) a worked law valid now stands replies =
        as_drop (short_so d only values old core (drop_of seen) telling takes out out' r a replies.0 replies.1)
