-- What became of a try to drop a branch.
use Rattle.std.proofs.Common.{◌≡◌, ℕ, ◌+◌, List, [], ◌∷◌, ◌++◌, length, refl, ap, sym, subst, ◌∙◌, arith, Option, Some, None}
use Rattle.std.specs.Prelude.{Ok, Err}
use mathlib.Core.List.{IsPrefix}
use Rattle.branch_history.specs.declared.moves.Move.{Move}
use Rattle.branch_history.specs.declared.moves.Move.TheVariants as move
use Rattle.branch_history.specs.Steps as machine
use Rattle.branch_history.specs.Machine.{turn, answers, makes, unless, drop_refusal}
use Rattle.branch_machine.specs.Fixed.{Fixed}
use Rattle.branch_machine.specs.Machine.{full_turn}
use Rattle.branch_script.specs.declared.step.Step.TheVariants.{Drop}
use Rattle.store_seen.specs.Views.{SeenView}
use Rattle.recorded_history.specs.Machine.{FullyRefuses}
use Rattle.store_core.specs.declared.answers.DropRefused.{DropRefused}
use Rattle.store_core.specs.declared.answers.DropRefused.TheVariants as drop_refusal_of
use Rattle.store_core.specs.Answers.{drop_answer}
use Rattle.branch_shared.specs.Passes.{PassView, IsSeenOn, AnsweredAt}
use Rattle.parallel_clients.specs.declared.sessions.Session.{Session}
use Rattle.parallel_clients.specs.declared.outcome.ClientRefusal.{ClientRefusal}
use Rattle.parallel_clients.specs.declared.outcome.ClientRefusal.TheVariants as client_refusal
use Rattle.parallel_clients.specs.Played.{Sights, HadHead, IfSees}
use Rattle.parallel_clients.specs.Outcomes.{Setting, RefusesStep, StepRefused}
use Rattle.parallel_clients.specs.Sessions.{IsSession, HasDropped, undropped_as}
use Rattle.parallel_clients.proofs.Machines.{full-turned}
use Rattle.parallel_clients.proofs.Sessioned.{session-head, session-later}

-- the move of a drop is the drop of its branch
drop-is : {S O R Q A : Type 0} (fixed : Fixed S O R Q A) (moves : List (Move O R)) (r h : ℕ) (made : Move O R) (outcome : machine.Outcome A R)
    → full_turn fixed moves (machine.Drop r h) ≡ makes made outcome → made ≡ move.Drop r
unfolding turn
drop-is {S} {O} {R} {Q} {A} fixed moves r h made outcome is = by (drop_refusal fixed.terms moves r h) (full-turned fixed moves (machine.Drop r h) made outcome is)
  where
    by : (why : Option machine.Refusal) → unless why (makes (move.Drop r) (machine.DroppedAt r h)) ≡ makes made outcome → made ≡ move.Drop r
    by None e =
        let ms : ◌≡◌ {A = List (Move O R)} (move.Drop r ∷ []) (made ∷ []) = ap (λ (t : machine.Turn O R A). t.made) e in
        let same : move.Drop r ≡ made = cc in
        sym same
    by (Some why) e =
        let ms : ◌≡◌ {A = List (Move O R)} [] (made ∷ []) = ap (λ (t : machine.Turn O R A). t.made) e in
        absurd (let never : ⊥ = cc in never)

module _ {S O R Q A : Type 0} (on : Setting S O R Q A) (old new : PassView (Move O R)) where
  module _ (s : Session (SeenView (Move O R))) where
    abbrev dropping : machine.Step O Q
    dropping = machine.Drop s.seen.branch s.seen.head

    abbrev Refused : DropRefused → Type 0
    Refused refused = AnsweredAt on.fixed on.opened old new dropping (drop_answer s.seen (Err refused))

    -- a pass that was refused a drop has only seen more
    pub drop-stays : (refused : DropRefused) → Refused refused → IsSeenOn old new
    drop-stays (drop_refusal_of.Dropped branch) at = at.passes.0
    drop-stays drop_refusal_of.KeepsMain at = at.passes.0
    drop-stays (drop_refusal_of.Stale newest) at = at.passes.0
    drop-stays (drop_refusal_of.FullMoves count) at = at.passes.0
    drop-stays drop_refusal_of.DiskFault at = at.passes.0
    drop-stays (drop_refusal_of.Failed moves) at = at.passes.0
    drop-stays drop_refusal_of.Memory at = at.passes.0

    -- the branch of a session was dropped
    pub drop-done : (sights : Sights) (session : List ℕ) → sights session ≡ Some s.seen.branch → (moves : ℕ) (places noted : List ℕ)
        → AnsweredAt on.fixed on.opened old new dropping (drop_answer s.seen (Ok moves)) → noted ≡ places ++ moves ∷ [] → HasDropped (sights session) old new places noted
    drop-done sights session sees moves places noted at note =
        let turned = at.takes.turns in
        let is : turned.0 ≡ move.Drop s.seen.branch = drop-is on.fixed at.before s.seen.branch s.seen.head turned.0 (machine.DroppedAt s.seen.branch s.seen.head) turned.1 in
        record {
          branch = s.seen.branch;
          sees = sees;
          moved = record {
            before = at.before;
            seen = at.seen;
            last = at.takes.history ∙ ap (λ (t : machine.Turn O R A). at.before ++ t.made) turned.1 ∙ ap (λ m. at.before ++ m ∷ []) is;
            noted = note ∙ ap (λ n. places ++ n ∷ []) at.takes.counted.0;
            mine = ap (λ p. p.mine) at.passes.0 ∙ ap (λ n. old.mine ++ n ∷ []) at.takes.counted.0;
            others = ap (λ p. p.others) at.passes.0;
            receipts = ap (λ p. p.receipts) at.passes.0;
            parts = ap (λ p. p.parts) at.passes.0;
          };
        }

  -- why a drop ends a client
  module _ (grows : IsPrefix old.moves new.moves) (s : Session (SeenView (Move O R))) (is : IsSession on.fixed.terms old.moves s)
      (sights : Sights) (session : List ℕ) (sees : sights session ≡ Some s.seen.branch) where
    refuses : (why : machine.Refusal) (before : List (Move O R)) → new.moves ≡ before → FullyRefuses on.fixed before (machine.Drop s.seen.branch s.seen.head) why
        → RefusesStep on new.moves sights (Drop session) why
    refuses why before same no_turn =
        subst (λ o. IfSees o (λ branch. (head : ℕ) × HadHead on.fixed.terms.origin new.moves branch head × FullyRefuses on.fixed new.moves (machine.Drop branch head) why)) (sym sees) (
          s.seen.head,
          session-head on.fixed.terms new.moves s (session-later on.fixed.terms old.moves new.moves s grows is),
          subst (λ ms. FullyRefuses on.fixed ms (machine.Drop s.seen.branch s.seen.head) why) (sym same) no_turn,
        )

    abbrev Stops : ClientRefusal → Type 0
    Stops refusal = StepRefused on new.moves new.faults sights (Drop session) refusal

    told : (x refusal : ClientRefusal) → Some x ≡ Some refusal → Stops x → Stops refusal
    told x refusal e why = let same : x ≡ refusal = cc in subst Stops same why

    pub drop-refused : (refused : DropRefused) (refusal : ClientRefusal) → undropped_as refused ≡ Some refusal
        → AnsweredAt on.fixed on.opened old new (machine.Drop s.seen.branch s.seen.head) (drop_answer s.seen (Err refused)) → Stops refusal
    drop-refused (drop_refusal_of.Dropped branch) refusal e at = told (client_refusal.Dropped branch) refusal e (refuses (machine.Dropped branch) at.before at.takes.history at.takes.turns)
    drop-refused drop_refusal_of.KeepsMain refusal e at = told client_refusal.KeepsMain refusal e (refuses machine.KeepsMain at.before at.takes.history at.takes.turns)
    drop-refused (drop_refusal_of.Stale newest) refusal e at = absurd (let never : ⊥ = cc in never)
    drop-refused (drop_refusal_of.FullMoves count) refusal e at = told (client_refusal.FullMoves count) refusal e (refuses (machine.FullMoves count) at.before at.takes.history at.takes.turns)
    drop-refused drop_refusal_of.DiskFault refusal e at = told client_refusal.DiskFault refusal e (let rose = at.passes.1 in omega (arith, rose))
    drop-refused (drop_refusal_of.Failed moves) refusal e at = told (client_refusal.Failed moves) refusal e (at.takes.counted, at.passes.1)
    drop-refused drop_refusal_of.Memory refusal e at = told client_refusal.Memory refusal e tt
