-- The machine's own answers to a turn are one.
use Rattle.std.proofs.Common.{◌≡◌, ℕ, List, [], ◌∷◌, ◌++◌, length, refl, ap, sym, subst, ◌∙◌}
use Rattle.branch_history.specs.declared.moves.Move.{Move}
use Rattle.branch_history.specs.Steps.{Outcome, Refusal, Turn}
use Rattle.branch_history.specs.Steps as machine
use Rattle.branch_history.specs.Machine.{answers, makes}
use Rattle.machine_answers.specs.Answers.{Answer, Made, Still, Refused, Fault, Failed, Short, TurnsAs, behind, CountsAs}
use Rattle.machine_answers.specs.Laws.{IsTheMachines, IsGiven}

module _ {O R A : Type 0} (t : Turn O R A) (old : List (Move O R)) where
  abbrev told : Refusal → Outcome A R
  told refusal = machine.Refused refusal

  -- a turn makes a move or makes none
  never : (made : Move O R) (outcome other : Outcome A R) → t ≡ makes made outcome → t ≡ answers other → ⊥
  never made outcome other one two = let no : made ∷ [] ≡ [] = ap (λ (u : Turn O R A). u.made) (sym one ∙ two) in cc

  -- one answer without a move
  one-outcome : (o o' : Outcome A R) → t ≡ answers o → t ≡ answers o' → o ≡ o'
  one-outcome o o' e e' = ap (λ (u : Turn O R A). u.outcome) (sym e ∙ e')

  pub decided : (one two : Answer A R) (new new' : List (Move O R)) → TurnsAs one t → TurnsAs two t → new ≡ behind one old t.made → new' ≡ behind two old t.made
      → CountsAs one new → CountsAs two new' → IsTheMachines one → IsTheMachines two → (one ≡ two) × (new ≡ new')
  decided (Made o n) (Made o' n') new new' (m, e) (m', e') h h' (counted, few) (counted', few') is is' =
      let outcomes : o ≡ o' = ap (λ (u : Turn O R A). u.outcome) (sym e ∙ e') in
      let same : new ≡ new' = h ∙ sym h' in
      let counts : n ≡ n' = counted ∙ ap length same ∙ sym counted' in
      (cc (outcomes, counts), same)
  decided (Made o n) (Still o') new new' (m, e) e' h h' c c' is is' = absurd (never m o o' e e')
  decided (Made o n) (Refused r) new new' (m, e) e' h h' c c' is is' = absurd (never m o (told r) e e')
  decided (Still o) (Made o' n') new new' e (m, e') h h' c c' is is' = absurd (never m o' o e' e)
  decided (Still o) (Still o') new new' e e' h h' c c' is is' = (ap Still (one-outcome o o' e e'), h ∙ sym h')
  decided (Still o) (Refused r) new new' e e' h h' c c' is is' = absurd (subst IsGiven (one-outcome o (told r) e e') is)
  decided (Refused r) (Made o n) new new' e (m, e') h h' c c' is is' = absurd (never m o (told r) e' e)
  decided (Refused r) (Still o) new new' e e' h h' c c' is is' = absurd (subst IsGiven (one-outcome o (told r) e' e) is')
  decided (Refused r) (Refused r') new new' e e' h h' c c' is is' =
      let refusals : r ≡ r' = cc (one-outcome (told r) (told r') e e') in
      (ap Refused refusals, h ∙ sym h')
  decided Fault two new new' e e' h h' c c' is is' = absurd is
  decided (Failed n) two new new' e e' h h' c c' is is' = absurd is
  decided Short two new new' e e' h h' c c' is is' = absurd is
  decided (Made o n) Fault new new' (m, e) e' h h' c c' is is' = absurd is'
  decided (Made o n) (Failed k) new new' (m, e) e' h h' c c' is is' = absurd is'
  decided (Made o n) Short new new' (m, e) e' h h' c c' is is' = absurd is'
  decided (Still o) Fault new new' e e' h h' c c' is is' = absurd is'
  decided (Still o) (Failed k) new new' e e' h h' c c' is is' = absurd is'
  decided (Still o) Short new new' e e' h h' c c' is is' = absurd is'
  decided (Refused r) Fault new new' e e' h h' c c' is is' = absurd is'
  decided (Refused r) (Failed k) new new' e e' h h' c c' is is' = absurd is'
  decided (Refused r) Short new new' e e' h h' c c' is is' = absurd is'
