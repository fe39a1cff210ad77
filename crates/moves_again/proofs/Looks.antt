-- What a look at a branch gives.
use Rattle.std.proofs.Common.{◌≡◌, ◌∙◌, ℕ, List, ap, sym}
use Rattle.branch_names.specs.declared.terms.Terms.{Terms}
use Rattle.branch_history.specs.declared.moves.Move.{Move}
use Rattle.branch_history.specs.Machine.{answers}
use Rattle.branch_history.specs.Steps.{Outcome, Refusal, Sees, Refused, Turn}
use Rattle.store_seen.specs.Turns.{at_head}
use Rattle.store_seen.specs.Views.{SeenView}
use Rattle.store_core.specs.Views.{StoreView, held}

module _ (O R A : Type 0) where
  abbrev sees : ℕ → ℕ → Outcome A R
  sees a b = Sees a b

  abbrev refused : Refusal → Outcome A R
  refused r = Refused r

pub sees-never : {O R A : Type 0} (a b : ℕ) (refusal : Refusal) → answers {O = O} {R = R} {A = A} (Sees a b) ≡ answers (Refused refusal) → ⊥
sees-never {O} {R} {A} a b refusal is = let both : sees O R A a b ≡ refused O R A refusal = ap (λ (t : Turn O R A). t.outcome) is in cc

pub sees-so : {D O R A : Type 0} (core : StoreView (Move O R) D) (seen : SeenView (Move O R)) (branch head : ℕ) → (seen.history ≡ core.history) × (seen.terms ≡ core.terms)
    → answers {O = O} {R = R} {A = A} (Sees seen.branch seen.head) ≡ answers (Sees branch head) → seen ≡ at_head (held core) branch head
sees-so {D} {O} {R} {A} core seen branch head on is =
    let both : sees O R A seen.branch seen.head ≡ sees O R A branch head = ap (λ (t : Turn O R A). t.outcome) is in
    let branch_is : seen.branch ≡ branch = cc in
    let head_is : seen.head ≡ head = cc in
    ap (λ (h : List (Move O R)). record { history = h; terms = seen.terms; branch = seen.branch; head = seen.head }) on.0
    ∙ ap (λ (t : Terms). record { history = core.history; terms = t; branch = seen.branch; head = seen.head }) on.1
    ∙ ap (λ (b : ℕ). record { history = core.history; terms = core.terms; branch = b; head = seen.head }) branch_is
    ∙ ap (λ (h : ℕ). record { history = core.history; terms = core.terms; branch = branch; head = h }) head_is
