-- The head of the branch of a name, and what is told of it.
use Rattle.std.proofs.Common.{◌≡◌, ℕ, zero, suc, List, [], ◌∷◌, map, refl, ap, ap₂, sym, ◌∙◌, Option, Some, None}
use Rattle.std.specs.Prelude.{slice_get, Result, Ok, Err, OnOk}
use Rattle.mrdt_model.specs.Laws.{Meaning}
use Rattle.branch_names.specs.declared.layout.Layout.{Layout}
use Rattle.branch_names.specs.declared.terms.Terms.{Terms}
use Rattle.branch_names.specs.Heads.{branch_named, head_of}
use Rattle.branch_history.specs.declared.moves.Move.{Move}
use Rattle.branch_history.specs.History.{Store, store_of}
use Rattle.branch_history.specs.Steps.{Look, Sees, Refused, UnknownBranch, Outcome, Turn}
use Rattle.branch_history.specs.Machine.{answers, look_turn, turn}
use Rattle.branch_machine.specs.Fixed.{Fixed}
use Rattle.branch_machine.specs.Objects.{Pair, address_at, pairs_of, store_after}
use Rattle.branch_bundle_laws.specs.Bundles.{bundle_of}
use Rattle.branch_bundle_laws.specs.Text.{bundle_text}
use Rattle.branch_bundle.specs.declared.bundle.Bundle.{Bundle}
use Rattle.branch_bundle.specs.Held.{text_of}
use Rattle.recorded_history.specs.Machine.{addresses_of}
use Rattle.store_core.specs.Bundling.{IsBundleOf}

module _ {S O R Q A : Type 0} (meaning : Meaning S O R Q A) (terms : Terms) (moves : List (Move O R)) (name : List ℕ) where
  abbrev s : Store O R
  s = store_of terms.origin moves

  abbrev sees : ℕ → ℕ → Outcome A R
  sees number head = Sees number head

  abbrev unseen : Outcome A R
  unseen = Refused (UnknownBranch name)

  -- a look that sees a head has found the branch
  pub look-sees : (number head : ℕ) → turn meaning terms moves (Look name) ≡ answers (Sees number head) → (branch_named s.branches name ≡ Some number) × (head ≡ head_of s.branches number)
  unfolding turn
  look-sees number head is = by (branch_named s.branches name) refl is
    where
      by : (o : Option ℕ) → branch_named s.branches name ≡ o → look_turn {O = O} {R = R} {A = A} s name o ≡ answers (Sees number head) → (branch_named s.branches name ≡ Some number) × (head ≡ head_of s.branches number)
      by None named is = let clash : unseen ≡ sees number head = ap (λ (t : Turn O R A). t.outcome) is in absurd (cc clash)
      by (Some r) named is =
          let both : sees r (head_of s.branches r) ≡ sees number head = ap (λ (t : Turn O R A). t.outcome) is in
          let number_is : r ≡ number = cc both in
          let head_is : head_of s.branches r ≡ head = cc both in
          (named ∙ ap (λ (k : ℕ). Some k) number_is, sym head_is ∙ ap (head_of s.branches) number_is)

  -- and one that is refused has found none
  pub look-unknown : turn meaning terms moves (Look name) ≡ answers (Refused (UnknownBranch name)) → branch_named s.branches name ≡ None
  unfolding turn
  look-unknown is = by (branch_named s.branches name) refl is
    where
      by : (o : Option ℕ) → branch_named s.branches name ≡ o → look_turn {O = O} {R = R} {A = A} s name o ≡ answers (Refused (UnknownBranch name)) → branch_named s.branches name ≡ None
      by None named is = named
      by (Some r) named is = let clash : sees r (head_of s.branches r) ≡ unseen = ap (λ (t : Turn O R A). t.outcome) is in absurd (cc clash)

-- the address of a commit, among those of all
address-got : (address : List ℕ → List ℕ) (ps : List Pair) (k : ℕ) (a : List ℕ) → Some a ≡ slice_get (map (λ (p : Pair). address p.commit) ps) k → a ≡ address_at address ps k
address-got address [] k a is = absurd (cc is)
address-got address (p ∷ ps) zero a is = cc is
address-got address (p ∷ ps) (suc k) a is = address-got address ps k a is

pub address-is : {S O R Q A : Type 0} (fixed : Fixed S O R Q A) (moves : List (Move O R)) (k : ℕ) (a : List ℕ) → Some a ≡ slice_get (addresses_of fixed moves) k
    → a ≡ address_at fixed.address (pairs_of fixed (store_after fixed moves).commits) k
address-is fixed moves k a is = address-got fixed.address (pairs_of fixed (store_after fixed moves).commits) k a is

-- the bytes of a bundle that is the one of a commit, in the version of a layout
pub bundle-is : {S O R Q A : Type 0} (fixed : Fixed S O R Q A) (moves : List (Move O R)) (tip : ℕ) (here : List (List ℕ)) (b : Bundle) (layout : Layout) → layout ≡ fixed.terms.layout → IsBundleOf fixed moves tip here b
    → text_of layout b ≡ bundle_text fixed.terms.layout (bundle_of fixed moves tip here)
bundle-is fixed moves tip here b layout same is = ap₂ bundle_text same is.is

pub on-ok : {T E : Type 0} (r : Result T E) (P Q : Type 0) → (P → Q) → OnOk r P → OnOk r Q
on-ok (Ok x) P Q f holds = f holds
on-ok (Err e) P Q f holds = holds
