-- The objects of the empty history.
use Rattle.std.proofs.Common.{◌≡◌, ℕ, List, [], ◌∷◌, ◌++◌, refl, sym, ◌∙◌, ap, arith, append-nil, append_assoc}
use Rattle.std.specs.List.{concat, flat_map}
use Rattle.mrdt_model.specs.Laws.{Meaning, KeepsLaws}
use Rattle.branch_names.specs.declared.layout.Layout.{Layout}
use Rattle.branch_names.specs.declared.layout.Layout.TheVariants.{Whole, Changes}
use Rattle.branch_names.specs.declared.terms.Terms.{Terms}
use Rattle.branch_wire.specs.declared.action.Action.TheVariants.{Root}
use Rattle.branch_wire.specs.Objects.{CommitFields, value_object, commit_object}
use Rattle.branch_wire.specs.StoredObjects.{Stored, header_of, fresh}
use Rattle.branch_graph.specs.Graph.{reaches}
use Rattle.branch_history.specs.Commits.{visible}
use Rattle.branch_history.specs.History.{store_of}
use Rattle.branch_machine.specs.Fixed.{fix_in}
use Rattle.commit_replay.specs.Follows.{form_of}
use Rattle.branch_machine.specs.Objects.{Pair, both, kept_value, kept_address, objects_of, pairs_of, objects_text}

module _ {S O R Q A : Type 0} (meaning : Meaning S O R Q A) (address : List ℕ → List ℕ) (terms : Terms) (version : ℕ) where
  abbrev pub root : Layout → List ℕ → CommitFields
  root layout value = record { parents = []; branch = 0; clock = 0; value = kept_address layout (address value); action = Root }

  abbrev first : Layout → List ℕ
  first layout = kept_value layout (meaning.spelling_of [])

  abbrev first_pair : Layout → Pair
  first_pair layout = record { value = first layout; commit = commit_object (root layout (first layout)) }

  first-stored : objects_of (fix_in (form_of version) meaning terms address) [] ≡ fresh [] (flat_map both (first_pair terms.layout ∷ []))
  unfolding objects_of pairs_of store_of visible reaches
  first-stored = refl

  first-objects : (layout : Layout) → concat (fresh [] (flat_map both (first_pair layout ∷ []))) ≡ first layout ++ (commit_object (root layout (first layout)) ++ [])
  first-objects Whole = refl
  first-objects Changes = refl

  -- what is written of a first value and its commit
  pub first-written : (layout : Layout) → terms.layout ≡ layout → (value : List ℕ) → value ≡ kept_value layout (meaning.spelling_of []) → (header_of version ++ value) ++ commit_object (root layout value) ≡ objects_text (fix_in (form_of version) meaning terms address) []
  first-written layout of value is =
      append_assoc (header_of version) value (commit_object (root layout value)) ∙ ap (λ (v : List ℕ). header_of version ++ (v ++ commit_object (root layout v))) is
      ∙ ap (λ (l : List ℕ). header_of version ++ (first layout ++ l)) (sym (append-nil (commit_object (root layout (first layout)))))
      ∙ ap (λ (l : List ℕ). header_of version ++ l) (sym (first-objects layout))
      ∙ ap (λ (l : Layout). header_of version ++ concat (fresh [] (flat_map both (first_pair l ∷ [])))) (sym of)
      ∙ ap (λ (stored : Stored). header_of version ++ concat stored) (sym first-stored)

-- the first value is spelled as the history without events has it
pub first-spelled : {S O R Q A : Type 0} (meaning : Meaning S O R Q A) → KeepsLaws meaning → (state : S) → meaning.stands state [] → value_object (meaning.state_spelling state) ≡ value_object (meaning.spelling_of [])
first-spelled meaning laws state stands = ap value_object (laws.one_spelling state [] (record { well_formed = tt; faithful = tt; few = omega arith }) stands)
