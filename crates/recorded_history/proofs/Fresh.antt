-- The recorded history of no moves.
use Rattle.std.proofs.Common.{◌≡◌, ℕ, List, [], ◌∷◌, ◌++◌, refl, ap, sym, ◌∙◌, subst, append-nil, Option}
use Rattle.mrdt_model.specs.Laws.{Meaning}
use Rattle.branch_names.specs.declared.terms.Terms.{Terms}
use Rattle.branch_names.specs.declared.layout.Layout.{Layout}
use Rattle.branch_names.specs.declared.layout.Layout.TheVariants.{Whole, Changes}
use Rattle.branch_wire.specs.declared.action.Action.TheVariants.{Root}
use Rattle.branch_wire.specs.Objects.{commit_object}
use Rattle.branch_wire.specs.StoredObjects.{Stored, fresh}
use Rattle.branch_history.specs.declared.moves.Move.{Move}
use Rattle.branch_machine.specs.Fixed.{Fixed, fix}
use Rattle.branch_graph.specs.Graph.{reaches}
use Rattle.branch_history.specs.Commits.{visible}
use Rattle.branch_history.specs.History.{store_of}
use Rattle.branch_machine.specs.Objects.{Pair, both, kept_value, kept_address, objects_of, pairs_of}
use Rattle.branch_machine.proofs.Valid.{valid-none}
use Rattle.object_store.specs.Commits.{kept_spelling, root_fields, root_pair}
use Rattle.object_store.specs.Views.{ObjectsView}
use Rattle.store_seen.specs.Views.{CoreView, VersionsView}
use Rattle.recorded_history.specs.Keeps.{IsRecorded}
use Rattle.recorded_history.specs.Machine.{addresses_of}
use Rattle.recorded_history.specs.Views.{recorded_of}

-- the root commit, by what its layout keeps of its value
abbrev root_in : (List ℕ → List ℕ) → Layout → List ℕ → Pair
root_in address layout spelling =
    let value = kept_value layout spelling in
    record { value = value; commit = commit_object (record { parents = []; branch = 0; clock = 0; value = kept_address layout (address value); action = Root }) }

first-stored : (address : List ℕ → List ℕ) (layout : Layout) (spelling : List ℕ) → fresh [] (both (root_in address layout spelling) ++ []) ≡ root_pair address (kept_spelling layout spelling)
first-stored address Whole spelling = refl
first-stored address Changes spelling = refl

first-addressed : (address : List ℕ → List ℕ) (layout : Layout) (spelling : List ℕ) → ◌≡◌ {A = List (List ℕ)} (address (root_in address layout spelling).commit ∷ []) (address (commit_object (root_fields address (kept_spelling layout spelling))) ∷ [])
first-addressed address Whole spelling = refl
first-addressed address Changes spelling = refl

module _ {S O R Q A : Type 0} (meaning : Meaning S O R Q A) (address : List ℕ → List ℕ) (terms : Terms) where
  abbrev fixed : Fixed S O R Q A
  fixed = fix meaning terms address

  abbrev first : List ℕ
  first = meaning.spelling_of []

  -- what the layout keeps of it
  abbrev kept : Option (List ℕ)
  kept = kept_spelling terms.layout first

  none-stored : objects_of fixed [] ≡ root_pair address kept
  unfolding objects_of pairs_of store_of visible reaches
  none-stored = first-stored address terms.layout first

  none-addressed : addresses_of fixed [] ≡ address (commit_object (root_fields address kept)) ∷ []
  unfolding pairs_of store_of visible reaches
  none-addressed = first-addressed address terms.layout first

  pub recorded-fresh : (versions : VersionsView (Move O R)) (objects : ObjectsView) (root : List ℕ) → versions ≡ record { core = record { history = []; terms = terms }; addresses = root ∷ [] }
      → objects.stored ≡ root_pair address kept → objects.staged ≡ [] → root ≡ address (commit_object (root_fields address kept)) → IsRecorded meaning address (recorded_of versions.core versions.core) [] versions objects
  recorded-fresh versions objects root made stored staged at =
      let stored_is : objects.stored ≡ objects_of fixed [] = stored ∙ sym none-stored in
      let core_is = ap (λ (v : VersionsView (Move O R)). v.core) made in
      let addressed : versions.addresses ≡ addresses_of fixed [] = ap (λ (v : VersionsView (Move O R)). v.addresses) made ∙ ap (λ (a : List ℕ). a ∷ []) at ∙ sym none-addressed in
      subst (λ (core : CoreView (Move O R)). IsRecorded meaning address (recorded_of core core) [] versions objects) (sym core_is)
      (record {
        valid = valid-none fixed;
        came = tt;
        moves = core_is;
        addressed = addressed;
        stored = stored_is;
        staged = ap (λ (s : Stored). objects.stored ++ s) staged ∙ append-nil objects.stored ∙ stored_is;
      })
