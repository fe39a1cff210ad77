-- The objects of a commit, found by addresses.
use Rattle.std.proofs.Common.{zero, suc, ◌≡◌, ℕ, ◌+◌, ◌*◌, ◌<◌, ◌≤◌, List, [], ◌∷◌, ◌++◌, length, map, refl, sym, ◌∙◌, ap, arith, append_assoc, length-append, subst, lit<, ◌^◌, Some, None, Option, slice_get}
use Rattle.std.specs.List.{AllByRecursion, flat_map}
use Rattle.std.proofs.lemmas.Option.{slice_get_past}
use Rattle.mrdt_model.specs.Laws.{Meaning, KeepsLaws}
use Rattle.branch_names.specs.declared.layout.Layout.{Layout}
use Rattle.branch_names.specs.declared.layout.Layout.TheVariants.{Whole, Changes}
use Rattle.branch_wire.specs.Fields.{short_number, number, field}
use Rattle.branch_wire.specs.Objects.{CommitFields, action_field, value_field, commit_body, commit_kind, commit_object}
use Rattle.branch_wire.specs.Reading.{HasLength}
use Rattle.branch_wire.specs.StoredObjects.{Stored, fresh, first_with}
use Rattle.branch_wire.proofs.Numbers.{length-short_number, length-number}
use Rattle.branch_objects_codec.specs.Grammar.{IsValueAddress}
use Rattle.branch_graph.specs.Graph.{parents_of}
use Rattle.branch_history.specs.declared.moves.Move.{Move}
use Rattle.branch_history.specs.Commits.{Commit, graph_of, origin_of, visible}
use Rattle.branch_history.specs.History.{store_of}
use Rattle.branch_machine.specs.Fixed.{Fixed, fix}
use Rattle.branch_machine.specs.Objects.{Pair, both, kept_value, kept_address, commit_text, value_text, address_at, fields_of, pair_at, pairs_of, store_after, objects_of}
use Rattle.branch_machine.specs.Laws.{HasSize}
use Rattle.branch_machine.specs.Validity.{IsFullyValid}
use Rattle.branch_machine.proofs.Both.{IsListedValue}
use Rattle.branch_machine.proofs.Pairs.{length-pairs_of, pairs_after-longer}
use Rattle.branch_machine.proofs.Distinct.{all-sized, few-sized, valid-sound}
use Rattle.object_store.specs.Views.{ObjectsView}
use Rattle.store_seen.specs.Views.{VersionsView}
use Rattle.recorded_history.specs.Items.{AreSized, FindsValue}
use Rattle.recorded_history.specs.Keeps.{IsLaidOut}
use Rattle.recorded_history.proofs.Alone.{IsAloneValue, found-alone, valid-alone}
use Rattle.recorded_history.proofs.Layouts.{kept-sized}
use Rattle.recorded_history.proofs.Steps.{address-found}

-- the pair of a number
pub pair-there : (pairs : List Pair) (n : ℕ) → n < length pairs → Some (record { value = value_text pairs n; commit = commit_text pairs n }) ≡ slice_get pairs n
pair-there [] n lt = absurd (omega arith)
pair-there (p ∷ ps) zero lt = refl
pair-there (p ∷ ps) (suc n) lt = pair-there ps n (omega arith)

-- six texts, grouped otherwise
gather : (a b c d v e : List ℕ) → a ++ b ++ c ++ d ++ v ++ e ≡ a ++ ((b ++ c ++ d) ++ (v ++ e))
gather [] b c d v e = append_assoc (b ++ c ++ d) v e
gather (x ∷ a) b c d v e = ap (λ (l : List ℕ). x ∷ l) (gather a b c d v e)

-- the parts of a commit's object: the front, the count of the parents, what lies before the address of the value, that address, and the rest
module _ (c : CommitFields) where
  abbrev pub front : List ℕ
  front = commit_kind c.value ∷ number (length (commit_body c))

  abbrev pub middle : List ℕ
  middle = flat_map (λ (a : List ℕ). a) c.parents ++ short_number c.branch ++ number c.clock

  pub front-length : length front ≡ 9
  front-length = ap suc (length-number (length (commit_body c)))

  pub parts : commit_object c ≡ front ++ (number (length c.parents) ++ (middle ++ (value_field c.value ++ action_field c.action)))
  parts = ap (λ (l : List ℕ). front ++ l) (gather (number (length c.parents)) (flat_map (λ (a : List ℕ). a) c.parents) (short_number c.branch) (number c.clock) (value_field c.value) (action_field c.action))

  flat-length : (ps : List (List ℕ)) → AllByRecursion (HasLength 32) ps → length (flat_map (λ (a : List ℕ). a) ps) ≡ 32 * length ps
  flat-length [] all = refl
  flat-length (p ∷ ps) all = omega (arith, length-append p (flat_map (λ (a : List ℕ). a) ps), all.0, flat-length ps all.1)

  pub middle-length : AreSized c → length middle ≡ 32 * length c.parents + 12
  middle-length sized =
      let flat : List ℕ = flat_map (λ (a : List ℕ). a) c.parents in
      omega (arith, flat-length c.parents sized.parents, length-append (flat ++ short_number c.branch) (number c.clock), length-append flat (short_number c.branch), length-short_number c.branch, length-number c.clock)

-- the object of a value that is stored and alone is found by its address, where the layout keeps it
finds : (address : List ℕ → List ℕ) (layout : Layout) (v : List ℕ) (stored : Stored) → IsListedValue layout stored v → IsAloneValue address layout stored v → FindsValue address stored (kept_address layout (address v)) v
finds address Whole v stored there alone = found-alone address v stored there alone
finds address Changes v stored none alone = none

-- the kind tells whether it has the address of a value
pub value-none : (a : Option (List ℕ)) → commit_kind a ≡ 3 → a ≡ None
value-none None is = refl
value-none (Some x) is = absurd (omega (arith, is))

pub kind-small : (a : Option (List ℕ)) → commit_kind a < 2 ^ 8
kind-small None = lit< tt
kind-small (Some x) = lit< tt

pub value-there : (a : Option (List ℕ)) → (commit_kind a ≡ 3 → ⊥) → IsValueAddress a → HasLength 32 (value_field a) × (a ≡ Some (value_field a))
value-there None other sized = absurd (other refl)
value-there (Some x) other sized = (sized, refl)

module _ {S O R Q A : Type 0} (fixed : Fixed S O R Q A) where
  -- the first objects are those of the first commit
  first-both : (layout : Layout) (a : Option (List ℕ)) (spelling t : List ℕ) (rest : Stored) → let p : Pair = record { value = kept_value layout spelling; commit = commit_kind a ∷ t } in fresh [] (both p ++ rest) ≡ both p ++ fresh (both p) rest
  first-both Whole None spelling t rest = refl
  first-both Whole (Some a) spelling t rest = refl
  first-both Changes a spelling t rest = refl

  module _ (moves : List (Move O R)) where
    abbrev pairs : List Pair
    pairs = pairs_of fixed (store_after fixed moves).commits

    -- the objects of the first of some commits
    abbrev first_pair : List (Commit O R) → Pair
    first_pair cs = record { value = value_text (pairs_of fixed cs) 0; commit = commit_text (pairs_of fixed cs) 0 }

    first-of : (cs : List (Commit O R)) → 0 < length cs → (spelling : List ℕ) × (more : Stored) × (value_text (pairs_of fixed cs) 0 ≡ kept_value fixed.terms.layout spelling) × (fresh [] (flat_map both (pairs_of fixed cs)) ≡ both (first_pair cs) ++ more)
    unfolding pairs_of
    first-of [] lt = absurd (omega (arith, lt))
    first-of (c ∷ cs) lt =
        let p : Pair = pair_at fixed [] [] c in
        let spelling : List ℕ = fixed.meaning.spelling_of (visible (c ∷ []) 0) in
        let fields : CommitFields = fields_of fixed [] p.value c in
        let longer = pairs_after-longer fixed (c ∷ []) (p ∷ []) cs in
        let f : List Pair → Stored = λ ps. fresh [] (flat_map both ps) in
        let more : Stored = fresh (both p) (flat_map both longer.more) in (
          spelling,
          more,
          ap (λ (ps : List Pair). value_text ps 0) longer.is,
          ap f longer.is ∙ first-both fixed.terms.layout fields.value spelling (field (commit_body fields)) (flat_map both longer.more)
              ∙ ap (λ (ps : List Pair). both (let q : Pair = record { value = value_text ps 0; commit = commit_text ps 0 } in q) ++ more) (sym longer.is),
        )

    pub first-objects : 0 < length (store_after fixed moves).commits → (spelling : List ℕ) × (more : Stored) × (value_text pairs 0 ≡ kept_value fixed.terms.layout spelling) × (objects_of fixed moves ≡ both (first_pair (store_after fixed moves).commits) ++ more)
    unfolding objects_of
    first-objects lt = first-of (store_after fixed moves).commits lt

  module _ (laws : KeepsLaws fixed.meaning) (size : HasSize fixed.address) (moves : List (Move O R)) (valid : IsFullyValid fixed moves) where
    -- the fields that a commit's object spells
    pub record IsFoundBy (n : ℕ) (c : CommitFields) : Type 0 where
      pub sized : AreSized c
      pub text : commit_text (pairs moves) n ≡ commit_object c
      pub own : first_with fixed.address (fixed.address (commit_object c)) (objects_of fixed moves) ≡ Some (commit_object c)
      pub its : FindsValue fixed.address (objects_of fixed moves) c.value (value_text (pairs moves) n)

    pub found-by : (n : ℕ) → 0 < n → n < length (store_after fixed moves).commits → (c : CommitFields) × IsFoundBy n c
    found-by n low lt =
        let s = store_after fixed moves in
        let sound = valid-sound fixed laws size moves valid in
        let alone = valid-alone fixed laws size moves valid in
        let spelled = sound.spelled n lt in
        let ps : List Pair = pairs moves in
        let parents = parents_of (graph_of s.commits) n in
        let c : CommitFields = record { parents = map (address_at fixed.address ps) parents; branch = origin_of s.commits n; clock = spelled.clock; value = kept_address fixed.terms.layout (fixed.address (value_text ps n)); action = spelled.action } in
        let commit = found-alone fixed.address (commit_text ps n) (objects_of fixed moves) (sound.listed n lt) (alone.commits n low lt) in (
          c,
          record {
            sized = record { parents = all-sized fixed.address size ps parents; few = omega (arith, few-sized fixed.address size ps parents, spelled.few); value = kept-sized fixed.terms.layout (fixed.address (value_text ps n)) (size (value_text ps n)) };
            text = spelled.is;
            own = ap (λ (t : List ℕ). first_with fixed.address (fixed.address t) (objects_of fixed moves)) (sym spelled.is) ∙ commit ∙ ap Some spelled.is;
            its = finds fixed.address fixed.terms.layout (value_text ps n) (objects_of fixed moves) (sound.listed_values n lt) (alone.values n low lt);
          },
        )

-- this is the item of the first objects, where they are those of a commit in a layout
abbrev pub GivesFirst : Option Pair → Layout → ObjectsView → Type 0
GivesFirst item layout objects = (spelling commit : List ℕ) (more : Stored) → objects.stored ++ objects.staged ≡ both (record { value = kept_value layout spelling; commit = commit }) ++ more → item ≡ Some (record { value = kept_value layout spelling; commit = commit })

-- The answer, of a history that is laid out.
module _ {S O R Q A : Type 0} (meaning : Meaning S O R Q A) (laws : KeepsLaws meaning) (address : List ℕ → List ℕ) (size : HasSize address)
    (versions : VersionsView (Move O R)) (objects : ObjectsView) (laid : IsLaidOut meaning address versions objects) where
  abbrev known : Fixed S O R Q A
  known = fix meaning versions.core.terms address

  abbrev history : List (Move O R)
  history = versions.core.history

  abbrev all : List Pair
  all = pairs_of known (store_after known history).commits

  all-counted : length (store_of versions.core.terms.origin history).commits ≡ length all
  all-counted = sym (length-pairs_of known (store_after known history).commits)

  pub item-past : (n : ℕ) → length (store_of versions.core.terms.origin versions.core.history).commits ≤ n → None ≡ slice_get all n
  item-past n past = let count = all-counted in sym (slice_get_past all n (omega (arith, past, count)))

  pub item-first : (item : Option Pair) (n : ℕ) → n ≡ 0 → n < length (store_of versions.core.terms.origin versions.core.history).commits
      → GivesFirst item versions.core.terms.layout objects → item ≡ slice_get all n
  item-first item n at there gives =
      let count = all-counted in
      let some : 0 < length all = omega (arith, at, there, count) in
      let first = first-objects known history (omega (arith, some, count)) in
      let with_value : List ℕ → Pair = λ v. record { value = v; commit = commit_text all 0 } in
      gives first.0 (commit_text all 0) first.1 (laid.whole ∙ first.3 ∙ ap (λ (v : List ℕ). both (with_value v) ++ first.1) first.2)
      ∙ ap (λ (v : List ℕ). Some (with_value v)) (sym first.2) ∙ pair-there all 0 some ∙ ap (slice_get all) (sym at)

  pub item-behind : (item : Option Pair) (n : ℕ) (a : List ℕ) → 0 < n → n < length (store_of versions.core.terms.origin versions.core.history).commits → slice_get versions.addresses n ≡ Some a
      → ((value : List ℕ) (c : CommitFields) → AreSized c → first_with address a (objects.stored ++ objects.staged) ≡ Some (commit_object c) → FindsValue address (objects.stored ++ objects.staged) c.value value
      → item ≡ Some (record { value = value; commit = commit_object c })) → item ≡ slice_get all n
  item-behind item n a low there at gives =
      let count = all-counted in
      let lt : n < length all = omega (arith, there, count) in
      let found = found-by known laws size history laid.valid n low there in
      let c : CommitFields = found.0 in
      let is = found.1 in
      let own : address (commit_text all n) ≡ a = address-found address all n a (sym (ap (λ (l : List (List ℕ)). slice_get l n) laid.addressed) ∙ at) in
      let here : first_with address a (objects.stored ++ objects.staged) ≡ Some (commit_object c) =
      ap (λ (s : Stored). first_with address a s) laid.whole ∙ ap (λ (b : List ℕ). first_with address b (objects_of known history)) (sym own ∙ ap address is.text) ∙ is.own in
      gives (value_text all n) c is.sized here (subst (λ (s : Stored). FindsValue address s c.value (value_text all n)) (sym laid.whole) is.its)
      ∙ ap (λ (t : List ℕ). let p : Pair = record { value = value_text all n; commit = t } in Some p) (sym is.text)
      ∙ pair-there all n lt
