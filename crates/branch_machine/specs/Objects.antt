-- The objects of a history: for each commit its own, and before it, in the layout that keeps values, the object of its value.
use Rattle.std.specs.Prelude.{ℕ, List, [], ◌∷◌, ◌++◌, length, map, drop, slice_get}
use Rattle.std.specs.declared.option.Option.{Option}
use Rattle.std.specs.declared.option.Option.TheVariants.{None, Some}
use Rattle.std.specs.Option.{option_map_or}
use Rattle.std.specs.List.{concat, flat_map}
use Rattle.mrdt_model.specs.Executions.{Event}
use Rattle.branch_wire.specs.declared.action.Action.{Action}
use Rattle.branch_wire.specs.declared.action.Action.TheVariants.{Root, Operation, Merge}
use Rattle.branch_names.specs.declared.layout.Layout.{Layout}
use Rattle.branch_names.specs.declared.layout.Layout.TheVariants.{Whole, Changes}
use Rattle.branch_wire.specs.Objects.{CommitFields, value_object, commit_object}
use Rattle.branch_wire.specs.StoredObjects.{Stored, file_in, fresh}
use Rattle.branch_history.specs.declared.moves.Move.{Move}
use Rattle.branch_history.specs.Commits.{Commit, visible}
use Rattle.branch_history.specs.History.{Store, store_of}
use Rattle.branch_machine.specs.Fixed.{Form, FixedIn}

-- the objects of one commit: that of its value, which is empty where there is none, and its own
pub record Pair : Type 0 where
  pub value : List ℕ
  pub commit : List ℕ

-- an object, where there is one
abbrev pub given : List ℕ → Stored
given [] = []
given (b ∷ bs) = (b ∷ bs) ∷ []

-- the object of the value, where there is one, and that of the commit
abbrev pub both : Pair → Stored
both p = given p.value ++ p.commit ∷ []

-- a layout keeps the object of a value, or none
abbrev pub kept_value : Layout → List ℕ → List ℕ
kept_value Whole spelling = value_object spelling
kept_value Changes spelling = []

-- and so its address
abbrev pub kept_address : Layout → List ℕ → Option (List ℕ)
kept_address Whole address = Some address
kept_address Changes address = None

-- the object of the commit of this number
abbrev pub commit_text : List Pair → ℕ → List ℕ
commit_text pairs n = option_map_or (λ p. p.commit) (slice_get pairs n) []

-- the object of its value, where there is one
abbrev pub value_text : List Pair → ℕ → List ℕ
value_text pairs n = option_map_or (λ p. p.value) (slice_get pairs n) []

-- the address of the commit of this number
abbrev pub address_at : (List ℕ → List ℕ) → List Pair → ℕ → List ℕ
address_at address pairs n = address (commit_text pairs n)

-- a commit without an operation is the first of all, which has no parents, or it merges
abbrev pub silent_action : List ℕ → Action
silent_action [] = Root
silent_action (p ∷ ps) = Merge

abbrev pub action_of : {S O R Q A : Type 0} {form : Form} → FixedIn form S O R Q A → List ℕ → Option (Event O R) → Action
action_of fixed parents None = silent_action parents
action_of fixed parents (Some e) = Operation (fixed.meaning.op_spelling e.operation) (fixed.meaning.reply_spelling e.reply)

-- the fields of a commit, given the objects of those before it and the object of its value
abbrev pub fields_of : {S O R Q A : Type 0} {form : Form} → FixedIn form S O R Q A → List Pair → List ℕ → Commit O R → CommitFields
fields_of fixed pairs value c = record {
  parents = map (address_at fixed.address pairs) c.parents;
  branch = c.origin;
  clock = c.clock;
  value = kept_address fixed.terms.layout (fixed.address value);
  action = action_of fixed c.parents c.event;
}

-- the object of the value of the commit of this number, where the layout keeps it: the spelling of what is visible there
abbrev pub value_at : {S O R Q A : Type 0} {form : Form} → FixedIn form S O R Q A → List (Commit O R) → ℕ → List ℕ
value_at fixed commits n = kept_value fixed.terms.layout (fixed.meaning.spelling_of (visible commits n))

-- the objects of a commit that comes behind others, given the objects of those
abbrev pub pair_at : {S O R Q A : Type 0} {form : Form} → FixedIn form S O R Q A → List (Commit O R) → List Pair → Commit O R → Pair
pair_at fixed before pairs c =
    let value = value_at fixed (before ++ c ∷ []) (length before) in
    record { value = value; commit = commit_object (fields_of fixed pairs value c) }

-- the objects of more commits, behind those of the commits before them
abbrev pub pairs_after : {S O R Q A : Type 0} {form : Form} → FixedIn form S O R Q A → List (Commit O R) → List Pair → List (Commit O R) → List Pair
pairs_after fixed before pairs [] = pairs
pairs_after fixed before pairs (c ∷ cs) = pairs_after fixed (before ++ c ∷ []) (pairs ++ pair_at fixed before pairs c ∷ []) cs

-- the objects of each commit, by number
unfoldable pub pairs_of : {S O R Q A : Type 0} {form : Form} → FixedIn form S O R Q A → List (Commit O R) → List Pair
pairs_of fixed commits = pairs_after fixed [] [] commits

-- the commits and branches after a history
abbrev pub store_after : {S O R Q A : Type 0} {form : Form} → FixedIn form S O R Q A → List (Move O R) → Store O R
store_after fixed moves = store_of fixed.terms.origin moves

-- the objects of a history in the order of the file: of each commit those whose bytes are not stored already
unfoldable pub objects_of : {S O R Q A : Type 0} {form : Form} → FixedIn form S O R Q A → List (Move O R) → Stored
objects_of fixed moves = fresh [] (flat_map both (pairs_of fixed (store_after fixed moves).commits))

abbrev pub objects_text : {S O R Q A : Type 0} {form : Form} → FixedIn form S O R Q A → List (Move O R) → List ℕ
objects_text {S} {O} {R} {Q} {A} {form} fixed moves = file_in form.version (objects_of fixed moves)

-- where the objects end
abbrev pub end_of : {S O R Q A : Type 0} {form : Form} → FixedIn form S O R Q A → List (Move O R) → ℕ
end_of fixed moves = length (objects_text fixed moves)

-- the objects of the commit that a move makes, if it makes one
unfoldable pub new_objects : {S O R Q A : Type 0} {form : Form} → FixedIn form S O R Q A → List (Move O R) → Move O R → Stored
new_objects fixed moves made = flat_map both (drop (length (store_after fixed moves).commits) (pairs_of fixed (store_after fixed (moves ++ made ∷ [])).commits))

-- the region of a move: what it appends to the file of objects
abbrev pub region : {S O R Q A : Type 0} {form : Form} → FixedIn form S O R Q A → List (Move O R) → Move O R → List ℕ
region fixed moves made = concat (fresh (objects_of fixed moves) (new_objects fixed moves made))
