-- The objects of a commit, in either layout.
use Rattle.std.proofs.Common.{◌≡◌, ℕ, ◌+◌, ◌≤◌, Bool, true, false, List, [], ◌∷◌, ◌++◌, Option, Some, None, length, refl, sym, ◌∙◌, ap, ◌||◌, arith, append-nil, length-append}
use Rattle.std.specs.List.{concat, list_any}
use Rattle.std.proofs.lemmas.Bool.{or_left, or_right}
use Rattle.std.proofs.lemmas.List.Folds.{list_any-append}
use Rattle.branch_names.specs.declared.layout.Layout.{Layout}
use Rattle.branch_names.specs.declared.layout.Layout.TheVariants.{Whole, Changes}
use Rattle.branch_wire.specs.Fields.{field}
use Rattle.branch_wire.specs.Reading.{HasLength}
use Rattle.branch_wire.specs.Objects.{value_object, value_field, commit_kind}
use Rattle.branch_wire.specs.StoredObjects.{Stored, same, clash, collision, fresh}
use Rattle.branch_wire.proofs.Numbers.{length-field}
use Rattle.branch_machine.specs.Objects.{Pair, given, both, kept_value, kept_address}
use Rattle.branch_machine.proofs.Stored.{same-refl, listed-before, listed-fresh, clash-none, collision-second}

-- the object of a value is stored, where the layout keeps it, and else there is none
abbrev pub IsListedValue : Layout → Stored → List ℕ → Type 0
IsListedValue Whole stored v = list_any (same v) stored ≡ true
IsListedValue Changes stored v = v ≡ []

pub commit-listed-in : (p : Pair) → list_any (same p.commit) (both p) ≡ true
commit-listed-in p =
    list_any-append (same p.commit) (given p.value) (p.commit ∷ [])
    ∙ or_right (list_any (same p.commit) (given p.value)) (same p.commit p.commit || false) (or_left (same p.commit p.commit) false (same-refl p.commit))

pub value-listed-in : (layout : Layout) (spelling c : List ℕ) → IsListedValue layout (given (kept_value layout spelling) ++ c ∷ []) (kept_value layout spelling)
value-listed-in Whole spelling c = let v = value_object spelling in or_left (same v v) (list_any (same v) (c ∷ [])) (same-refl v)
value-listed-in Changes spelling c = refl

pub listed_value-before : (layout : Layout) (v : List ℕ) (stored more : Stored) → IsListedValue layout stored v → IsListedValue layout (stored ++ more) v
listed_value-before Whole v stored more is = listed-before v stored more is
listed_value-before Changes v stored more is = is

pub listed_value-fresh : (layout : Layout) (v : List ℕ) (stored xs : Stored) → IsListedValue layout xs v → IsListedValue layout (stored ++ fresh stored xs) v
listed_value-fresh Whole v stored xs is = listed-fresh v stored xs is
listed_value-fresh Changes v stored xs is = is

-- of two objects that do not collide with stored ones, the first clashes with none of these
pub collision-first : (address : List ℕ → List ℕ) (x y : List ℕ) (stored : Stored) → collision address stored (x ∷ y ∷ []) ≡ None → clash address x stored ≡ None
collision-first address x y stored none = at (clash address x stored) none
  where
    at : (o : Option (List ℕ)) → ◌≡◌ {A = Option (List ℕ × List ℕ)} (elim o [ None ↦ collision address (stored ++ x ∷ []) (y ∷ []) | Some z ↦ Some (z, x) ]) None → o ≡ None
    at None is = refl
    at (Some z) is = cc

-- of the objects of a commit, which do not collide with stored ones, its own clashes with none of these, nor with its value's
pub collision-own : (address : List ℕ → List ℕ) (v c : List ℕ) (stored : Stored) → collision address stored (given v ++ c ∷ []) ≡ None → clash address c (stored ++ given v) ≡ None
collision-own address [] c stored none = ap (clash address c) (append-nil stored) ∙ at (clash address c stored) none
  where
    at : (o : Option (List ℕ)) → ◌≡◌ {A = Option (List ℕ × List ℕ)} (elim o [ None ↦ None | Some y ↦ Some (y, c) ]) None → o ≡ None
    at None is = refl
    at (Some y) is = cc
collision-own address (b ∷ bs) c stored none = collision-second address c (b ∷ bs) stored none

-- a value that is stored, with the address of one that does not collide, is that
pub value-told : (layout : Layout) (address : List ℕ → List ℕ) (spelling c v : List ℕ) (stored : Stored) → collision address stored (given (kept_value layout spelling) ++ c ∷ []) ≡ None → IsListedValue layout stored v
    → kept_address layout (address v) ≡ kept_address layout (address (kept_value layout spelling)) → v ≡ kept_value layout spelling
value-told Whole address spelling c v stored none listed is =
    let w = value_object spelling in
    let same_address : address v ≡ address w = cc is in
    clash-none address w v stored (collision-first address w c stored none) listed same_address
value-told Changes address spelling c v stored none listed is = listed

-- how many bytes the address of a value takes in a commit
abbrev address_length : Layout → ℕ
address_length Whole = 32
address_length Changes = 0

pub length-kept_address : (layout : Layout) (a : List ℕ) → HasLength 32 a → length (value_field (kept_address layout a)) ≡ address_length layout
length-kept_address Whole a size = size
length-kept_address Changes a size = refl

pub kept_address-most : (layout : Layout) (a : List ℕ) → HasLength 32 a → length (value_field (kept_address layout a)) ≤ 32
kept_address-most Whole a size = omega (arith, size)
kept_address-most Changes a size = omega arith

pub kept_address-same : (layout : Layout) (a b : List ℕ) → value_field (kept_address layout a) ≡ value_field (kept_address layout b) → kept_address layout a ≡ kept_address layout b
kept_address-same Whole a b is = ap (λ (x : List ℕ). Some x) is
kept_address-same Changes a b is = refl

pub kept_value-most : (layout : Layout) (spelling : List ℕ) → length (kept_value layout spelling) ≤ 9 + length spelling
kept_value-most Whole spelling = omega (arith, length-field spelling)
kept_value-most Changes spelling = omega arith

pub length-both : (p : Pair) → length (concat (both p)) ≡ length p.value + length p.commit
length-both p = at p.value p.commit
  where
    at : (v c : List ℕ) → length (concat (given v ++ c ∷ [])) ≡ length v + length c
    at [] c = omega (arith, length-append c [])
    at (b ∷ bs) c = omega (arith, length-append (b ∷ bs) (c ++ []), length-append c [])

-- a commit's object is no value's
pub commit-unlike : (layout : Layout) (a : Option (List ℕ)) (spelling t : List ℕ) → same (commit_kind a ∷ t) (kept_value layout spelling) ≡ false
commit-unlike Whole None spelling t = refl
commit-unlike Whole (Some a) spelling t = refl
commit-unlike Changes a spelling t = refl

given-unlike : (z v : List ℕ) → same z v ≡ false → list_any (same z) (given v) ≡ false
given-unlike z [] is = refl
given-unlike z (b ∷ bs) is = ap (λ x. x || false) is

or-false : (b : Bool) → (b || false) ≡ b
or-false true = refl
or-false false = refl

-- what is no value's object is one of a commit's objects, and of more, where it is the commit's own, or of those
pub any-both : (z : List ℕ) (p : Pair) (rest : Stored) → same z p.value ≡ false → list_any (same z) (both p ++ rest) ≡ (same z p.commit || list_any (same z) rest)
any-both z p rest unlike =
    list_any-append (same z) (both p) rest
    ∙ ap (λ b. b || list_any (same z) rest)
    (list_any-append (same z) (given p.value) (p.commit ∷ []) ∙ ap (λ b. b || (same z p.commit || false)) (given-unlike z p.value unlike) ∙ or-false (same z p.commit))
