-- What the first object of bytes tells of the parts that they are, and what the parts tell of a commit's shape.
use Rattle.std.proofs.Common.{◌≡◌, inl, inr, ℕ, List, [], ◌++◌, refl, sym, ◌∙◌, ap, subst, append-nil, Option, Some, None, Err, IsErrOf}
use Rattle.branch_names.specs.declared.layout.Layout.{Layout}
use Rattle.branch_names.specs.declared.layout.Layout.TheVariants.{Whole, Changes}
use Rattle.branch_wire.specs.declared.action.Action.{Action}
use Rattle.branch_wire.specs.Objects.{CommitFields, value_object, commit_object}
use Rattle.branch_objects_codec.specs.declared.object.Object.{Object}
use Rattle.branch_objects_codec.specs.declared.object.Object.TheVariants.{Value, Commit}
use Rattle.branch_objects_codec.specs.Grammar.{object_bytes, IsObject}
use Rattle.branch_objects_codec.specs.Parts.{NoneAt}
use Rattle.branch_objects_codec.proofs.OneWay.{objects}
use Rattle.heads_journal.specs.declared.record.Record.{Record}
use Rattle.branch_machine.specs.Fixed.{Form, FixedIn}
use Rattle.branch_files.specs.Next.{Does, AreFewIn, IsLaidOut, IsValuePart, HasShape}
use Rattle.commit_replay.specs.Parts.{value_text, IsKept, AreParts, IsOfType}

abbrev as_object : CommitFields → Object
as_object d = Commit d.parents d.branch d.clock d.value d.action

module _ (layout : Layout) (bytes text : List ℕ) (same : bytes ≡ text) where
  -- no object stands at the front
  pub none-first : NoneAt IsObject object_bytes bytes → (value : Option (List ℕ)) (d : CommitFields) → AreParts layout text value d → ⊥
  none-first none None d parts = none (as_object d) [] parts.commit (same ∙ parts.whole ∙ sym (append-nil (commit_object d)))
  none-first none (Some v) d parts = none (Value v) (commit_object d) parts.kept.1 (same ∙ parts.whole)

  -- this one stands there
  module _ (rest : List ℕ) (first : Object) (one : (other : Object) (more : List ℕ) → IsObject other → bytes ≡ object_bytes other ++ more → (first ≡ other) × (rest ≡ more)) where
    pub commit-last : (parents : List (List ℕ)) (branch clock : ℕ) (address : Option (List ℕ)) (action : Action) → first ≡ Commit parents branch clock address action → (value : Option (List ℕ)) (d : CommitFields) → AreParts layout text value d → rest ≡ []
    commit-last parents branch clock address action is None d parts = (one (as_object d) [] parts.commit (same ∙ parts.whole ∙ sym (append-nil (commit_object d)))).1
    commit-last parents branch clock address action is (Some v) d parts =
        absurd (let e : Commit parents branch clock address action ≡ Value v = sym is ∙ (one (Value v) (commit_object d) parts.kept.1 (same ∙ parts.whole)).0 in cc e)

    -- in the layout that keeps no values, none stands before the commit
    pub none-kept : layout ≡ Changes → (spelling : List ℕ) → first ≡ Value spelling → (value : Option (List ℕ)) (d : CommitFields) → AreParts layout text value d → ⊥
    none-kept none spelling is None d parts =
        let e : Value spelling ≡ as_object d = sym is ∙ (one (as_object d) [] parts.commit (same ∙ parts.whole ∙ sym (append-nil (commit_object d)))).0 in cc e
    none-kept none spelling is (Some v) d parts = let e : Whole ≡ Changes = sym parts.kept.0 ∙ none in cc e

    -- the commit's address of its value is the one that was read
    pub laid-as : (parents : List (List ℕ)) (branch clock : ℕ) (address : Option (List ℕ)) (action : Action) → first ≡ Commit parents branch clock address action → (value : Option (List ℕ)) (d : CommitFields) → AreParts layout text value d → IsLaidOut layout address
    laid-as parents branch clock address action is None d parts =
        let e : Commit parents branch clock address action ≡ as_object d = sym is ∙ (one (as_object d) [] parts.commit (same ∙ parts.whole ∙ sym (append-nil (commit_object d)))).0 in
        let told : address ≡ d.value = cc e in
        subst (IsLaidOut layout) (sym told) parts.laid_out
    laid-as parents branch clock address action is (Some v) d parts =
        absurd (let e : Commit parents branch clock address action ≡ Value v = sym is ∙ (one (Value v) (commit_object d) parts.kept.1 (same ∙ parts.whole)).0 in cc e)

    pub commit-behind : (spelling : List ℕ) → first ≡ Value spelling → (value : Option (List ℕ)) (d : CommitFields) → AreParts layout text value d → rest ≡ commit_object d
    commit-behind spelling is None d parts =
        absurd (let e : Value spelling ≡ as_object d = sym is ∙ (one (as_object d) [] parts.commit (same ∙ parts.whole ∙ sym (append-nil (commit_object d)))).0 in cc e)
    commit-behind spelling is (Some v) d parts = (one (Value v) (commit_object d) parts.kept.1 (same ∙ parts.whole)).1

-- bytes are parted in one way
same-value : (v w : List ℕ) → Value v ≡ Value w → v ≡ w
same-value v w is = cc is

same-commit : (c d : CommitFields) → as_object c ≡ as_object d → c ≡ d
same-commit c d is = ap fields is
  where
    fields : Object → CommitFields
    fields (Value v) = c
    fields (Commit parents branch clock value action) = record { parents = parents; branch = branch; clock = clock; value = value; action = action }

pub parts-same : (layout : Layout) (bytes : List ℕ) (v w : Option (List ℕ)) (c d : CommitFields) → AreParts layout bytes v c → AreParts layout bytes w d → (v ≡ w) × (c ≡ d)
parts-same layout bytes None None c d p q =
    (refl, same-commit c d (objects.one (as_object c) (as_object d) [] [] p.commit q.commit (append-nil (commit_object c) ∙ sym p.whole ∙ q.whole ∙ sym (append-nil (commit_object d)))).0)
parts-same layout bytes None (Some y) c d p q =
    absurd (let e : as_object c ≡ Value y = (objects.one (as_object c) (Value y) [] (commit_object d) p.commit q.kept.1 (append-nil (commit_object c) ∙ sym p.whole ∙ q.whole)).0 in cc e)
parts-same layout bytes (Some x) None c d p q =
    absurd (let e : Value x ≡ as_object d = (objects.one (Value x) (as_object d) (commit_object c) [] p.kept.1 q.commit (sym p.whole ∙ q.whole ∙ sym (append-nil (commit_object d)))).0 in cc e)
parts-same layout bytes (Some x) (Some y) c d p q =
    let first = objects.one (Value x) (Value y) (commit_object c) (commit_object d) p.kept.1 q.kept.1 (sym p.whole ∙ q.whole) in
    let whole : commit_object c ++ [] ≡ commit_object d ++ [] = append-nil (commit_object c) ∙ first.1 ∙ sym (append-nil (commit_object d)) in
    (ap (λ (z : List ℕ). Some z) (same-value x y first.0), same-commit c d (objects.one (as_object c) (as_object d) [] [] p.commit q.commit whole).0)

module _ {S O R Q A : Type 0} {form : Form} (fixed : FixedIn form S O R Q A) (r : Record) (bytes : List ℕ) where
  pub value-part : (value : Option (List ℕ)) → IsKept fixed.terms.layout value → IsOfType fixed.meaning value → IsValuePart fixed (value_text value)
  value-part None kept inside = inl refl
  value-part (Some v) kept inside = inr (kept.0, v, kept.1, inside, refl)

  pub parts-shape : (value : Option (List ℕ)) (c : CommitFields) → AreParts fixed.terms.layout bytes value c → IsOfType fixed.meaning value → Does fixed r c.action → AreFewIn form.version c.parents → HasShape fixed r bytes
  parts-shape value c parts inside does few = (value_text value, commit_object c, value-part value parts.kept inside, (c, parts.commit, does, few, parts.laid_out, refl), parts.whole)

  -- the parts of bytes that have the shape
  pub record IsShapedBy : Type 0 where
    pub value : Option (List ℕ)
    pub commit : CommitFields
    pub are : AreParts fixed.terms.layout bytes value commit
    pub inside : IsOfType fixed.meaning value
    pub does : Does fixed r commit.action
    pub few : AreFewIn form.version commit.parents

  pub shape-parts : HasShape fixed r bytes → IsShapedBy
  shape-parts (first, second, inl none, (c, commit, does, few, laid, is), whole) = record {
    value = None;
    commit = c;
    are = record { kept = tt; commit = commit; laid_out = laid; whole = whole ∙ ap (λ (l : List ℕ). l ++ second) none ∙ is };
    inside = tt;
    does = does;
    few = few;
  }
  shape-parts (first, second, inr (of, v, short, inside, same), (c, commit, does, few, laid, is), whole) = record {
    value = Some v;
    commit = c;
    are = record { kept = (of, short); commit = commit; laid_out = laid; whole = whole ∙ ap (λ (l : List ℕ). l ++ second) same ∙ ap (λ (l : List ℕ). value_object v ++ l) is };
    inside = inside;
    does = does;
    few = few;
  }

  -- what was read of the bytes decides the shape
  pub not-parted : ((value : Option (List ℕ)) (c : CommitFields) → AreParts fixed.terms.layout bytes value c → ⊥) → HasShape fixed r bytes → ⊥
  not-parted none shape = let own = shape-parts shape in none own.value own.commit own.are

  pub not-done : (value : Option (List ℕ)) (c : CommitFields) → AreParts fixed.terms.layout bytes value c → (Does fixed r c.action → ⊥) → HasShape fixed r bytes → ⊥
  not-done value c parts none shape =
      let own = shape-parts shape in
      none (subst (λ (d : CommitFields). Does fixed r d.action) (parts-same fixed.terms.layout bytes own.value value own.commit c own.are parts).1 own.does)

  pub not-few : (value : Option (List ℕ)) (c : CommitFields) → AreParts fixed.terms.layout bytes value c → (AreFewIn form.version c.parents → ⊥) → HasShape fixed r bytes → ⊥
  not-few value c parts none shape =
      let own = shape-parts shape in
      none (subst (λ (d : CommitFields). AreFewIn form.version d.parents) (parts-same fixed.terms.layout bytes own.value value own.commit c own.are parts).1 own.few)

  pub not-valued : (value : Option (List ℕ)) (c : CommitFields) → AreParts fixed.terms.layout bytes value c → (IsOfType fixed.meaning value → ⊥) → HasShape fixed r bytes → ⊥
  not-valued value c parts none shape =
      let own = shape-parts shape in
      none (subst (IsOfType fixed.meaning) (parts-same fixed.terms.layout bytes own.value value own.commit c own.are parts).0 own.inside)

-- a refusal handed on is the same
pub same-error : {X Y E : Type 0} (e k : E) → IsErrOf {T = X} (Err e) k → IsErrOf {T = Y} (Err e) k
same-error e k is = let same : e ≡ k = cc is in ap Err same
