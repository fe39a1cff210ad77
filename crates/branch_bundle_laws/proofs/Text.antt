-- The bytes of bundles are read in one way.
use Rattle.std.proofs.Common.{zero, suc, ◌≡◌, ℕ, ◌+◌, ◌<◌, ◌≤◌, ◌^◌, List, [], ◌∷◌, ◌++◌, length, map, refl, ap, sym, ◌∙◌, arith, append_assoc, length-append}
use Rattle.std.specs.Prelude.{codes}
use Rattle.std.specs.List.{AllByRecursion, flat_map, range_with_len}
use Rattle.std.proofs.lemmas.List.FromFn.{length-range_with_len}
use Rattle.mrdt_model.specs.Laws.{KeepsLaws}
use Rattle.branch_wire.specs.Fields.{short_number, field, counted}
use Rattle.branch_wire.specs.Reading.{HasLength, HasLength64, ReadsOneWay, AreCounted}
use Rattle.branch_wire.specs.Objects.{commit_kind, commit_body}
use Rattle.branch_wire.proofs.Numbers.{same_parts, length-short_number, length-field}
use Rattle.branch_wire.proofs.OneWay.{fields, pairs}
use Rattle.branch_wire.proofs.Lists.{counted-one_way, length-counted, flat_map-each}
use Rattle.branch_objects_codec.proofs.Body.{own, addresses}
use Rattle.branch_names.specs.declared.layout.Layout.{Layout}
use Rattle.branch_names.specs.declared.layout.Layout.TheVariants.{Whole, Changes}
use Rattle.branch_history.specs.declared.moves.Move.{Move}
use Rattle.branch_history.specs.Commits.{Commit, visible, graph_of}
use Rattle.branch_history.proofs.Lists.{AllByRecursion-more}
use Rattle.branch_history.proofs.Merging.{filter-all, filter-shorter}
use Rattle.branch_history.proofs.Grown.{length-graph}
use Rattle.branch_machine.specs.Fixed.{Fixed}
use Rattle.branch_machine.specs.Objects.{Pair, kept_value, pairs_of, store_after}
use Rattle.branch_machine.specs.Laws.{HasSize}
use Rattle.branch_machine.specs.Validity.{IsFullyValid}
use Rattle.branch_bundle_laws.specs.Bundles.{Bundle, item_at, commits_here, is_sent, sent, bundle_of}
use Rattle.branch_bundle_laws.specs.Text.{item_text, bundle_version, bundle_text, IsFramed, IsValueText, IsItemText, IsBundle}
use Rattle.branch_bundle_laws.specs.Laws.{HasRowLength}
use Rattle.branch_bundle_laws.proofs.Mapped.{length-mapped}
use Rattle.branch_bundle_laws.proofs.Behind.{fields_at}
use Rattle.branch_bundle_laws.proofs.Fields.{kept, behind}

framed-one : (x y a b : List ℕ) → IsFramed x → IsFramed y → x ++ a ≡ y ++ b → (x ≡ y) × (a ≡ b)
framed-one x y a b (k, v, short, p) (j, w, also, q) is =
    let whole : k ∷ (field v ++ a) ≡ j ∷ (field w ++ b) = ap (λ (l : List ℕ). l ++ a) (sym p) ∙ is ∙ ap (λ (l : List ℕ). l ++ b) q in
    let kinds : k ≡ j = cc whole in
    let inner : field v ++ a ≡ field w ++ b = cc whole in
    let one = fields.one v w a b short also inner in
    (p ∙ ap (λ i. i ∷ field v) kinds ∙ ap (λ (u : List ℕ). j ∷ field u) one.0 ∙ sym q, one.1)

pub framed : ReadsOneWay IsFramed own
framed = record { one = framed-one }

-- a layout has an object for a value, or nothing
pub values : (layout : Layout) → ReadsOneWay (IsValueText layout) own
values Whole = framed
values Changes = record { one = λ x y a b none also is. (none ∙ sym also, ap (λ (l : List ℕ). l ++ a) (sym none) ∙ is ∙ ap (λ (l : List ℕ). l ++ b) also) }

pub items-one : (layout : Layout) → ReadsOneWay (IsItemText layout) item_text
items-one layout = record {
  one = λ x y a b p q is.
      let one = (pairs (IsValueText layout) IsFramed own own (values layout) framed).one (x.value, x.commit) (y.value, y.commit) a b p q is in
      (ap (λ (z : List ℕ × List ℕ). record { value = z.0; commit = z.1 }) one.0, one.1);
}

-- the letters and the version
abbrev front : Layout → List ℕ
front layout = codes "MRDTBNDL" ++ short_number (bundle_version layout)

abbrev rest_of : Bundle → List ℕ
rest_of b = b.tip ++ counted item_text b.items

grouped : (layout : Layout) (b : Bundle) (a : List ℕ) → bundle_text layout b ++ a ≡ front layout ++ (rest_of b ++ a)
grouped layout b a =
    ap (λ l. l ++ a) (sym (append_assoc (codes "MRDTBNDL") (short_number (bundle_version layout)) (rest_of b))) ∙ append_assoc (front layout) (rest_of b) a

pub bundles-one : (layout : Layout) → ReadsOneWay (IsBundle layout) (bundle_text layout)
bundles-one layout = record {
  one = λ x y a b p q is.
      let inner = (same_parts (front layout) (rest_of x ++ a) (front layout) (rest_of y ++ b) refl (sym (grouped layout x a) ∙ is ∙ grouped layout y b)).1 in
      let one = (pairs (HasLength 32) (AreCounted (IsItemText layout)) own (counted item_text) addresses (counted-one_way (IsItemText layout) item_text (items-one layout))).one (x.tip, x.items) (y.tip, y.items) a b p q inner in
      (ap (λ (z : List ℕ × List Pair). record { tip = z.0; items = z.1 }) one.0, one.1);
}

-- the versions have as many bytes, and other ones
front-length : (layout : Layout) → length (front layout) ≡ 12
front-length layout = omega (arith, length-short_number (bundle_version layout), length-append (codes "MRDTBNDL") (short_number (bundle_version layout)))

fronts-told : (l m : Layout) → front l ≡ front m → l ≡ m
unfolding short_number
fronts-told Whole Whole is = refl
fronts-told Whole Changes is = absurd (cc is)
fronts-told Changes Whole is = absurd (cc is)
fronts-told Changes Changes is = refl

pub versions-told : (l m : Layout) (b c : Bundle) (x y : List ℕ) → bundle_text l b ++ x ≡ bundle_text m c ++ y → l ≡ m
versions-told l m b c x y is =
    fronts-told l m (same_parts (front l) (rest_of b ++ x) (front m) (rest_of c ++ y) (front-length l ∙ sym (front-length m)) (sym (grouped l b x) ∙ is ∙ grouped m c y)).0

pub bundle-length : (layout : Layout) (b : Bundle) → length b.tip ≡ 32 → length (bundle_text layout b) ≡ 52 + length (flat_map item_text b.items)
bundle-length layout b is =
    let version : List ℕ = short_number (bundle_version layout) in
    let first : length (bundle_text layout b) ≡ 8 + length (version ++ rest_of b) = omega arith in
    omega (arith, first, length-append version (rest_of b), length-short_number (bundle_version layout), length-append b.tip (counted item_text b.items), length-counted item_text b.items, is)

abbrev of_one : List ℕ → List ℕ → List ℕ → Bundle
of_one tip value commit = record { tip = tip; items = (record { value = value; commit = commit }) ∷ [] }

one-length : (layout : Layout) (tip value commit : List ℕ) → length tip ≡ 32 → length (bundle_text layout (of_one tip value commit)) ≡ 52 + length value + length commit
one-length layout tip value commit is =
    let whole = bundle-length layout (of_one tip value commit) is in
    let items : length (flat_map item_text (of_one tip value commit).items) ≡ length (value ++ commit) + 0 = length-append (value ++ commit) [] in
    omega (arith, whole, items, length-append value commit)

pub row-length-is : HasRowLength
row-length-is tip value commit is = (
  λ first second. omega (arith, one-length Whole tip value commit is, first, second),
  λ alone. omega (arith, one-length Changes tip [] commit is, alone),
)

-- numbers in a row
pub row-below : (a n : ℕ) → AllByRecursion (λ k. k < a + n) (range_with_len a n)
row-below a zero = tt
row-below a (suc n) = (omega arith, AllByRecursion-more (λ k. k < (a + 1) + n) (λ k. k < a + suc n) (range_with_len (a + 1) n) (λ k lt. omega (arith, lt)) (row-below (a + 1) n))

module _ {S O R Q A : Type 0} (fixed : Fixed S O R Q A) (laws : KeepsLaws fixed.meaning) (size : HasSize fixed.address) (moves : List (Move O R)) (valid : IsFullyValid fixed moves) (tip : ℕ) (list : List (List ℕ)) where
  abbrev commits : List (Commit O R)
  commits = (store_after fixed moves).commits

  abbrev ps : List Pair
  ps = pairs_of fixed commits

  abbrev b : Bundle
  b = bundle_of fixed moves tip list

  abbrev ns : List ℕ
  ns = sent (graph_of commits) tip (commits_here fixed.address ps list)

  value-framed : (layout : Layout) (v text : List ℕ) → HasLength64 text → text ≡ kept_value layout v → IsValueText layout text
  value-framed Whole v text short is = (1, v, omega (arith, short, ap length is, length-field v), is)
  value-framed Changes v text short is = is

  -- the item of a commit is framed, if it is short
  item-framed : (n : ℕ) → n < length commits → HasLength64 (item_text (item_at ps n)) → IsItemText fixed.terms.layout (item_at ps n)
  item-framed n lt short =
      let at = behind fixed laws size moves valid n lt in
      let v : List ℕ = fixed.meaning.spelling_of (visible commits n) in
      let fields = fields_at fixed commits ps n in
      let body : List ℕ = commit_body fields in
      let all : length (item_text (item_at ps n)) ≡ length (item_at ps n).value + length (item_at ps n).commit = length-append (item_at ps n).value (item_at ps n).commit in
      let second : length (item_at ps n).commit ≡ 1 + (8 + length body) = ap length at.text ∙ ap suc (length-field body) ∙ omega arith in
      (value-framed fixed.terms.layout v (item_at ps n).value (omega (arith, all, short)) at.value, (commit_kind fields.value, body, omega (arith, all, second, short), at.text))

  sent-below : AllByRecursion (λ n. n < length commits) ns
  sent-below =
      filter-all (is_sent (graph_of commits) tip (commits_here fixed.address ps list)) (λ n. n < length commits) (range_with_len 0 (length (graph_of commits)))
      (AllByRecursion-more (λ k. k < 0 + length (graph_of commits)) (λ k. k < length commits) (range_with_len 0 (length (graph_of commits))) (λ k lt. omega (arith, lt, length-graph commits)) (row-below 0 (length (graph_of commits))))

  all-framed : (most : ℕ) → most < 2 ^ 64 → (ks : List ℕ) → AllByRecursion (λ n. n < length commits) ks → AllByRecursion (λ (p : Pair). length (item_text p) ≤ most) (map (item_at ps) ks) → AllByRecursion (IsItemText fixed.terms.layout) (map (item_at ps) ks)
  all-framed most small [] below short = tt
  all-framed most small (k ∷ ks) below short = (item-framed k below.0 (omega (arith, short.0)), all-framed most small ks below.1 short.1)

  -- what is sent is a bundle
  pub sent-bundle : HasLength64 (bundle_text fixed.terms.layout b) → IsBundle fixed.terms.layout b
  sent-bundle short =
      let whole = bundle-length fixed.terms.layout b (size _) in
      let few = (kept fixed laws size moves valid).few_commits in
      let high = fixed.terms.limits.in_range.commits_high in
      let less = filter-shorter (is_sent (graph_of commits) tip (commits_here fixed.address ps list)) (range_with_len 0 (length (graph_of commits))) in
      let count : length b.items ≡ length ns = length-mapped (item_at ps) ns in
      (size _, (omega (arith, count, less, length-range_with_len 0 (length (graph_of commits)), length-graph commits), all-framed (length (flat_map item_text b.items)) (omega (arith, whole, short)) ns sent-below (flat_map-each item_text b.items)))
