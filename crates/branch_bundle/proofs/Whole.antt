-- The bytes of a whole bundle, part behind part.
use Rattle.std.proofs.Common.{◌≡◌, ℕ, ◌<◌, List, [], ◌∷◌, ◌++◌, length, refl, ap, sym, ◌∙◌, subst, arith, append_assoc, length-append}
use Rattle.std.specs.Prelude.{codes}
use Rattle.std.proofs.lemmas.List.{append-nil}
use Rattle.mrdt_model.specs.Spelled.{AppendsPart}
use Rattle.branch_names.specs.declared.layout.Layout.{Layout}
use Rattle.branch_names.specs.declared.layout.Layout.TheVariants.{Whole, Changes}
use Rattle.branch_wire.specs.Fields.{short_number, counted}
use Rattle.branch_wire.specs.Reading.{AreCounted}
use Rattle.branch_wire.proofs.Numbers.{same_parts}
use Rattle.branch_wire.proofs.Parts.{part-none, part-second}
use Rattle.branch_objects_codec.specs.Parts.{NoneAt}
use Rattle.branch_bundle_laws.specs.Bundles.{Bundle}
use Rattle.branch_bundle_laws.specs.Text.{item_text, bundle_version, bundle_text, IsItemText, IsBundle}
use Rattle.branch_bundle_laws.proofs.Text.{bundles-one}
use Rattle.branch_bundle.specs.Held.{front, IsNoBundle}

-- the front has as many bytes in each layout
front-length : (layout : Layout) → length (front layout) ≡ 12
unfolding short_number
front-length Whole = refl
front-length Changes = refl

-- the front of a layout, byte by byte
pub whole-front : 77 ∷ 82 ∷ 68 ∷ 84 ∷ 66 ∷ 78 ∷ 68 ∷ 76 ∷ 0 ∷ 0 ∷ 0 ∷ 1 ∷ [] ≡ front Whole
unfolding short_number
whole-front = refl

pub changes-front : 77 ∷ 82 ∷ 68 ∷ 84 ∷ 66 ∷ 78 ∷ 68 ∷ 76 ∷ 0 ∷ 0 ∷ 0 ∷ 2 ∷ [] ≡ front Changes
unfolding short_number
changes-front = refl

module _ (layout : Layout) where
  abbrev heading : List ℕ
  heading = front layout

  -- the bytes of a bundle, with the letters and the version in one
  pub bundle-parts : (b : Bundle) → bundle_text layout b ≡ heading ++ (b.tip ++ counted item_text b.items)
  bundle-parts b = sym (append_assoc (codes "MRDTBNDL") (short_number (bundle_version layout)) (b.tip ++ counted item_text b.items))

  -- what stands behind the front of a bundle
  pub behind-front : (bytes mid : List ℕ) → bytes ≡ heading ++ mid → (b : Bundle) → bytes ≡ bundle_text layout b → mid ≡ b.tip ++ counted item_text b.items
  behind-front bytes mid first b is = (same_parts heading mid heading (b.tip ++ counted item_text b.items) refl (sym first ∙ is ∙ bundle-parts b)).1

  -- bytes that do not begin so are no bundle
  pub none-front : (bytes : List ℕ) → ((rest : List ℕ) → bytes ≡ heading ++ rest → ⊥) → IsNoBundle layout bytes
  none-front bytes none b fits is = none (b.tip ++ counted item_text b.items) (is ∙ bundle-parts b)

  -- nor are those with too few bytes behind the front
  pub none-tip : (bytes mid : List ℕ) → bytes ≡ heading ++ mid → length mid < 32 → IsNoBundle layout bytes
  none-tip bytes mid first few b fits is =
      let rest : mid ≡ b.tip ++ counted item_text b.items = behind-front bytes mid first b is in
      omega (arith, few, fits.0, ap length rest, length-append b.tip (counted item_text b.items))

  -- nor those without a count of items and the items behind the tip
  pub none-items : (bytes mid tip rest : List ℕ) → bytes ≡ heading ++ mid → length tip ≡ 32 → mid ≡ tip ++ rest → NoneAt (AreCounted (IsItemText layout)) (counted item_text) rest → IsNoBundle layout bytes
  none-items bytes mid tip rest first size second none b fits is =
      let all = behind-front bytes mid first b is in
      let items = (same_parts tip rest b.tip (counted item_text b.items) (size ∙ sym fits.0) (sym second ∙ all)).1 in
      none b.items [] fits.1 (items ∙ sym (append-nil (counted item_text b.items)))

  -- a bundle that is read, and what stands behind it
  pub read-parts : (bytes mid rest more : List ℕ) (b : Bundle) → bytes ≡ heading ++ mid → mid ≡ b.tip ++ rest → rest ≡ counted item_text b.items ++ more → bytes ≡ bundle_text layout b ++ more
  read-parts bytes mid rest more b first second third =
      first ∙ ap (λ (l : List ℕ). heading ++ l) (second ∙ ap (λ (l : List ℕ). b.tip ++ l) third ∙ sym (append_assoc b.tip (counted item_text b.items) more))
      ∙ sym (append_assoc heading (b.tip ++ counted item_text b.items) more) ∙ ap (λ (l : List ℕ). l ++ more) (sym (bundle-parts b))

  -- where something stands behind a bundle, the bytes are none
  pub none-behind : (bytes more : List ℕ) (b : Bundle) → IsBundle layout b → bytes ≡ bundle_text layout b ++ more → (more ≡ [] → ⊥) → IsNoBundle layout bytes
  none-behind bytes more b fits read some other good is = some ((bundles-one layout).one b other more [] fits good (sym read ∙ is ∙ sym (append-nil (bundle_text layout other)))).1

  -- no two bundles have one spelling
  pub one-bundle : (bytes : List ℕ) (b other : Bundle) → IsBundle layout b → bytes ≡ bundle_text layout b → IsBundle layout other → bytes ≡ bundle_text layout other → b ≡ other
  one-bundle bytes b other fits is good also = ((bundles-one layout).one b other [] [] fits good (ap (λ (l : List ℕ). l ++ []) (sym is ∙ also))).0

  -- fewer bytes than those of the front do not begin so
  pub short-front : (old : List ℕ) → length old < 12 → (rest : List ℕ) → old ≡ heading ++ rest → ⊥
  short-front old few rest is = omega (arith, few, ap length is, length-append heading rest, front-length layout)

  -- nor do bytes that begin with as many others
  pub other-front : (old bytes more : List ℕ) → length bytes ≡ 12 → old ≡ bytes ++ more → (bytes ≡ heading → ⊥) → (rest : List ℕ) → old ≡ heading ++ rest → ⊥
  other-front old bytes more size first other rest is = other (same_parts bytes more heading rest (size ∙ sym (front-length layout)) (sym first ∙ is)).0

  -- a whole bundle was written, part by part
  pub written-whole : (old mid next new : List ℕ) (b : Bundle) → mid ≡ old ++ heading → next ≡ mid ++ b.tip → new ≡ next ++ counted item_text b.items → new ≡ old ++ bundle_text layout b
  written-whole old mid next new b first second third =
      let items : List ℕ = counted item_text b.items in
      third ∙ ap (λ (l : List ℕ). l ++ items) (second ∙ ap (λ (l : List ℕ). l ++ b.tip) first) ∙ append_assoc (old ++ heading) b.tip items
      ∙ append_assoc old heading (b.tip ++ items) ∙ ap (λ (l : List ℕ). old ++ l) (sym (bundle-parts b))

  -- or all but the items, and a part of those
  pub written-items : (old mid next new : List ℕ) (b : Bundle) → mid ≡ old ++ heading → next ≡ mid ++ b.tip → AppendsPart next new (counted item_text b.items) → AppendsPart old new (bundle_text layout b)
  written-items old mid next new b first second part =
      let items : List ℕ = counted item_text b.items in
      subst (AppendsPart old new) (sym (bundle-parts b)) (part-second old mid new heading (b.tip ++ items) first (part-second mid next new b.tip items second part))

  -- or the front alone
  pub written-front : (old mid new : List ℕ) (b : Bundle) → mid ≡ old ++ heading → new ≡ mid → AppendsPart old new (bundle_text layout b)
  written-front old mid new b first none =
      let rest : List ℕ = b.tip ++ counted item_text b.items in
      subst (AppendsPart old new) (sym (bundle-parts b)) (part-second old mid new heading rest first (subst (λ (l : List ℕ). AppendsPart mid l rest) (sym none) (part-none mid rest)))
