-- Lists that begin alike, and spellings of them.
use Rattle.std.proofs.Common.{◌≡◌, ℕ, ◌+◌, ◌<◌, List, [], ◌∷◌, ◌++◌, length, get_or, take, drop, refl, ◌∙◌, ap, sym, append_assoc, add-one}
use Rattle.std.specs.List.{flat_map}
use Rattle.std.proofs.Math.Seq.{take-suc}
use Rattle.std.proofs.lemmas.List.{take-append-drop}
use Rattle.std.proofs.lemmas.List.Concat.{flat_map-append}
use Rattle.branch_wire.proofs.Numbers.{same_parts, length-number}
use Rattle.branch_wire.specs.Fields.{number, time_field, counted}
use Rattle.branch_wire.proofs.OneWay.{times}
use Rattle.mrdt_model.specs.Times.{IsTime}
use Rattle.live_set.specs.declared.kept.Kept.{Kept}
use Rattle.live_set.specs.Spelling.{kept_spelling}
use Rattle.live_set.proofs.Writing.{drop-next}

module _ {X : Type 0} where
  -- an element in its place
  pub split-at : (xs : List X) (i : ℕ) (x : X) → i < length xs → x ≡ get_or xs i x → take i xs ++ (x ∷ drop (i + 1) xs) ≡ xs
  split-at xs i x here is = ap (λ ys. take i xs ++ ys) (sym (drop-next xs i x here is)) ∙ take-append-drop i xs

  pub take-next : (xs : List X) (i : ℕ) (x : X) → i < length xs → x ≡ get_or xs i x → take (i + 1) xs ≡ take i xs ++ x ∷ []
  take-next xs i x here is = rw (add-one) (take-suc xs i x here ∙ ap (λ y. take i xs ++ y ∷ []) (sym is))

  -- equal lists have equal elements
  pub same-at : (xs ys : List X) (i : ℕ) (x y : X) → i < length xs → i < length ys → x ≡ get_or xs i x → y ≡ get_or ys i y → xs ≡ ys → x ≡ y
  same-at xs ys i x y p q is_x is_y same =
      let both : x ∷ drop (i + 1) xs ≡ y ∷ drop (i + 1) ys = sym (drop-next xs i x p is_x) ∙ ap (drop i) same ∙ drop-next ys i y q is_y in
      cc

  -- behind what is alike, the spellings of the next elements stand at the front of the same bytes
  pub spelled-next : (spell : X → List ℕ) (xs ys : List X) (i : ℕ) (x y : X) → i < length xs → i < length ys → x ≡ get_or xs i x → y ≡ get_or ys i y → take i xs ≡ take i ys → flat_map spell xs ≡ flat_map spell ys
      → spell x ++ flat_map spell (drop (i + 1) xs) ≡ spell y ++ flat_map spell (drop (i + 1) ys)
  spelled-next spell xs ys i x y p q is_x is_y alike same =
      (same_parts (flat_map spell (take i xs)) (flat_map spell (x ∷ drop (i + 1) xs)) (flat_map spell (take i ys)) (flat_map spell (y ∷ drop (i + 1) ys)) (ap (λ zs. length (flat_map spell zs)) alike)
      (sym (flat_map-append spell (take i xs) (x ∷ drop (i + 1) xs)) ∙ ap (flat_map spell) (split-at xs i x p is_x) ∙ same ∙ sym (ap (flat_map spell) (split-at ys i y q is_y)) ∙ flat_map-append spell (take i ys) (y ∷ drop (i + 1) ys))).1

-- counted lists that are spelled alike
pub counted-parts : {X : Type 0} (spell : X → List ℕ) (xs ys : List X) → counted spell xs ≡ counted spell ys → (number (length xs) ≡ number (length ys)) × (flat_map spell xs ≡ flat_map spell ys)
counted-parts spell xs ys is = same_parts (number (length xs)) (flat_map spell xs) (number (length ys)) (flat_map spell ys) (length-number (length xs) ∙ sym (length-number (length ys))) is

-- entries whose spellings stand at the front of the same bytes have one time, and their payloads' spellings stand behind it
pub apart : {V : Type 0} (spelling : V → List ℕ) (j k : Kept V) (a b : List ℕ) → IsTime j.time → IsTime k.time → kept_spelling spelling j ++ a ≡ kept_spelling spelling k ++ b → (j.time ≡ k.time) × (spelling j.payload ++ a ≡ spelling k.payload ++ b)
apart spelling j k a b p q is = times.one j.time k.time (spelling j.payload ++ a) (spelling k.payload ++ b) p q (sym (append_assoc (time_field j.time) (spelling j.payload) a) ∙ is ∙ append_assoc (time_field k.time) (spelling k.payload) b)
