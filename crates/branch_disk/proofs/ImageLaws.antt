-- Laws of images alone.
use Rattle.std.specs.Prelude.{◌≡◌, ◌⊎◌, ℕ, ◌+◌, ◌-◌, ◌<◌, ◌≤◌, max, min, List, [], ◌∷◌, ◌++◌, length, take, drop}
use Rattle.std.proofs.Common.{zero, suc, inl, inr, ⊎_elim, refl, sym, ◌∙◌, ap, arith, get_or, length-append, length-drop, append_assoc}
use Rattle.std.proofs.lemmas.List.{take-take, take_all, drop_all, length-take, length-take-le, get_or-take, get_or-drop, take_at, drop_at, ext_get_or}
use Rattle.std.proofs.lemmas.Bool.{cases_lt}
use Rattle.branch_disk.specs.Disk.{put, Torn}
use Rattle.branch_disk.specs.Image.{Patch, Kept, greatest, IsImage, IsSound, written, half_written, synced}

pub greatest_from : (ps : List Patch) (n : ℕ) → n ≤ greatest ps n
greatest_from [] n = omega arith
greatest_from (p ∷ ps) n = omega (arith, greatest_from ps n)

-- the bytes of c, with those of s in a range
mend : ℕ → ℕ → List ℕ → List ℕ → List ℕ
mend zero zero s c = c
mend zero (suc n) s [] = []
mend zero (suc n) [] (x ∷ c) = x ∷ mend zero n [] c
mend zero (suc n) (y ∷ s) (x ∷ c) = y ∷ mend zero n s c
mend (suc at) n s [] = []
mend (suc at) n [] (x ∷ c) = x ∷ mend at n [] c
mend (suc at) n (y ∷ s) (x ∷ c) = x ∷ mend at n s c

length-mend : (at n : ℕ) (s c : List ℕ) → length (mend at n s c) ≡ length c
unfolding mend
length-mend zero zero s c = refl
length-mend zero (suc n) s [] = refl
length-mend zero (suc n) [] (x ∷ c) = ap suc (length-mend zero n [] c)
length-mend zero (suc n) (y ∷ s) (x ∷ c) = ap suc (length-mend zero n s c)
length-mend (suc at) n s [] = refl
length-mend (suc at) n [] (x ∷ c) = ap suc (length-mend at n [] c)
length-mend (suc at) n (y ∷ s) (x ∷ c) = ap suc (length-mend at n s c)

take-mend : (at n : ℕ) (s c : List ℕ) → take at (mend at n s c) ≡ take at c
unfolding mend
take-mend zero n s c = refl
take-mend (suc at) n s [] = refl
take-mend (suc at) n [] (x ∷ c) = ap (λ (l : List ℕ). x ∷ l) (take-mend at n [] c)
take-mend (suc at) n (y ∷ s) (x ∷ c) = ap (λ (l : List ℕ). x ∷ l) (take-mend at n s c)

-- past the range c stands
drop-mend : (at n m : ℕ) (s c : List ℕ) → m ≡ at + n → drop m (mend at n s c) ≡ drop m c
unfolding mend
drop-mend zero zero m s c is = refl
drop-mend zero (suc n) m s [] is = refl
drop-mend zero (suc n) zero [] (x ∷ c) is = absurd (omega arith)
drop-mend zero (suc n) (suc m) [] (x ∷ c) is = drop-mend zero n m [] c (omega arith)
drop-mend zero (suc n) zero (y ∷ s) (x ∷ c) is = absurd (omega arith)
drop-mend zero (suc n) (suc m) (y ∷ s) (x ∷ c) is = drop-mend zero n m s c (omega arith)
drop-mend (suc at) n m s [] is = refl
drop-mend (suc at) n zero s (x ∷ c) is = absurd (omega arith)
drop-mend (suc at) n (suc m) [] (x ∷ c) is = drop-mend at n m [] c (omega arith)
drop-mend (suc at) n (suc m) (y ∷ s) (x ∷ c) is = drop-mend at n m s c (omega arith)

-- where s and c are the same outside the range, s stands
mend_same : (at n i : ℕ) (s c : List ℕ) → i < length s → i < length c → ((i < at) ⊎ (at + n ≤ i) → get_or c i 0 ≡ get_or s i 0) → get_or (mend at n s c) i 0 ≡ get_or s i 0
unfolding mend
mend_same zero zero i s c in_s in_c same = same (inr (omega arith))
mend_same at n i [] c in_s in_c same = absurd (omega arith)
mend_same at n i s [] in_s in_c same = absurd (omega arith)
mend_same zero (suc n) zero (y ∷ s) (x ∷ c) in_s in_c same = refl
mend_same zero (suc n) (suc i) (y ∷ s) (x ∷ c) in_s in_c same = mend_same zero n i s c (omega arith) (omega arith) (λ where_is. same (⊎_elim (λ h. inl (omega arith)) (λ h. inr (omega arith)) where_is))
mend_same (suc at) n zero (y ∷ s) (x ∷ c) in_s in_c same = same (inl (omega arith))
mend_same (suc at) n (suc i) (y ∷ s) (x ∷ c) in_s in_c same = mend_same at n i s c (omega arith) (omega arith) (λ where_is. same (⊎_elim (λ h. inl (omega arith)) (λ h. inr (omega arith)) where_is))

-- An image after one more write is one from before it that is torn in the range.
pub image_before : (sure : List ℕ) (ps : List Patch) (p : Patch) (c : List ℕ) → p.at ≤ greatest ps (length sure) → IsImage sure (p ∷ ps) c
    → (d : List ℕ) × IsImage sure ps d × Torn p.at (length p.bytes) d c
image_before sure ps p c within image =
    let m = greatest ps (length sure) in
    let n = length p.bytes in
    let whole = mend p.at n sure c in
    let d = take m whole in
    let long : length whole ≡ length c = length-mend p.at n sure c in
    let long_d : length d ≡ min m (length c) = length-take m whole ∙ ap (λ (l : ℕ). min m l) long in
    let at_least : length sure ≤ m = greatest_from ps (length sure) in
    let d_image : IsImage sure ps d = record {
      no_shorter = omega (arith, long_d, at_least, image.no_shorter);
      no_longer = omega (arith, long_d);
      same = λ i in_s untouched. get_or-take m whole i 0 (omega (arith, at_least)) ∙ mend_same p.at n i sure c in_s (omega (arith, image.no_shorter)) (λ outside. image.same i in_s (outside, untouched));
    } in
    let after : drop (p.at + n) c ≡ drop (p.at + n) d = after_same m whole long (drop-mend p.at n (p.at + n) sure c refl) (within_or_past (length c) m image.no_longer) in (
      d,
      d_image,
      record {
        before = sym (take-mend p.at n sure c) ∙ sym (take-take p.at m whole within);
        after = after;
        no_shorter = omega (arith, long_d);
        no_longer = omega (arith, long_d, image.no_longer);
      },
    )
  where
    after_same : (m : ℕ) (whole : List ℕ) → length whole ≡ length c → drop (p.at + length p.bytes) whole ≡ drop (p.at + length p.bytes) c → (length c ≤ m) ⊎ ((m < length c) × (length c ≤ p.at + length p.bytes))
        → drop (p.at + length p.bytes) c ≡ drop (p.at + length p.bytes) (take m whole)
    after_same m whole long same (inl short) = sym same ∙ ap (λ (l : List ℕ). drop (p.at + length p.bytes) l) (sym (take_all m whole (omega (arith, long))))
    after_same m whole long same (inr past) = drop_all (p.at + length p.bytes) c past.1 ∙ sym (drop_all (p.at + length p.bytes) (take m whole) (omega (arith, length-take m whole, long, past.1)))

    within_or_past : (len m : ℕ) → len ≤ max m (p.at + length p.bytes) → (len ≤ m) ⊎ ((m < len) × (len ≤ p.at + length p.bytes))
    within_or_past len m le = ⊎_elim (λ past. inr (past, omega arith)) (λ short. inl short) (cases_lt m len)

pub torn_refl : (at n : ℕ) (d : List ℕ) → Torn at n d d
torn_refl at n d = record { before = refl; after = refl; no_shorter = omega arith; no_longer = omega arith }

length-put : (at : ℕ) (bytes d : List ℕ) → at ≤ length d → length (put at bytes d) ≡ max (length d) (at + length bytes)
length-put at bytes d within =
    omega (arith, length-append (take at d ++ bytes) (drop (at + length bytes) d), length-append (take at d) bytes, length-take-le at d within, length-drop (at + length bytes) d)

-- a write that goes through is one of the torn ones
pub put_torn : (at : ℕ) (bytes d : List ℕ) → at ≤ length d → Torn at (length bytes) d (put at bytes d)
put_torn at bytes d within =
    let front : length (take at d) ≡ at = length-take-le at d within in
    record {
      before = ap (λ (l : List ℕ). take at l) (append_assoc (take at d) bytes (drop (at + length bytes) d)) ∙ take_at (take at d) (bytes ++ drop (at + length bytes) d) at front;
      after = drop_at (take at d ++ bytes) (drop (at + length bytes) d) (at + length bytes) (omega (arith, front, length-append (take at d) bytes));
      no_shorter = omega (arith, length-put at bytes d within);
      no_longer = omega (arith, length-put at bytes d within);
    }

-- what is torn of an image is an image after that write
pub torn_image : (sure : List ℕ) (ps : List Patch) (p : Patch) (d c : List ℕ) → IsImage sure ps d → Torn p.at (length p.bytes) d c → IsImage sure (p ∷ ps) c
torn_image sure ps p d c image torn = record {
  no_shorter = omega (arith, image.no_shorter, torn.no_shorter);
  no_longer = omega (arith, image.no_longer, torn.no_longer);
  same = λ i in_s (outside, untouched). outside_same i outside (omega (arith, image.no_shorter)) ∙ image.same i in_s untouched;
}
  where
    outside_same : (i : ℕ) → (i < p.at) ⊎ (p.at + length p.bytes ≤ i) → i < length d → get_or c i 0 ≡ get_or d i 0
    outside_same i (inl low) inside = sym (get_or-take p.at c i 0 low) ∙ ap (λ (l : List ℕ). get_or l i 0) torn.before ∙ get_or-take p.at d i 0 low
    outside_same i (inr high) inside =
        let n = p.at + length p.bytes in
        let there : n + (i - n) ≡ i = omega arith in
        sym (ap (λ (k : ℕ). get_or c k 0) there) ∙ sym (get_or-drop n c (i - n) 0) ∙ ap (λ (l : List ℕ). get_or l (i - n) 0) torn.after ∙ get_or-drop n d (i - n) 0 ∙ ap (λ (k : ℕ). get_or d k 0) there

-- a part stays sound under each of its calls
pub sound-written : (k : Kept) (at : ℕ) (bytes : List ℕ) → at ≤ length k.reads → IsSound k → IsSound (written at bytes k)
sound-written k at bytes within sound = torn_image k.sure k.pending (record { at = at; bytes = bytes }) k.reads (put at bytes k.reads) sound (put_torn at bytes k.reads within)

pub sound-half_written : (k : Kept) (at : ℕ) (bytes : List ℕ) → IsSound k → IsSound (half_written at bytes k)
sound-half_written k at bytes sound = torn_image k.sure k.pending (record { at = at; bytes = bytes }) k.reads k.reads sound (torn_refl at (length bytes) k.reads)

pub sound-synced : (k : Kept) → IsSound (synced k)
sound-synced k = record { no_shorter = omega arith; no_longer = omega arith; same = λ i inside untouched. refl }

-- with nothing pending there is one image
pub sure_alone : (sure c : List ℕ) → IsImage sure [] c → c ≡ sure
sure_alone sure c image = ext_get_or 0 c sure (omega (arith, image.no_shorter, image.no_longer)) (λ i inside. image.same i (omega (arith, image.no_longer)) tt)
