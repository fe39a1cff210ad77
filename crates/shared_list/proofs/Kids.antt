-- Trees one after another.
use Rattle.std.proofs.Common.{◌≡◌, ℕ, zero, suc, ◌+◌, ◌-◌, ◌<◌, ◌≤◌, List, [], ◌∷◌, ◌++◌, length, take, drop, get_or, slice_get, None, Some, refl, sym, subst, ap, append_assoc, add-one, arith, length-append, length-drop, drop_of_length-le}
use Rattle.std.proofs.lemmas.Grind.{common_steps, flat_map-append}
use Rattle.std.proofs.lemmas.List.{get_or_append_left, get_or-append-add, take-append-le, drop-append-le, take-append-drop}
use Rattle.std.proofs.Math.Seq.{take-length, take-append-add, drop-append-add}
use Rattle.std.proofs.lemmas.Option.{slice_get_within, slice_get_read, get_or_from_slice_get}
use Rattle.std.proofs.lemmas.List.Sums.{sum_by-append}
use Rattle.std.specs.declared.option.Option.{Option}
use Rattle.shared_list.specs.Trees.{weights, lists, AreAt, Puts, edited, IsRun, IsPassed, IsLeafAt, TakesOver}

around : {T : Type 0} (kids : List (ℕ × List T)) (i : ℕ) (d : ℕ × List T) → i < length kids → lists kids ≡ lists (take i kids) ++ ((get_or kids i d).1 ++ lists (drop (suc i) kids))
around [] i d p = absurd (omega arith)
around (t ∷ kids) zero d p = refl
around (t ∷ kids) (suc i) d p = rw (append_assoc) (ap (λ xs. t.1 ++ xs) (around kids i d (omega arith)))

-- a tree stands between those before it and those behind it
pub lists_around : {T : Type 0} (kids : List (ℕ × List T)) (i : ℕ) (d : ℕ × List T) → i < length kids → lists kids ≡ lists (take i kids) ++ ((get_or kids i d).1 ++ lists (drop (i + 1) kids))
lists_around kids i d p = rw (add-one i) (around kids i d p)

-- an entry of a list that stands behind others
pub get_middle : {T : Type 0} (xs ys zs : List T) (n : ℕ) (x : T) → slice_get ys n ≡ Some x → slice_get (xs ++ (ys ++ zs)) (length xs + n) ≡ Some x
get_middle xs ys zs n x s =
    let within : n < length ys = slice_get_within ys n x s in
    let there : get_or (xs ++ (ys ++ zs)) (length xs + n) x ≡ x = rw (get_or-append-add xs (ys ++ zs) n x, get_or_append_left ys zs x n within) (get_or_from_slice_get ys n x x s) in
    slice_get_read (xs ++ (ys ++ zs)) (length (xs ++ (ys ++ zs))) (length xs + n) x refl (omega (arith, within, length-append xs (ys ++ zs), length-append ys zs)) (sym there)

-- an entry of one tree is one of all
pub get_inside : {T : Type 0} (kids : List (ℕ × List T)) (i : ℕ) (d : ℕ × List T) (rest place : ℕ) (x : T) → i < length kids → length (lists (take i kids)) + rest ≡ place → slice_get (get_or kids i d).1 rest ≡ Some x → slice_get (lists kids) place ≡ Some x
get_inside kids i d rest place x p q s = rw (lists_around kids i d p, ← q) (get_middle (lists (take i kids)) (get_or kids i d).1 (lists (drop (i + 1) kids)) rest x s)

pub are_at_append : {T : Type 0} (h : ℕ) (xs ys : List (ℕ × List T)) → AreAt h xs → AreAt h ys → AreAt h (xs ++ ys)
are_at_append h [] ys p q = q
are_at_append h (x ∷ xs) ys p q = (p.0, are_at_append h xs ys p.1 q)

pub are_at_take : {T : Type 0} (h n : ℕ) (xs : List (ℕ × List T)) → AreAt h xs → AreAt h (take n xs)
are_at_take h zero xs p = tt
are_at_take h (suc n) [] p = tt
are_at_take h (suc n) (x ∷ xs) p = (p.0, are_at_take h n xs p.1)

pub are_at_drop : {T : Type 0} (h n : ℕ) (xs : List (ℕ × List T)) → AreAt h xs → AreAt h (drop n xs)
are_at_drop h zero xs p = p
are_at_drop h (suc n) [] p = tt
are_at_drop h (suc n) (x ∷ xs) p = are_at_drop h n xs p.1

pub are_at_get : {T : Type 0} (h : ℕ) (xs : List (ℕ × List T)) (i : ℕ) (d : ℕ × List T) → AreAt h xs → i < length xs → (get_or xs i d).0 ≡ h
are_at_get h [] i d p q = absurd (omega arith)
are_at_get h (x ∷ xs) zero d p q = p.0
are_at_get h (x ∷ xs) (suc i) d p q = are_at_get h xs i d p.1 (omega arith)

pub lists_take_drop : {T : Type 0} (n : ℕ) (xs : List (ℕ × List T)) → lists (take n xs) ++ lists (drop n xs) ≡ lists xs
lists_take_drop n xs = rw (← flat_map-append (λ t. t.1) (take n xs) (drop n xs), take-append-drop n xs) refl

-- an edit between others
pub edited_middle : {T : Type 0} (xs ys zs : List T) (n cut : ℕ) (item : Option T) → n + cut ≤ length ys → edited (length xs + n) cut item (xs ++ (ys ++ zs)) ≡ xs ++ (edited n cut item ys ++ zs)
edited_middle xs ys zs n cut item p =
    let front : take (length xs + n) (xs ++ (ys ++ zs)) ≡ xs ++ take n ys = rw (take-append-add xs (ys ++ zs) n, take-append-le n ys zs (omega arith)) refl in
    let sums : length xs + n + cut ≡ length xs + (n + cut) = omega arith in
    let back : drop (length xs + n + cut) (xs ++ (ys ++ zs)) ≡ drop (n + cut) ys ++ zs = rw (sums, drop-append-add xs (ys ++ zs) (n + cut), drop-append-le (n + cut) ys zs p) refl in
    rw (front, back) (simp append_assoc refl)

pub edited_inside : {T : Type 0} (kids parts : List (ℕ × List T)) (i : ℕ) (d : ℕ × List T) (rest place cut : ℕ) (item : Option T) → i < length kids → length (lists (take i kids)) + rest ≡ place → rest + cut ≤ length (get_or kids i d).1 → lists parts ≡ edited rest cut item (get_or kids i d).1 → lists ((take i kids ++ parts) ++ drop (i + 1) kids) ≡ edited place cut item (lists kids)
edited_inside kids parts i d rest place cut item p q w e =
    let left : lists ((take i kids ++ parts) ++ drop (i + 1) kids) ≡ lists (take i kids) ++ (lists parts ++ lists (drop (i + 1) kids)) = rw (flat_map-append (λ t. t.1) (take i kids ++ parts) (drop (i + 1) kids), flat_map-append (λ t. t.1) (take i kids) parts) (append_assoc (lists (take i kids)) (lists parts) (lists (drop (i + 1) kids))) in
    rw (left, e, lists_around kids i d p, ← q) (sym (edited_middle (lists (take i kids)) (get_or kids i d).1 (lists (drop (i + 1) kids)) rest cut item w))

-- two trees are put
pub puts_two : {T : Type 0} (old mid new : List (ℕ × List T)) (h : ℕ) (xs ys zs : List T) → mid ≡ old ++ (h, xs) ∷ [] → new ≡ mid ++ (h, ys) ∷ [] → xs ++ ys ≡ zs → Puts old new h zs
puts_two old mid new h xs ys zs p q s = record { made = (h, xs) ∷ (h, ys) ∷ []; behind = rw (q, p) (append_assoc old ((h, xs) ∷ []) ((h, ys) ∷ [])); all = (refl, (refl, tt)); same = grind (arith, common_steps) }

-- what stands in a branch after an edit in one of its trees
pub record Spliced {T : Type 0} (below : ℕ) (trees : List (ℕ × List T)) (entries : List T) : Type 0 where
  pub all : AreAt below trees
  pub same : lists trees ≡ entries

pub spliced : {T : Type 0} (below : ℕ) (kids : List (ℕ × List T)) (i : ℕ) (d : ℕ × List T) (rest place cut : ℕ) (item : Option T) (m1 m2 m3 : List (ℕ × List T)) → AreAt below kids → i < length kids → length (lists (take i kids)) + rest ≡ place → rest + cut ≤ length (get_or kids i d).1 → m1 ≡ take i kids → Puts m1 m2 (get_or kids i d).0 (edited rest cut item (get_or kids i d).1) → m3 ≡ m2 ++ drop (i + 1) kids → Spliced below m3 (edited place cut item (lists kids))
spliced below kids i d rest place cut item m1 m2 m3 all p q w e puts f =
    let is : m3 ≡ (take i kids ++ puts.made) ++ drop (i + 1) kids = rw (f, puts.behind, e) refl in
    let made : AreAt below puts.made = subst (λ h. AreAt h puts.made) (are_at_get below kids i d all p) puts.all in
    record {
      all = rw is (are_at_append below (take i kids ++ puts.made) (drop (i + 1) kids) (are_at_append below (take i kids) puts.made (are_at_take below i kids all) made) (are_at_drop below (i + 1) kids all));
      same = rw is (edited_inside kids puts.made i d rest place cut item p q w puts.same);
    }

pub below_one : (h below : ℕ) → h ≡ below + 1 → below ≡ h - 1
below_one h below p = omega (arith, p)

pub rest_of : {X : Type 0} (n : ℕ) (xs : List X) → take (length xs - n) (drop n xs) ≡ drop n xs
rest_of n xs = rw (← length-drop n xs) (take-length (drop n xs))

-- a run in one list that stands among others
pub run_middle : {T : Type 0} (xs ys zs run : List T) (n : ℕ) → IsRun ys n run → IsRun (xs ++ (ys ++ zs)) (length xs + n) run
run_middle xs ys zs run n is =
    let sums : length xs + n + length run ≡ length xs + (n + length run) = omega arith in
    record {
      some = is.some;
      within = omega (arith, is.within, length-append xs (ys ++ zs), length-append ys zs);
      same = rw (sums, drop-append-add xs (ys ++ zs) (n + length run), drop-append-add xs (ys ++ zs) n, drop-append-le (n + length run) ys zs is.within, drop-append-le n ys zs (omega (arith, is.within)), ← append_assoc run (drop (n + length run) ys) zs, is.same) refl;
    }

pub run_inside : {T : Type 0} (kids : List (ℕ × List T)) (i : ℕ) (d : ℕ × List T) (rest place : ℕ) (run : List T) → i < length kids → length (lists (take i kids)) + rest ≡ place → IsRun (get_or kids i d).1 rest run → IsRun (lists kids) place run
run_inside kids i d rest place run p q s = rw (lists_around kids i d p, ← q) (run_middle (lists (take i kids)) (get_or kids i d).1 (lists (drop (i + 1) kids)) run rest s)

-- a sum that passes in one list that stands among others
pub passed_middle : {T : Type 0} (f : T → ℕ) (xs ys zs : List T) (w n : ℕ) → IsPassed f ys w n → IsPassed f (xs ++ (ys ++ zs)) (weights f xs + w) (length xs + n)
passed_middle f xs ys zs w n is =
    let sums : length xs + n + 1 ≡ length xs + (n + 1) = omega arith in
    record {
      there = omega (arith, is.there, length-append xs (ys ++ zs), length-append ys zs);
      before = rw (take-append-add xs (ys ++ zs) n, take-append-le n ys zs (omega (arith, is.there)), sum_by-append f xs (take n ys)) (omega (arith, is.before));
      passed = rw (sums, take-append-add xs (ys ++ zs) (n + 1), take-append-le (n + 1) ys zs (omega (arith, is.there)), sum_by-append f xs (take (n + 1) ys)) (omega (arith, is.passed));
    }

pub passed_inside : {T : Type 0} (f : T → ℕ) (kids : List (ℕ × List T)) (i : ℕ) (d : ℕ × List T) (rest w before n : ℕ) → i < length kids → before ≡ length (lists (take i kids)) → weights f (lists (take i kids)) + rest ≡ w → IsPassed f (get_or kids i d).1 rest n → IsPassed f (lists kids) w (before + n)
passed_inside f kids i d rest w before n p q s is = rw (lists_around kids i d p, q, ← s) (passed_middle f (lists (take i kids)) (get_or kids i d).1 (lists (drop (i + 1) kids)) rest n is)

-- no tree has more than all have
pub lists_room : {T : Type 0} (kids : List (ℕ × List T)) (i : ℕ) (d : ℕ × List T) → i < length kids → length (lists (take i kids)) + length (get_or kids i d).1 ≤ length (lists kids)
lists_room kids i d p = rw (lists_around kids i d p) (omega (arith, length-append (lists (take i kids)) ((get_or kids i d).1 ++ lists (drop (i + 1) kids)), length-append (get_or kids i d).1 (lists (drop (i + 1) kids))))

pub weights_room : {T : Type 0} (f : T → ℕ) (kids : List (ℕ × List T)) (i : ℕ) (d : ℕ × List T) → i < length kids → weights f (lists (take i kids)) + weights f (get_or kids i d).1 ≤ weights f (lists kids)
weights_room f kids i d p = rw (lists_around kids i d p) (omega (arith, sum_by-append f (lists (take i kids)) ((get_or kids i d).1 ++ lists (drop (i + 1) kids)), sum_by-append f (get_or kids i d).1 (lists (drop (i + 1) kids))))

append_nil : {X : Type 0} (xs : List X) → xs ++ [] ≡ xs
append_nil xs = grind (arith, common_steps)

-- a tree behind the last one
pub appended : {T : Type 0} (below : ℕ) (kids : List (ℕ × List T)) (i : ℕ) (d : ℕ × List T) (more : List T) (m1 m2 : List (ℕ × List T)) → AreAt below kids → i + 1 ≡ length kids → m1 ≡ take i kids → Puts m1 m2 (get_or kids i d).0 ((get_or kids i d).1 ++ more) → Spliced below m2 (lists kids ++ more)
appended below kids i d more m1 m2 all p e puts =
    let there : i < length kids = omega (arith, p) in
    let is : m2 ≡ take i kids ++ puts.made = rw (puts.behind, e) refl in
    let none : drop (i + 1) kids ≡ [] = drop_of_length-le kids (omega (arith, p)) in
    let whole : lists kids ≡ lists (take i kids) ++ (get_or kids i d).1 = rw (lists_around kids i d there, none, append_nil (get_or kids i d).1) refl in
    let made : AreAt below puts.made = subst (λ h. AreAt h puts.made) (are_at_get below kids i d all there) puts.all in
    record {
      all = rw is (are_at_append below (take i kids) puts.made (are_at_take below i kids all) made);
      same = rw (is, flat_map-append (λ t. t.1) (take i kids) puts.made, puts.same, whole) (sym (append_assoc (lists (take i kids)) (get_or kids i d).1 more));
    }

-- a leaf of one tree is one of all
pub leaf_inside : {T : Type 0} (kids : List (ℕ × List T)) (i : ℕ) (d : ℕ × List T) (rest place : ℕ) (found : Option (ℕ × List T)) → i < length kids → length (lists (take i kids)) + rest ≡ place → IsLeafAt (get_or kids i d).1 rest found → IsLeafAt (lists kids) place found
leaf_inside kids i d rest place None p q s = tt
leaf_inside kids i d rest place (Some leaf) p q s = (s.0, run_inside kids i d rest place leaf.1 p q s.1)

-- behind a run
pub takes_run : {T : Type 0} (old entries run : List T) (place : ℕ) → IsRun entries place run → TakesOver old entries place (old ++ run) (place + length run)
takes_run old entries run place is = record { some = omega (arith, is.some); within = is.within; same = rw (append_assoc old run (drop (place + length run) entries), is.same) refl }
