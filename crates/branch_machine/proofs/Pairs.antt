-- The objects of a longer history.
use Rattle.std.proofs.Common.{◌≡◌, ℕ, ◌+◌, ◌<◌, List, [], ◌∷◌, ◌++◌, length, refl, sym, ◌∙◌, ap, arith, append_assoc, append-nil, length-append, map, drop}
use Rattle.std.specs.List.{flat_map, AllByRecursion}
use Rattle.std.specs.Option.{option_map_or}
use Rattle.std.proofs.Math.Seq.{drop-append_seam}
use Rattle.std.proofs.lemmas.List.Concat.{flat_map-append}
use Rattle.branch_wire.specs.StoredObjects.{Stored, fresh}
use Rattle.branch_history.specs.declared.moves.Move.{Move}
use Rattle.branch_history.specs.Commits.{Commit}
use Rattle.branch_history.proofs.Lists.{slice_get-append, slice_get-new}
use Rattle.branch_history.proofs.Later.{IsLonger, commits-longer}
use Rattle.branch_machine.specs.Fixed.{Form, FixedIn}
use Rattle.branch_machine.specs.Objects.{Pair, both, commit_text, value_text, store_after, address_at, pair_at, pairs_after, pairs_of, objects_of, new_objects}
use Rattle.branch_machine.proofs.Stored.{fresh-append}

pub commit_text-old : (old more : List Pair) (n : ℕ) → n < length old → commit_text (old ++ more) n ≡ commit_text old n
commit_text-old old more n lt = ap (λ o. option_map_or (λ p. p.commit) o []) (slice_get-append old more n lt)

pub commit_text-new : (old : List Pair) (p : Pair) → commit_text (old ++ p ∷ []) (length old) ≡ p.commit
commit_text-new old p = ap (λ o. option_map_or (λ q. q.commit) o []) (slice_get-new old p [])

pub value_text-old : (old more : List Pair) (n : ℕ) → n < length old → value_text (old ++ more) n ≡ value_text old n
value_text-old old more n lt = ap (λ o. option_map_or (λ p. p.value) o []) (slice_get-append old more n lt)

pub value_text-new : (old : List Pair) (p : Pair) → value_text (old ++ p ∷ []) (length old) ≡ p.value
value_text-new old p = ap (λ o. option_map_or (λ q. q.value) o []) (slice_get-new old p [])

pub addresses-old : (address : List ℕ → List ℕ) (old more : List Pair) (ns : List ℕ) → AllByRecursion (λ n. n < length old) ns → map (address_at address (old ++ more)) ns ≡ map (address_at address old) ns
addresses-old address old more [] all = refl
addresses-old address old more (n ∷ ns) all =
    ap (λ (t : List ℕ). address t ∷ map (address_at address (old ++ more)) ns) (commit_text-old old more n all.0)
    ∙ ap (λ (l : List (List ℕ)). address_at address old n ∷ l) (addresses-old address old more ns all.1)

module _ {S O R Q A : Type 0} {form : Form} (fixed : FixedIn form S O R Q A) where
  pub pairs_after-longer : (before : List (Commit O R)) (pairs : List Pair) (cs : List (Commit O R)) → IsLonger pairs (pairs_after fixed before pairs cs)
  pairs_after-longer before pairs [] = record { more = []; is = sym (append-nil pairs) }
  pairs_after-longer before pairs (c ∷ cs) =
      let p : Pair = pair_at fixed before pairs c in
      let rest = pairs_after-longer (before ++ c ∷ []) (pairs ++ p ∷ []) cs in
      record { more = p ∷ rest.more; is = rest.is ∙ append_assoc pairs (p ∷ []) rest.more }

  length-pairs_after : (before : List (Commit O R)) (pairs : List Pair) (cs : List (Commit O R)) → length (pairs_after fixed before pairs cs) ≡ length pairs + length cs
  length-pairs_after before pairs [] = omega arith
  length-pairs_after before pairs (c ∷ cs) =
      let p : Pair = pair_at fixed before pairs c in
      omega (arith, length-pairs_after (before ++ c ∷ []) (pairs ++ p ∷ []) cs, length-append pairs (p ∷ []))

  pairs_after-append : (before : List (Commit O R)) (pairs : List Pair) (cs ds : List (Commit O R)) → pairs_after fixed before pairs (cs ++ ds) ≡ pairs_after fixed (before ++ cs) (pairs_after fixed before pairs cs) ds
  pairs_after-append before pairs [] ds = ap (λ (b : List (Commit O R)). pairs_after fixed b pairs ds) (sym (append-nil before))
  pairs_after-append before pairs (c ∷ cs) ds =
      let p : Pair = pair_at fixed before pairs c in
      pairs_after-append (before ++ c ∷ []) (pairs ++ p ∷ []) cs ds
      ∙ ap (λ (b : List (Commit O R)). pairs_after fixed b (pairs_after fixed (before ++ c ∷ []) (pairs ++ p ∷ []) cs) ds) (append_assoc before (c ∷ []) cs)

  pub length-pairs_of : (commits : List (Commit O R)) → length (pairs_of fixed commits) ≡ length commits
  unfolding pairs_of
  length-pairs_of commits = omega (arith, length-pairs_after [] [] commits)

  pub pairs_of-append : (old more : List (Commit O R)) → pairs_of fixed (old ++ more) ≡ pairs_after fixed old (pairs_of fixed old) more
  unfolding pairs_of
  pairs_of-append old more = pairs_after-append [] [] old more

  pub pairs_of-one : (old : List (Commit O R)) (c : Commit O R) → pairs_of fixed (old ++ c ∷ []) ≡ pairs_of fixed old ++ pair_at fixed old (pairs_of fixed old) c ∷ []
  pairs_of-one old c = pairs_of-append old (c ∷ [])

  pub pairs_of-longer : (old more : List (Commit O R)) → IsLonger (pairs_of fixed old) (pairs_of fixed (old ++ more))
  pairs_of-longer old more =
      let rest = pairs_after-longer old (pairs_of fixed old) more in
      record { more = rest.more; is = pairs_of-append old more ∙ rest.is }

  -- the objects of the commits that a move makes stand behind those before it
  pub new-pairs : (moves : List (Move O R)) (made : Move O R) (old new : List (Commit O R)) (more : List Pair) → (store_after fixed moves).commits ≡ old → (store_after fixed (moves ++ made ∷ [])).commits ≡ new → pairs_of fixed new ≡ pairs_of fixed old ++ more → new_objects fixed moves made ≡ flat_map both more
  unfolding new_objects
  new-pairs moves made old new more is_old is_new grown =
      ap (λ (cs : List (Commit O R)). flat_map both (drop (length cs) (pairs_of fixed (store_after fixed (moves ++ made ∷ [])).commits))) is_old
      ∙ ap (λ (cs : List (Commit O R)). flat_map both (drop (length old) (pairs_of fixed cs))) is_new
      ∙ ap (λ (ps : List Pair). flat_map both (drop (length old) ps)) grown
      ∙ ap (λ (n : ℕ). flat_map both (drop n (pairs_of fixed old ++ more))) (sym (length-pairs_of old))
      ∙ ap (flat_map both) (drop-append_seam (pairs_of fixed old) more)

  -- of one commit
  pub new-pair : (moves : List (Move O R)) (made : Move O R) (old new : List (Commit O R)) (p : Pair) → (store_after fixed moves).commits ≡ old → (store_after fixed (moves ++ made ∷ [])).commits ≡ new → pairs_of fixed new ≡ pairs_of fixed old ++ p ∷ [] → new_objects fixed moves made ≡ both p
  new-pair moves made old new p is_old is_new grown = new-pairs moves made old new (p ∷ []) is_old is_new grown ∙ append-nil (both p)

  -- a move appends its region
  pub objects-more : (moves : List (Move O R)) (made : Move O R) → objects_of fixed (moves ++ made ∷ []) ≡ objects_of fixed moves ++ fresh (objects_of fixed moves) (new_objects fixed moves made)
  unfolding objects_of
  objects-more moves made =
      let old : List (Commit O R) = (store_after fixed moves).commits in
      let longer = commits-longer fixed.terms.origin moves (made ∷ []) in
      let grown = pairs_of-longer old longer.more in
      let new = new-pairs moves made old (old ++ longer.more) grown.more refl longer.is grown.is in
      ap (λ (cs : List (Commit O R)). fresh [] (flat_map both (pairs_of fixed cs))) longer.is
      ∙ ap (λ (ps : List Pair). fresh [] (flat_map both ps)) grown.is
      ∙ ap (fresh []) (flat_map-append both (pairs_of fixed old) grown.more)
      ∙ fresh-append [] (flat_map both (pairs_of fixed old)) (flat_map both grown.more)
      ∙ ap (λ (xs : Stored). fresh [] (flat_map both (pairs_of fixed old)) ++ fresh (fresh [] (flat_map both (pairs_of fixed old))) xs) (sym new)
