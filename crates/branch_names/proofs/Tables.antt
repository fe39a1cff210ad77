-- Tables of branches, and what finds a branch by its name.
use Rattle.std.proofs.Common.{zero, suc, ◌≡◌, ℕ, ◌+◌, ◌<◌, ◌≤◌, true, false, Bool, cond, List, [], ◌∷◌, ◌++◌, length, refl, ap, sym, ◌∙◌, subst, arith, length-append, le_trans, ◌^◌, Option, Some, None, Ok, Err, ⊎_elim}
use Rattle.std.specs.Prelude.{slice_get, slice_set, slice_index_or, option_to_list, not, max, Result, OnOk, OnErr}
use Rattle.std.specs.Option.{option_map_or}
use Rattle.std.specs.Str.{bytes_eq}
use Rattle.std.proofs.lemmas.Bool.{cases_eq, cases_lt, both_ways, not-true}
use Rattle.std.proofs.lemmas.List.{append-nil}
use Rattle.std.proofs.lemmas.Option.{slice_get_read}
use Rattle.std.proofs.lemmas.Slice.Eq.{bytes_eq-Decides}
use Rattle.branch_names.specs.declared.branch.Branch.{Branch}
use Rattle.branch_names.specs.Heads.{name_of, head_of, is_dropped, branch_named, with_head, with_branch, with_drop, without_drop, AreDistinct, IsWithin, IsIndexed, IsTable, IsKeptBranch}
use Rattle.branch_names.proofs.Branches.{branch_named-kept, branch_named-is, branch_named-none, told-old, told-other, told-left, length-with_branch, name_of-old, name_of-new, is_dropped-old, length-with_head, name_of-with_head, is_dropped-with_head, length-with_drop, name_of-with_drop, is_dropped-other, is_dropped-with_drop}
use Rattle.branch_names.proofs.Places.{length-set}

module _ (branches : List Branch) (number_at : List ℕ → Option ℕ) (index : IsIndexed branches number_at) where
  -- no two branches that were not dropped are found by one name
  pub distinct : AreDistinct branches
  distinct q r kept_q kept_r same = let both : Some q ≡ Some r = sym (index.kept q kept_q) ∙ ap number_at same ∙ index.kept r kept_r in cc

  -- the branch that has a name is the one found by it
  pub found : (name : List ℕ) (r : ℕ) → branch_named branches name ≡ Some r → number_at name ≡ Some r
  found name r is = ap number_at (sym (branch_named-is branches name r is)) ∙ index.kept r (branch_named-kept branches name r is)

  named_none : (name : List ℕ) (o : Option ℕ) → branch_named branches name ≡ o → ((r : ℕ) → number_at name ≡ Some r → IsKeptBranch branches r → name_of branches r ≡ name → ⊥) → branch_named branches name ≡ None
  named_none name None is none = is
  named_none name (Some r) is none = absurd (none r (found name r is) (branch_named-kept branches name r is) (branch_named-is branches name r is))

  -- where what is found by a name is no branch that has it, none has
  pub absent : (name : List ℕ) → ((r : ℕ) → number_at name ≡ Some r → IsKeptBranch branches r → name_of branches r ≡ name → ⊥) → branch_named branches name ≡ None
  absent name none = named_none name (branch_named branches name) refl none

  named_some : (name : List ℕ) (o : Option ℕ) (r : ℕ) → branch_named branches name ≡ o → IsKeptBranch branches r → name_of branches r ≡ name → branch_named branches name ≡ Some r
  named_some name None r is kept named = absurd (branch_named-none branches name r is kept named)
  named_some name (Some q) r is kept named = is ∙ ap Some (distinct q r (branch_named-kept branches name q is) kept (branch_named-is branches name q is ∙ sym named))

  -- and a branch that has the name is the one
  pub present : (name : List ℕ) (r : ℕ) → IsKeptBranch branches r → name_of branches r ≡ name → branch_named branches name ≡ Some r
  present name r kept named = named_some name (branch_named branches name) r refl kept named

-- what is written over the branch of a number
module _ (branches : List Branch) (number : ℕ) (b : Branch) (there : number < length branches) (is : b ≡ slice_index_or branches number b) where
  at : slice_get branches number ≡ Some b
  at = slice_get_read branches (length branches) number b refl there is

  pub with_head-is : (head : ℕ) → slice_set branches number (record { name = b.name; head = head; dropped = b.dropped }) ≡ with_head branches number head
  with_head-is head = ap (λ o. slice_set branches number (record { name = option_map_or (λ b. b.name) o []; head = head; dropped = option_map_or (λ b. b.dropped) o false })) (sym at)

  pub with_drop-is : slice_set branches number (record { name = b.name; head = b.head; dropped = true }) ≡ with_drop branches number
  with_drop-is = ap (λ o. slice_set branches number (record { name = option_map_or (λ b. b.name) o []; head = option_map_or (λ b. b.head) o 0; dropped = true })) (sym at)

  pub without_drop-is : slice_set branches number (record { name = b.name; head = b.head; dropped = false }) ≡ without_drop branches number
  without_drop-is = ap (λ o. slice_set branches number (record { name = option_map_or (λ b. b.name) o []; head = option_map_or (λ b. b.head) o 0; dropped = false })) (sym at)

-- where branches have the same names, and those that were not dropped are among those of before, they are found as before
module _ (old new : List Branch) (number_at : List ℕ → Option ℕ) where
  pub fewer : length new ≤ length old → ((r : ℕ) → r < length new → name_of new r ≡ name_of old r) → ((r : ℕ) → IsKeptBranch new r → IsKeptBranch old r) → IsIndexed old number_at → IsIndexed new number_at
  fewer few names kept index = record {
    kept = λ r here. ap number_at (names r here.0) ∙ index.kept r (kept r here);
    known = λ r there none. index.known r (omega (arith, there, few)) (sym (ap number_at (names r there)) ∙ none);
  }

pub moved : (branches : List Branch) (number head : ℕ) (number_at : List ℕ → Option ℕ) → IsIndexed branches number_at → IsIndexed (with_head branches number head) number_at
moved branches number head number_at index =
    fewer branches (with_head branches number head) number_at (omega (arith, length-with_head branches number head)) (λ r there. name_of-with_head branches number head r)
    (λ r here. let there = here.0 in (omega (arith, there, length-with_head branches number head), sym (is_dropped-with_head branches number head r) ∙ here.1)) index

pub gone : (branches : List Branch) (number : ℕ) (number_at : List ℕ → Option ℕ) → number < length branches → IsIndexed branches number_at → IsIndexed (with_drop branches number) number_at
gone branches number number_at lt index =
    fewer branches (with_drop branches number) number_at (omega (arith, length-with_drop branches number)) (λ r there. name_of-with_drop branches number r)
    (λ r here.
    let there = here.0 in
    let other : r ≡ number → ⊥ = λ e. both_ways (is_dropped (with_drop branches number) r) here.1 (ap (is_dropped (with_drop branches number)) e ∙ is_dropped-with_drop branches number lt) in
    (omega (arith, there, length-with_drop branches number), sym (is_dropped-other branches number r other) ∙ here.1)) index

pub first_ones : (new : List Branch) (b : Branch) (number_at : List ℕ → Option ℕ) → IsIndexed (new ++ b ∷ []) number_at → IsIndexed new number_at
first_ones new b number_at index =
    let longer : length new ≤ length (new ++ b ∷ []) = omega (arith, length-append new (b ∷ [])) in
    fewer (new ++ b ∷ []) new number_at longer (λ r there. sym (told-old (λ b. b.name) [] new b r there))
    (λ r here. let there = here.0 in (omega (arith, there, longer), told-old (λ b. b.dropped) false new b r here.0 ∙ here.1)) index

pub popped : (old new : List Branch) (o : Option Branch) (number_at : List ℕ → Option ℕ) → old ≡ new ++ option_to_list o → IsIndexed old number_at → IsIndexed new number_at
popped old new None number_at is index = subst (λ (bs : List Branch). IsIndexed bs number_at) (is ∙ append-nil new) index
popped old new (Some b) number_at is index = first_ones new b number_at (subst (λ (bs : List Branch). IsIndexed bs number_at) is index)

-- a name that no branch has is known with a number
module _ (branches : List Branch) (name : List ℕ) (number : ℕ) (before after : List ℕ → Option ℕ) (update : (q : List ℕ) → after q ≡ cond (bytes_eq name q) (Some number) (before q))
    (free : branch_named branches name ≡ None) (index : IsIndexed branches before) where
  pub updated-same : after name ≡ Some number
  updated-same = update name ∙ ap (λ t. cond t (Some number) (before name)) ((bytes_eq-Decides name name).1 refl)

  updated-other : (q : List ℕ) (t : Bool) → bytes_eq name q ≡ t → (name ≡ q → ⊥) → after q ≡ before q
  updated-other q true is ne = absurd (ne ((bytes_eq-Decides name q).0 is))
  updated-other q false is ne = update q ∙ ap (λ t. cond t (Some number) (before q)) is

  updated-kept : (r : ℕ) → IsKeptBranch branches r → after (name_of branches r) ≡ Some r
  updated-kept r here =
      updated-other (name_of branches r) (bytes_eq name (name_of branches r)) refl (λ e. branch_named-none branches name r free here (sym e)) ∙ index.kept r here

  cond-known : (t : Bool) (o : Option ℕ) → (o ≡ None → ⊥) → cond t (Some number) o ≡ None → ⊥
  cond-known true o some none = cc
  cond-known false o some none = some none

  updated-known : (r : ℕ) → r < length branches → after (name_of branches r) ≡ None → ⊥
  updated-known r there none = cond-known (bytes_eq name (name_of branches r)) (before (name_of branches r)) (index.known r there) (sym (update (name_of branches r)) ∙ none)

  pub updated : IsIndexed branches after
  updated = record { kept = updated-kept; known = updated-known }

-- a new branch behind the others, known by its name
pub forked : (branches : List Branch) (name : List ℕ) (head : ℕ) (number_at : List ℕ → Option ℕ) → number_at name ≡ Some (length branches) → IsIndexed branches number_at → IsIndexed (with_branch branches name head) number_at
forked branches name head number_at at_name index = record {
  kept = λ r here.
      let there = here.0 in
      ⊎_elim
      (λ lt. ap number_at (name_of-old branches name head r lt) ∙ index.kept r (lt, sym (is_dropped-old branches name head r lt) ∙ here.1))
      (λ le. let last : r ≡ length branches = omega (arith, le, there, length-with_branch branches name head) in ap number_at (name_of-new branches name head r last) ∙ at_name ∙ ap Some (sym last))
      (cases_lt r (length branches));
  known = λ r there none.
      ⊎_elim
      (λ lt. index.known r lt (sym (ap number_at (name_of-old branches name head r lt)) ∙ none))
      (λ le. let last : r ≡ length branches = omega (arith, le, there, length-with_branch branches name head) in let both : Some (length branches) ≡ None = sym at_name ∙ sym (ap number_at (name_of-new branches name head r last)) ∙ none in cc)
      (cases_lt r (length branches));
}

-- a branch that is one again, and is known by its name
module _ (branches : List Branch) (number : ℕ) where
  abbrev again : Branch
  again = record { name = name_of branches number; head = head_of branches number; dropped = false }

  pub length-without_drop : length (without_drop branches number) ≡ length branches
  length-without_drop = length-set branches number again

  pub name_of-without_drop : (r : ℕ) → name_of (without_drop branches number) r ≡ name_of branches r
  name_of-without_drop r = told-left (λ b. b.name) [] branches number r again refl

pub back : (branches : List Branch) (number : ℕ) (number_at : List ℕ → Option ℕ) → number_at (name_of branches number) ≡ Some number → IsIndexed branches number_at → IsIndexed (without_drop branches number) number_at
back branches number number_at at_name index = record {
  kept = λ r here.
      let there = here.0 in
      ⊎_elim
      (λ e. ap number_at (name_of-without_drop branches number r) ∙ ap (λ k. number_at (name_of branches k)) e ∙ at_name ∙ ap Some (sym e))
      (λ ne. ap number_at (name_of-without_drop branches number r) ∙ index.kept r (omega (arith, there, length-without_drop branches number), sym (told-other (λ b. b.dropped) false branches number r (again branches number) ne) ∙ here.1))
      (cases_eq r number);
  known = λ r there none. index.known r (omega (arith, there, length-without_drop branches number)) (sym (ap number_at (name_of-without_drop branches number r)) ∙ none);
}

-- tables

pub name_at : (branches : List Branch) (number : ℕ) (b : Branch) → number < length branches → b ≡ slice_index_or branches number b → name_of branches number ≡ b.name
name_at branches number b there is = ap (λ o. option_map_or (λ b. b.name) o []) (at branches number b there is)

pub kept_at : (branches : List Branch) (number : ℕ) (b : Branch) → number < length branches → b ≡ slice_index_or branches number b → is_dropped branches number ≡ b.dropped
kept_at branches number b there is = ap (λ o. option_map_or (λ b. b.dropped) o false) (at branches number b there is)

within_of : (limit : ℕ) (old new : List Branch) → length new ≤ length old → IsWithin limit (length old) → IsWithin limit (length new)
within_of limit old new few within = let most = within.at_most in let fits = within.fits in record { at_most = le_trans few most; fits = omega (arith, few, fits) }

module _ {limit : ℕ} (branches : List Branch) (number : ℕ) (b : Branch) (there : number < length branches) (is : b ≡ slice_index_or branches number b) where
  pub with_head-table : (head : ℕ) {number_at : List ℕ → Option ℕ} → IsTable limit branches number_at → IsTable limit (slice_set branches number (record { name = b.name; head = head; dropped = b.dropped })) number_at
  with_head-table head {number_at} table =
      subst (λ (bs : List Branch). IsTable limit bs number_at) (sym (with_head-is branches number b there is head))
      (record { within = subst (IsWithin limit) (sym (length-with_head branches number head)) table.within; index = moved branches number head number_at table.index })

  pub with_drop-table : {number_at : List ℕ → Option ℕ} → IsTable limit branches number_at → IsTable limit (slice_set branches number (record { name = b.name; head = b.head; dropped = true })) number_at
  with_drop-table {number_at} table =
      subst (λ (bs : List Branch). IsTable limit bs number_at) (sym (with_drop-is branches number b there is))
      (record { within = subst (IsWithin limit) (sym (length-with_drop branches number)) table.within; index = gone branches number number_at there table.index })

  pub without_drop-table : (name : List ℕ) → b.name ≡ name → branch_named branches name ≡ None → (before after : List ℕ → Option ℕ) → ((q : List ℕ) → after q ≡ cond (bytes_eq name q) (Some number) (before q))
      → IsTable limit branches before → IsTable limit (slice_set branches number (record { name = b.name; head = b.head; dropped = false })) after
  without_drop-table name named free before after update table =
      subst (λ (bs : List Branch). IsTable limit bs after) (sym (without_drop-is branches number b there is))
      (record {
        within = subst (IsWithin limit) (sym (length-without_drop branches number)) table.within;
        index = back branches number after (ap after (name_at branches number b there is ∙ named) ∙ updated-same branches name number before after update free table.index) (updated branches name number before after update free table.index);
      })

-- what is not refused is done
pub never : {T E : Type 0} (r : Result T E) (P Q : Type 0) → (Q → ⊥) → OnOk r P → OnErr r Q → P
never (Ok v) P Q known ok err = ok
never (Err e) P Q known ok err = absurd (known err)

pub popped-table : {limit : ℕ} (old new : List Branch) (o : Option Branch) → old ≡ new ++ option_to_list o → {number_at : List ℕ → Option ℕ} → IsTable limit old number_at → IsTable limit new number_at
popped-table {limit} old new o is {number_at} table =
    let few : length new ≤ length old = omega (arith, ap length is, length-append new (option_to_list o)) in
    record { within = within_of limit old new few table.within; index = popped old new o number_at is table.index }

pub updated-table : {limit : ℕ} (branches : List Branch) (name : List ℕ) (number : ℕ) (before after : List ℕ → Option ℕ) → ((q : List ℕ) → after q ≡ cond (bytes_eq name q) (Some number) (before q)) → branch_named branches name ≡ None
    → IsTable limit branches before → IsTable limit branches after
updated-table branches name number before after update free table = record { within = table.within; index = updated branches name number before after update free table.index }

pub forked-table : {limit : ℕ} (branches : List Branch) (name : List ℕ) (head : ℕ) (before after : List ℕ → Option ℕ) → ((q : List ℕ) → after q ≡ cond (bytes_eq name q) (Some (length branches)) (before q)) → branch_named branches name ≡ None
    → length branches < limit → limit < 2 ^ 32 → IsTable limit branches before → IsTable limit (with_branch branches name head) after
forked-table {limit} branches name head before after update free room small table = record {
  within = record { at_most = most limit (length branches) (length (with_branch branches name head)) room (length-with_branch branches name head); fits = omega (arith, room, small, length-with_branch branches name head) };
  index = forked branches name head after (updated-same branches name (length branches) before after update free table.index) (updated branches name (length branches) before after update free table.index);
}
  where
    most : (limit count next : ℕ) → count < limit → next ≡ count + 1 → next ≤ max 1 limit
    most limit count next room is = omega (arith, room, is)

-- what is read twice is the same
pub same_at : (branches : List Branch) (number : ℕ) (a b : Branch) → number < length branches → a ≡ slice_index_or branches number a → b ≡ slice_index_or branches number b → a ≡ b
same_at branches number a b there is other = let both : Some a ≡ Some b = sym (at branches number a there is) ∙ at branches number b there other in cc

-- what is found by a name is no branch that has it
module _ (branches : List Branch) (number_at : List ℕ → Option ℕ) (name : List ℕ) (index : IsIndexed branches number_at) where
  pub unknown : number_at name ≡ None → branch_named branches name ≡ None
  unknown none = absent branches number_at index name (λ r is kept named. let both : Some r ≡ None = sym is ∙ none in cc)

  module _ (number : ℕ) (found_it : number_at name ≡ Some number) where
    only : (r : ℕ) → number_at name ≡ Some r → r ≡ number
    only r is = let both : Some r ≡ Some number = sym is ∙ found_it in cc

    pub outside : length branches ≤ number → branch_named branches name ≡ None
    outside past = absent branches number_at index name (λ r is kept named. let e = only r is in let there = kept.0 in omega (arith, there, e, past))

    pub was_dropped : is_dropped branches number ≡ true → branch_named branches name ≡ None
    was_dropped gone = absent branches number_at index name (λ r is kept named. both_ways (is_dropped branches r) kept.1 (ap (is_dropped branches) (only r is) ∙ gone))

    pub other_name : (name_of branches number ≡ name → ⊥) → branch_named branches name ≡ None
    other_name other = absent branches number_at index name (λ r is kept named. other (ap (name_of branches) (sym (only r is)) ∙ named))

-- names that are not unequal
not-false : (t : Bool) → not t ≡ false → t ≡ true
not-false true is = refl
not-false false is = cc

pub equal : (x y : List ℕ) (t : Bool) → t ≡ not (bytes_eq x y) → t ≡ false → x ≡ y
equal x y t is wrong = (bytes_eq-Decides x y).0 (not-false (bytes_eq x y) (sym is ∙ wrong))

pub not_equal : (x y : List ℕ) (t : Bool) → t ≡ not (bytes_eq x y) → t ≡ true → x ≡ y → ⊥
not_equal x y t is right same = both_ways (bytes_eq x y) (not-true (bytes_eq x y) (sym is ∙ right)) ((bytes_eq-Decides x y).1 same)

-- a drop that is undone
pub drop_undone : (branches : List Branch) (number : ℕ) → IsKeptBranch branches number → without_drop (with_drop branches number) number ≡ branches
drop_undone [] number kept = let there = kept.0 in absurd (omega (arith, there))
drop_undone (b ∷ bs) zero kept = ap (λ d. (record { name = b.name; head = b.head; dropped = d }) ∷ bs) (sym kept.1)
drop_undone (b ∷ bs) (suc number) kept = let there = kept.0 in ap (λ (rest : List Branch). b ∷ rest) (drop_undone bs number (omega (arith, there), kept.1))
