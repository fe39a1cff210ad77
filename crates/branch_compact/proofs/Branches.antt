-- Branches of two stores that have the same names, and whose heads have the new numbers where they are kept.
use Rattle.std.proofs.Common.{suc, ◌≡◌, ℕ, ◌+◌, ◌<◌, ◌≤◌, Bool, false, cond, ◌&&◌, List, [], ◌∷◌, length, refl, ap, sym, ◌∙◌, arith, IsTrue, Option, Some, None, ⊎_elim}
use Rattle.std.specs.Prelude.{not, bytes_eq}
use Rattle.std.specs.Option.{option_map_or}
use Rattle.std.specs.List.{position_from}
use Rattle.std.proofs.lemmas.Bool.{cases_eq, both_ways}
use Rattle.std.proofs.lemmas.Option.{slice_get_past}
use Rattle.branch_names.specs.declared.branch.Branch.{Branch}
use Rattle.branch_names.specs.Heads.{name_of, head_of, is_dropped, branch_named, with_head, with_branch, with_drop}
use Rattle.branch_names.specs.Heads.{IsKeptBranch}
use Rattle.branch_history.proofs.Lists.{place, old, new, past}
use Rattle.branch_history.proofs.Stores.{length-with_branch, name_of-old, name_of-new, head_of-old, head_of-new, is_dropped-old, is_dropped-new, length-with_head, head_of-same, head_of-other, name_of-with_head, is_dropped-with_head, length-with_drop, name_of-with_drop, head_of-with_drop, is_dropped-other, is_dropped-with_drop, branch_named-none, branch_named-kept, branch_named-is}
use Rattle.branch_compact.specs.Compact.{new_number}
use Rattle.branch_compact.specs.Laws.{HaveSameNames}

pub same-names : (branches : List Branch) → HaveSameNames branches branches
same-names branches = record { count = refl; names = λ r. refl; dropped = λ r. refl }

-- the branch of a name has the same number
named-from : (name : List ℕ) (first : ℕ) (before after : List Branch) → length after ≡ length before → ((r : ℕ) → name_of after r ≡ name_of before r) → ((r : ℕ) → is_dropped after r ≡ is_dropped before r)
    → position_from (λ b. not b.dropped && bytes_eq name b.name) first after ≡ position_from (λ b. not b.dropped && bytes_eq name b.name) first before
named-from name first [] [] count names dropped = refl
named-from name first [] (b ∷ bs) count names dropped = absurd (omega (arith, count))
named-from name first (a ∷ rest) [] count names dropped = absurd (omega (arith, count))
named-from name first (a ∷ rest) (b ∷ bs) count names dropped =
    let test : Branch → Bool = λ b. not b.dropped && bytes_eq name b.name in
    ap (λ (n : List ℕ). cond (not b.dropped && bytes_eq name n) (Some first) (position_from test (first + 1) bs)) (names 0)
    ∙ ap (λ t. cond (not t && bytes_eq name a.name) (Some first) (position_from test (first + 1) bs)) (dropped 0)
    ∙ ap (λ o. cond (test a) (Some first) o) (named-from name (first + 1) rest bs (omega (arith, count)) (λ r. names (suc r)) (λ r. dropped (suc r)))

pub named-same : (before after : List Branch) → HaveSameNames before after → (name : List ℕ) → branch_named after name ≡ branch_named before name
named-same before after same name = named-from name 0 before after same.count same.names same.dropped

pub kept-same : (before after : List Branch) → HaveSameNames before after → (r : ℕ) → IsKeptBranch before r → IsKeptBranch after r
kept-same before after same r kept = let lt = kept.0 in (omega (arith, same.count), same.dropped r ∙ kept.1)

-- the branch that a kept branch's name finds
found-own : (branches : List Branch) (n : ℕ) → ((q r : ℕ) → IsKeptBranch branches q → IsKeptBranch branches r → name_of branches q ≡ name_of branches r → q ≡ r) → IsKeptBranch branches n → (o : Option ℕ) → branch_named branches (name_of branches n) ≡ o → branch_named branches (name_of branches n) ≡ Some n
found-own branches n distinct kept None is = absurd (branch_named-none branches (name_of branches n) n is kept refl)
found-own branches n distinct kept (Some r) is =
    let same : r ≡ n = distinct r n (branch_named-kept branches (name_of branches n) r is) kept (branch_named-is branches (name_of branches n) r is) in
    is ∙ ap (λ k. Some k) same

pub named-own : (branches : List Branch) (n : ℕ) → ((q r : ℕ) → IsKeptBranch branches q → IsKeptBranch branches r → name_of branches q ≡ name_of branches r → q ≡ r) → IsKeptBranch branches n → branch_named branches (name_of branches n) ≡ Some n
named-own branches n distinct kept = found-own branches n distinct kept (branch_named branches (name_of branches n)) refl

-- no branch past the last
name_of-past : (branches : List Branch) (r : ℕ) → length branches ≤ r → name_of branches r ≡ []
name_of-past branches r le = ap (λ o. option_map_or (λ b. b.name) o []) (slice_get_past branches r le)

is_dropped-past : (branches : List Branch) (r : ℕ) → length branches ≤ r → is_dropped branches r ≡ false
is_dropped-past branches r le = ap (λ o. option_map_or (λ b. b.dropped) o false) (slice_get_past branches r le)

module _ (before after : List Branch) (same : HaveSameNames before after) where
  -- a new branch in both
  pub same-added : (name : List ℕ) (h k : ℕ) → HaveSameNames (with_branch before name h) (with_branch after name k)
  same-added name h k =
      let one = length-with_branch before name h in
      let two = length-with_branch after name k in
      let count = same.count in
      record {
        count = omega (arith, one, two, count);
        names = λ r.
            elim (place r (length before)) [
              | old lt ↦ name_of-old after name k r (omega (arith, count)) ∙ same.names r ∙ sym (name_of-old before name h r lt)
              | new e ↦ name_of-new after name k r (omega (arith, count, e)) ∙ sym (name_of-new before name h r e)
              | past gt ↦ name_of-past (with_branch after name k) r (omega (arith, two, count)) ∙ sym (name_of-past (with_branch before name h) r (omega (arith, one)))
            ];
        dropped = λ r.
            elim (place r (length before)) [
              | old lt ↦ is_dropped-old after name k r (omega (arith, count)) ∙ same.dropped r ∙ sym (is_dropped-old before name h r lt)
              | new e ↦ is_dropped-new after name k r (omega (arith, count, e)) ∙ sym (is_dropped-new before name h r e)
              | past gt ↦ is_dropped-past (with_branch after name k) r (omega (arith, two, count)) ∙ sym (is_dropped-past (with_branch before name h) r (omega (arith, one)))
            ];
      }

  -- a head that moves in both, or in the first alone
  pub same-moved : (q h k : ℕ) → HaveSameNames (with_head before q h) (with_head after q k)
  same-moved q h k = record {
    count = length-with_head after q k ∙ same.count ∙ sym (length-with_head before q h);
    names = λ r. name_of-with_head after q k r ∙ same.names r ∙ sym (name_of-with_head before q h r);
    dropped = λ r. is_dropped-with_head after q k r ∙ same.dropped r ∙ sym (is_dropped-with_head before q h r);
  }

  pub same-left : (q h : ℕ) → HaveSameNames (with_head before q h) after
  same-left q h = record {
    count = same.count ∙ sym (length-with_head before q h);
    names = λ r. same.names r ∙ sym (name_of-with_head before q h r);
    dropped = λ r. same.dropped r ∙ sym (is_dropped-with_head before q h r);
  }

  -- a branch dropped in both
  pub same-dropped : (q : ℕ) → q < length before → HaveSameNames (with_drop before q) (with_drop after q)
  same-dropped q lt = record {
    count = length-with_drop after q ∙ same.count ∙ sym (length-with_drop before q);
    names = λ r. name_of-with_drop after q r ∙ same.names r ∙ sym (name_of-with_drop before q r);
    dropped = λ r.
        ⊎_elim
        (λ e. ap (is_dropped (with_drop after q)) e ∙ is_dropped-with_drop after q (omega (arith, same.count)) ∙ sym (ap (is_dropped (with_drop before q)) e ∙ is_dropped-with_drop before q lt))
        (λ ne. is_dropped-other after q r ne ∙ same.dropped r ∙ sym (is_dropped-other before q r ne))
        (cases_eq r q);
  }

module _ (keep : ℕ → Bool) where
  -- each head that is kept has its new number
  abbrev pub HaveHeads : List Branch → List Branch → Type 0
  HaveHeads before after = (r : ℕ) → r < length before → IsTrue (keep (head_of before r)) → head_of after r ≡ new_number keep (head_of before r)

  module _ (before after : List Branch) (same : HaveSameNames before after) (heads : HaveHeads before after) where
    pub heads-added : (name : List ℕ) (h k : ℕ) → (IsTrue (keep h) → k ≡ new_number keep h) → HaveHeads (with_branch before name h) (with_branch after name k)
    heads-added name h k at r lt kept =
        let one = length-with_branch before name h in
        elim (place r (length before)) [
          | old less ↦
              let same_head = head_of-old before name h r less in
              head_of-old after name k r (omega (arith, same.count)) ∙ heads r less (ap keep (sym same_head) ∙ kept) ∙ ap (new_number keep) (sym same_head)
          | new e ↦
              let same_head = head_of-new before name h r e in
              head_of-new after name k r (omega (arith, same.count, e)) ∙ at (ap keep (sym same_head) ∙ kept) ∙ ap (new_number keep) (sym same_head)
          | past gt ↦ absurd (omega (arith, one))
        ]

    others : (q h r : ℕ) → (r ≡ q → ⊥) → r < length (with_head before q h) → IsTrue (keep (head_of (with_head before q h) r)) → head_of after r ≡ new_number keep (head_of (with_head before q h) r)
    others q h r ne lt kept =
        let same_head = head_of-other before q h r ne in
        heads r (omega (arith, length-with_head before q h)) (ap keep (sym same_head) ∙ kept) ∙ ap (new_number keep) (sym same_head)

    pub heads-moved : (q h k : ℕ) → q < length before → k ≡ new_number keep h → HaveHeads (with_head before q h) (with_head after q k)
    heads-moved q h k there at r lt kept =
        ⊎_elim
        (λ e.
        ap (head_of (with_head after q k)) e ∙ head_of-same after q k (omega (arith, same.count)) ∙ at
        ∙ ap (new_number keep) (sym (ap (head_of (with_head before q h)) e ∙ head_of-same before q h there)))
        (λ ne. head_of-other after q k r ne ∙ others q h r ne lt kept)
        (cases_eq r q)

    pub heads-left : (q h : ℕ) → q < length before → keep h ≡ false → HaveHeads (with_head before q h) after
    heads-left q h there gone r lt kept =
        ⊎_elim
        (λ e. absurd (both_ways (keep h) gone (ap keep (sym (ap (head_of (with_head before q h)) e ∙ head_of-same before q h there)) ∙ kept)))
        (λ ne. others q h r ne lt kept)
        (cases_eq r q)

    pub heads-dropped : (q : ℕ) → HaveHeads (with_drop before q) (with_drop after q)
    heads-dropped q r lt kept =
        let same_head = head_of-with_drop before q r in
        head_of-with_drop after q r ∙ heads r (omega (arith, length-with_drop before q)) (ap keep (sym same_head) ∙ kept) ∙ ap (new_number keep) (sym same_head)
