-- Turns of items, one after the other.
use Rattle.std.proofs.Common.{◌≡◌, ◌⊎◌, inl, inr, ℕ, ◌+◌, ◌≤◌, suc, arith, zero, List, [], ◌∷◌, ◌++◌, length, map, refl, ap, sym, ◌∙◌, subst, append_assoc, append-nil, length-append, Some}
use Rattle.std.specs.Prelude.{slice_get}
use Rattle.std.specs.List.{AllByRecursion}
use Rattle.std.proofs.lemmas.Grind.{flat_map-append}
use Rattle.branch_history.specs.declared.moves.Move.{Move}
use Rattle.branch_history.specs.Steps.{Refusal, Outcome, Sees, Forked, Landed, Merged, Joined, Forwarded, Same, New, Here, DroppedAt, Answered, Refused, Turn}
use Rattle.branch_machine.specs.Fixed.{Fixed}
use Rattle.branch_machine.specs.Objects.{Pair}
use Rattle.branch_machine.specs.Validity.{Receives}
use Rattle.branch_bundle_laws.specs.Receiving.{IsTaken, made_by, ReceivesAll}
use Rattle.branch_bundle_laws.proofs.Turns.{IsReceivedAs, WasHere, WasNew, WasRefused, WasBad, received-as}
use Rattle.branch_bundle_laws.proofs.Folds.{turn-old}
use Rattle.branch_bundle.specs.declared.bundle.Item.{Item}
use Rattle.branch_bundle.specs.Held.{pair_of, numbered}

module _ {S O R Q A : Type 0} (fixed : Fixed S O R Q A) where
  -- one item more: it is taken and the last, or it is not taken
  pub received-more : (moves : List (Move O R)) (items : List Pair) (turns : List (Turn O R A)) → ReceivesAll fixed moves items turns → AllByRecursion IsTaken turns
      → (item : Pair) (rest : List Pair) (t : Turn O R A) → Receives fixed (moves ++ made_by turns) item t → (IsTaken t × (rest ≡ [])) ⊎ (¬ IsTaken t)
      → ReceivesAll fixed moves (items ++ item ∷ rest) (turns ++ t ∷ [])
  received-more moves [] turns none taken item rest t first how =
      let at : moves ++ made_by turns ≡ moves = ap (λ (l : List (Turn O R A)). moves ++ made_by l) none ∙ append-nil moves in
      let here : Receives fixed moves item t = subst (λ (h : List (Move O R)). Receives fixed h item t) at first in
      subst (λ (l : List (Turn O R A)). ReceivesAll fixed moves (item ∷ rest) (l ++ t ∷ [])) (sym none) (here, last [] refl how)
    where
      last : (ts : List (Turn O R A)) → ts ≡ [] → (IsTaken t × (rest ≡ [])) ⊎ (¬ IsTaken t) → (IsTaken t × ReceivesAll fixed (moves ++ t.made) rest ts) ⊎ (¬ IsTaken t × (ts ≡ []))
      last ts none (inl (is, end)) = inl (is, subst (λ (l : List Pair). ReceivesAll fixed (moves ++ t.made) l ts) (sym end) none)
      last ts none (inr not) = inr (not, none)
  received-more moves (i ∷ items) [] none taken item rest t first how = absurd none
  received-more moves (i ∷ items) (u ∷ us) (one, inl (is, more)) taken item rest t first how = (
    one,
    inl (
      is,
      received-more (moves ++ u.made) items us more taken.1 item rest t
          (subst (λ (h : List (Move O R)). Receives fixed h item t) (sym (append_assoc moves u.made (made_by us))) first) how,
    ),
  )
  received-more moves (i ∷ items) (u ∷ us) (one, inr (not, none)) taken item rest t first how = absurd (not taken.0)

  -- there is a turn of each item
  pub received-length : (moves : List (Move O R)) (items : List Pair) (turns : List (Turn O R A)) → ReceivesAll fixed moves items turns → AllByRecursion IsTaken turns → length turns ≡ length items
  received-length moves [] turns none taken = ap length none
  received-length moves (i ∷ items) [] none taken = absurd none
  received-length moves (i ∷ items) (u ∷ us) (one, inl (is, more)) taken = ap suc (received-length (moves ++ u.made) items us more taken.1)
  received-length moves (i ∷ items) (u ∷ us) (one, inr (not, none)) taken = absurd (not taken.0)

  -- a turn that makes a move takes its item
  pub makes-taken : (moves : List (Move O R)) (item : Pair) (t : Turn O R A) (m : Move O R) → Receives fixed moves item t → t.made ≡ m ∷ [] → IsTaken t
  makes-taken moves item t m receives made = by-outcome t.outcome refl
    where
      unmade : ((n : ℕ) → ¬ (t.outcome ≡ New n)) → IsTaken t
      unmade none =
          let no_move : t.made ≡ [] = turn-old fixed moves item t none (received-as fixed moves item t receives) in
          let clash : m ∷ [] ≡ [] = sym made ∙ no_move in
          absurd (cc clash)

      other : (o : Outcome A R) → t.outcome ≡ o → ((n : ℕ) → ¬ (o ≡ New n)) → IsTaken t
      other o is never = unmade (λ n new. never n (sym is ∙ new))

      by-outcome : (o : Outcome A R) → t.outcome ≡ o → IsTaken t
      by-outcome (New n) is = (n, inr is)
      by-outcome (Here n) is = (n, inl is)
      by-outcome (Sees a b) is = other (Sees a b) is (λ n e. cc e)
      by-outcome (Forked a b) is = other (Forked a b) is (λ n e. cc e)
      by-outcome (Landed a b c) is = other (Landed a b c) is (λ n e. cc e)
      by-outcome (Merged a) is = other (Merged a) is (λ n e. cc e)
      by-outcome (Joined a) is = other (Joined a) is (λ n e. cc e)
      by-outcome (Forwarded a) is = other (Forwarded a) is (λ n e. cc e)
      by-outcome Same is = other Same is (λ n e. cc e)
      by-outcome (DroppedAt a b) is = other (DroppedAt a b) is (λ n e. cc e)
      by-outcome (Answered a) is = other (Answered a) is (λ n e. cc e)
      by-outcome (Refused r) is = other (Refused r) is (λ n e. cc e)

  -- an item makes one move at most
  one-most : (moves : List (Move O R)) (item : Pair) (t : Turn O R A) → IsReceivedAs fixed moves item t → length t.made ≤ 1
  one-most moves item t (WasHere n there is) = omega (arith, ap (λ (u : Turn O R A). length u.made) is)
  one-most moves item t (WasNew m is full pairs branches how) = omega (arith, ap (λ (u : Turn O R A). length u.made) is)
  one-most moves item t (WasRefused r may is) = omega (arith, ap (λ (u : Turn O R A). length u.made) is)
  one-most moves item t (WasBad nowhere is) = omega (arith, ap (λ (u : Turn O R A). length u.made) is)

  -- so there are not more moves than items
  pub made-few : (moves : List (Move O R)) (items : List Pair) (turns : List (Turn O R A)) → ReceivesAll fixed moves items turns → length (made_by turns) ≤ length items
  made-few moves [] turns none = omega (arith, ap (λ (l : List (Turn O R A)). length (made_by l)) none)
  made-few moves (i ∷ items) [] none = absurd none
  made-few moves (i ∷ items) (t ∷ ts) (one, inl (is, more)) =
      omega (arith, one-most moves i t (received-as fixed moves i t one), made-few (moves ++ t.made) items ts more, length-append t.made (made_by ts))
  made-few moves (i ∷ items) (t ∷ ts) (one, inr (not, none)) =
      omega (arith, one-most moves i t (received-as fixed moves i t one), ap (λ (l : List (Turn O R A)). length (made_by l)) none, length-append t.made (made_by ts))

module _ {O R A : Type 0} where
  pub made-more : (turns : List (Turn O R A)) (t : Turn O R A) → made_by (turns ++ t ∷ []) ≡ made_by turns ++ t.made
  made-more turns t = flat_map-append (λ (u : Turn O R A). u.made) turns (t ∷ []) ∙ ap (λ (l : List (Move O R)). made_by turns ++ l) (append-nil t.made)

  -- what is refused is not taken
  pub refused-not-taken : (t : Turn O R A) (r : Refusal) → t.outcome ≡ Refused r → ¬ IsTaken t
  refused-not-taken t r is (n, inl here) = let clash : Refused r ≡ Here n = sym is ∙ here in cc clash
  refused-not-taken t r is (n, inr new) = let clash : Refused r ≡ New n = sym is ∙ new in cc clash

-- the number of an item of a list that is numbered
pub numbered-at : (items : List Item) (n k : ℕ) (item : Item) → items ≡ numbered n (map pair_of items) → slice_get items k ≡ Some item → item.number ≡ n + k
numbered-at [] n k item is found = absurd (cc found)
numbered-at (x ∷ xs) n zero item is found =
    let first : x ≡ record { number = n; value = x.value; commit = x.commit } = cc is in
    let same : item ≡ x = cc found in
    ap (λ (i : Item). i.number) (same ∙ first) ∙ omega arith
numbered-at (x ∷ xs) n (suc k) item is found =
    let rest : xs ≡ numbered (n + 1) (map pair_of xs) = cc is in
    numbered-at xs (n + 1) k item rest found ∙ omega arith
