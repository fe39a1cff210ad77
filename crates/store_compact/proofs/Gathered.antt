-- The copies of the live commits are the objects of the compact history.
use Rattle.std.proofs.Common.{◌≡◌, ℕ, Bool, List, [], ◌++◌, ap, sym, ◌∙◌, subst, append-nil}
use Rattle.std.proofs.Math.Path.{fun_ext}
use Rattle.branch_history.specs.declared.moves.Move.{Move}
use Rattle.branch_names.specs.declared.terms.Terms.{Terms}
use Rattle.branch_history.specs.History.{store_of}
use Rattle.branch_machine.specs.Fixed.{Fixed}
use Rattle.branch_machine.specs.Objects.{Pair, pairs_of, store_after, objects_of, objects_text}
use Rattle.branch_machine.specs.Validity.{IsFullyValid}
use Rattle.branch_wire.specs.StoredObjects.{file_of}
use Rattle.branch_compact.specs.Compact.{at_places, is_live}
use Rattle.branch_compact.specs.Marks.{is_marked}
use Rattle.store_compact.specs.Copied.{objects_in, placed_of}

-- where no move is pending, the written ones are all
pub settled-valid : {S O R Q A : Type 0} (fixed : Fixed S O R Q A) (written pending : List (Move O R)) → pending ≡ [] → IsFullyValid fixed (written ++ pending) → IsFullyValid fixed written
settled-valid {O = O} {R = R} fixed written pending none valid =
    subst (IsFullyValid fixed) (ap (λ (p : List (Move O R)). written ++ p) none ∙ append-nil written) valid

module _ {O R : Type 0} (terms given : Terms) (same : given ≡ terms) (moves lent : List (Move O R)) (lent_are : lent ≡ moves) (marks slice : List Bool) (slice_is : slice ≡ marks)
    (live : (n : ℕ) → is_marked marks n ≡ is_live (store_of given.origin lent) n) where
  -- the marks are on the live commits
  pub marked-live : is_marked slice ≡ is_live (store_of terms.origin moves)
  marked-live =
      ap is_marked slice_is ∙ fun_ext live ∙ ap (λ (t : Terms). is_live (store_of t.origin lent)) same ∙ ap (λ (ms : List (Move O R)). is_live (store_of terms.origin ms)) lent_are

module _ {S O R Q A : Type 0} (fixed : Fixed S O R Q A) (moves fewer : List (Move O R)) (keep : ℕ → Bool) (keep_is : keep ≡ is_live (store_after fixed moves))
    (pairs : pairs_of fixed (store_after fixed fewer).commits ≡ at_places (is_live (store_after fixed moves)) 0 (pairs_of fixed (store_after fixed moves).commits)) where
  abbrev pub kept : List Pair
  kept = at_places keep 0 (pairs_of fixed (store_after fixed moves).commits)

  kept-are : kept ≡ pairs_of fixed (store_after fixed fewer).commits
  kept-are = ap (λ (k : ℕ → Bool). at_places k 0 (pairs_of fixed (store_after fixed moves).commits)) keep_is ∙ sym pairs

  pub gathered-objects : file_of (objects_in kept) ≡ objects_text fixed fewer
  unfolding objects_of
  gathered-objects = ap (λ (ps : List Pair). file_of (objects_in ps)) kept-are

  pub gathered-placed : placed_of fixed.address kept ≡ placed_of fixed.address (pairs_of fixed (store_after fixed fewer).commits)
  gathered-placed = ap (placed_of fixed.address) kept-are
