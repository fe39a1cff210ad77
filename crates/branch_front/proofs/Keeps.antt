-- Each view still fits after a change of one.
use Rattle.std.proofs.Common.{◌≡◌, ◌≢◌, ℕ, zero, suc, ◌+◌, ◌≤◌, List, [], ◌∷◌, ◌++◌, set, length, true, false, true≢false, refl, sym, ap, ◌∙◌, subst, ⊎_elim, arith}
use mathlib.Core.Option.{some, some-ne-none, some-injective}
use mathlib.Core.List.{IsPrefix}
use lib.ListN.{get_elem?}
use Rattle.atomic_table.proofs.Lists.{at_set, at_snoc, at_longer, set_else}
use Rattle.branch_front.specs.declared.seat_view.SeatView.{SeatView}
use Rattle.branch_front.specs.declared.rule.Counts.{Counts}
use Rattle.branch_front.specs.Lists.{total, times, once_within}
use Rattle.branch_front.specs.SeatViews.{spent, opening_view}
use Rattle.branch_front.specs.Rules.{Fits, Seated, CountsOneHistory}
use Rattle.branch_front.proofs.Prefixes.{prefix_none, prefix_trans}
use Rattle.branch_front.proofs.Claims.{once-none}

off : false ≡ true → ⊥
off e = true≢false (sym e)

pub there : {V : Type 0} (views : List V) (i : ℕ) (v w : V) → get_elem? views i ≡ some v → get_elem? (set views i w) i ≡ some w
there [] i v w e = absurd (some-ne-none v (sym e))
there (x ∷ xs) zero v w e = refl
there (x ∷ xs) (suc i) v w e = there xs i v w e

-- one view has seen no more than another
pub record Precedes {M : Type 0} (v w : SeatView M) : Type 0 where
  pub moves : IsPrefix v.moves w.moves
  pub faults : v.faults ≤ w.faults

module _ {M : Type 0} (begun : ℕ) where
  pub fits_more : (writer later v : SeatView M) → Precedes writer later → Fits begun writer v → Fits begun later v
  fits_more writer later v grows fits = record {
    moves = prefix_trans v.moves writer.moves later.moves fits.moves grows.moves;
    faults = omega (arith, fits.faults, grows.faults);
    mine = fits.mine;
    counted = fits.counted;
    idle = fits.idle;
    heard = prefix_trans v.heard writer.moves later.moves fits.heard grows.moves;
    heard_faults = omega (arith, fits.heard_faults, grows.faults);
  }

  pub fits_spent : (writer : SeatView M) → Fits begun writer spent
  fits_spent writer = record {
    moves = prefix_none writer.moves;
    faults = omega arith;
    mine = omega arith;
    counted = refl;
    idle = λ _. refl;
    heard = prefix_none writer.moves;
    heard_faults = omega arith;
  }

  -- the writer's view changes
  pub writer_changes : (id : ℕ) (v w : SeatView M) (views : List (SeatView M)) → Seated begun id v views → w.writes ≡ true → Precedes v w → Fits begun w w → Seated begun id w (set views id w)
  writer_changes id v w views seated writes grows fits = record {
    here = there views id v w seated.here;
    writes = writes;
    alone = λ by u e is_writer. ⊎_elim
        (λ (t : (by ≡ id) × (w ≡ u)). t.0)
        (λ (t : (by ≢ id) × (get_elem? views by ≡ some u)). seated.alone by u t.1 is_writer)
        (at_set views id by w u e);
    each = λ by u e. ⊎_elim
        (λ (t : (by ≡ id) × (w ≡ u)). subst (Fits begun w) t.1 fits)
        (λ (t : (by ≢ id) × (get_elem? views by ≡ some u)). fits_more v w u grows (seated.each by u t.1))
        (at_set views id by w u e);
  }

  -- a caller's view changes
  pub caller_changes : (seat id : ℕ) (writer v w : SeatView M) (views : List (SeatView M))
      → Seated begun seat writer views → get_elem? views id ≡ some v → v.writes ≡ false → w.writes ≡ false → Fits begun writer w
      → Seated begun seat writer (set views id w)
  caller_changes seat id writer v w views seated at calls calls' fits =
      let apart : seat ≢ id = λ e. off (sym calls ∙ (ap (λ u. u.writes) (some-injective v writer (sym at ∙ (ap (get_elem? views) (sym e) ∙ seated.here))) ∙ seated.writes)) in record {
        here = set_else views id seat w apart ∙ seated.here;
        writes = seated.writes;
        alone = λ by u e is_writer. ⊎_elim
            (λ (t : (by ≡ id) × (w ≡ u)). absurd (off (sym calls' ∙ (ap (λ x. x.writes) t.1 ∙ is_writer))))
            (λ (t : (by ≢ id) × (get_elem? views by ≡ some u)). seated.alone by u t.1 is_writer)
            (at_set views id by w u e);
        each = λ by u e. ⊎_elim
            (λ (t : (by ≡ id) × (w ≡ u)). subst (Fits begun writer) t.1 fits)
            (λ (t : (by ≢ id) × (get_elem? views by ≡ some u)). seated.each by u t.1)
            (at_set views id by w u e);
      }

  -- a new caller's view
  pub caller_comes : (seat : ℕ) (writer w : SeatView M) (views : List (SeatView M))
      → Seated begun seat writer views → w.writes ≡ false → Fits begun writer w
      → Seated begun seat writer (views ++ w ∷ [])
  caller_comes seat writer w views seated calls fits = record {
    here = at_longer views (w ∷ []) seat writer seated.here;
    writes = seated.writes;
    alone = λ by u e is_writer. ⊎_elim
        (λ (t : get_elem? views by ≡ some u). seated.alone by u t is_writer)
        (λ (t : w ≡ u). absurd (off (sym calls ∙ (ap (λ x. x.writes) t ∙ is_writer))))
        (at_snoc views w u by e);
    each = λ by u e. ⊎_elim
        (λ (t : get_elem? views by ≡ some u). seated.each by u t)
        (λ (t : w ≡ u). subst (Fits begun writer) t fits)
        (at_snoc views w u by e);
  }

-- the rule, with the writer's view at this seat
pub record AsWriter {M : Type 0} (counts : Counts) (words : List ℕ) (views : List (SeatView M)) (seat : ℕ) (writer : SeatView M) : Type 0 where
  pub seated : Seated counts.begun seat writer views
  pub word : words ≡ (counts.begun + length writer.moves) ∷ []
  pub parts : total (λ v. v.parts) views ≡ counts.parts
  pub receipts : total (λ v. v.receipts) views ≡ length writer.moves
  pub claims : (n : ℕ) → total (λ v. times n (v.mine ++ v.others)) views ≡ once_within counts.begun (counts.begun + length writer.moves) n

-- a view that writes is the writer's
pub as_writer : {M : Type 0} (counts : Counts) (words : List ℕ) (views : List (SeatView M)) (id : ℕ) (v : SeatView M)
    → CountsOneHistory counts words views → get_elem? views id ≡ some v → v.writes ≡ true → AsWriter counts words views id v
as_writer {M} counts words views id v rule at writes =
    let here : id ≡ rule.seat = rule.seated.alone id v at writes in
    let same : rule.writer ≡ v = some-injective rule.writer v (sym rule.seated.here ∙ (ap (get_elem? views) (sym here) ∙ at)) in
    subst (λ (u : SeatView M). AsWriter counts words views id u) same
    (subst (λ (seat : ℕ). AsWriter counts words views seat rule.writer) (sym here)
    record { seated = rule.seated; word = rule.word; parts = rule.parts; receipts = rule.receipts; claims = rule.claims })

pub begins : {M : Type 0} (counts : Counts) → CountsOneHistory {M = M} counts (counts.begun ∷ []) (opening_view counts.parts ∷ [])
begins {M} counts = record {
  seat = 0;
  writer = writer;
  seated = record { here = refl; writes = refl; alone = only; each = one };
  word = ap (λ (n : ℕ). n ∷ []) (omega arith);
  parts = omega arith;
  receipts = refl;
  claims = λ n. sym (once-none counts.begun (counts.begun + length (opening_view {M = M} counts.parts).moves) n (omega arith));
}
  where
    writer : SeatView M
    writer = opening_view counts.parts

    only : (by : ℕ) (v : SeatView M) → get_elem? (opening_view counts.parts ∷ []) by ≡ some v → v.writes ≡ true → by ≡ 0
    only zero v e is_writer = refl
    only (suc by) v e is_writer = absurd (some-ne-none v (sym e))

    one : (by : ℕ) (v : SeatView M) → get_elem? (opening_view counts.parts ∷ []) by ≡ some v → Fits counts.begun (opening_view counts.parts) v
    one zero v e = subst (Fits counts.begun (opening_view counts.parts)) (some-injective (opening_view counts.parts) v e)
        record { moves = prefix_none []; faults = omega arith; mine = omega arith; counted = refl; idle = λ _. refl; heard = prefix_none []; heard_faults = omega arith }
    one (suc by) v e = absurd (some-ne-none v (sym e))
