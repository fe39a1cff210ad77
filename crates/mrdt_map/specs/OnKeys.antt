-- A map is merged at each key.
use Rattle.std.proofs.Common.{ℕ, Bool, List, sym, subst}
use Rattle.std.specs.Ordering.{nat_cmp}
use Rattle.std.specs.Cmp.Lexicographic.{slice_cmp}
use Rattle.std.specs.Map.{keys_of}
use Rattle.std.specs.List.Sorted.{IsStrictlySortedBy}
use Rattle.mrdt_model.specs.declared.time.Time.{Time}
use Rattle.mrdt_model.specs.Times.{both, either}
use Rattle.mrdt_model.specs.Laws.{Meaning, Merges}
use Rattle.mrdt_model.specs.Executions.{IsClosed}
use Rattle.mrdt_model.proofs.Parts.{part-restrict, part-closed}
use Rattle.mrdt_model.proofs.Executions.{closed_both, closed_either}
use Rattle.mrdt_map.specs.Keyed.{value_at, at_key, on_key, StandsAt, MergesAt, map_meaning}
use Rattle.mrdt_map.specs.Keys.{on_key-lawful}

module _ {V O R Q A : Type 0} (t : Meaning V O R Q A) where
  pub merges : (base left right new : List (List ℕ × V)) → IsStrictlySortedBy (slice_cmp nat_cmp) (keys_of new) → ((k : List ℕ) → MergesAt t (value_at base k) (value_at left k) (value_at right k) (value_at new k))
      → Merges (map_meaning t) base left right new
  merges base left right new sorted each x a b l in_a in_b is_base is_left is_right = record {
    ordered = sorted;
    values = λ k.
        let y = on_key k x in
        let cut = λ (c : Time → Bool) (closed : IsClosed c x). part-restrict (at_key k) c x closed in
        subst (StandsAt t.stands (value_at new k)) (sym (cut (either a b) (closed_either a b x in_a in_b)))
        (each k y a b (on_key-lawful t.is_op t.is_reply t.reply_of k x l) (part-closed (at_key k) a x in_a) (part-closed (at_key k) b x in_b)
        (subst (StandsAt t.stands (value_at base k)) (cut (both a b) (closed_both a b x in_a in_b)) (is_base.values k))
        (subst (StandsAt t.stands (value_at left k)) (cut a in_a) (is_left.values k))
        (subst (StandsAt t.stands (value_at right k)) (cut b in_b) (is_right.values k)));
  }
