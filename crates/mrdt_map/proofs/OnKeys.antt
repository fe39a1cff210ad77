-- The laws of a map, from those of its values at each key.
use Rattle.std.proofs.Common.{◌≡◌, ℕ, Bool, true, false, cond, None, Some, List, ◌∷◌, refl, ◌∙◌, ap, sym, subst}
use Rattle.std.specs.Ordering.{nat_cmp}
use Rattle.std.specs.Cmp.Lexicographic.{slice_cmp}
use Rattle.std.specs.Map.{keys_of}
use Rattle.std.specs.List.Sorted.{IsStrictlySortedBy}
use Rattle.mrdt_model.specs.declared.time.Time.{Time}
use Rattle.mrdt_model.specs.Laws.{Meaning, Applies, StandsAsWell}
use Rattle.mrdt_model.specs.Executions.{next_event}
use Rattle.mrdt_model.proofs.Parts.{part-after, part-next, part-other}
use Rattle.mrdt_map.specs.declared.map.OnKey.{OnKey}
use Rattle.mrdt_map.specs.Keyed.{same_key, value_at, at_key, on_key, IsOnKey, StandsAt, CopiesAt, AppliesAt, map_meaning}
use Rattle.mrdt_map.specs.Keys.{same_key-eq, same_key-refl, same_key-sym, on_key-lawful}

module _ {V O R Q A : Type 0} (t : Meaning V O R Q A) where
  pub copies : (old new : List (List ℕ × V)) → IsStrictlySortedBy (slice_cmp nat_cmp) (keys_of new) → ((k : List ℕ) → CopiesAt t (value_at old k) (value_at new k))
      → StandsAsWell (map_meaning t) old new
  copies old new sorted each x l is = record {
    ordered = sorted;
    values = λ k. each k (on_key k x) (on_key-lawful t.is_op t.is_reply t.reply_of k x l) (is.values k);
  }

  pub applies : (old new : List (List ℕ × V)) (o : OnKey O) (time : Time) (v : V) (reply : R) → IsStrictlySortedBy (slice_cmp nat_cmp) (keys_of new)
      → ((k : List ℕ) → value_at new k ≡ cond (same_key o.key k) (Some v) (value_at old k))
      → AppliesAt t (value_at old o.key) o.operation time v reply → Applies (map_meaning t) old o time new reply
  applies old new o time v reply sorted set made x l is after = (
    here.0,
    record {
      ordered = sorted;
      values = λ k. at k (same_key o.key k) refl;
    },
  )
    where
      here : (reply ≡ t.reply_of (on_key o.key x) o.operation) × t.stands v (next_event (on_key o.key x) time o.operation reply ∷ on_key o.key x)
      here = made (on_key o.key x) (on_key-lawful t.is_op t.is_reply t.reply_of o.key x l) (is.values o.key) (part-after (at_key o.key) x time after)

      new_at : Some v ≡ value_at new o.key
      new_at = sym (set o.key ∙ ap (λ p. cond p (Some v) (value_at old o.key)) (same_key-refl o.key))

      own : StandsAt t.stands (value_at new o.key) (on_key o.key (next_event x time o reply ∷ x))
      own =
          let pair : O × R = (o.operation, reply) in
          let picked : at_key o.key o reply ≡ Some pair = ap (λ p. cond p (Some pair) None) (same_key-refl o.key) in
          let next = part-next (at_key o.key) (IsOnKey t.is_op) t.is_reply x time o reply pair picked l.well_formed in
          subst (λ m. StandsAt t.stands m (on_key o.key (next_event x time o reply ∷ x))) new_at (subst (StandsAt t.stands (Some v)) (sym next) (λ h. cc, here.1))

      at : (k : List ℕ) (p : Bool) → same_key o.key k ≡ p → StandsAt t.stands (value_at new k) (on_key k (next_event x time o reply ∷ x))
      at k true e = subst (λ j. StandsAt t.stands (value_at new j) (on_key j (next_event x time o reply ∷ x))) (same_key-eq o.key k e) own
      at k false e =
          let pair : O × R = (o.operation, reply) in
          let not_picked : at_key k o reply ≡ None = ap (λ p. cond p (Some pair) None) (same_key-sym k o.key ∙ e) in
          let same = part-other (at_key k) (IsOnKey t.is_op) t.is_reply x time o reply not_picked in
          let kept : value_at new k ≡ value_at old k = set k ∙ ap (λ p. cond p (Some v) (value_at old k)) e in
          subst (λ m. StandsAt t.stands m (on_key k (next_event x time o reply ∷ x))) (sym kept) (subst (StandsAt t.stands (value_at old k)) (sym same) (is.values k))
