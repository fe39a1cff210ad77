-- The Adds with one more that comes next.
use Rattle.std.proofs.Common.{◌≡◌, ℤ, ◌+ℤ◌, cond, Option, None, Some, List, [], ◌∷◌, ◌++◌, refl, ◌∙◌, ap, sym}
use Rattle.mrdt_model.specs.declared.time.Time.{Time}
use Rattle.mrdt_model.specs.Times.{same_time}
use Rattle.live_set.specs.declared.kept.Kept.{Kept}
use Rattle.live_set.specs.Entries.{kept_times, payload_at, staying, IsRising, MergesEntries}
use Rattle.live_set.proofs.Rising.{or_else, entry_of, same_entries, payload-append}
use Rattle.shared_list.specs.Trees.{amounts}
use Rattle.mrdt_counter.specs.Counter.{sum_of}

-- where the base has nothing, the left's comes first
stays-first : (o p : Option ℤ) → staying None o p ≡ or_else o p
stays-first None p = refl
stays-first (Some n) p = refl

-- a merge of entries and of one more is the entries with that one behind them
pub merged-last : (ks merged next : List (Kept ℤ)) (u : Time) (n : ℤ) → IsRising (kept_times merged) → IsRising (kept_times next) → next ≡ ks ++ entry_of u n ∷ [] → MergesEntries [] ks (entry_of u n ∷ []) merged → merged ≡ next
merged-last ks merged next u n rising last is merges =
    same_entries merged next rising last (λ t.
    merges t ∙ stays-first (payload_at ks t) (cond (same_time t u) (Some n) None) ∙ sym (payload-append ks t u n) ∙ ap (λ js. payload_at js t) (sym is))

-- what the entries count in all is their sum
pub amounts_sum : (ks : List (Kept ℤ)) → amounts (λ (k : Kept ℤ). k.payload) ks ≡ sum_of ks
amounts_sum [] = refl
amounts_sum (k ∷ ks) = ap (λ s. k.payload +ℤ s) (amounts_sum ks)
