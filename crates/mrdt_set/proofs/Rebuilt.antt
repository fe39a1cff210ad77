-- The merged times of an element.
use Rattle.std.proofs.Common.{◌≡◌, Option, None, Some, [], ◌∷◌, refl, subst}
use Rattle.live_set.specs.Entries.{kept_times, IsRising, payload_at, staying, MergesEntries}
use Rattle.mrdt_set.specs.Members.{Times, some_times, all_times, IsMergedAt}

pub some-all : (times : Times) → some_times times ≡ some_times (all_times (some_times times))
some-all [] = refl
some-all (k ∷ times) = refl

pub all-some : (times : Times) → times ≡ all_times (some_times times)
all-some [] = refl
all-some (k ∷ times) = refl

-- merged times, where there are some
pub merged-some : (base left right : Option Times) (times : Times) → IsRising (kept_times times) → MergesEntries (all_times base) (all_times left) (all_times right) times → IsMergedAt base left right (some_times times)
merged-some base left right times rising merges = record {
  some = some-all times;
  rising = subst (λ ts. IsRising (kept_times ts)) (all-some times) rising;
  merges = subst (MergesEntries (all_times base) (all_times left) (all_times right)) (all-some times) merges;
}

-- where a side has what the base has, the merge is what the other side has
merged-left : (base right : Option Times) → IsRising (kept_times (all_times right)) → IsMergedAt base base right (some_times (all_times right))
merged-left base right rising = merged-some base base right (all_times right) rising (λ t. keep (payload_at (all_times base) t) (payload_at (all_times right) t))
  where
    keep : (o r : Option (Unit {0})) → r ≡ staying o o r
    keep None r = refl
    keep (Some u) None = refl
    keep (Some u) (Some v) = refl

pub left-same : (base left right : Option Times) → IsRising (kept_times (all_times right)) → base ≡ left → IsMergedAt base left right (some_times (all_times right))
left-same base left right rising same = subst (λ o. IsMergedAt base o right (some_times (all_times right))) same (merged-left base right rising)

merged-right : (base left : Option Times) → IsRising (kept_times (all_times left)) → IsMergedAt base left base (some_times (all_times left))
merged-right base left rising = merged-some base left base (all_times left) rising (λ t. keep (payload_at (all_times base) t) (payload_at (all_times left) t))
  where
    keep : (o l : Option (Unit {0})) → l ≡ staying o l o
    keep None None = refl
    keep None (Some v) = refl
    keep (Some u) None = refl
    keep (Some u) (Some v) = refl

pub right-same : (base left right : Option Times) → IsRising (kept_times (all_times left)) → base ≡ right → IsMergedAt base left right (some_times (all_times left))
right-same base left right rising same = subst (λ o. IsMergedAt base left o (some_times (all_times left))) same (merged-right base left rising)
