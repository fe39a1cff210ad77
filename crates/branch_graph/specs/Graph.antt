-- Graphs of commits. A graph is the list of the parents of each commit, by its number.
use Rattle.std.specs.Prelude.{◌≡◌, ◌⊎◌, ℕ, zero, suc, ◌^◌, ◌<◌, ◌≤◌, Bool, ◌&&◌, ◌||◌, ◌==◌, not, List, [], ◌∷◌, length, filter, reverse, slice_get}
use Rattle.std.specs.Option.{option_map_or}
use Rattle.std.specs.List.{list_any, AllByRecursion}

-- the parents of each commit by number, and how many commits there may be
pub record Ancestry : Type 0 where
  pub limit : ℕ
  pub commits : List (List ℕ)

abbrev pub parents_of : List (List ℕ) → ℕ → List ℕ
parents_of graph n = option_map_or (λ parents. parents) (slice_get graph n) []

-- the commit has these two parents, in one order or the other
abbrev pub HasParents : List (List ℕ) → ℕ → ℕ → ℕ → Type 0
HasParents graph n p q = (parents_of graph n ≡ p ∷ q ∷ []) ⊎ (parents_of graph n ≡ q ∷ p ∷ [])

-- parents have smaller numbers
abbrev pub IsRanked : List (List ℕ) → Type 0
IsRanked graph = (n : ℕ) → AllByRecursion (λ p. p < n) (parents_of graph n)

-- parents have smaller numbers, and there are at most so many commits
pub record IsWithin (limit : ℕ) (commits : List (List ℕ)) : Type 0 where
  pub ranked : IsRanked commits
  pub at_most : length commits ≤ limit
  pub fits : limit < 2 ^ 32

-- at most so many steps from a commit to a parent lead from n to m
abbrev pub leads : ℕ → List (List ℕ) → ℕ → ℕ → Bool
leads zero graph n m = n == m
leads (suc steps) graph n m = (n == m) || list_any (λ parent. leads steps graph parent m) (parents_of graph n)

-- m is n or lies below it: since parents have smaller numbers, n steps are as good as any number of them
unfoldable pub reaches : List (List ℕ) → ℕ → ℕ → Bool
reaches graph n m = leads n graph n m

-- some commit of the list reaches m
abbrev pub any_reaches : List (List ℕ) → List ℕ → ℕ → Bool
any_reaches graph ns m = list_any (λ n. reaches graph n m) ns

abbrev pub both_reach : List (List ℕ) → List ℕ → List ℕ → ℕ → Bool
both_reach graph ls rs m = any_reaches graph ls m && any_reaches graph rs m

-- the numbers below n, from the greatest down
abbrev pub falling : ℕ → List ℕ
falling zero = []
falling (suc n) = n ∷ falling n

-- both lists reach m, and it lies below no other commit that both reach
abbrev pub is_maximal_common : List (List ℕ) → List ℕ → List ℕ → ℕ → Bool
is_maximal_common graph ls rs m =
    both_reach graph ls rs m && not (list_any (λ n. both_reach graph ls rs n && not (n == m) && reaches graph n m) (falling (length graph)))

-- the maximal common ancestors of two lists of commits, by rising number
unfoldable pub maximal_common : List (List ℕ) → List ℕ → List ℕ → List ℕ
maximal_common graph ls rs = reverse (filter (is_maximal_common graph ls rs) (falling (length graph)))
