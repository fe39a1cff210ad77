-- The paints of the commits that wait in a walk from greater numbers to smaller ones.
use Rattle.std.specs.Prelude.{◌≡◌, ℕ, ◌+◌, ◌≤◌, ◌≢◌, Bool, true, false, cond, ◌&&◌, ◌||◌, ◌==◌, not, List, None, Some}
use Rattle.std.specs.declared.option.Option.{Option}
use Rattle.std.specs.Option.{option_map_or}
use Rattle.std.specs.List.{list_any}
use Rattle.std.specs.Map.{lookup}
use Rattle.std.specs.BTreeMap.{is_at}
use Rattle.std.specs.Ordering.{nat_cmp}
use Rattle.branch_graph.specs.declared.waiting.Paint.{Paint}

-- what a walk may say of a commit: it waits, it lies in the left reach, in the right reach, below a commit of both
pub data Colour : Type 0 where
  any : Colour
  from_left : Colour
  from_right : Colour
  covered : Colour

abbrev pub has : Colour → Paint → Bool
has any paint = true
has from_left paint = paint.left
has from_right paint = paint.right
has covered paint = paint.below

-- a commit that is taken with this paint is a maximal common ancestor
abbrev pub is_member : Paint → Bool
is_member paint = paint.left && paint.right && not paint.below

-- the paint of a commit's parents
abbrev pub for_parents : Paint → Paint
for_parents paint = record { left = paint.left; right = paint.right; below = paint.below || (paint.left && paint.right) }

-- how much a commit counts among those that are not below a common one
abbrev pub weight : Paint → ℕ
weight paint = cond paint.below 0 1

-- the paint of a commit that waits
abbrev pub paint_of : List (ℕ × Paint) → ℕ → Option Paint
paint_of waiting n = lookup (is_at (nat_cmp n)) waiting

-- the commit waits, with this colour
abbrev pub is_painted : List (ℕ × Paint) → Colour → ℕ → Bool
is_painted waiting colour n = option_map_or (has colour) (paint_of waiting n) false

abbrev pub is_among : List ℕ → ℕ → Bool
is_among ns m = list_any (λ n. n == m) ns

-- each commit that waits has a number below one
abbrev pub WaitsBelow : List (ℕ × Paint) → ℕ → Type 0
WaitsBelow waiting end = (n : ℕ) → end ≤ n → paint_of waiting n ≡ None

-- the commit with the greatest number goes, with its paint
pub record Takes (waiting : List (ℕ × Paint)) (n : ℕ) (paint : Paint) (rest : List (ℕ × Paint)) : Type 0 where
  pub was : paint_of waiting n ≡ Some paint
  pub greatest : WaitsBelow waiting (n + 1)
  pub gone : paint_of rest n ≡ None
  pub others : (k : ℕ) → k ≢ n → paint_of rest k ≡ paint_of waiting k
