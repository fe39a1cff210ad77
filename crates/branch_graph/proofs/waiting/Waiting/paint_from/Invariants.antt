use Rattle.std.proofs.Common.{◌≡◌, ℕ, ◌<◌, ◌||◌, ◌&&◌, not, nat_lt, All, take}
use Rattle.branch_graph.specs.Paints.{Colour, has, is_painted, is_among, WaitsBelow}
use Rattle.branch_graph.proofs.waiting.Waiting.paint_from.Given as goal

abbrev pub invariant-loop-number : goal.invariant-loop-number
invariant-loop-number l = record {
  painted : (colour : Colour) (n : ℕ) → is_painted l.self colour n ≡ (is_painted l.fn.self colour n || (has colour l.paint && (is_among (take l.number-index l.numbers) n && not (nat_lt n l.least))));
  below : (end : ℕ) → All (λ n. n < end) l.numbers → WaitsBelow l.fn.self end → WaitsBelow l.self end;
}
