-- Each move is put behind those before it, or goes.
use Rattle.std.proofs.Common.{◌≡◌, ◌+◌, ◌∷◌, ◌++◌, ◌∙◌, length, ap, sym, arith}
use Rattle.std.specs.Vec.Iter.{into_iter_items, into_iter_len}
use Rattle.branch_compact.specs.Marks.{is_marked, all_made}
use Rattle.branch_compact.proofs.Counted.{kept_from, kept_from-all, kept-next}
use Rattle.branch_compact.proofs.kept.keep_moves.Goals as goal

pub loop-made-init : goal.loop-made-init
loop-made-init g c =
    let keep = is_marked c.args.kept.now in
    let gives = c.into_iter-made-iterator.ensures.into_iter_gives in
    let whole : into_iter_items c.into_iter-made-iterator.result ≡ c.args.moves = gives.0 ∙ c.into_vec-made-items.ensures in (
      tt,
      tt,
      kept_from-all keep c.args.moves ∙ ap (kept_from keep 1) (sym whole) ∙ ap (λ l. l ++ kept_from keep 1 (into_iter_items c.into_iter-made-iterator.result)) (sym c.new-fewer.ensures.items),
      gives.1 ∙ c.into_vec-made-items.result.ok.0 ∙ ap length (sym gives.0),
      ap (λ l. 1 + all_made l) whole,
    )

pub loop-made-preserved : goal.loop-made-preserved
loop-made-preserved g c =
    let rest = into_iter_items c.next.new.self in
    let split = c.in-Some.ensures.steps.0 in
    let count : into_iter_len c.next.new.self + 1 ≡ into_iter_len c.loop-made.made-iterator = c.in-Some.ensures.steps.1 in
    let long : into_iter_len c.loop-made.made-iterator ≡ length (c.in-Some.made ∷ rest) = c.loop-made.invariant.3 ∙ ap length split in
    let all : all_made (into_iter_items c.loop-made.made-iterator) ≡ all_made (c.in-Some.made ∷ rest) = ap all_made split in
    let made = c.commits_made-more.ensures in
    let total = c.loop-made.invariant.4 in (
      tt,
      tt,
      kept-next (is_marked c.args.kept.now) _ c.loop-made.fewer.items c.keep_move.new.fewer.items (into_iter_items c.loop-made.made-iterator) c.loop-made.before c.commits_made-more.result c.in-Some.made rest c.loop-made.invariant.2 split made c.in_ok-keep_move.ensures.stays c.in_ok-keep_move.ensures.goes,
      omega (arith, count, long),
      omega (arith, all, made, total),
    )
