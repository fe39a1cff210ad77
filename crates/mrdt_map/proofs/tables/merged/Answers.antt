use Rattle.std.proofs.Common.{◌≡◌, ◌∷◌, [], drop, ◌∙◌, ap, sym, refl}
use Rattle.mrdt_map.specs.Keyed.{value_at}
use Rattle.keyed_slots.proofs.Places.{first_is, none_first, shorter, rest-next}
use Rattle.keyed_slots.proofs.Values.{rest-value}
use Rattle.mrdt_map.proofs.Changed.{merged-start, merged-next}
use Rattle.mrdt_map.proofs.tables.merged.Goals as goal

pub loop-mine-init : goal.loop-mine-init
loop-mine-init g c = record {
  along = record { place = 0; same = c.walk-olds.ensures.walk };
  ahead = record { place = 0; same = c.walk-walk.ensures.walk };
  so_far = merged-start g.T.Inner.meaning c.args.base.now c.args.left.now c.args.right.now c.walk-walk.result c.in_ok-both.both c.walk-walk.ensures.walk c.in_ok-both.ensures c.walk-walk.ensures.ordered;
}

pub loop-mine-smaller : goal.loop-mine-smaller
loop-mine-smaller g c = shorter c.loop-mine.walk c.skip.new.self c.in-Some.mine.now (sym c.in-Some.ensures) c.skip.ensures

pub loop-mine-preserved : goal.loop-mine-preserved
loop-mine-preserved g c =
    let t = g.T.Inner.meaning in
    let mine = c.in-Some.mine.now in
    let left = c.args.left.now in
    let now = c.loop-mine in
    let rest : now.walk ≡ mine ∷ c.skip.new.self = first_is now.walk mine (sym c.in-Some.ensures) ∙ ap (λ es. mine ∷ es) (sym c.skip.ensures) in
    let found = rest-value left now.walk now.invariant.ahead mine c.walk-walk.ensures.ordered (sym c.in-Some.ensures) in
    record {
      along = c.merge_key.ensures.along;
      ahead = rest-next left now.walk now.invariant.ahead c.skip.new.self c.skip.ensures;
      so_far = merged-next t c.args.base.now left c.args.right.now now.walk c.skip.new.self now.both mine.0 mine.1 rest found now.invariant.so_far c.in_ok-both-2.both c.in_ok-both-2.ensures.here c.in_ok-both-2.ensures.others;
    }

pub returns-clause-values : goal.returns-clause-values
returns-clause-values g c k =
    let none : c.loop-mine.walk ≡ [] = none_first c.loop-mine.walk (sym c.in_default.ensures) in
    c.loop-mine.invariant.so_far.values k (ap (λ es. value_at es k) none)
