use Rattle.std.proofs.Common.{◌≤◌, ◌∙◌, length, ap, refl, sym, subst, arith}
use Rattle.live_set.specs.Finding.{IsFound}
use Rattle.live_set.proofs.Finding.{found_end, found_at}
use Rattle.live_set.proofs.live.Live.find.Goals as goal

pub returns-then-ends_before : goal.returns-then-ends_before
returns-then-ends_before g c = found_end c.args.self.now c.args.time c.len.result (c.len.ensures ∙ ap length c.self.view_is) (c.if-ends_before.ensures.0 refl)

pub returns : goal.returns
returns g c =
    let place = c.partition_point-place.result in
    let k = c.get.result.now in
    let from : place ≤ place = omega arith in
    let later = c.partition_point-place.ensures.behind place k from c.get.ensures in
    let made = found_at c.self.inside.entries c.args.time place k c.is_at.result c.self.invariant c.partition_point-place.ensures.before later c.get.ensures (sym c.is_at.ensures) in
    subst (λ ks. IsFound ks c.args.time place c.is_at.result) c.self.view_is made
