-- The nodes say where the limit is held.
use Rattle.std.proofs.Common.{◌≤◌, length, sym, subst}
use Rattle.store_seen.proofs.Firsts.{full-first}
use Rattle.store_seen.proofs.shared.push_behind.Goals as goal

pub returns-in-Some-clause-full : goal.returns-in-Some-clause-full
returns-in-Some-clause-full g c = λ held is.
    let full = (c.push.ensures.full held).0 is in
    let le = subst (λ n. c.args.count ≤ length n.graph.commits) (sym c.in-Some.ensures.value) c.requires.count in
    rw (← c.in-Some.ensures.value) (full-first c.in-Some.own.now c.cut.new.nodes c.args.count held le c.cut.ensures full.0 full.1)
