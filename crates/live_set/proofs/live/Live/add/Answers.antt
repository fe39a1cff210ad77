use Rattle.std.proofs.Common.{subst, sym}
use Rattle.live_set.specs.Entries.{kept_times, AllBefore, IsRising}
use Rattle.live_set.proofs.Rising.{times-append, rising-append}
use Rattle.live_set.proofs.live.Live.add.Goals as goal

pub invariant_of-self : goal.invariant_of-self
invariant_of-self g c =
    let old = c.self.inside.entries in
    let before = subst (λ ks. AllBefore (kept_times ks) c.args.time) (sym c.self.view_is) c.requires in
    subst (λ ks. IsRising (kept_times ks)) (sym c.in_ok-entries.ensures) (subst IsRising (sym (times-append old c.args.time c.args.payload)) (rising-append (kept_times old) c.args.time c.self.invariant before))
