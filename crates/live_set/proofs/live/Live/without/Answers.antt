use Rattle.std.proofs.Common.{◌≡◌, ◌+◌, ◌++◌, take, drop, ◌∙◌, ap, sym, subst}
use Rattle.std.proofs.lemmas.Result.{IfOk-weaker}
use Rattle.live_set.specs.Entries.{kept_times, IsRising}
use Rattle.live_set.specs.Finding.{IsFound, LosesTime}
use Rattle.live_set.proofs.Finding.{none_loses, cut_rises, cut_loses}
use Rattle.live_set.proofs.live.Live.without.Goals as goal

pub returns-then-not-here : goal.returns-then-not-here
returns-then-not-here g c =
    let now = c.args.self.now in
    let place = c.find-place.result.0 in
    let found = subst (λ b. IsFound now c.args.time place b) c.if-not-here.true c.find-place.ensures in
    IfOk-weaker c.copy.result (λ live. live ≡ now) (LosesTime c.args.time now) (λ live same. subst (LosesTime c.args.time now) (sym same) (none_loses now c.args.time place found)) c.copy.ensures

pub invariant_of-result : goal.invariant_of-result
invariant_of-result g c =
    let entries = c.self.inside.entries in
    let place = c.find-place.result.0 in
    let own = subst (λ ks. IsFound ks c.args.time place c.find-place.result.1) (sym c.self.view_is) c.find-place.ensures in
    let found = subst (λ b. IsFound entries c.args.time place b) c.if-not-here.false own in
    subst (λ ks. IsRising (kept_times ks)) (sym c.in_ok-remove.ensures) (cut_rises entries c.args.time place c.self.invariant found)

pub returns : goal.returns
returns g c =
    let now = c.args.self.now in
    let place = c.find-place.result.0 in
    let found = subst (λ b. IsFound now c.args.time place b) c.if-not-here.false c.find-place.ensures in
    let is : c.in_ok-remove.field-0 ≡ take place now ++ drop (place + 1) now = c.in_ok-remove.ensures ∙ ap (λ ks. take place ks ++ drop (place + 1) ks) c.self.view_is in
    subst (LosesTime c.args.time now) (sym is) (cut_loses now c.args.time place found)
