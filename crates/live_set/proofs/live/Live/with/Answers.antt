use Rattle.std.proofs.Common.{◌≡◌, ◌++◌, ◌∷◌, [], take, drop, ◌∙◌, ap, sym, subst}
use Rattle.std.proofs.lemmas.Result.{IfOk-weaker}
use Rattle.live_set.specs.Entries.{kept_times, IsRising, MergesEntries}
use Rattle.live_set.specs.Finding.{IsFound}
use Rattle.live_set.proofs.Rising.{entry_of}
use Rattle.live_set.proofs.Finding.{there_merges, put_rises, put_merges}
use Rattle.live_set.proofs.live.Live.with.Goals as goal

pub returns-then-here-clause-merges : goal.returns-then-here-clause-merges
returns-then-here-clause-merges g c =
    let now = c.args.self.now in
    let place = c.find-place.result.0 in
    let one = entry_of c.args.time c.args.payload ∷ [] in
    let found = subst (λ b. IsFound now c.args.time place b) c.if-here.true c.find-place.ensures in
    IfOk-weaker c.copy.result (λ live. live ≡ now) (MergesEntries [] now one) (λ live same. subst (MergesEntries [] now one) (sym same) (there_merges now c.args.time place c.args.payload found)) c.copy.ensures

pub invariant_of-result : goal.invariant_of-result
invariant_of-result g c =
    let entries = c.self.inside.entries in
    let place = c.find-place.result.0 in
    let own = subst (λ ks. IsFound ks c.args.time place c.find-place.result.1) (sym c.self.view_is) c.find-place.ensures in
    let found = subst (λ b. IsFound entries c.args.time place b) c.if-here.false own in
    subst (λ ks. IsRising (kept_times ks)) (sym c.in_ok-insert.ensures) (put_rises entries c.args.time place c.args.payload c.self.invariant found)

pub returns-clause-merges : goal.returns-clause-merges
returns-clause-merges g c =
    let now = c.args.self.now in
    let place = c.find-place.result.0 in
    let kept = entry_of c.args.time c.args.payload in
    let found = subst (λ b. IsFound now c.args.time place b) c.if-here.false c.find-place.ensures in
    let is : c.in_ok-insert.field-0 ≡ take place now ++ kept ∷ drop place now = c.in_ok-insert.ensures ∙ ap (λ ks. take place ks ++ kept ∷ drop place ks) c.self.view_is in
    subst (MergesEntries [] now (kept ∷ [])) (sym is) (put_merges now c.args.time place c.args.payload found)

pub returns-clause-rising : goal.returns-clause-rising
returns-clause-rising g c =
    let entries = c.self.inside.entries in
    let place = c.find-place.result.0 in
    let own = subst (λ ks. IsFound ks c.args.time place c.find-place.result.1) (sym c.self.view_is) c.find-place.ensures in
    let found = subst (λ b. IsFound entries c.args.time place b) c.if-here.false own in
    subst (λ ks. IsRising (kept_times ks)) (sym c.in_ok-insert.ensures) (put_rises entries c.args.time place c.args.payload c.self.invariant found)
