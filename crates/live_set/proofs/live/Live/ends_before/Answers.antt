use Rattle.std.proofs.Common.{◌≡◌, ◌-◌, ◌+◌, ◌++◌, ◌∷◌, [], length, take, ◌∙◌, sym, subst, arith}
use Rattle.live_set.specs.Entries.{kept_times, IsRising, AllBefore}
use Rattle.live_set.proofs.Reading.{before-last, last-before}
use Rattle.live_set.proofs.Finding.{last_split}
use Rattle.live_set.proofs.live.Live.ends_before.Goals as goal

pub returns-else-count-eq0 : goal.returns-else-count-eq0
returns-else-count-eq0 g c =
    let time = c.args.time in
    let entries = c.self.inside.entries in
    let place = c.len-count.result - 1 in
    let k = c.get.result.now in
    let some = c.if-count-eq0.false in
    let long : place + 1 ≡ length entries = omega (arith, c.len-count.ensures, some) in
    let front = take place entries in
    let cut : entries ≡ front ++ k ∷ [] = last_split entries place k long c.get.ensures in
    let whole : c.args.self.now ≡ front ++ k ∷ [] = sym c.self.view_is ∙ cut in (
      λ yes. subst (λ ks. AllBefore (kept_times ks) time) (sym whole) (before-last front k time (subst (λ ks. IsRising (kept_times ks)) cut c.self.invariant) (sym c.is_before.ensures ∙ yes)),
      λ before. c.is_before.ensures ∙ last-before front k time (subst (λ ks. AllBefore (kept_times ks) time) whole before),
    )
