use Rattle.std.proofs.Common.{◌≡◌, ◌∙◌, false, cond, ap, sym, subst, List, ℕ}
use Rattle.std.proofs.lemmas.Result.{IfOk-weaker}
use Rattle.std.specs.Option.{option_copied}
use Rattle.mrdt_model.proofs.Tables.{same_bytes-refl}
use Rattle.mrdt_set.specs.Members.{same_element, times_at, IsKept, IsMergedAt}
use Rattle.mrdt_set.proofs.Rebuilt.{right-same}
use Rattle.mrdt_set.proofs.members.merged_at.Goals as goal

pub returns-then-have_same-clause-here : goal.returns-then-have_same-clause-here
returns-then-have_same-clause-here c kept =
    let base = option_copied c.args.base in
    let left = times_at c.args.both c.args.own.now in
    let right = option_copied c.args.right in
    subst (IsMergedAt base left right) (sym kept.some) (right-same base left right kept.rising (c.have_same.ensures c.if-have_same.true))

pub returns-clause-here : goal.returns-clause-here
returns-clause-here c =
    let both = c.args.both in
    let key = c.args.own.now in
    let base = option_copied c.args.base in
    let left = times_at both key in
    let right = option_copied c.args.right in
    let set = c.in_ok-times.times in
    let found : option_copied c.times.result ≡ left = c.times.ensures ∙ ap (times_at both) (c.as_slice.ensures.bytes ∙ c.get-name.ensures) in
    let made = subst (λ o. IsMergedAt base o right set) found c.in_ok-times.ensures in
    IfOk-weaker c.with_own.result (λ table. (k : List ℕ) → times_at table k ≡ cond (same_element key k) set (times_at both k)) (λ table. IsKept left → IsMergedAt base left right (times_at table key))
    (λ table sets kept. subst (IsMergedAt base left right) (sym (sets key ∙ ap (λ b. cond b set left) (same_bytes-refl key))) made) c.with_own.ensures

pub returns-clause-others : goal.returns-clause-others
returns-clause-others c =
    let both = c.args.both in
    let key = c.args.own.now in
    let set = c.in_ok-times.times in
    IfOk-weaker c.with_own.result (λ table. (k : List ℕ) → times_at table k ≡ cond (same_element key k) set (times_at both k)) (λ table. (k : List ℕ) → same_element key k ≡ false → times_at table k ≡ times_at both k)
    (λ table sets k other. sets k ∙ ap (λ b. cond b set (times_at both k)) other) c.with_own.ensures
