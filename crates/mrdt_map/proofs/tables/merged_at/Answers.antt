use Rattle.std.proofs.Common.{◌≡◌, ◌∙◌, ap, sym, subst, refl, false, cond, Some, None, List, ℕ}
use Rattle.std.proofs.lemmas.Result.{IfOk-weaker}
use Rattle.std.specs.Option.{option_copied, option_or}
use Rattle.mrdt_map.specs.Keyed.{same_key, value_at, MergesAt}
use Rattle.mrdt_map.specs.MapLaws.{AreSameAt, left_unchanged-at}
use Rattle.keyed_slots.specs.Slots.{slot_key, IsPlaceOf}
use Rattle.mrdt_map.proofs.Changed.{set-here, set-others}
use Rattle.mrdt_map.proofs.tables.merged_at.Goals as goal

pub returns-then-is_unchanged-clause-here : goal.returns-then-is_unchanged-clause-here
returns-then-is_unchanged-clause-here g c =
    let t = g.T.Inner.meaning in
    let base = option_copied c.args.base in
    let same = subst (λ v. AreSameAt t.is_same base (Some v)) c.value-own.ensures (c.is_unchanged.ensures c.if-is_unchanged.true) in
    left_unchanged-at t g.met.T.Inner.laws base (Some c.args.mine.now.1) (value_at c.args.both c.args.mine.now.0) same

pub returns-in-None-clause-here : goal.returns-in-None-clause-here
returns-in-None-clause-here g c =
    let t = g.T.Inner.meaning in
    let base = option_copied c.args.base in
    let both = c.args.both in
    let key = c.args.mine.now.0 in
    let right : option_copied c.get-right.result ≡ value_at both key = c.get-right.ensures ∙ ap (value_at both) (c.get-2.ensures ∙ c.key-key.ensures) in
    let made = subst (λ m. MergesAt t base (Some c.value-own.result.now) (option_copied c.get-right.result) (option_or m (option_copied c.get-right.result))) c.in-None.is c.in_ok-made.ensures in
    subst (λ v. MergesAt t base (Some v) (value_at both key) (value_at both key)) c.value-own.ensures (subst (λ o. MergesAt t base (Some c.value-own.result.now) o o) right made)

pub with-requires : goal.with-requires
with-requires g c = subst (λ k. IsPlaceOf slot_key k c.args.both c.place_of-place.result) (c.get.ensures ∙ sym c.in_ok-copy-in-Some.ensures ∙ sym (ap (λ (e : List ℕ × g.row.T.Denot). e.0) c.new-slot.ensures)) c.place_of-place.ensures

pub returns-in_ok-copy-in-Some-clause-here : goal.returns-in_ok-copy-in-Some-clause-here
returns-in_ok-copy-in-Some-clause-here g c =
    let t = g.T.Inner.meaning in
    let base = option_copied c.args.base in
    let both = c.args.both in
    let key = c.args.mine.now.0 in
    let slot = c.new-slot.result in
    let right : option_copied c.get-right.result ≡ value_at both key = c.get-right.ensures ∙ ap (value_at both) (c.get-2.ensures ∙ c.key-key.ensures) in
    let one = subst (λ m. MergesAt t base (Some c.value-own.result.now) (option_copied c.get-right.result) (option_or m (option_copied c.get-right.result))) c.in-Some.is c.in_ok-made.ensures in
    let two = subst (λ o. MergesAt t base (Some c.value-own.result.now) o (Some c.in-Some.value)) right one in
    let three = subst (λ v. MergesAt t base (Some v) (value_at both key) (Some c.in-Some.value)) c.value-own.ensures two in
    let four = subst (λ v. MergesAt t base (Some c.args.mine.now.1) (value_at both key) (Some v)) (sym (ap (λ (e : List ℕ × g.row.T.Denot). e.1) c.new-slot.ensures)) three in
    let same : slot.0 ≡ key = ap (λ (e : List ℕ × g.row.T.Denot). e.0) c.new-slot.ensures ∙ c.in_ok-copy-in-Some.ensures ∙ c.key-key.ensures in
    IfOk-weaker c.with.result (λ table. (k : List ℕ) → value_at {V = g.row.T.Denot} table k ≡ cond (same_key slot.0 k) (Some slot.1) (value_at both k)) (λ table. MergesAt t base (Some c.args.mine.now.1) (value_at both key) (value_at table key))
    (λ table set. set-here t key slot.0 slot.1 both table set same base (value_at both key) c.args.mine.now.1 four) c.with.ensures

pub returns-in_ok-copy-in-Some-clause-others : goal.returns-in_ok-copy-in-Some-clause-others
returns-in_ok-copy-in-Some-clause-others g c =
    let t = g.T.Inner.meaning in
    let both = c.args.both in
    let key = c.args.mine.now.0 in
    let slot = c.new-slot.result in
    let same : slot.0 ≡ key = ap (λ (e : List ℕ × g.row.T.Denot). e.0) c.new-slot.ensures ∙ c.in_ok-copy-in-Some.ensures ∙ c.key-key.ensures in
    IfOk-weaker c.with.result (λ table. (k : List ℕ) → value_at {V = g.row.T.Denot} table k ≡ cond (same_key slot.0 k) (Some slot.1) (value_at both k)) (λ table. (k : List ℕ) → same_key key k ≡ false → value_at {V = g.row.T.Denot} table k ≡ value_at both k)
    (λ table set. set-others t key slot.0 slot.1 both table set same) c.with.ensures
