use Rattle.std.proofs.Common.{rules, ◌≡◌, ◌∙◌, ◌<◌, ◌^◌, sym, subst, length, ℕ}
use Rattle.branch_wire.proofs.Numbers.{number-same}
use Rattle.live_set.specs.Spelling.{kept_spelling}
use Rattle.live_set.proofs.Alike.{counted-parts}
use Rattle.live_set.proofs.live.Live.same.Goals as goal

pub returns-then-mine-theirs-clause-spelled : goal.returns-then-mine-theirs-clause-spelled
returns-then-mine-theirs-clause-spelled g c spelled = c.are_same.ensures.spelled (counted-parts (kept_spelling g.V.Payload.spelling) c.args.self.now c.args.other.now spelled).1

pub returns-else-mine-theirs-clause-spelled : goal.returns-else-mine-theirs-clause-spelled
returns-else-mine-theirs-clause-spelled g c spelled =
    let mine : c.len-mine.result < 2 ^ 64 = search rules in
    let theirs : c.len-theirs.result < 2 ^ 64 = search rules in
    let fits = λ (n m : ℕ) (is : n ≡ m) (h : n < 2 ^ 64). subst (λ (k : ℕ). k < 2 ^ 64) is h in
    let counts : length c.args.self.now ≡ length c.args.other.now =
    number-same (length c.args.self.now) (length c.args.other.now) (fits c.len-mine.result (length c.args.self.now) c.len-mine.ensures mine) (fits c.len-theirs.result (length c.args.other.now) c.len-theirs.ensures theirs) (counted-parts (kept_spelling g.V.Payload.spelling) c.args.self.now c.args.other.now spelled).0 in
    absurd (c.if-mine-theirs.false (c.len-mine.ensures ∙ counts ∙ sym c.len-theirs.ensures))
