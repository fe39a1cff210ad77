use Rattle.std.proofs.Common.{rules, ◌≡◌, ◌∙◌, ◌<◌, ◌^◌, sym, subst, length, ℕ}
use Rattle.mrdt_set.proofs.Walked.{times-front, times-count}
use Rattle.mrdt_set.proofs.same.same_times.Goals as goal

pub returns-then-mine-theirs-clause-spelled : goal.returns-then-mine-theirs-clause-spelled
returns-then-mine-theirs-clause-spelled c a b is =
    let short_mine : c.len-mine.result < 2 ^ 64 = search rules in
    let short_theirs : c.len-theirs.result < 2 ^ 64 = search rules in
    let fits = λ (n m : ℕ) (is : n ≡ m) (h : n < 2 ^ 64). subst (λ (k : ℕ). k < 2 ^ 64) is h in
    let mine = c.args.times.now in
    let theirs = c.args.others.now in
    c.same.ensures.spelled (times-front mine theirs a b (fits c.len-mine.result (length mine) c.len-mine.ensures short_mine) (fits c.len-theirs.result (length theirs) c.len-theirs.ensures short_theirs) is)

pub returns-else-mine-theirs-clause-spelled : goal.returns-else-mine-theirs-clause-spelled
returns-else-mine-theirs-clause-spelled c a b is =
    let short_mine : c.len-mine.result < 2 ^ 64 = search rules in
    let short_theirs : c.len-theirs.result < 2 ^ 64 = search rules in
    let fits = λ (n m : ℕ) (is : n ≡ m) (h : n < 2 ^ 64). subst (λ (k : ℕ). k < 2 ^ 64) is h in
    let mine = c.args.times.now in
    let theirs = c.args.others.now in
    let long = times-count mine theirs a b (fits c.len-mine.result (length mine) c.len-mine.ensures short_mine) (fits c.len-theirs.result (length theirs) c.len-theirs.ensures short_theirs) is in
    absurd (c.if-mine-theirs.false (c.len-mine.ensures ∙ long ∙ sym c.len-theirs.ensures))
