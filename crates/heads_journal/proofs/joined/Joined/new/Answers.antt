use Rattle.std.proofs.Common.{◌≤◌, length, rules, subst, sym, ℕ, List}
use Rattle.heads_journal.specs.Numbers.{IsJoined}
use Rattle.heads_journal.proofs.Numbers.{kept_joined}
use Rattle.heads_journal.proofs.joined.Joined.new.Goals as goal

pub invariant_of-result : goal.invariant_of-result
invariant_of-result c =
    let some : 2 ≤ length c.args.numbers.now = search rules in
    let few : length c.args.numbers.now ≤ 8 = search rules in
    subst (λ (all : List ℕ). IsJoined (length c.args.numbers.now) all) (sym c.filled.ensures.filled)
    (kept_joined c.args.numbers.now (record { some = some; few = few; small = c.filled.ensures.small }))
