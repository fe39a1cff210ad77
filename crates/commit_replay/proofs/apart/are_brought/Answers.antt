-- A merge brings all where it brings each at its place.
use Rattle.std.proofs.Common.{arith, refl}
use Rattle.std.proofs.lemmas.Bool.{both_ways}
use Rattle.branch_history.specs.Commits.{graph_of}
use Rattle.branch_history.specs.History.{store_of}
use Rattle.commit_replay.proofs.Joined.{each-brought, brought-each}
use Rattle.commit_replay.proofs.apart.are_brought.Goals as goal

pub returns-then-not-branch : goal.returns-then-not-branch
returns-then-not-branch g c = (
  (λ t. absurd (cc t)),
  λ is.
      let graph = graph_of (store_of c.args.recorded.now.terms.origin c.args.recorded.now.written).commits in
      absurd (both_ways c.in_ok-is_brought.field-0 c.if-not-branch.true (c.in_ok-is_brought.ensures.1 (brought-each graph c.args.head c.args.commits.now is c.loop-place.place c.loop-place-test.true))),
)

pub returns : goal.returns
returns g c = (
  (λ t.
      let graph = graph_of (store_of c.args.recorded.now.terms.origin c.args.recorded.now.written).commits in
      each-brought graph c.args.head c.args.commits.now (λ i lt. c.loop-place.invariant i (omega (arith, lt, c.loop-place-test.false)))),
  λ is. refl,
)
