use Rattle.std.proofs.Common.{◌∙◌, sym}
use Rattle.mrdt_sequence.proofs.Weaving.{stands_there, weaves_joined, weaves_kept}
use Rattle.mrdt_sequence.proofs.nodes.Nodes.weave_next.Goals as goal

pub join_at-requires : goal.join_at-requires
join_at-requires c = stands_there c.args.place c.args.self.now c.args.mine.now c.in-Some-Some.node.now c.in-Some-Some.ensures.0 c.requires.here c.in-Some-Some.ensures.1

pub returns-in_ok-join_at-in-Some-Some : goal.returns-in_ok-join_at-in-Some-Some
returns-in_ok-join_at-in-Some-Some c =
    let first = c.in-Some-Some.ensures in
    let second = c.in-Some-Some.ensures' in
    weaves_joined c.args.place c.args.self.now c.args.mine.now c.args.others.now c.in-Some-Some.other.now second.0 c.requires.here second.1 c.in-Some-Some.node.now first.0 first.1 c.join_at.new.self c.skip.new.self c.skip-then-is_same_time.new.self (sym c.is_same_time.ensures.test ∙ c.if-is_same_time.true) c.in_ok-join_at-in-Some-Some.ensures c.skip.ensures c.skip-then-is_same_time.ensures

pub returns-else-is_before : goal.returns-else-is_before
returns-else-is_before c =
    let first = c.in-Some-Some.ensures in
    let second = c.in-Some-Some.ensures' in
    weaves_kept c.args.place c.args.self.now c.args.mine.now c.args.others.now c.in-Some-Some.other.now second.0 c.requires.here second.1 c.in-Some-Some.node.now first.0 first.1 c.skip-else-is_before.new.self (sym c.is_same_time.ensures.test ∙ c.if-is_same_time.false) (sym c.is_before.ensures ∙ c.if-is_before.false) c.skip-else-is_before.ensures
