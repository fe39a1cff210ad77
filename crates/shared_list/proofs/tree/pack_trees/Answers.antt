use Rattle.std.proofs.Common.{◌≡◌, ◌+◌, ◌++◌, ◌∷◌, [], take}
use Rattle.shared_list.specs.Trees.{lists}
use Rattle.shared_list.proofs.tree.pack_trees.Goals as goal
use Rattle.shared_list.proofs.Kids.{puts_two, lists_take_drop}

pub returns : goal.returns
returns g c =
    let b2 : c.in_ok-branch-2.field-0 ≡ (c.args.below + 1, lists c.split_off.new.self.items) = c.in_ok-branch-2.ensures in
    let b3 : c.in_ok-branch-3.field-0 ≡ (c.args.below + 1, lists c.in_ok-behind.behind.items) = c.in_ok-branch-3.ensures in
    let p2 : c.push-2.new.self.items ≡ c.args.out.now.items ++ c.in_ok-branch-2.field-0 ∷ [] = c.in_ok-push-2.ensures.items in
    let p3 : c.push-3.new.self.items ≡ c.push-2.new.self.items ++ c.in_ok-branch-3.field-0 ∷ [] = c.in_ok-push-3.ensures.items in
    let front : c.split_off.new.self.items ≡ take c.if-at_end.split_off c.args.trees.items = c.in_ok-behind.ensures.items in
    let both : lists c.split_off.new.self.items ++ lists c.in_ok-behind.behind.items ≡ lists c.args.trees.items = rw (front, c.in_ok-behind.ensures.tail) (lists_take_drop c.if-at_end.split_off c.args.trees.items) in
    puts_two c.args.out.now.items c.push-2.new.self.items c.push-3.new.self.items (c.args.below + 1) (lists c.split_off.new.self.items) (lists c.in_ok-behind.behind.items) (lists c.args.trees.items) (rw (← b2) p2) (rw (← b3) p3) both
