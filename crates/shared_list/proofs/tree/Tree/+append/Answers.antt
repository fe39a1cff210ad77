use Rattle.std.proofs.Common.{◌≡◌, ◌+◌, ◌-◌, ◌++◌, take, length, subst, arith}
use Rattle.shared_list.specs.declared.tree.Node.TheVariants.{Branch}
use Rattle.std.specs.Arc.{arc_value}
use Rattle.shared_list.specs.Trees.{Puts, AreAt}
use Rattle.shared_list.specs.Nodes.{IsAtHeight, IsAbove}
use Rattle.shared_list.proofs.Kids.{appended, below_one}
use Rattle.shared_list.proofs.tree.Tree.+append.Goals as goal

pub pack_trees-requires : goal.pack_trees-requires
pack_trees-requires g t c =
    let node : arc_value c.self.inside.node ≡ Branch c.in-Branch.kids = rw (← c.deref.ensures) c.in-Branch.is in
    let above : IsAbove c.self.inside.height c.in-Branch.kids.items = subst (λ n. IsAtHeight c.self.inside.height n) node c.self.invariant.at in
    let last : c.len-last.result - 1 + 1 ≡ length c.in-Branch.kids.items = omega (arith, above.some, c.len-last.ensures) in
    let m1 : c.copy_trees.new.out.items ≡ take (c.len-last.result - 1) c.in-Branch.kids.items = grind (arith, c.in_ok-copy_trees-in-Branch.ensures, c.in_ok-made-in-Branch.ensures.items, c.deref-in-Branch.ensures.value) in
    let puts = subst (λ x. Puts c.copy_trees.new.out.items c.append.new.out.items x.0 (x.1 ++ c.args.tree.1)) c.index.ensures c.in_ok-append-in-Branch.ensures in
    let s = appended above.below c.in-Branch.kids.items (c.len-last.result - 1) c.index.result.now c.args.tree.1 c.copy_trees.new.out.items c.append.new.out.items above.all last m1 puts in
    subst (λ h. AreAt h c.append.new.out.items) (below_one _ _ above.above) s.all
