use Rattle.std.proofs.Common.{◌≡◌, ◌+◌, ◌-◌, ◌++◌, take, drop, get_or, subst, arith}
use Rattle.shared_list.specs.declared.tree.Node.TheVariants.{Branch}
use Rattle.std.specs.Arc.{arc_value}
use Rattle.shared_list.specs.Trees.{Puts, edited, AreAt}
use Rattle.shared_list.specs.Nodes.{IsAtHeight, IsAbove}
use Rattle.shared_list.proofs.Kids.{spliced, below_one, rest_of}
use Rattle.shared_list.proofs.tree.Tree.+edit.Goals as goal

pub pack_trees-requires : goal.pack_trees-requires
pack_trees-requires g t c =
    let node : arc_value c.self.inside.node ≡ Branch c.in-Branch.kids = rw (← c.deref.ensures) c.in-Branch.is in
    let above : IsAbove c.self.inside.height c.in-Branch.kids.items = subst (λ n. IsAtHeight c.self.inside.height n) node c.self.invariant.at in
    let k = rw c.deref-in-Branch.ensures.value at c.kid_at-index.ensures in
    let m1 : c.copy_trees.new.out.items ≡ take c.kid_at-index.result.0 c.in-Branch.kids.items = grind (arith, c.in_ok-copy_trees-in-Branch.ensures, c.in_ok-made-in-Branch.ensures.items, c.deref-in-Branch-2.ensures.value) in
    let one : c.index.result.now ≡ get_or c.in-Branch.kids.items c.kid_at-index.result.0 c.index.result.now = c.index.ensures in
    let puts : Puts c.copy_trees.new.out.items c.edit.new.out.items c.index.result.now.0 (edited c.kid_at-index.result.1 c.args.cut c.args.item c.index.result.now.1) = c.in_ok-edit-in-Branch.ensures in
    let m3 : c.copy_trees-in-Branch.new.out.items ≡ c.edit.new.out.items ++ drop (c.kid_at-index.result.0 + 1) c.in-Branch.kids.items = rw (← c.deref-in-Branch-3.ensures.value, ← rest_of (c.kid_at-index.result.0 + 1) c.deref-in-Branch-3.result.now) c.in_ok-copy_trees-in-Branch-2.ensures in
    let s = spliced above.below c.in-Branch.kids.items c.kid_at-index.result.0 c.index.result.now c.kid_at-index.result.1 c.args.place c.args.cut c.args.item c.copy_trees.new.out.items c.edit.new.out.items c.copy_trees-in-Branch.new.out.items above.all k.there k.place (k.within _) m1 (subst (λ x. Puts c.copy_trees.new.out.items c.edit.new.out.items x.0 (edited c.kid_at-index.result.1 c.args.cut c.args.item x.1)) one puts) m3 in
    subst (λ h. AreAt h c.copy_trees-in-Branch.new.out.items) (below_one _ _ above.above) s.all

pub returns-in_ok-copy_trees-in-Branch-2 : goal.returns-in_ok-copy_trees-in-Branch-2
returns-in_ok-copy_trees-in-Branch-2 g t c =
    let node : arc_value c.self.inside.node ≡ Branch c.in-Branch.kids = rw (← c.deref.ensures) c.in-Branch.is in
    let above : IsAbove c.self.inside.height c.in-Branch.kids.items = subst (λ n. IsAtHeight c.self.inside.height n) node c.self.invariant.at in
    let k = rw c.deref-in-Branch.ensures.value at c.kid_at-index.ensures in
    let m1 : c.copy_trees.new.out.items ≡ take c.kid_at-index.result.0 c.in-Branch.kids.items = grind (arith, c.in_ok-copy_trees-in-Branch.ensures, c.in_ok-made-in-Branch.ensures.items, c.deref-in-Branch-2.ensures.value) in
    let one : c.index.result.now ≡ get_or c.in-Branch.kids.items c.kid_at-index.result.0 c.index.result.now = c.index.ensures in
    let puts : Puts c.copy_trees.new.out.items c.edit.new.out.items c.index.result.now.0 (edited c.kid_at-index.result.1 c.args.cut c.args.item c.index.result.now.1) = c.in_ok-edit-in-Branch.ensures in
    let m3 : c.copy_trees-in-Branch.new.out.items ≡ c.edit.new.out.items ++ drop (c.kid_at-index.result.0 + 1) c.in-Branch.kids.items = rw (← c.deref-in-Branch-3.ensures.value, ← rest_of (c.kid_at-index.result.0 + 1) c.deref-in-Branch-3.result.now) c.in_ok-copy_trees-in-Branch-2.ensures in
    let s = spliced above.below c.in-Branch.kids.items c.kid_at-index.result.0 c.index.result.now c.kid_at-index.result.1 c.args.place c.args.cut c.args.item c.copy_trees.new.out.items c.edit.new.out.items c.copy_trees-in-Branch.new.out.items above.all k.there k.place (k.within _) m1 (subst (λ x. Puts c.copy_trees.new.out.items c.edit.new.out.items x.0 (edited c.kid_at-index.result.1 c.args.cut c.args.item x.1)) one puts) m3 in
    let back : c.self.inside.height - 1 + 1 ≡ c.self.inside.height = omega (arith, above.above) in
    rw (← c.self.view_is, node, ← s.same) (rw back at c.pack_trees.ensures)
