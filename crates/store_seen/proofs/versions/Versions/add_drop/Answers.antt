-- The branch is dropped, and the move is the machine's.
use Rattle.std.proofs.Common.{◌∷◌, [], ◌++◌, append-nil, ap, sym, ◌∙◌, subst}
use Rattle.branch_history.specs.declared.moves.Move.TheVariants as move
use Rattle.branch_history.specs.Validity.{IsMove}
use Rattle.store_seen.proofs.Backs.{goes-back}
use Rattle.store_seen.proofs.Cores.{gone-on}
use Rattle.store_seen.proofs.Placed.{drop-core}
use Rattle.store_seen.proofs.versions.Versions.add_drop.Goals as goal

pub invariant_of-self-2 : goal.invariant_of-self-2
invariant_of-self-2 g c =
    let laws = (g.met.T.Mrdt g.world.𝓛 g.world.𝓜 g.world.𝓡 ((λ s x. x), (λ x. x), (λ x. x), λ x. x)).laws in
    let moves = subst (λ v. IsMove g.T.Mrdt.meaning v.core.terms v.core.history (move.Drop c.args.branch)) (sym c.self.view_is) c.requires.moves in
    let made = c.push_reserved.ensures.items ∙ ap (λ l. l ++ move.Drop c.args.branch ∷ []) c.in_ok-reserve.ensures.items in
    drop-core g.T.Mrdt.meaning laws c.self.inside.terms c.self.inside.moves.items c.self.inside.heads c.self.inside.nodes.graph c.self.inside.clocks.items c.self.inside.nodes.values c.self.invariant c.push_reserved.new.self.items c.put_drop.new.heads c.args.branch moves made c.put_drop.ensures

pub returns-clause-back : goal.returns-clause-back
returns-clause-back g c =
    let made = c.push_reserved.ensures.items ∙ ap (λ l. l ++ move.Drop c.args.branch ∷ []) c.in_ok-reserve.ensures.items in
    let grown = gone-on c.args.self.now.core c.self.inside.moves.items c.push_reserved.new.self.items c.self.inside.terms (move.Drop c.args.branch) (ap (λ v. v.core) c.self.view_is) made in
    goes-back c.args.self.now _ (move.Drop c.args.branch) [] grown (ap (λ v. v.addresses) c.self.view_is ∙ sym (append-nil c.args.self.now.addresses)) c.commits-count.ensures.addressed
