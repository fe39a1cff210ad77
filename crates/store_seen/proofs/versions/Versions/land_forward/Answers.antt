-- The branch moves up, as the machine's step does it.
use Rattle.std.proofs.Common.{◌≡◌, ◌∷◌, [], ◌++◌, length, append-nil, ap, sym, ◌∙◌, subst, arith}
use Rattle.branch_history.specs.declared.moves.Move.TheVariants as move
use Rattle.branch_history.specs.Validity.{IsMove}
use Rattle.store_seen.proofs.Cores.{forward-core, gone-on}
use Rattle.store_seen.proofs.Backs.{stood-before, goes-back}
use Rattle.store_seen.proofs.Landings.{forward-moves, forward-turn}
use Rattle.store_seen.proofs.versions.Versions.land_forward.Goals as goal

pub invariant_of-self-2 : goal.invariant_of-self-2
invariant_of-self-2 g c =
    let laws = (g.met.T.Mrdt g.world.𝓛 g.world.𝓜 g.world.𝓡 ((λ s x. x), (λ x. x), (λ x. x), λ x. x)).laws in
    let valid = c.may_move.ensures.valid in
    let free = c.in_ok-may_move.ensures.free in
    let moves = subst (λ v. IsMove g.T.Mrdt.meaning v.core.terms v.core.history (move.Forward c.args.branch c.args.commit)) (sym c.self.view_is) (forward-moves g.T.Mrdt.meaning laws c.args.self.now.core valid c.args.branch c.requires.there c.args.commit c.args.head c.requires.ready free) in
    let made = c.push_reserved.ensures.items ∙ ap (λ l. l ++ move.Forward c.args.branch c.args.commit ∷ []) c.in_ok-reserve.ensures.items in
    forward-core g.T.Mrdt.meaning laws c.self.inside.terms c.self.inside.moves.items c.self.inside.heads c.self.inside.nodes.graph c.self.inside.clocks.items c.self.inside.nodes.values c.self.invariant c.push_reserved.new.self.items c.put_head.new.heads c.args.branch c.args.commit moves made c.put_head.ensures

pub returns-clause-landed : goal.returns-clause-landed
returns-clause-landed g c =
    let laws = (g.met.T.Mrdt g.world.𝓛 g.world.𝓜 g.world.𝓡 ((λ s x. x), (λ x. x), (λ x. x), λ x. x)).laws in
    let valid = c.may_move.ensures.valid in
    let old = c.args.self.now.core in
    let made = c.push_reserved.ensures.items ∙ ap (λ l. l ++ move.Forward c.args.branch c.args.commit ∷ []) c.in_ok-reserve.ensures.items in
    let counted : c.len.result ≡ length c.push_reserved.new.self.items = omega arith in
    record {
      turn_is = forward-turn g.T.Mrdt.meaning laws old valid c.args.branch c.requires.there c.args.commit c.args.head c.requires.ready c.in_ok-may_move.ensures.free;
      history = gone-on old c.self.inside.moves.items c.push_reserved.new.self.items c.self.inside.terms (move.Forward c.args.branch c.args.commit) (ap (λ v. v.core) c.self.view_is) made;
      counted = counted;
    }

pub returns-clause-before : goal.returns-clause-before
returns-clause-before g c = stood-before c.args.self.now.core _ (move.Forward c.args.branch c.args.commit) c.args.head (returns-clause-landed g c).history (sym c.in_ok-may_move.ensures.newest)

pub returns-clause-back : goal.returns-clause-back
returns-clause-back g c = goes-back c.args.self.now _ (move.Forward c.args.branch c.args.commit) _ (returns-clause-landed g c).history (ap (λ v. v.addresses) c.self.view_is ∙ sym (append-nil c.args.self.now.addresses)) c.may_move.ensures.addressed
