-- The operation makes the commit, as the machine's step does it.
use Rattle.std.proofs.Common.{◌≡◌, [], ◌∷◌, ◌++◌, length, ap, sym, ◌∙◌, arith}
use Rattle.branch_history.specs.declared.moves.Move.TheVariants as move
use Rattle.store_seen.proofs.Backs.{stood-before, goes-back}
use Rattle.store_seen.proofs.Landings.{operation-adds, operation-turn}
use Rattle.store_seen.proofs.versions.Versions.land_operation.Goals as goal

pub add_commit-requires-clause-adds : goal.add_commit-requires-clause-adds
add_commit-requires-clause-adds g c κs within =
    let laws = (g.met.T.Mrdt g.world.𝓛 g.world.𝓜 g.world.𝓡 ((λ s x. x), (λ x. x), (λ x. x), λ x. x)).laws in
    let valid = c.may_add_commit.ensures.valid in
    operation-adds g.T.Mrdt.meaning laws c.args.self.now.core valid c.args.place.branch c.requires.there c.args.time c.args.value c.args.op c.args.place.head c.args.reply c.in_ok-again.again c.requires.ready c.in_ok-may_add_commit.ensures.free c.in_ok-again.ensures

pub returns-clause-landed : goal.returns-clause-landed
returns-clause-landed g c =
    let laws = (g.met.T.Mrdt g.world.𝓛 g.world.𝓜 g.world.𝓡 ((λ s x. x), (λ x. x), (λ x. x), λ x. x)).laws in
    let valid = c.may_add_commit.ensures.valid in
    let done = c.in_ok-commit.ensures in
    let counted : c.len.result ≡ length c.self-2.inside.moves.items = omega arith in
    record {
      turn_is = operation-turn g.T.Mrdt.meaning laws c.args.self.now.core valid c.args.place.branch c.requires.there c.args.time c.args.value c.args.op c.args.place.head c.in_ok-commit.commit c.args.reply c.requires.ready c.in_ok-may_add_commit.ensures.free done.number;
      history = done.added ∙ ap (λ m. record c.args.self.now.core { history = c.args.self.now.core.history ++ move.Operation c.args.place.branch c.args.op m ∷ [] }) c.in_ok-again.ensures;
      counted = counted ∙ ap (λ v. length v.core.history) c.self-2.view_is;
    }

pub returns-clause-before : goal.returns-clause-before
returns-clause-before g c = stood-before c.args.self.now.core _ (move.Operation c.args.place.branch c.args.op c.args.reply) c.args.place.head (returns-clause-landed g c).history (sym c.in_ok-may_add_commit.ensures.newest)

pub returns-clause-back : goal.returns-clause-back
returns-clause-back g c = goes-back c.args.self.now _ (move.Operation c.args.place.branch c.args.op c.args.reply) _ (returns-clause-landed g c).history c.in_ok-commit.ensures.addressed c.may_add_commit.ensures.addressed
