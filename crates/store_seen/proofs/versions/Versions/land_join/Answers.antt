-- The join makes the commit, as the machine's step does it.
use Rattle.std.proofs.Common.{◌≡◌, ◌∷◌, length, ap, sym, ◌∙◌, arith}
use Rattle.branch_history.specs.declared.moves.Move.TheVariants as move
use Rattle.store_seen.proofs.Backs.{stood-before, goes-back}
use Rattle.store_seen.proofs.Landings.{join-adds, join-turn}
use Rattle.store_seen.proofs.versions.Versions.land_join.Goals as goal

pub add_commit-requires-clause-adds : goal.add_commit-requires-clause-adds
add_commit-requires-clause-adds g c κs within =
    let laws = (g.met.T.Mrdt g.world.𝓛 g.world.𝓜 g.world.𝓡 ((λ s x. x), (λ x. x), (λ x. x), λ x. x)).laws in
    let valid = c.may_add_commit.ensures.valid in
    let parents = c.deref.ensures.value ∙ c.in_ok-parents.ensures ∙ ap (λ l. c.args.place.head ∷ l) c.as_slice.ensures in
    join-adds g.T.Mrdt.meaning laws c.args.self.now.core valid c.args.place.branch c.requires.there c.args.commits c.args.clock c.args.value c.args.place.head c.deref.result.now parents c.requires.ready c.in_ok-may_add_commit.ensures.free

pub returns-clause-landed : goal.returns-clause-landed
returns-clause-landed g c =
    let laws = (g.met.T.Mrdt g.world.𝓛 g.world.𝓜 g.world.𝓡 ((λ s x. x), (λ x. x), (λ x. x), λ x. x)).laws in
    let valid = c.may_add_commit.ensures.valid in
    let done = c.in_ok-commit.ensures in
    let counted : c.len.result ≡ length c.self-2.inside.moves.items = omega arith in
    record {
      turn_is = join-turn g.T.Mrdt.meaning laws c.args.self.now.core valid c.args.place.branch c.requires.there c.args.commits c.args.clock c.args.value c.args.place.head c.in_ok-commit.commit c.requires.ready c.in_ok-may_add_commit.ensures.free done.number;
      history = done.added;
      counted = counted ∙ ap (λ v. length v.core.history) c.self-2.view_is;
    }

pub returns-clause-before : goal.returns-clause-before
returns-clause-before g c = stood-before c.args.self.now.core _ (move.Join c.args.place.branch c.args.commits) c.args.place.head (returns-clause-landed g c).history (sym c.in_ok-may_add_commit.ensures.newest)

pub returns-clause-back : goal.returns-clause-back
returns-clause-back g c = goes-back c.args.self.now _ (move.Join c.args.place.branch c.args.commits) _ (returns-clause-landed g c).history c.in_ok-commit.ensures.addressed c.may_add_commit.ensures.addressed
