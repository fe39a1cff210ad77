-- The last move is off again, whatever it was.
use Rattle.std.proofs.Common.{◌≡◌, ◌-◌, length, take, ap, sym, ◌∙◌, subst, arith}
use Rattle.std.specs.Vec.{vec_len}
use Rattle.store_seen.specs.Turns.{StoodAt}
use Rattle.store_seen.proofs.Undone.{new-same, new-some, new-undone, moved-there, moved-back, commit-some, commit-undone, commit-count, undone-same, undone-addresses, undone-view, fork-grown, place-grown, operation-there, operation-moved, operation-made, operation-stood, merge-there, merge-moved, merge-made, merge-stood, join-there, join-moved, join-made, join-stood, forward-there, forward-moved, forward-same, forward-stood, received-made, received-back, drop-same, drop-there, drop-free, drop-undone}
use Rattle.store_seen.proofs.versions.Versions.undo.Goals as goal

pub unfork-requires : goal.unfork-requires
unfork-requires g c =
    let laws = (g.met.T.Mrdt g.world.𝓛 g.world.𝓜 g.world.𝓡 ((λ s x. x), (λ x. x), (λ x. x), λ x. x)).laws in
    let inside = c.self.inside in
    let made = c.in-Some.made in
    let rest = c.pop.new.self.items in
    let last = c.in-Some.ensures.items in
    new-some g.T.Mrdt.meaning laws inside.terms inside.moves.items inside.heads inside.nodes.graph inside.clocks.items inside.nodes.values c.self.invariant rest made last _ _ (fork-grown g.T.Mrdt.meaning laws inside.terms inside.moves.items inside.heads inside.nodes.graph inside.clocks.items inside.nodes.values c.self.invariant rest made last c.in-Fork.name c.in-Fork.number c.in-Fork.from c.in-Fork.is)

pub invariant_of-self-in-Fork : goal.invariant_of-self-in-Fork
invariant_of-self-in-Fork g c =
    let laws = (g.met.T.Mrdt g.world.𝓛 g.world.𝓜 g.world.𝓡 ((λ s x. x), (λ x. x), (λ x. x), λ x. x)).laws in
    let inside = c.self.inside in
    let made = c.in-Some.made in
    let rest = c.pop.new.self.items in
    let last = c.in-Some.ensures.items in
    new-undone g.T.Mrdt.meaning laws inside.terms inside.moves.items inside.heads inside.nodes.graph inside.clocks.items inside.nodes.values c.self.invariant rest made last _ _ (fork-grown g.T.Mrdt.meaning laws inside.terms inside.moves.items inside.heads inside.nodes.graph inside.clocks.items inside.nodes.values c.self.invariant rest made last c.in-Fork.name c.in-Fork.number c.in-Fork.from c.in-Fork.is) c.unfork.new.self c.unfork.ensures

pub unfork-requires-in-Place : goal.unfork-requires-in-Place
unfork-requires-in-Place g c =
    let laws = (g.met.T.Mrdt g.world.𝓛 g.world.𝓜 g.world.𝓡 ((λ s x. x), (λ x. x), (λ x. x), λ x. x)).laws in
    let inside = c.self.inside in
    let made = c.in-Some.made in
    let rest = c.pop.new.self.items in
    let last = c.in-Some.ensures.items in
    new-some g.T.Mrdt.meaning laws inside.terms inside.moves.items inside.heads inside.nodes.graph inside.clocks.items inside.nodes.values c.self.invariant rest made last _ _ (place-grown g.T.Mrdt.meaning laws inside.terms inside.moves.items inside.heads inside.nodes.graph inside.clocks.items inside.nodes.values c.self.invariant rest made last c.in-Place.name c.in-Place.number c.in-Place.commit c.in-Place.is)

pub invariant_of-self-in-Place : goal.invariant_of-self-in-Place
invariant_of-self-in-Place g c =
    let laws = (g.met.T.Mrdt g.world.𝓛 g.world.𝓜 g.world.𝓡 ((λ s x. x), (λ x. x), (λ x. x), λ x. x)).laws in
    let inside = c.self.inside in
    let made = c.in-Some.made in
    let rest = c.pop.new.self.items in
    let last = c.in-Some.ensures.items in
    new-undone g.T.Mrdt.meaning laws inside.terms inside.moves.items inside.heads inside.nodes.graph inside.clocks.items inside.nodes.values c.self.invariant rest made last _ _ (place-grown g.T.Mrdt.meaning laws inside.terms inside.moves.items inside.heads inside.nodes.graph inside.clocks.items inside.nodes.values c.self.invariant rest made last c.in-Place.name c.in-Place.number c.in-Place.commit c.in-Place.is) c.unfork-in-Place.new.self c.unfork-in-Place.ensures

pub pop-requires-in-Operation-2-after_bounds : goal.pop-requires-in-Operation-2-after_bounds
pop-requires-in-Operation-2-after_bounds g c κs within =
    let laws = (g.met.T.Mrdt g.world.𝓛 g.world.𝓜 g.world.𝓡 ((λ s x. x), (λ x. x), (λ x. x), λ x. x)).laws in
    let inside = c.self.inside in
    let made = c.in-Some.made in
    let rest = c.pop.new.self.items in
    let last = c.in-Some.ensures.items in
    commit-some g.T.Mrdt.meaning laws inside.terms inside.moves.items inside.heads inside.nodes.graph inside.clocks.items inside.nodes.values c.self.invariant rest made last _ (operation-made g.T.Mrdt.meaning laws inside.terms inside.moves.items inside.heads inside.nodes.graph inside.clocks.items inside.nodes.values c.self.invariant rest made last c.in-Operation.branch c.in-Operation.op c.in-Operation.reply c.in-Operation.is)

pub put_head-requires : goal.put_head-requires
put_head-requires g c =
    let laws = (g.met.T.Mrdt g.world.𝓛 g.world.𝓜 g.world.𝓡 ((λ s x. x), (λ x. x), (λ x. x), λ x. x)).laws in
    let inside = c.self.inside in
    let made = c.in-Some.made in
    let rest = c.pop.new.self.items in
    let last = c.in-Some.ensures.items in
    moved-there g.T.Mrdt.meaning laws inside.terms inside.moves.items inside.heads inside.nodes.graph inside.clocks.items inside.nodes.values c.self.invariant rest made last c.in-Operation.branch _ (operation-there g.T.Mrdt.meaning laws inside.terms inside.moves.items inside.heads inside.nodes.graph inside.clocks.items inside.nodes.values c.self.invariant rest made last c.in-Operation.branch c.in-Operation.op c.in-Operation.reply c.in-Operation.is) (operation-moved g.T.Mrdt.meaning laws inside.terms inside.moves.items inside.heads inside.nodes.graph inside.clocks.items inside.nodes.values c.self.invariant rest made last c.in-Operation.branch c.in-Operation.op c.in-Operation.reply c.in-Operation.is)

pub invariant_of-self-in-Operation : goal.invariant_of-self-in-Operation
invariant_of-self-in-Operation g c =
    let laws = (g.met.T.Mrdt g.world.𝓛 g.world.𝓜 g.world.𝓡 ((λ s x. x), (λ x. x), (λ x. x), λ x. x)).laws in
    let inside = c.self.inside in
    let made = c.in-Some.made in
    let rest = c.pop.new.self.items in
    let last = c.in-Some.ensures.items in
    let stood = operation-stood g.T.Mrdt.meaning laws inside.terms inside.moves.items inside.heads inside.nodes.graph inside.clocks.items inside.nodes.values c.self.invariant rest made last c.in-Operation.branch c.in-Operation.op c.in-Operation.reply c.in-Operation.is c.args.head (subst (λ v. StoodAt v.core.terms rest made c.args.head) (sym c.self.view_is) (c.requires.stood rest made (ap (λ v. v.core.history) (sym c.self.view_is) ∙ last))) in
    let back = moved-back g.T.Mrdt.meaning laws inside.terms inside.moves.items inside.heads inside.nodes.graph inside.clocks.items inside.nodes.values c.self.invariant rest made last c.in-Operation.branch _ (operation-there g.T.Mrdt.meaning laws inside.terms inside.moves.items inside.heads inside.nodes.graph inside.clocks.items inside.nodes.values c.self.invariant rest made last c.in-Operation.branch c.in-Operation.op c.in-Operation.reply c.in-Operation.is) (operation-moved g.T.Mrdt.meaning laws inside.terms inside.moves.items inside.heads inside.nodes.graph inside.clocks.items inside.nodes.values c.self.invariant rest made last c.in-Operation.branch c.in-Operation.op c.in-Operation.reply c.in-Operation.is) c.args.head stood c.put_head.new.heads c.put_head.ensures in
    let same : vec_len inside.clocks ≡ length inside.clocks.items = omega arith in
    let clocks = c.pop-in-Operation.ensures.rest ∙ ap (λ n. take (n - 1) inside.clocks.items) same in
    let cut = c.pop-in-Operation-2.ensures in
    commit-undone g.T.Mrdt.meaning laws inside.terms inside.moves.items inside.heads inside.nodes.graph inside.clocks.items inside.nodes.values c.self.invariant rest made last _ (operation-made g.T.Mrdt.meaning laws inside.terms inside.moves.items inside.heads inside.nodes.graph inside.clocks.items inside.nodes.values c.self.invariant rest made last c.in-Operation.branch c.in-Operation.op c.in-Operation.reply c.in-Operation.is) c.put_head.new.heads back c.pop-in-Operation-2.new.self.graph (ap (λ n. n.graph) cut) c.pop-in-Operation.new.self.items clocks c.pop-in-Operation-2.new.self.values (ap (λ n. n.values) cut)

pub pop-requires-in-Merge-2-after_bounds : goal.pop-requires-in-Merge-2-after_bounds
pop-requires-in-Merge-2-after_bounds g c κs within =
    let laws = (g.met.T.Mrdt g.world.𝓛 g.world.𝓜 g.world.𝓡 ((λ s x. x), (λ x. x), (λ x. x), λ x. x)).laws in
    let inside = c.self.inside in
    let made = c.in-Some.made in
    let rest = c.pop.new.self.items in
    let last = c.in-Some.ensures.items in
    commit-some g.T.Mrdt.meaning laws inside.terms inside.moves.items inside.heads inside.nodes.graph inside.clocks.items inside.nodes.values c.self.invariant rest made last _ (merge-made g.T.Mrdt.meaning laws inside.terms inside.moves.items inside.heads inside.nodes.graph inside.clocks.items inside.nodes.values c.self.invariant rest made last c.in-Merge.branch c.in-Merge.commit c.in-Merge.is)

pub put_head-requires-in-Merge : goal.put_head-requires-in-Merge
put_head-requires-in-Merge g c =
    let laws = (g.met.T.Mrdt g.world.𝓛 g.world.𝓜 g.world.𝓡 ((λ s x. x), (λ x. x), (λ x. x), λ x. x)).laws in
    let inside = c.self.inside in
    let made = c.in-Some.made in
    let rest = c.pop.new.self.items in
    let last = c.in-Some.ensures.items in
    moved-there g.T.Mrdt.meaning laws inside.terms inside.moves.items inside.heads inside.nodes.graph inside.clocks.items inside.nodes.values c.self.invariant rest made last c.in-Merge.branch _ (merge-there g.T.Mrdt.meaning laws inside.terms inside.moves.items inside.heads inside.nodes.graph inside.clocks.items inside.nodes.values c.self.invariant rest made last c.in-Merge.branch c.in-Merge.commit c.in-Merge.is) (merge-moved g.T.Mrdt.meaning laws inside.terms inside.moves.items inside.heads inside.nodes.graph inside.clocks.items inside.nodes.values c.self.invariant rest made last c.in-Merge.branch c.in-Merge.commit c.in-Merge.is)

pub invariant_of-self-in-Merge : goal.invariant_of-self-in-Merge
invariant_of-self-in-Merge g c =
    let laws = (g.met.T.Mrdt g.world.𝓛 g.world.𝓜 g.world.𝓡 ((λ s x. x), (λ x. x), (λ x. x), λ x. x)).laws in
    let inside = c.self.inside in
    let made = c.in-Some.made in
    let rest = c.pop.new.self.items in
    let last = c.in-Some.ensures.items in
    let stood = merge-stood g.T.Mrdt.meaning laws inside.terms inside.moves.items inside.heads inside.nodes.graph inside.clocks.items inside.nodes.values c.self.invariant rest made last c.in-Merge.branch c.in-Merge.commit c.in-Merge.is c.args.head (subst (λ v. StoodAt v.core.terms rest made c.args.head) (sym c.self.view_is) (c.requires.stood rest made (ap (λ v. v.core.history) (sym c.self.view_is) ∙ last))) in
    let back = moved-back g.T.Mrdt.meaning laws inside.terms inside.moves.items inside.heads inside.nodes.graph inside.clocks.items inside.nodes.values c.self.invariant rest made last c.in-Merge.branch _ (merge-there g.T.Mrdt.meaning laws inside.terms inside.moves.items inside.heads inside.nodes.graph inside.clocks.items inside.nodes.values c.self.invariant rest made last c.in-Merge.branch c.in-Merge.commit c.in-Merge.is) (merge-moved g.T.Mrdt.meaning laws inside.terms inside.moves.items inside.heads inside.nodes.graph inside.clocks.items inside.nodes.values c.self.invariant rest made last c.in-Merge.branch c.in-Merge.commit c.in-Merge.is) c.args.head stood c.put_head-in-Merge.new.heads c.put_head-in-Merge.ensures in
    let same : vec_len inside.clocks ≡ length inside.clocks.items = omega arith in
    let clocks = c.pop-in-Merge.ensures.rest ∙ ap (λ n. take (n - 1) inside.clocks.items) same in
    let cut = c.pop-in-Merge-2.ensures in
    commit-undone g.T.Mrdt.meaning laws inside.terms inside.moves.items inside.heads inside.nodes.graph inside.clocks.items inside.nodes.values c.self.invariant rest made last _ (merge-made g.T.Mrdt.meaning laws inside.terms inside.moves.items inside.heads inside.nodes.graph inside.clocks.items inside.nodes.values c.self.invariant rest made last c.in-Merge.branch c.in-Merge.commit c.in-Merge.is) c.put_head-in-Merge.new.heads back c.pop-in-Merge-2.new.self.graph (ap (λ n. n.graph) cut) c.pop-in-Merge.new.self.items clocks c.pop-in-Merge-2.new.self.values (ap (λ n. n.values) cut)

pub pop-requires-in-Join-2-after_bounds : goal.pop-requires-in-Join-2-after_bounds
pop-requires-in-Join-2-after_bounds g c κs within =
    let laws = (g.met.T.Mrdt g.world.𝓛 g.world.𝓜 g.world.𝓡 ((λ s x. x), (λ x. x), (λ x. x), λ x. x)).laws in
    let inside = c.self.inside in
    let made = c.in-Some.made in
    let rest = c.pop.new.self.items in
    let last = c.in-Some.ensures.items in
    commit-some g.T.Mrdt.meaning laws inside.terms inside.moves.items inside.heads inside.nodes.graph inside.clocks.items inside.nodes.values c.self.invariant rest made last _ (join-made g.T.Mrdt.meaning laws inside.terms inside.moves.items inside.heads inside.nodes.graph inside.clocks.items inside.nodes.values c.self.invariant rest made last c.in-Join.branch c.in-Join.commits c.in-Join.is)

pub put_head-requires-in-Join : goal.put_head-requires-in-Join
put_head-requires-in-Join g c =
    let laws = (g.met.T.Mrdt g.world.𝓛 g.world.𝓜 g.world.𝓡 ((λ s x. x), (λ x. x), (λ x. x), λ x. x)).laws in
    let inside = c.self.inside in
    let made = c.in-Some.made in
    let rest = c.pop.new.self.items in
    let last = c.in-Some.ensures.items in
    moved-there g.T.Mrdt.meaning laws inside.terms inside.moves.items inside.heads inside.nodes.graph inside.clocks.items inside.nodes.values c.self.invariant rest made last c.in-Join.branch _ (join-there g.T.Mrdt.meaning laws inside.terms inside.moves.items inside.heads inside.nodes.graph inside.clocks.items inside.nodes.values c.self.invariant rest made last c.in-Join.branch c.in-Join.commits c.in-Join.is) (join-moved g.T.Mrdt.meaning laws inside.terms inside.moves.items inside.heads inside.nodes.graph inside.clocks.items inside.nodes.values c.self.invariant rest made last c.in-Join.branch c.in-Join.commits c.in-Join.is)

pub invariant_of-self-in-Join : goal.invariant_of-self-in-Join
invariant_of-self-in-Join g c =
    let laws = (g.met.T.Mrdt g.world.𝓛 g.world.𝓜 g.world.𝓡 ((λ s x. x), (λ x. x), (λ x. x), λ x. x)).laws in
    let inside = c.self.inside in
    let made = c.in-Some.made in
    let rest = c.pop.new.self.items in
    let last = c.in-Some.ensures.items in
    let stood = join-stood g.T.Mrdt.meaning laws inside.terms inside.moves.items inside.heads inside.nodes.graph inside.clocks.items inside.nodes.values c.self.invariant rest made last c.in-Join.branch c.in-Join.commits c.in-Join.is c.args.head (subst (λ v. StoodAt v.core.terms rest made c.args.head) (sym c.self.view_is) (c.requires.stood rest made (ap (λ v. v.core.history) (sym c.self.view_is) ∙ last))) in
    let back = moved-back g.T.Mrdt.meaning laws inside.terms inside.moves.items inside.heads inside.nodes.graph inside.clocks.items inside.nodes.values c.self.invariant rest made last c.in-Join.branch _ (join-there g.T.Mrdt.meaning laws inside.terms inside.moves.items inside.heads inside.nodes.graph inside.clocks.items inside.nodes.values c.self.invariant rest made last c.in-Join.branch c.in-Join.commits c.in-Join.is) (join-moved g.T.Mrdt.meaning laws inside.terms inside.moves.items inside.heads inside.nodes.graph inside.clocks.items inside.nodes.values c.self.invariant rest made last c.in-Join.branch c.in-Join.commits c.in-Join.is) c.args.head stood c.put_head-in-Join.new.heads c.put_head-in-Join.ensures in
    let same : vec_len inside.clocks ≡ length inside.clocks.items = omega arith in
    let clocks = c.pop-in-Join.ensures.rest ∙ ap (λ n. take (n - 1) inside.clocks.items) same in
    let cut = c.pop-in-Join-2.ensures in
    commit-undone g.T.Mrdt.meaning laws inside.terms inside.moves.items inside.heads inside.nodes.graph inside.clocks.items inside.nodes.values c.self.invariant rest made last _ (join-made g.T.Mrdt.meaning laws inside.terms inside.moves.items inside.heads inside.nodes.graph inside.clocks.items inside.nodes.values c.self.invariant rest made last c.in-Join.branch c.in-Join.commits c.in-Join.is) c.put_head-in-Join.new.heads back c.pop-in-Join-2.new.self.graph (ap (λ n. n.graph) cut) c.pop-in-Join.new.self.items clocks c.pop-in-Join-2.new.self.values (ap (λ n. n.values) cut)

pub put_head-requires-in-Forward : goal.put_head-requires-in-Forward
put_head-requires-in-Forward g c =
    let laws = (g.met.T.Mrdt g.world.𝓛 g.world.𝓜 g.world.𝓡 ((λ s x. x), (λ x. x), (λ x. x), λ x. x)).laws in
    let inside = c.self.inside in
    let made = c.in-Some.made in
    let rest = c.pop.new.self.items in
    let last = c.in-Some.ensures.items in
    moved-there g.T.Mrdt.meaning laws inside.terms inside.moves.items inside.heads inside.nodes.graph inside.clocks.items inside.nodes.values c.self.invariant rest made last c.in-Forward.branch _ (forward-there g.T.Mrdt.meaning laws inside.terms inside.moves.items inside.heads inside.nodes.graph inside.clocks.items inside.nodes.values c.self.invariant rest made last c.in-Forward.branch c.in-Forward.commit c.in-Forward.is) (forward-moved g.T.Mrdt.meaning laws inside.terms inside.moves.items inside.heads inside.nodes.graph inside.clocks.items inside.nodes.values c.self.invariant rest made last c.in-Forward.branch c.in-Forward.commit c.in-Forward.is)

pub invariant_of-self-in-Forward : goal.invariant_of-self-in-Forward
invariant_of-self-in-Forward g c =
    let laws = (g.met.T.Mrdt g.world.𝓛 g.world.𝓜 g.world.𝓡 ((λ s x. x), (λ x. x), (λ x. x), λ x. x)).laws in
    let inside = c.self.inside in
    let made = c.in-Some.made in
    let rest = c.pop.new.self.items in
    let last = c.in-Some.ensures.items in
    let stood = forward-stood g.T.Mrdt.meaning laws inside.terms inside.moves.items inside.heads inside.nodes.graph inside.clocks.items inside.nodes.values c.self.invariant rest made last c.in-Forward.branch c.in-Forward.commit c.in-Forward.is c.args.head (subst (λ v. StoodAt v.core.terms rest made c.args.head) (sym c.self.view_is) (c.requires.stood rest made (ap (λ v. v.core.history) (sym c.self.view_is) ∙ last))) in
    let back = moved-back g.T.Mrdt.meaning laws inside.terms inside.moves.items inside.heads inside.nodes.graph inside.clocks.items inside.nodes.values c.self.invariant rest made last c.in-Forward.branch _ (forward-there g.T.Mrdt.meaning laws inside.terms inside.moves.items inside.heads inside.nodes.graph inside.clocks.items inside.nodes.values c.self.invariant rest made last c.in-Forward.branch c.in-Forward.commit c.in-Forward.is) (forward-moved g.T.Mrdt.meaning laws inside.terms inside.moves.items inside.heads inside.nodes.graph inside.clocks.items inside.nodes.values c.self.invariant rest made last c.in-Forward.branch c.in-Forward.commit c.in-Forward.is) c.args.head stood c.put_head-in-Forward.new.heads c.put_head-in-Forward.ensures in
    undone-same g.T.Mrdt.meaning laws inside.terms inside.moves.items inside.heads inside.nodes.graph inside.clocks.items inside.nodes.values c.self.invariant rest made last (forward-same g.T.Mrdt.meaning laws inside.terms inside.moves.items inside.heads inside.nodes.graph inside.clocks.items inside.nodes.values c.self.invariant rest made last c.in-Forward.branch c.in-Forward.commit c.in-Forward.is) c.put_head-in-Forward.new.heads back

pub pop-requires-in-Received-2-after_bounds : goal.pop-requires-in-Received-2-after_bounds
pop-requires-in-Received-2-after_bounds g c κs within =
    let laws = (g.met.T.Mrdt g.world.𝓛 g.world.𝓜 g.world.𝓡 ((λ s x. x), (λ x. x), (λ x. x), λ x. x)).laws in
    let inside = c.self.inside in
    let made = c.in-Some.made in
    let rest = c.pop.new.self.items in
    let last = c.in-Some.ensures.items in
    commit-some g.T.Mrdt.meaning laws inside.terms inside.moves.items inside.heads inside.nodes.graph inside.clocks.items inside.nodes.values c.self.invariant rest made last _ (received-made g.T.Mrdt.meaning laws inside.terms inside.moves.items inside.heads inside.nodes.graph inside.clocks.items inside.nodes.values c.self.invariant rest made last c.in-Received.parents c.in-Received.origin c.in-Received.clock c.in-Received.act c.in-Received.is)

pub invariant_of-self-in-Received : goal.invariant_of-self-in-Received
invariant_of-self-in-Received g c =
    let laws = (g.met.T.Mrdt g.world.𝓛 g.world.𝓜 g.world.𝓡 ((λ s x. x), (λ x. x), (λ x. x), λ x. x)).laws in
    let inside = c.self.inside in
    let made = c.in-Some.made in
    let rest = c.pop.new.self.items in
    let last = c.in-Some.ensures.items in
    let same : vec_len inside.clocks ≡ length inside.clocks.items = omega arith in
    let clocks = c.pop-in-Received.ensures.rest ∙ ap (λ n. take (n - 1) inside.clocks.items) same in
    let cut = c.pop-in-Received-2.ensures in
    commit-undone g.T.Mrdt.meaning laws inside.terms inside.moves.items inside.heads inside.nodes.graph inside.clocks.items inside.nodes.values c.self.invariant rest made last _ (received-made g.T.Mrdt.meaning laws inside.terms inside.moves.items inside.heads inside.nodes.graph inside.clocks.items inside.nodes.values c.self.invariant rest made last c.in-Received.parents c.in-Received.origin c.in-Received.clock c.in-Received.act c.in-Received.is) inside.heads (received-back g.T.Mrdt.meaning laws inside.terms inside.moves.items inside.heads inside.nodes.graph inside.clocks.items inside.nodes.values c.self.invariant rest made last c.in-Received.parents c.in-Received.origin c.in-Received.clock c.in-Received.act c.in-Received.is) c.pop-in-Received-2.new.self.graph (ap (λ n. n.graph) cut) c.pop-in-Received.new.self.items clocks c.pop-in-Received-2.new.self.values (ap (λ n. n.values) cut)

pub undrop-requires-clause-there : goal.undrop-requires-clause-there
undrop-requires-clause-there g c =
    let laws = (g.met.T.Mrdt g.world.𝓛 g.world.𝓜 g.world.𝓡 ((λ s x. x), (λ x. x), (λ x. x), λ x. x)).laws in
    let inside = c.self.inside in
    let made = c.in-Some.made in
    let rest = c.pop.new.self.items in
    let last = c.in-Some.ensures.items in
    drop-there g.T.Mrdt.meaning laws inside.terms inside.moves.items inside.heads inside.nodes.graph inside.clocks.items inside.nodes.values c.self.invariant rest made last c.in-Drop.branch c.in-Drop.is

pub undrop-requires-clause-free : goal.undrop-requires-clause-free
undrop-requires-clause-free g c =
    let laws = (g.met.T.Mrdt g.world.𝓛 g.world.𝓜 g.world.𝓡 ((λ s x. x), (λ x. x), (λ x. x), λ x. x)).laws in
    let inside = c.self.inside in
    let made = c.in-Some.made in
    let rest = c.pop.new.self.items in
    let last = c.in-Some.ensures.items in
    drop-free g.T.Mrdt.meaning laws inside.terms inside.moves.items inside.heads inside.nodes.graph inside.clocks.items inside.nodes.values c.self.invariant rest made last c.in-Drop.branch c.in-Drop.is

pub invariant_of-self-in-Drop : goal.invariant_of-self-in-Drop
invariant_of-self-in-Drop g c =
    let laws = (g.met.T.Mrdt g.world.𝓛 g.world.𝓜 g.world.𝓡 ((λ s x. x), (λ x. x), (λ x. x), λ x. x)).laws in
    let inside = c.self.inside in
    let made = c.in-Some.made in
    let rest = c.pop.new.self.items in
    let last = c.in-Some.ensures.items in
    drop-undone g.T.Mrdt.meaning laws inside.terms inside.moves.items inside.heads inside.nodes.graph inside.clocks.items inside.nodes.values c.self.invariant rest made last c.in-Drop.branch c.in-Drop.is c.undrop.new.self c.undrop.ensures

pub returns-in-Fork : goal.returns-in-Fork
returns-in-Fork g c =
    let laws = (g.met.T.Mrdt g.world.𝓛 g.world.𝓜 g.world.𝓡 ((λ s x. x), (λ x. x), (λ x. x), λ x. x)).laws in
    let inside = c.self.inside in
    let made = c.in-Some.made in
    let rest = c.pop.new.self.items in
    let last = c.in-Some.ensures.items in
    let addresses = inside.nodes.addresses in
    let view = undone-view c.args.self.now inside.moves.items inside.terms addresses c.self.view_is rest made last in
    let same = new-same g.T.Mrdt.meaning laws inside.terms inside.moves.items inside.heads inside.nodes.graph inside.clocks.items inside.nodes.values c.self.invariant rest made last _ _ (fork-grown g.T.Mrdt.meaning laws inside.terms inside.moves.items inside.heads inside.nodes.graph inside.clocks.items inside.nodes.values c.self.invariant rest made last c.in-Fork.name c.in-Fork.number c.in-Fork.from c.in-Fork.is) in
    view addresses (undone-addresses g.T.Mrdt.meaning laws inside.terms inside.moves.items inside.heads inside.nodes.graph inside.clocks.items inside.nodes.values c.self.invariant rest made last same addresses c.count-count.ensures.addressed)

pub returns-in-Operation : goal.returns-in-Operation
returns-in-Operation g c =
    let laws = (g.met.T.Mrdt g.world.𝓛 g.world.𝓜 g.world.𝓡 ((λ s x. x), (λ x. x), (λ x. x), λ x. x)).laws in
    let inside = c.self.inside in
    let made = c.in-Some.made in
    let rest = c.pop.new.self.items in
    let last = c.in-Some.ensures.items in
    let addresses = inside.nodes.addresses in
    let view = undone-view c.args.self.now inside.moves.items inside.terms addresses c.self.view_is rest made last in
    let sized = commit-count g.T.Mrdt.meaning laws inside.terms inside.moves.items inside.heads inside.nodes.graph inside.clocks.items inside.nodes.values c.self.invariant rest made last _ (operation-made g.T.Mrdt.meaning laws inside.terms inside.moves.items inside.heads inside.nodes.graph inside.clocks.items inside.nodes.values c.self.invariant rest made last c.in-Operation.branch c.in-Operation.op c.in-Operation.reply c.in-Operation.is) in
    view c.pop-in-Operation-2.new.self.addresses (ap (λ n. n.addresses) c.pop-in-Operation-2.ensures ∙ ap (λ n. take n addresses) sized)

pub returns-in-Merge : goal.returns-in-Merge
returns-in-Merge g c =
    let laws = (g.met.T.Mrdt g.world.𝓛 g.world.𝓜 g.world.𝓡 ((λ s x. x), (λ x. x), (λ x. x), λ x. x)).laws in
    let inside = c.self.inside in
    let made = c.in-Some.made in
    let rest = c.pop.new.self.items in
    let last = c.in-Some.ensures.items in
    let addresses = inside.nodes.addresses in
    let view = undone-view c.args.self.now inside.moves.items inside.terms addresses c.self.view_is rest made last in
    let sized = commit-count g.T.Mrdt.meaning laws inside.terms inside.moves.items inside.heads inside.nodes.graph inside.clocks.items inside.nodes.values c.self.invariant rest made last _ (merge-made g.T.Mrdt.meaning laws inside.terms inside.moves.items inside.heads inside.nodes.graph inside.clocks.items inside.nodes.values c.self.invariant rest made last c.in-Merge.branch c.in-Merge.commit c.in-Merge.is) in
    view c.pop-in-Merge-2.new.self.addresses (ap (λ n. n.addresses) c.pop-in-Merge-2.ensures ∙ ap (λ n. take n addresses) sized)

pub returns-in-Join : goal.returns-in-Join
returns-in-Join g c =
    let laws = (g.met.T.Mrdt g.world.𝓛 g.world.𝓜 g.world.𝓡 ((λ s x. x), (λ x. x), (λ x. x), λ x. x)).laws in
    let inside = c.self.inside in
    let made = c.in-Some.made in
    let rest = c.pop.new.self.items in
    let last = c.in-Some.ensures.items in
    let addresses = inside.nodes.addresses in
    let view = undone-view c.args.self.now inside.moves.items inside.terms addresses c.self.view_is rest made last in
    let sized = commit-count g.T.Mrdt.meaning laws inside.terms inside.moves.items inside.heads inside.nodes.graph inside.clocks.items inside.nodes.values c.self.invariant rest made last _ (join-made g.T.Mrdt.meaning laws inside.terms inside.moves.items inside.heads inside.nodes.graph inside.clocks.items inside.nodes.values c.self.invariant rest made last c.in-Join.branch c.in-Join.commits c.in-Join.is) in
    view c.pop-in-Join-2.new.self.addresses (ap (λ n. n.addresses) c.pop-in-Join-2.ensures ∙ ap (λ n. take n addresses) sized)

pub returns-in-Forward : goal.returns-in-Forward
returns-in-Forward g c =
    let laws = (g.met.T.Mrdt g.world.𝓛 g.world.𝓜 g.world.𝓡 ((λ s x. x), (λ x. x), (λ x. x), λ x. x)).laws in
    let inside = c.self.inside in
    let made = c.in-Some.made in
    let rest = c.pop.new.self.items in
    let last = c.in-Some.ensures.items in
    let addresses = inside.nodes.addresses in
    let view = undone-view c.args.self.now inside.moves.items inside.terms addresses c.self.view_is rest made last in
    let same = forward-same g.T.Mrdt.meaning laws inside.terms inside.moves.items inside.heads inside.nodes.graph inside.clocks.items inside.nodes.values c.self.invariant rest made last c.in-Forward.branch c.in-Forward.commit c.in-Forward.is in
    view addresses (undone-addresses g.T.Mrdt.meaning laws inside.terms inside.moves.items inside.heads inside.nodes.graph inside.clocks.items inside.nodes.values c.self.invariant rest made last same addresses c.count-count.ensures.addressed)

pub returns-in-Received : goal.returns-in-Received
returns-in-Received g c =
    let laws = (g.met.T.Mrdt g.world.𝓛 g.world.𝓜 g.world.𝓡 ((λ s x. x), (λ x. x), (λ x. x), λ x. x)).laws in
    let inside = c.self.inside in
    let made = c.in-Some.made in
    let rest = c.pop.new.self.items in
    let last = c.in-Some.ensures.items in
    let addresses = inside.nodes.addresses in
    let view = undone-view c.args.self.now inside.moves.items inside.terms addresses c.self.view_is rest made last in
    let sized = commit-count g.T.Mrdt.meaning laws inside.terms inside.moves.items inside.heads inside.nodes.graph inside.clocks.items inside.nodes.values c.self.invariant rest made last _ (received-made g.T.Mrdt.meaning laws inside.terms inside.moves.items inside.heads inside.nodes.graph inside.clocks.items inside.nodes.values c.self.invariant rest made last c.in-Received.parents c.in-Received.origin c.in-Received.clock c.in-Received.act c.in-Received.is) in
    view c.pop-in-Received-2.new.self.addresses (ap (λ n. n.addresses) c.pop-in-Received-2.ensures ∙ ap (λ n. take n addresses) sized)

pub returns-in-Place : goal.returns-in-Place
returns-in-Place g c =
    let laws = (g.met.T.Mrdt g.world.𝓛 g.world.𝓜 g.world.𝓡 ((λ s x. x), (λ x. x), (λ x. x), λ x. x)).laws in
    let inside = c.self.inside in
    let made = c.in-Some.made in
    let rest = c.pop.new.self.items in
    let last = c.in-Some.ensures.items in
    let addresses = inside.nodes.addresses in
    let view = undone-view c.args.self.now inside.moves.items inside.terms addresses c.self.view_is rest made last in
    let same = new-same g.T.Mrdt.meaning laws inside.terms inside.moves.items inside.heads inside.nodes.graph inside.clocks.items inside.nodes.values c.self.invariant rest made last _ _ (place-grown g.T.Mrdt.meaning laws inside.terms inside.moves.items inside.heads inside.nodes.graph inside.clocks.items inside.nodes.values c.self.invariant rest made last c.in-Place.name c.in-Place.number c.in-Place.commit c.in-Place.is) in
    view addresses (undone-addresses g.T.Mrdt.meaning laws inside.terms inside.moves.items inside.heads inside.nodes.graph inside.clocks.items inside.nodes.values c.self.invariant rest made last same addresses c.count-count.ensures.addressed)

pub returns : goal.returns
returns g c =
    let laws = (g.met.T.Mrdt g.world.𝓛 g.world.𝓜 g.world.𝓡 ((λ s x. x), (λ x. x), (λ x. x), λ x. x)).laws in
    let inside = c.self.inside in
    let made = c.in-Some.made in
    let rest = c.pop.new.self.items in
    let last = c.in-Some.ensures.items in
    let addresses = inside.nodes.addresses in
    let view = undone-view c.args.self.now inside.moves.items inside.terms addresses c.self.view_is rest made last in
    let same = drop-same g.T.Mrdt.meaning laws inside.terms inside.moves.items inside.heads inside.nodes.graph inside.clocks.items inside.nodes.values c.self.invariant rest made last c.in-Drop.branch c.in-Drop.is in
    view addresses (undone-addresses g.T.Mrdt.meaning laws inside.terms inside.moves.items inside.heads inside.nodes.graph inside.clocks.items inside.nodes.values c.self.invariant rest made last same addresses c.count-count.ensures.addressed)
