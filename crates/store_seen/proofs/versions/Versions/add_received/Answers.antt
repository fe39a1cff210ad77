-- What the move adds is there, and nothing fails once there is memory.
use Rattle.std.proofs.Common.{◌≡◌, ◌<◌, ◌∷◌, [], ◌++◌, ℕ, length, All, ap, sym, ◌∙◌, subst}
use Rattle.std.specs.Prelude.{IfSome, None}
use Rattle.branch_history.specs.declared.moves.Move.TheVariants as move
use Rattle.branch_history.specs.History.{store_of}
use Rattle.store_seen.specs.Nodes.{AddsReceived}
use Rattle.store_seen.specs.Times.{received_at, count_of}
use Rattle.store_seen.proofs.Backs.{stood-before}
use Rattle.store_seen.proofs.Cores.{core-count, gone-on}
use Rattle.store_seen.proofs.Gains.{received-core, received-room}
use Rattle.store_seen.proofs.Times.{counts-commits, time-new}
use Rattle.store_seen.proofs.versions.Versions.add_received.Goals as goal

pub push-requires-clause-below : goal.push-requires-clause-below
push-requires-clause-below g c κs within =
    let laws = (g.met.T.Mrdt g.world.𝓛 g.world.𝓜 g.world.𝓡 ((λ s x. x), (λ x. x), (λ x. x), λ x. x)).laws in
    let inside = c.self.inside in
    let m = g.T.Mrdt.meaning in
    let adds = subst (λ v. AddsReceived m v.core.terms v.core.history c.args.parents c.args.origin c.args.clock c.args.act c.args.value) (sym c.self.view_is) c.requires in
    let size = core-count m laws inside.terms inside.moves.items inside.heads inside.nodes.graph inside.clocks.items inside.nodes.values c.self.invariant in
    subst (λ l. All (λ p. p < length inside.nodes.graph.commits) l) (sym c.as_slice.ensures) (subst (λ k. All (λ p. p < k) c.args.parents) (sym size) adds.below)

pub push-requires-clause-room : goal.push-requires-clause-room
push-requires-clause-room g c κs within =
    let laws = (g.met.T.Mrdt g.world.𝓛 g.world.𝓜 g.world.𝓡 ((λ s x. x), (λ x. x), (λ x. x), λ x. x)).laws in
    let inside = c.self.inside in
    let m = g.T.Mrdt.meaning in
    let adds = subst (λ v. AddsReceived m v.core.terms v.core.history c.args.parents c.args.origin c.args.clock c.args.act c.args.value) (sym c.self.view_is) c.requires in
    let size = core-count m laws inside.terms inside.moves.items inside.heads inside.nodes.graph inside.clocks.items inside.nodes.values c.self.invariant in
    let room = received-room m inside.terms inside.moves.items c.args.parents c.args.origin c.args.clock c.args.act adds.moves in
    subst (λ (k : ℕ). k < inside.nodes.graph.limit) (sym size) (subst (λ (k : ℕ). length (store_of inside.terms.origin inside.moves.items).commits < k) (sym (ap (λ n. n.limit) c.self.invariant.parents)) room)

pub push_received-requires-clause-number : goal.push_received-requires-clause-number
push_received-requires-clause-number g c =
    let laws = (g.met.T.Mrdt g.world.𝓛 g.world.𝓜 g.world.𝓡 ((λ s x. x), (λ x. x), (λ x. x), λ x. x)).laws in
    let inside = c.self.inside in
    let m = g.T.Mrdt.meaning in
    let size = core-count m laws inside.terms inside.moves.items inside.heads inside.nodes.graph inside.clocks.items inside.nodes.values c.self.invariant in
    c.in_ok-commit.ensures.number ∙ size ∙ counts-commits inside.terms.origin inside.moves.items ∙ ap count_of (sym c.in_ok-reserve_received.ensures.items)

pub push_received-requires-clause-new : goal.push_received-requires-clause-new
push_received-requires-clause-new g c =
    let laws = (g.met.T.Mrdt g.world.𝓛 g.world.𝓜 g.world.𝓡 ((λ s x. x), (λ x. x), (λ x. x), λ x. x)).laws in
    let inside = c.self.inside in
    let m = g.T.Mrdt.meaning in
    let adds = subst (λ v. AddsReceived m v.core.terms v.core.history c.args.parents c.args.origin c.args.clock c.args.act c.args.value) (sym c.self.view_is) c.requires in
    subst (λ l. IfSome c.args.act (λ d. received_at l (c.args.clock, c.args.origin) ≡ None)) (sym c.in_ok-reserve_received.ensures.items)
    (time-new m laws inside.terms inside.moves.items c.self.invariant.valid c.args.parents c.args.origin c.args.clock c.args.act adds.moves)

pub invariant_of-self-2 : goal.invariant_of-self-2
invariant_of-self-2 g c =
    let laws = (g.met.T.Mrdt g.world.𝓛 g.world.𝓜 g.world.𝓡 ((λ s x. x), (λ x. x), (λ x. x), λ x. x)).laws in
    let inside = c.self.inside in
    let m = g.T.Mrdt.meaning in
    let adds = subst (λ v. AddsReceived m v.core.terms v.core.history c.args.parents c.args.origin c.args.clock c.args.act c.args.value) (sym c.self.view_is) c.requires in
    let made = c.push_received.ensures.items ∙ ap (λ l. l ++ move.Received c.args.parents c.args.origin c.args.clock c.args.act ∷ []) c.in_ok-reserve_received.ensures.items in
    let clocks = c.push_reserved.ensures.items ∙ ap (λ l. l ++ c.args.clock ∷ []) c.in_ok-reserve.ensures.items in
    let pushed = c.in_ok-commit.ensures.pushed in
    let graph = ap (λ n. n.graph) pushed ∙ ap (λ l. record inside.nodes.graph { commits = inside.nodes.graph.commits ++ l ∷ [] }) c.as_slice.ensures in
    received-core m laws inside.terms inside.moves.items inside.heads inside.nodes.graph inside.clocks.items inside.nodes.values c.self.invariant c.args.parents c.args.origin c.args.clock c.args.act c.args.value adds c.push_received.new.self.items made c.push.new.self.graph graph c.push_reserved.new.self.items clocks c.push.new.self.values (ap (λ n. n.values) pushed)

pub returns-clause-added : goal.returns-clause-added
returns-clause-added g c =
    let m = move.Received c.args.parents c.args.origin c.args.clock c.args.act in
    let made = c.push_received.ensures.items ∙ ap (λ l. l ++ m ∷ []) c.in_ok-reserve_received.ensures.items in
    gone-on c.args.self.now.core c.self.inside.moves.items c.push_received.new.self.items c.self.inside.terms m (ap (λ v. v.core) c.self.view_is) made

pub returns-clause-before : goal.returns-clause-before
returns-clause-before g c = λ head. stood-before c.args.self.now.core _ (move.Received c.args.parents c.args.origin c.args.clock c.args.act) head (returns-clause-added g c) tt
