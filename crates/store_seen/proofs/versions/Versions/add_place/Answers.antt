-- The branch is new, there is room, and the move is the machine's.
use Rattle.std.proofs.Common.{◌≡◌, ◌<◌, ◌∷◌, [], ◌++◌, length, append-nil, Err, None, ap, sym, ◌∙◌, subst, arith}
use Rattle.branch_names.specs.Heads.{branch_named}
use Rattle.branch_history.specs.declared.moves.Move.TheVariants as move
use Rattle.branch_history.specs.History.{store_of}
use Rattle.branch_history.specs.Validity.{IsMove}
use Rattle.store_seen.proofs.Backs.{goes-back}
use Rattle.store_seen.proofs.Cores.{gone-on, core-named, core-branches}
use Rattle.store_seen.proofs.Placed.{place-core}
use Rattle.store_seen.proofs.versions.Versions.add_place.Goals as goal

pub unreachable-requires : goal.unreachable-requires
unreachable-requires g c =
    let laws = (g.met.T.Mrdt g.world.𝓛 g.world.𝓜 g.world.𝓡 ((λ s x. x), (λ x. x), (λ x. x), λ x. x)).laws in
    let taken = (c.in-Err-Taken.ensures.taken c.in-Err-Taken.field-0-0).0 (ap Err c.in-Err-Taken.field-0-is) in
    let free : branch_named (store_of c.self.inside.terms.origin c.self.inside.moves.items).branches c.args.name ≡ None = ap (λ v. branch_named (store_of v.core.terms.origin v.core.history).branches c.args.name) c.self.view_is ∙ c.requires.free in
    let named = core-named g.T.Mrdt.meaning laws c.self.inside.terms c.self.inside.moves.items c.self.inside.heads c.self.inside.nodes.graph c.self.inside.clocks.items c.self.inside.nodes.values c.self.invariant c.args.name in
    cc

pub unreachable-requires-in-Err-Full : goal.unreachable-requires-in-Err-Full
unreachable-requires-in-Err-Full g c =
    let laws = (g.met.T.Mrdt g.world.𝓛 g.world.𝓜 g.world.𝓡 ((λ s x. x), (λ x. x), (λ x. x), λ x. x)).laws in
    let n = c.in-Err-Full.field-0-0 in
    let full = (c.in-Err-Full.ensures.full n).0 (ap Err c.in-Err-Full.field-0-is) in
    let le = full.1 in
    let count = full.2 in
    let limit : c.self.inside.heads.limit ≡ c.self.inside.terms.limits.branches = ap (λ t. t.limit) c.self.invariant.heads in
    let branches = core-branches g.T.Mrdt.meaning laws c.self.inside.terms c.self.inside.moves.items c.self.inside.heads c.self.inside.nodes.graph c.self.inside.clocks.items c.self.inside.nodes.values c.self.invariant in
    let room : length (store_of c.self.inside.terms.origin c.self.inside.moves.items).branches < c.self.inside.terms.limits.branches = subst (λ v. length (store_of v.core.terms.origin v.core.history).branches < v.core.terms.limits.branches) (sym c.self.view_is) c.requires.room in
    omega arith

pub invariant_of-self-2 : goal.invariant_of-self-2
invariant_of-self-2 g c =
    let laws = (g.met.T.Mrdt g.world.𝓛 g.world.𝓜 g.world.𝓡 ((λ s x. x), (λ x. x), (λ x. x), λ x. x)).laws in
    let moves = subst (λ v. IsMove g.T.Mrdt.meaning v.core.terms v.core.history (move.Place c.args.name (length (store_of v.core.terms.origin v.core.history).branches) c.args.commit)) (sym c.self.view_is) c.requires.moves in
    let made = c.push_reserved.ensures.items ∙ ap (λ l. l ++ move.Place c.args.name c.in-Ok.number c.args.commit ∷ []) c.in_ok-reserve.ensures.items in
    place-core g.T.Mrdt.meaning laws c.self.inside.terms c.self.inside.moves.items c.self.inside.heads c.self.inside.nodes.graph c.self.inside.clocks.items c.self.inside.nodes.values c.self.invariant c.push_reserved.new.self.items c.fork.new.self c.args.name c.in-Ok.number c.args.commit moves c.in-Ok.ensures.number made c.in-Ok.ensures.added

pub returns-clause-back : goal.returns-clause-back
returns-clause-back g c =
    let made = c.push_reserved.ensures.items ∙ ap (λ l. l ++ move.Place c.args.name c.in-Ok.number c.args.commit ∷ []) c.in_ok-reserve.ensures.items in
    let grown = gone-on c.args.self.now.core c.self.inside.moves.items c.push_reserved.new.self.items c.self.inside.terms (move.Place c.args.name c.in-Ok.number c.args.commit) (ap (λ v. v.core) c.self.view_is) made in
    goes-back c.args.self.now _ (move.Place c.args.name c.in-Ok.number c.args.commit) [] grown (ap (λ v. v.addresses) c.self.view_is ∙ sym (append-nil c.args.self.now.addresses)) c.commits-count.ensures.addressed
