-- The branch is new, there is room, and the move is the machine's.
use Rattle.std.proofs.Common.{◌≡◌, ◌<◌, ◌∷◌, [], ◌++◌, length, append-nil, Err, None, ap, sym, ◌∙◌, subst, arith}
use Rattle.branch_names.specs.Heads.{branch_named}
use Rattle.branch_history.specs.declared.moves.Move.TheVariants as move
use Rattle.branch_history.specs.History.{store_of}
use Rattle.branch_history.specs.Validity.{IsMove}
use Rattle.store_seen.proofs.Backs.{stood-before, goes-back}
use Rattle.store_seen.proofs.Cores.{gone-on, core-named, core-branches, fork-core}
use Rattle.store_seen.proofs.versions.Versions.add_branch.Goals as goal

pub unreachable-requires : goal.unreachable-requires
unreachable-requires g c =
    let laws = (g.met.T.Mrdt g.world.𝓛 g.world.𝓜 g.world.𝓡 ((λ s x. x), (λ x. x), (λ x. x), λ x. x)).laws in
    let taken = (c.in-Err-Taken.ensures.taken c.in-Err-Taken.field-0-0).0 (ap Err c.in-Err-Taken.field-0-is) in
    let free : branch_named (store_of c.self.inside.terms.origin c.self.inside.moves.items).branches c.args.new ≡ None = ap (λ v. branch_named (store_of v.core.terms.origin v.core.history).branches c.args.new) c.self.view_is ∙ c.requires.free in
    let named = core-named g.T.Mrdt.meaning laws c.self.inside.terms c.self.inside.moves.items c.self.inside.heads c.self.inside.nodes.graph c.self.inside.clocks.items c.self.inside.nodes.values c.self.invariant c.args.new in
    cc

pub unreachable-requires-in-Err-Full : goal.unreachable-requires-in-Err-Full
unreachable-requires-in-Err-Full g c =
    let laws = (g.met.T.Mrdt g.world.𝓛 g.world.𝓜 g.world.𝓡 ((λ s x. x), (λ x. x), (λ x. x), λ x. x)).laws in
    let n = c.in-Err-Full.field-0-0 in
    let full = (c.in-Err-Full.ensures.full n).0 (ap Err c.in-Err-Full.field-0-is) in
    let le = full.1 in
    let count = full.2 in
    let limit : c.self.inside.heads.limit ≡ c.self.inside.terms.limits.branches = ap (λ t. t.limit) c.self.invariant.heads in
    let branches = core-branches g.T.Mrdt.meaning laws c.self.inside.terms c.self.inside.moves.items c.self.inside.heads c.self.inside.nodes.graph c.self.inside.clocks.items c.self.inside.nodes.values c.self.invariant in
    let room : length (store_of c.self.inside.terms.origin c.self.inside.moves.items).branches < c.self.inside.terms.limits.branches = subst (λ v. length (store_of v.core.terms.origin v.core.history).branches < v.core.terms.limits.branches) (sym c.self.view_is) c.requires.room in
    omega arith

pub invariant_of-self-2 : goal.invariant_of-self-2
invariant_of-self-2 g c =
    let laws = (g.met.T.Mrdt g.world.𝓛 g.world.𝓜 g.world.𝓡 ((λ s x. x), (λ x. x), (λ x. x), λ x. x)).laws in
    let moves = subst (λ v. IsMove g.T.Mrdt.meaning v.core.terms v.core.history (move.Fork c.args.new (length (store_of v.core.terms.origin v.core.history).branches) c.args.source)) (sym c.self.view_is) c.requires.moves in
    let made = c.push_reserved.ensures.items ∙ ap (λ l. l ++ move.Fork c.args.new c.in-Ok.number c.args.source ∷ []) c.in_ok-reserve.ensures.items in
    fork-core g.T.Mrdt.meaning laws c.self.inside.terms c.self.inside.moves.items c.self.inside.heads c.self.inside.nodes.graph c.self.inside.clocks.items c.self.inside.nodes.values c.self.invariant c.push_reserved.new.self.items c.fork.new.self c.args.new c.in-Ok.number c.args.source c.head-head.result moves c.in-Ok.ensures.number c.head-head.ensures made c.in-Ok.ensures.added

pub returns-clause-before : goal.returns-clause-before
returns-clause-before g c = λ head.
    let made = c.push_reserved.ensures.items ∙ ap (λ l. l ++ move.Fork c.args.new c.in-Ok.number c.args.source ∷ []) c.in_ok-reserve.ensures.items in
    let grown = gone-on c.args.self.now.core c.self.inside.moves.items c.push_reserved.new.self.items c.self.inside.terms (move.Fork c.args.new c.in-Ok.number c.args.source) (ap (λ v. v.core) c.self.view_is) made in
    stood-before c.args.self.now.core _ (move.Fork c.args.new c.in-Ok.number c.args.source) head grown tt

pub returns-clause-back : goal.returns-clause-back
returns-clause-back g c =
    let made = c.push_reserved.ensures.items ∙ ap (λ l. l ++ move.Fork c.args.new c.in-Ok.number c.args.source ∷ []) c.in_ok-reserve.ensures.items in
    let grown = gone-on c.args.self.now.core c.self.inside.moves.items c.push_reserved.new.self.items c.self.inside.terms (move.Fork c.args.new c.in-Ok.number c.args.source) (ap (λ v. v.core) c.self.view_is) made in
    goes-back c.args.self.now _ (move.Fork c.args.new c.in-Ok.number c.args.source) [] grown (ap (λ v. v.addresses) c.self.view_is ∙ sym (append-nil c.args.self.now.addresses)) c.commits-count.ensures.addressed
