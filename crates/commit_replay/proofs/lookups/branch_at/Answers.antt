-- The branch is there, and its head is a commit.
use Rattle.std.proofs.Common.{◌≡◌, ◌<◌, false, ◌++◌, length, Some, ◌∙◌, sym, subst}
use Rattle.branch_names.specs.Heads.{branch_named, is_dropped}
use Rattle.branch_history.specs.History.{store_of}
use Rattle.branch_machine.specs.Fixed.{fix}
use Rattle.commit_replay.proofs.Looked.{settled-moves, missing, head-found, head-there}
use Rattle.commit_replay.proofs.lookups.branch_at.Goals as goal

pub unreachable-requires : goal.unreachable-requires
unreachable-requires g c =
    let r = c.args.recorded.now in
    let same = settled-moves r.written r.pending c.requires.settled in
    let there = subst (λ ms. c.args.number < length (store_of r.terms.origin ms).branches) (sym same) c.requires.there.0 in
    missing (store_of r.terms.origin (r.written ++ r.pending)).branches c.args.number c.branch-found.result there c.branch-found.ensures.found c.in_None-found.is

pub returns-clause-named : goal.returns-clause-named
returns-clause-named g c =
    let r = c.args.recorded.now in
    let same = settled-moves r.written r.pending c.requires.settled in
    let here = subst (λ ms. is_dropped (store_of r.terms.origin ms).branches c.args.number ≡ false) (sym same) c.requires.there.1 in
    subst (λ ms. branch_named (store_of r.terms.origin ms).branches c.in_Some-found.found.0 ≡ Some c.args.number) same (c.in_Some-found.ensures.named here)

pub returns-clause-commit : goal.returns-clause-commit
returns-clause-commit g c =
    let r = c.args.recorded.now in
    let fixed = fix g.T.Mrdt.meaning r.terms g.A.Address.address in
    let all = r.written ++ r.pending in
    let same = settled-moves r.written r.pending c.requires.settled in
    let there = subst (λ ms. c.args.number < length (store_of r.terms.origin ms).branches) (sym same) c.requires.there.0 in
    let laws = (g.met.T.Mrdt g.world.𝓛 g.world.𝓜 g.world.𝓡 ((λ s x. x), (λ x. x), (λ x. x), λ x. x)).laws in
    let head = head-found (store_of r.terms.origin all).branches c.args.number c.in_Some-found.found (sym c.in_Some-found.is ∙ c.branch-found.ensures.found) in
    subst (λ ms. c.in_Some-found.found.1 < length (store_of r.terms.origin ms).commits) same
    (subst (λ h. h < length (store_of r.terms.origin all).commits) (sym head) (head-there fixed laws all c.moves-moves.ensures.valid c.args.number there))
