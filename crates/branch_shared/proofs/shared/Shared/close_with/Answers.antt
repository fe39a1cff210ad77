use Rattle.std.proofs.Common.{◌≡◌, ◌+◌, ◌++◌, length, ap, sym, subst, ◌∙◌, arith}
use mathlib.Core.List.{IsPrefix}
use Rattle.branch_history.specs.declared.moves.Move.{Move}
use Rattle.branch_machine.specs.Fixed.{fix}
use Rattle.branch_shared.specs.Crashes.{AreSure}
use Rattle.branch_shared.specs.Entries.{moments_of, moves_of}
use Rattle.branch_shared.specs.Passes.{PassView}
use Rattle.branch_shared.proofs.Behind.{all-within, prefix_behind, some-within}
use Rattle.branch_shared.proofs.Entries.{each-known, long-behind, prefix-moments, prefix-moves}
use Rattle.branch_shared.proofs.Surely.{sure-begins}
use Rattle.branch_shared.proofs.shared.Shared.close_with.Goals as goal

pub returns-clause-all : goal.returns-clause-all
returns-clause-all g c parts =
    let held : c.last.inside.pass.parts ≡ c.args.last.parts = ap (λ v. v.parts) c.last.view_is in
    let front : c.self.inside.front.parts ≡ g.N.Named.parts = ap (λ f. f.parts) c.self.invariant.0 in
    let all : c.close-receipts.result ≡ length c.core.inside.writer.moves = c.close-receipts.ensures.all (held ∙ (parts ∙ sym front)) in
    let history : length c.core.inside.core.history ≡ length g.N.Named.begun + length c.core.inside.writer.moves = long-behind g.N.Named.begun c.core.inside.writer.moves c.core.inside.core.history c.core.invariant.history_is in
    omega (arith, all, history, c.moves.ensures.moves, c.self.invariant.1)

pub returns-clause-allowed : goal.returns-clause-allowed
returns-clause-allowed g c = record {
  more = moves_of c.core.inside.writer.moves;
  is = sym c.core.invariant.history_is;
  all = c.core.invariant.allowed;
}

pub returns-clause-every : goal.returns-clause-every
returns-clause-every g c parts =
    let held : c.last.inside.pass.parts ≡ c.args.last.parts = ap (λ v. v.parts) c.last.view_is in
    let front : c.self.inside.front.parts ≡ g.N.Named.parts = ap (λ f. f.parts) c.self.invariant.0 in
    let begun : c.self.inside.front.begun ≡ length g.N.Named.begun = ap (λ f. f.begun) c.self.invariant.0 in
    let claims = ap (λ v. v.mine ++ v.others) c.last.view_is in
    let history = ap (λ n. n + length c.core.inside.writer.moves) begun ∙ sym (long-behind g.N.Named.begun c.core.inside.writer.moves c.core.inside.core.history c.core.invariant.history_is) in
    all-within _ _ _ _ _ _ begun claims history (c.close-receipts.ensures.every (held ∙ (parts ∙ sym front)))

pub returns-clause-claims : goal.returns-clause-claims
returns-clause-claims g c =
    let begun : c.self.inside.front.begun ≡ length g.N.Named.begun = ap (λ f. f.begun) c.self.invariant.0 in
    let claims = ap (λ v. v.mine ++ v.others) c.last.view_is in
    let history = ap (λ n. n + length c.core.inside.writer.moves) begun ∙ sym (long-behind g.N.Named.begun c.core.inside.writer.moves c.core.inside.core.history c.core.invariant.history_is) in
    some-within _ _ _ _ _ _ begun claims history c.close-receipts.ensures.claims

pub returns-clause-landed : goal.returns-clause-landed
returns-clause-landed g c =
    let history : length c.core.inside.core.history ≡ length g.N.Named.begun + length c.core.inside.writer.moves = long-behind g.N.Named.begun c.core.inside.writer.moves c.core.inside.core.history c.core.invariant.history_is in
    let begun : c.self.inside.begun ≡ length g.N.Named.begun = c.self.invariant.1 in
    let moves : c.moves.result ≡ length c.core.inside.core.history = c.moves.ensures.moves in
    omega arith

pub overflow_sub-landed : goal.overflow_sub-landed
overflow_sub-landed g c =
    let history : length c.core.inside.core.history ≡ length g.N.Named.begun + length c.core.inside.writer.moves = long-behind g.N.Named.begun c.core.inside.writer.moves c.core.inside.core.history c.core.invariant.history_is in
    let begun : c.self.inside.begun ≡ length g.N.Named.begun = c.self.invariant.1 in
    let moves : c.moves.result ≡ length c.core.inside.core.history = c.moves.ensures.moves in
    omega arith

pub returns-clause-history : goal.returns-clause-history
returns-clause-history g c =
    let begun = g.N.Named.begun in
    let seen = prefix_behind begun (moves_of c.last.inside.pass.moves) (moves_of c.core.inside.writer.moves) (prefix-moves c.last.inside.pass.moves c.core.inside.writer.moves c.close-receipts.ensures.seen) in
    subst (λ (p : PassView (Move _ _)). IsPrefix p.moves c.core.inside.core.history) c.last.view_is (subst (IsPrefix (begun ++ moves_of c.last.inside.pass.moves)) (sym c.core.invariant.history_is) seen)

pub returns-clause-begun : goal.returns-clause-begun
returns-clause-begun g c = (moves_of c.core.inside.writer.moves, sym c.core.invariant.history_is)

-- what the last pass has seen is a beginning of what lies under the lock, and so are its moments
pub returns-clause-sure : goal.returns-clause-sure
returns-clause-sure g c =
    let disk = g.D.Disk in
    let begun = g.N.Named.begun in
    let fixed = fix g.T.Mrdt.meaning g.N.Named.terms g.A.Address.address in
    let last = c.last.inside.pass.moves in
    let all = c.core.inside.writer.moves in
    let core = c.core.inside.core in
    let seen = prefix_behind begun (moves_of last) (moves_of all) (prefix-moves last all c.close-receipts.ensures.seen) in
    let sure = sure-begins disk fixed begun (begun ++ moves_of last) core.history (moments_of last) (moments_of all) core.disk (subst (IsPrefix (begun ++ moves_of last)) (sym c.core.invariant.history_is) seen) (prefix-moments last all c.close-receipts.ensures.seen)
    (each-known begun last) c.core.invariant.sure in
    subst (λ (p : PassView (Move _ _)). AreSure disk fixed begun p.moves p.sure core.disk) c.last.view_is sure
