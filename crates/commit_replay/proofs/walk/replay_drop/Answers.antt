-- A branch that may be dropped is.
use Rattle.std.proofs.Common.{◌≡◌, ℕ, ◌+◌, [], length, sym, arith, subst}
use Rattle.branch_history.specs.History.{store_of}
use Rattle.branch_history.specs.Steps as machine
use Rattle.branch_names.specs.Heads.{head_of}
use Rattle.heads_journal.specs.declared.record.Record.{Record}
use Rattle.branch_machine.specs.Fixed.{fix}
use Rattle.branch_machine.specs.Objects.{end_of}
use Rattle.branch_machine.specs.Validity.{IsFullyValid}
use Rattle.branch_files.specs.Next.{end_at, MakesCommit}
use Rattle.commit_replay.specs.Walk.{Remade}
use Rattle.commit_replay.proofs.Looked.{settled-moves}
use Rattle.commit_replay.proofs.Steps.{drop-remade, no-bytes}
use Rattle.commit_replay.proofs.walk.replay_drop.Goals as goal

pub unreachable-requires : goal.unreachable-requires
unreachable-requires g c =
    let r = c.args.recorded.now in
    let next = c.args.next.now in
    let fixed = fix g.T.Mrdt.meaning r.terms g.A.Address.address in
    let laws = (g.met.T.Mrdt g.world.𝓛 g.world.𝓜 g.world.𝓡 ((λ s x. x), (λ x. x), (λ x. x), λ x. x)).laws in
    let valid = subst (IsFullyValid fixed) (settled-moves r.written r.pending c.requires.settled) c.moves-moves.ensures.valid in
    let is = c.requires.is.1 in
    let end = no-bytes fixed r.written next (subst (λ (q : Record). MakesCommit q → ⊥) (sym is) (λ none. none)) c.requires.may.suits in
    let long : end_of fixed r.written + length {A = ℕ} [] ≡ end_at next = omega (arith, end) in
    let head : ℕ = head_of (store_of r.terms.origin r.written).branches c.args.branch in
    let not = subst (Remade fixed r c.drop_branch.new.recorded (machine.Drop c.args.branch head) next []) c.if-branch.false c.in_ok-drop_branch.ensures in
    not.1 (drop-remade fixed r.written next [] laws g.met.A.Address.size valid c.requires.known c.requires.fits c.requires.may long c.args.branch c.requires.is.0 is)
