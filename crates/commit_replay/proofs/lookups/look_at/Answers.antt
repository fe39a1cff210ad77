-- The branch that was found has the name.
use Rattle.std.proofs.Common.{◌≡◌, ◌∙◌, sym, subst, Some, None}
use Rattle.store_seen.specs.Turns.{LookRefusedAs}
use Rattle.recorded_history.specs.Views.{core_of}
use Rattle.commit_replay.proofs.Looked.{look-unseen, looks-at}
use Rattle.commit_replay.proofs.lookups.look_at.Goals as goal

pub unreachable-requires : goal.unreachable-requires
unreachable-requires g c =
    let r = c.args.recorded.now in
    let name = c.branch_at-name.result.0 in
    let refused = subst (LookRefusedAs g.T.Mrdt.meaning (core_of r) name) c.in-Err-UnknownBranch.field-0-is c.in-Err-UnknownBranch.ensures.refused in
    let none = look-unseen g.T.Mrdt.meaning r.terms r.written name name refused.1 in
    let e : Some c.args.branch ≡ None = sym c.branch_at-name.ensures.named ∙ none in
    cc e

pub returns-in-Ok : goal.returns-in-Ok
returns-in-Ok g c =
    let r = c.args.recorded.now in
    let on = c.in-Ok.ensures.on in
    looks-at g.T.Mrdt.meaning r.terms r.written c.branch_at-name.result.0 c.args.branch c.in-Ok.seen c.branch_at-name.ensures.named on.0 on.1 c.in-Ok.ensures.sees
