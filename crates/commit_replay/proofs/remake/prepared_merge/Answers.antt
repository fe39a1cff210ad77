-- Where there is nothing to merge, or the merge is refused, the machine makes no move.
use Rattle.std.proofs.Common.{subst, ap}
use Rattle.branch_history.specs.History.{store_of}
use Rattle.branch_history.specs.Steps as machine
use Rattle.branch_names.specs.Heads.{head_of}
use Rattle.store_seen.specs.Pairs.{paired_at, IsStepOf, MergeRefusedAs}
use Rattle.recorded_history.specs.Views.{core_of}
use Rattle.commit_replay.proofs.Looked.{unmerged}
use Rattle.commit_replay.proofs.remake.prepared_merge.Goals as goal

pub returns-in-Ok-Same-clause-none : goal.returns-in-Ok-Same-clause-none
returns-in-Ok-Same-clause-none g c none =
    let r = c.args.recorded.now in
    let head = head_of (store_of r.terms.origin r.written).branches c.args.branch in
    let pair = paired_at (core_of r) c.in_ok-seen.seen c.args.commit in
    let step = subst (IsStepOf g.T.Mrdt.meaning pair) c.in-Ok-Same.field-0-is c.in-Ok-Same.ensures.step in
    unmerged g.T.Mrdt.meaning g.A.Address.address r.terms r.written c.args.branch head c.args.commit pair machine.Same
    (ap (λ s. record { history = r.written; terms = r.terms; branch = s.branch; head = s.head; other = c.args.commit }) c.in_ok-seen.ensures) step

pub returns-in-Err-ValueTooLarge-clause-none : goal.returns-in-Err-ValueTooLarge-clause-none
returns-in-Err-ValueTooLarge-clause-none g c none =
    let r = c.args.recorded.now in
    let head = head_of (store_of r.terms.origin r.written).branches c.args.branch in
    let pair = paired_at (core_of r) c.in_ok-seen.seen c.args.commit in
    let refused = subst (MergeRefusedAs g.T.Mrdt.meaning pair) c.in-Err-ValueTooLarge.field-0-is c.in-Err-ValueTooLarge.ensures.refused in
    unmerged g.T.Mrdt.meaning g.A.Address.address r.terms r.written c.args.branch head c.args.commit pair (machine.Refused (machine.ValueTooLarge c.in-Err-ValueTooLarge.field-0-0))
    (ap (λ s. record { history = r.written; terms = r.terms; branch = s.branch; head = s.head; other = c.args.commit }) c.in_ok-seen.ensures) refused
