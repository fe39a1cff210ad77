-- Where there is nothing to join, or the join is refused, the machine makes no move.
use Rattle.std.proofs.Common.{◌∙◌, subst, ap}
use Rattle.branch_history.specs.History.{store_of}
use Rattle.branch_history.specs.Steps as machine
use Rattle.branch_names.specs.Heads.{head_of}
use Rattle.store_seen.specs.Groups.{grouped_at, IsStepOfAll, MergeAllRefusedAs}
use Rattle.recorded_history.specs.Views.{core_of}
use Rattle.commit_replay.proofs.Looked.{unjoined}
use Rattle.commit_replay.proofs.remake.prepared_join.Goals as goal

pub returns-in-Ok-Same-clause-none : goal.returns-in-Ok-Same-clause-none
returns-in-Ok-Same-clause-none g c none =
    let r = c.args.recorded.now in
    let head = head_of (store_of r.terms.origin r.written).branches c.args.branch in
    let group = grouped_at (core_of r) c.in_ok-seen.seen c.as_slice.result.now in
    let step = subst (IsStepOfAll g.T.Mrdt.meaning group) c.in-Ok-Same.field-0-is c.in-Ok-Same.ensures.step in
    unjoined g.T.Mrdt.meaning g.A.Address.address r.terms r.written c.args.branch head c.args.commits.now group machine.Same
    (ap (λ s. record { history = r.written; terms = r.terms; branch = s.branch; head = s.head; others = c.as_slice.result.now }) c.in_ok-seen.ensures
    ∙ ap (λ ns. record { history = r.written; terms = r.terms; branch = c.args.branch; head = head; others = ns }) c.as_slice.ensures.same) step

pub returns-in-Err-ValueTooLarge-clause-none : goal.returns-in-Err-ValueTooLarge-clause-none
returns-in-Err-ValueTooLarge-clause-none g c none =
    let r = c.args.recorded.now in
    let head = head_of (store_of r.terms.origin r.written).branches c.args.branch in
    let group = grouped_at (core_of r) c.in_ok-seen.seen c.as_slice.result.now in
    let refused = subst (MergeAllRefusedAs g.T.Mrdt.meaning group) c.in-Err-ValueTooLarge.field-0-is c.in-Err-ValueTooLarge.ensures.refused in
    unjoined g.T.Mrdt.meaning g.A.Address.address r.terms r.written c.args.branch head c.args.commits.now group (machine.Refused (machine.ValueTooLarge c.in-Err-ValueTooLarge.field-0-0))
    (ap (λ s. record { history = r.written; terms = r.terms; branch = s.branch; head = s.head; others = c.as_slice.result.now }) c.in_ok-seen.ensures
    ∙ ap (λ ns. record { history = r.written; terms = r.terms; branch = c.args.branch; head = head; others = ns }) c.as_slice.ensures.same) refused
