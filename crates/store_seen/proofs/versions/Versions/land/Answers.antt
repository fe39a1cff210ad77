-- What was ready at the look is ready now, and the machine refuses what the calls refuse.
use Rattle.std.proofs.Common.{ap, sym, ◌∙◌, subst, ℕ, OnOk, IfErr}
use mathlib.Core.List.{IsPrefix}
use Rattle.branch_history.specs.Validity.{IsValid}
use Rattle.store_seen.specs.Keeps.{IsReady, work_of}
use Rattle.store_seen.specs.Turns.{LandRefusedAs, StoodBefore}
use Rattle.store_seen.proofs.Landable.{only-memory}
use Rattle.store_seen.proofs.Readies.{branch-there, operation-ready, merge-ready, join-ready, forward-ready, operation-refused, merge-is_refused, join-is_refused, forward-is_refused}
use Rattle.store_seen.proofs.versions.Versions.land.Goals as goal

pub land_operation-requires-clause-there : goal.land_operation-requires-clause-there
land_operation-requires-clause-there g c κs within =
    let laws = (g.met.T.Mrdt g.world.𝓛 g.world.𝓜 g.world.𝓡 ((λ s x. x), (λ x. x), (λ x. x), λ x. x)).laws in
    let seen = c.prepared.inside.seen.value in
    let core = c.args.self.now.core in
    let is = c.prepared.invariant in
    let prefix = subst (λ p. IsPrefix p.seen.history core.history) (sym c.prepared.view_is) c.requires.history in
    let terms = ap (λ p. p.seen.terms) c.prepared.view_is ∙ c.requires.terms in
    branch-there g.T.Mrdt.meaning laws seen is.look core prefix terms c.prepared.inside.branch c.prepared.inside.head is.at_branch is.newest

pub land_operation-requires-clause-ready : goal.land_operation-requires-clause-ready
land_operation-requires-clause-ready g c κs within =
    let laws = (g.met.T.Mrdt g.world.𝓛 g.world.𝓜 g.world.𝓡 ((λ s x. x), (λ x. x), (λ x. x), λ x. x)).laws in
    let seen = c.prepared.inside.seen.value in
    let core = c.args.self.now.core in
    let is = c.prepared.invariant in
    let prefix = subst (λ p. IsPrefix p.seen.history core.history) (sym c.prepared.view_is) c.requires.history in
    let terms = ap (λ p. p.seen.terms) c.prepared.view_is ∙ c.requires.terms in
    let ready = (subst (λ r. IsReady g.T.Mrdt.meaning seen r) c.in-Operation.is is.ready).0 in
    operation-ready g.T.Mrdt.meaning laws seen is.look core prefix terms c.prepared.inside.branch c.prepared.inside.head is.at_branch is.newest c.in-Operation.time c.in-Operation.value c.in-Operation.op c.in-Operation.reply ready

pub returns-in-Operation-clause-refused : goal.returns-in-Operation-clause-refused
returns-in-Operation-clause-refused g c =
    let laws = (g.met.T.Mrdt g.world.𝓛 g.world.𝓜 g.world.𝓡 ((λ s x. x), (λ x. x), (λ x. x), λ x. x)).laws in
    let seen = c.prepared.inside.seen.value in
    let core = c.args.self.now.core in
    let is = c.prepared.invariant in
    let prefix = subst (λ p. IsPrefix p.seen.history core.history) (sym c.prepared.view_is) c.requires.history in
    let terms = ap (λ p. p.seen.terms) c.prepared.view_is ∙ c.requires.terms in
    let ready = (subst (λ r. IsReady g.T.Mrdt.meaning seen r) c.in-Operation.is is.ready).0 in
    let valid = (subst (λ v. IsValid g.T.Mrdt.meaning v.core.terms v.core.history) c.self.view_is c.self.invariant.valid) in
    let same = ap (λ r. record { seen = seen; work = work_of r }) (sym c.in-Operation.is) ∙ c.prepared.view_is in
    subst (λ p. IfErr c.land_operation.result (LandRefusedAs g.T.Mrdt.meaning p core)) same
    (operation-refused g.T.Mrdt.meaning laws seen is.look core prefix terms c.prepared.inside.branch c.prepared.inside.head is.at_branch is.newest valid c.land_operation.result c.in-Operation.time c.in-Operation.value c.in-Operation.op c.in-Operation.reply ready c.land_operation.ensures.refused)

pub land_merge-requires-clause-there : goal.land_merge-requires-clause-there
land_merge-requires-clause-there g c κs within =
    let laws = (g.met.T.Mrdt g.world.𝓛 g.world.𝓜 g.world.𝓡 ((λ s x. x), (λ x. x), (λ x. x), λ x. x)).laws in
    let seen = c.prepared.inside.seen.value in
    let core = c.args.self.now.core in
    let is = c.prepared.invariant in
    let prefix = subst (λ p. IsPrefix p.seen.history core.history) (sym c.prepared.view_is) c.requires.history in
    let terms = ap (λ p. p.seen.terms) c.prepared.view_is ∙ c.requires.terms in
    branch-there g.T.Mrdt.meaning laws seen is.look core prefix terms c.prepared.inside.branch c.prepared.inside.head is.at_branch is.newest

pub land_merge-requires-clause-ready : goal.land_merge-requires-clause-ready
land_merge-requires-clause-ready g c κs within =
    let laws = (g.met.T.Mrdt g.world.𝓛 g.world.𝓜 g.world.𝓡 ((λ s x. x), (λ x. x), (λ x. x), λ x. x)).laws in
    let seen = c.prepared.inside.seen.value in
    let core = c.args.self.now.core in
    let is = c.prepared.invariant in
    let prefix = subst (λ p. IsPrefix p.seen.history core.history) (sym c.prepared.view_is) c.requires.history in
    let terms = ap (λ p. p.seen.terms) c.prepared.view_is ∙ c.requires.terms in
    let ready = (subst (λ r. IsReady g.T.Mrdt.meaning seen r) c.in-Merge.is is.ready).0 in
    merge-ready g.T.Mrdt.meaning laws seen is.look core prefix terms c.prepared.inside.branch c.prepared.inside.head is.at_branch is.newest c.in-Merge.commit c.in-Merge.clock c.in-Merge.value ready

pub returns-in-Merge-clause-refused : goal.returns-in-Merge-clause-refused
returns-in-Merge-clause-refused g c =
    let laws = (g.met.T.Mrdt g.world.𝓛 g.world.𝓜 g.world.𝓡 ((λ s x. x), (λ x. x), (λ x. x), λ x. x)).laws in
    let seen = c.prepared.inside.seen.value in
    let core = c.args.self.now.core in
    let is = c.prepared.invariant in
    let prefix = subst (λ p. IsPrefix p.seen.history core.history) (sym c.prepared.view_is) c.requires.history in
    let terms = ap (λ p. p.seen.terms) c.prepared.view_is ∙ c.requires.terms in
    let ready = (subst (λ r. IsReady g.T.Mrdt.meaning seen r) c.in-Merge.is is.ready).0 in
    let valid = (subst (λ v. IsValid g.T.Mrdt.meaning v.core.terms v.core.history) c.self.view_is c.self.invariant.valid) in
    let same = ap (λ r. record { seen = seen; work = work_of r }) (sym c.in-Merge.is) ∙ c.prepared.view_is in
    subst (λ p. IfErr c.land_merge.result (LandRefusedAs g.T.Mrdt.meaning p core)) same
    (merge-is_refused g.T.Mrdt.meaning laws seen is.look core prefix terms c.prepared.inside.branch c.prepared.inside.head is.at_branch is.newest valid c.land_merge.result c.in-Merge.commit c.in-Merge.clock c.in-Merge.value ready c.land_merge.ensures.refused)

pub land_join-requires-clause-there : goal.land_join-requires-clause-there
land_join-requires-clause-there g c κs within =
    let laws = (g.met.T.Mrdt g.world.𝓛 g.world.𝓜 g.world.𝓡 ((λ s x. x), (λ x. x), (λ x. x), λ x. x)).laws in
    let seen = c.prepared.inside.seen.value in
    let core = c.args.self.now.core in
    let is = c.prepared.invariant in
    let prefix = subst (λ p. IsPrefix p.seen.history core.history) (sym c.prepared.view_is) c.requires.history in
    let terms = ap (λ p. p.seen.terms) c.prepared.view_is ∙ c.requires.terms in
    branch-there g.T.Mrdt.meaning laws seen is.look core prefix terms c.prepared.inside.branch c.prepared.inside.head is.at_branch is.newest

pub land_join-requires-clause-ready : goal.land_join-requires-clause-ready
land_join-requires-clause-ready g c κs within =
    let laws = (g.met.T.Mrdt g.world.𝓛 g.world.𝓜 g.world.𝓡 ((λ s x. x), (λ x. x), (λ x. x), λ x. x)).laws in
    let seen = c.prepared.inside.seen.value in
    let core = c.args.self.now.core in
    let is = c.prepared.invariant in
    let prefix = subst (λ p. IsPrefix p.seen.history core.history) (sym c.prepared.view_is) c.requires.history in
    let terms = ap (λ p. p.seen.terms) c.prepared.view_is ∙ c.requires.terms in
    let ready = (subst (λ r. IsReady g.T.Mrdt.meaning seen r) c.in-Join.is is.ready).0 in
    join-ready g.T.Mrdt.meaning laws seen is.look core prefix terms c.prepared.inside.branch c.prepared.inside.head is.at_branch is.newest c.in-Join.commits c.in-Join.clock c.in-Join.value ready

pub returns-in-Join-clause-refused : goal.returns-in-Join-clause-refused
returns-in-Join-clause-refused g c =
    let laws = (g.met.T.Mrdt g.world.𝓛 g.world.𝓜 g.world.𝓡 ((λ s x. x), (λ x. x), (λ x. x), λ x. x)).laws in
    let seen = c.prepared.inside.seen.value in
    let core = c.args.self.now.core in
    let is = c.prepared.invariant in
    let prefix = subst (λ p. IsPrefix p.seen.history core.history) (sym c.prepared.view_is) c.requires.history in
    let terms = ap (λ p. p.seen.terms) c.prepared.view_is ∙ c.requires.terms in
    let ready = (subst (λ r. IsReady g.T.Mrdt.meaning seen r) c.in-Join.is is.ready).0 in
    let valid = (subst (λ v. IsValid g.T.Mrdt.meaning v.core.terms v.core.history) c.self.view_is c.self.invariant.valid) in
    let same = ap (λ r. record { seen = seen; work = work_of r }) (sym c.in-Join.is) ∙ c.prepared.view_is in
    subst (λ p. IfErr c.land_join.result (LandRefusedAs g.T.Mrdt.meaning p core)) same
    (join-is_refused g.T.Mrdt.meaning laws seen is.look core prefix terms c.prepared.inside.branch c.prepared.inside.head is.at_branch is.newest valid c.land_join.result c.in-Join.commits c.in-Join.clock c.in-Join.value ready c.land_join.ensures.refused)

pub land_forward-requires-clause-there : goal.land_forward-requires-clause-there
land_forward-requires-clause-there g c κs within =
    let laws = (g.met.T.Mrdt g.world.𝓛 g.world.𝓜 g.world.𝓡 ((λ s x. x), (λ x. x), (λ x. x), λ x. x)).laws in
    let seen = c.prepared.inside.seen.value in
    let core = c.args.self.now.core in
    let is = c.prepared.invariant in
    let prefix = subst (λ p. IsPrefix p.seen.history core.history) (sym c.prepared.view_is) c.requires.history in
    let terms = ap (λ p. p.seen.terms) c.prepared.view_is ∙ c.requires.terms in
    branch-there g.T.Mrdt.meaning laws seen is.look core prefix terms c.prepared.inside.branch c.prepared.inside.head is.at_branch is.newest

pub land_forward-requires-clause-ready : goal.land_forward-requires-clause-ready
land_forward-requires-clause-ready g c κs within =
    let laws = (g.met.T.Mrdt g.world.𝓛 g.world.𝓜 g.world.𝓡 ((λ s x. x), (λ x. x), (λ x. x), λ x. x)).laws in
    let seen = c.prepared.inside.seen.value in
    let core = c.args.self.now.core in
    let is = c.prepared.invariant in
    let prefix = subst (λ p. IsPrefix p.seen.history core.history) (sym c.prepared.view_is) c.requires.history in
    let terms = ap (λ p. p.seen.terms) c.prepared.view_is ∙ c.requires.terms in
    let ready = subst (λ r. IsReady g.T.Mrdt.meaning seen r) c.in-Forward.is is.ready in
    forward-ready g.T.Mrdt.meaning laws seen is.look core prefix terms c.prepared.inside.branch c.prepared.inside.head is.at_branch is.newest c.in-Forward.commit ready

pub returns-clause-refused : goal.returns-clause-refused
returns-clause-refused g c =
    let laws = (g.met.T.Mrdt g.world.𝓛 g.world.𝓜 g.world.𝓡 ((λ s x. x), (λ x. x), (λ x. x), λ x. x)).laws in
    let seen = c.prepared.inside.seen.value in
    let core = c.args.self.now.core in
    let is = c.prepared.invariant in
    let prefix = subst (λ p. IsPrefix p.seen.history core.history) (sym c.prepared.view_is) c.requires.history in
    let terms = ap (λ p. p.seen.terms) c.prepared.view_is ∙ c.requires.terms in
    let ready = subst (λ r. IsReady g.T.Mrdt.meaning seen r) c.in-Forward.is is.ready in
    let valid = (subst (λ v. IsValid g.T.Mrdt.meaning v.core.terms v.core.history) c.self.view_is c.self.invariant.valid) in
    let same = ap (λ r. record { seen = seen; work = work_of r }) (sym c.in-Forward.is) ∙ c.prepared.view_is in
    subst (λ p. IfErr c.land_forward.result (LandRefusedAs g.T.Mrdt.meaning p core)) same
    (forward-is_refused g.T.Mrdt.meaning laws seen is.look core prefix terms c.prepared.inside.branch c.prepared.inside.head is.at_branch is.newest valid c.land_forward.result c.in-Forward.commit ready c.land_forward.ensures.refused)

pub returns-in-Operation-clause-only : goal.returns-in-Operation-clause-only
returns-in-Operation-clause-only g c = only-memory g.T.Mrdt.meaning c.args.prepared c.args.self.now.core c.land_operation.result (returns-in-Operation-clause-refused g c)

pub returns-in-Merge-clause-only : goal.returns-in-Merge-clause-only
returns-in-Merge-clause-only g c = only-memory g.T.Mrdt.meaning c.args.prepared c.args.self.now.core c.land_merge.result (returns-in-Merge-clause-refused g c)

pub returns-in-Join-clause-only : goal.returns-in-Join-clause-only
returns-in-Join-clause-only g c = only-memory g.T.Mrdt.meaning c.args.prepared c.args.self.now.core c.land_join.result (returns-in-Join-clause-refused g c)

pub returns-clause-only : goal.returns-clause-only
returns-clause-only g c = only-memory g.T.Mrdt.meaning c.args.prepared c.args.self.now.core c.land_forward.result (returns-clause-refused g c)

pub returns-in-Operation-clause-before : goal.returns-in-Operation-clause-before
returns-in-Operation-clause-before g c =
    subst (λ (h : ℕ). OnOk c.land_operation.result (StoodBefore c.land_operation.new.self.core.terms c.land_operation.new.self.core.history h)) (c.prepared.invariant.newest ∙ ap (λ p. p.seen.head) c.prepared.view_is) c.land_operation.ensures.before

pub returns-in-Merge-clause-before : goal.returns-in-Merge-clause-before
returns-in-Merge-clause-before g c =
    subst (λ (h : ℕ). OnOk c.land_merge.result (StoodBefore c.land_merge.new.self.core.terms c.land_merge.new.self.core.history h)) (c.prepared.invariant.newest ∙ ap (λ p. p.seen.head) c.prepared.view_is) c.land_merge.ensures.before

pub returns-in-Join-clause-before : goal.returns-in-Join-clause-before
returns-in-Join-clause-before g c =
    subst (λ (h : ℕ). OnOk c.land_join.result (StoodBefore c.land_join.new.self.core.terms c.land_join.new.self.core.history h)) (c.prepared.invariant.newest ∙ ap (λ p. p.seen.head) c.prepared.view_is) c.land_join.ensures.before

pub returns-clause-before : goal.returns-clause-before
returns-clause-before g c =
    subst (λ (h : ℕ). OnOk c.land_forward.result (StoodBefore c.land_forward.new.self.core.terms c.land_forward.new.self.core.history h)) (c.prepared.invariant.newest ∙ ap (λ p. p.seen.head) c.prepared.view_is) c.land_forward.ensures.before
