-- The objects are those of the commit that the work makes.
use Rattle.std.proofs.Common.{◌<◌, ◌+◌, ◌∷◌, [], ◌++◌, length, map, get_or, refl, ap, sym, ◌∙◌, slice_get, subst}
use Rattle.std.proofs.lemmas.Result.{err_from_is_err_and}
use Rattle.std.specs.Prelude.{replicate}
use Rattle.branch_wire.specs.declared.action.Action.TheVariants as wire
use Rattle.branch_history.specs.History.{store_of}
use Rattle.branch_machine.specs.Fixed.{fix}
use Rattle.object_store.specs.Commits.{commit_fields, pair_with}
use Rattle.store_seen.specs.Keeps.{bytes_at}
use Rattle.store_seen.specs.Turns.{move_of}
use Rattle.store_seen.specs.Written.{IsWritten}
use Rattle.recorded_history.proofs.Commits.{commit-there}
use Rattle.recorded_history.proofs.Staged.{staged-one, staged-refused, staged-none, other-there, others-there, operation-makes_pair, merge-makes_pair, join-makes_pair}
use Rattle.recorded_history.proofs.staging.stage.Goals as goal

pub address-requires-after_bounds : goal.address-requires-after_bounds
address-requires-after_bounds g c κs within =
    let laws = (g.met.T.Mrdt g.world.𝓛 g.world.𝓜 g.world.𝓡 ((λ s x. x), (λ x. x), (λ x. x), λ x. x)).laws in
    let core = c.args.versions.now.core in
    let is = c.branch-branch.ensures.seen in
    subst (λ n. n < length (store_of core.terms.origin core.history).commits) (sym c.head-head.ensures.head) (commit-there g.T.Mrdt.meaning laws core.terms g.A.Address.address core.history c.requires.laid_out.valid c.args.prepared.now.seen is c.requires.history c.requires.terms c.args.prepared.now.seen.head is.head)

pub address-requires-in-Merge-after_bounds : goal.address-requires-in-Merge-after_bounds
address-requires-in-Merge-after_bounds g c κs within =
    let laws = (g.met.T.Mrdt g.world.𝓛 g.world.𝓜 g.world.𝓡 ((λ s x. x), (λ x. x), (λ x. x), λ x. x)).laws in
    let core = c.args.versions.now.core in
    let is = c.branch-branch.ensures.seen in
    subst (λ n. n < length (store_of core.terms.origin core.history).commits) (sym c.head-head.ensures.head) (commit-there g.T.Mrdt.meaning laws core.terms g.A.Address.address core.history c.requires.laid_out.valid c.args.prepared.now.seen is c.requires.history c.requires.terms c.args.prepared.now.seen.head is.head)

pub address-requires-in-Merge-2-after_bounds : goal.address-requires-in-Merge-2-after_bounds
address-requires-in-Merge-2-after_bounds g c κs within =
    let laws = (g.met.T.Mrdt g.world.𝓛 g.world.𝓜 g.world.𝓡 ((λ s x. x), (λ x. x), (λ x. x), λ x. x)).laws in
    let core = c.args.versions.now.core in
    let is = c.branch-branch.ensures.seen in
    let there = other-there g.T.Mrdt.meaning c.args.prepared.now.seen c.args.prepared.now.work c.in-Merge.other c.in-Merge.clock c.in-Merge.size c.in-Merge.value (subst (λ w. IsWritten g.T.Mrdt.meaning c.args.prepared.now w) c.in-Merge.is c.written.ensures) in
    commit-there g.T.Mrdt.meaning laws core.terms g.A.Address.address core.history c.requires.laid_out.valid c.args.prepared.now.seen is c.requires.history c.requires.terms c.in-Merge.other there

pub returns-in_err-stage-in-Operation-clause-refused : goal.returns-in_err-stage-in-Operation-clause-refused
returns-in_err-stage-in-Operation-clause-refused g c =
    let meaning = g.T.Mrdt.meaning in
    let address = g.A.Address.address in
    let laws = (g.met.T.Mrdt g.world.𝓛 g.world.𝓜 g.world.𝓡 ((λ s x. x), (λ x. x), (λ x. x), λ x. x)).laws in
    let versions = c.args.versions.now in
    let core = versions.core in
    let fixed = fix meaning core.terms address in
    let seen = c.args.prepared.now.seen in
    let work = c.args.prepared.now.work in
    let parts = c.in-Operation in
    let a = c.address.result.now in
    let written = subst (λ w. IsWritten meaning c.args.prepared.now w) parts.is c.written.ensures in
    let at = ap (slice_get versions.addresses) (sym c.head-head.ensures.head) ∙ c.address.ensures.address in
    let parents = c.from_vec.ensures ∙ c.in_ok-push_address-in-Operation.ensures.ok ∙ ap (λ l. l ++ a ∷ []) c.new-parent.ensures.items in
    let op = c.in_ok-from_slice-in-Operation.field-0 in
    let reply = c.in_ok-from_slice-in-Operation-2.field-0 in
    let does = ap (λ b. wire.Operation b reply) c.in_ok-from_slice-in-Operation.ensures ∙ ap (wire.Operation parts.op.now) c.in_ok-from_slice-in-Operation-2.ensures in
    let makes =
    operation-makes_pair meaning laws core.terms address core.history c.requires.laid_out.valid seen c.branch-branch.ensures.seen c.requires.history c.requires.terms versions.addresses c.requires.laid_out.addressed work c.requires.may parts.clock parts.size parts.value parts.op parts.reply written c.from_vec.result c.origin-origin.result (wire.Operation op reply) a at parents (c.origin-origin.ensures ∙ ap (λ t. t.origin + c.args.prepared.now.seen.branch) c.requires.terms) does in
    let o = c.args.objects.now in
    let e = c.in_err-stage-in-Operation.field-0.0 in
    let p = err_from_is_err_and c.from_residual-in_err-stage-in-Operation.result c.from_residual-in_err-stage-in-Operation.ensures.1 in
    rw (p.1, p.2)
    (staged-refused fixed core.history (o.stored ++ o.staged) c.requires.laid_out.whole work (move_of seen.branch work) (pair_with (bytes_at parts.value) (commit_fields address (bytes_at parts.value) c.from_vec.result c.origin-origin.result parts.clock (wire.Operation op reply))) makes seen c.requires.may e c.in_err-stage-in-Operation.ensures.collides)

pub returns-in_ok-stage-in-Operation-clause-staged : goal.returns-in_ok-stage-in-Operation-clause-staged
returns-in_ok-stage-in-Operation-clause-staged g c =
    let meaning = g.T.Mrdt.meaning in
    let address = g.A.Address.address in
    let laws = (g.met.T.Mrdt g.world.𝓛 g.world.𝓜 g.world.𝓡 ((λ s x. x), (λ x. x), (λ x. x), λ x. x)).laws in
    let versions = c.args.versions.now in
    let core = versions.core in
    let fixed = fix meaning core.terms address in
    let seen = c.args.prepared.now.seen in
    let work = c.args.prepared.now.work in
    let parts = c.in-Operation in
    let a = c.address.result.now in
    let written = subst (λ w. IsWritten meaning c.args.prepared.now w) parts.is c.written.ensures in
    let at = ap (slice_get versions.addresses) (sym c.head-head.ensures.head) ∙ c.address.ensures.address in
    let parents = c.from_vec.ensures ∙ c.in_ok-push_address-in-Operation.ensures.ok ∙ ap (λ l. l ++ a ∷ []) c.new-parent.ensures.items in
    let op = c.in_ok-from_slice-in-Operation.field-0 in
    let reply = c.in_ok-from_slice-in-Operation-2.field-0 in
    let does = ap (λ b. wire.Operation b reply) c.in_ok-from_slice-in-Operation.ensures ∙ ap (wire.Operation parts.op.now) c.in_ok-from_slice-in-Operation-2.ensures in
    let makes =
    operation-makes_pair meaning laws core.terms address core.history c.requires.laid_out.valid seen c.branch-branch.ensures.seen c.requires.history c.requires.terms versions.addresses c.requires.laid_out.addressed work c.requires.may parts.clock parts.size parts.value parts.op parts.reply written c.from_vec.result c.origin-origin.result (wire.Operation op reply) a at parents (c.origin-origin.ensures ∙ ap (λ t. t.origin + c.args.prepared.now.seen.branch) c.requires.terms) does in
    let o = c.args.objects.now in
    let done = c.in_ok-stage-in-Operation.ensures in
    staged-one fixed core.history (o.stored ++ o.staged) c.requires.laid_out.whole work (move_of seen.branch work) (pair_with (bytes_at parts.value) (commit_fields address (bytes_at parts.value) c.from_vec.result c.origin-origin.result parts.clock (wire.Operation op reply))) makes o c.stage.new.self c.in_ok-stage-in-Operation.field-0 refl done.free done.stored done.added done.address

pub returns-in_err-stage-in-Merge-clause-refused : goal.returns-in_err-stage-in-Merge-clause-refused
returns-in_err-stage-in-Merge-clause-refused g c =
    let meaning = g.T.Mrdt.meaning in
    let address = g.A.Address.address in
    let laws = (g.met.T.Mrdt g.world.𝓛 g.world.𝓜 g.world.𝓡 ((λ s x. x), (λ x. x), (λ x. x), λ x. x)).laws in
    let versions = c.args.versions.now in
    let core = versions.core in
    let fixed = fix meaning core.terms address in
    let seen = c.args.prepared.now.seen in
    let work = c.args.prepared.now.work in
    let parts = c.in-Merge in
    let a = c.address-in-Merge.result.now in
    let b = c.address-in-Merge-2.result.now in
    let written = subst (λ w. IsWritten meaning c.args.prepared.now w) parts.is c.written.ensures in
    let at = ap (slice_get versions.addresses) (sym c.head-head.ensures.head) ∙ c.address-in-Merge.ensures.address in
    let parents =
    c.from_vec-parents.ensures ∙ c.in_ok-push_address-in-Merge-2.ensures.ok ∙ ap (λ l. l ++ b ∷ []) (c.in_ok-push_address-in-Merge.ensures.ok ∙ ap (λ l. l ++ a ∷ []) c.new-parents.ensures.items) in
    let makes =
    merge-makes_pair meaning laws core.terms address core.history c.requires.laid_out.valid seen c.branch-branch.ensures.seen c.requires.history c.requires.terms versions.addresses c.requires.laid_out.addressed work c.requires.may parts.other parts.clock parts.size parts.value written c.from_vec-parents.result c.origin-origin.result a b at c.address-in-Merge-2.ensures.address parents (c.origin-origin.ensures ∙ ap (λ t. t.origin + c.args.prepared.now.seen.branch) c.requires.terms) in
    let o = c.args.objects.now in
    let e = c.in_err-stage-in-Merge.field-0.0 in
    let p = err_from_is_err_and c.from_residual-in_err-stage-in-Merge.result c.from_residual-in_err-stage-in-Merge.ensures.1 in
    rw (p.1, p.2)
    (staged-refused fixed core.history (o.stored ++ o.staged) c.requires.laid_out.whole work (move_of seen.branch work) (pair_with (bytes_at parts.value) (commit_fields address (bytes_at parts.value) c.from_vec-parents.result c.origin-origin.result parts.clock wire.Merge)) makes seen c.requires.may e c.in_err-stage-in-Merge.ensures.collides)

pub returns-in_ok-stage-in-Merge-clause-staged : goal.returns-in_ok-stage-in-Merge-clause-staged
returns-in_ok-stage-in-Merge-clause-staged g c =
    let meaning = g.T.Mrdt.meaning in
    let address = g.A.Address.address in
    let laws = (g.met.T.Mrdt g.world.𝓛 g.world.𝓜 g.world.𝓡 ((λ s x. x), (λ x. x), (λ x. x), λ x. x)).laws in
    let versions = c.args.versions.now in
    let core = versions.core in
    let fixed = fix meaning core.terms address in
    let seen = c.args.prepared.now.seen in
    let work = c.args.prepared.now.work in
    let parts = c.in-Merge in
    let a = c.address-in-Merge.result.now in
    let b = c.address-in-Merge-2.result.now in
    let written = subst (λ w. IsWritten meaning c.args.prepared.now w) parts.is c.written.ensures in
    let at = ap (slice_get versions.addresses) (sym c.head-head.ensures.head) ∙ c.address-in-Merge.ensures.address in
    let parents =
    c.from_vec-parents.ensures ∙ c.in_ok-push_address-in-Merge-2.ensures.ok ∙ ap (λ l. l ++ b ∷ []) (c.in_ok-push_address-in-Merge.ensures.ok ∙ ap (λ l. l ++ a ∷ []) c.new-parents.ensures.items) in
    let makes =
    merge-makes_pair meaning laws core.terms address core.history c.requires.laid_out.valid seen c.branch-branch.ensures.seen c.requires.history c.requires.terms versions.addresses c.requires.laid_out.addressed work c.requires.may parts.other parts.clock parts.size parts.value written c.from_vec-parents.result c.origin-origin.result a b at c.address-in-Merge-2.ensures.address parents (c.origin-origin.ensures ∙ ap (λ t. t.origin + c.args.prepared.now.seen.branch) c.requires.terms) in
    let o = c.args.objects.now in
    let done = c.in_ok-stage-in-Merge.ensures in
    staged-one fixed core.history (o.stored ++ o.staged) c.requires.laid_out.whole work (move_of seen.branch work) (pair_with (bytes_at parts.value) (commit_fields address (bytes_at parts.value) c.from_vec-parents.result c.origin-origin.result parts.clock wire.Merge)) makes o c.stage-in-Merge.new.self c.in_ok-stage-in-Merge.field-0 refl done.free done.stored done.added done.address

pub addresses-requires-clause-head : goal.addresses-requires-clause-head
addresses-requires-clause-head g c κs within =
    let laws = (g.met.T.Mrdt g.world.𝓛 g.world.𝓜 g.world.𝓡 ((λ s x. x), (λ x. x), (λ x. x), λ x. x)).laws in
    let core = c.args.versions.now.core in
    let is = c.branch-branch.ensures.seen in
    subst (λ n. n < length (store_of core.terms.origin core.history).commits) (sym c.head-head.ensures.head) (commit-there g.T.Mrdt.meaning laws core.terms g.A.Address.address core.history c.requires.laid_out.valid c.args.prepared.now.seen is c.requires.history c.requires.terms c.args.prepared.now.seen.head is.head)

pub addresses-requires-clause-others : goal.addresses-requires-clause-others
addresses-requires-clause-others g c κs within =
    let laws = (g.met.T.Mrdt g.world.𝓛 g.world.𝓜 g.world.𝓡 ((λ s x. x), (λ x. x), (λ x. x), λ x. x)).laws in
    let core = c.args.versions.now.core in
    let is = c.branch-branch.ensures.seen in
    others-there g.T.Mrdt.meaning c.args.prepared.now.seen c.args.prepared.now.work c.in-Join.others c.in-Join.clock c.in-Join.size c.in-Join.value (subst (λ w. IsWritten g.T.Mrdt.meaning c.args.prepared.now w) c.in-Join.is c.written.ensures) (length (store_of core.terms.origin core.history).commits)
    (commit-there g.T.Mrdt.meaning laws core.terms g.A.Address.address core.history c.requires.laid_out.valid c.args.prepared.now.seen is c.requires.history c.requires.terms)

pub returns-in_err-stage-in-Join-clause-refused : goal.returns-in_err-stage-in-Join-clause-refused
returns-in_err-stage-in-Join-clause-refused g c =
    let meaning = g.T.Mrdt.meaning in
    let address = g.A.Address.address in
    let laws = (g.met.T.Mrdt g.world.𝓛 g.world.𝓜 g.world.𝓡 ((λ s x. x), (λ x. x), (λ x. x), λ x. x)).laws in
    let versions = c.args.versions.now in
    let core = versions.core in
    let fixed = fix meaning core.terms address in
    let seen = c.args.prepared.now.seen in
    let work = c.args.prepared.now.work in
    let parts = c.in-Join in
    let written = subst (λ w. IsWritten meaning c.args.prepared.now w) parts.is c.written.ensures in
    let parents = c.from_vec-parents-in-Join.ensures ∙ c.in_ok-parents-in-Join.ensures ∙ ap (λ h. map (λ n. get_or versions.addresses n []) (h ∷ parts.others.now)) c.head-head.ensures.head in
    let makes =
    join-makes_pair meaning laws core.terms address core.history c.requires.laid_out.valid seen c.branch-branch.ensures.seen c.requires.history c.requires.terms versions.addresses c.requires.laid_out.addressed work c.requires.may parts.others parts.clock parts.size parts.value written c.from_vec-parents-in-Join.result c.origin-origin.result parents (c.origin-origin.ensures ∙ ap (λ t. t.origin + c.args.prepared.now.seen.branch) c.requires.terms) in
    let o = c.args.objects.now in
    let e = c.in_err-stage-in-Join.field-0.0 in
    let p = err_from_is_err_and c.from_residual-in_err-stage-in-Join.result c.from_residual-in_err-stage-in-Join.ensures.1 in
    rw (p.1, p.2)
    (staged-refused fixed core.history (o.stored ++ o.staged) c.requires.laid_out.whole work (move_of seen.branch work) (pair_with (bytes_at parts.value) (commit_fields address (bytes_at parts.value) c.from_vec-parents-in-Join.result c.origin-origin.result parts.clock wire.Merge)) makes seen c.requires.may e c.in_err-stage-in-Join.ensures.collides)

pub returns-in_ok-stage-in-Join-clause-staged : goal.returns-in_ok-stage-in-Join-clause-staged
returns-in_ok-stage-in-Join-clause-staged g c =
    let meaning = g.T.Mrdt.meaning in
    let address = g.A.Address.address in
    let laws = (g.met.T.Mrdt g.world.𝓛 g.world.𝓜 g.world.𝓡 ((λ s x. x), (λ x. x), (λ x. x), λ x. x)).laws in
    let versions = c.args.versions.now in
    let core = versions.core in
    let fixed = fix meaning core.terms address in
    let seen = c.args.prepared.now.seen in
    let work = c.args.prepared.now.work in
    let parts = c.in-Join in
    let written = subst (λ w. IsWritten meaning c.args.prepared.now w) parts.is c.written.ensures in
    let parents = c.from_vec-parents-in-Join.ensures ∙ c.in_ok-parents-in-Join.ensures ∙ ap (λ h. map (λ n. get_or versions.addresses n []) (h ∷ parts.others.now)) c.head-head.ensures.head in
    let makes =
    join-makes_pair meaning laws core.terms address core.history c.requires.laid_out.valid seen c.branch-branch.ensures.seen c.requires.history c.requires.terms versions.addresses c.requires.laid_out.addressed work c.requires.may parts.others parts.clock parts.size parts.value written c.from_vec-parents-in-Join.result c.origin-origin.result parents (c.origin-origin.ensures ∙ ap (λ t. t.origin + c.args.prepared.now.seen.branch) c.requires.terms) in
    let o = c.args.objects.now in
    let done = c.in_ok-stage-in-Join.ensures in
    staged-one fixed core.history (o.stored ++ o.staged) c.requires.laid_out.whole work (move_of seen.branch work) (pair_with (bytes_at parts.value) (commit_fields address (bytes_at parts.value) c.from_vec-parents-in-Join.result c.origin-origin.result parts.clock wire.Merge)) makes o c.stage-in-Join.new.self c.in_ok-stage-in-Join.field-0 refl done.free done.stored done.added done.address

pub returns-in-Forward-clause-staged : goal.returns-in-Forward-clause-staged
returns-in-Forward-clause-staged g c =
    let meaning = g.T.Mrdt.meaning in
    let core = c.args.versions.now.core in
    let prepared = c.args.prepared.now in
    let written = subst (λ w. IsWritten meaning prepared w) c.in-Forward.is c.written.ensures in
    staged-none (fix meaning core.terms g.A.Address.address) core.history prepared.seen.branch prepared.work prepared.seen c.in-Forward.other written c.args.objects.now (replicate 32 0) c.requires.laid_out.whole
