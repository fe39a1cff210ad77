-- The commits of the group are there.
use Rattle.std.proofs.Common.{◌<◌, length, All, sym, ◌∙◌, subst}
use Rattle.branch_history.specs.History.{store_of}
use Rattle.store_seen.proofs.versions.Versions.prepare_group.Goals as goal

pub prepare_all_at-requires-clause-there : goal.prepare_all_at-requires-clause-there
prepare_all_at-requires-clause-there g c κs within =
    let core = c.args.self.now.core in
    let group = c.args.group.now in
    let there = subst (λ t. All (λ n. n < length (store_of t.origin group.history).commits) group.others) c.requires.terms c.head-head.ensures.there in
    subst (λ l. All (λ n. n < length (store_of core.terms.origin core.history).commits) l) (sym (c.deref.ensures.value ∙ c.in_ok-others.ensures))
    (subst (λ h. All (λ n. n < length (store_of core.terms.origin h).commits) group.others) c.requires.history there)
