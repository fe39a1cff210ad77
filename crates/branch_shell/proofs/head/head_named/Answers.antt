-- What is seen is the branch of the name.
use Rattle.std.proofs.Common.{◌≡◌, ◌<◌, ◌∙◌, ℕ, length, ap, sym, subst, Some}
use Rattle.branch_names.specs.declared.terms.Terms.{Terms}
use Rattle.branch_names.specs.Heads.{head_of}
use Rattle.branch_history.specs.History.{store_of}
use Rattle.branch_machine.specs.Fixed.{fix}
use Rattle.commit_replay.proofs.Looked.{head-there}
use Rattle.branch_shell.proofs.Heads.{look-sees, look-unknown}
use Rattle.branch_shell.proofs.head.head_named.Goals as goal

pub returns-in-Ok-clause-found : goal.returns-in-Ok-clause-found
returns-in-Ok-clause-found g c =
    let core = c.args.core.now in
    let looks = look-sees g.T.Mrdt.meaning core.terms core.history c.args.branch.now c.in-Ok.seen.branch c.in-Ok.seen.head c.in-Ok.ensures.sees in
    looks.0 ∙ ap (λ (k : ℕ). Some k) (sym c.branch-seen.ensures.branch)

pub returns-in-Ok-clause-head : goal.returns-in-Ok-clause-head
returns-in-Ok-clause-head g c =
    let core = c.args.core.now in
    let looks = look-sees g.T.Mrdt.meaning core.terms core.history c.args.branch.now c.in-Ok.seen.branch c.in-Ok.seen.head c.in-Ok.ensures.sees in
    c.head.ensures ∙ looks.1 ∙ ap (head_of (store_of core.terms.origin core.history).branches) (sym c.branch-seen.ensures.branch)

pub returns-in-Ok-clause-within : goal.returns-in-Ok-clause-within
returns-in-Ok-clause-within g c =
    let core = c.args.core.now in
    let seen = c.in-Ok.seen in
    let laws = (g.met.T.Mrdt g.world.𝓛 g.world.𝓜 g.world.𝓡 ((λ s x. x), (λ x. x), (λ x. x), λ x. x)).laws in
    let looks = look-sees g.T.Mrdt.meaning core.terms core.history c.args.branch.now seen.branch seen.head c.in-Ok.ensures.sees in
    let there : seen.branch < length (store_of core.terms.origin core.history).branches =
    subst (λ (t : Terms). seen.branch < length (store_of t.origin core.history).branches) c.in-Ok.ensures.on.1
    (subst (λ h. seen.branch < length (store_of seen.terms.origin h).branches) c.in-Ok.ensures.on.0 c.branch-seen.ensures.within) in
    let inside = head-there (fix g.T.Mrdt.meaning core.terms g.A.Address.address) laws core.history c.moves-moves.ensures.valid seen.branch there in
    subst (λ k. k < length (store_of core.terms.origin core.history).commits) (sym (c.head.ensures ∙ looks.1)) inside

pub returns-in-Err-UnknownBranch-clause-none : goal.returns-in-Err-UnknownBranch-clause-none
returns-in-Err-UnknownBranch-clause-none g c = λ is.
    let core = c.args.core.now in
    look-unknown g.T.Mrdt.meaning core.terms core.history c.args.branch.now (rw c.in-Err-UnknownBranch.field-0-is at c.in-Err-UnknownBranch.ensures.refused).1
