-- Past the last commit there is no address.
use Rattle.std.proofs.Common.{◌≡◌, ◌≤◌, List, ℕ, length, None, ap, sym, ◌∙◌, subst}
use Rattle.std.specs.Prelude.{slice_get}
use Rattle.std.proofs.lemmas.Option.{slice_get_past}
use Rattle.branch_machine.specs.Fixed.{fix}
use Rattle.recorded_history.specs.Machine.{addresses_of}
use Rattle.recorded_history.proofs.Kept.{settled-addressed}
use Rattle.recorded_history.proofs.recorded.Recorded.address.Goals as goal

pub returns-else-commit-commits : goal.returns-else-commit-commits
returns-else-commit-commits g c =
    let meaning = g.T.Mrdt.meaning in
    let address = g.A.Address.address in
    let self = c.self.inside in
    let settled = self.settled.value.core in
    let none = ap (λ r. r.pending) c.self.view_is ∙ c.requires.settled in
    let addresses : List (List ℕ) = self.versions.addresses in
    let counted : c.commits.result ≡ length addresses = c.commits.ensures.count ∙ sym c.commits.ensures.addressed in
    let past : length addresses ≤ c.args.commit = subst (λ (n : ℕ). n ≤ c.args.commit) counted c.if-commit-commits.false in
    let known = settled-addressed meaning address settled self.versions self.objects self.stood.items c.self.invariant none in
    subst (λ r. None ≡ slice_get (addresses_of (fix meaning r.terms address) r.written) c.args.commit) c.self.view_is
    (sym (slice_get_past addresses c.args.commit past) ∙ ap (λ l. slice_get l c.args.commit) known)
