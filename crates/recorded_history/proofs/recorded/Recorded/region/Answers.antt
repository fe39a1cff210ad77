-- What is staged is the regions of the pending moves.
use Rattle.std.proofs.Common.{◌++◌, ap, ◌∙◌, subst, append-nil}
use Rattle.std.specs.List.{concat}
use Rattle.branch_machine.specs.Fixed.{fix}
use Rattle.branch_machine.specs.Objects.{objects_of}
use Rattle.recorded_history.specs.Keeps.{IsRecorded}
use Rattle.recorded_history.proofs.Kept.{staged-region, staged-regions, staged-nothing}
use Rattle.recorded_history.proofs.recorded.Recorded.region.Goals as goal

pub returns-clause-all : goal.returns-clause-all
returns-clause-all g c =
    let now = c.args.self.now in
    let fixed = fix g.T.Mrdt.meaning now.terms g.A.Address.address in
    let kept = subst (λ r. IsRecorded g.T.Mrdt.meaning g.A.Address.address r c.self.inside.stood.items c.self.inside.versions c.self.inside.objects) c.self.view_is c.self.invariant in
    c.staged.ensures ∙ staged-regions fixed now.written now.pending c.self.inside.objects kept.stored kept.staged

pub returns-clause-region : goal.returns-clause-region
returns-clause-region g c = λ made is.
    let now = c.args.self.now in
    let fixed = fix g.T.Mrdt.meaning now.terms g.A.Address.address in
    let kept = subst (λ r. IsRecorded g.T.Mrdt.meaning g.A.Address.address r c.self.inside.stood.items c.self.inside.versions c.self.inside.objects) c.self.view_is c.self.invariant in
    c.staged.ensures ∙ staged-region fixed now.written made c.self.inside.objects kept.stored (kept.staged ∙ ap (λ l. objects_of fixed (now.written ++ l)) is)

pub returns-clause-none : goal.returns-clause-none
returns-clause-none g c = λ is.
    let now = c.args.self.now in
    let fixed = fix g.T.Mrdt.meaning now.terms g.A.Address.address in
    let kept = subst (λ r. IsRecorded g.T.Mrdt.meaning g.A.Address.address r c.self.inside.stood.items c.self.inside.versions c.self.inside.objects) c.self.view_is c.self.invariant in
    c.staged.ensures
    ∙ ap concat (staged-nothing fixed now.written (now.written ++ now.pending) c.self.inside.objects kept.stored kept.staged (ap (λ l. objects_of fixed (now.written ++ l)) is ∙ ap (objects_of fixed) (append-nil now.written)))
