-- What is staged is what the pending moves add.
use Rattle.std.proofs.Common.{◌++◌, length, ap, ◌∙◌, subst, OnOk}
use Rattle.std.specs.List.{concat}
use Rattle.branch_disk.specs.declared.part.Part.TheVariants as part
use Rattle.branch_disk.specs.Disk.{Holds, OnPart, Tells, Torn}
use Rattle.branch_wire.specs.StoredObjects.{file_of}
use Rattle.branch_machine.specs.Fixed.{fix}
use Rattle.branch_machine.specs.Objects.{objects_of}
use Rattle.object_store.specs.Images.{AllCome, Grows}
use Rattle.recorded_history.specs.Keeps.{IsRecorded}
use Rattle.recorded_history.proofs.Kept.{staged-region, staged-regions, staged-nothing}
use Rattle.recorded_history.proofs.recorded.Recorded.write.Goals as goal

pub returns-clause-heads : goal.returns-clause-heads
returns-clause-heads g c =
    let self = c.self.inside in
    let kept = subst (λ r. IsRecorded g.T.Mrdt.meaning g.A.Address.address r self.stood.items self.versions self.objects) c.self.view_is c.self.invariant in
    subst (λ s. OnOk c.write.result (AllCome (Grows (file_of s)) (g.D.Disk.may_leave c.args.disk.now) (g.D.Disk.may_leave c.write.new.disk))) kept.staged c.write.ensures.heads

pub returns-clause-written : goal.returns-clause-written
returns-clause-written g c = λ made is.
    let self = c.self.inside in
    let now = c.args.self.now in
    let fixed = fix g.T.Mrdt.meaning now.terms g.A.Address.address in
    let kept = subst (λ r. IsRecorded g.T.Mrdt.meaning g.A.Address.address r self.stood.items self.versions self.objects) c.self.view_is c.self.invariant in
    let bytes = staged-region fixed now.written made self.objects kept.stored (kept.staged ∙ ap (λ l. objects_of fixed (now.written ++ l)) is) in
    subst (λ b. OnOk c.write.result (Tells (OnPart part.Objects (Holds (length (file_of (objects_of fixed now.written))) b)) (g.D.Disk.contents c.args.disk.now) (g.D.Disk.contents c.write.new.disk))) bytes
    (subst (λ s. OnOk c.write.result (Tells (OnPart part.Objects (Holds (length (file_of s)) (concat self.objects.staged))) (g.D.Disk.contents c.args.disk.now) (g.D.Disk.contents c.write.new.disk))) kept.stored c.write.ensures.written)

pub returns-clause-all_written : goal.returns-clause-all_written
returns-clause-all_written g c =
    let self = c.self.inside in
    let now = c.args.self.now in
    let fixed = fix g.T.Mrdt.meaning now.terms g.A.Address.address in
    let kept = subst (λ r. IsRecorded g.T.Mrdt.meaning g.A.Address.address r self.stood.items self.versions self.objects) c.self.view_is c.self.invariant in
    let bytes = staged-regions fixed now.written now.pending self.objects kept.stored kept.staged in
    subst (λ b. OnOk c.write.result (Tells (OnPart part.Objects (Holds (length (file_of (objects_of fixed now.written))) b)) (g.D.Disk.contents c.args.disk.now) (g.D.Disk.contents c.write.new.disk))) bytes
    (subst (λ s. OnOk c.write.result (Tells (OnPart part.Objects (Holds (length (file_of s)) (concat self.objects.staged))) (g.D.Disk.contents c.args.disk.now) (g.D.Disk.contents c.write.new.disk))) kept.stored c.write.ensures.written)

pub returns-clause-torn : goal.returns-clause-torn
returns-clause-torn g c = λ made is.
    let self = c.self.inside in
    let now = c.args.self.now in
    let fixed = fix g.T.Mrdt.meaning now.terms g.A.Address.address in
    let kept = subst (λ r. IsRecorded g.T.Mrdt.meaning g.A.Address.address r self.stood.items self.versions self.objects) c.self.view_is c.self.invariant in
    let bytes = staged-region fixed now.written made self.objects kept.stored (kept.staged ∙ ap (λ l. objects_of fixed (now.written ++ l)) is) in
    subst (λ b. Tells (OnPart part.Objects (Torn (length (file_of (objects_of fixed now.written))) (length b))) (g.D.Disk.contents c.args.disk.now) (g.D.Disk.contents c.write.new.disk)) bytes
    (subst (λ s. Tells (OnPart part.Objects (Torn (length (file_of s)) (length (concat self.objects.staged)))) (g.D.Disk.contents c.args.disk.now) (g.D.Disk.contents c.write.new.disk)) kept.stored c.write.ensures.torn)

pub returns-clause-all_torn : goal.returns-clause-all_torn
returns-clause-all_torn g c =
    let self = c.self.inside in
    let now = c.args.self.now in
    let fixed = fix g.T.Mrdt.meaning now.terms g.A.Address.address in
    let kept = subst (λ r. IsRecorded g.T.Mrdt.meaning g.A.Address.address r self.stood.items self.versions self.objects) c.self.view_is c.self.invariant in
    let bytes = staged-regions fixed now.written now.pending self.objects kept.stored kept.staged in
    subst (λ b. Tells (OnPart part.Objects (Torn (length (file_of (objects_of fixed now.written))) (length b))) (g.D.Disk.contents c.args.disk.now) (g.D.Disk.contents c.write.new.disk)) bytes
    (subst (λ s. Tells (OnPart part.Objects (Torn (length (file_of s)) (length (concat self.objects.staged)))) (g.D.Disk.contents c.args.disk.now) (g.D.Disk.contents c.write.new.disk)) kept.stored c.write.ensures.torn)

pub returns-clause-untouched : goal.returns-clause-untouched
returns-clause-untouched g c = λ same.
    let self = c.self.inside in
    let now = c.args.self.now in
    let fixed = fix g.T.Mrdt.meaning now.terms g.A.Address.address in
    let kept = subst (λ r. IsRecorded g.T.Mrdt.meaning g.A.Address.address r self.stood.items self.versions self.objects) c.self.view_is c.self.invariant in
    let none = staged-nothing fixed now.written (now.written ++ now.pending) self.objects kept.stored kept.staged same in
    (c.write.ensures.untouched none, c.write.ensures.nothing none)
