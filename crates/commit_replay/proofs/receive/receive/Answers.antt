-- The item is cut out of the bytes, or its value was stored before.
use Rattle.std.proofs.Common.{ℕ, List, take, drop, refl, sym, subst, ◌∙◌, ap}
use Rattle.std.specs.Prelude.{IfOk}
use Rattle.std.proofs.lemmas.List.{take_rest}
use Rattle.commit_replay.specs.Walk.{IsTaken}
use Rattle.std.specs.Option.{option_copied}
use Rattle.std.proofs.lemmas.Result.{IfOk-weaker}
use Rattle.branch_machine.specs.Fixed.{fix}
use Rattle.branch_machine.specs.Objects.{Pair}
use Rattle.commit_replay.proofs.Received.{value-shown, value-none, none-stored, received-if}
use Rattle.commit_replay.proofs.receive.receive.Goals as goal

pub returns-in-Some : goal.returns-in-Some
returns-in-Some g c =
    let r = c.args.recorded.now in
    let fixed = fix g.T.Mrdt.meaning r.terms g.A.Address.address in
    let parts = c.args.parts.now in
    let bytes = c.args.bytes.now in
    let item : Pair = record { value = take parts.place bytes; commit = drop parts.place bytes } in
    IfOk-weaker c.take.result _ _
    (λ kept taken. received-if fixed r c.take.new.recorded parts c.args.next.now bytes c.requires.parts item refl (λ own of. value-shown fixed r.written parts bytes c.requires.parts own of c.in-Some.field-0 c.in-Some.is) kept taken)
    (subst (λ (commit : List ℕ). IfOk c.take.result (IsTaken fixed r c.take.new.recorded (record { value = take parts.place bytes; commit = commit }) c.args.next.now bytes)) (take_rest bytes parts.place) c.take.ensures)

pub returns-in_default : goal.returns-in_default
returns-in_default g c =
    let r = c.args.recorded.now in
    let fixed = fix g.T.Mrdt.meaning r.terms g.A.Address.address in
    let parts = c.args.parts.now in
    let none = ap option_copied (sym c.in_default.is) ∙ c.object.ensures in
    (refl, λ own of takes. none-stored fixed r.written parts c.args.bytes.now c.requires.parts own of c.in-Some-address.address c.in-None.is c.in-Some-address.is none)
