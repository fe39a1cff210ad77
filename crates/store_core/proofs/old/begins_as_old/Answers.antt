-- As many bytes are read of the objects as those of a new store have.
use Rattle.std.proofs.Common.{◌≡◌, [], List, ℕ, length, take, rules}
use Rattle.branch_machine.specs.Fixed.{fix_in}
use Rattle.branch_machine.specs.Objects.{objects_text}
use Rattle.store_core.specs.Opens.{old_form}
use Rattle.store_core.proofs.Beginnings.{front-begins, begins-front}
use Rattle.store_core.proofs.old.begins_as_old.Goals as goal

pub returns-in-Ok-front_of-clause-begins : goal.returns-in-Ok-front_of-clause-begins
returns-in-Ok-front_of-clause-begins g c = λ is f told terms whole.
    let first : List ℕ = c.in-Ok.first.items in
    let front : List ℕ = c.in-Ok-front_of.front.items in
    let counted : c.len.result ≡ length first = search rules in
    let starts : take (length first) front ≡ first = search rules in
    front-begins (objects_text (fix_in old_form g.T.Mrdt.meaning terms g.A.Address.address) []) first front f.objects c.len.result (c.in-Ok.ensures terms whole) counted (c.in-Ok-front_of.ensures.bytes f told) starts

pub returns-in-Ok-front_of-clause-other : goal.returns-in-Ok-front_of-clause-other
returns-in-Ok-front_of-clause-other g c = λ is f told terms whole begins.
    let first : List ℕ = c.in-Ok.first.items in
    let front : List ℕ = c.in-Ok-front_of.front.items in
    let counted : c.len.result ≡ length first = search rules in
    let not : take (length first) front ≡ first → ⊥ = search rules in
    not (begins-front (objects_text (fix_in old_form g.T.Mrdt.meaning terms g.A.Address.address) []) first front f.objects c.len.result (c.in-Ok.ensures terms whole) counted (c.in-Ok-front_of.ensures.bytes f told) begins)
