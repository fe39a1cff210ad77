-- The item is here, or new, or refused.
use Rattle.std.proofs.Common.{rules}
use Rattle.branch_bundle.specs.Held.{pair_of}
use Rattle.branch_machine.specs.Fixed.{fix}
use Rattle.store_core.proofs.Arrived.{more_of_bytes, one-here, one-new, one-refused}
use Rattle.store_core.proofs.together.receive_one.Goals as goal

pub returns-in-Ok-Here-clause-arrived : goal.returns-in-Ok-Here-clause-arrived
returns-in-Ok-Here-clause-arrived g c =
    let r = c.args.recorded.now in
    let fixed = fix g.T.Mrdt.meaning r.terms g.A.Address.address in
    let item = pair_of c.args.item.now in
    let is = more_of_bytes fixed r _ _ _ _ item.value item.commit c.as_slice-value.ensures.bytes c.as_slice-commit.ensures.bytes (rw c.in-Ok-Here.field-0-is at c.in-Ok-Here.ensures.receives) in
    one-here fixed item r c.receive_more.new.self c.args.records.now.items c.in-Ok-Here.commit is

pub returns-in_ok-push-in-Ok-New-clause-arrived : goal.returns-in_ok-push-in-Ok-New-clause-arrived
returns-in_ok-push-in-Ok-New-clause-arrived g c =
    let r = c.args.recorded.now in
    let fixed = fix g.T.Mrdt.meaning r.terms g.A.Address.address in
    let item = pair_of c.args.item.now in
    let is = more_of_bytes fixed r _ _ _ _ item.value item.commit c.as_slice-value.ensures.bytes c.as_slice-commit.ensures.bytes (rw c.in-Ok-New.field-0-is at c.in-Ok-New.ensures.receives) in
    let noted = rw c.in-Ok-New.field-0-is at c.in-Ok-New.ensures.recorded in
    rw c.in_ok-push-in-Ok-New.ensures.items (one-new fixed item r c.receive_more.new.self c.args.records.now.items c.in-Ok-New.commit c.in-Ok-New.moves c.in-Ok-New.record is noted)

pub returns-in-Err-clause-arrived : goal.returns-in-Err-clause-arrived
returns-in-Err-clause-arrived g c =
    let r = c.args.recorded.now in
    let fixed = fix g.T.Mrdt.meaning r.terms g.A.Address.address in
    let item = pair_of c.args.item.now in
    let is = more_of_bytes fixed r _ _ _ _ item.value item.commit c.as_slice-value.ensures.bytes c.as_slice-commit.ensures.bytes c.in-Err.ensures.receives in
    rw c.refused_at.ensures (one-refused fixed item r c.receive_more.new.self c.args.records.now.items c.args.item.now.number c.in-Err.refused (search rules) is)
