use Rattle.std.specs.Prelude.{◌≡◌, drop}
use Rattle.branch_machine.specs.Fixed.{fix_in}
use Rattle.branch_machine.specs.Objects.{end_of}
use Rattle.commit_replay.specs.Follows.{form_of}
use Rattle.commit_replay.specs.Walk.{IsWalked}
use Rattle.commit_replay.proofs.walk.replay.Given as goal

abbrev pub invariant-loop-next : goal.invariant-loop-next
invariant-loop-next g l =
    let fixed = fix_in (form_of l.fn.version) g.T.Mrdt.meaning l.fn.terms g.A.Address.address in
    IsWalked fixed l.recorded l.next-index l.records l.fn.objects.items × (l.ahead ≡ drop (end_of fixed l.recorded.written) l.fn.objects.items)
