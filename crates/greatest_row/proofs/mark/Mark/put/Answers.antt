use Rattle.std.proofs.lemmas.Result.{on_err_weaker}
use Rattle.branch_wire.specs.Fields.{number}
use Rattle.branch_wire.proofs.Parts.{part-first, part-second, on-err}
use Rattle.greatest_row.proofs.mark.Mark.put.Goals as goal

pub returns-in_err-put_u64-clause-err : goal.returns-in_err-put_u64-clause-err
returns-in_err-put_u64-clause-err c = on-err c.from_residual.result (part-first c.args.out.now.items c.put_u64.new.out.items (number c.args.self.now.place) (number c.args.self.now.number) c.in_err-put_u64.ensures.err)

pub returns-clause-err : goal.returns-clause-err
returns-clause-err c =
    on_err_weaker c.put_u64-2.result (part-second c.args.out.now.items c.put_u64.new.out.items c.put_u64-2.new.out.items (number c.args.self.now.place) (number c.args.self.now.number) c.in_ok-put_u64.ensures.ok) c.put_u64-2.ensures.err
