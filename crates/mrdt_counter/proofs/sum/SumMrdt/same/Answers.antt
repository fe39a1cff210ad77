use Rattle.std.proofs.Common.{rules, subst, FitsSigned}
use Rattle.std.specs.Int.{w128}
use Rattle.branch_wire.proofs.Numbers.{wide_signed_number-same}
use Rattle.mrdt_counter.proofs.sum.SumMrdt.same.Goals as goal

pub returns-clause-spelled : goal.returns-clause-spelled
returns-clause-spelled c short alike =
    let own : FitsSigned w128 c.self.inside.total = search rules in
    let their : FitsSigned w128 c.other.inside.total = search rules in
    wide_signed_number-same c.args.self.now c.args.other.now (subst (FitsSigned w128) c.self.view_is own) (subst (FitsSigned w128) c.other.view_is their) alike
