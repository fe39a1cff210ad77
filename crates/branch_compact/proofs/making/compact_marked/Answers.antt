-- The marks are on the live commits.
use Rattle.std.proofs.Common.{◌∙◌, ap, arith}
use Rattle.branch_compact.specs.Compact.{kept_moves}
use Rattle.branch_compact.specs.Marks.{is_marked}
use Rattle.branch_compact.proofs.Made.{few-commits, live-compact, made-few}
use Rattle.branch_compact.proofs.making.compact_marked.Goals as goal

pub new-requires : goal.new-requires
new-requires g c =
    let few = few-commits c.args.terms c.args.moves (c.keeps_limits.ensures c.args.terms c.args.moves c.requires.valid) in
    omega (arith, few, c.requires.count)

pub keep_moves-requires : goal.keep_moves-requires
keep_moves-requires g c = made-few c.args.terms c.args.moves (c.keeps_limits.ensures c.args.terms c.args.moves c.requires.valid)

pub returns : goal.returns
returns g c =
    c.in_ok-fewer.ensures ∙ ap (λ marks. kept_moves (is_marked marks) c.args.moves) c.in_ok-kept.ensures
    ∙ live-compact c.args.terms c.args.moves c.args.marks.items c.requires.live
