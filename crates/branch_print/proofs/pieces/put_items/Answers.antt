use Rattle.std.proofs.Common.{◌++◌, ℕ, List, codes, decimal, length}
use Rattle.std.specs.List.{flat_map}
use Rattle.branch_print.proofs.Written.{first-refused, second-refused}
use Rattle.branch_print.proofs.pieces.put_items.Goals as goal

abbrev counted : (count : ℕ) → List ℕ
counted count = codes "[" ++ decimal count ++ codes "]"

abbrev each : List (List ℕ) → List ℕ
each items = flat_map (λ item. codes " " ++ item) items

pub returns-in_err-put_brackets-clause-err : goal.returns-in_err-put_brackets-clause-err
returns-in_err-put_brackets-clause-err c =
    first-refused c.from_residual.result c.args.out.now.items c.put_brackets.new.out.items (counted (length c.args.items.now)) (each c.args.items.now) c.in_err-put_brackets.ensures.err

pub returns-clause-err : goal.returns-clause-err
returns-clause-err c =
    second-refused c.put_each.result c.args.out.now.items c.put_brackets.new.out.items c.put_each.new.out.items (counted (length c.args.items.now)) (each c.args.items.now) c.in_ok-put_brackets.ensures.ok c.put_each.ensures.err
