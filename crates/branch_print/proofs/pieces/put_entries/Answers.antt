use Rattle.std.proofs.Common.{◌++◌, ℕ, List, codes, decimal, length}
use Rattle.std.specs.List.{flat_map}
use Rattle.live_set.specs.declared.kept.Kept.{Kept}
use Rattle.branch_print.specs.Texts.{entry_text}
use Rattle.branch_print.proofs.Written.{first-refused, second-refused}
use Rattle.branch_print.proofs.pieces.put_entries.Goals as goal

abbrev counted : (count : ℕ) → List ℕ
counted count = codes "[" ++ decimal count ++ codes "]"

abbrev each : List (Kept (List ℕ)) → List ℕ
each entries = flat_map (λ entry. codes " " ++ entry_text entry) entries

pub returns-in_err-put_brackets-clause-err : goal.returns-in_err-put_brackets-clause-err
returns-in_err-put_brackets-clause-err c =
    first-refused c.from_residual.result c.args.out.now.items c.put_brackets.new.out.items (counted (length c.args.entries.now)) (each c.args.entries.now) c.in_err-put_brackets.ensures.err

pub returns-clause-err : goal.returns-clause-err
returns-clause-err c =
    second-refused c.put_each_entry.result c.args.out.now.items c.put_brackets.new.out.items c.put_each_entry.new.out.items (counted (length c.args.entries.now)) (each c.args.entries.now) c.in_ok-put_brackets.ensures.ok c.put_each_entry.ensures.err
