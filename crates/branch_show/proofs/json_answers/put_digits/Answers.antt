use Rattle.std.proofs.Common.{◌≡◌, ◌++◌, subst, sym, OnOk, OnErr}
use Rattle.mrdt_model.specs.Spelled.{AppendsPart}
use Rattle.branch_show.proofs.Plain.{number}
use Rattle.branch_show.proofs.json_answers.put_digits.Goals as goal

pub returns-clause-ok : goal.returns-clause-ok
returns-clause-ok c =
    subst (λ t. OnOk c.put_number.result (c.put_number.new.out.items ≡ c.args.out.now.items ++ t)) (sym (number c.args.number c.ranges.number.fits)) c.put_number.ensures.ok

pub returns-clause-err : goal.returns-clause-err
returns-clause-err c =
    subst (λ t. OnErr c.put_number.result (AppendsPart c.args.out.now.items c.put_number.new.out.items t)) (sym (number c.args.number c.ranges.number.fits)) c.put_number.ensures.err
