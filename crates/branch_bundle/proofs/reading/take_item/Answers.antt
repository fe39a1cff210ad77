use Rattle.branch_bundle.proofs.Framed.{none-commit}
use Rattle.branch_bundle.proofs.reading.take_item.Goals as goal

pub returns-in_err-commit-clause-outside : goal.returns-in_err-commit-clause-outside
returns-in_err-commit-clause-outside c error =
    none-commit c.args.layout c.args.cursor.now c.take_value.new.cursor c.in_ok-value.value.now c.in_ok-value.ensures.known c.in_ok-value.ensures.ok c.in_err-commit.ensures.outside
