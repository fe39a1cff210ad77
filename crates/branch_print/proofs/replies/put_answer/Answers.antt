use Rattle.branch_print.specs.Texts.{answer_text, line_end}
use Rattle.branch_print.proofs.Written.{first-refused, second-refused}
use Rattle.branch_print.proofs.replies.put_answer.Goals as goal

pub returns-in_err-put_answer_text-clause-err : goal.returns-in_err-put_answer_text-clause-err
returns-in_err-put_answer_text-clause-err c =
    first-refused c.from_residual.result c.args.out.now.items c.put_answer_text.new.out.items (answer_text c.args.answer.now) line_end c.in_err-put_answer_text.ensures.err

pub returns-clause-err : goal.returns-clause-err
returns-clause-err c =
    second-refused c.put_text.result c.args.out.now.items c.put_answer_text.new.out.items c.put_text.new.out.items (answer_text c.args.answer.now) line_end c.in_ok-put_answer_text.ensures.ok c.put_text.ensures.err
