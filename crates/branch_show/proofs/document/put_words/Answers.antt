use Rattle.std.proofs.Common.{◌∙◌, sym, subst, OnErr}
use Rattle.mrdt_model.specs.Spelled.{AppendsPart}
use Rattle.branch_show.specs.Documents.{words_of}
use Rattle.branch_show.proofs.document.put_words.Goals as goal

pub returns-in-Some-clause-err : goal.returns-in-Some-clause-err
returns-in-Some-clause-err g c =
    subst (λ given. OnErr c.put_answer_text.result (AppendsPart c.args.out.now.items c.put_answer_text.new.out.items (words_of given))) (sym c.in-Some.is ∙
    c.in_ok-ask_whole.ensures) c.put_answer_text.ensures.err
