use Rattle.std.proofs.Common.{ℕ, List, ◌++◌, codes}
use Rattle.branch_print.specs.Texts.{line_end}
use Rattle.branch_words.specs.Words.{kind_word}
use Rattle.branch_show.specs.Documents.{whole_query, words_of}
use Rattle.branch_print.proofs.Written.{second-refused}
use Rattle.branch_show.proofs.Refused.{on-err, part-first, part-second, behind}
use Rattle.branch_show.proofs.document.put_line.Goals as goal

pub returns-in_err-put_front-clause-err : goal.returns-in_err-put_front-clause-err
returns-in_err-put_front-clause-err g c =
    let t1 : List ℕ = kind_word c.args.kind ++ codes " " ++ c.args.key.now ++ codes " " in
    let t2 : List ℕ = words_of (g.V.Asked.answers c.args.document.now (whole_query c.args.kind c.args.key.now)) in
    let t3 : List ℕ = line_end in
    on-err c.from_residual.result (part-first c.args.out.now.items c.put_front.new.out.items (t1 ++ t2) t3 (part-first c.args.out.now.items c.put_front.new.out.items t1 t2
    c.in_err-put_front.ensures.err))

pub returns-in_err-put_words-clause-err : goal.returns-in_err-put_words-clause-err
returns-in_err-put_words-clause-err g c =
    let t1 : List ℕ = kind_word c.args.kind ++ codes " " ++ c.args.key.now ++ codes " " in
    let t2 : List ℕ = words_of (g.V.Asked.answers c.args.document.now (whole_query c.args.kind c.args.key.now)) in
    let t3 : List ℕ = line_end in
    on-err c.from_residual-in_err-put_words.result (part-first c.args.out.now.items c.put_words.new.out.items (t1 ++ t2) t3 (part-second c.args.out.now.items
    c.put_front.new.out.items c.put_words.new.out.items t1 t2 c.in_ok-put_front.ensures.ok c.in_err-put_words.ensures.err))

pub returns-clause-err : goal.returns-clause-err
returns-clause-err g c =
    let t1 : List ℕ = kind_word c.args.kind ++ codes " " ++ c.args.key.now ++ codes " " in
    let t2 : List ℕ = words_of (g.V.Asked.answers c.args.document.now (whole_query c.args.kind c.args.key.now)) in
    let t3 : List ℕ = line_end in
    second-refused c.put_text.result c.args.out.now.items c.put_words.new.out.items c.put_text.new.out.items (t1 ++ t2) t3 (behind c.args.out.now.items
    c.put_front.new.out.items c.put_words.new.out.items t1 t2 c.in_ok-put_front.ensures.ok c.in_ok-put_words.ensures.ok) c.put_text.ensures.err
