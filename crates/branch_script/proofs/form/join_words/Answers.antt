use Rattle.std.proofs.Common.{◌≡◌, ◌∙◌, ap, sym, true, false, List, [], Bor, ℕ}
use Rattle.std.specs.List.{list_all}
use Rattle.std.proofs.lemmas.List.{take_all}
use Rattle.std.proofs.lemmas.List.Folds.{list_all-map, list_all_at}
use Rattle.std.proofs.lemmas.Result.{err_from_is_err_and}
use Rattle.branch_names.specs.Names.{is_name}
use Rattle.branch_script.proofs.Joins.{bytes_of, names_join, bad_branch}
use Rattle.branch_script.proofs.form.join_words.Goals as goal

-- what stands at a place past the end
abbrev no_word : Bor (List ℕ)
no_word = record { ref_ptr = (0, 0); now = [] }

pub returns-in_err-read-clause-err : goal.returns-in_err-read-clause-err
returns-in_err-read-clause-err c =
    let words = c.args.branches.now in
    let bad : list_all (λ (word : Bor (List ℕ)). is_name word.now) words ≡ false =
    list_all_at (λ (word : Bor (List ℕ)). is_name word.now) words c.loop-word.word-index no_word c.loop-word-test.true c.in_err-read.ensures.outside in
    let refused = bad_branch c.args.session.now (bytes_of words) c.in_ok-session.ensures.inside (list_all-map is_name (λ (word : Bor (List ℕ)). word.now) words ∙ bad) in
    let p = err_from_is_err_and c.from_residual-in_err-read.result c.from_residual-in_err-read.ensures.1 in
    rw (p.1, p.2) refused

pub returns-clause-ok : goal.returns-clause-ok
returns-clause-ok c =
    let words = c.args.branches.now in
    let end = take_all c.loop-word.word-index words c.loop-word-test.false in
    let named : list_all (λ (word : Bor (List ℕ)). is_name word.now) words ≡ true =
    ap (list_all (λ (word : Bor (List ℕ)). is_name word.now)) (sym end) ∙ c.loop-word.invariant.names in
    let read : c.of.result ≡ bytes_of words = c.of.ensures ∙ c.loop-word.invariant.read ∙ ap bytes_of end in
    let joined = names_join c.args.session.now (bytes_of words) c.in_ok-session.ensures.inside (list_all-map is_name (λ (word : Bor (List ℕ)). word.now) words ∙ named) in
    rw (c.in_ok-session.ensures.name, read) joined
