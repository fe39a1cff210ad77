-- Each record goes behind those before it.
use Rattle.std.proofs.Common.{◌∙◌, ℕ, List, [], ◌∷◌, ◌++◌, take, ap, sym, arith}
use Rattle.std.proofs.lemmas.List.{take_all}
use Rattle.branch_history.specs.declared.moves.Move.{Move}
use Rattle.branch_machine.specs.Fixed.{fix}
use Rattle.branch_files.specs.Records.{header_for, history_text}
use Rattle.heads_journal.specs.declared.record.Record.{Record}
use Rattle.heads_journal.specs.Format.{record_fields}
use Rattle.heads_journal.specs.Heads.{heads_text}
use Rattle.branch_compact.proofs.Moves.{length-commits}
use Rattle.branch_compact.proofs.Read.{next-accepted}
use Rattle.store_compact.proofs.Spells.{history-none, joined-of, made-within, some-before, few-placed, next-text, next-count}
use Rattle.store_compact.proofs.spelling.spell_heads.Goals as goal

pub loop-made-init : goal.loop-made-init
loop-made-init g c =
    let fixed = fix g.T.Mrdt.meaning c.args.terms g.A.Address.address in
    let none : List (Move g.row.T-Op.Denot g.row.T-Reply.Denot) = [] in
    (c.in_ok-put_header.ensures ∙ ap (λ (l : List ℕ). l ++ heads_text (header_for c.args.terms) []) c.new-text.ensures.items ∙ sym (history-none fixed), omega (arith, length-commits c.args.terms.origin none))

pub overflow_add-commits : goal.overflow_add-commits
overflow_add-commits g c =
    let fixed = fix g.T.Mrdt.meaning c.args.terms g.A.Address.address in
    let moves = c.args.moves.now in
    let within = made-within fixed moves c.loop-made.made-index c.made-item.result c.loop-made-test.true c.made-item.is c.loop-made.commits c.commits_made.result c.loop-made.invariant.1 c.commits_made.ensures c.args.placed.now c.requires.placed in
    let few = few-placed fixed moves c.args.placed.now c.requires.placed in
    let limit = (c.keeps_limits.ensures c.args.terms moves c.requires.valid).commits in
    let high = c.args.terms.limits.in_range.commits_high in
    omega (arith, within, few, limit, high)

pub overflow_sub-newest : goal.overflow_sub-newest
overflow_sub-newest g c =
    let fixed = fix g.T.Mrdt.meaning c.args.terms g.A.Address.address in
    let some = some-before fixed c.args.moves.now c.loop-made.made-index c.made-item.result c.loop-made-test.true c.made-item.is c.loop-made.commits c.commits_made.result c.loop-made.invariant.1 c.commits_made.ensures in
    omega (arith, some)

pub offset_bounds-placed-commits : goal.offset_bounds-placed-commits
offset_bounds-placed-commits g c =
    let fixed = fix g.T.Mrdt.meaning c.args.terms g.A.Address.address in
    let moves = c.args.moves.now in
    let within = made-within fixed moves c.loop-made.made-index c.made-item.result c.loop-made-test.true c.made-item.is c.loop-made.commits c.commits_made.result c.loop-made.invariant.1 c.commits_made.ensures c.args.placed.now c.requires.placed in
    let few = few-placed fixed moves c.args.placed.now c.requires.placed in
    let limit = (c.keeps_limits.ensures c.args.terms moves c.requires.valid).commits in
    let high = c.args.terms.limits.in_range.commits_high in
    omega (arith, within, few, limit, high)

pub bounds-placed-commits : goal.bounds-placed-commits
bounds-placed-commits g c =
    let fixed = fix g.T.Mrdt.meaning c.args.terms g.A.Address.address in
    let moves = c.args.moves.now in
    let within = made-within fixed moves c.loop-made.made-index c.made-item.result c.loop-made-test.true c.made-item.is c.loop-made.commits c.commits_made.result c.loop-made.invariant.1 c.commits_made.ensures c.args.placed.now c.requires.placed in
    let some = some-before fixed moves c.loop-made.made-index c.made-item.result c.loop-made-test.true c.made-item.is c.loop-made.commits c.commits_made.result c.loop-made.invariant.1 c.commits_made.ensures in
    omega (arith, within, some)

pub record_for-requires : goal.record_for-requires
record_for-requires g c =
    let m = g.T.Mrdt.meaning in
    let moves = c.args.moves.now in
    let i = c.loop-made.made-index in
    joined-of m c.args.terms (take i moves) c.made-item.result (next-accepted m c.args.terms moves i c.made-item.result c.loop-made-test.true c.made-item.is c.requires.valid)

pub loop-made-preserved : goal.loop-made-preserved
loop-made-preserved g c =
    let fixed = fix g.T.Mrdt.meaning c.args.terms g.A.Address.address in
    let moves = c.args.moves.now in
    let old = c.loop-made.text.items in (
      next-text fixed moves c.loop-made.made-index c.made-item.result c.loop-made-test.true c.made-item.is c.loop-made.commits c.commits_made.result c.loop-made.invariant.1 c.commits_made.ensures c.args.placed.now c.requires.placed _
          old c.put_record.new.text.items c.loop-made.invariant.0 (c.in_ok-put_record.ensures ∙ ap (λ (r : Record). old ++ 1 ∷ record_fields r) c.record_for.ensures),
      next-count fixed moves c.loop-made.made-index c.made-item.result c.loop-made-test.true c.made-item.is c.loop-made.commits c.commits_made.result c.loop-made.invariant.1 c.commits_made.ensures,
    )

pub returns : goal.returns
returns g c =
    let fixed = fix g.T.Mrdt.meaning c.args.terms g.A.Address.address in
    let moves = c.args.moves.now in
    c.in_ok-push.ensures.items ∙ ap (λ (l : List ℕ). l ++ 0 ∷ []) (c.loop-made.invariant.0 ∙ ap (history_text fixed) (take_all c.loop-made.made-index moves (omega (arith, c.loop-made-test.false))))
