-- The marked commits are those that are reached, and each line is as it is told.
use Rattle.std.proofs.Common.{◌≡◌, ◌∙◌, ℕ, List, Bool, length, ap, sym, arith}
use Rattle.branch_history.specs.History.{store_of}
use Rattle.branch_print.proofs.Written.{whole-is}
use Rattle.branch_log.specs.Told.{lines_told}
use Rattle.branch_log.specs.Logs.{log_text}
use Rattle.branch_log.proofs.Told.{counts, counts-graph, lines-are}
use Rattle.branch_log.proofs.log.put_log.Goals as goal

pub marks_below-requires : goal.marks_below-requires
marks_below-requires g c =
    let moves = c.args.moves.now in
    let commits = (store_of c.args.terms.origin moves).commits in
    omega (arith, c.requires.there, counts moves commits _ _ c.in_ok-commits.ensures, counts-graph moves commits _ _ c.in_ok-commits.ensures)

pub put_lines-requires-clause-made : goal.put_lines-requires-clause-made
put_lines-requires-clause-made g c κs within = counts-graph c.args.moves.now (store_of c.args.terms.origin c.args.moves.now).commits _ _ c.in_ok-commits.ensures

pub put_lines-requires-clause-marks : goal.put_lines-requires-clause-marks
put_lines-requires-clause-marks g c κs within = ap length c.deref.ensures.value ∙ c.in_ok-marks.ensures.count

pub returns : goal.returns
returns g c =
    let moves = c.args.moves.now in
    let commits = (store_of c.args.terms.origin moves).commits in
    let graph = c.in_ok-commits.commits.graph.commits in
    let made = c.in_ok-commits.commits.made.items in
    let marks = c.in_ok-marks.marks.items in
    let told = lines_told g.T.Tells.plain_op g.T.Forms.forms.reply moves graph made in
    let read = c.in_ok-commits.ensures in
    let size : length marks ≡ length commits = c.in_ok-marks.ensures.count ∙ sym (counts-graph moves commits graph made read) ∙ counts moves commits graph made read in
    whole-is c.put_lines.result c.args.out.now.items c.put_lines.new.out.items _ (log_text g.T.Tells.plain_op g.T.Forms.forms.reply commits c.args.at c.args.count) c.put_lines.ensures
    (ap (λ (ms : List Bool). told ms c.unwrap_or.result (length ms)) c.deref.ensures.value
    ∙ ap (λ (k : ℕ). told marks k (length marks)) c.unwrap_or.ensures
    ∙ lines-are moves commits graph made read g.T.Tells.plain_op g.T.Forms.forms.reply c.args.at c.args.count marks (length marks) size (omega (arith, c.in_ok-marks.ensures.count, c.marks_below.ensures.few)) c.in_ok-marks.ensures.marks)
