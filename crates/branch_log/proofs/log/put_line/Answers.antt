-- The line of the commit of which this is kept.
use Rattle.std.proofs.Common.{◌≡◌, ℕ, ◌++◌, ◌∙◌, List, codes, decimal, length, refl, ap, sym, arith, rules}
use Rattle.std.proofs.lemmas.Option.{slice_get_read}
use Rattle.branch_print.specs.Texts.{line_end}
use Rattle.branch_log.specs.Made.{event_told}
use Rattle.branch_log.specs.Logs.{act_text}
use Rattle.branch_log.proofs.Parts.{line-written}
use Rattle.branch_log.proofs.Told.{line-of}
use Rattle.branch_log.proofs.log.put_line.Goals as goal

pub returns : goal.returns
returns g c =
    let op = g.T.Tells.plain_op in
    let reply = g.T.Forms.forms.reply in
    let moves = c.args.moves.now in
    let graph = c.args.commits.now.graph.commits in
    let made = c.args.commits.now.made.items in
    let n = c.args.number in
    let m = c.index-made.result.now in
    let act : List ℕ → List ℕ = λ parents. act_text op reply (event_told moves m) parents in
    let is_number : c.from.result ≡ n = first_of (omega arith, search rules) in
    let line = line-of moves graph made n m (slice_get_read made (length made) n m refl c.requires.made c.index-made.ensures) op reply in
    line-written c.put_text-3.result c.args.out.now.items c.put_text.new.out.items c.put_number.new.out.items c.put_text-2.new.out.items c.put_act.new.out.items c.put_text-3.new.out.items
    (codes "#") (decimal c.from.result) (codes " ") (act c.parents-parents.result.now) line_end _
    c.in_ok-put_text.ensures.ok c.in_ok-put_number.ensures.ok c.in_ok-put_text-2.ensures.ok c.in_ok-put_act.ensures c.put_text-3.ensures.ok
    (line ∙ ap (λ (parents : List ℕ). codes "#" ++ decimal n ++ codes " " ++ act parents ++ line_end) (sym c.parents-parents.ensures.parents)
    ∙ ap (λ (k : ℕ). codes "#" ++ decimal k ++ codes " " ++ act c.parents-parents.result.now ++ line_end) (sym is_number))
