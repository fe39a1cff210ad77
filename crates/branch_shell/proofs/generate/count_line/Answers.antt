use Rattle.std.proofs.Common.{◌≡◌, ◌≢◌, ◌==◌, ◌++◌, ℕ, [], length, false, ap, sym, subst, ◌∙◌, arith}
use Rattle.std.specs.Prelude.{None}
use Rattle.branch_engine.specs.Play.{line_told}
use Rattle.branch_shell.proofs.Told.{line_tells}
use Rattle.branch_shell.proofs.Worked.{leaves_line, counts_reply}
use Rattle.branch_shell.specs.Values.{value_type}
use Rattle.branch_shell.specs.Documents.{fixed_under}
use Rattle.branch_shell.proofs.generate.count_line.Goals as goal

not_empty : (n : ℕ) → (n == 0) ≡ false → n ≡ 0 → ⊥
not_empty n said none = let no : (0 == 0) ≡ false = subst (λ k. (k == 0) ≡ false) none said in cc no

pub returns-in-Err-DiskFault-clause-moments : goal.returns-in-Err-DiskFault-clause-moments
returns-in-Err-DiskFault-clause-moments g c =
    let of = value_type g.T.Mrdt.meaning g.T.Forms.forms g.T.Kinded.KIND in
    let d = g.D.Disk in
    let laws = g.met.D.Disk in
    leaves_line d.may_leave d.moment d.left_since laws.counts_now laws.only_now of g.A.Address.address c.args.line.now c.args.engine.now c.tell.new.self c.tell.ensures.moments

pub returns-in-Err-Memory-clause-moments : goal.returns-in-Err-Memory-clause-moments
returns-in-Err-Memory-clause-moments g c =
    let of = value_type g.T.Mrdt.meaning g.T.Forms.forms g.T.Kinded.KIND in
    let d = g.D.Disk in
    let laws = g.met.D.Disk in
    leaves_line d.may_leave d.moment d.left_since laws.counts_now laws.only_now of g.A.Address.address c.args.line.now c.args.engine.now c.tell.new.self c.tell.ensures.moments

pub returns-then-not-is_empty-clause-told : goal.returns-then-not-is_empty-clause-told
returns-then-not-is_empty-clause-told g c terms p at =
    let of = value_type g.T.Mrdt.meaning g.T.Forms.forms g.T.Kinded.KIND in
    let d = g.D.Disk in
    let laws = g.met.D.Disk in
    line_tells d.may_leave d.moment d.left_since laws.counts_now laws.only_now c.args.line.now c.args.engine.now c.tell.new.self of.forms (fixed_under of g.A.Address.address terms) p (c.tell.ensures.moments terms p at) None None (c.in-Ok.ensures.ok terms p at).0 tt

pub returns-then-not-is_empty-clause-counted : goal.returns-then-not-is_empty-clause-counted
returns-then-not-is_empty-clause-counted g c terms p at replies is =
    let of = value_type g.T.Mrdt.meaning g.T.Forms.forms g.T.Kinded.KIND in
    let text = (line_told of.forms (fixed_under of g.A.Address.address terms) p c.args.line.now).text in
    let reply = c.deref.result.now in
    let same : reply ≡ text = c.deref.ensures.value ∙ (c.in-Ok.ensures.ok terms p at).1 ∙ ap (λ xs. xs ++ text) c.clear.ensures.items in
    let said : (c.tell.new.out.len == 0) ≡ false = sym c.is_empty.ensures ∙ c.if-not-is_empty.true in
    let long : c.tell.new.out.len ≡ length reply = omega (arith, c.deref.ensures.len) in
    let full : reply ≢ [] = λ none. not_empty c.tell.new.out.len said (long ∙ ap length none) in
    counts_reply text reply replies c.count.new.self same full (c.count.ensures.counted replies is)

pub returns-then-not-is_empty-clause-moments : goal.returns-then-not-is_empty-clause-moments
returns-then-not-is_empty-clause-moments g c =
    let of = value_type g.T.Mrdt.meaning g.T.Forms.forms g.T.Kinded.KIND in
    let d = g.D.Disk in
    let laws = g.met.D.Disk in
    leaves_line d.may_leave d.moment d.left_since laws.counts_now laws.only_now of g.A.Address.address c.args.line.now c.args.engine.now c.tell.new.self c.tell.ensures.moments

pub returns-else-not-is_empty-clause-told : goal.returns-else-not-is_empty-clause-told
returns-else-not-is_empty-clause-told g c terms p at =
    let of = value_type g.T.Mrdt.meaning g.T.Forms.forms g.T.Kinded.KIND in
    let d = g.D.Disk in
    let laws = g.met.D.Disk in
    line_tells d.may_leave d.moment d.left_since laws.counts_now laws.only_now c.args.line.now c.args.engine.now c.tell.new.self of.forms (fixed_under of g.A.Address.address terms) p (c.tell.ensures.moments terms p at) None None (c.in-Ok.ensures.ok terms p at).0 tt

pub returns-else-not-is_empty-clause-moments : goal.returns-else-not-is_empty-clause-moments
returns-else-not-is_empty-clause-moments g c =
    let of = value_type g.T.Mrdt.meaning g.T.Forms.forms g.T.Kinded.KIND in
    let d = g.D.Disk in
    let laws = g.met.D.Disk in
    leaves_line d.may_leave d.moment d.left_since laws.counts_now laws.only_now of g.A.Address.address c.args.line.now c.args.engine.now c.tell.new.self c.tell.ensures.moments
