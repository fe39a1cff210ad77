use Rattle.std.proofs.Common.{◌≡◌, ◌+◌, ◌++◌, ◌∷◌, List, ℕ, [], length, length-append, append-nil, refl, inl, ap, subst, sym, ◌∙◌, arith}
use Rattle.std.specs.Prelude.{None}
use Rattle.branch_script.specs.Lines.{lines_of}
use Rattle.branch_print.specs.Summaries.{summary_of}
use Rattle.branch_shell.specs.Telling.{TellsLines, CountsLines, LeavesSome}
use Rattle.branch_shell.proofs.Cuts.{next_line, whole-more, lines_of-whole}
use Rattle.branch_shell.proofs.Told.{tells-none, tells-append}
use Rattle.branch_shell.proofs.Worked.{counts-none, counts-append, leaves-append, leaves_more, leaves_told, whole_behind, no_rest}
use Rattle.branch_shell.specs.Values.{value_type}
use Rattle.branch_shell.proofs.generate.count_lines.Goals as goal

pub loop-line-init : goal.loop-line-init
loop-line-init g c =
    let d = g.D.Disk in
    let laws = g.met.D.Disk in
    let address = g.A.Address.address in
    let of = value_type g.T.Mrdt.meaning g.T.Forms.forms g.T.Kinded.KIND in
    record {
      done = [];
      parts = refl;
      ended = inl refl;
      rest_ended = c.requires.ended;
      told = tells-none d.may_leave d.moment d.left_since laws.counts_now laws.only_now of address c.args.engine.now None;
      counted = subst (CountsLines d.may_leave of address [] c.args.engine.now (summary_of [])) (sym c.new-summary.ensures.none) (counts-none d.may_leave d.moment d.left_since laws.counts_now laws.only_now of address c.args.engine.now (summary_of []));
      few = omega (arith, ap (λ s. s.lines) c.new-summary.ensures.none);
      within = c.new-summary.ensures.within;
      working = c.requires.working;
      disk_same = refl;
    }

pub loop-line-preserved : goal.loop-line-preserved
loop-line-preserved g c =
    let d = g.D.Disk in
    let laws = g.met.D.Disk in
    let address = g.A.Address.address in
    let of = value_type g.T.Mrdt.meaning g.T.Forms.forms g.T.Kinded.KIND in
    let before = c.loop-line.invariant in
    let line = c.in-Some.line.now in
    let behind = c.in-Some.behind.now in
    let next = next_line c.args.text.now before.done line behind c.loop-line.rest.now before.parts c.in-Some.ensures.some.0 before.ended c.in-Some.ensures.some.1 in
    let told : TellsLines d.may_leave d.moment d.left_since of address (line ∷ []) c.loop-line.engine c.count_line.new.engine None None = c.in_ok-count_line.ensures.told in
    let counted : CountsLines d.may_leave of address (line ∷ []) c.loop-line.engine c.loop-line.summary c.count_line.new.summary = c.in_ok-count_line.ensures.counted in
    let long : length ((before.done ++ line) ++ 10 ∷ []) ≡ (length before.done + length line) + 1 = length-append (before.done ++ line) (10 ∷ []) ∙ ap (λ n. n + 1) (length-append before.done line) in
    let one = c.in_ok-count_line.ensures.one in
    let few = before.few in
    record {
      done = (before.done ++ line) ++ 10 ∷ [];
      parts = next.parts;
      ended = whole-more before.done line;
      rest_ended = whole_behind c.loop-line.rest.now line behind before.rest_ended c.in-Some.ensures.some.0;
      told =
          subst (λ ls. TellsLines d.may_leave d.moment d.left_since of address ls c.args.engine.now c.count_line.new.engine None None) (sym next.lines)
          (tells-append d.may_leave d.moment d.left_since laws.counts_now laws.only_now of address (lines_of before.done) (line ∷ []) c.args.engine.now c.loop-line.engine c.count_line.new.engine None None None before.told told);
      counted =
          subst (λ ls. CountsLines d.may_leave of address ls c.args.engine.now (summary_of []) c.count_line.new.summary) (sym next.lines)
          (counts-append d.may_leave d.moment d.left_since laws.counts_now laws.only_now of address (lines_of before.done) (line ∷ []) c.args.engine.now c.loop-line.engine c.count_line.new.engine (summary_of []) c.loop-line.summary c.count_line.new.summary before.told before.counted counted);
      few = omega (arith, long, one, few);
      within = c.in_ok-count_line.ensures.within;
      working = c.in_ok-count_line.ensures.working;
      disk_same = c.in_ok-count_line.ensures.disk_same ∙ before.disk_same;
    }

pub returns-in_err-count_line-clause-moments : goal.returns-in_err-count_line-clause-moments
returns-in_err-count_line-clause-moments g c =
    let d = g.D.Disk in
    let laws = g.met.D.Disk in
    let address = g.A.Address.address in
    let of = value_type g.T.Mrdt.meaning g.T.Forms.forms g.T.Kinded.KIND in
    let before = c.loop-line.invariant in
    let line = c.in-Some.line.now in
    let behind = c.in-Some.behind.now in
    let next = next_line c.args.text.now before.done line behind c.loop-line.rest.now before.parts c.in-Some.ensures.some.0 before.ended c.in-Some.ensures.some.1 in
    let all : lines_of c.args.text.now ≡ (lines_of before.done ++ line ∷ []) ++ lines_of behind =
    ap lines_of next.parts ∙ lines_of-whole ((before.done ++ line) ++ 10 ∷ []) behind (whole-more before.done line) ∙ ap (λ ls. ls ++ lines_of behind) next.lines in
    subst (λ ls. LeavesSome d.may_leave d.moment d.left_since of address ls c.args.engine.now c.count_line.new.engine) (sym all)
    (leaves_more d.may_leave d.moment d.left_since laws.counts_now laws.only_now of address (lines_of before.done ++ line ∷ []) (lines_of behind) c.args.engine.now c.count_line.new.engine
    (leaves-append d.may_leave d.moment d.left_since laws.counts_now laws.only_now of address (lines_of before.done) (line ∷ []) c.args.engine.now c.loop-line.engine c.count_line.new.engine before.told c.count_line.ensures.moments))

pub returns-clause-told : goal.returns-clause-told
returns-clause-told g c =
    let of = value_type g.T.Mrdt.meaning g.T.Forms.forms g.T.Kinded.KIND in
    let d = g.D.Disk in
    let before = c.loop-line.invariant in
    let none = no_rest c.loop-line.rest.now before.rest_ended c.in_default.ensures.none in
    let same : c.args.text.now ≡ before.done = before.parts ∙ ap (λ r. before.done ++ r) none ∙ append-nil before.done in
    subst (λ (t : List ℕ). TellsLines d.may_leave d.moment d.left_since of g.A.Address.address (lines_of t) c.args.engine.now c.loop-line.engine None None) (sym same) before.told

pub returns-clause-counted : goal.returns-clause-counted
returns-clause-counted g c =
    let of = value_type g.T.Mrdt.meaning g.T.Forms.forms g.T.Kinded.KIND in
    let before = c.loop-line.invariant in
    let none = no_rest c.loop-line.rest.now before.rest_ended c.in_default.ensures.none in
    let same : c.args.text.now ≡ before.done = before.parts ∙ ap (λ r. before.done ++ r) none ∙ append-nil before.done in
    subst (λ (t : List ℕ). CountsLines g.D.Disk.may_leave of g.A.Address.address (lines_of t) c.args.engine.now (summary_of []) c.loop-line.summary) (sym same) before.counted

pub returns-clause-moments : goal.returns-clause-moments
returns-clause-moments g c =
    let of = value_type g.T.Mrdt.meaning g.T.Forms.forms g.T.Kinded.KIND in
    let d = g.D.Disk in
    let laws = g.met.D.Disk in
    let before = c.loop-line.invariant in
    let none = no_rest c.loop-line.rest.now before.rest_ended c.in_default.ensures.none in
    let same : c.args.text.now ≡ before.done = before.parts ∙ ap (λ r. before.done ++ r) none ∙ append-nil before.done in
    subst (λ (t : List ℕ). LeavesSome d.may_leave d.moment d.left_since of g.A.Address.address (lines_of t) c.args.engine.now c.loop-line.engine) (sym same)
    (leaves_told d.may_leave d.moment d.left_since laws.counts_now laws.only_now of g.A.Address.address (lines_of before.done) c.args.engine.now c.loop-line.engine before.told)
