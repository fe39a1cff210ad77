use Rattle.std.proofs.Common.{◌<◌, ◌++◌, ◌∷◌, [], length, refl, inl, subst, sym, ◌∙◌, arith}
use Rattle.std.proofs.lemmas.Result.{err_from_is_err_and}
use Rattle.branch_script.specs.Lines.{lines_of}
use Rattle.branch_shell.specs.Reading.{AreShort}
use Rattle.branch_shell.specs.Telling.{TellsLines, StopsLines, StopsWhole}
use Rattle.branch_shell.proofs.Cuts.{next_line, whole-more, short-append}
use Rattle.branch_shell.proofs.Told.{tells-none, tells-append, stops-append}
use Rattle.branch_shell.specs.Values.{value_type}
use Rattle.branch_shell.proofs.script.tell_whole_lines.Goals as goal

pub returns-in_err-tell_line-clause-err : goal.returns-in_err-tell_line-clause-err
returns-in_err-tell_line-clause-err g c =
    let d = g.D.Disk in
    let laws = g.met.D.Disk in
    let address = g.A.Address.address in
    let of = value_type g.T.Mrdt.meaning g.T.Forms.forms g.T.Kinded.KIND in
    let before = c.loop-line.invariant in
    let line = c.in-Some.line.now in
    let behind = c.in-Some.behind.now in
    let given = g.K.Sink.given in
    let next = next_line c.args.bytes.now before.done line behind c.loop-line.rest.now before.parts c.in-Some.ensures.some.0 before.ended c.in-Some.ensures.some.1 in
    let status = c.in_err-tell_line.field-0.0 in
    let told : StopsLines d.may_leave d.moment d.left_since of address (line ∷ []) c.loop-line.engine c.tell_line.new.engine (given c.loop-line.sink) (given c.tell_line.new.sink) status = c.in_err-tell_line.ensures.err in
    let small : length line < 4096 = omega (arith, next.shorter, c.requires.few) in
    let some : StopsWhole d.may_leave d.moment d.left_since of address c.args.bytes.now c.args.engine.now c.tell_line.new.engine (given c.args.sink.now) (given c.tell_line.new.sink) status =
    record {
      whole = (before.done ++ line) ++ 10 ∷ [];
      rest = behind;
      parts = next.parts;
      ended = whole-more before.done line;
      short = subst AreShort (sym next.lines) (short-append (lines_of before.done) (line ∷ []) before.short (small, tt));
      stopped =
          subst (λ ls. StopsLines d.may_leave d.moment d.left_since of address ls c.args.engine.now c.tell_line.new.engine (given c.args.sink.now) (given c.tell_line.new.sink) status) (sym next.lines)
          (stops-append d.may_leave d.moment d.left_since laws.counts_now laws.only_now of address (lines_of before.done) (line ∷ []) c.args.engine.now c.loop-line.engine c.tell_line.new.engine (given c.args.sink.now) (given c.loop-line.sink) (given c.tell_line.new.sink) status before.told told);
    }
    in
    let p = err_from_is_err_and c.from_residual.result c.from_residual.ensures.1 in
    rw (p.1, p.2) some

pub loop-line-init : goal.loop-line-init
loop-line-init g c =
    let d = g.D.Disk in
    let laws = g.met.D.Disk in
    let address = g.A.Address.address in
    let of = value_type g.T.Mrdt.meaning g.T.Forms.forms g.T.Kinded.KIND in
    record {
      done = [];
      parts = refl;
      ended = inl refl;
      short = tt;
      told = tells-none d.may_leave d.moment d.left_since laws.counts_now laws.only_now of address c.args.engine.now (g.K.Sink.given c.args.sink.now);
      within = c.requires.within;
      open_front = c.requires.unended;
      working = c.requires.working;
      sink_same = refl;
      disk_same = refl;
    }

pub loop-line-preserved : goal.loop-line-preserved
loop-line-preserved g c =
    let d = g.D.Disk in
    let laws = g.met.D.Disk in
    let address = g.A.Address.address in
    let of = value_type g.T.Mrdt.meaning g.T.Forms.forms g.T.Kinded.KIND in
    let before = c.loop-line.invariant in
    let line = c.in-Some.line.now in
    let behind = c.in-Some.behind.now in
    let given = g.K.Sink.given in
    let next = next_line c.args.bytes.now before.done line behind c.loop-line.rest.now before.parts c.in-Some.ensures.some.0 before.ended c.in-Some.ensures.some.1 in
    let told : TellsLines d.may_leave d.moment d.left_since of address (line ∷ []) c.loop-line.engine c.tell_line.new.engine (given c.loop-line.sink) (given c.tell_line.new.sink) = c.in_ok-tell_line.ensures.ok in
    let small : length line < 4096 = omega (arith, next.shorter, c.requires.few) in
    record {
      done = (before.done ++ line) ++ 10 ∷ [];
      parts = next.parts;
      ended = whole-more before.done line;
      short = subst AreShort (sym next.lines) (short-append (lines_of before.done) (line ∷ []) before.short (small, tt));
      told =
          subst (λ ls. TellsLines d.may_leave d.moment d.left_since of address ls c.args.engine.now c.tell_line.new.engine (given c.args.sink.now) (given c.tell_line.new.sink)) (sym next.lines)
          (tells-append d.may_leave d.moment d.left_since laws.counts_now laws.only_now of address (lines_of before.done) (line ∷ []) c.args.engine.now c.loop-line.engine c.tell_line.new.engine (given c.args.sink.now) (given c.loop-line.sink) (given c.tell_line.new.sink) before.told told);
      within = omega arith;
      open_front = refl;
      working = c.in_ok-tell_line.ensures.working;
      sink_same = c.in_ok-tell_line.ensures.sink_same ∙ before.sink_same;
      disk_same = c.in_ok-tell_line.ensures.disk_same ∙ before.disk_same;
    }
