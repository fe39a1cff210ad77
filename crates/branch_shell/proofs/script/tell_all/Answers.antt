use Rattle.std.proofs.Common.{◌≡◌, ◌+◌, ◌<◌, ◌≤◌, ◌^◌, [], length, take, refl, ap, subst, ◌∙◌, inl, arith, length-append, length-take, length-take-le}
use Rattle.std.specs.Prelude.{OnOk, IfErr}
use Rattle.std.proofs.KnownBytes.{Consumes-nil}
use Rattle.std.proofs.lemmas.Result.{err_from_is_err_and}
use Rattle.branch_script.specs.Lines.{lines_of}
use Rattle.branch_shell.specs.Telling.{TellsLines, StopsLines, TellsWhole, StopsWhole, Takes, IsReading}
use Rattle.branch_shell.proofs.Buffers.{moved_rest, front_waiting}
use Rattle.branch_shell.proofs.Told.{tells-none}
use Rattle.branch_shell.proofs.Ends.{at_read_fault, at_long_line, at_long_input, next_reading, at_some_lines, at_last_result}
use Rattle.branch_shell.proofs.Finish.{last_stops, stops_telling}
use Rattle.branch_shell.specs.Values.{value_type}
use Rattle.branch_shell.proofs.script.tell_all.Goals as goal

pub loop-read-init : goal.loop-read-init
loop-read-init g c =
    let of = value_type g.T.Mrdt.meaning g.T.Forms.forms g.T.Kinded.KIND in
    let d = g.D.Disk in
    let laws = g.met.D.Disk in
    let l0 = g.S.Source.left c.args.source.now in
    record {
      reading = record {
        done = [];
        ended = inl refl;
        short = tt;
        unended = refl;
        took = Consumes-nil l0;
        counted = refl;
        told = tells-none d.may_leave d.moment d.left_since laws.counts_now laws.only_now of g.A.Address.address c.args.engine.now (g.K.Sink.given c.args.sink.now);
      };
      fewer = omega arith;
      most = omega arith;
      working = c.requires.working;
      source_same = refl;
      sink_same = refl;
      disk_same = refl;
    }

pub returns-in-Err-clause-ran : goal.returns-in-Err-clause-ran
returns-in-Err-clause-ran g c store at =
    let d = g.D.Disk in
    let laws = g.met.D.Disk in
    let address = g.A.Address.address in
    let of = value_type g.T.Mrdt.meaning g.T.Forms.forms g.T.Kinded.KIND in
    let l0 = g.S.Source.left c.args.source.now in
    let g0 = g.K.Sink.given c.args.sink.now in
    let l1 = g.S.Source.left c.loop-read.source in
    let g1 = g.K.Sink.given c.loop-read.sink in
    let first = c.args.engine.now in
    let e = c.loop-read.engine in
    let waiting = c.loop-read.waiting in
    let read = c.loop-read.read in
    let old = c.loop-read.buffer in
    let pending = take waiting old in
    let r = c.loop-read.invariant.reading in
    let l2 = g.S.Source.left c.take_more.new.source in
    let few : length pending < 4096 = omega (arith, length-take waiting old, c.loop-read.invariant.fewer) in
    at_read_fault of address d.may_leave d.moment d.left_since laws.counts_now laws.only_now l0 g0 first e pending read l1 g1 r store at l2 (omega (arith, c.loop-read-test.true)) few c.in-Err.ensures.err

pub returns-then-count-eq0-clause-ran : goal.returns-then-count-eq0-clause-ran
returns-then-count-eq0-clause-ran g c store at =
    let d = g.D.Disk in
    let laws = g.met.D.Disk in
    let address = g.A.Address.address in
    let of = value_type g.T.Mrdt.meaning g.T.Forms.forms g.T.Kinded.KIND in
    let l0 = g.S.Source.left c.args.source.now in
    let g0 = g.K.Sink.given c.args.sink.now in
    let l1 = g.S.Source.left c.loop-read.source in
    let g1 = g.K.Sink.given c.loop-read.sink in
    let first = c.args.engine.now in
    let e = c.loop-read.engine in
    let waiting = c.loop-read.waiting in
    let read = c.loop-read.read in
    let old = c.loop-read.buffer in
    let pending = take waiting old in
    let r = c.loop-read.invariant.reading in
    let l2 = g.S.Source.left c.take_more.new.source in
    let count = c.in-Ok.count in
    let new = c.take_more.new.buffer in
    let more = take (waiting + count) new in
    let t : Takes pending more l1 l2 count = c.in-Ok.ensures.ok.1 in
    let within : waiting ≤ length old = omega (arith, c.loop-read.invariant.fewer) in
    let same = front_waiting old new l1 l2 waiting count within t in
    let few : length more < 4096 = omega (arith, length-take (waiting + count) new, c.if-count-eq0.true, c.loop-read.invariant.fewer) in
    let f = c.tell_last.new.engine in
    let g2 = g.K.Sink.given c.tell_last.new.sink in
    let bytes_are : take waiting new ≡ more = let n : waiting ≡ waiting + count = omega (arith, c.if-count-eq0.true) in ap (λ k. take k new) n in
    at_last_result of address d.may_leave d.moment d.left_since laws.counts_now laws.only_now l0 g0 first e pending read l1 g1 r more l2 count t store at c.if-count-eq0.true (omega (arith, c.loop-read-test.true)) few f g2
    (g.K.Sink.faults c.loop-read.sink) (g.K.Sink.faults c.tell_last.new.sink) (d.faults e.core.disk) (d.faults f.core.disk) c.tell_last.result
    (subst (λ bytes. OnOk c.tell_last.result (TellsLines d.may_leave d.moment d.left_since of address (lines_of bytes) e f g1 g2)) bytes_are c.tell_last.ensures.ok)
    (subst (λ bytes. IfErr c.tell_last.result (StopsLines d.may_leave d.moment d.left_since of address (lines_of bytes) e f g1 g2)) bytes_are c.tell_last.ensures.err)
    c.tell_last.ensures.cause

pub returns-then-count-eq0-clause-reason : goal.returns-then-count-eq0-clause-reason
returns-then-count-eq0-clause-reason g c =
    let d = g.D.Disk in
    let i = c.loop-read.invariant in
    last_stops (g.S.Source.faults c.args.source.now) (g.S.Source.faults c.take_more.new.source) (g.K.Sink.faults c.args.sink.now) (g.K.Sink.faults c.loop-read.sink) (d.faults c.args.engine.now.core.disk) (d.faults c.loop-read.engine.core.disk)
    (g.K.Sink.faults c.tell_last.new.sink) (d.faults c.tell_last.new.engine.core.disk) (c.in-Ok.ensures.cause.succeeded ∙ i.source_same) i.sink_same i.disk_same c.tell_last.result c.tell_last.ensures.sink_same c.tell_last.ensures.disk_same c.tell_last.ensures.cause

pub returns-in_err-rest-clause-ran : goal.returns-in_err-rest-clause-ran
returns-in_err-rest-clause-ran g c store at =
    let d = g.D.Disk in
    let laws = g.met.D.Disk in
    let address = g.A.Address.address in
    let of = value_type g.T.Mrdt.meaning g.T.Forms.forms g.T.Kinded.KIND in
    let l0 = g.S.Source.left c.args.source.now in
    let g0 = g.K.Sink.given c.args.sink.now in
    let l1 = g.S.Source.left c.loop-read.source in
    let g1 = g.K.Sink.given c.loop-read.sink in
    let first = c.args.engine.now in
    let e = c.loop-read.engine in
    let waiting = c.loop-read.waiting in
    let read = c.loop-read.read in
    let old = c.loop-read.buffer in
    let pending = take waiting old in
    let r = c.loop-read.invariant.reading in
    let l2 = g.S.Source.left c.take_more.new.source in
    let count = c.in-Ok.count in
    let new = c.take_more.new.buffer in
    let more = take (waiting + count) new in
    let t : Takes pending more l1 l2 count = c.in-Ok.ensures.ok.1 in
    let f = c.tell_whole_lines.new.engine in
    let g2 = g.K.Sink.given c.tell_whole_lines.new.sink in
    let p = err_from_is_err_and c.from_residual.result c.from_residual.ensures.1 in
    let status = c.in_err-rest.field-0.0 in
    let most : read + count ≤ 2 ^ 32 = omega (arith, c.loop-read-test.true, c.min-room.ensures, c.in-Ok.ensures.ok.0) in
    let some : StopsWhole d.may_leave d.moment d.left_since of address more e f g1 g2 status = c.in_err-rest.ensures.err in
    rw (p.1, p.2) (at_some_lines of address d.may_leave d.moment d.left_since laws.counts_now laws.only_now l0 g0 first e pending read l1 g1 r more l2 count t store at f g2
    (g.K.Sink.faults c.loop-read.sink) (g.K.Sink.faults c.tell_whole_lines.new.sink) (d.faults e.core.disk) (d.faults f.core.disk) status c.in_err-rest.ensures.cause most some)

pub returns-in_err-rest-clause-reason : goal.returns-in_err-rest-clause-reason
returns-in_err-rest-clause-reason g c =
    let d = g.D.Disk in
    let i = c.loop-read.invariant in
    let p = err_from_is_err_and c.from_residual.result c.from_residual.ensures.1 in
    rw (p.1, p.2) (stops_telling (g.S.Source.faults c.args.source.now) (g.S.Source.faults c.take_more.new.source) (g.K.Sink.faults c.args.sink.now) (g.K.Sink.faults c.loop-read.sink) (d.faults c.args.engine.now.core.disk) (d.faults c.loop-read.engine.core.disk)
    (g.K.Sink.faults c.tell_whole_lines.new.sink) (d.faults c.tell_whole_lines.new.engine.core.disk) (c.in-Ok.ensures.cause.succeeded ∙ i.source_same) i.sink_same i.disk_same c.in_err-rest.field-0.0 c.in_err-rest.ensures.cause)

pub returns-then-waiting-ge-LINE_LIMIT-clause-ran : goal.returns-then-waiting-ge-LINE_LIMIT-clause-ran
returns-then-waiting-ge-LINE_LIMIT-clause-ran g c store at =
    let d = g.D.Disk in
    let laws = g.met.D.Disk in
    let address = g.A.Address.address in
    let of = value_type g.T.Mrdt.meaning g.T.Forms.forms g.T.Kinded.KIND in
    let l0 = g.S.Source.left c.args.source.now in
    let g0 = g.K.Sink.given c.args.sink.now in
    let l1 = g.S.Source.left c.loop-read.source in
    let g1 = g.K.Sink.given c.loop-read.sink in
    let first = c.args.engine.now in
    let e = c.loop-read.engine in
    let waiting = c.loop-read.waiting in
    let read = c.loop-read.read in
    let old = c.loop-read.buffer in
    let pending = take waiting old in
    let r = c.loop-read.invariant.reading in
    let l2 = g.S.Source.left c.take_more.new.source in
    let count = c.in-Ok.count in
    let new = c.take_more.new.buffer in
    let more = take (waiting + count) new in
    let t : Takes pending more l1 l2 count = c.in-Ok.ensures.ok.1 in
    let f = c.tell_whole_lines.new.engine in
    let g2 = g.K.Sink.given c.tell_whole_lines.new.sink in
    let rest = c.in_ok-rest.rest.now in
    let w : TellsWhole d.may_leave d.moment d.left_since of address more rest e f g1 g2 = c.in_ok-rest.ensures.ok in
    let next = next_reading of address d.may_leave d.moment d.left_since laws.counts_now laws.only_now l0 g0 first e pending read l1 g1 r more l2 count t rest f g2 w in
    let most : read + count ≤ 2 ^ 32 = omega (arith, c.loop-read-test.true, c.min-room.ensures, c.in-Ok.ensures.ok.0) in
    let size = length-take (waiting + count) new in
    let parts : length more ≡ length w.whole + length rest = ap length w.cut.parts ∙ length-append w.whole rest in
    let all : length rest ≡ 4096 = omega (arith, size, parts, c.min-room.ensures, c.in-Ok.ensures.ok.0, c.if-waiting-ge-LINE_LIMIT.true, c.loop-read.invariant.fewer) in
    at_long_line of address d.may_leave d.moment d.left_since laws.counts_now laws.only_now l0 g0 first f rest (read + count) l2 g2 next store at most all

pub overflow_sub-end : goal.overflow_sub-end
overflow_sub-end g c =
    let rest = c.in_ok-rest.rest.now in
    let end = c.loop-read.waiting + c.in-Ok.count in
    let w = c.in_ok-rest.ensures.ok in
    let size = length-take end c.take_more.new.buffer in
    let parts : length (take end c.take_more.new.buffer) ≡ length w.whole + length rest = ap length w.cut.parts ∙ length-append w.whole rest in
    omega (arith, size, parts)

pub loop-read-preserved : goal.loop-read-preserved
loop-read-preserved g c =
    let d = g.D.Disk in
    let laws = g.met.D.Disk in
    let address = g.A.Address.address in
    let of = value_type g.T.Mrdt.meaning g.T.Forms.forms g.T.Kinded.KIND in
    let l0 = g.S.Source.left c.args.source.now in
    let g0 = g.K.Sink.given c.args.sink.now in
    let l1 = g.S.Source.left c.loop-read.source in
    let g1 = g.K.Sink.given c.loop-read.sink in
    let first = c.args.engine.now in
    let e = c.loop-read.engine in
    let waiting = c.loop-read.waiting in
    let read = c.loop-read.read in
    let old = c.loop-read.buffer in
    let pending = take waiting old in
    let r = c.loop-read.invariant.reading in
    let l2 = g.S.Source.left c.take_more.new.source in
    let count = c.in-Ok.count in
    let new = c.take_more.new.buffer in
    let more = take (waiting + count) new in
    let t : Takes pending more l1 l2 count = c.in-Ok.ensures.ok.1 in
    let f = c.tell_whole_lines.new.engine in
    let g2 = g.K.Sink.given c.tell_whole_lines.new.sink in
    let rest = c.in_ok-rest.rest.now in
    let w : TellsWhole d.may_leave d.moment d.left_since of address more rest e f g1 g2 = c.in_ok-rest.ensures.ok in
    let next = next_reading of address d.may_leave d.moment d.left_since laws.counts_now laws.only_now l0 g0 first e pending read l1 g1 r more l2 count t rest f g2 w in
    let end = waiting + count in
    let within : end ≤ length new = omega (arith, c.take_more.ensures.size, c.min-room.ensures, c.in-Ok.ensures.ok.0, c.loop-read.invariant.fewer) in
    let size : length more ≡ end = length-take-le end new within in
    let front : rest ≡ take (length rest) c.move_to_front.new.buffer = moved_rest more w.whole rest c.move_to_front.new.buffer end (length rest) w.cut.parts size refl c.move_to_front.ensures.moved in
    record {
      reading = subst (λ xs. IsReading d.may_leave d.moment d.left_since of address first f xs (read + count) l0 l2 g0 g2) front next;
      fewer = omega (arith, c.if-waiting-ge-LINE_LIMIT.false);
      most = omega (arith, c.loop-read-test.true, c.min-room.ensures, c.in-Ok.ensures.ok.0);
      working = c.in_ok-rest.ensures.working;
      source_same = c.in-Ok.ensures.cause.succeeded ∙ c.loop-read.invariant.source_same;
      sink_same = c.in_ok-rest.ensures.sink_same ∙ c.loop-read.invariant.sink_same;
      disk_same = c.in_ok-rest.ensures.disk_same ∙ c.loop-read.invariant.disk_same;
    }

pub returns-clause-ran : goal.returns-clause-ran
returns-clause-ran g c store at =
    let of = value_type g.T.Mrdt.meaning g.T.Forms.forms g.T.Kinded.KIND in
    let d = g.D.Disk in
    let laws = g.met.D.Disk in
    let pending = take c.loop-read.waiting c.loop-read.buffer in
    let few : length pending < 4096 = omega (arith, length-take c.loop-read.waiting c.loop-read.buffer, c.loop-read.invariant.fewer) in
    at_long_input of g.A.Address.address d.may_leave d.moment d.left_since laws.counts_now laws.only_now (g.S.Source.left c.args.source.now) (g.K.Sink.given c.args.sink.now) c.args.engine.now c.loop-read.engine pending c.loop-read.read (g.S.Source.left c.loop-read.source) (g.K.Sink.given c.loop-read.sink)
    c.loop-read.invariant.reading store at (omega (arith, c.loop-read-test.false, c.loop-read.invariant.most)) few
