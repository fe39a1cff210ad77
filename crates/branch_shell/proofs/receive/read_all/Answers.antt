-- Each piece is put behind those before it.
use Rattle.std.proofs.Common.{◌≡◌, ◌+◌, ◌++◌, ◌∙◌, ◌≤◌, ◌<◌, ◌^◌, [], length, take, refl, ap, subst, sym, arith, length-append}
use Rattle.std.specs.Io.KnownBytes.{Consumes}
use Rattle.std.proofs.KnownBytes.{Consumes-nil, Consumes-kept}
use Rattle.branch_shell.specs.Telling.{Takes}
use Rattle.branch_shell.proofs.Received.{took-more, counted-more, took-none}
use Rattle.branch_shell.proofs.receive.read_all.Goals as goal

pub loop-read-init : goal.loop-read-init
loop-read-init g c =
    let left = g.S.Source.left c.args.source.now in
    let none = c.new-bytes.ensures.items in
    record { took = subst (Consumes left left) (sym none) (Consumes-nil left); counted = sym (ap length none); most = omega arith; same = refl }

pub returns-in-Err-clause-stopped : goal.returns-in-Err-clause-stopped
returns-in-Err-clause-stopped g c =
    let i = c.loop-read.invariant in
    let counted = i.counted in (
      c.loop-read.bytes.items,
      Consumes-kept (g.S.Source.left c.args.source.now) (g.S.Source.left c.loop-read.source) (g.S.Source.left c.take_more.new.source) c.loop-read.bytes.items i.took c.in-Err.ensures.err,
      omega (arith, counted, c.loop-read-test.true),
    )

pub returns-then-count-eq0-clause-read : goal.returns-then-count-eq0-clause-read
returns-then-count-eq0-clause-read g c =
    let i = c.loop-read.invariant in
    took-none (g.S.Source.left c.args.source.now) (g.S.Source.left c.loop-read.source) (g.S.Source.left c.take_more.new.source) c.loop-read.bytes.items c.loop-read.buffer c.take_more.new.buffer c.in-Ok.count c.loop-read.read
    i.took i.counted c.in-Ok.ensures.ok.1 c.if-count-eq0.true

pub returns-then-count-eq0-clause-end : goal.returns-then-count-eq0-clause-end
returns-then-count-eq0-clause-end g c = c.in-Ok.ensures.ok.1.last c.if-count-eq0.true

pub returns-then-count-eq0-clause-few : goal.returns-then-count-eq0-clause-few
returns-then-count-eq0-clause-few g c = let counted = c.loop-read.invariant.counted in omega (arith, counted, c.loop-read-test.true)

pub returns-then-count-eq0-clause-same : goal.returns-then-count-eq0-clause-same
returns-then-count-eq0-clause-same g c = c.in-Ok.ensures.cause.succeeded ∙ c.loop-read.invariant.same

pub returns-in_default-clause-stopped : goal.returns-in_default-clause-stopped
returns-in_default-clause-stopped g c =
    let i = c.loop-read.invariant in
    let l0 = g.S.Source.left c.args.source.now in
    let l1 = g.S.Source.left c.loop-read.source in
    let l2 = g.S.Source.left c.take_more.new.source in
    let bytes = c.loop-read.bytes.items in
    let old = c.loop-read.buffer in
    let new = c.take_more.new.buffer in
    let takes = c.in-Ok.ensures.ok.1 in
    let counted = counted-more l0 l1 l2 bytes old new c.in-Ok.count c.loop-read.read i.took i.counted takes in
    (bytes ++ take c.in-Ok.count new, took-more l0 l1 l2 bytes old new c.in-Ok.count c.loop-read.read i.took i.counted takes, omega (arith, counted, c.in-Ok.ensures.ok.0, c.loop-read-test.true))
