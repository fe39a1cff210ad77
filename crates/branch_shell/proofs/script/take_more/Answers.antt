use Rattle.std.proofs.Common.{◌≡◌, ◌+◌, ◌-◌, ◌≤◌, length, drop, length-drop, length-take-le, arith}
use Rattle.branch_shell.proofs.Buffers.{takes_behind}
use Rattle.branch_shell.proofs.script.take_more.Goals as goal

pub returns-clause-ok : goal.returns-clause-ok
returns-clause-ok g c =
    let old = c.args.buffer.now in
    let waiting = c.args.waiting in
    let size = waiting + c.args.room - waiting in
    let rest = length-drop waiting old in
    let fits : size ≤ length (drop waiting old) = omega (arith, rest, c.requires.within) in
    let part = length-take-le size (drop waiting old) fits in
    let long : length c.take.new.buf ≡ c.args.room = omega (arith, c.take.auto.buf, rest, part, c.requires.within) in
    takes_behind c.take.result waiting c.args.room size old c.take.new.buf (g.S.Source.left c.args.source.now) (g.S.Source.left c.take.new.self) (omega (arith, c.requires.within)) long c.requires.some c.take.ensures.bound c.take.ensures.bytes
