-- The next move, or none.
use Rattle.std.proofs.Common.{◌≡◌, ◌+◌, ◌++◌, length, take, drop, ap, subst, sym, ◌∙◌}
use Rattle.branch_shared.specs.Batches.{told, brings, brought, sure_after}
use Rattle.branch_shared.specs.Entries.{AreNoted, entries_at, moves_of, moments_of}
use Rattle.branch_shared.specs.Keeps.{faults_since}
use Rattle.branch_shared.proofs.Places.{next-brought, brought-long, brought-noted, brought-moves, brought-moments}
use Rattle.branch_shared.proofs.batch.tell.Goals as goal

pub returns-clause-history : goal.returns-clause-history
returns-clause-history g c =
    let begun = g.N.Named.begun in
    let known = c.args.writer.now.moves in
    let history = c.args.core.now.history in
    let next = take 1 (drop (length (begun ++ moves_of known)) history) in
    ap (λ w. begun ++ moves_of w.moves) c.tell_as.ensures.writer
    ∙ (ap (λ l. begun ++ l) (brought-moves (g.D.Disk.moment c.args.core.now.disk) known next c.args.answer.now)
    ∙ next-brought begun (moves_of known) history c.args.answer.now c.requires.known c.requires.more)

pub returns-clause-noted : goal.returns-clause-noted
returns-clause-noted g c =
    let known = c.args.writer.now.moves in
    let since = g.D.Disk.moment c.args.core.now.disk in
    let next = take 1 (drop (length (g.N.Named.begun ++ moves_of known)) c.args.core.now.history) in
    subst (λ w. AreNoted since known w.moves) (sym c.tell_as.ensures.writer) (brought-noted since known next c.args.answer.now)

pub returns-clause-sure : goal.returns-clause-sure
returns-clause-sure g c =
    let known = c.args.writer.now.moves in
    let history = c.args.core.now.history in
    let next = take 1 (drop (length (g.N.Named.begun ++ moves_of known)) history) in
    ap (λ w. moments_of w.moves) c.tell_as.ensures.writer
    ∙ brought-moments (g.D.Disk.moment c.args.core.now.disk) known next c.args.answer.now (brought-long g.N.Named.begun (moves_of known) history c.args.answer.now c.requires.known c.requires.more)

pub returns-clause-pass : goal.returns-clause-pass
returns-clause-pass g c =
    let begun = g.N.Named.begun in
    let known = c.args.writer.now.moves in
    let history = c.args.core.now.history in
    let since = g.D.Disk.moment c.args.core.now.disk in
    let answer = c.args.answer.now in
    let faults = faults_since g.D.Disk.faults c.args.core.now in
    let next = take 1 (drop (length (begun ++ moves_of known)) history) in
    let moves : begun ++ moves_of c.tell_as.new.writer.moves ≡ take (length (begun ++ moves_of known) + brings answer) history = ap (λ w. begun ++ moves_of w.moves) c.tell_as.ensures.writer
    ∙ (ap (λ l. begun ++ l) (brought-moves since known next answer) ∙ next-brought begun (moves_of known) history answer c.requires.known c.requires.more) in
    let moments : moments_of c.tell_as.new.writer.moves ≡ sure_after since (moments_of known) answer = ap (λ w. moments_of w.moves) c.tell_as.ensures.writer
    ∙ brought-moments since known next answer (brought-long begun (moves_of known) history answer c.requires.known c.requires.more) in
    c.tell_as.ensures.pass
    ∙ (ap (λ h. told faults h (moments_of c.tell_as.new.writer.moves) answer c.args.pass.now) moves
    ∙ ap (λ l. told faults (take (length (begun ++ moves_of known) + brings answer) history) l answer c.args.pass.now) moments)
