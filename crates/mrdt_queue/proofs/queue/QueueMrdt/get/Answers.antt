use Rattle.std.proofs.Common.{rules, ◌∙◌, ◌<◌, ◌^◌, ap, sym, subst, length}
use Rattle.branch_wire.specs.Fields.{field}
use Rattle.live_set.specs.Spelling.{live_spelling}
use Rattle.mrdt_queue.specs.QueueLaws.{content-inside}
use Rattle.mrdt_queue.proofs.queue.QueueMrdt.get.Goals as goal

pub returns-clause-stands : goal.returns-clause-stands
returns-clause-stands c other spelled x l is =
    let short : length c.args.bytes.now < 2 ^ 64 = search rules in
    let own = ap (live_spelling field) (sym is) ∙ spelled in
    c.in_ok-get.ensures.equal _ (content-inside x l.well_formed l.few (subst (λ b. length b < 2 ^ 64) (sym own) short)) own
