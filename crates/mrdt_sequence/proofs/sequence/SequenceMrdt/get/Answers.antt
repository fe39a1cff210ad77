use Rattle.std.proofs.Common.{rules, ◌∙◌, ◌<◌, ◌^◌, ap, sym, subst, length}
use Rattle.mrdt_sequence.specs.Sequence.{nodes, sequence_spelling}
use Rattle.mrdt_sequence.specs.InGrammar.{nodes-inside}
use Rattle.mrdt_sequence.proofs.sequence.SequenceMrdt.get.Goals as goal

pub returns-clause-stands : goal.returns-clause-stands
returns-clause-stands c other spelled x l is =
    let short : length c.args.bytes.now < 2 ^ 64 = search rules in
    let own = ap sequence_spelling (sym is) ∙ spelled in
    c.in_ok-of.ensures ∙ c.in_ok-get_nodes.ensures.equal (nodes x) (nodes-inside x l.well_formed l.faithful l.few (subst (λ b. length b < 2 ^ 64) (sym own) short)) own
