use Rattle.std.proofs.Common.{rules, ◌≡◌, ◌∙◌, ◌<◌, ◌^◌, ap, sym, length}
use Rattle.std.specs.List.{flat_map}
use Rattle.branch_wire.specs.Fields.{number}
use Rattle.branch_wire.proofs.Numbers.{number-same}
use Rattle.live_set.proofs.Alike.{counted-parts}
use Rattle.mrdt_sequence.specs.Sequence.{node_spelling}
use Rattle.mrdt_sequence.proofs.sequence.SequenceMrdt.same.Goals as goal

pub returns-then-len-clause-spelled : goal.returns-then-len-clause-spelled
returns-then-len-clause-spelled c short spelled =
    let mine = c.self.view_is in
    let theirs = c.other.view_is in
    let flat = (counted-parts node_spelling c.args.self.now c.args.other.now spelled).1 in
    sym mine ∙ c.are_same.ensures.spelled (ap (flat_map node_spelling) mine ∙ flat ∙ sym (ap (flat_map node_spelling) theirs)) ∙ theirs

pub returns-else-len-clause-spelled : goal.returns-else-len-clause-spelled
returns-else-len-clause-spelled c short spelled =
    let mine = c.len.result in
    let theirs = c.len-2.result in
    let count = (counted-parts node_spelling c.args.self.now c.args.other.now spelled).0 in
    let is_mine : mine ≡ length c.args.self.now = search rules in
    let is_theirs : theirs ≡ length c.args.other.now = search rules in
    let counts : number mine ≡ number theirs = ap number is_mine ∙ count ∙ sym (ap number is_theirs) in
    let short_mine : mine < 2 ^ 64 = search rules in
    let short_theirs : theirs < 2 ^ 64 = search rules in
    absurd (c.if-len.false (number-same mine theirs short_mine short_theirs counts))
