-- The index gets a key that it does not have.
use Rattle.std.proofs.Common.{sym, ◌∙◌}
use Rattle.shared_chunks.specs.Keys.{HasKey}
use Rattle.shared_chunks.proofs.Keyed.{index-known, index-put_kept, index-put_next, if_some, if_none}
use Rattle.shared_chunks.proofs.chunk.index_key.Goals as goal

pub returns-then-is_some-clause-next : goal.returns-then-is_some-clause-next
returns-then-is_some-clause-next g c = λ next its.
    let known = if_some c.find_place.result (λ n. HasKey g.X.Entry.key_of c.args.entries.now n c.args.key) (sym c.is_some.ensures ∙ c.if-is_some.true) c.find_place.ensures.has in
    index-known g.X.Entry.key_of c.args.entries.now next known.0 c.args.key c.args.index.now known.1 its c.requires

pub returns-in-Ok-clause-kept : goal.returns-in-Ok-clause-kept
returns-in-Ok-clause-kept g c =
    let free = if_none c.find_place.result _ (sym c.is_some.ensures ∙ c.if-is_some.false) c.find_place.ensures.none in
    index-put_kept g.X.Entry.key_of c.args.entries.now c.args.key c.args.index.now c.insert.new.self free c.in-Ok.ensures.updates c.requires

pub returns-in-Ok-clause-next : goal.returns-in-Ok-clause-next
returns-in-Ok-clause-next g c =
    let free = if_none c.find_place.result _ (sym c.is_some.ensures ∙ c.if-is_some.false) c.find_place.ensures.none in
    index-put_next g.X.Entry.key_of c.args.entries.now c.args.key c.args.index.now c.insert.new.self free c.in-Ok.ensures.updates c.requires
