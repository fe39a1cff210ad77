use Rattle.std.proofs.Common.{◌≡◌, ℕ, None, Some, length, slice_get, ap, sym, subst}
use Rattle.std.specs.List.{flat_map}
use Rattle.mrdt_model.specs.Spelled.{AppendsPart}
use Rattle.branch_wire.specs.Fields.{number}
use Rattle.branch_wire.proofs.Parts.{part-first, on-err}
use Rattle.live_set.specs.Spelling.{kept_spelling, live_spelling}
use Rattle.live_set.proofs.Writing.{so_far-end}
use Rattle.live_set.proofs.Sharing.{first_not, written_part}
use Rattle.live_set.proofs.live.Live.put.Goals as goal

pub returns-in_err-put_u64-clause-err : goal.returns-in_err-put_u64-clause-err
returns-in_err-put_u64-clause-err g c =
    let old = c.args.out.now.items in
    let new = c.put_u64.new.out.items in
    let entries = c.args.self.now in
    let part = subst (λ (n : ℕ). AppendsPart old new (number n)) c.len.ensures c.in_err-put_u64.ensures.err in
    on-err c.from_residual.result (part-first old new (number (length entries)) (flat_map (kept_spelling g.V.Payload.spelling) entries) part)

pub returns-in_err-put_kept-clause-err : goal.returns-in_err-put_kept-clause-err
returns-in_err-put_kept-clause-err g c =
    let ahead = c.loop-kept.ahead in
    let kept = c.in-Some.kept.now in
    let at : slice_get ahead 0 ≡ Some kept = sym c.in-Some.ensures in
    on-err c.from_residual-in_err-put_kept.result
    (written_part (kept_spelling g.V.Payload.spelling) c.args.out.now.items c.loop-kept.out.items c.put_kept.new.out.items (live_spelling g.V.Payload.spelling c.args.self.now) ahead kept at c.loop-kept.invariant c.in_err-put_kept.ensures.err)

pub returns-clause-ok : goal.returns-clause-ok
returns-clause-ok g c =
    let spell = kept_spelling g.V.Payload.spelling in
    let ahead = c.loop-kept.ahead in
    let none : slice_get ahead 0 ≡ None = sym c.in_default.ensures in
    so_far-end c.args.out.now.items c.loop-kept.out.items (flat_map spell ahead) (live_spelling g.V.Payload.spelling c.args.self.now) c.loop-kept.invariant (ap (flat_map spell) (first_not ahead none))
