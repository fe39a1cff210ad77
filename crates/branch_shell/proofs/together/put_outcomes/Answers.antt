-- One line more; and which client told of a fault.
use Rattle.std.proofs.Common.{◌≡◌, ◌+◌, ◌++◌, ◌∷◌, ◌∙◌, [], length, take, refl, ap, sym, Some}
use Rattle.std.specs.Prelude.{slice_get}
use Rattle.std.proofs.lemmas.Grind.{take_at_read}
use Rattle.std.proofs.lemmas.Option.{slice_get_read}
use Rattle.std.proofs.lemmas.Result.{err_from_is_err_and}
use Rattle.branch_shell.specs.Together.{TellsFault, SomeTellFault}
use Rattle.branch_shell.proofs.Outcomes.{one_more_written, stops_map}
use Rattle.branch_shell.proofs.together.put_outcomes.Goals as goal

pub loop-client-preserved : goal.loop-client-preserved
loop-client-preserved c =
    let outcomes = c.args.outcomes.now in
    let k = c.loop-client.client in
    let one = c.index-outcomes-client.result in
    let before = c.loop-client.invariant in
    let front : take (k + 1) outcomes ≡ take k outcomes ++ one ∷ [] = (take_at_read outcomes k one c.loop-client-test.true).1 ∙ ap (λ x. take k outcomes ++ x ∷ []) (sym c.index-outcomes-client.is) in
    let more = one_more_written outcomes k one before.lines c.args.out.now.items c.loop-client.out.items c.put_outcome.new.out.items c.loop-client-test.true front before.told before.written
    c.in_ok-put_outcome.ensures.told c.in_ok-put_outcome.ensures.ok in
    record { lines = more.lines; told = more.told; written = more.written }

pub returns-in_err-put_outcome-clause-err : goal.returns-in_err-put_outcome-clause-err
returns-in_err-put_outcome-clause-err c =
    let outcomes = c.args.outcomes.now in
    let k = c.loop-client.client in
    let one = c.index-outcomes-client.result in
    let at : slice_get outcomes k ≡ Some one = slice_get_read outcomes (length outcomes) k one refl c.loop-client-test.true c.index-outcomes-client.is in
    let stops = stops_map (TellsFault one) (SomeTellFault outcomes) c.in_err-put_outcome.field-0.0 (λ fault. (k, one, at, fault)) c.in_err-put_outcome.ensures.err in
    let p = err_from_is_err_and c.from_residual.result c.from_residual.ensures.1 in
    rw (p.1, p.2) stops
