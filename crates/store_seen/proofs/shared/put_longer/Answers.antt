-- The nodes say where the limit is held.
use Rattle.std.proofs.Common.{◌≡◌, ap}
use Rattle.std.specs.Arc.{arc_value}
use Rattle.std.specs.Prelude.{Err, IsErrOf}
use Rattle.std.proofs.lemmas.Result.{err_from_is_err_and}
use Rattle.store_seen.proofs.Firsts.{full-first}
use Rattle.store_seen.proofs.shared.put_longer.Goals as goal

-- an error is the same whatever would come in its place
same_error : {X Y E : Type 0} (e d : E) → IsErrOf {T = X} (Err e) d → IsErrOf {T = Y} (Err e) d
same_error e d is = let same : e ≡ d = cc in ap Err same

pub returns-in_err-longer-clause-full : goal.returns-in_err-longer-clause-full
returns-in_err-longer-clause-full g c = λ held.
    let p = err_from_is_err_and c.from_residual-in_err-longer.result c.from_residual-in_err-longer.ensures.1 in
    let full = rw c.deref.ensures at c.in_err-longer.ensures.full held in
    rw (p.1, p.2) (λ is.
    let found = full.0 (same_error _ _ is) in
    full-first (arc_value c.args.nodes.now) (arc_value c.in_ok-first.first) c.args.count held c.requires.count c.in_ok-first.ensures found.0 found.1)
