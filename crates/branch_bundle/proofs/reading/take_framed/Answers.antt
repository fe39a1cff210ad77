use Rattle.std.proofs.Common.{◌≡◌, ◌∙◌, ◌∷◌, List, ℕ, sym, arith, rules}
use Rattle.std.proofs.lemmas.Result.{IfOk-weaker, on_err_weaker}
use Rattle.branch_wire.specs.Reading.{HasLength64}
use Rattle.branch_bundle_laws.specs.Text.{IsFramed}
use Rattle.branch_bundle.proofs.Framed.{framed-taken, framed-there}
use Rattle.branch_bundle.proofs.reading.take_framed.Goals as goal

pub returns-clause-known : goal.returns-clause-known
returns-clause-known c =
    let old = c.args.cursor.now in
    let kind : ℕ = c.in_ok-_kind._kind in
    let body : List ℕ = c.in_ok-body.body.now in
    let first : old ≡ kind ∷ c.take_u8.new.self = sym c.as_slice.ensures ∙ sym c.new-ahead.ensures ∙ c.in_ok-_kind.ensures.ok in
    let short : HasLength64 body = search rules in
    IfOk-weaker c.take_exact.result _ (λ object. IsFramed object.now)
    (λ object is. (kind, body, short, framed-taken old c.take_u8.new.self c.take_bytes.new.self object.now c.take_exact.new.self body kind first c.in_ok-body.ensures.ok is.0 is.1))
    c.take_exact.ensures.ok

pub returns-clause-outside : goal.returns-clause-outside
returns-clause-outside c =
    let old = c.args.cursor.now in
    let kind : ℕ = c.in_ok-_kind._kind in
    let body : List ℕ = c.in_ok-body.body.now in
    let first : old ≡ kind ∷ c.take_u8.new.self = sym c.as_slice.ensures ∙ sym c.new-ahead.ensures ∙ c.in_ok-_kind.ensures.ok in
    let there = framed-there old c.take_u8.new.self c.take_bytes.new.self body kind first c.in_ok-body.ensures.ok in
    on_err_weaker c.take_exact.result (λ few. absurd (omega (arith, few.0, there))) c.take_exact.ensures.short
