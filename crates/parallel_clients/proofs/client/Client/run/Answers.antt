-- The outcome of a client, by what it has played.
use Rattle.std.proofs.Common.{◌≡◌, ◌∷◌, [], ◌++◌, ◌+◌, ◌<◌, ◌∙◌, take, refl, ap, sym, subst, Some, length, arith}
use Rattle.std.specs.Prelude.{slice_get}
use Rattle.std.proofs.lemmas.Grind.{take_at_read}
use Rattle.std.proofs.lemmas.List.{take_all}
use Rattle.std.proofs.lemmas.Option.{slice_get_read}
use Rattle.branch_machine.specs.Fixed.{fix}
use Rattle.parallel_clients.specs.declared.outcome.Outcome.TheVariants.{Done}
use Rattle.parallel_clients.specs.Allowed.{AllowsStep}
use Rattle.parallel_clients.specs.Outcomes.{IsOutcome, setting}
use Rattle.parallel_clients.specs.Sessions.{IsPlaying}
use Rattle.parallel_clients.proofs.Runs.{all-got, playing-none, playing-more, done-became, stopped-became, blind-became}
use Rattle.parallel_clients.proofs.client.Client.run.Goals as goal

pub loop-number-init : goal.loop-number-init
loop-number-init g c =
    let pass = c.args.pass.now in
    let forms = g.T.Forms.forms in
    let terms = g.N.Named.terms in
    let playing = subst (λ ps. IsPlaying forms terms [] pass pass c.new-sessions.result.entries ps) (sym c.requires.none)
    (subst (λ ss. IsPlaying forms terms [] pass pass ss []) (sym c.new-sessions.ensures.empty) (playing-none forms terms pass)) in
    let few : length c.args.places.items ≡ 0 = ap length c.requires.none in
    (playing, omega arith, c.requires.room, λ valid. valid)

pub step-requires-clause-allowed : goal.step-requires-clause-allowed
step-requires-clause-allowed g c κs within =
    let steps = c.args.steps.now in
    let number = c.loop-number.number in
    let step = c.index-steps-number.result in
    let is_step : slice_get steps number ≡ Some step = slice_get_read steps (length steps) number step refl c.loop-number-test.true c.index-steps-number.is in
    all-got (AllowsStep g.T.Forms.forms g.N.Named.allows) steps number step c.requires.allowed is_step

pub returns-then-not-sees-clause-became : goal.returns-then-not-sees-clause-became
returns-then-not-sees-clause-became g c =
    let on = setting (fix g.T.Mrdt.meaning g.N.Named.terms g.A.Address.address) g.T.Forms.forms g.N.Named.opened in
    let steps = c.args.steps.now in
    let number = c.loop-number.number in
    let step = c.index-steps-number.result in
    let old = c.args.pass.now in
    let mid = c.loop-number.pass in
    let is_step : slice_get steps number ≡ Some step = slice_get_read steps (length steps) number step refl c.loop-number-test.true c.index-steps-number.is in
    subst (IsOutcome on old.moves mid.moves mid.faults steps) (sym c.stopped.ensures) (blind-became on steps old mid c.loop-number.sessions.entries c.loop-number.places.items number step is_step c.loop-number.invariant.0)

pub returns-in-Err-clause-became : goal.returns-in-Err-clause-became
returns-in-Err-clause-became g c =
    let on = setting (fix g.T.Mrdt.meaning g.N.Named.terms g.A.Address.address) g.T.Forms.forms g.N.Named.opened in
    let steps = c.args.steps.now in
    let number = c.loop-number.number in
    let step = c.index-steps-number.result in
    let old = c.args.pass.now in
    let mid = c.loop-number.pass in
    let new = c.step.new.pass in
    let noted = c.step.new.places.items in
    let is_step : slice_get steps number ≡ Some step = slice_get_read steps (length steps) number step refl c.loop-number-test.true c.index-steps-number.is in
    subst (IsOutcome on old.moves new.moves new.faults steps) (sym c.stopped-in-Err.ensures)
    (stopped-became on steps old mid c.loop-number.sessions.entries c.loop-number.places.items number step is_step c.loop-number.invariant.0 new noted c.in-Err.stop c.step.ensures.advances c.in-Err.ensures.stopped)

pub loop-number-preserved : goal.loop-number-preserved
loop-number-preserved g c =
    let forms = g.T.Forms.forms in
    let terms = g.N.Named.terms in
    let steps = c.args.steps.now in
    let number = c.loop-number.number in
    let step = c.index-steps-number.result in
    let old = c.args.pass.now in
    let mid = c.loop-number.pass in
    let new = c.step.new.pass in
    let sessions = c.step.new.sessions.entries in
    let noted = c.step.new.places.items in
    let inv = c.loop-number.invariant in
    let read = take_at_read steps number step c.loop-number-test.true in
    let front : take (number + 1) steps ≡ take number steps ++ step ∷ [] = read.1 ∙ ap (λ x. take number steps ++ x ∷ []) (sym c.index-steps-number.is) in
    let more = playing-more forms terms (take number steps) step old mid new c.loop-number.sessions.entries sessions c.loop-number.places.items noted inv.0 c.in-Ok.ensures.plays c.in-Ok.ensures.sessions c.step.ensures.advances in
    let few = c.step.ensures.few in
    let had = inv.1 in
    let room = inv.2 in
    let kept = c.step.ensures.capacity in
    (subst (λ ss. IsPlaying forms terms ss old new sessions noted) (sym front) more, omega arith, omega arith, λ valid. c.step.ensures.valid (inv.3 valid))

pub returns-clause-became : goal.returns-clause-became
returns-clause-became g c =
    let on = setting (fix g.T.Mrdt.meaning g.N.Named.terms g.A.Address.address) g.T.Forms.forms g.N.Named.opened in
    let steps = c.args.steps.now in
    let old = c.args.pass.now in
    let mid = c.loop-number.pass in
    let sessions = c.loop-number.sessions.entries in
    let places = c.loop-number.places.items in
    let all : take c.loop-number.number steps ≡ steps = take_all c.loop-number.number steps c.loop-number-test.false in
    let playing = subst (λ ss. IsPlaying g.T.Forms.forms g.N.Named.terms ss old mid sessions places) all c.loop-number.invariant.0 in
    subst (λ ps. IsOutcome on old.moves mid.moves mid.faults steps (Done ps)) (sym c.from_vec.ensures) (done-became on steps old mid sessions places playing)

pub step-requires-clause-parts : goal.step-requires-clause-parts
step-requires-clause-parts g c κs within = subst (λ n. 1 < n) (sym c.loop-number.invariant.0.advances.parts) c.requires.parts
