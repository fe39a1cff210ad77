-- Each move that is made goes on from those before it.
use Rattle.std.proofs.Common.{◌≡◌, ◌≢◌, ◌+◌, ◌∙◌, ◌∷◌, [], List, length, ap, sym, subst, refl, arith}
use Rattle.std.specs.Prelude.{Ok, Err}
use Rattle.std.specs.Vec.Iter.{into_iter_items, into_iter_len}
use Rattle.branch_io.specs.Causes.{HasCauseOf}
use Rattle.moves_again.specs.declared.answers.MoveRefused.TheVariants as move_refusal
use Rattle.moves_again.proofs.Loops.{GoesOn, goes-on-start, goes-on-next, goes-on-end, next-repeats, next-worked, next-moments, stops, none_left, cause-goes-on}
use Rattle.moves_again.proofs.again.make_all.Goals as goal

pub loop-made-init : goal.loop-made-init
loop-made-init g c =
    let old = c.args.core.now in let gives = c.into_iter-made-iterator.ensures.into_iter_gives in let it = c.into_iter-made-iterator.result in (
      tt,
      tt,
      subst (λ xs. GoesOn g.D.Disk g.T.Mrdt.meaning g.A.Address.address c.args.moves.items xs old old) (sym gives.0)
          (goes-on-start g.D.Disk g.T.Mrdt.meaning g.A.Address.address old c.args.moves.items c.requires.repeats (c.moves.ensures.stands c.requires.working) g.met.D.Disk.only_now),
      gives.1 ∙ c.args.moves.ok.0 ∙ ap length (sym gives.0),
    )

pub make_one-requires-clause-working : goal.make_one-requires-clause-working
make_one-requires-clause-working g c κs within =
    let goes = subst (λ xs. GoesOn g.D.Disk g.T.Mrdt.meaning g.A.Address.address c.args.moves.items xs c.args.core.now c.loop-made.core) c.in-Some.ensures.steps.0 c.loop-made.invariant.2 in
    next-worked g.D.Disk g.T.Mrdt.meaning g.A.Address.address c.args.core.now c.args.moves.items (into_iter_items c.next.new.self) c.in-Some.made c.loop-made.core c.loop-made.core goes c.requires.working

pub make_one-requires-clause-repeats : goal.make_one-requires-clause-repeats
make_one-requires-clause-repeats g c κs within =
    let goes = subst (λ xs. GoesOn g.D.Disk g.T.Mrdt.meaning g.A.Address.address c.args.moves.items xs c.args.core.now c.loop-made.core) c.in-Some.ensures.steps.0 c.loop-made.invariant.2 in
    next-repeats g.D.Disk g.T.Mrdt.meaning g.A.Address.address c.args.core.now c.args.moves.items (into_iter_items c.next.new.self) c.in-Some.made c.loop-made.core c.loop-made.core goes

pub returns-in-Err-clause-made : goal.returns-in-Err-clause-made
returns-in-Err-clause-made g c =
    let goes = subst (λ xs. GoesOn g.D.Disk g.T.Mrdt.meaning g.A.Address.address c.args.moves.items xs c.args.core.now c.loop-made.core) c.in-Some.ensures.steps.0 c.loop-made.invariant.2 in
    stops g.D.Disk g.T.Mrdt.meaning g.A.Address.address c.args.core.now c.args.moves.items (into_iter_items c.next.new.self) c.in-Some.made c.loop-made.core c.make_one.new.core goes c.in-Err.refused c.in-Err.ensures.made

pub returns-in-Err-clause-moments : goal.returns-in-Err-clause-moments
returns-in-Err-clause-moments g c =
    let goes = subst (λ xs. GoesOn g.D.Disk g.T.Mrdt.meaning g.A.Address.address c.args.moves.items xs c.args.core.now c.loop-made.core) c.in-Some.ensures.steps.0 c.loop-made.invariant.2 in
    next-moments g.D.Disk g.T.Mrdt.meaning g.A.Address.address c.args.core.now c.args.moves.items (into_iter_items c.next.new.self) c.in-Some.made c.loop-made.core c.make_one.new.core goes c.in-Err.ensures.moments

pub returns-in-Err-clause-cause : goal.returns-in-Err-clause-cause
returns-in-Err-clause-cause g c = cause-goes-on _ _ _ _ c.loop-made.invariant.2.faults c.in-Err.ensures.cause

pub loop-made-preserved : goal.loop-made-preserved
loop-made-preserved g c =
    let goes = subst (λ xs. GoesOn g.D.Disk g.T.Mrdt.meaning g.A.Address.address c.args.moves.items xs c.args.core.now c.loop-made.core) c.in-Some.ensures.steps.0 c.loop-made.invariant.2 in
    let worked = next-worked g.D.Disk g.T.Mrdt.meaning g.A.Address.address c.args.core.now c.args.moves.items (into_iter_items c.next.new.self) c.in-Some.made c.loop-made.core c.loop-made.core goes c.requires.working in
    let works = ap (λ v. v.failed) c.in-Ok.ensures.made ∙ worked in
    let count : into_iter_len c.next.new.self + 1 ≡ into_iter_len c.loop-made.made-iterator = c.in-Some.ensures.steps.1 in
    let long : into_iter_len c.loop-made.made-iterator ≡ length (c.in-Some.made ∷ into_iter_items c.next.new.self) = c.loop-made.invariant.3 ∙ ap length c.in-Some.ensures.steps.0 in (
      tt,
      tt,
      goes-on-next g.D.Disk g.T.Mrdt.meaning g.A.Address.address c.args.core.now c.args.moves.items (into_iter_items c.next.new.self) c.in-Some.made c.loop-made.core c.make_one.new.core goes
          c.in-Ok.ensures.made c.in-Ok.ensures.moments (c.moves-in-loop-made.ensures.stands works) (c.in-Ok.ensures.cause.others (λ is. absurd (cc))),
      omega arith,
    )

pub returns-clause-made : goal.returns-clause-made
returns-clause-made g c =
    let none = none_left (into_iter_items c.loop-made.made-iterator) (sym c.loop-made.invariant.3 ∙ c.in-None.ensures.steps.0) in
    goes-on-end g.D.Disk g.T.Mrdt.meaning g.A.Address.address c.args.core.now c.args.moves.items (into_iter_items c.loop-made.made-iterator) c.loop-made.core none c.loop-made.invariant.2

pub returns-clause-moments : goal.returns-clause-moments
returns-clause-moments g c = c.loop-made.invariant.2.moments

pub returns-clause-cause : goal.returns-clause-cause
returns-clause-cause g c = record { later = omega (arith, c.loop-made.invariant.2.faults); failed = λ is. absurd (cc); others = λ _. c.loop-made.invariant.2.faults }
