-- A branch is forked as the core forks it, from the name of the branch of this number.
use Rattle.std.proofs.Common.{◌≡◌, refl, ap, sym, subst}
use Rattle.std.specs.Prelude.{Ok, Err}
use Rattle.branch_io.specs.Causes.{HasCauseOf}
use Rattle.branch_names.specs.Heads.{name_of}
use Rattle.branch_history.specs.History.{store_of}
use Rattle.branch_history.specs.Steps as machine
use Rattle.branch_machine.specs.Fixed.{fix}
use Rattle.store_core.specs.declared.answers.ForkRefused.TheVariants as fork_refusal
use Rattle.store_core.specs.Turns.{Forks}
use Rattle.moves_again.specs.declared.answers.MoveRefused.{MoveRefused}
use Rattle.moves_again.specs.declared.answers.MoveRefused.TheVariants as move_refusal
use Rattle.moves_again.specs.Again.{MakesOne}
use Rattle.moves_again.proofs.Made.{named-so, one-made, not_forked, leaves-so, cause-forking, cause-through}
use Rattle.moves_again.proofs.again.fork_again.Goals as goal

pub returns-in-Ok-clause-made : goal.returns-in-Ok-clause-made
returns-in-Ok-clause-made g c = λ made by.
    let old = c.args.core.now in let fixed = fix g.T.Mrdt.meaning old.terms g.A.Address.address in
    let branches = (store_of old.terms.origin old.history).branches in
    let named = named-so branches c.args.from c.branch-core.result c.unwrap-from.result c.branch-core.ensures.found c.unwrap-from.ensures in
    let does = subst (λ n. Forks fixed c.args.name n old c.fork.new.self c.in-Ok.field-0) named c.in-Ok.ensures.forked in
    one-made fixed old c.fork.new.self (machine.Fork c.args.name (name_of branches c.args.from)) made by _ _ _ does.1

pub returns-in-Ok-clause-moments : goal.returns-in-Ok-clause-moments
returns-in-Ok-clause-moments g c =
    let old = c.args.core.now in let branches = (store_of old.terms.origin old.history).branches in
    let named = named-so branches c.args.from c.branch-core.result c.unwrap-from.result c.branch-core.ensures.found c.unwrap-from.ensures in
    leaves-so g.D.Disk (fix g.T.Mrdt.meaning old.terms g.A.Address.address) old (machine.Fork c.args.name (name_of branches c.args.from)) c.fork.new.self _ (ap (λ n. machine.Fork c.args.name n) named) c.requires.working c.in-Ok.ensures.any_moment

pub returns-in-Ok-clause-cause : goal.returns-in-Ok-clause-cause
returns-in-Ok-clause-cause g c = cause-through fork_refusal.DiskFault _ _ _ tt c.in-Ok.ensures.cause

pub returns-in-Err-clause-made : goal.returns-in-Err-clause-made
returns-in-Err-clause-made g c = λ made by.
    let old = c.args.core.now in let fixed = fix g.T.Mrdt.meaning old.terms g.A.Address.address in
    let branches = (store_of old.terms.origin old.history).branches in
    let named = named-so branches c.args.from c.branch-core.result c.unwrap-from.result c.branch-core.ensures.found c.unwrap-from.ensures in
    subst (λ (e : MoveRefused). MakesOne fixed made old c.fork.new.self (Err e)) (sym c.from.ensures)
    (not_forked fixed old c.fork.new.self (machine.Fork c.args.name (name_of branches c.args.from)) made by c.args.name _ (ap (λ n. machine.Fork c.args.name n) named) c.requires.working c.in-Err.refused c.in-Err.ensures.refused c.in-Err.ensures.kept)

pub returns-in-Err-clause-moments : goal.returns-in-Err-clause-moments
returns-in-Err-clause-moments g c =
    let old = c.args.core.now in let branches = (store_of old.terms.origin old.history).branches in
    let named = named-so branches c.args.from c.branch-core.result c.unwrap-from.result c.branch-core.ensures.found c.unwrap-from.ensures in
    leaves-so g.D.Disk (fix g.T.Mrdt.meaning old.terms g.A.Address.address) old (machine.Fork c.args.name (name_of branches c.args.from)) c.fork.new.self _ (ap (λ n. machine.Fork c.args.name n) named) c.requires.working c.in-Err.ensures.any_moment

pub returns-in-Err-clause-cause : goal.returns-in-Err-clause-cause
returns-in-Err-clause-cause g c =
    let before = g.D.Disk.faults c.args.core.now.disk in let now = g.D.Disk.faults c.fork.new.self.disk in
    subst (λ (e : MoveRefused). HasCauseOf {T = Unit {0}} move_refusal.DiskFault before now (Err e)) (sym c.from.ensures)
    (cause-forking (fix g.T.Mrdt.meaning c.args.core.now.terms g.A.Address.address) c.args.core.now c.requires.working before now c.args.name _ c.in-Err.refused c.in-Err.ensures.refused c.in-Err.ensures.cause)
