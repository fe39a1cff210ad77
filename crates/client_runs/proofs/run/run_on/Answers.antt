-- The scripts are the clients' drawn steps, and over a valid history none of these names a branch that is not there.
use Rattle.std.proofs.Common.{◌≡◌, List, [], length, ap, sym, ◌∙◌, subst, arith, append-nil, refl}
use Rattle.branch_history.specs.declared.moves.Move.{Move}
use Rattle.branch_machine.specs.Fixed.{fix}
use Rattle.branch_machine.specs.Validity.{IsFullyValid}
use Rattle.branch_script.specs.declared.step.Step.{Step}
use Rattle.branch_shared.specs.Allowed.{GrowsBy}
use Rattle.branch_shared.specs.Crashes.{IsSafeFrom}
use Rattle.branch_shared.specs.Keeps.{faults_since}
use Rattle.branch_shared.specs.Names.{BlankView}
use Rattle.store_core.specs.Views.{StoreView}
use Rattle.parallel_clients.specs.Allowed.{IsOfScripts}
use Rattle.parallel_clients.specs.Outcomes.{setting}
use Rattle.client_runs.specs.Scripts.{scripts_of}
use Rattle.client_runs.specs.Worked.{HaveRun, HaveWorked, IsOfClients}
use Rattle.client_runs.proofs.Crashes.{safe-still, safe-wider}
use Rattle.client_runs.proofs.Drawn.{IsNoDrop, clients-no_drop, scripts-own}
use Rattle.client_runs.proofs.Known.{first-within, first-main}
use Rattle.client_runs.proofs.Runs.{answer-says, length-scripts_of, have-worked, of-clients, grows-wider}
use Rattle.client_runs.proofs.run.run_on.Goals as goal

pub share-requires-clause-parts : goal.share-requires-clause-parts
share-requires-clause-parts g c =
    let work = c.args.work in
    let size = ap (λ (xs : List (List Step)). length xs) (c.deref.ensures.value ∙ c.in-Ok.ensures) ∙ length-scripts_of work.count work.steps work.number in
    let parts = ap (λ (b : BlankView (Move _ _) _). b.parts) c.in-Ok-new.ensures.made in
    omega (arith, size, parts)

pub share-requires-clause-allowed : goal.share-requires-clause-allowed
share-requires-clause-allowed g c κs within = scripts-own g.T.Forms.forms c.deref.result.now

pub returns-clause-grows : goal.returns-clause-grows
returns-clause-grows g c = ([], append-nil c.args.core.history ∙ ap (λ (s : StoreView (Move _ _) _). s.history) (sym c.in-Err-new.ensures.same))

pub returns-in-Ok-new-clause-worked : goal.returns-in-Ok-new-clause-worked
returns-in-Ok-new-clause-worked g c =
    let core = c.args.core in
    let work = c.args.work in
    let made = c.in-Ok-new.ensures.made in
    let blank = c.in-Ok-new.blank in
    let meaning = g.T.Mrdt.meaning in
    let address = g.A.Address.address in
    let forms = g.T.Forms.forms in
    let history = c.share.result.core.history in
    let faults = faults_since g.D.Disk.faults c.share.result.core in
    let on = setting (fix meaning core.terms address) forms (g.D.Disk.faults core.opened) in
    let scripts = c.deref.result.now in
    let drawn : scripts ≡ scripts_of work.count work.steps work.number = c.deref.ensures.value ∙ c.in-Ok.ensures in
    let valid : IsFullyValid (fix meaning core.terms address) history = subst (λ (b : BlankView (Move _ _) _). IsFullyValid (fix meaning b.core.terms address) history) made c.share.ensures.valid in
    let within = first-within meaning core.terms address c.keeps_limits.ensures c.makes_fewer_moves.ensures c.has_fully_valid_prefixes.ensures history valid in
    let main = first-main meaning core.terms address c.keeps_order.ensures c.makes_fewer_moves.ensures c.has_fully_valid_prefixes.ensures history valid in
    let own = of-clients forms work.count work.steps work.number scripts drawn in
    let drops = grows-wider (IsOfScripts forms scripts) IsNoDrop (λ m is. clients-no_drop forms work.count work.steps work.number m (own m is)) core.history history
    (subst (λ (b : BlankView (Move _ _) _). GrowsBy (IsOfScripts forms scripts) b.core.history history) made c.share.ensures.allowed) in
    answer-says (HaveRun (setting (fix meaning blank.core.terms address) forms blank.opened) blank.core.history history faults scripts) (HaveWorked on core.history history faults work.count work.steps work.number) c.share.result.outcomes
    (λ outcomes run.
    let ran = subst (λ (b : BlankView (Move _ _) _). HaveRun (setting (fix meaning b.core.terms address) forms b.opened) b.core.history history faults scripts outcomes) made run in
    have-worked on c.lacks_only_sequences.ensures.op core.history history drops within main faults work.count work.steps work.number outcomes
    (subst (λ (xs : List (List Step)). HaveRun on core.history history faults xs outcomes) drawn ran))
    c.share.ensures.ran

pub share-requires-clause-since : goal.share-requires-clause-since
share-requires-clause-since g c κs within = record {
  works = ap (λ (b : BlankView (Move _ _) _). b.core.failed) c.in-Ok-new.ensures.made ∙ c.requires.working;
  moment_is = refl;
  no_more = λ t f was. was;
  no_less = λ t f was. was;
}

pub returns-in-Err-clause-crashes : goal.returns-in-Err-clause-crashes
returns-in-Err-clause-crashes g c =
    let work = c.args.work in
    safe-still g.D.Disk (fix g.T.Mrdt.meaning c.args.core.terms g.A.Address.address) (IsOfClients g.T.Forms.forms work.count work.steps work.number) c.args.core
    (g.met.D.Disk g.world.𝓛 g.world.𝓜 g.world.𝓡 ((λ s x. x), (λ x. x), (λ x. x), λ x. x)).only_now c.moves.ensures.valid (c.moves.ensures.stands c.requires.working)

pub returns-in-Ok-new-clause-crashes : goal.returns-in-Ok-new-clause-crashes
returns-in-Ok-new-clause-crashes g c =
    let work = c.args.work in
    let forms = g.T.Forms.forms in
    let scripts = c.deref.result.now in
    let own = of-clients forms work.count work.steps work.number scripts (c.deref.ensures.value ∙ c.in-Ok.ensures) in
    let safe = subst (λ (b : BlankView (Move _ _) _). IsSafeFrom g.D.Disk (fix g.T.Mrdt.meaning b.core.terms g.A.Address.address) (IsOfScripts forms scripts) b.core c.share.result.core) c.in-Ok-new.ensures.made c.share.ensures.crashes in
    safe-wider g.D.Disk (fix g.T.Mrdt.meaning c.args.core.terms g.A.Address.address) (IsOfScripts forms scripts) (IsOfClients forms work.count work.steps work.number) own c.args.core c.share.result.core safe

pub returns-clause-crashes : goal.returns-clause-crashes
returns-clause-crashes g c =
    let work = c.args.work in
    let allows = IsOfClients g.T.Forms.forms work.count work.steps work.number in
    let fixed = fix g.T.Mrdt.meaning c.args.core.terms g.A.Address.address in
    subst (λ (s : StoreView (Move _ _) _). IsSafeFrom g.D.Disk fixed allows c.args.core s) (sym c.in-Err-new.ensures.same)
    (safe-still g.D.Disk fixed allows c.args.core (g.met.D.Disk g.world.𝓛 g.world.𝓜 g.world.𝓡 ((λ s x. x), (λ x. x), (λ x. x), λ x. x)).only_now c.moves.ensures.valid (c.moves.ensures.stands c.requires.working))
