-- The last pass holds all parts again when it is closed with, so its receipts are all the moves that landed.
use Rattle.std.proofs.Common.{List, ◌++◌, length, sym, ◌∙◌, subst}
use Rattle.std.specs.Prelude.{IfOk}
use mathlib.Core.List.{IsPrefix}
use Rattle.branch_front.specs.Lists.{AreAllWithin}
use Rattle.branch_history.specs.declared.moves.Move.{Move}
use Rattle.branch_machine.specs.Fixed.{fix}
use Rattle.branch_names.specs.declared.terms.Terms.{Terms}
use Rattle.branch_shared.specs.Allowed.{GrowsBy}
use Rattle.branch_shared.specs.Crashes.{IsSafe}
use Rattle.branch_shared.specs.Keeps.{faults_since}
use Rattle.parallel_clients.specs.Clients.{Ran}
use Rattle.parallel_clients.specs.Outcomes.{setting}
use Rattle.client_runs.proofs.Crashes.{safe-from}
use Rattle.client_runs.proofs.Runs.{named-setting, closed-length, Over, faults-rise, stays-so, have-run}
use Rattle.client_runs.proofs.share.share.Given as given
use Rattle.client_runs.proofs.share.share.Goals as goal

over : (g : given.Over) (c : goal.After-moves g)
    → Over (setting (fix g.T.Mrdt.meaning c.args.blank.core.terms g.A.Address.address) g.T.Forms.forms c.args.blank.opened) c.args.blank.core.history c.close_with-closed.result.core.history
    (faults_since g.D.Disk.faults c.args.blank.core) (faults_since g.D.Disk.faults c.close_with-closed.result.core) c.args.blank.parts c.args.scripts.now c.run_clients-outcomes.result
over g c =
    let blank = c.args.blank in
    let name = c.requires.name in
    let old = c.new-shared.result.1 in
    let new = c.run_clients-outcomes.new.pass in
    let closed = c.close_with-closed in
    let history = closed.result.core.history in
    let begun = g.N.Named.begun in
    let begins : IsPrefix begun history = closed.ensures.begun in
    let same = named-setting g.T.Mrdt.meaning g.A.Address.address g.T.Forms.forms blank.core.terms g.N.Named.terms blank.opened g.N.Named.opened name.terms_are name.opened_is in
    record {
      old = old;
      new = new;
      first = c.new-shared.ensures;
      ran = subst (λ on. IfOk c.run_clients-outcomes.result (Ran on old new c.args.scripts.now)) same c.run_clients-outcomes.ensures.ran;
      kept = c.run_clients-outcomes.ensures.kept;
      sees = closed.ensures.history;
      begins = subst (λ (ms : List (Move _ _)). IsPrefix ms history) (sym name.history_is) begins;
      known = closed.ensures.faults;
      landed = closed.result.landed;
      receipts = closed.result.receipts;
      landed_are = closed-length begun history blank.core.history closed.result.landed name.history_is closed.ensures.landed;
      receipts_are = closed.ensures.receipts;
      all = λ parts. closed.ensures.all (parts ∙ name.parts_are);
      every = λ parts. subst (λ (ms : List (Move _ _)). AreAllWithin (length ms) (new.mine ++ new.others) (length history)) (sym name.history_is) (closed.ensures.every (parts ∙ name.parts_are));
    }

pub returns-clause-ran : goal.returns-clause-ran
returns-clause-ran g c =
    have-run (setting (fix g.T.Mrdt.meaning c.args.blank.core.terms g.A.Address.address) g.T.Forms.forms c.args.blank.opened) c.args.blank.core.history c.close_with-closed.result.core.history
    (faults_since g.D.Disk.faults c.args.blank.core) (faults_since g.D.Disk.faults c.close_with-closed.result.core) c.args.blank.parts c.args.scripts.now c.run_clients-outcomes.result (over g c)
    (c.stays_outcome.ensures c.args.blank.core.terms g.A.Address.address c.args.blank.opened)

pub returns-clause-faults : goal.returns-clause-faults
returns-clause-faults g c =
    faults-rise (setting (fix g.T.Mrdt.meaning c.args.blank.core.terms g.A.Address.address) g.T.Forms.forms c.args.blank.opened) c.args.blank.core.history c.close_with-closed.result.core.history
    (faults_since g.D.Disk.faults c.args.blank.core) (faults_since g.D.Disk.faults c.close_with-closed.result.core) c.args.blank.parts c.args.scripts.now c.run_clients-outcomes.result (over g c)

pub returns-clause-idle : goal.returns-clause-idle
returns-clause-idle g c =
    stays-so (setting (fix g.T.Mrdt.meaning c.args.blank.core.terms g.A.Address.address) g.T.Forms.forms c.args.blank.opened) c.args.blank.core.history c.close_with-closed.result.core.history
    (faults_since g.D.Disk.faults c.args.blank.core) (faults_since g.D.Disk.faults c.close_with-closed.result.core) c.args.blank.parts c.args.scripts.now c.run_clients-outcomes.result (over g c)

pub returns-clause-allowed : goal.returns-clause-allowed
returns-clause-allowed g c = subst (λ (ms : List (Move _ _)). GrowsBy g.N.Named.allows ms c.close_with-closed.result.core.history) (sym c.requires.name.history_is) c.close_with-closed.ensures.allowed

pub returns-clause-crashes : goal.returns-clause-crashes
returns-clause-crashes g c =
    let n = g.N.Named in
    let disk = g.D.Disk in
    let blank = c.args.blank in
    let name = c.requires.name in
    let new = c.close_with-closed.result.core in
    let safe = subst (λ (t : Terms). IsSafe disk (fix g.T.Mrdt.meaning t g.A.Address.address) n.since n.left n.begun n.allows new) (sym name.terms_are) c.close_with-closed.ensures.crashes in
    safe-from disk (fix g.T.Mrdt.meaning blank.core.terms g.A.Address.address) n.allows n.since n.left n.begun blank.core new c.requires.since name.history_is safe
