-- The first disk is read, and its moves, renewed, are made again on the second.
use Rattle.std.proofs.Common.{◌≡◌, ◌∙◌, List, [], ap, sym, subst, refl, inl}
use denote.Param.Send.{sendable}
use Rattle.branch_disk.specs.Disk.{LeavesOnly}
use Rattle.branch_disk.specs.Moments.{started}
use Rattle.branch_history.specs.declared.moves.Move.{Move}
use Rattle.branch_doc.specs.Forms.{DocOp, DocReply}
use Rattle.mrdt_old_doc.specs.OldDocument.{old_document, renewed_op}
use Rattle.branch_machine.specs.Fixed.{present, fix_in}
use Rattle.branch_machine.proofs.Valid.{valid-before}
use Rattle.branch_renewal.specs.Laws.{RepeatsAll}
use Rattle.store_core.specs.Opens.{old_form}
use Rattle.moves_again.specs.Again.{NoneOrSome, AllMade, MakeRefusedAs}
use Rattle.store_upgrade.specs.declared.answers.UpgradeRefused.{UpgradeRefused}
use Rattle.store_upgrade.specs.Upgrades.{today, moves_today, UpgradeRefusedAs, HasCauseOfEither}
use Rattle.documents_cross.proofs.Crosses.{Doc-send, Doc-sync, Doc1-send, Doc1-sync}
use Rattle.store_upgrade.proofs.Upgraded.{first-kinds, not-read, begun, not-made, cause-first, cause-neither, cause-second}
use Rattle.store_upgrade.proofs.documents.upgrade.Goals as goal

pub returns-in-Err-clause-refused : goal.returns-in-Err-clause-refused
returns-in-Err-clause-refused g c =
    let first = c.args.first.now in let second = c.args.second in let address = g.A.Address.address in
    subst (λ (e : UpgradeRefused). UpgradeRefusedAs g.D.Disk address first second second e) (sym c.from.ensures)
    (not-read g.D.Disk address first second c.in-Err.refused c.in-Err.ensures.refused c.in-Err.ensures.only_refused)

pub returns-in-Err-clause-cause : goal.returns-in-Err-clause-cause
returns-in-Err-clause-cause g c =
    let faults = g.D.Disk.faults in
    subst (λ (e : UpgradeRefused). HasCauseOfEither (faults c.args.first.now) (faults c.read_old.new.disk) (faults c.args.second) (faults c.args.second) e) (sym c.from.ensures)
    (cause-first _ _ _ c.in-Err.refused c.in-Err.ensures.cause)

pub returns-in_default-clause-refused : goal.returns-in_default-clause-refused
returns-in_default-clause-refused g c = inl refl

pub returns-in_default-clause-cause : goal.returns-in_default-clause-cause
returns-in_default-clause-cause g c = cause-neither _ _ _ (c.in-Ok.ensures.cause.others (λ is. absurd (cc)))

pub make_again-requires-clause-repeats : goal.make_again-requires-clause-repeats
make_again-requires-clause-repeats g c κs within =
    let address = g.A.Address.address in let terms = c.in-Ok.read.0 in let moves = c.in-Ok.read.1 in
    subst (λ (ms : List (Move DocOp DocReply)). RepeatsAll (today address terms) [] ms) (sym c.in-Ok-renew_all.ensures)
    (c.keeps_turns.ensures renewed_op old_form present c.renews_documents.ensures terms address moves c.in-Ok.ensures.valid
    (first-kinds (fix_in old_form old_document terms address) moves c.in-Ok.ensures.known))

pub returns-in-Ok-make_again-clause-upgraded : goal.returns-in-Ok-make_again-clause-upgraded
returns-in-Ok-make_again-clause-upgraded g c =
    let d = g.D.Disk in let address = g.A.Address.address in let terms = c.in-Ok.read.0 in let moves = c.in-Ok.read.1 in
    let now = c.in-Ok-make_again.made.1 in let ensures = c.in-Ok-make_again.ensures in let same = c.in-Ok-renew_all.ensures in
    record {
      begun = begun d address c.args.first.now c.args.second terms moves now c.in-Ok.ensures.reads c.in-Ok.ensures.only c.in-Ok.ensures.valid
          (λ empties. subst (λ (ms : List (Move DocOp DocReply)). LeavesOnly d.moment d.left_since c.args.second now (NoneOrSome (today address terms) ms)) same (ensures.moments empties));
      empty = ensures.empty;
      made = subst (λ (ms : List (Move DocOp DocReply)). AllMade (today address terms) ms c.in-Ok-make_again.made.0 (d.may_leave now)) same ensures.made;
      answers = c.keeps_answers.ensures renewed_op c.renews_documents.ensures terms moves (valid-before (fix_in old_form old_document terms address) moves c.in-Ok.ensures.valid);
    }

pub returns-in-Ok-make_again-clause-no_cause : goal.returns-in-Ok-make_again-clause-no_cause
returns-in-Ok-make_again-clause-no_cause g c = (c.in-Ok.ensures.cause.others (λ is. absurd (cc)), c.in-Ok-make_again.ensures.no_cause)

pub returns-in-Err-make_again-clause-refused : goal.returns-in-Err-make_again-clause-refused
returns-in-Err-make_again-clause-refused g c =
    let d = g.D.Disk in let address = g.A.Address.address in let terms = c.in-Ok.read.0 in let moves = c.in-Ok.read.1 in
    let now = c.in-Err-make_again.second in let ensures = c.in-Err-make_again.ensures in let same = c.in-Ok-renew_all.ensures in
    subst (λ (e : UpgradeRefused). UpgradeRefusedAs d address c.args.first.now c.args.second now e) (sym c.from-in-Err-make_again.ensures)
    (not-made d address c.args.first.now c.args.second terms moves now c.in-Ok.ensures.reads c.in-Ok.ensures.only c.in-Ok.ensures.valid
    (λ empties. subst (λ (ms : List (Move DocOp DocReply)). LeavesOnly d.moment d.left_since c.args.second now (NoneOrSome (today address terms) ms)) same (ensures.moments_err empties))
    c.in-Err-make_again.refused
    (subst (λ (ms : List (Move DocOp DocReply)). MakeRefusedAs (today address terms) ms (d.contents c.args.second) (d.contents now) (d.may_leave now) c.in-Err-make_again.refused) same ensures.refused))

pub returns-in-Err-make_again-clause-cause : goal.returns-in-Err-make_again-clause-cause
returns-in-Err-make_again-clause-cause g c =
    let faults = g.D.Disk.faults in
    subst (λ (e : UpgradeRefused). HasCauseOfEither (faults c.args.first.now) (faults c.read_old.new.disk) (faults c.args.second) (faults c.in-Err-make_again.second) e) (sym c.from-in-Err-make_again.ensures)
    (cause-second _ _ _ _ (c.in-Ok.ensures.cause.others (λ is. absurd (cc))) c.in-Err-make_again.refused c.in-Err-make_again.ensures.cause)

pub returns-in-Err-clause-kept : goal.returns-in-Err-clause-kept
returns-in-Err-clause-kept g c = λ f told some.
    let d = g.D.Disk in started d.moment d.left_since c.args.second (d.may_leave c.args.second) (g.met.D.Disk.only_now c.args.second)

pub returns-in_default-clause-kept : goal.returns-in_default-clause-kept
returns-in_default-clause-kept g c = λ f told some.
    let d = g.D.Disk in started d.moment d.left_since c.args.second (d.may_leave c.args.second) (g.met.D.Disk.only_now c.args.second)

pub returns-in-Err-make_again-clause-kept : goal.returns-in-Err-make_again-clause-kept
returns-in-Err-make_again-clause-kept g c = c.in-Err-make_again.ensures.kept

pub keeps_turns-requires-send-T : goal.keeps_turns-requires-send-T
keeps_turns-requires-send-T g c κs = let d = Doc1-send in search sendable

pub keeps_turns-requires-send-U : goal.keeps_turns-requires-send-U
keeps_turns-requires-send-U g c κs = let d = Doc-send in search sendable

pub keeps_turns-requires-sync-T : goal.keeps_turns-requires-sync-T
keeps_turns-requires-sync-T g c κs = let d = Doc1-sync in search sendable

pub keeps_turns-requires-sync-U : goal.keeps_turns-requires-sync-U
keeps_turns-requires-sync-U g c κs = let d = Doc-sync in search sendable

pub keeps_answers-requires-send-T : goal.keeps_answers-requires-send-T
keeps_answers-requires-send-T g c κs = let d = Doc1-send in search sendable

pub keeps_answers-requires-send-U : goal.keeps_answers-requires-send-U
keeps_answers-requires-send-U g c κs = let d = Doc-send in search sendable

pub keeps_answers-requires-sync-T : goal.keeps_answers-requires-sync-T
keeps_answers-requires-sync-T g c κs = let d = Doc1-sync in search sendable

pub keeps_answers-requires-sync-U : goal.keeps_answers-requires-sync-U
keeps_answers-requires-sync-U g c κs = let d = Doc-sync in search sendable

pub read_old-requires-send-T : goal.read_old-requires-send-T
read_old-requires-send-T g c κs within = let d = Doc1-send in search sendable

pub read_old-requires-sync-T : goal.read_old-requires-sync-T
read_old-requires-sync-T g c κs within = let d = Doc1-sync in search sendable

pub make_again-requires-send-T : goal.make_again-requires-send-T
make_again-requires-send-T g c κs within = let d = Doc-send in search sendable

pub make_again-requires-sync-T : goal.make_again-requires-sync-T
make_again-requires-sync-T g c κs within = let d = Doc-sync in search sendable
