-- What was read of the bytes decides their shape, and the one step that can remake the commit has not.
use Rattle.std.proofs.Common.{ℕ, ◌≤◌, sym, ap, subst, Err}
use Rattle.std.proofs.lemmas.Bool.{both_ways}
use Rattle.branch_machine.specs.Fixed.{present, fix, fix_in}
use Rattle.branch_machine.specs.Validity.{IsFullyValid}
use Rattle.branch_files.specs.Next.{Does, AreFewIn}
use Rattle.commit_replay.specs.Follows.{form_of}
use Rattle.commit_replay.specs.Walk.{NotRemadeAs, MadeAnew}
use Rattle.commit_replay.proofs.Forms.{does-same}
use Rattle.commit_replay.proofs.Parted.{not-parted, not-done, not-few}
use Rattle.commit_replay.proofs.Versions.{not-own}
use Rattle.commit_replay.proofs.Looked.{settled-moves}
use Rattle.commit_replay.proofs.Steps.{why-unread, why-not-made}
use Rattle.commit_replay.proofs.Received.{not-anew}
use Rattle.commit_replay.proofs.commit.remake_commit.Goals as goal

pub returns-in-Err-clause-not : goal.returns-in-Err-clause-not
returns-in-Err-clause-not g c =
    let r = c.args.recorded.now in
    let fixed = fix_in (form_of c.args.version) g.T.Mrdt.meaning r.terms g.A.Address.address in
    subst (NotRemadeAs fixed r.written c.args.next.now c.args.bytes.now) (sym c.unread.ensures)
    (why-unread fixed r.written c.args.next.now c.args.bytes.now c.in-Err.why (λ is. not-parted fixed c.args.next.now c.args.bytes.now (c.in-Err.ensures.none (ap Err is))))

pub returns-in-Err-planned-clause-not : goal.returns-in-Err-planned-clause-not
returns-in-Err-planned-clause-not g c =
    let r = c.args.recorded.now in
    let fixed = fix_in (form_of c.args.version) g.T.Mrdt.meaning r.terms g.A.Address.address in
    let parts = c.in-Ok.ensures.parts in
    subst (NotRemadeAs fixed r.written c.args.next.now c.args.bytes.now) (sym c.unread-in-Err-planned.ensures)
    (why-unread fixed r.written c.args.next.now c.args.bytes.now c.in-Err-planned.why
    (λ is.
    not-done fixed c.args.next.now c.args.bytes.now c.in-Ok.parts.value parts.commit parts.are
    (λ does. c.in-Err-planned.ensures.other (ap Err is) r.terms g.A.Address.address (does-same g.T.Mrdt.meaning r.terms g.A.Address.address (form_of c.args.version) present c.args.next.now c.in-Ok.parts.action (subst (Does fixed c.args.next.now) parts.does does)))))

pub returns-in-Ok-false-clause-not : goal.returns-in-Ok-false-clause-not
returns-in-Ok-false-clause-not g c =
    let r = c.args.recorded.now in
    let next = c.args.next.now in
    let bytes = c.args.bytes.now in
    let address = g.A.Address.address in
    let fixed = fix g.T.Mrdt.meaning r.terms address in
    let laws = (g.met.T.Mrdt g.world.𝓛 g.world.𝓜 g.world.𝓡 ((λ s x. x), (λ x. x), (λ x. x), λ x. x)).laws in
    let valid = subst (IsFullyValid fixed) (settled-moves r.written r.pending c.requires.settled) c.moves-moves.ensures.valid in
    let parts = c.in-Ok.ensures.parts in
    let not = subst (MadeAnew fixed r c.made_anew.new.recorded c.in-Ok-planned.plan c.in-Ok.parts next bytes) c.in-Ok-false.field-0-test c.in-Ok-false.ensures in
    let few : AreFewIn c.args.version parts.commit.parents = λ one. subst (λ (n : ℕ). n ≤ 2) (sym parts.counted) (c.are_few.ensures.0 c.if-not-are_few.false one) in
    not-own g.T.Mrdt.meaning r.terms address c.args.version r.written next bytes c.in-Ok.parts.value parts.commit parts.are few c.why_not.result
    (why-not-made fixed r.written next bytes laws g.met.A.Address.size valid c.requires.known c.requires.fits c.requires.may c.requires.long
    c.in-Ok.parts.value parts.commit c.in-Ok.parts.action parts.are parts.does (c.in-Ok-planned.ensures.does r.terms address)
    (not-anew g.T.Mrdt.meaning address r c.made_anew.new.recorded next bytes laws g.met.A.Address.size valid c.requires.known c.requires.fits c.requires.may c.requires.long
    c.in-Ok.parts parts c.in-Ok.parts.action parts.does c.in-Ok-planned.plan c.in-Ok-planned.ensures.plan not) c.why_not.result c.why_not.ensures)

pub returns-then-not-are_few-clause-not : goal.returns-then-not-are_few-clause-not
returns-then-not-are_few-clause-not g c =
    let r = c.args.recorded.now in
    let fixed = fix_in (form_of c.args.version) g.T.Mrdt.meaning r.terms g.A.Address.address in
    let parts = c.in-Ok.ensures.parts in
    not-few fixed c.args.next.now c.args.bytes.now c.in-Ok.parts.value parts.commit parts.are
    (λ few. both_ways c.are_few.result c.if-not-are_few.true (c.are_few.ensures.1 (λ one. subst (λ (n : ℕ). n ≤ 2) parts.counted (few one))))
