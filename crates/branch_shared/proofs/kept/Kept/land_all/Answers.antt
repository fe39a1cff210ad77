-- The batch's answers, told one behind another.
use Rattle.std.proofs.Common.{◌≡◌, ℕ, ◌+◌, ◌-◌, ◌≤◌, List, ◌++◌, length, map, ap, sym, subst, ◌∙◌, arith, length-append, Ok}
use Rattle.std.proofs.lemmas.List.{length-map}
use Rattle.std.proofs.lemmas.List.Elements.{All-from_recursion}
use Rattle.std.specs.List.{AllByRecursion}
use mathlib.Core.List.{IsPrefix}
use Rattle.branch_history.specs.declared.moves.Move.{Move}
use Rattle.branch_machine.specs.Fixed.{fix}
use Rattle.branch_machine.specs.Validity.{IsFullyValid}
use Rattle.branch_names.specs.declared.terms.Terms.{Terms}
use Rattle.store_core.specs.Batches.{AnswersBatch}
use Rattle.store_core.specs.Views.{StoreView}
use Rattle.store_seen.specs.Views.{PreparedView}
use Rattle.branch_shared.specs.declared.name.Entry.{Entry}
use Rattle.branch_shared.specs.Entries.{moments_of, moves_of}
use Rattle.branch_shared.specs.Keeps.{faults_since}
use Rattle.branch_shared.specs.Batches.{TakenView, Serves, answered_all, bring, seen_to, shortage, with_refusal}
use Rattle.branch_shared.proofs.Calls.{safe-batched, safe-under}
use Rattle.branch_shared.proofs.Entries.{GoOn, each-known, noted-moments}
use Rattle.branch_shared.proofs.Makes.{AllowsAll}
use Rattle.branch_shared.proofs.Together.{grows, served, short-served, kept-grown, may-all, may-begin, may-terms}
use Rattle.branch_shared.proofs.kept.Kept.land_all.Goals as goal

pub land_all_addressed-requires-clause-history : goal.land_all_addressed-requires-clause-history
land_all_addressed-requires-clause-history g c κs within =
    let history = c.self.inside.core.history in
    let n = g.N.Named in
    let all = may-begin n.table n.begun n.terms n.allows (faults_since g.D.Disk.faults c.self.inside.core) history (moments_of c.self.inside.writer.moves) c.args.all.now c.requires.passes c.see_each.ensures.behind c.requires.may in
    All-from_recursion (λ (job : PreparedView _ _). IsPrefix job.seen.history history) c.args.prepared.items
    (subst (AllByRecursion (λ (job : PreparedView _ _). IsPrefix job.seen.history history)) (sym c.requires.prepared) all)

pub land_all_addressed-requires-clause-terms : goal.land_all_addressed-requires-clause-terms
land_all_addressed-requires-clause-terms g c κs within =
    let held = c.self.inside.core.terms in
    let n = g.N.Named in
    let all = may-terms n.table n.begun n.terms n.allows held c.self.invariant.terms_are c.args.all.now c.requires.may in
    All-from_recursion (λ (job : PreparedView _ _). job.seen.terms ≡ held) c.args.prepared.items
    (subst (AllByRecursion (λ (job : PreparedView _ _). job.seen.terms ≡ held)) (sym c.requires.prepared) all)

pub note_faults-requires-clause-rise : goal.note_faults-requires-clause-rise
note_faults-requires-clause-rise g c κs within =
    let faults = g.D.Disk.faults in
    let old = c.self.inside.core in
    let new = c.land_all_addressed.new.self in
    let grown = grows c.args.prepared.items old new c.in-Ok.answers (fix g.T.Mrdt.meaning old.terms g.A.Address.address) c.in-Ok.ensures.answers in
    let opened : faults new.opened ≡ faults old.opened = ap faults grown.opened in
    let later : faults old.disk ≤ faults new.disk = c.in-Ok.ensures.leaves.later in
    let knows : c.see_each.new.writer.faults ≡ faults old.disk - faults old.opened = ap (λ w. w.faults) c.see_each.ensures.writer ∙ c.self.invariant.faults_are in
    omega arith

pub answer_each-requires-clause-known : goal.answer_each-requires-clause-known
answer_each-requires-clause-known g c κs within =
    let old = c.self.inside.core in
    let new = c.land_all_addressed.new.self in
    let begun = g.N.Named.begun in
    let grown = grows c.args.prepared.items old new c.in-Ok.answers (fix g.T.Mrdt.meaning old.terms g.A.Address.address) c.in-Ok.ensures.answers in
    let moves : c.note_faults.new.writer.moves ≡ c.self.inside.writer.moves = ap (λ w. w.moves) c.note_faults.ensures ∙ ap (λ w. w.moves) c.see_each.ensures.writer in
    (grown.more, ap (λ l. (begun ++ moves_of l) ++ grown.more) moves ∙ (ap (λ h. h ++ grown.more) (sym c.self.invariant.history_is) ∙ sym grown.history))

pub answer_each-requires-clause-more : goal.answer_each-requires-clause-more
answer_each-requires-clause-more g c κs within =
    let old = c.self.inside.core in
    let new = c.land_all_addressed.new.self in
    let begun = g.N.Named.begun in
    let grown = grows c.args.prepared.items old new c.in-Ok.answers (fix g.T.Mrdt.meaning old.terms g.A.Address.address) c.in-Ok.ensures.answers in
    let moves : c.note_faults.new.writer.moves ≡ c.self.inside.writer.moves = ap (λ w. w.moves) c.note_faults.ensures ∙ ap (λ w. w.moves) c.see_each.ensures.writer in
    let before : length (begun ++ moves_of c.note_faults.new.writer.moves) ≡ length old.history = ap (λ l. length (begun ++ moves_of l)) moves ∙ ap (λ h. length h) (sym c.self.invariant.history_is) in
    let brought : bring c.into_vec.result.items ≡ bring c.in-Ok.answers = ap (λ l. bring l) c.into_vec.ensures in
    let whole : length new.history ≡ length old.history + length grown.more = ap (λ h. length h) grown.history ∙ length-append old.history grown.more in
    let many = grown.many in
    omega arith

pub answer_each-requires-clause-each : goal.answer_each-requires-clause-each
answer_each-requires-clause-each g c κs within =
    let old = c.self.inside.core in
    let new = c.land_all_addressed.new.self in
    let grown = grows c.args.prepared.items old new c.in-Ok.answers (fix g.T.Mrdt.meaning old.terms g.A.Address.address) c.in-Ok.ensures.answers in
    ap (λ l. length l) c.see_each.ensures.seen
    ∙ (length-map c.args.all.now (seen_to (faults_since g.D.Disk.faults old) old.history (moments_of c.self.inside.writer.moves))
    ∙ (sym (length-map c.args.all.now (λ (t : TakenView _ _). t.job.prepared))
    ∙ (sym (ap (λ l. length l) c.requires.prepared)
    ∙ (sym grown.long
    ∙ sym (ap (λ l. length l) c.into_vec.ensures)))))

pub invariant_of-self : goal.invariant_of-self
invariant_of-self g c =
    let disk = g.D.Disk in
    let meaning = g.T.Mrdt.meaning in
    let address = g.A.Address.address in
    let old = c.self.inside.core in
    let new = c.land_all_addressed.new.self in
    let n = g.N.Named in
    let jobs = c.args.prepared.items in
    let answers = c.in-Ok.answers in
    let grown = grows jobs old new answers (fix meaning old.terms address) c.in-Ok.ensures.answers in
    let named = c.answer_each.ensures.table ∙ (ap (λ w. w.table) c.note_faults.ensures ∙ (ap (λ w. w.table) c.see_each.ensures.writer ∙ c.self.invariant.table_is)) in
    let many : length jobs ≤ 64 = omega (arith, ap (λ l. length l) c.requires.prepared, length-map c.args.all.now (λ (t : TakenView _ _). t.job.prepared), c.requires.few) in
    let may = subst (AllowsAll n.allows) (sym c.requires.prepared) (may-all n.table n.begun n.terms n.allows c.args.all.now c.requires.may) in
    let moves : c.note_faults.new.writer.moves ≡ c.self.inside.writer.moves = ap (λ w. w.moves) c.note_faults.ensures ∙ ap (λ w. w.moves) c.see_each.ensures.writer in
    let us = moments_of c.self.inside.writer.moves in
    let vs = moments_of c.answer_each.new.writer.moves in
    let on = subst (λ (l : List (Entry _ _)). GoOn (disk.moment new.disk) (moments_of l) vs) moves (noted-moments (disk.moment new.disk) c.note_faults.new.writer.moves c.answer_each.new.writer.moves c.answer_each.ensures.noted) in
    let long = each-known n.begun c.answer_each.new.writer.moves ∙ ap (λ h. length h) c.answer_each.ensures.history in
    let only_now = g.met.D.Disk.only_now in
    let safe = safe-under disk meaning address n.since n.left n.begun n.allows old new only_now us vs on long n.terms c.self.invariant.terms_are c.self.invariant.safe c.self.invariant.sure
    (λ was. safe-batched disk meaning address n.since n.left n.begun n.allows old new only_now us vs on long jobs many may answers was c.in-Ok.ensures.answers c.in-Ok.ensures.leaves c.moves-in-Ok.ensures.valid) in
    kept-grown disk (fix meaning n.terms address) n.table n.begun n.terms n.opened n.allows n.since n.left jobs old new answers c.self.inside.writer c.answer_each.new.writer c.self.invariant grown may
    named c.answer_each.ensures.history c.answer_each.ensures.faults c.answer_each.ensures.idle safe

pub returns-in-Ok : goal.returns-in-Ok
returns-in-Ok g c =
    let faults = g.D.Disk.faults in
    let meaning = g.T.Mrdt.meaning in
    let address = g.A.Address.address in
    let n = g.N.Named in
    let old = c.self.inside.core in
    let new = c.land_all_addressed.new.self in
    let all = c.args.all.now in
    let answers = c.in-Ok.answers in
    let kept = c.self.invariant in
    let fixed = fix meaning old.terms address in
    let grown = grows c.args.prepared.items old new answers fixed c.in-Ok.ensures.answers in
    let batch = subst (λ (jobs : List (PreparedView _ _)). AnswersBatch fixed jobs old new (Ok answers)) c.requires.prepared c.in-Ok.ensures.answers in
    let valid : IsFullyValid fixed new.history = subst (λ (t : Terms). IsFullyValid (fix meaning t address) new.history) grown.terms c.moves-in-Ok.ensures.valid in
    let since = g.D.Disk.moment new.disk in
    let sure = moments_of c.self.inside.writer.moves in
    let done = served meaning address faults n.opened n.begun old.terms old all sure since kept.sure.long kept.opened_is (moves_of c.self.inside.writer.moves, sym kept.history_is)
    (record { later = c.moves.ensures.later; caused = c.moves.ensures.caused; quiet = c.moves.ensures.quiet }) c.requires.passes c.see_each.ensures.behind
    new answers grown.opened (λ first second is. c.has_fully_valid_prefixes.ensures old.terms address first second (subst (IsFullyValid fixed) (sym is) valid))
    (record { later = c.moves-in-Ok.ensures.later; caused = c.moves-in-Ok.ensures.caused; quiet = c.moves-in-Ok.ensures.quiet }) c.in-Ok.ensures.leaves.caused batch in
    let moves : c.note_faults.new.writer.moves ≡ c.self.inside.writer.moves = ap (λ w. w.moves) c.note_faults.ensures ∙ ap (λ w. w.moves) c.see_each.ensures.writer in
    let count : length (n.begun ++ moves_of c.note_faults.new.writer.moves) ≡ length old.history = ap (λ l. length (n.begun ++ moves_of l)) moves ∙ ap (λ h. length h) (sym kept.history_is) in
    let told = c.answer_each.ensures.answered
    ∙ (ap (λ (m : ℕ). answered_all (faults_since faults new) new.history since (moments_of c.note_faults.new.writer.moves) m c.into_vec.result.items c.see_each.new.all) count
    ∙ (ap (λ l. answered_all (faults_since faults new) new.history since (moments_of l) (length old.history) c.into_vec.result.items c.see_each.new.all) moves
    ∙ (ap (λ l. answered_all (faults_since faults new) new.history since sure (length old.history) l c.see_each.new.all) c.into_vec.ensures
    ∙ ap (λ l. answered_all (faults_since faults new) new.history since sure (length old.history) answers l) c.see_each.ensures.seen))) in
    subst (λ (t : Terms). AllByRecursion (λ (taken : TakenView _ _). Serves (fix meaning t address) n.opened n.begun taken.job taken.given) c.answer_each.new.all) kept.terms_are
    (subst (λ (l : List (TakenView _ _)). AllByRecursion (λ (taken : TakenView _ _). Serves fixed n.opened n.begun taken.job taken.given) l) (sym told) done)

pub returns-in-Err : goal.returns-in-Err
returns-in-Err g c =
    let faults = g.D.Disk.faults in
    let meaning = g.T.Mrdt.meaning in
    let address = g.A.Address.address in
    let n = g.N.Named in
    let old = c.self.inside.core in
    let kept = c.self.invariant in
    let fixed = fix meaning old.terms address in
    let short = short-served meaning address faults n.opened n.begun old.terms old c.args.all.now (moments_of c.self.inside.writer.moves) 0 kept.sure.long kept.opened_is (moves_of c.self.inside.writer.moves, sym kept.history_is)
    (record { later = c.moves.ensures.later; caused = c.moves.ensures.caused; quiet = c.moves.ensures.quiet }) c.requires.passes c.see_each.ensures.behind c.moves.ensures.valid in
    let refused = c.refuse_each.ensures
    ∙ (ap (λ (s : StoreView (Move _ _) _). map (with_refusal (shortage s)) c.see_each.new.all) c.in-Err.ensures.answers.short
    ∙ ap (λ l. map (with_refusal (shortage old)) l) c.see_each.ensures.seen) in
    subst (λ (t : Terms). AllByRecursion (λ (taken : TakenView _ _). Serves (fix meaning t address) n.opened n.begun taken.job taken.given) c.refuse_each.new.all) kept.terms_are
    (subst (λ (l : List (TakenView _ _)). AllByRecursion (λ (taken : TakenView _ _). Serves fixed n.opened n.begun taken.job taken.given) l) (sym refused) short)
