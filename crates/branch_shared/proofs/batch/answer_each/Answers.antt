-- One caller more.
use Rattle.std.proofs.Common.{◌≡◌, ◌+◌, ◌<◌, ◌≤◌, List, ◌∷◌, ◌++◌, length, take, drop, ap, sym, subst, ◌∙◌, arith, length-drop, length-take-le, length-set}
use Rattle.std.specs.Prelude.{Result}
use Rattle.std.proofs.lemmas.List.{take-append-drop}
use Rattle.std.specs.Vec.Iter.{into_iter_items}
use Rattle.branch_front.specs.Views.{IsIdle}
use Rattle.branch_shared.specs.Entries.{AreNoted, moments_of, moves_of}
use Rattle.branch_shared.specs.Keeps.{faults_since}
use Rattle.branch_shared.specs.Batches.{TakenView, answered, answered_all, brings, bring, sure_after}
use Rattle.branch_shared.proofs.Entries.{noted-both, noted-none}
use Rattle.branch_shared.proofs.Places.{told-next}
use Rattle.branch_shared.proofs.batch.answer_each.Goals as goal
use Rattle.branch_shared.proofs.batch.answer_each.Goals.{in-Some, in_default}

pub loop-taken-init : goal.loop-taken-init
loop-taken-init g c =
    let faults = faults_since g.D.Disk.faults c.args.core.now in
    let history = c.args.core.now.history in
    let since = g.D.Disk.moment c.args.core.now.disk in
    let known = c.args.writer.now.moves in
    let count = length (g.N.Named.begun ++ moves_of known) in
    let all = c.args.all.now in
    let items : into_iter_items c.into_iter-answers.result ≡ c.args.answers.items = c.into_iter-answers.ensures.rest in
    record {
      table = c.requires.table;
      idle = c.requires.idle;
      noted = noted-none since known;
      begins = c.requires.known;
      more = ap (λ (l : List (Result _ _)). count + bring l) items ∙ c.requires.more;
      each = c.requires.each ∙ sym (ap length items);
      faults = c.requires.rise;
      told = ap (λ (l : List (Result _ _)). answered_all faults history since (moments_of known) count l all) items;
    }

pub loop-taken-preserved : goal.loop-taken-preserved
loop-taken-preserved g c =
    let inv = c.loop-taken.invariant in
    let i = c.loop-taken.taken-index in
    let all = c.loop-taken.all in
    let taken = c.taken-item.result in
    let faults = faults_since g.D.Disk.faults c.args.core.now in
    let history = c.args.core.now.history in
    let begun = g.N.Named.begun in
    let count = length (begun ++ moves_of c.loop-taken.writer.moves) in
    let since = g.D.Disk.moment c.args.core.now.disk in
    let sure = moments_of c.loop-taken.writer.moves in
    let later = into_iter_items c.next.new.self in
    let lt : i < length all = omega arith in
    elim c.match-next.branch [
      | in-Some w ↦
          let answer = w.in-Some.answer in
          let next : into_iter_items c.loop-taken.answers ≡ answer ∷ later = w.in-Some.ensures.items in
          let more : count + (brings answer + bring later) ≡ length history = ap (λ l. count + bring l) (sym next) ∙ inv.more in
          let le : count + brings answer ≤ length history = omega arith in
          let known : begun ++ moves_of c.match-next.writer.moves ≡ take (count + brings answer) history = ap (λ v. begun ++ moves_of v.moves) w.writer-is ∙ w.answer_one.ensures.history in
          let then : moments_of c.match-next.writer.moves ≡ sure_after since sure answer = ap (λ v. moments_of v.moves) w.writer-is ∙ w.answer_one.ensures.sure in
          let long : length (begun ++ moves_of c.match-next.writer.moves) ≡ count + brings answer = ap length known ∙ length-take-le (count + brings answer) history le in
          let told = told-next faults since history all i count sure taken w.answer_one.new.taken answer later lt c.taken-item.is
          (w.answer_one.ensures.taken ∙ ap (λ (t : TakenView _ _). answered faults (take (count + brings answer) history) (sure_after since sure answer) answer t) (sym c.taken-item.is)) in
          record {
            table = ap (λ v. v.table) w.writer-is ∙ (w.answer_one.ensures.table ∙ inv.table);
            idle = subst IsIdle (sym w.writer-is) w.answer_one.ensures.idle;
            noted = noted-both since c.args.writer.now.moves c.loop-taken.writer.moves c.match-next.writer.moves inv.noted (subst (λ v. AreNoted since c.loop-taken.writer.moves v.moves) (sym w.writer-is) w.answer_one.ensures.noted);
            begins = (drop (count + brings answer) history, ap (λ l. l ++ drop (count + brings answer) history) known ∙ take-append-drop (count + brings answer) history);
            more = ap (λ n. n + bring later) long ∙ omega arith;
            each = omega (arith, length-drop (i + 1) c.match-next.all, ap length w.all-is, length-set all i w.answer_one.new.taken, length-drop i all, inv.each, ap length next);
            faults = ap (λ v. v.faults) w.writer-is ∙ w.answer_one.ensures.faults;
            told = ap (λ n. take (i + 1) c.match-next.all ++ answered_all faults history since (moments_of c.match-next.writer.moves) n later (drop (i + 1) c.match-next.all)) long
                ∙ (ap (λ s. take (i + 1) c.match-next.all ++ answered_all faults history since s (count + brings answer) later (drop (i + 1) c.match-next.all)) then
                ∙ (ap (λ (l : List (TakenView _ _)). take (i + 1) l ++ answered_all faults history since (sure_after since sure answer) (count + brings answer) later (drop (i + 1) l)) w.all-is
                ∙ (told
                ∙ (ap (λ (l : List (Result _ _)). take i all ++ answered_all faults history since sure count l (drop i all)) (sym next)
                ∙ inv.told))));
          }
      | in_default w ↦ absurd (omega (arith, w.in_default.ensures.cases.0, length-drop i all, inv.each))
    ]
