use Rattle.std.proofs.Common.{rules, ◌≡◌, FitsSigned, to_z, of_z, w64, List, [], ◌∷◌, refl, ◌∙◌, ap, sym, subst}
use Rattle.std.proofs.lemmas.Int.{to_z-of_z}
use Rattle.mrdt_model.specs.declared.time.Time.{Time}
use Rattle.mrdt_model.specs.Executions.{Event, IsLawful, IsAfter, next_event}
use Rattle.mrdt_model.proofs.Parts.{all_seen}
use Rattle.live_set.specs.Effects.{live_after}
use Rattle.live_set.specs.Entries.{MergesEntries}
use Rattle.live_set.specs.UnitReply.{IsAnyReply, no_reply}
use Rattle.live_set.proofs.Rising.{entry_of}
use Rattle.live_set.proofs.Standing.{live-next, live-rising}
use Rattle.mrdt_counter.specs.declared.counter.CounterOp.{CounterOp}
use Rattle.mrdt_counter.specs.Counter.{counter_effect, IsCounterOp, adds_of}
use Rattle.mrdt_counter.proofs.Next.{merged-last}
use Rattle.mrdt_counter.proofs.counter.CounterMrdt.apply.Goals as goal

-- what is left after an operation
after_op : (op known : CounterOp) (t : Time) (x : List (Event CounterOp (Unit {0}))) → op ≡ known → IsLawful IsCounterOp IsAnyReply no_reply x → IsAfter x t → adds_of (next_event x t op tt ∷ x) ≡ live_after (counter_effect known) t (adds_of x)
after_op op known t x is lawful after =
    live-next counter_effect x t op tt (all_seen IsCounterOp IsAnyReply x lawful.well_formed) after ∙ ap (λ o. live_after (counter_effect o) t (adds_of x)) is

pub returns-in_ok-with_add-in-Add-clause-applies : goal.returns-in_ok-with_add-in-Add-clause-applies
returns-in_ok-with_add-in-Add-clause-applies c x lawful is after =
    let added = c.in_ok-with_add-in-Add.field-0 in
    let n = c.in-Add.amount in
    let t = c.args.time in
    let next = next_event x t c.args.op.now tt ∷ x in
    let fits : FitsSigned w64 n = search rules in
    let merges = subst (λ ks. MergesEntries [] ks (entry_of t (to_z w64 (of_z w64 n)) ∷ []) added) is c.in_ok-with_add-in-Add.ensures.merges in
    (refl, merged-last (adds_of x) added (adds_of next) t n c.in_ok-with_add-in-Add.ensures.rising (live-rising counter_effect next) (after_op c.args.op.now _ t x c.in-Add.is lawful after) (subst (λ m. MergesEntries [] (adds_of x) (entry_of t m ∷ []) added) (to_z-of_z w64 n fits) merges))

pub returns-in-Reset-clause-applies : goal.returns-in-Reset-clause-applies
returns-in-Reset-clause-applies c x lawful is after = (refl, c.reset.ensures ∙ sym (after_op c.args.op.now _ c.args.time x c.in-Reset.is lawful after))
