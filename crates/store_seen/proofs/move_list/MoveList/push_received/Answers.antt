-- The time goes behind the others, where there is one.
use Rattle.std.proofs.Common.{◌∷◌, [], ◌++◌, ap, sym, ◌∙◌}
use Rattle.std.specs.Map.{lookup}
use Rattle.indexmap.proofs.CallerLemmas.{insert_entry-new}
use Rattle.branch_history.specs.declared.moves.Move.TheVariants as move
use Rattle.store_seen.specs.Times.{time_eq, received_times, count_of}
use Rattle.store_seen.proofs.Times.{timed-pushed, untimed-pushed, time-of-some}
use Rattle.store_seen.proofs.move_list.MoveList.push_received.Goals as goal
use Rattle.store_seen.proofs.move_list.MoveList.push_received.Goals.{then-is_some+in-Ok, else-is_some}

pub invariant_of-self : goal.invariant_of-self
invariant_of-self g c =
    let ms = c.self.inside.items.items in
    let m = move.Received c.args.parents c.args.origin c.args.clock c.args.act in
    elim c.if-is_some.branch [
      | then-is_some+in-Ok w ↦
          let some = sym w.if-is_some.ensures in
          let none = time-of-some c.args.act some c.requires.new in
          ap (λ s. s.times.entries) w.self-inside-is
          ∙ w.in-Ok.ensures.entries
          ∙ insert_entry-new time_eq c.self.inside.times (c.args.clock, c.args.origin) c.args.number (ap (lookup (time_eq (c.args.clock, c.args.origin))) (c.self.invariant ∙ ap (λ v. received_times v.items) c.self.view_is) ∙ none)
          ∙ ap (λ l. l ++ ((c.args.clock, c.args.origin), c.args.number) ∷ []) c.self.invariant
          ∙ timed-pushed ms c.args.parents c.args.origin c.args.clock c.args.number c.args.act some (c.requires.number ∙ ap (λ v. count_of v.items) (sym c.self.view_is))
          ∙ ap received_times (ap (λ s. s.items.items ++ m ∷ []) (sym w.self-inside-is) ∙ sym c.push_reserved.ensures.items)
      | else-is_some w ↦
          ap (λ s. s.times.entries) w.self-inside-is
          ∙ c.self.invariant
          ∙ untimed-pushed ms c.args.parents c.args.origin c.args.clock c.args.act (sym w.if-is_some.ensures)
          ∙ ap received_times (ap (λ s. s.items.items ++ m ∷ []) (sym w.self-inside-is) ∙ sym c.push_reserved.ensures.items)
    ]
