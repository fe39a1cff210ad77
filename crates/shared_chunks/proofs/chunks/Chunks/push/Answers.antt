use Rattle.std.proofs.Common.{◌≡◌, ◌∙◌, ◌++◌, ◌∷◌, [], Some, None, ap, sym, take}
use Rattle.std.specs.Option.{option_map}
use Rattle.std.specs.Arc.{arc_value}
use Rattle.shared_chunks.specs.Chunks.{entries_of}
use Rattle.shared_chunks.proofs.Joined.{pushed-closed}
use Rattle.shared_chunks.proofs.chunks.Chunks.push.Goals as goal
use Rattle.shared_chunks.proofs.chunks.Chunks.push.Goals.{in-Some, in_default}

pub returns-after-take-clause-pushed : goal.returns-after-take-clause-pushed
returns-after-take-clause-pushed g c =
    elim c.match-take.branch [
      | in-Some w ↦
          let at : Some (arc_value w.in-Some.chunk) ≡ Some (take c.self.inside.rest (entries_of (option_map arc_value c.self.inside.last)) ++ c.args.entry ∷ []) =
          ap (option_map arc_value) (sym w.in-Some.is ∙ c.take.ensures.value) ∙ c.in_ok-add_entry.ensures.added in
          let more = w.push_reserved.ensures.items ∙ ap (λ items. items ++ w.in-Some.chunk ∷ []) c.reserve.ensures.items in
          rw (w.self-inside-is, ← c.self.view_is)
          (pushed-closed arc_value c.self.inside.full.items w.push_reserved.new.self.items w.in-Some.chunk (take c.self.inside.rest (entries_of (option_map arc_value c.self.inside.last))) (entries_of (option_map arc_value c.take.new.self)) c.args.entry more at)
      | in_default w ↦
          let at : None ≡ Some (take c.self.inside.rest (entries_of (option_map arc_value c.self.inside.last)) ++ c.args.entry ∷ []) =
          ap (option_map arc_value) (sym w.in_default.is ∙ c.take.ensures.value) ∙ c.in_ok-add_entry.ensures.added in
          absurd (cc at)
    ]
