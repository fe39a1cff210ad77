use Rattle.std.proofs.Common.{◌∙◌, ◌++◌, ◌∷◌, ◌<◌, ◌^◌, [], ℕ, List, ap, sym, subst, refl, rules, length}
use Rattle.std.proofs.lemmas.List.{append-nil}
use Rattle.branch_wire.specs.Fields.{short_number}
use Rattle.branch_wire.specs.Reading.{HasLength64}
use Rattle.branch_objects_codec.specs.declared.object.Object.TheVariants.{Value}
use Rattle.branch_objects_codec.specs.Grammar.{object_bytes}
use Rattle.branch_wire.specs.StoredObjects.{header}
use Rattle.disk_tests.proofs.objects.file_of_value.Goals as goal

pub returns : goal.returns
unfolding short_number
returns c =
    let text = c.in_ok-from_slice.field-0 in
    let x = object_bytes (Value text) in
    let short : length c.args.text.now < 2 ^ 64 = search rules in (
      x ∷ [],
      ((Value text, subst HasLength64 (sym c.in_ok-from_slice.ensures) short, refl), tt),
      c.in_ok-put.ensures.ok ∙ ap (λ (l : List ℕ). l ++ x) c.in_ok-file.ensures.items ∙ ap (λ (l : List ℕ). header ++ l) (sym (append-nil x)),
    )
