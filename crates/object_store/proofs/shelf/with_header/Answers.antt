use Rattle.std.proofs.Common.{◌∙◌, ◌-◌, ◌++◌, List, ℕ, ap, length, drop, take, length-drop, arith}
use Rattle.std.proofs.lemmas.List.{take_all}
use Rattle.branch_wire.specs.StoredObjects.{header}
use Rattle.object_store.proofs.Walking.{headed, has_header}
use Rattle.object_store.proofs.shelf.with_header.Goals as goal

pub slice_bounds-extend_from_slice-count : goal.slice_bounds-extend_from_slice-count
slice_bounds-extend_from_slice-count c = let long = has_header c.args.file.now c.requires in omega (arith, long)

pub slice_bounds-extend_from_slice-start : goal.slice_bounds-extend_from_slice-start
slice_bounds-extend_from_slice-start c = let long = has_header c.args.file.now c.requires in omega (arith, long)

pub returns : goal.returns
returns c = λ version stored is.
    let file = c.args.file.now in
    let rest = take_all (length file - 16) (drop 16 file) (omega (arith, length-drop 16 file)) in
    c.in_ok-extend_from_slice.ensures.items ∙ ap (λ (l : List ℕ). l ++ take (length file - 16) (drop 16 file)) c.in_ok-text.ensures ∙ ap (λ (l : List ℕ). header ++ l) rest ∙ headed version stored file is
