-- The files of longer histories, and how long they are.
use Rattle.std.proofs.Common.{◌≡◌, ℕ, ◌+◌, ◌-◌, ◌≤◌, List, [], ◌∷◌, ◌++◌, length, drop, sym, ◌∙◌, ap, subst, arith, length-append, length-drop}
use Rattle.std.specs.Prelude.{max}
use Rattle.std.proofs.Math.Seq.{drop-append_seam}
use Rattle.std.proofs.lemmas.List.{drop-drop}
use Rattle.branch_disk.specs.Disk.{Files}
use Rattle.branch_history.specs.declared.moves.Move.{Move}
use Rattle.branch_machine.specs.Fixed.{Fixed}
use Rattle.branch_machine.specs.Objects.{objects_text}
use Rattle.branch_files.specs.Records.{history_text}
use Rattle.branch_files.proofs.Longer.{longer-length, history-longer, objects-longer}
use Rattle.store_core.specs.Contents.{over, closed_text, files_with}
use Rattle.store_core.proofs.Contents.{files-are}

-- behind a text that stands over old bytes these stand
drop-behind : (text old : List ℕ) (n : ℕ) → length text ≤ n → drop n (over text old) ≡ drop n old
drop-behind text old n long =
    let k = n - length text in
    let is : length text + k ≡ n = omega arith in
    subst (λ (m : ℕ). drop m (over text old) ≡ drop m old) is
    (sym (drop-drop k (length text) (over text old)) ∙ ap (drop k) (drop-append_seam text (drop (length text) old)) ∙ drop-drop k (length text) old)

over-over : (first second old : List ℕ) → length first ≤ length second → over second (over first old) ≡ over second old
over-over first second old long = ap (λ (l : List ℕ). second ++ l) (drop-behind first old (length second) long)

pub length-over : (text old : List ℕ) → length (over text old) ≡ max (length text) (length old)
length-over text old = omega (arith, length-append text (drop (length text) old), length-drop (length text) old)

module _ {S O R Q A : Type 0} (fixed : Fixed S O R Q A) where
  pub covers : (first second : List (Move O R)) (old : Files) → files_with fixed (first ++ second) (files_with fixed first old) ≡ files_with fixed (first ++ second) old
  covers first second old =
      let whole = first ++ second in
      let heads : length (history_text fixed first) ≤ length (history_text fixed whole) = longer-length (history_text fixed first) (history_text fixed whole) (history-longer fixed first second) in
      let objects : length (objects_text fixed first) ≤ length (objects_text fixed whole) = longer-length (objects_text fixed first) (objects_text fixed whole) (objects-longer fixed first second) in
      let closed : length (closed_text fixed first) ≤ length (closed_text fixed whole) = omega (arith, heads, length-append (history_text fixed first) (0 ∷ []), length-append (history_text fixed whole) (0 ∷ [])) in
      files-are (files_with fixed whole (files_with fixed first old)) (over (objects_text fixed whole) old.objects) (over (closed_text fixed whole) old.heads)
      (over-over (objects_text fixed first) (objects_text fixed whole) old.objects objects) (over-over (closed_text fixed first) (closed_text fixed whole) old.heads closed)

  pub closed-long : (moves : List (Move O R)) → length (closed_text fixed moves) ≡ length (history_text fixed moves) + 1
  closed-long moves = length-append (history_text fixed moves) (0 ∷ [])
