-- Texts that are written in pieces.
use Rattle.std.proofs.Common.{◌≡◌, ℕ, ◌+◌, List, [], ◌∷◌, ◌++◌, length, refl, ◌∙◌, ap, sym, subst, arith, append_assoc, length-append}
use Rattle.std.proofs.lemmas.List.{append-nil}
use Rattle.std.specs.List.{flat_map, sum_by}
use Rattle.std.proofs.lemmas.List.Sums.{sum_by-cons}
use Rattle.mrdt_model.specs.Spelled.{AppendsPart, capped}
use Rattle.branch_wire.proofs.Parts.{part-first, part-second}
use Rattle.mrdt_map.specs.Keyed.{entry_spelling}
use Rattle.mrdt_map.specs.Slots.{entry_size}

-- behind the old bytes stands what was written of the whole, and the rest is still to come
pub record PutSoFar (old out rest whole : List ℕ) : Type 0 where
  pub written : List ℕ
  pub behind : out ≡ old ++ written
  pub all : written ++ rest ≡ whole

pub so_far-more : (old out new piece rest whole : List ℕ) → PutSoFar old out (piece ++ rest) whole → new ≡ out ++ piece → PutSoFar old new rest whole
so_far-more old out new piece rest whole so_far is = record {
  written = so_far.written ++ piece;
  behind = is ∙ ap (λ o. o ++ piece) so_far.behind ∙ append_assoc old so_far.written piece;
  all = append_assoc so_far.written piece rest ∙ so_far.all;
}

-- a first part of the next piece was written
pub so_far-part : (old out new piece rest whole : List ℕ) → PutSoFar old out (piece ++ rest) whole → AppendsPart out new piece → AppendsPart old new whole
so_far-part old out new piece rest whole so_far part =
    subst (AppendsPart old new) so_far.all (part-second old out new so_far.written (piece ++ rest) so_far.behind (part-first out new piece rest part))

pub so_far-end : (old out rest whole : List ℕ) → PutSoFar old out rest whole → rest ≡ [] → out ≡ old ++ whole
so_far-end old out rest whole so_far none =
    so_far.behind ∙ ap (λ w. old ++ w) (sym (append-nil so_far.written) ∙ ap (λ r. so_far.written ++ r) (sym none) ∙ so_far.all)

-- the sizes of entries add up to that of all
pub sizes : {V : Type 0} (spelling : V → List ℕ) (es : List (List ℕ × V)) → capped (sum_by (entry_size spelling) es) ≡ capped (length (flat_map (entry_spelling spelling) es))
sizes spelling [] = refl
sizes spelling (e ∷ es) = let rest = sizes spelling es in let both = length-append (entry_spelling spelling e) (flat_map (entry_spelling spelling) es) in
    omega (arith, rest, both, sum_by-cons (entry_size spelling) e es)
