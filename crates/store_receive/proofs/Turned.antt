-- A list that is held the other way round, and is taken part by part.
use Rattle.std.proofs.Common.{◌≡◌, ℕ, ◌+◌, ◌-◌, ◌≤◌, arith, List, ◌++◌, length, take, drop, ap, sym, ◌∙◌}
use Rattle.std.specs.Prelude.{reverse}
use Rattle.std.proofs.lemmas.List.{reverse-append, length-reverse, length-drop, drop-drop, take-append-drop, take_at, drop_at}

module _ {X : Type 0} (turned : List X) (count : ℕ) (within : count ≤ length turned) where
  abbrev at : ℕ
  at = length turned - count

  both : reverse turned ≡ reverse (drop at turned) ++ reverse (take at turned)
  both = ap reverse (sym (take-append-drop at turned)) ∙ reverse-append (take at turned) (drop at turned)

  size : length (reverse (drop at turned)) ≡ count
  size = omega (arith, length-reverse (drop at turned), length-drop at turned, within)

  pub turned-taken : reverse (drop at turned) ≡ take count (reverse turned)
  turned-taken = sym (ap (take count) both ∙ take_at (reverse (drop at turned)) (reverse (take at turned)) count size)

  pub turned-left : reverse (take at turned) ≡ drop count (reverse turned)
  turned-left = sym (ap (drop count) both ∙ drop_at (reverse (drop at turned)) (reverse (take at turned)) count size)

-- the next part of it, and what is left behind that
module _ {X : Type 0} (items left : List X) (start count : ℕ) (rest : left ≡ drop start items) where
  pub next-part : (part : List X) → part ≡ take count left → part ≡ take count (drop start items)
  next-part part is = is ∙ ap (take count) rest

  pub next-left : (new : List X) → new ≡ drop count left → new ≡ drop (start + count) items
  next-left new is = is ∙ ap (drop count) rest ∙ drop-drop count start items

  pub next-within : start ≤ length items → count ≤ length left → start + count ≤ length items
  next-within within few = omega (arith, ap length rest, length-drop start items, within, few)

  pub none-left : start ≤ length items → length left ≤ 0 → length items ≤ start
  none-left within none = omega (arith, ap length rest, length-drop start items, within, none)
