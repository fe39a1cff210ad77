-- The object of a value goes behind the others where its address is not known.
use Rattle.std.proofs.Common.{◌≡◌, ◌++◌, ◌∙◌, Bool, true, false, not, List, ℕ, refl, ap, sym, append-nil}
use Rattle.store_compact.proofs.Copies.{insert-known, copied-new, copied-known}
use Rattle.store_compact.proofs.copying.copy_value.Goals as goal

-- whether it was known, from whether it went in
not_in : (a b : Bool) → a ≡ true → a ≡ not b → b ≡ false
not_in a true is tells = absurd (let none : true ≡ false = sym is ∙ tells in cc)
not_in a false is tells = refl

is_in : (a b : Bool) → a ≡ false → a ≡ not b → b ≡ true
is_in a true is tells = refl
is_in a false is tells = absurd (let none : false ≡ true = sym is ∙ tells in cc)

pub returns-in_ok-extend_from_slice-clause-known :
    goal.returns-in_ok-extend_from_slice-clause-known
returns-in_ok-extend_from_slice-clause-known c = insert-known c.args.address c.args.known.now.keys c.insert.new.self.keys c.in_ok-insert.ensures.keys

pub returns-in_ok-extend_from_slice-clause-copied :
    goal.returns-in_ok-extend_from_slice-clause-copied
returns-in_ok-extend_from_slice-clause-copied c =
    c.in_ok-extend_from_slice.ensures.items ∙ ap (λ (l : List ℕ). c.args.text.now.items ++ l) (sym (copied-new c.args.address c.args.value.now c.args.known.now.keys (not_in c.in_ok-insert.field-0 _ c.if-branch.true c.in_ok-insert.ensures.added)))

pub returns-else-branch-clause-known : goal.returns-else-branch-clause-known
returns-else-branch-clause-known c = insert-known c.args.address c.args.known.now.keys c.insert.new.self.keys c.in_ok-insert.ensures.keys

pub returns-else-branch-clause-copied : goal.returns-else-branch-clause-copied
returns-else-branch-clause-copied c =
    sym (append-nil c.args.text.now.items) ∙ ap (λ (l : List ℕ). c.args.text.now.items ++ l) (sym (copied-known c.args.address c.args.value.now c.args.known.now.keys (is_in c.in_ok-insert.field-0 _ c.if-branch.false c.in_ok-insert.ensures.added)))
