-- A branch that is placed at a commit.
use Rattle.std.proofs.Common.{◌≡◌, ◌⊎◌, inl, inr, ℕ, ◌+◌, Bool, true, false, cond, ◌&&◌, arith, List, [], ◌∷◌, ◌++◌, length, refl, ap, sym, ◌∙◌, subst, Option, Some, None}
use Rattle.std.specs.Prelude.{not}
use Rattle.std.specs.Option.{option_map, option_map_or}
use Rattle.std.specs.List.{position_from}
use Rattle.std.specs.Str.{bytes_eq}
use Rattle.std.proofs.lemmas.Slice.Eq.{bytes_eq-Decides}
use Rattle.branch_wire.specs.StoredObjects.{Stored, collision}
use Rattle.branch_history.specs.declared.moves.Move.{Move}
use Rattle.branch_history.specs.declared.moves.Move.TheVariants as move
use Rattle.branch_names.specs.declared.branch.Branch.{Branch}
use Rattle.branch_names.specs.Heads.{head_of, branch_named, with_branch}
use Rattle.branch_history.specs.History.{Store}
use Rattle.branch_history.specs.Steps.{Refusal, NameTaken, Forked, Refused, Collision, Place, Turn}
use Rattle.branch_history.specs.Machine.{answers, makes, unless, fork_refusal, place_turn, turn}
use Rattle.branch_history.proofs.Lists.{slice_get-new}
use Rattle.branch_history.proofs.Valid.{store_of-more}
use Rattle.branch_machine.specs.Fixed.{Fixed}
use Rattle.branch_machine.specs.Objects.{store_after, objects_of}
use Rattle.branch_machine.specs.Machine.{collision_refusal, unless_made, full_turn}
use Rattle.branch_machine.proofs.Distinct.{no-objects}

-- where none passes a test, one behind all that passes is found
position-last : {X : Type 0} (f : X → Bool) (i : ℕ) (xs : List X) (x : X) → position_from f i xs ≡ None → f x ≡ true → position_from f i (xs ++ x ∷ []) ≡ Some (i + length xs)
position-last f i [] x none is = ap (λ b. cond b (Some i) None) is ∙ ap (λ (k : ℕ). Some k) (omega arith)
position-last f i (y ∷ ys) x none is = step (f y) none (λ rest. position-last f (i + 1) ys x rest is)
  where
    step : (b : Bool) → cond b (Some i) (position_from f (i + 1) ys) ≡ None → (position_from f (i + 1) ys ≡ None → position_from f (i + 1) (ys ++ x ∷ []) ≡ Some (i + 1 + length ys)) → cond b (Some i) (position_from f (i + 1) (ys ++ x ∷ [])) ≡ Some (i + length (y ∷ ys))
    step true none rest = absurd (cc none)
    step false none rest = rest none ∙ ap (λ (k : ℕ). Some k) (omega arith)

module _ {S O R Q A : Type 0} (fixed : Fixed S O R Q A) (moves : List (Move O R)) (name : List ℕ) (n : ℕ) where
  abbrev s : Store O R
  s = store_after fixed moves

  abbrev number : ℕ
  number = length s.branches

  abbrev placing : Move O R
  placing = move.Place name number n

  no-collision : collision_refusal fixed moves placing ≡ None
  unfolding collision_refusal
  no-collision =
      ap (λ (xs : Stored). option_map (λ c. Collision (fixed.address c.1) c.0 c.1) (collision fixed.address (objects_of fixed moves) xs))
      (no-objects fixed moves placing (ap (λ (t : Store O R). t.commits) (store_of-more fixed.terms.origin moves placing)))

  -- what the machine does with the step, by what stands in its way
  abbrev placed_as : Option ℕ → Option Refusal → Turn O R A
  placed_as (Some r) o = answers (Refused (NameTaken r))
  placed_as None (Some r) = answers (Refused r)
  placed_as None None = makes placing (Forked number n)

  -- the turn, unless it is refused
  abbrev landing : Option Refusal → Turn O R A
  landing o = unless o (makes placing (Forked number n))

  by-room : (o : Option Refusal) → unless_made (collision_refusal fixed moves) (landing o).made (landing o) ≡ placed_as None o
  by-room None = ap (λ o. landing o) no-collision
  by-room (Some r) = refl

  by-cases : (taken : Option ℕ) → unless_made (collision_refusal fixed moves) (place_turn {A = A} fixed.terms moves name n taken).made (place_turn fixed.terms moves name n taken) ≡ placed_as taken (fork_refusal fixed.terms moves)
  by-cases (Some r) = refl
  by-cases None = by-room (fork_refusal fixed.terms moves)

  turn-is : full_turn fixed moves (Place name n) ≡ placed_as (branch_named s.branches name) (fork_refusal fixed.terms moves)
  unfolding full_turn turn
  turn-is = by-cases (branch_named s.branches name)

  pub free : branch_named s.branches name ≡ None → fork_refusal fixed.terms moves ≡ None → full_turn fixed moves (Place name n) ≡ makes placing (Forked number n)
  free named room = turn-is ∙ ap (λ o. placed_as o (fork_refusal fixed.terms moves)) named ∙ ap (λ o. placed_as None o) room

  -- what stands then
  abbrev Stands : ℕ → ℕ → List (Move O R) → Type 0
  Stands r head made =
      let after = store_after fixed (moves ++ made) in
      (head_of after.branches r ≡ head) × (branch_named after.branches name ≡ Some r) × (after.branches ≡ with_branch s.branches name head) × (after.commits ≡ s.commits)

  stands-placed : branch_named s.branches name ≡ None → Stands number n (placing ∷ [])
  stands-placed named =
      let after = store_of-more fixed.terms.origin moves placing in
      let b : Branch = record { name = name; head = n; dropped = false } in
      let test : Branch → Bool = λ b. not b.dropped && bytes_eq name b.name in (
        ap (λ (t : Store O R). head_of t.branches number) after ∙ ap (λ o. option_map_or (λ (b : Branch). b.head) o 0) (slice_get-new s.branches b []),
        ap (λ (t : Store O R). branch_named t.branches name) after ∙ position-last test 0 s.branches b named ((bytes_eq-Decides name name).1 refl) ∙ ap (λ (k : ℕ). Some k) (omega arith),
        ap (λ (t : Store O R). t.branches) after,
        ap (λ (t : Store O R). t.commits) after,
      )

  pub stands : (t : Turn O R A) (r head : ℕ) → t ≡ full_turn fixed moves (Place name n) → t.outcome ≡ Forked r head → Stands r head t.made
  stands t r head is outcome = at (branch_named s.branches name) refl (fork_refusal fixed.terms moves) (is ∙ turn-is)
    where
      refused : (x : Refusal) → t ≡ answers (Refused x) → Stands r head t.made
      refused x e = let clash : Refused x ≡ Forked r head = sym (ap (λ (u : Turn O R A). u.outcome) e) ∙ outcome in absurd (cc clash)

      at : (taken : Option ℕ) → branch_named s.branches name ≡ taken → (o : Option Refusal) → t ≡ placed_as taken o → Stands r head t.made
      at (Some k) named o e = refused (NameTaken k) e
      at None named (Some x) e = refused x e
      at None named None e =
          let outcomes : Forked number n ≡ Forked r head = sym (ap (λ (u : Turn O R A). u.outcome) e) ∙ outcome in
          let numbers : number ≡ r = cc outcomes in
          let heads : n ≡ head = cc outcomes in
          subst (λ (l : List (Move O R)). Stands r head l) (sym (ap (λ (u : Turn O R A). u.made) e)) (subst (λ (k : ℕ). Stands r k (placing ∷ [])) heads (subst (λ (k : ℕ). Stands k n (placing ∷ [])) numbers (stands-placed named)))

  -- a branch that is placed is the one move
  pub forked : (r head : ℕ) → (full_turn fixed moves (Place name n)).outcome ≡ Forked r head → (full_turn fixed moves (Place name n)).made ≡ placing ∷ []
  forked r head outcome = at (branch_named s.branches name) (fork_refusal fixed.terms moves) turn-is
    where
      at : (taken : Option ℕ) (o : Option Refusal) → full_turn fixed moves (Place name n) ≡ placed_as taken o → (full_turn fixed moves (Place name n)).made ≡ placing ∷ []
      at (Some k) o e = let clash : Refused (NameTaken k) ≡ Forked r head = sym (ap (λ (u : Turn O R A). u.outcome) e) ∙ outcome in absurd (cc clash)
      at None (Some x) e = let clash : Refused x ≡ Forked r head = sym (ap (λ (u : Turn O R A). u.outcome) e) ∙ outcome in absurd (cc clash)
      at None None e = ap (λ (u : Turn O R A). u.made) e

  -- it is placed there, or refused
  pub placed-or : ((r : Refusal) × ((full_turn fixed moves (Place name n)).outcome ≡ Refused r)) ⊎ ((full_turn fixed moves (Place name n)).outcome ≡ Forked number n)
  placed-or = at (branch_named s.branches name) (fork_refusal fixed.terms moves) turn-is
    where
      at : (taken : Option ℕ) (o : Option Refusal) → full_turn fixed moves (Place name n) ≡ placed_as taken o → ((r : Refusal) × ((full_turn fixed moves (Place name n)).outcome ≡ Refused r)) ⊎ ((full_turn fixed moves (Place name n)).outcome ≡ Forked number n)
      at (Some k) o e = inl (NameTaken k, ap (λ (u : Turn O R A). u.outcome) e)
      at None (Some x) e = inl (x, ap (λ (u : Turn O R A). u.outcome) e)
      at None None e = inr (ap (λ (u : Turn O R A). u.outcome) e)
