-- What a branch that is placed at a commit leaves.
use Rattle.std.proofs.Common.{◌≡◌, inl, inr, ℕ, Bool, true, false, List, ◌++◌, length, refl, ap, sym, ◌∙◌, subst, Option, Some, None, append-nil}
use Rattle.std.specs.Prelude.{nat_le}
use Rattle.std.specs.Option.{option_map}
use Rattle.branch_wire.specs.StoredObjects.{Stored, collision}
use Rattle.branch_names.specs.declared.terms.Terms.{Terms}
use Rattle.branch_names.specs.Heads.{branch_named}
use Rattle.branch_history.specs.declared.moves.Move.{Move}
use Rattle.branch_history.specs.declared.moves.Move.TheVariants as move
use Rattle.branch_history.specs.History.{Store, store_of}
use Rattle.branch_history.specs.Steps.{Refusal, NameTaken, FullBranches, FullMoves, Forked, Refused, Collision, Place, Outcome, Turn}
use Rattle.branch_history.specs.Machine.{refusal_if, answers, makes, unless, move_refusal, fork_refusal, place_turn, turn}
use Rattle.branch_history.proofs.Valid.{store_of-more}
use Rattle.branch_machine.specs.Fixed.{Fixed}
use Rattle.branch_machine.specs.Objects.{store_after, objects_of}
use Rattle.branch_machine.specs.Machine.{collision_refusal, unless_made, full_turn}
use Rattle.branch_machine.proofs.Distinct.{no-objects}
use Rattle.branch_receipts.specs.Receipts.{AreKept, IsFull}

-- a refusal for want of room, or none
abbrev Full : Option Refusal → Type 0
Full None = Unit {0}
Full (Some r) = IsFull r

full-if : (test : Bool) (r : Refusal) (later : Option Refusal) → IsFull r → Full later → Full (refusal_if test r later)
full-if true r later full rest = full
full-if false r later full rest = rest

full-fork : {O R : Type 0} (terms : Terms) (moves : List (Move O R)) → Full (fork_refusal terms moves)
unfolding fork_refusal move_refusal
full-fork terms moves =
    let count : ℕ = length (store_of terms.origin moves).branches in
    let size : ℕ = length moves in
    full-if (nat_le terms.limits.branches count) (FullBranches count) (refusal_if (nat_le terms.limits.moves size) (FullMoves size) None) tt
    (full-if (nat_le terms.limits.moves size) (FullMoves size) None tt tt)

module _ {S O R Q A : Type 0} (fixed : Fixed S O R Q A) (moves : List (Move O R)) (name : List ℕ) (n : ℕ) where
  abbrev s : Store O R
  s = store_after fixed moves

  abbrev number : ℕ
  number = length s.branches

  abbrev placing : Move O R
  placing = move.Place name number n

  -- the turn, unless it is refused
  abbrev landing : Option Refusal → Turn O R A
  landing o = unless o (makes placing (Forked number n))

  no-collision : collision_refusal fixed moves placing ≡ None
  unfolding collision_refusal
  no-collision =
      ap (λ (xs : Stored). option_map (λ c. Collision (fixed.address c.1) c.0 c.1) (collision fixed.address (objects_of fixed moves) xs))
      (no-objects fixed moves placing (ap (λ (t : Store O R). t.commits) (store_of-more fixed.terms.origin moves placing)))

  by-room : (o : Option Refusal) → unless_made (collision_refusal fixed moves) (landing o).made (landing o) ≡ landing o
  by-room None = ap (λ o. landing o) no-collision
  by-room (Some r) = refl

  -- the turn, by the branch that has the name
  abbrev placed_by : Option ℕ → Turn O R A
  placed_by taken = place_turn fixed.terms moves name n taken

  by-name : (taken : Option ℕ) → unless_made (collision_refusal fixed moves) (placed_by taken).made (placed_by taken) ≡ placed_by taken
  by-name (Some r) = refl
  by-name None = by-room (fork_refusal fixed.terms moves)

  -- no branch collides
  turn-is : full_turn fixed moves (Place name n) ≡ placed_by (branch_named s.branches name)
  unfolding full_turn turn
  turn-is = by-name (branch_named s.branches name)

  -- all stays, and maybe the branch comes
  abbrev Stays : Turn O R A → Type 0
  Stays t =
      let after = store_after fixed (moves ++ t.made) in
      (after.commits ≡ s.commits) × AreKept s.branches name after.branches

  stays-answered : (o : Outcome A R) → Stays (answers o)
  stays-answered o = (ap (λ (l : List (Move O R)). (store_after fixed l).commits) (append-nil moves), inl (ap (λ (l : List (Move O R)). (store_after fixed l).branches) (append-nil moves)))

  stays-landing : (o : Option Refusal) → Stays (landing o)
  stays-landing None = let after = store_of-more fixed.terms.origin moves placing in (ap (λ (t : Store O R). t.commits) after, inr (n, ap (λ (t : Store O R). t.branches) after))
  stays-landing (Some r) = stays-answered (Refused r)

  stays-by : (taken : Option ℕ) → Stays (placed_by taken)
  stays-by (Some r) = stays-answered (Refused (NameTaken r))
  stays-by None = stays-landing (fork_refusal fixed.terms moves)

  pub stays : Stays (full_turn fixed moves (Place name n))
  stays = subst Stays (sym turn-is) (stays-by (branch_named s.branches name))

  -- under a free name a branch is refused for want of room alone
  refused-landing : (r : Refusal) (o : Option Refusal) → Full o → (landing o).outcome ≡ Refused r → IsFull r
  refused-landing r None full is = absurd (cc is)
  refused-landing r (Some q) full is = let same : q ≡ r = cc is in subst IsFull same full

  pub refused-full : branch_named s.branches name ≡ None → (r : Refusal) → (full_turn fixed moves (Place name n)).outcome ≡ Refused r → IsFull r
  refused-full free r is =
      let lands : full_turn fixed moves (Place name n) ≡ landing (fork_refusal fixed.terms moves) = turn-is ∙ ap placed_by free in
      refused-landing r (fork_refusal fixed.terms moves) (full-fork fixed.terms moves) (ap (λ (t : Turn O R A). t.outcome) (sym lands) ∙ is)
