-- An answer comes into the room at the place of its number.
use Rattle.std.proofs.Common.{◌≡◌, ℕ, suc, ◌==◌, Bool, true, false, List, [], ◌∷◌, slice_get, slice_set, Option, Some, None, cond, refl, ap}
use Rattle.branch_batch.specs.Lists.{first_of, place_of}
use Rattle.branch_batch.specs.Tickets.{Answered}
use Rattle.branch_batch.specs.Lines.{Room, room_number, given}

module _ {J R : Type 0} (answer : Answered J R) where
  abbrev filled : Room J R → Room J R
  filled room = record room { answer = Some answer }

  given_more : (b : Bool) (y room : Room J R) (rooms rest : List (Room J R)) (place : ℕ) → slice_get (y ∷ rooms) (cond b 0 (suc place)) ≡ Some room
      → (slice_get rooms place ≡ Some room → rest ≡ slice_set rooms place (filled room)) → cond b (filled y ∷ rooms) (y ∷ rest) ≡ slice_set (y ∷ rooms) (cond b 0 (suc place)) (filled room)
  given_more true y room rooms rest place at is = let same : y ≡ room = cc at in ap (λ r. filled r ∷ rooms) same
  given_more false y room rooms rest place at is = ap (λ rs. y ∷ rs) (is at)

  pub given_at : (rooms : List (Room J R)) (room : Room J R) → slice_get rooms (place_of room_number answer.number rooms) ≡ Some room
      → given answer rooms ≡ slice_set rooms (place_of room_number answer.number rooms) (filled room)
  given_at [] room at = absurd cc
  given_at (y ∷ rooms) room at = given_more (y.number == answer.number) y room rooms (given answer rooms) (place_of room_number answer.number rooms) at (given_at rooms room)

  none_more : (b : Bool) (y : Room J R) (rooms rest : List (Room J R)) (first : Option (Room J R)) → cond b (Some y) first ≡ None → (first ≡ None → rest ≡ rooms) → cond b (filled y ∷ rooms) (y ∷ rest) ≡ y ∷ rooms
  none_more true y rooms rest first none is = absurd cc
  none_more false y rooms rest first none is = ap (λ rs. y ∷ rs) (is none)

  -- where there is no such room, all rooms stay
  pub given_none : (rooms : List (Room J R)) → first_of room_number answer.number rooms ≡ None → given answer rooms ≡ rooms
  given_none [] none = refl
  given_none (y ∷ rooms) none = none_more (y.number == answer.number) y rooms (given answer rooms) (first_of room_number answer.number rooms) none (given_none rooms)
