-- What the product of two types means: for each side, its type over the events of that side.
use Rattle.std.specs.Prelude.{◌≡◌, ℕ, ◌<◌, ◌^◌, ◌⊎◌, false, ◌&&◌, ◌||◌, Option, None, Some, List, ◌∷◌, ◌++◌, length}
use Rattle.mrdt_model.specs.declared.time.Time.{Time}
use Rattle.mrdt_model.specs.Times.{among}
use Rattle.mrdt_model.specs.Executions.{Event, times_of, part_of}
use Rattle.mrdt_model.specs.Laws.{Meaning}
use Rattle.branch_wire.specs.Fields.{field}
use Rattle.mrdt_both.specs.declared.both.Side.{Side}
use Rattle.mrdt_both.specs.declared.both.Side.TheVariants.{First, Second}

-- what holds of the first side's, and what of the second side's
abbrev pub OnSides : {X Y : Type 0} → (X → Type 0) → (Y → Type 0) → Side X Y → Type 0
OnSides first second (First x) = first x
OnSides first second (Second y) = second y

-- An operation with its reply, where it is of the first side. In a lawful execution the reply then is so too, so that
-- the two sides share out all events.
abbrev pub at_first : {O P R S : Type 0} → Side O P → Side R S → Option (O × R)
at_first (First o) (First r) = Some (o, r)
at_first (First o) (Second s) = None
at_first (Second p) r = None

-- an operation with its reply, where it is of the second side
abbrev pub at_second : {O P R S : Type 0} → Side O P → Side R S → Option (P × S)
at_second (Second p) (Second s) = Some (p, s)
at_second (Second p) (First r) = None
at_second (First o) r = None

-- the events of the first side
abbrev pub first_part : {O P R S : Type 0} → List (Event (Side O P) (Side R S)) → List (Event O R)
first_part x = part_of at_first x

-- the events of the second side
abbrev pub second_part : {O P R S : Type 0} → List (Event (Side O P) (Side R S)) → List (Event P S)
second_part x = part_of at_second x

-- There is an event at each time of one side or the other, at no other time, and at no time of both.
abbrev pub ShareOut : {O P R S : Type 0} → List (Event (Side O P) (Side R S)) → Type 0
ShareOut x = (t : Time) →
    (among (times_of x) t ≡ (among (times_of (first_part x)) t || among (times_of (second_part x)) t)) × ((among (times_of (first_part x)) t && among (times_of (second_part x)) t) ≡ false)

-- each side answers, or replies, over its own events
abbrev pub by_side : {O P R S Q T A B : Type 0} → (List (Event O R) → Q → A) → (List (Event P S) → T → B) → List (Event (Side O P) (Side R S)) → Side Q T → Side A B
by_side first second x (First q) = First (first (first_part x) q)
by_side first second x (Second t) = Second (second (second_part x) t)

-- each value stands for the events of its side
abbrev pub StandForSides : {V W O P R S : Type 0} → (V → List (Event O R) → Type 0) → (W → List (Event P S) → Type 0) → V × W → List (Event (Side O P) (Side R S)) → Type 0
StandForSides first second both x = first both.0 (first_part x) × second both.1 (second_part x)

-- the values of each side are the same
abbrev pub AreSameSides : {V W : Type 0} → (V → V → Type 0) → (W → W → Type 0) → V × W → V × W → Type 0
AreSameSides first second p q = first p.0 q.0 × second p.1 q.1

-- the first value's spelling behind its length, and the second value's as the rest
abbrev pub pair_spelling : {V W : Type 0} → (V → List ℕ) → (W → List ℕ) → V → W → List ℕ
pair_spelling first second v w = field (first v) ++ second w

-- byte 1 or byte 2 for the side, and what is of the side as the rest
abbrev pub side_spelling : {X Y : Type 0} → (X → List ℕ) → (Y → List ℕ) → Side X Y → List ℕ
side_spelling first second (First x) = 1 ∷ first x
side_spelling first second (Second y) = 2 ∷ second y

-- The grammars: a spelling of the first type behind its length, and one of the second type as the rest.
abbrev pub IsPairSpelling : (List ℕ → Type 0) → (List ℕ → Type 0) → List ℕ → Type 0
IsPairSpelling is_first is_second bytes =
    (first : List ℕ) × (second : List ℕ) × (length first < 2 ^ 64) × is_first first × is_second second × (bytes ≡ field first ++ second)

-- Byte 1 and a spelling of the first side, or byte 2 and one of the second side.
abbrev pub IsSideSpelling : (List ℕ → Type 0) → (List ℕ → Type 0) → List ℕ → Type 0
IsSideSpelling is_first is_second bytes =
    ((rest : List ℕ) × is_first rest × (bytes ≡ 1 ∷ rest)) ⊎ ((rest : List ℕ) × is_second rest × (bytes ≡ 2 ∷ rest))

-- the product of types that mean these
abbrev pub both_meaning : {V W O P R S Q T A B : Type 0} → Meaning V O R Q A → Meaning W P S T B → Meaning (V × W) (Side O P) (Side R S) (Side Q T) (Side A B)
both_meaning m n = record {
  is_op = OnSides m.is_op n.is_op;
  is_reply = OnSides m.is_reply n.is_reply;
  reply_of = by_side m.reply_of n.reply_of;
  answer_of = by_side m.answer_of n.answer_of;
  spelling_of = λ x. pair_spelling m.spelling_of n.spelling_of (first_part x) (second_part x);
  stands = StandForSides m.stands n.stands;
  is_same = AreSameSides m.is_same n.is_same;
  state_spelling = λ both. pair_spelling m.state_spelling n.state_spelling both.0 both.1;
  op_spelling = side_spelling m.op_spelling n.op_spelling;
  reply_spelling = side_spelling m.reply_spelling n.reply_spelling;
  is_state_spelling = IsPairSpelling m.is_state_spelling n.is_state_spelling;
  is_op_spelling = IsSideSpelling m.is_op_spelling n.is_op_spelling;
  is_reply_spelling = IsSideSpelling m.is_reply_spelling n.is_reply_spelling;
}
