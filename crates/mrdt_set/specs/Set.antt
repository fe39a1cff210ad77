-- What a set means.
use Rattle.std.specs.Prelude.{◌≡◌, ℕ, Bool, if◌then◌else◌, ◌⊎◌, Option, None, Some, List, [], ◌∷◌, length, map, filter}
use Rattle.std.specs.Ordering.{nat_cmp}
use Rattle.std.specs.BTreeSet.{insert_key}
use Rattle.std.specs.Cmp.Lexicographic.{slice_cmp}
use Rattle.mrdt_model.specs.declared.time.Time.{Time}
use Rattle.mrdt_model.specs.Spelled.{IsBytes}
use Rattle.mrdt_model.specs.Executions.{Event}
use Rattle.mrdt_model.specs.Laws.{Meaning}
use Rattle.live_set.specs.Effects.{Effect, replacing, removing, apart, holds_some, live_of}
use Rattle.live_set.specs.UnitReply.{IsAnyReply, no_reply, unit_spelling, IsUnitSpelling}
use Rattle.mrdt_set.specs.declared.set.SetOp.{SetOp}
use Rattle.mrdt_set.specs.declared.set.SetOp.TheVariants.{Add, Remove, Clear}
use Rattle.mrdt_set.specs.declared.set.SetQuery.{SetQuery}
use Rattle.mrdt_set.specs.declared.set.SetQuery.TheVariants.{Contains, Members, Size}
use Rattle.mrdt_set.specs.declared.set.SetAnswer.{SetAnswer}
use Rattle.mrdt_set.specs.declared.set.SetAnswer.TheVariants.{IsIn, All, Count}
use Rattle.mrdt_set.specs.Members.{Times, same_element, times_at, set_spelling, IsSetSpelling}

-- the element that an operation adds or takes away; a Clear names none
abbrev pub element_of : SetOp → Option (List ℕ)
element_of (Add x) = Some x
element_of (Remove x) = Some x
element_of Clear = None

-- On the times of an element, an Add of it puts its own in place of what it has seen, a Remove of it and a Clear
-- take away what they have seen, and all else is apart.
abbrev pub set_effect : List ℕ → SetOp → Effect (Unit {0})
set_effect k (Add x) = if same_element k x then replacing tt else apart
set_effect k (Remove x) = if same_element k x then removing else apart
set_effect k Clear = removing

-- what is live of an element, if anything, after an operation that has seen all
abbrev pub times_after : SetOp → Time → List ℕ → Option Times → Option Times
times_after (Add x) t k old = if same_element x k then Some (record { time = t; payload = tt } ∷ []) else old
times_after (Remove x) t k old = if same_element x k then None else old
times_after Clear t k old = None

-- the new members have at each element what an operation leaves that has seen the old ones
abbrev pub IsAfter : SetOp → Time → List (List ℕ × Times) → List (List ℕ × Times) → Type 0
IsAfter op t old new = (k : List ℕ) → times_at new k ≡ times_after op t k (times_at old k)

abbrev pub IsSetOp : SetOp → Type 0
IsSetOp (Add x) = IsBytes x
IsSetOp (Remove x) = IsBytes x
IsSetOp Clear = Unit {0}

-- some Add of the element has been seen by no Remove of it and by no Clear
abbrev pub holds : List (Event SetOp (Unit {0})) → List ℕ → Bool
holds x k = holds_some (set_effect k) x

-- an element among others in byte order, if there is one
abbrev pub with_element : Option (List ℕ) → List (List ℕ) → List (List ℕ)
with_element None ks = ks
with_element (Some k) ks = insert_key (slice_cmp nat_cmp) ks k

-- the elements that the operations name, in byte order
abbrev pub elements : List (Event SetOp (Unit {0})) → List (List ℕ)
elements [] = []
elements (e ∷ x) = with_element (element_of e.operation) (elements x)

abbrev pub members : List (Event SetOp (Unit {0})) → List (List ℕ)
members x = filter (holds x) (elements x)

-- each member with the times of its Adds that no operation on it and no Clear has seen
abbrev pub set_of : List (Event SetOp (Unit {0})) → List (List ℕ × Times)
set_of x = map {B = List ℕ × Times} (λ k. (k, live_of (set_effect k) x)) (members x)

abbrev pub set_answer : List (Event SetOp (Unit {0})) → SetQuery → SetAnswer
set_answer x (Contains k) = IsIn (holds x k)
set_answer x Members = All (members x)
set_answer x Size = Count (length (members x))

abbrev pub StandsFor : List (List ℕ × Times) → List (Event SetOp (Unit {0})) → Type 0
StandsFor set x = set ≡ set_of x

abbrev pub op_spelling : SetOp → List ℕ
op_spelling (Add x) = 1 ∷ x
op_spelling (Remove x) = 2 ∷ x
op_spelling Clear = 3 ∷ []

-- byte 1 or byte 2, and behind it an element; or byte 3 alone
abbrev pub IsOpSpelling : List ℕ → Type 0
IsOpSpelling bytes = ((x : List ℕ) × IsBytes x × ((bytes ≡ 1 ∷ x) ⊎ (bytes ≡ 2 ∷ x))) ⊎ (bytes ≡ 3 ∷ [])

abbrev pub set_meaning : Meaning (List (List ℕ × Times)) SetOp (Unit {0}) SetQuery SetAnswer
set_meaning = record {
  is_op = IsSetOp;
  is_reply = IsAnyReply;
  reply_of = no_reply;
  answer_of = set_answer;
  spelling_of = λ x. set_spelling (set_of x);
  stands = StandsFor;
  is_same = λ s t. s ≡ t;
  state_spelling = set_spelling;
  op_spelling = op_spelling;
  reply_spelling = unit_spelling;
  is_state_spelling = IsSetSpelling;
  is_op_spelling = IsOpSpelling;
  is_reply_spelling = IsUnitSpelling;
}
