-- What a type means whose operations raise a number at a place.
use Rattle.std.specs.Prelude.{◌≡◌, ℕ, ◌<◌, ◌^◌, ◌==◌, if◌then◌else◌, max, List, [], ◌∷◌, length}
use Rattle.mrdt_model.specs.Executions.{Event}
use Rattle.mrdt_model.specs.Laws.{Meaning}
use Rattle.live_set.specs.UnitReply.{IsAnyReply, no_reply, unit_spelling, IsUnitSpelling}
use Rattle.greatest_row.specs.declared.mark.Mark.{Mark}
use Rattle.greatest_row.specs.Rows.{join, one, row_spelling, IsRowSpelling, mark_spelling, InRange, IsMarkSpelling}

-- What a type says of its operations: which there are, what each raises, and how they are spelled.
pub record Marks (O : Type 0) : Type 1 where
  pub is_op : O → Type 0
  pub mark : O → Mark
  pub op_spelling : O → List ℕ
  pub is_op_spelling : List ℕ → Type 0

-- What it owes of that.
pub record KeepsMarks {O : Type 0} (m : Marks O) : Type 0 where
  pub numbers : (o : O) → m.is_op o → (m.mark o).number < 2 ^ 64
  pub inside : (o : O) → m.is_op o → m.is_op_spelling (m.op_spelling o)
  pub one_op : (o p : O) → m.is_op o → m.is_op p → m.op_spelling o ≡ m.op_spelling p → o ≡ p

-- the greatest number that the operations raise at a place, and 0 where none does
abbrev pub greatest : {O R : Type 0} → (O → Mark) → List (Event O R) → ℕ → ℕ
greatest mark [] place = 0
greatest mark (e ∷ x) place =
    if (mark e.operation).place == place then max (mark e.operation).number (greatest mark x place) else greatest mark x place

-- these numbers, from place 0 to the greatest place of an operation
abbrev pub row_of : {O R : Type 0} → (O → Mark) → List (Event O R) → List ℕ
row_of mark [] = []
row_of mark (e ∷ x) = join (one (mark e.operation)) (row_of mark x)

-- the type with these operations, whose queries are answered by the row
abbrev pub row_meaning : {O Q A : Type 0} → Marks O → (List ℕ → Q → A) → Meaning (List ℕ) O (Unit {0}) Q A
row_meaning m answer = record {
  is_op = m.is_op;
  is_reply = IsAnyReply;
  reply_of = no_reply;
  answer_of = λ x query. answer (row_of m.mark x) query;
  spelling_of = λ x. row_spelling (row_of m.mark x);
  stands = λ row x. row ≡ row_of m.mark x;
  is_same = λ s t. s ≡ t;
  state_spelling = row_spelling;
  op_spelling = m.op_spelling;
  reply_spelling = unit_spelling;
  is_state_spelling = IsRowSpelling;
  is_op_spelling = m.is_op_spelling;
  is_reply_spelling = IsUnitSpelling;
}

-- Operations that are marks in range themselves.
abbrev pub marks_in : ℕ → ℕ → ℕ → Marks Mark
marks_in places least most = record {
  is_op = InRange places least most;
  mark = λ mark. mark;
  op_spelling = mark_spelling;
  is_op_spelling = IsMarkSpelling places least most;
}
