-- The payloads of this crate: nothing, amounts, and short texts.
use Rattle.std.specs.Prelude.{ℕ, ◌<◌, ◌^◌, ℤ, FitsSigned, List, [], length, refl}
use Rattle.std.specs.Int.{w64}
use Rattle.mrdt_model.specs.Spelled.{IsBytes}
use Rattle.branch_wire.specs.Fields.{signed_number, field}
use Rattle.branch_wire.specs.Reading.{ReadsOneWay}
use Rattle.branch_wire.proofs.OneWay.{signed_numbers, fields}

abbrev pub IsNothing : Unit {0} → Type 0
IsNothing u = Unit {0}

-- nothing is spelled by no bytes
abbrev pub nothing_spelling : Unit {0} → List ℕ
nothing_spelling u = []

-- a whole number of 64 bits
abbrev pub IsAmount : ℤ → Type 0
IsAmount n = FitsSigned w64 n

-- bytes, fewer than 2 ^ 64
abbrev pub IsShortText : List ℕ → Type 0
IsShortText text = IsBytes text × (length text < 2 ^ 64)

pub nothing_way : ReadsOneWay IsNothing nothing_spelling
nothing_way = record { one = λ x y a b p q is. (refl, is) }

pub amount_way : ReadsOneWay IsAmount signed_number
amount_way = signed_numbers

pub text_way : ReadsOneWay IsShortText field
text_way = record { one = λ x y a b p q is. fields.one x y a b p.1 q.1 is }
