-- The numbers that the options of `init` say.
use Rattle.std.specs.Prelude.{ℕ, Bool, false, ◌&&◌, not, nat_eq, nat_le, codes, Some, None, List, [], ◌∷◌, if◌then◌else◌}
use Rattle.std.specs.declared.option.Option.{Option}
use Rattle.std.specs.Char.{is_ascii_digit}
use Rattle.std.specs.List.{list_all}
use Rattle.std.specs.Str.Parse.{digits_value}
use Rattle.branch_names.specs.Limits.{HasNumbers}
use Rattle.branch_names.specs.declared.limits.Limits.{Limits}
use Rattle.clap.specs.Walk.{Row, first_of}

-- digits, of which the first is not 0
abbrev pub is_positive : List ℕ → Bool
is_positive [] = false
is_positive (d ∷ ds) = not (nat_eq d 48) && list_all is_ascii_digit (d ∷ ds)

-- the decimal number that a word says, up to a greatest one
abbrev pub number_of : ℕ → List ℕ → Option ℕ
number_of most word = if is_positive word && nat_le (digits_value 10 word) most then Some (digits_value 10 word) else None

-- the number of an option: what its word says, or the usual one where the option was not given
abbrev pub number_or : ℕ → ℕ → Option (List ℕ) → Option ℕ
number_or most usual None = Some usual
number_or most usual (Some word) = number_of most word

-- the numbers of a store's limits
pub record Numbers : Type 0 where
  pub clock : ℕ
  pub commits : ℕ
  pub branches : ℕ
  pub value : ℕ
  pub moves : ℕ

-- the numbers where no option is given
abbrev pub usual : Numbers
usual = record { clock = 18446744073709551615; commits = 16777216; branches = 65536; value = 16777216; moves = 1099511627776 }

-- all five, where each is one
abbrev pub all_five : Option ℕ → Option ℕ → Option ℕ → Option ℕ → Option ℕ → Option Numbers
all_five (Some clock) (Some commits) (Some branches) (Some value) (Some moves) =
    Some (record { clock = clock; commits = commits; branches = branches; value = value; moves = moves })
all_five _ _ _ _ _ = None

-- the numbers that the options of `init` say: each with its greatest number and its usual one
abbrev pub numbers_of : List Row → Option Numbers
numbers_of given = all_five
    (number_or 18446744073709551615 usual.clock (first_of (codes "max-clock") given))
    (number_or 4294967295 usual.commits (first_of (codes "max-commits") given))
    (number_or 4294967295 usual.branches (first_of (codes "max-branches") given))
    (number_or 1073741824 usual.value (first_of (codes "max-value") given))
    (number_or 281474976710656 usual.moves (first_of (codes "max-moves") given))

-- the limits have these numbers
abbrev pub AreLimits : Numbers → Limits → Type 0
AreLimits n limits = HasNumbers n.clock n.commits n.branches n.value n.moves limits
