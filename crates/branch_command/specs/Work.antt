-- The numbers of generated work and of clients, as the words of a command say them.
use Rattle.std.specs.Prelude.{ℕ, codes, Some, None, List, if◌then◌else◌, bytes_eq}
use Rattle.std.specs.declared.option.Option.{Option}
use Rattle.clap.specs.Walk.{Row, first_of}
use Rattle.branch_command.specs.Numbers.{number_of}

-- the decimal number that a word says, from 0 up to a greatest one
abbrev pub whole_number_of : ℕ → List ℕ → Option ℕ
whole_number_of most word = if bytes_eq word (codes "0") then Some 0 else number_of most word

-- the number that was given under a name, if there is one
abbrev pub given_number : ℕ → Option (List ℕ) → Option ℕ
given_number most None = None
given_number most (Some word) = whole_number_of most word

-- the number from 1 that was given under a name, if there is one
abbrev pub given_count : ℕ → Option (List ℕ) → Option ℕ
given_count most None = None
given_count most (Some word) = number_of most word

-- how many steps are drawn, and the number from which they are
pub record Work : Type 0 where
  pub steps : ℕ
  pub number : ℕ

-- both, where each is one
abbrev pub both : Option ℕ → Option ℕ → Option Work
both (Some steps) (Some number) = Some (record { steps = steps; number = number })
both _ _ = None

-- the work that is given: at most 1,000,000 steps, from a number below 2^64
abbrev pub work_of : List Row → Option Work
work_of given = both (given_number 1000000 (first_of (codes "steps") given)) (given_number 18446744073709551615 (first_of (codes "number") given))

-- how many clients there are, and the work of each
pub record Clients : Type 0 where
  pub count : ℕ
  pub work : Work

-- the clients, where both their count and their work are given
abbrev pub clients_with : Option ℕ → Option Work → Option Clients
clients_with (Some count) (Some work) = Some (record { count = count; work = work })
clients_with _ _ = None

-- the clients that are given: at most 64
abbrev pub clients_of : List Row → Option Clients
clients_of given = clients_with (given_count 64 (first_of (codes "count") given)) (work_of given)
