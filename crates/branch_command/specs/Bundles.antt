-- Branches and addresses of commits, as the words of the commands on bundles say them.
use Rattle.std.specs.Prelude.{ℕ, Bool, ◌&&◌, ◌||◌, nat_eq, nat_le, codes, Some, None, List, [], ◌∷◌, length, unwrap_or, if◌then◌else◌}
use Rattle.std.specs.declared.option.Option.{Option}
use Rattle.std.specs.List.{list_all}
use Rattle.std.specs.Result.{result_ok}
use Rattle.hex.specs.Hex.{decode_of}
use Rattle.branch_names.specs.Names.{is_name}
use Rattle.clap.specs.Walk.{Row, Text, all_of, first_of}
use Rattle.branch_command.specs.declared.command.Sending.{Sending}

-- the name that was given, if a word was given that is one
abbrev pub name_of : Option Text → Option Text
name_of None = None
name_of (Some word) = if is_name word then Some word else None

-- `0` to `9`, `a` to `f`
abbrev pub is_lower_digit : ℕ → Bool
is_lower_digit c = (nat_le 48 c && nat_le c 57) || (nat_le 97 c && nat_le c 102)

-- 64 of these digits
abbrev pub is_address_word : Text → Bool
is_address_word word = nat_eq (length word) 64 && list_all is_lower_digit word

-- the 32 bytes of an address that a word says in hexadecimal digits
abbrev pub address_of : Text → Option (List ℕ)
address_of word = if is_address_word word then result_ok (decode_of word) else None

-- an address in front of others
abbrev pub in_front : Option (List ℕ) → Option (List (List ℕ)) → Option (List (List ℕ))
in_front (Some address) (Some others) = Some (address ∷ others)
in_front _ _ = None

-- the addresses that words say, where each says one
abbrev pub addresses_of : List Text → Option (List (List ℕ))
addresses_of [] = Some []
addresses_of (word ∷ words) = in_front (address_of word) (addresses_of words)

-- a branch to be sent, and the addresses of commits that the receiver has, where both are said
abbrev pub sending_with : Option Text → Option (List (List ℕ)) → Option Sending
sending_with (Some branch) (Some here) = Some (record { branch = branch; here = here })
sending_with _ _ = None

-- what is to be sent; no word for an address is given where all is to be sent
abbrev pub sending_of : List Row → Option Sending
sending_of given =
    sending_with (name_of (first_of (codes "branch") given)) (addresses_of (unwrap_or (all_of (codes "address") given) []))
