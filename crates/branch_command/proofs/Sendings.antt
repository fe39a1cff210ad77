-- What is to be sent, from the branch and the words of addresses.
use Rattle.std.proofs.Common.{◌≡◌, ◌∙◌, List, [], Option, Some, option_map, unwrap_or, codes, sym, ap, ap₂}
use Rattle.clap.specs.Matches.{matched_of, raw_values}
use Rattle.clap.specs.Walk.{Text, first_of, rows_of}
use Rattle.clap.specs.declared.parser.matches.Found.{Found}
use Rattle.clap.proofs.WalkLemmas.{raw_values-rows}
use Rattle.branch_command.specs.Bundles.{addresses_of, name_of, sending_of, sending_with}

-- with these words, or with none
pub sent : (f : Found) (branch : Text) (words : Option (List Text)) → Some branch ≡ name_of (first_of (codes "branch") (rows_of f))
    → words ≡ option_map raw_values (matched_of f (codes "address")) → sending_of (rows_of f) ≡ sending_with (Some branch) (addresses_of (unwrap_or words []))
sent f branch words named given =
    ap₂ sending_with (sym named) (ap (λ (ws : Option (List Text)). addresses_of (unwrap_or ws [])) (sym (given ∙ raw_values-rows f (codes "address"))))
