-- What is read of a store, as the words of a command say it.
use Rattle.std.specs.Prelude.{ℕ, Bool, nat_eq, codes, Some, None, List, [], ◌∷◌, if◌then◌else◌, bytes_eq}
use Rattle.std.specs.declared.option.Option.{Option}
use Rattle.std.specs.Option.{option_map}
use Rattle.clap.specs.Walk.{Row, Text, first_of}
use Rattle.branch_command.specs.Bundles.{name_of, sending_of}
use Rattle.branch_command.specs.Terms.{is_given}
use Rattle.branch_command.specs.Work.{whole_number_of}
use Rattle.branch_command.specs.declared.look.At.{At}
use Rattle.branch_command.specs.declared.look.At.TheVariants.{Branch, Commit}
use Rattle.branch_command.specs.declared.look.Look.{Look}
use Rattle.branch_command.specs.declared.look.Look.TheVariants.{Report, Address, Bundle, Log, Document, Graph}

-- the commit that a word says: behind `#` the one of a number of 32 bits, and else the head of the branch of a name
abbrev pub at_of : Text → Option At
at_of [] = None
at_of (first ∷ rest) =
    if nat_eq first 35 then option_map Commit (whole_number_of 4294967295 rest) else option_map Branch (name_of (Some (first ∷ rest)))

-- the commit that was given, if a word was given that says one
abbrev pub given_at : Option Text → Option At
given_at None = None
given_at (Some word) = at_of word

-- how many lines are asked for: as many as the word says, or all where no word was given
abbrev pub line_count_of : Option Text → Option (Option ℕ)
line_count_of None = Some None
line_count_of (Some word) = option_map Some (whole_number_of 18446744073709551615 word)

-- what commits did, where both the commit and the count are said
abbrev pub log_with : Option At → Option (Option ℕ) → Option Look
log_with (Some at) (Some count) = Some (Log at count)
log_with _ _ = None

-- the log that is asked for
abbrev pub log_of : List Row → Option Look
log_of given = log_with (given_at (first_of (codes "at") given)) (line_count_of (first_of (codes "count") given))

-- a document, where the commit is said
abbrev pub document_with : Option At → Bool → Option Look
document_with None is_json = None
document_with (Some at) is_json = Some (Document at is_json)

-- the document that is asked for
abbrev pub document_of : List Row → Option Look
document_of given = document_with (given_at (first_of (codes "at") given)) (is_given (first_of (codes "json") given))

-- the address of the head of a branch, where its name is said
abbrev pub address_with : Option Text → Option Look
address_with None = None
address_with (Some name) = Some (Address (record { name = name }))

-- what a command of a name reads of a store, by what was given to it
abbrev pub look_by : Text → List Row → Option Look
look_by name given =
    if bytes_eq name (codes "check") then Some Report
    else if bytes_eq name (codes "address") then address_with (name_of (first_of (codes "branch") given))
    else if bytes_eq name (codes "send") then option_map Bundle (sending_of given)
    else if bytes_eq name (codes "log") then log_of given
    else if bytes_eq name (codes "show") then document_of given
    else if bytes_eq name (codes "graph") then Some Graph
    else None
