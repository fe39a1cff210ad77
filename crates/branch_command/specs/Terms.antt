-- The terms of a store, as the options of `init` say them.
use Rattle.std.specs.Prelude.{◌≡◌, ℕ, Bool, false, ◌+◌, nat_le, codes, Some, None, List, if◌then◌else◌, bytes_eq}
use Rattle.std.specs.declared.option.Option.{Option}
use Rattle.branch_names.specs.declared.layout.Layout.{Layout}
use Rattle.branch_names.specs.declared.layout.Layout.TheVariants.{Whole, Changes}
use Rattle.branch_names.specs.declared.terms.Terms.{Terms}
use Rattle.clap.specs.Walk.{Row, first_of}
use Rattle.branch_command.specs.Numbers.{Numbers, AreLimits, numbers_of}
use Rattle.branch_command.specs.Work.{whole_number_of}

-- the first origin: what its word says, a number of 32 bits, or 0 where the option was not given
abbrev pub origin_or : Option (List ℕ) → Option ℕ
origin_or None = Some 0
origin_or (Some word) = whole_number_of 4294967295 word

-- whether a flag was given: clap has the word `true` for one that was, and `false` for one that was not
abbrev pub is_given : Option (List ℕ) → Bool
is_given None = false
is_given (Some word) = bytes_eq word (codes "true")

-- the numbers of a store's terms, which are those of its limits and its first origin, whether its documents have
-- sequences, and whether it stores what commits change alone, without their values
pub record TermNumbers : Type 0 where
  pub limits : Numbers
  pub origin : ℕ
  pub sequences : Bool
  pub changes : Bool

-- the terms, where limits and origin are numbers, and there are origins of 32 bits for as many branches as there may be
abbrev pub terms_with : Option Numbers → Option ℕ → Bool → Bool → Option TermNumbers
terms_with (Some limits) (Some origin) sequences changes =
    if nat_le (origin + limits.branches) 4294967296
    then Some (record { limits = limits; origin = origin; sequences = sequences; changes = changes }) else None
terms_with _ _ sequences changes = None

-- the terms that the options of `init` say
abbrev pub terms_of : List Row → Option TermNumbers
terms_of given = terms_with (numbers_of given) (origin_or (first_of (codes "origin") given))
    (is_given (first_of (codes "sequences") given)) (is_given (first_of (codes "changes") given))

-- the kind of a store's values: 1 for documents with sequences, 0 for documents without
abbrev pub kind_number : Bool → ℕ
kind_number sequences = if sequences then 1 else 0

-- the layout of a store's objects: commits alone, or the values of commits too
abbrev pub layout_said : Bool → Layout
layout_said changes = if changes then Changes else Whole

-- the terms have these numbers, values of this kind, and this layout of the objects
pub record AreTerms (n : TermNumbers) (terms : Terms) : Type 0 where
  pub limits : AreLimits n.limits terms.limits
  pub origin : terms.origin ≡ n.origin
  pub kind : terms.kind ≡ kind_number n.sequences
  pub layout : terms.layout ≡ layout_said n.changes
