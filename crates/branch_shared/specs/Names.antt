-- What names a shared store: which front, and what the store was when it got its name.
use Rattle.std.specs.Prelude.{◌≡◌, ℕ, List, refl}
use native.Mathlib.Nat.{le_refl, le_intro}
use Rattle.atomic_table.specs.Seated.{TableId}
use Rattle.branch_names.specs.declared.layout.Layout.TheVariants.{Whole}
use Rattle.branch_names.specs.declared.limits.Limits.{Limits}
use Rattle.branch_names.specs.declared.terms.Terms.{Terms}
use Rattle.store_core.specs.Views.{StoreView}

-- a store that has no name yet: its front and that of its queue, its core, the number of parts, and the disk's faults when the core was opened
pub record BlankView (M D : Type 0) : Type 0 where
  pub table : TableId
  pub queue : TableId
  pub core : StoreView M D
  pub parts : ℕ
  pub opened : ℕ

-- the name says what this store is
pub record IsNamed {M D : Type 0} (blank : BlankView M D) (table queue : TableId) (begun : List M) (terms : Terms) (parts opened : ℕ) : Type 0 where
  pub table_is : blank.table ≡ table
  pub queue_is : blank.queue ≡ queue
  pub history_is : blank.core.history ≡ begun
  pub terms_are : blank.core.terms ≡ terms
  pub parts_are : blank.parts ≡ parts
  pub opened_is : blank.opened ≡ opened

-- the limits and the terms of a name that was not picked
abbrev pub least_limits : Limits
least_limits = record {
  clock = 1;
  commits = 1;
  branches = 1;
  value = 1;
  moves = 1;
  in_range = record {
    clock_low = le_refl 1;
    clock_high = le_intro 1 18446744073709551614 refl;
    commits_low = le_refl 1;
    commits_high = le_intro 1 4294967294 refl;
    branches_low = le_refl 1;
    branches_high = le_intro 1 4294967294 refl;
    value_low = le_refl 1;
    value_high = le_intro 1 1073741823 refl;
    moves_low = le_refl 1;
    moves_high = le_intro 1 281474976710655 refl;
  };
}

abbrev pub least_terms : Terms
least_terms = record {
  limits = least_limits;
  origin = 0;
  kind = 0;
  layout = Whole;
  small = le_intro 1 255 refl;
  in_range = le_intro 1 4294967295 refl;
}
