-- The commit that a word says, and the commands that read a store.
use Rattle.std.proofs.Common.{◌≡◌, Bool, true, false, List, [], ◌∷◌, Some, option_map, ap, refl, codes, if◌then◌else◌}
use Rattle.std.specs.Str.{bytes_eq}
use Rattle.std.proofs.lemmas.Bool.{ne_eqb}
use Rattle.std.proofs.lemmas.Slice.Eq.{bytes_eq-Decides}
use Rattle.clap.specs.Walk.{Row, Text}
use Rattle.branch_command.specs.Bundles.{name_of}
use Rattle.branch_command.specs.Commands.{Look, said_by}
use Rattle.branch_command.specs.Looks.{at_of, look_by}
use Rattle.branch_command.specs.Work.{whole_number_of}
use Rattle.branch_command.specs.declared.look.At.TheVariants.{Branch, Commit}

-- a word that does not begin with `#`
pub at_a_branch : (word : Text) → ((rest : Text) → word ≡ 35 ∷ rest → ⊥) → at_of word ≡ option_map Branch (name_of (Some word))
at_a_branch [] other = refl
at_a_branch (first ∷ rest) other =
    ap (λ b. if b then option_map Commit (whole_number_of 4294967295 rest) else option_map Branch (name_of (Some (first ∷ rest))))
    (ne_eqb first 35 (λ same. other rest (ap (λ x. x ∷ rest) same)))

is_other : (name word : Text) → (name ≡ word → ⊥) → bytes_eq name word ≡ false
is_other name word other = go (bytes_eq name word) (bytes_eq-Decides name word).0
  where
    go : (b : Bool) → (b ≡ true → name ≡ word) → b ≡ false
    go true same = absurd (other (same refl))
    go false same = refl

-- what a command of none of these names asks for is read of the store
pub else_read : (name : Text) (rows : List Row) → (name ≡ codes "init" → ⊥) → (name ≡ codes "script" → ⊥) → (name ≡ codes "generate" → ⊥)
    → (name ≡ codes "clients" → ⊥) → (name ≡ codes "upgrade" → ⊥) → (name ≡ codes "compact" → ⊥) → (name ≡ codes "receive" → ⊥)
    → (name ≡ codes "help" → ⊥) → said_by name rows ≡ option_map Look (look_by name rows)
else_read name rows init script generate clients upgrade compact receive help =
    rw (
      is_other name (codes "init") init,
      is_other name (codes "script") script,
      is_other name (codes "generate") generate,
      is_other name (codes "clients") clients,
      is_other name (codes "upgrade") upgrade,
      is_other name (codes "compact") compact,
      is_other name (codes "receive") receive,
      is_other name (codes "help") help,
    )
