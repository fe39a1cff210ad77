-- The address of the object of the value that a work makes, by what is written of the work.
use Rattle.std.proofs.Common.{◌≡◌, ℕ, ◌+◌, List, [], ◌∷◌, Option, Some, IfSome, Bor}
use Rattle.mrdt_model.specs.Laws.{Meaning}
use Rattle.branch_history.specs.declared.moves.Move.{Move}
use Rattle.branch_history.specs.Commits.{Commit, visible, visible_at_all}
use Rattle.branch_history.specs.History.{store_of}
use Rattle.branch_history.specs.Machine.{event_made}
use Rattle.object_store.specs.Commits.{value_address_of}
use Rattle.store_seen.specs.declared.prepared.Written.TheVariants as written
use Rattle.store_seen.specs.Keeps.{bytes_at}
use Rattle.store_seen.specs.Views.{SeenView, Work, Operation, Merge, Join, Forward}
use Rattle.store_seen.specs.Written.{IsWrittenWork}
use Rattle.recorded_history.specs.Addresses.{IsAddressOfWork}
use Rattle.recorded_history.proofs.Layouts.{address-told}

module _ {S O R Q A : Type 0} (meaning : Meaning S O R Q A) (address : List ℕ → List ℕ) (seen : SeenView (Move O R)) where
  abbrev before : List (Commit O R)
  before = (store_of seen.terms.origin seen.history).commits

  abbrev operation_spelling : O → List ℕ
  operation_spelling op = meaning.spelling_of (event_made meaning before (seen.terms.origin + seen.branch) seen.head op ∷ visible before seen.head)

  abbrev merge_spelling : List ℕ → List ℕ
  merge_spelling others = meaning.spelling_of (visible_at_all before (seen.head ∷ others))

  -- what was worked out of the value that is written is the address of its object
  pub operation-address : (work : Work O R) (clock size : ℕ) (value : Option (Bor (List ℕ))) (op_bytes reply_bytes : Bor (List ℕ)) → IsWrittenWork meaning seen work (written.Operation clock size value op_bytes reply_bytes)
      → (known : Option (List ℕ)) → IfSome known (λ a. Some a ≡ value_address_of address (bytes_at value)) → IfSome known (IsAddressOfWork meaning address seen work)
  operation-address (Operation op reply) clock size value op_bytes reply_bytes w known told = address-told address seen.terms.layout (operation_spelling op) (bytes_at value) w.value_is known told
  operation-address (Merge commit) clock size value op_bytes reply_bytes w known told = absurd w
  operation-address (Join commits) clock size value op_bytes reply_bytes w known told = absurd w
  operation-address (Forward commit) clock size value op_bytes reply_bytes w known told = absurd w

  pub merge-address : (work : Work O R) (other clock size : ℕ) (value : Option (Bor (List ℕ))) → IsWrittenWork meaning seen work (written.Merge other clock size value) → (known : Option (List ℕ)) → IfSome known (λ a. Some a ≡ value_address_of address (bytes_at value))
      → IfSome known (IsAddressOfWork meaning address seen work)
  merge-address (Operation op reply) other clock size value w known told = absurd w
  merge-address (Merge commit) other clock size value w known told = address-told address seen.terms.layout (merge_spelling (commit ∷ [])) (bytes_at value) w.value_is known told
  merge-address (Join commits) other clock size value w known told = absurd w
  merge-address (Forward commit) other clock size value w known told = absurd w

  pub join-address : (work : Work O R) (others : Bor (List ℕ)) (clock size : ℕ) (value : Option (Bor (List ℕ))) → IsWrittenWork meaning seen work (written.Join others clock size value) → (known : Option (List ℕ)) → IfSome known (λ a. Some a ≡ value_address_of address (bytes_at value))
      → IfSome known (IsAddressOfWork meaning address seen work)
  join-address (Operation op reply) others clock size value w known told = absurd w
  join-address (Merge commit) others clock size value w known told = absurd w
  join-address (Join commits) others clock size value w known told = address-told address seen.terms.layout (merge_spelling commits) (bytes_at value) w.value_is known told
  join-address (Forward commit) others clock size value w known told = absurd w
