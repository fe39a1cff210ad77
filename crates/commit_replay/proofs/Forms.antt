-- What does not depend on the form of the files: the objects of a history but for their header, its records, and the moves of the machine.
use Rattle.std.proofs.Common.{◌≡◌, ℕ, ◌<◌, List, [], ◌∷◌, ◌++◌, length, drop, refl, sym, ◌∙◌, ap, ap₂, arith, length-append, Option, Some, None, option_and_then, codes}
use Rattle.std.specs.List.{concat, flat_map}
use Rattle.std.specs.Option.{option_map}
use Rattle.mrdt_model.specs.Laws.{Meaning}
use Rattle.mrdt_model.specs.Executions.{Event}
use Rattle.branch_names.specs.declared.terms.Terms.{Terms}
use Rattle.branch_wire.specs.Fields.{short_number}
use Rattle.branch_wire.proofs.Numbers.{length-short_number}
use Rattle.branch_wire.specs.declared.action.Action.{Action}
use Rattle.branch_wire.specs.declared.action.Action.TheVariants as wire
use Rattle.branch_wire.specs.Objects.{CommitFields, commit_object}
use Rattle.branch_wire.specs.StoredObjects.{Stored, header_of, fresh, collision}
use Rattle.branch_history.specs.declared.moves.Move.{Move}
use Rattle.branch_history.specs.Commits.{Commit}
use Rattle.branch_history.specs.History.{store_of}
use Rattle.branch_history.specs.Machine.{unless, turn}
use Rattle.branch_history.specs.Steps.{Step, Refusal, Collision, Turn}
use Rattle.branch_machine.specs.Fixed.{Form, FixedIn, fix_in}
use Rattle.branch_machine.specs.Objects.{Pair, both, address_at, action_of, fields_of, value_at, pair_at, pairs_after, pairs_of, objects_of, new_objects, end_of, region}
use Rattle.branch_machine.specs.Machine.{commit_received, commit_with, commit_at, pair_next, commit_here, collision_refusal, unless_here, unless_made, full_turn}
use Rattle.branch_machine.specs.Validity.{IsFullMove, IsFullyValidAfter, IsFullyValid}
use Rattle.heads_journal.specs.declared.record.Record.{Record}
use Rattle.heads_journal.specs.declared.record.Record.TheVariants.{Fork, Operation, Merge, Forward, Join, Received, Place, Drop}
use Rattle.branch_files.specs.Records.{new_address, record_with, record_of, records_after, records_of}
use Rattle.branch_files.specs.Next.{Suits, Does, HasShape, IsMade}

length-header : (version : ℕ) → length (header_of version) ≡ 16
length-header version =
    omega (
      arith,
      length-append (codes "MRDTOBJS") (short_number version ++ short_number 0),
      length-append (short_number version) (short_number 0),
      length-short_number version,
      length-short_number 0,
    )

and_then-same : {X Y : Type 0} (f g : X → Option Y) → ((x : X) → f x ≡ g x) → (o : Option X) → option_and_then f o ≡ option_and_then g o
and_then-same f g same None = refl
and_then-same f g same (Some x) = same x

unless_made-same : {O R A : Type 0} (f g : Move O R → Option Refusal) → ((m : Move O R) → f m ≡ g m) → (ms : List (Move O R)) (t : Turn O R A) → unless_made f ms t ≡ unless_made g ms t
unless_made-same f g same [] t = refl
unless_made-same f g same (m ∷ ms) t = ap (λ (r : Option Refusal). unless r t) (same m)

module _ {S O R Q A : Type 0} (m : Meaning S O R Q A) (terms : Terms) (address : List ℕ → List ℕ) (a b : Form) where
  abbrev x : FixedIn a S O R Q A
  x = fix_in a m terms address

  abbrev y : FixedIn b S O R Q A
  y = fix_in b m terms address

  action-same : (parents : List ℕ) (e : Option (Event O R)) → action_of x parents e ≡ action_of y parents e
  action-same parents None = refl
  action-same parents (Some e) = refl

  fields-same : (pairs : List Pair) (value : List ℕ) (c : Commit O R) → fields_of x pairs value c ≡ fields_of y pairs value c
  fields-same pairs value c = ap (λ (act : Action). record (fields_of y pairs value c) { action = act }) (action-same c.parents c.event)

  pair-same : (before : List (Commit O R)) (pairs : List Pair) (c : Commit O R) → pair_at x before pairs c ≡ pair_at y before pairs c
  pair-same before pairs c =
      let value = value_at x (before ++ c ∷ []) (length before) in
      ap (λ (f : CommitFields). record { value = value; commit = commit_object f }) (fields-same pairs value c)

  after-same : (before : List (Commit O R)) (pairs : List Pair) (cs : List (Commit O R)) → pairs_after x before pairs cs ≡ pairs_after y before pairs cs
  after-same before pairs [] = refl
  after-same before pairs (c ∷ cs) =
      after-same (before ++ c ∷ []) (pairs ++ pair_at x before pairs c ∷ []) cs
      ∙ ap (λ (p : Pair). pairs_after y (before ++ c ∷ []) (pairs ++ p ∷ []) cs) (pair-same before pairs c)

  pairs-same : (cs : List (Commit O R)) → pairs_of x cs ≡ pairs_of y cs
  unfolding pairs_of
  pairs-same cs = after-same [] [] cs

  objects-same : (moves : List (Move O R)) → objects_of x moves ≡ objects_of y moves
  unfolding objects_of
  objects-same moves = ap (λ (ps : List Pair). fresh [] (flat_map both ps)) (pairs-same (store_of terms.origin moves).commits)

  new-same : (moves : List (Move O R)) (made : Move O R) → new_objects x moves made ≡ new_objects y moves made
  unfolding new_objects
  new-same moves made = ap (λ (ps : List Pair). flat_map both (drop (length (store_of terms.origin moves).commits) ps)) (pairs-same (store_of terms.origin (moves ++ made ∷ [])).commits)

  pub region-same : (moves : List (Move O R)) (made : Move O R) → region x moves made ≡ region y moves made
  region-same moves made = ap₂ (λ (stored new : Stored). concat (fresh stored new)) (objects-same moves) (new-same moves made)

  pub end-same : (moves : List (Move O R)) → end_of x moves ≡ end_of y moves
  end-same moves =
      omega (
        arith,
        length-append (header_of a.version) (concat (objects_of x moves)),
        length-append (header_of b.version) (concat (objects_of y moves)),
        length-header a.version,
        length-header b.version,
        ap (λ (stored : Stored). length (concat stored)) (objects-same moves),
      )

  address-same : (moves : List (Move O R)) (made : Move O R) → new_address x moves made ≡ new_address y moves made
  unfolding new_address
  address-same moves made = ap (λ (ps : List Pair). address_at address ps (length (store_of terms.origin moves).commits)) (pairs-same (store_of terms.origin (moves ++ made ∷ [])).commits)

  pub record-same : (moves : List (Move O R)) (made : Move O R) → record_of x moves made ≡ record_of y moves made
  record-same moves made = ap₂ (λ (l : List ℕ) (end : ℕ). record_with l end made) (address-same moves made) (end-same (moves ++ made ∷ []))

  records_after-same : (before moves : List (Move O R)) → records_after x before moves ≡ records_after y before moves
  records_after-same before [] = refl
  records_after-same before (k ∷ ks) = ap₂ (λ (r : Record) (rs : List Record). r ∷ rs) (record-same before k) (records_after-same (before ++ k ∷ []) ks)

  pub records-same : (moves : List (Move O R)) → records_of x moves ≡ records_of y moves
  unfolding records_of
  records-same moves = records_after-same [] moves

  -- the machine does the same
  at-same : (moves : List (Move O R)) (c : Commit O R) → commit_at x moves (pair_next x moves c) ≡ commit_at y moves (pair_next y moves c)
  unfolding commit_at
  at-same moves c =
      let commits = (store_of terms.origin moves).commits in
      ap₂ (λ (ps : List Pair) (p : Pair). commit_with ps p) (pairs-same commits)
      (ap (λ (ps : List Pair). pair_at x commits ps c) (pairs-same commits) ∙ pair-same commits (pairs_of y commits) c)

  here-same : (moves : List (Move O R)) (step : Step O Q) → commit_here x moves step ≡ commit_here y moves step
  here-same moves step =
      and_then-same (λ c. commit_at x moves (pair_next x moves c)) (λ c. commit_at y moves (pair_next y moves c)) (at-same moves)
      (commit_received m (store_of terms.origin moves).commits step)

  collision-same : (moves : List (Move O R)) (made : Move O R) → collision_refusal x moves made ≡ collision_refusal y moves made
  unfolding collision_refusal
  collision-same moves made =
      ap₂ (λ (stored new : Stored). option_map (λ c. Collision (address c.1) c.0 c.1) (collision address stored new)) (objects-same moves) (new-same moves made)

  turn-same : (moves : List (Move O R)) (step : Step O Q) → full_turn x moves step ≡ full_turn y moves step
  unfolding full_turn
  turn-same moves step =
      let t = turn m terms moves step in
      ap₂ (λ (n : Option ℕ) (u : Turn O R A). unless_here n u) (here-same moves step)
      (unless_made-same (collision_refusal x moves) (collision_refusal y moves) (collision-same moves) t.made t)

  pub full-same : (moves : List (Move O R)) (made : Move O R) → IsFullMove x moves made → IsFullMove y moves made
  full-same moves made (step, may, is) = (step, may, ap (λ (t : Turn O R A). t.made) (sym (turn-same moves step)) ∙ is)

  valid_after-same : (before moves : List (Move O R)) → IsFullyValidAfter x before moves → IsFullyValidAfter y before moves
  valid_after-same before [] valid = tt
  valid_after-same before (k ∷ ks) valid = (full-same before k valid.0, valid_after-same (before ++ k ∷ []) ks valid.1)

  pub valid-same : (moves : List (Move O R)) → IsFullyValid x moves → IsFullyValid y moves
  unfolding IsFullyValid
  valid-same moves valid = valid_after-same [] moves valid

  -- what may come next is the same
  grown-same : (moves : List (Move O R)) (end : ℕ) → end_of x moves < end → end_of y moves < end
  grown-same moves end less = omega (arith, less, end-same moves)

  pub suits-same : (moves : List (Move O R)) (r : Record) → Suits x moves r → Suits y moves r
  suits-same moves (Fork number from name end) suits = (suits.0, suits.1, suits.2 ∙ end-same moves)
  suits-same moves (Operation r l end) suits = (suits.0, (grown-same moves end suits.1.0, suits.1.1), suits.2)
  suits-same moves (Merge r k l end) suits = (suits.0, suits.1, suits.2, suits.3, (grown-same moves end suits.4.0, suits.4.1))
  suits-same moves (Forward r k end) suits = (suits.0, suits.1, suits.2, suits.3, suits.4 ∙ end-same moves)
  suits-same moves (Join r ks end) suits = (suits.0, suits.1, (grown-same moves end suits.2.0, suits.2.1))
  suits-same moves (Received l end) suits = grown-same moves end suits
  suits-same moves (Place number k name end) suits = (suits.0, suits.1, suits.2 ∙ end-same moves)
  suits-same moves (Drop r end) suits = (suits.0, suits.1, suits.2 ∙ end-same moves)

  pub does-same : (r : Record) (act : Action) → Does x r act → Does y r act
  does-same (Operation r l end) (wire.Operation op reply) does = does
  does-same (Merge r k l end) wire.Merge does = does
  does-same (Join r ks end) wire.Merge does = does
  does-same (Received l end) (wire.Operation op reply) does = does
  does-same (Received l end) wire.Merge does = does
  does-same r act does = absurd does

  -- where a version has no bound on the parents of a commit
  pub shape-later : (b.version ≡ 1 → ⊥) → (r : Record) (bytes : List ℕ) → HasShape x r bytes → HasShape y r bytes
  shape-later later r bytes (first, second, value, (c, is, does, few, laid, whole), parts) =
      (first, second, value, (c, is, does-same r c.action does, λ one. absurd (later one), laid, whole), parts)

  pub made-same : (moves : List (Move O R)) (r : Record) (bytes : List ℕ) → IsMade x moves r bytes → IsMade y moves r bytes
  made-same moves r bytes (made, full, recorded, stored) =
      (made, full-same moves made full, sym (record-same moves made) ∙ recorded, sym (region-same moves made) ∙ stored)
