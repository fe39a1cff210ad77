-- What the machine's refusals name.
use Rattle.std.proofs.Common.{◌≡◌, ℕ, ◌+◌, ◌<◌, Bool, true, false, ◌==◌, List, [], ◌∷◌, ◌++◌, length, refl, ap, sym, subst, ◌∙◌, Option, Some, None, arith}
use Rattle.std.specs.Prelude.{nat_le, nat_lt, not, ◌&&◌, ◌≢◌, if◌then◌else◌}
use Rattle.std.specs.Option.{option_map}
use Rattle.std.proofs.lemmas.Bool.{leb-true}
use Rattle.mrdt_model.specs.Laws.{Meaning}
use Rattle.branch_names.specs.declared.terms.Terms.{Terms}
use Rattle.branch_names.specs.Heads.{head_of, is_dropped, branch_named}
use Rattle.branch_graph.specs.Graph.{reaches}
use Rattle.branch_wire.specs.StoredObjects.{Stored, same, has_address, clash, collision}
use Rattle.branch_history.specs.declared.moves.Move.{Move}
use Rattle.branch_history.specs.declared.moves.Move.TheVariants as move
use Rattle.branch_history.specs.Commits.{Commit, graph_of, clock_of, visible, visible_at_all}
use Rattle.branch_history.specs.History.{store_of}
use Rattle.branch_history.specs.Merging.{brought}
use Rattle.branch_history.specs.Laws.{IsWithin}
use Rattle.branch_history.specs.Steps.{Step, Look, Fork, Land, Merge, Refusal, UnknownBranch, NameTaken, Dropped, KeepsMain, Stale, Exhausted, FullCommits, FullBranches, FullMoves, ValueTooLarge, OwnOrigin, TimeClash, BadBundle, Collision, Outcome, Sees, Forked, Landed, Merged, Joined, Forwarded, Same, Here, Refused, Turn}
use Rattle.branch_history.specs.Machine.{refusal_if, event_made, event_length, operation_refusal, merge_refusal, move_refusal, room_refusal, forward_refusal, commit_refusal, fork_refusal, answers, makes, unless, look_turn, fork_turn, merge_turn, turn}
use Rattle.branch_machine.specs.Fixed.{Fixed}
use Rattle.branch_machine.specs.Objects.{objects_of, new_objects}
use Rattle.branch_machine.proofs.Stored.{same-eq, same-refl}
use Rattle.branch_machine.specs.Machine.{collision_refusal, commit_here, unless_here, unless_made, full_turn}

-- What a refusal after a history says: a full store has the count that is told, which is the limit; a clock is at the limit, and a value is over it; objects that
-- collide have one address and other bytes; a branch that is told to be dropped is so. Only a drop is refused since `main` stays.
abbrev pub Says : {S O R Q A : Type 0} → Fixed S O R Q A → List (Move O R) → (List ℕ → Type 0) → Refusal → Type 0
Says fixed moves Unknown (UnknownBranch name) = Unknown name
Says fixed moves Unknown (NameTaken number) = Unit {0}
Says fixed moves Unknown (Dropped number) = is_dropped (store_of fixed.terms.origin moves).branches number ≡ true
Says fixed moves Unknown KeepsMain = ⊥
Says fixed moves Unknown (Stale newest) = Unit {0}
Says fixed moves Unknown (Exhausted clock) = clock ≡ fixed.terms.limits.clock
Says fixed moves Unknown (FullCommits count) = (count ≡ fixed.terms.limits.commits) × (count ≡ length (store_of fixed.terms.origin moves).commits)
Says fixed moves Unknown (FullBranches count) = (count ≡ fixed.terms.limits.branches) × (count ≡ length (store_of fixed.terms.origin moves).branches)
Says fixed moves Unknown (FullMoves count) = (count ≡ fixed.terms.limits.moves) × (count ≡ length moves)
Says fixed moves Unknown (ValueTooLarge size) = fixed.terms.limits.value < size
Says fixed moves Unknown OwnOrigin = Unit {0}
Says fixed moves Unknown (TimeClash n) = Unit {0}
Says fixed moves Unknown BadBundle = Unit {0}
Says fixed moves Unknown (Collision address stored fresh) = (fixed.address stored ≡ address) × (fixed.address fresh ≡ address) × (stored ≢ fresh)

-- a collision is of two objects with one address and other bytes
module _ (address : List ℕ → List ℕ) where
  abbrev Collides : List ℕ → List ℕ → Type 0
  Collides y x = (address y ≡ address x) × (y ≢ x)

  clash-test : (x y : List ℕ) → has_address address (address x) y && not (same y x) ≡ true → Collides y x
  clash-test x y test = by-tests (has_address address (address x) y) (same y x) refl refl test
    where
      by-tests : (a b : Bool) → has_address address (address x) y ≡ a → same y x ≡ b → a && not b ≡ true → Collides y x
      by-tests true false at other is = (same-eq (address y) (address x) at, λ e. let t : true ≡ false = sym (same-refl x) ∙ ap (λ z. same z x) (sym e) ∙ other in let never : ⊥ = cc in never)
      by-tests true true at other is = let never : ⊥ = cc in absurd never
      by-tests false b at other is = let never : ⊥ = cc in absurd never

  clash-collides : (x y : List ℕ) (stored : Stored) → clash address x stored ≡ Some y → Collides y x
  clash-collides x y [] is = let never : ⊥ = cc in absurd never
  clash-collides x y (z ∷ zs) is = by-test (clash-collides x y zs) (has_address address (address x) z && not (same z x)) refl is
    where
      by-test : (clash address x zs ≡ Some y → Collides y x) → (test : Bool) → has_address address (address x) z && not (same z x) ≡ test → (if test then Some z else clash address x zs) ≡ Some y → Collides y x
      by-test rest true at e = let found : z ≡ y = cc in subst (λ t. Collides t x) found (clash-test x z at)
      by-test rest false at e = rest e

  collision-collides : (stored new : Stored) (c : List ℕ × List ℕ) → collision address stored new ≡ Some c → Collides c.0 c.1
  collision-collides stored [] c is = let never : ⊥ = cc in absurd never
  collision-collides stored (x ∷ xs) c is = by-clash (collision-collides (stored ++ x ∷ []) xs c) (clash address x stored) refl is
    where
      by-clash : (collision address (stored ++ x ∷ []) xs ≡ Some c → Collides c.0 c.1) → (found : Option (List ℕ)) → clash address x stored ≡ found
          → elim found as (λ o. Option (List ℕ × List ℕ)) [ None ↦ collision address (stored ++ x ∷ []) xs | Some y ↦ Some (y, x) ] ≡ Some c → Collides c.0 c.1
      by-clash rest None at e = rest e
      by-clash rest (Some y) at e = let found : (y, x) ≡ c = cc in subst (λ d. Collides d.0 d.1) found (clash-collides x y stored at)

module _ (P : Refusal → Type 0) where
  reason-if : (test : Bool) (refusal : Refusal) (later : Option Refusal) (why : Refusal) → (test ≡ true → P refusal) → (later ≡ Some why → P why) → refusal_if test refusal later ≡ Some why → P why
  reason-if true refusal later why here rest is = let same : refusal ≡ why = cc in subst P same (here refl)
  reason-if false refusal later why here rest is = rest is

  reason-none : (why : Refusal) → None ≡ Some why → P why
  reason-none why is = let never : ⊥ = cc in absurd never

  same-refusal : {O R A : Type 0} (r why : Refusal) → answers {O = O} {R = R} {A = A} (Refused r) ≡ answers (Refused why) → P r → P why
  same-refusal {O} {R} {A} r why is here =
      let told : ◌≡◌ {A = Outcome A R} (Refused r) (Refused why) = ap (λ (t : Turn O R A). t.outcome) is in
      let same : r ≡ why = cc in
      subst P same here

  reason-unless : {O R A : Type 0} (o : Option Refusal) (t : Turn O R A) (why : Refusal) → ((r : Refusal) → o ≡ Some r → P r) → (t ≡ answers (Refused why) → P why) → unless o t ≡ answers (Refused why) → P why
  reason-unless None t why here rest is = rest is
  reason-unless {O} {R} {A} (Some r) t why here rest is = same-refusal {O = O} {R = R} {A = A} r why is (here r refl)

  reason-makes : {O R A : Type 0} (m : Move O R) (outcome : Outcome A R) (why : Refusal) → makes m outcome ≡ answers (Refused why) → P why
  reason-makes {O} {R} {A} m outcome why is =
      let moved : m ∷ [] ≡ [] = ap (λ (t : Turn O R A). t.made) is in
      let never : ⊥ = cc in
      absurd never

  pub reason-full : {S O R Q A : Type 0} (fixed : Fixed S O R Q A) (moves : List (Move O R)) (step : Step O Q) (why : Refusal) → ((stored fresh : List ℕ) → Collides fixed.address stored fresh → P (Collision (fixed.address fresh) stored fresh))
      → (turn fixed.meaning fixed.terms moves step ≡ answers (Refused why) → P why) → full_turn fixed moves step ≡ answers (Refused why) → P why
  unfolding full_turn collision_refusal
  reason-full {S} {O} {R} {Q} {A} fixed moves step why collides rest is = by-here (commit_here fixed moves step) is
    where
      t : Turn O R A
      t = turn fixed.meaning fixed.terms moves step

      by-found : (made : Move O R) (found : Option (List ℕ × List ℕ)) → collision fixed.address (objects_of fixed moves) (new_objects fixed moves made) ≡ found
          → unless (option_map (λ c. Collision (fixed.address c.1) c.0 c.1) found) t ≡ answers (Refused why) → P why
      by-found made None at e = rest e
      by-found made (Some c) at e =
          same-refusal {O = O} {R = R} {A = A} (Collision (fixed.address c.1) c.0 c.1) why e
          (collides c.0 c.1 (collision-collides fixed.address (objects_of fixed moves) (new_objects fixed moves made) c at))

      by-made : (ms : List (Move O R)) → unless_made (λ m. option_map (λ c. Collision (fixed.address c.1) c.0 c.1) (collision fixed.address (objects_of fixed moves) (new_objects fixed moves m))) ms t ≡ answers (Refused why) → P why
      by-made [] e = rest e
      by-made (m ∷ ms) e = by-found m (collision fixed.address (objects_of fixed moves) (new_objects fixed moves m)) refl e

      by-here : (here : Option ℕ) → unless_here here (unless_made (λ m. option_map (λ c. Collision (fixed.address c.1) c.0 c.1) (collision fixed.address (objects_of fixed moves) (new_objects fixed moves m))) t.made t) ≡ answers (Refused why) → P why
      by-here None e = by-made t.made e
      by-here (Some n) e = let told : ◌≡◌ {A = Outcome A R} (Here n) (Refused why) = ap (λ (u : Turn O R A). u.outcome) e in let never : ⊥ = cc in absurd never

module _ {S O R Q A : Type 0} (fixed : Fixed S O R Q A) (moves : List (Move O R)) (within : IsWithin fixed.terms moves) (Unknown : List ℕ → Type 0) where
  abbrev meaning : Meaning S O R Q A
  meaning = fixed.meaning

  abbrev terms : Terms
  terms = fixed.terms

  abbrev P : Refusal → Type 0
  P = Says fixed moves Unknown

  abbrev commits : List (Commit O R)
  commits = (store_of fixed.terms.origin moves).commits

  says-moves : (why : Refusal) → move_refusal terms moves ≡ Some why → P why
  unfolding move_refusal
  says-moves why is =
      reason-if P (nat_le terms.limits.moves (length moves)) (FullMoves (length moves)) None why
      (λ test. let at = leb-true terms.limits.moves (length moves) test in let most = within.accepted in (omega arith, refl))
      (reason-none P why) is

  says-room : (why : Refusal) → room_refusal terms moves ≡ Some why → P why
  unfolding room_refusal
  says-room why is =
      let count = length commits in
      reason-if P (nat_le terms.limits.commits count) (FullCommits count) (move_refusal terms moves) why
      (λ test. let at = leb-true terms.limits.commits count test in let most = within.commits in (omega arith, refl)) (says-moves why) is

  says-operation : (origin h : ℕ) (op : O) (why : Refusal) → operation_refusal meaning terms.limits commits origin h op ≡ Some why → P why
  unfolding operation_refusal
  says-operation origin h op why is =
      let clock = clock_of commits h in
      let size = event_length meaning (event_made meaning commits origin h op) (visible commits h) in
      reason-if P (nat_le terms.limits.clock clock) (Exhausted clock) (refusal_if (nat_lt terms.limits.value size) (ValueTooLarge size) None) why
      (λ test. let at = leb-true terms.limits.clock clock test in let most = within.clocks h in omega arith)
      (λ later. reason-if P (nat_lt terms.limits.value size) (ValueTooLarge size) None why (λ test. leb-true _ _ test) (reason-none P why) later)
      is

  says-merging : (parents : List ℕ) (why : Refusal) → merge_refusal meaning terms.limits commits parents ≡ Some why → P why
  unfolding merge_refusal
  says-merging parents why is =
      let size = length (meaning.spelling_of (visible_at_all commits parents)) in
      reason-if P (nat_lt terms.limits.value size) (ValueTooLarge size) None why (λ test. leb-true _ _ test) (reason-none P why) is

  -- a head does not move of a branch that was dropped, or to those that have not seen it
  says-head : (r h : ℕ) (later : Option Refusal) (why : Refusal) → (later ≡ Some why → P why)
      → refusal_if (is_dropped (store_of fixed.terms.origin moves).branches r) (Dropped r)
      (refusal_if (not (head_of (store_of fixed.terms.origin moves).branches r == h)) (Stale (head_of (store_of fixed.terms.origin moves).branches r)) later) ≡ Some why
      → P why
  says-head r h later why rest is =
      let branches = (store_of fixed.terms.origin moves).branches in
      let head = head_of branches r in
      let stale = refusal_if (not (head == h)) (Stale head) later in
      reason-if P (is_dropped branches r) (Dropped r) stale why (λ test. test) (λ next. reason-if P (not (head == h)) (Stale head) later why (λ test. tt) rest next) is

  says-forward : (r h : ℕ) (why : Refusal) → forward_refusal terms moves r h ≡ Some why → P why
  unfolding forward_refusal
  says-forward r h why is = says-head r h (move_refusal terms moves) why (says-moves why) is

  says-commit : (r h : ℕ) (why : Refusal) → commit_refusal terms moves r h ≡ Some why → P why
  unfolding commit_refusal
  says-commit r h why is = says-head r h (room_refusal terms moves) why (says-room why) is

  says-forking : (why : Refusal) → fork_refusal terms moves ≡ Some why → P why
  unfolding fork_refusal
  says-forking why is =
      let count = length (store_of fixed.terms.origin moves).branches in
      reason-if P (nat_le terms.limits.branches count) (FullBranches count) (move_refusal terms moves) why
      (λ test. let at = leb-true terms.limits.branches count test in let most = within.branches in (omega arith, refl))
      (says-moves why) is

  pub says-look : (name : List ℕ) (why : Refusal) → (branch_named (store_of fixed.terms.origin moves).branches name ≡ None → Unknown name) → turn meaning terms moves (Look name) ≡ answers (Refused why) → P why
  unfolding turn
  says-look name why none is = by-named (branch_named (store_of fixed.terms.origin moves).branches name) refl is
    where
      by-named : (o : Option ℕ) → branch_named (store_of fixed.terms.origin moves).branches name ≡ o → look_turn {O = O} {R = R} {A = A} (store_of fixed.terms.origin moves) name o ≡ answers (Refused why) → P why
      by-named None at e = same-refusal P {O = O} {R = R} {A = A} (UnknownBranch name) why e (none at)
      by-named (Some r) at e = let told : ◌≡◌ {A = Outcome A R} (Sees r (head_of (store_of fixed.terms.origin moves).branches r)) (Refused why) = ap (λ (t : Turn O R A). t.outcome) e in let never : ⊥ = cc in absurd never

  pub says-fork : (name from : List ℕ) (why : Refusal) → (branch_named (store_of fixed.terms.origin moves).branches from ≡ None → Unknown from) → turn meaning terms moves (Fork name from) ≡ answers (Refused why) → P why
  unfolding turn
  says-fork name from why none is = by-named (branch_named (store_of fixed.terms.origin moves).branches name) (branch_named (store_of fixed.terms.origin moves).branches from) refl is
    where
      by-named : (taken there : Option ℕ) → branch_named (store_of fixed.terms.origin moves).branches from ≡ there → fork_turn {O = O} {R = R} {A = A} terms moves name from taken there ≡ answers (Refused why) → P why
      by-named taken None at e = same-refusal P {O = O} {R = R} {A = A} (UnknownBranch from) why e (none at)
      by-named (Some number) (Some r) at e = same-refusal P {O = O} {R = R} {A = A} (NameTaken number) why e tt
      by-named None (Some r) at e =
          let branches = (store_of fixed.terms.origin moves).branches in
          let made : Turn O R A = makes (move.Fork name (length branches) r) (Forked (length branches) (head_of branches r)) in
          reason-unless P (fork_refusal terms moves) made why says-forking (reason-makes P (move.Fork name (length branches) r) (Forked (length branches) (head_of branches r)) why) e

  pub says-land : (r h : ℕ) (op : O) (why : Refusal) → turn meaning terms moves (Land r h op) ≡ answers (Refused why) → P why
  unfolding turn
  says-land r h op why is =
      let origin = terms.origin + r in
      let e = event_made meaning commits origin h op in
      let m = move.Operation r op e.reply in
      let outcome : Outcome A R = Landed (length commits) e.time e.reply in
      reason-unless P (operation_refusal meaning terms.limits commits origin h op) (unless (commit_refusal terms moves r h) (makes m outcome)) why (says-operation origin h op)
      (reason-unless P (commit_refusal terms moves r h) (makes m outcome) why (says-commit r h) (reason-makes P m outcome why))
      is

  says-same : (why : Refusal) → answers {O = O} {R = R} {A = A} Same ≡ answers (Refused why) → P why
  says-same why e = let told : ◌≡◌ {A = Outcome A R} Same (Refused why) = ap (λ (t : Turn O R A). t.outcome) e in let never : ⊥ = cc in absurd never

  pub says-merge : (r h : ℕ) (ms : List ℕ) (why : Refusal) → turn meaning terms moves (Merge r h ms) ≡ answers (Refused why) → P why
  unfolding turn
  says-merge r h ms why is = by-brought (brought (graph_of commits) h ms) is
    where
      -- a new commit with these parents
      by-new : (parents : List ℕ) (made : Move O R) (outcome : Outcome A R)
          → unless (merge_refusal meaning terms.limits commits parents) (unless (commit_refusal terms moves r h) (makes made outcome)) ≡ answers (Refused why) → P why
      by-new parents made outcome e =
          reason-unless P (merge_refusal meaning terms.limits commits parents) (unless (commit_refusal terms moves r h) (makes made outcome)) why (says-merging parents)
          (reason-unless P (commit_refusal terms moves r h) (makes made outcome) why (says-commit r h) (reason-makes P made outcome why))
          e

      by-below : (m : ℕ) (above : Bool)
          → (if above then unless (forward_refusal terms moves r h) (makes (move.Forward r m) (Forwarded m))
          else unless (merge_refusal meaning terms.limits commits (h ∷ m ∷ [])) (unless (commit_refusal terms moves r h) (makes (move.Merge r m) (Merged (length commits))))) ≡ answers {O = O} {R = R} {A = A} (Refused why) → P why
      by-below m true e = reason-unless P (forward_refusal terms moves r h) (makes (move.Forward r m) (Forwarded m)) why (says-forward r h) (reason-makes P (move.Forward r m) (Forwarded m) why) e
      by-below m false e = by-new (h ∷ m ∷ []) (move.Merge r m) (Merged (length commits)) e

      by-brought : (ks : List ℕ) → merge_turn meaning terms moves r h ks ≡ answers (Refused why) → P why
      by-brought [] e = says-same why e
      by-brought (m ∷ []) e = by-below m (reaches (graph_of commits) m h) e
      by-brought (m ∷ k ∷ ks) e = by-new (h ∷ m ∷ k ∷ ks) (move.Join r (m ∷ k ∷ ks)) (Joined (length commits)) e
