-- What the machine makes of one item.
use Rattle.std.proofs.Common.{◌≡◌, inl, inr, ℕ, Bool, true, false, List, [], ◌∷◌, ◌++◌, length, refl, ap, sym, ◌∙◌, subst, Option, Some, None}
use Rattle.std.specs.Prelude.{nat_le, nat_lt, option_and_then}
use Rattle.std.specs.Option.{option_map}
use Rattle.branch_wire.specs.StoredObjects.{collision}
use Rattle.branch_history.specs.declared.moves.Move.{Move}
use Rattle.branch_history.specs.declared.moves.Move.TheVariants as move
use Rattle.branch_names.specs.Terms.{is_own}
use Rattle.branch_history.specs.Commits.{Commit, clock_of, visible, visible_at_all, greatest_clock, commit_at_time}
use Rattle.branch_history.specs.History.{Store}
use Rattle.branch_history.specs.Steps.{Step, Look, Fork, Land, Merge, ReceiveOperation, ReceiveMerge, Place, Drop, Ask, Refusal, OwnOrigin, TimeClash, Exhausted, ValueTooLarge, FullCommits, FullMoves, BadBundle, Collision, New, Here, Refused, Turn}
use Rattle.branch_history.specs.Machine.{refusal_if, or_later, event_made, event_length, operation_refusal, merge_refusal, move_refusal, room_refusal, clash_refusal, received_operation_refusal, received_merge_refusal, answers, makes, unless, turn}
use Rattle.branch_history.proofs.Valid.{store_of-more}
use Rattle.branch_machine.specs.Fixed.{Fixed}
use Rattle.branch_machine.specs.Objects.{Pair, pairs_of, store_after, objects_of, new_objects}
use Rattle.branch_machine.specs.Machine.{collision_refusal, commit_received, pair_next, commit_at, commit_here, unless_here, unless_made, full_turn}
use Rattle.branch_machine.specs.Validity.{IsFullMove, IsItem, Receives}
use Rattle.branch_machine.proofs.Items.{item-stands}
use Rattle.branch_bundle_laws.specs.Receiving.{IsReceiving}
use Rattle.branch_bundle_laws.specs.Laws.{MayMeet}

-- a refusal that an item of a good bundle may meet, or none
abbrev pub May : Option Refusal → Type 0
May None = Unit {0}
May (Some r) = MayMeet r

may-if : (test : Bool) (r : Refusal) (later : Option Refusal) → MayMeet r → May later → May (refusal_if test r later)
may-if true r later may rest = may
may-if false r later may rest = rest

may-or : (first later : Option Refusal) → May first → May later → May (or_later first later)
may-or None later may rest = rest
may-or (Some r) later may rest = may

may-clash : (o : Option ℕ) → May (option_map (λ n. TimeClash n) o)
may-clash None = tt
may-clash (Some n) = tt

-- a turn that is refused so, or makes a commit that is received
pub data IsTurned {O R A : Type 0} (count : ℕ) (t : Turn O R A) : Type 0 where
  Refuses : (r : Refusal) → MayMeet r → t ≡ answers (Refused r) → IsTurned count t
  Makes : (parents : List ℕ) (origin clock : ℕ) (act : Option (O × R)) → t ≡ makes (move.Received parents origin clock act) (New count) → IsTurned count t

-- What the machine made of an item: it was here; it is new; it was refused, but not as a bad one; or no step receives it.
pub data IsReceivedAs {S O R Q A : Type 0} (fixed : Fixed S O R Q A) (moves : List (Move O R)) (item : Pair) (t : Turn O R A) : Type 0 where
  WasHere : (n : ℕ) → commit_at fixed moves item ≡ Some n → t ≡ answers (Here n) → IsReceivedAs fixed moves item t
  WasNew : (m : Move O R) → t ≡ makes m (New (length (store_after fixed moves).commits)) → IsFullMove fixed moves m → pairs_of fixed (store_after fixed (moves ++ m ∷ [])).commits ≡ pairs_of fixed (store_after fixed moves).commits ++ item ∷ [] → (store_after fixed (moves ++ m ∷ [])).branches ≡ (store_after fixed moves).branches → IsReceiving m → IsReceivedAs fixed moves item t
  WasRefused : (r : Refusal) → MayMeet r → t ≡ answers (Refused r) → IsReceivedAs fixed moves item t
  WasBad : ((step : Step O Q) → ¬ IsItem fixed moves step item) → t ≡ answers (Refused BadBundle) → IsReceivedAs fixed moves item t

module _ {S O R Q A : Type 0} (fixed : Fixed S O R Q A) (moves : List (Move O R)) where
  abbrev s : Store O R
  s = store_after fixed moves

  abbrev count : ℕ
  count = length s.commits

  may-room : May (room_refusal fixed.terms moves)
  unfolding room_refusal move_refusal
  may-room = may-if (nat_le fixed.terms.limits.commits count) (FullCommits count) (refusal_if (nat_le fixed.terms.limits.moves (length moves)) (FullMoves (length moves)) None) tt (may-if (nat_le fixed.terms.limits.moves (length moves)) (FullMoves (length moves)) None tt tt)

  may-prepare : (origin h : ℕ) (op : O) → May (operation_refusal fixed.meaning fixed.terms.limits s.commits origin h op)
  unfolding operation_refusal
  may-prepare origin h op =
      let clock : ℕ = clock_of s.commits h in
      let size : ℕ = event_length fixed.meaning (event_made fixed.meaning s.commits origin h op) (visible s.commits h) in
      may-if (nat_le fixed.terms.limits.clock clock) (Exhausted clock) (refusal_if (nat_lt fixed.terms.limits.value size) (ValueTooLarge size) None) tt (may-if (nat_lt fixed.terms.limits.value size) (ValueTooLarge size) None tt tt)

  may-merge : (parents : List ℕ) → May (merge_refusal fixed.meaning fixed.terms.limits s.commits parents)
  unfolding merge_refusal
  may-merge parents =
      let size : ℕ = length (fixed.meaning.spelling_of (visible_at_all s.commits parents)) in
      may-if (nat_lt fixed.terms.limits.value size) (ValueTooLarge size) None tt tt

  may-operation : (origin h : ℕ) (op : O) → May (received_operation_refusal fixed.meaning fixed.terms moves origin h op)
  unfolding received_operation_refusal
  may-operation origin h op =
      let t = (event_made fixed.meaning s.commits origin h op).time in
      let last : Option Refusal = or_later (operation_refusal fixed.meaning fixed.terms.limits s.commits origin h op) (room_refusal fixed.terms moves) in
      may-if (is_own fixed.terms origin) OwnOrigin (or_later (clash_refusal s.commits t) last) tt
      (may-or (clash_refusal s.commits t) last (may-clash (commit_at_time s.commits t))
      (may-or (operation_refusal fixed.meaning fixed.terms.limits s.commits origin h op) (room_refusal fixed.terms moves) (may-prepare origin h op) may-room))

  may-receive : (origin : ℕ) (parents : List ℕ) → May (received_merge_refusal fixed.meaning fixed.terms moves origin parents)
  unfolding received_merge_refusal
  may-receive origin parents =
      may-if (is_own fixed.terms origin) OwnOrigin (or_later (merge_refusal fixed.meaning fixed.terms.limits s.commits parents) (room_refusal fixed.terms moves)) tt
      (may-or (merge_refusal fixed.meaning fixed.terms.limits s.commits parents) (room_refusal fixed.terms moves) (may-merge parents) may-room)

  may-collide : (m : Move O R) → May (collision_refusal fixed moves m)
  unfolding collision_refusal
  may-collide m = at (collision fixed.address (objects_of fixed moves) (new_objects fixed moves m))
    where
      at : (o : Option (List ℕ × List ℕ)) → May (option_map (λ c. Collision (fixed.address c.1) c.0 c.1) o)
      at None = tt
      at (Some c) = tt

  unless-turned : (o : Option Refusal) (parents : List ℕ) (origin clock : ℕ) (act : Option (O × R)) → May o → IsTurned {A = A} count (unless o (makes (move.Received parents origin clock act) (New count)))
  unless-turned None parents origin clock act may = Makes parents origin clock act refl
  unless-turned (Some r) parents origin clock act may = Refuses r may refl

  step-turned : (step : Step O Q) (c : Commit O R) → commit_received fixed.meaning s.commits step ≡ Some c → IsTurned count (turn fixed.meaning fixed.terms moves step)
  unfolding turn
  step-turned (Look name) c is = absurd (cc)
  step-turned (Fork name from) c is = absurd (cc)
  step-turned (Land r h op) c is = absurd (cc)
  step-turned (Merge r h ms) c is = absurd (cc)
  step-turned (ReceiveOperation origin h op) c is =
      let e = event_made fixed.meaning s.commits origin h op in
      unless-turned (received_operation_refusal fixed.meaning fixed.terms moves origin h op) (h ∷ []) origin e.time.clock (Some (op, e.reply)) (may-operation origin h op)
  step-turned (ReceiveMerge origin h ms) c is = unless-turned (received_merge_refusal fixed.meaning fixed.terms moves origin (h ∷ ms)) (h ∷ ms) origin (greatest_clock s.commits (h ∷ ms)) None (may-receive origin (h ∷ ms))
  step-turned (Place name n) c is = absurd (cc)
  step-turned (Drop r h) c is = absurd (cc)
  step-turned (Ask n query) c is = absurd (cc)

  made-turned : (t : Turn O R A) → IsTurned count t → IsTurned count (unless_made (collision_refusal fixed moves) t.made t)
  made-turned t (Refuses r may is) = Refuses r may (ap (λ (u : Turn O R A). unless_made (collision_refusal fixed moves) u.made u) is)
  made-turned t (Makes parents origin clock act is) =
      let m : Move O R = move.Received parents origin clock act in
      subst (λ (u : Turn O R A). IsTurned count (unless_made (collision_refusal fixed moves) u.made u)) (sym is) (unless-turned (collision_refusal fixed moves m) parents origin clock act (may-collide m))

  -- a step that receives an item that is not here
  full-turned : (item : Pair) (step : Step O Q) → IsItem fixed moves step item → commit_at fixed moves item ≡ None → IsTurned count (full_turn fixed moves step)
  unfolding full_turn
  full-turned item step of none =
      let t = turn fixed.meaning fixed.terms moves step in
      let here : commit_here fixed moves step ≡ None = ap (λ o. option_and_then (λ (c : Commit O R). commit_at fixed moves (pair_next fixed moves c)) o) of.received ∙ ap (commit_at fixed moves) of.objects ∙ none in
      subst (λ o. IsTurned count (unless_here o (unless_made (collision_refusal fixed moves) t.made t))) (sym here) (made-turned t (step-turned step of.commit of.received))

  same-branches : (parents : List ℕ) (origin clock : ℕ) (act : Option (O × R)) → (store_after fixed (moves ++ move.Received parents origin clock act ∷ [])).branches ≡ s.branches
  same-branches parents origin clock act = ap (λ (x : Store O R). x.branches) (store_of-more fixed.terms.origin moves (move.Received parents origin clock act))

  -- what the machine made of an item
  pub received-as : (item : Pair) (t : Turn O R A) → Receives fixed moves item t → IsReceivedAs fixed moves item t
  received-as item t (inl (n, there, is)) = WasHere n there is
  received-as item t (inr (inl (none, step, of, is))) = at (full_turn fixed moves step) refl (full-turned item step of none)
    where
      at : (u : Turn O R A) → full_turn fixed moves step ≡ u → IsTurned count u → IsReceivedAs fixed moves item t
      at u same (Refuses r may refused) = WasRefused r may (is ∙ same ∙ refused)
      at u same (Makes parents origin clock act made) =
          let m : Move O R = move.Received parents origin clock act in
          let one : (full_turn fixed moves step).made ≡ m ∷ [] = ap (λ (v : Turn O R A). v.made) (same ∙ made) in
          WasNew m (is ∙ same ∙ made) (step, of.may, one) (item-stands fixed moves item step m of one) (same-branches parents origin clock act) (parents, origin, clock, act, refl)
  received-as item t (inr (inr (none, nowhere, is))) = WasBad nowhere is
