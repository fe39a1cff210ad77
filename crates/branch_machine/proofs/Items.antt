-- What the machine does with the items of a bundle.
use Rattle.std.proofs.Common.{◌≡◌, inl, inr, ℕ, ◌+◌, ◌<◌, ◌≤◌, ◌^◌, ◌&&◌, List, [], ◌∷◌, ◌++◌, length, refl, ap, sym, ◌∙◌, arith, Option, Some, None, subst, map, length-append}
use Rattle.std.specs.Option.{option_map_or}
use Rattle.std.proofs.lemmas.Bool.{and_parts}
use Rattle.mrdt_model.specs.Laws.{KeepsLaws}
use Rattle.branch_wire.specs.Fields.{short_number, number, field, counted}
use Rattle.branch_wire.specs.Reading.{HasLength64}
use Rattle.branch_wire.specs.Objects.{value_field, CommitFields, action_field, commit_body, commit_object}
use Rattle.branch_wire.specs.declared.action.Action.{Action}
use Rattle.branch_wire.specs.declared.action.Action.TheVariants as wire
use Rattle.branch_wire.proofs.Numbers.{length-field}
use Rattle.branch_wire.proofs.OneWay.{fields as one_field}
use Rattle.branch_wire.specs.StoredObjects.{same}
use Rattle.branch_history.specs.declared.moves.Move.{Move}
use Rattle.branch_history.specs.declared.moves.Move.TheVariants as move
use Rattle.branch_history.specs.Commits.{Commit, greatest_clock, visible}
use Rattle.branch_history.specs.History.{Store, operation_commit, merge_commit}
use Rattle.branch_history.specs.Steps.{Step, Look, Fork, Land, Merge, ReceiveOperation, ReceiveMerge, Place, Drop, Ask, BadBundle, Here, Refused, New, Turn}
use Rattle.branch_history.specs.Machine.{event_made, received_operation_refusal, received_merge_refusal, answers, makes, receive_operation_turn, receive_merge_turn, turn}
use Rattle.branch_history.proofs.Lists.{position-within, position-found}
use Rattle.branch_history.proofs.Valid.{store_of-more, made_unless}
use Rattle.branch_history.proofs.Histories.{received-operation}
use Rattle.branch_machine.specs.Fixed.{Form, FixedIn}
use Rattle.branch_machine.specs.Objects.{Pair, value_text, commit_text, address_at, fields_of, pairs_of, store_after}
use Rattle.branch_history.specs.Validity.{AreCommits}
use Rattle.branch_machine.specs.Laws.{HasSize}
use Rattle.branch_machine.specs.Machine.{collision_refusal, commit_with, commit_received, pair_next, commit_at, commit_here, unless_made, full_turn}
use Rattle.branch_machine.specs.Validity.{IsFullyValid, IsItem, Receives}
use Rattle.branch_machine.proofs.Distinct.{same-spelled, addresses-same, valid-sound}
use Rattle.branch_machine.proofs.Stored.{same-eq}
use Rattle.branch_machine.proofs.Pairs.{pairs_of-one}
use Rattle.branch_machine.proofs.Valid.{unless_here-makes, unless_made-makes}

-- the commit that is found has the two objects
pub with-found : (pairs : List Pair) (item : Pair) (n : ℕ) → commit_with pairs item ≡ Some n → (n < length pairs) × (value_text pairs n ≡ item.value) × (commit_text pairs n ≡ item.commit)
with-found pairs item n is =
    let within = (position-within (λ (q : Pair). same q.value item.value && same q.commit item.commit) 0 n pairs is).1 in
    let zero_n : n ≡ 0 + n = omega arith in
    let found = position-found (λ (q : Pair). same q.value item.value && same q.commit item.commit) 0 n n pairs is zero_n in
    let q : Pair = found.0 in
    let parts = and_parts (same q.value item.value) (same q.commit item.commit) found.2 in (
      omega (arith, within),
      ap (λ o. option_map_or (λ (p : Pair). p.value) o []) found.1 ∙ same-eq q.value item.value parts.0,
      ap (λ o. option_map_or (λ (p : Pair). p.commit) o []) found.1 ∙ same-eq q.commit item.commit parts.1,
    )

module _ {S O R Q A : Type 0} {form : Form} (fixed : FixedIn form S O R Q A) (moves : List (Move O R)) where
  abbrev s : Store O R
  s = store_after fixed moves

  pub at-found : (item : Pair) (n : ℕ) → commit_at fixed moves item ≡ Some n → let pairs = pairs_of fixed s.commits in (n < length pairs) × (value_text pairs n ≡ item.value) × (commit_text pairs n ≡ item.commit)
  unfolding commit_at
  at-found item n is = with-found (pairs_of fixed s.commits) item n is

  -- the move makes this commit
  abbrev Adds : Commit O R → Move O R → Type 0
  Adds c m = (store_after fixed (moves ++ m ∷ [])).commits ≡ s.commits ++ c ∷ []

  adds-operation : (origin h : ℕ) (op : O) (m : Move O R) → (receive_operation_turn fixed.meaning fixed.terms moves origin h op).made ≡ m ∷ [] → Adds (operation_commit s.commits origin h op (fixed.meaning.reply_of (visible s.commits h) op)) m
  adds-operation origin h op m is =
      let e = event_made fixed.meaning s.commits origin h op in
      let made : Move O R = move.Received (h ∷ []) origin e.time.clock (Some (op, e.reply)) in
      let parts = made_unless {O = O} {R = R} {A = A} (received_operation_refusal fixed.meaning fixed.terms moves origin h op) (makes made (New (length s.commits))) m is in
      let same : made ≡ m = cc parts.1 in
      subst (Adds (operation_commit s.commits origin h op e.reply)) same
      (ap (λ (t : Store O R). t.commits) (store_of-more fixed.terms.origin moves made)
      ∙ ap (λ (c : Commit O R). s.commits ++ c ∷ []) (received-operation fixed.meaning fixed.terms s.commits h origin e.time.clock op e.reply refl))

  adds-merge : (origin : ℕ) (parents : List ℕ) (m : Move O R) → (receive_merge_turn fixed.meaning fixed.terms moves origin parents).made ≡ m ∷ [] → Adds (merge_commit s.commits origin parents) m
  adds-merge origin parents m is =
      let made : Move O R = move.Received parents origin (greatest_clock s.commits parents) None in
      let parts = made_unless {O = O} {R = R} {A = A} (received_merge_refusal fixed.meaning fixed.terms moves origin parents) (makes made (New (length s.commits))) m is in
      let same : made ≡ m = cc parts.1 in
      subst (Adds (merge_commit s.commits origin parents)) same (ap (λ (t : Store O R). t.commits) (store_of-more fixed.terms.origin moves made))

  adds-step : (step : Step O Q) (m : Move O R) (c : Commit O R) → commit_received fixed.meaning s.commits step ≡ Some c → (turn fixed.meaning fixed.terms moves step).made ≡ m ∷ [] → Adds c m
  unfolding turn
  adds-step (Look name) m c received is = absurd (cc)
  adds-step (Fork name from) m c received is = absurd (cc)
  adds-step (Land r h op) m c received is = absurd (cc)
  adds-step (Merge r h ms) m c received is = absurd (cc)
  adds-step (ReceiveOperation origin h op) m c received is = let same : operation_commit s.commits origin h op (fixed.meaning.reply_of (visible s.commits h) op) ≡ c = cc received in subst (λ (c : Commit O R). Adds c m) same (adds-operation origin h op m is)
  adds-step (ReceiveMerge origin h ms) m c received is = let same : merge_commit s.commits origin (h ∷ ms) ≡ c = cc received in subst (λ (c : Commit O R). Adds c m) same (adds-merge origin (h ∷ ms) m is)
  adds-step (Place name n) m c received is = absurd (cc)
  adds-step (Drop r h) m c received is = absurd (cc)
  adds-step (Ask n query) m c received is = absurd (cc)

  -- an item that is received stands behind the objects of the commits
  pub item-stands : (item : Pair) (step : Step O Q) (m : Move O R) → IsItem fixed moves step item → (full_turn fixed moves step).made ≡ m ∷ [] → pairs_of fixed (store_after fixed (moves ++ m ∷ [])).commits ≡ pairs_of fixed s.commits ++ item ∷ []
  unfolding full_turn
  item-stands item step m of made =
      let t = turn fixed.meaning fixed.terms moves step in
      let new = unless_here-makes (unless_made (collision_refusal fixed moves) t.made t) m (commit_here fixed moves step) made in
      let is = unless_made-makes (collision_refusal fixed moves) t m t.made refl new.1 in
      ap (pairs_of fixed) (adds-step step m of.commit of.received is.0) ∙ pairs_of-one fixed s.commits of.commit ∙ ap (λ (p : Pair). pairs_of fixed s.commits ++ p ∷ []) of.objects

  -- no item is without an answer
  pub answered : (item : Pair) → ((t : Turn O R A) → Receives fixed moves item t → ⊥) → ⊥
  answered item none = at (commit_at fixed moves item) refl
    where
      at : (o : Option ℕ) → commit_at fixed moves item ≡ o → ⊥
      at (Some n) is = none (answers (Here n)) (inl (n, is, refl))
      at None is = none (answers (Refused BadBundle)) (inr (inr (is, (λ step of. none (full_turn fixed moves step) (inr (inl (is, step, of, refl)))), refl)))

-- an item tells the step that receives it
module _ {S O R Q A : Type 0} {form : Form} (fixed : FixedIn form S O R Q A) (laws : KeepsLaws fixed.meaning) (size : HasSize fixed.address) (moves : List (Move O R)) (valid : IsFullyValid fixed moves) (item : Pair) (short : HasLength64 item.commit) where
  abbrev at : Store O R
  at = store_after fixed moves

  abbrev pairs : List Pair
  pairs = pairs_of fixed at.commits

  -- the object of a commit that would come next is that of the item
  abbrev IsOf : Commit O R → Type 0
  IsOf c = pair_next fixed moves c ≡ item

  abbrev fields : Commit O R → CommitFields
  fields c = fields_of fixed pairs (pair_next fixed moves c).value c

  objects : (c d : Commit O R) → c.origin < 2 ^ 32 → d.origin < 2 ^ 32 → length c.parents ≤ 9 → length d.parents ≤ 9 → IsOf c → IsOf d
      → (map (address_at fixed.address pairs) c.parents ≡ map (address_at fixed.address pairs) d.parents) × (c.origin ≡ d.origin) × (action_field (fields c).action ≡ action_field (fields d).action)
  objects c d small_c small_d few_c few_d p q =
      let same : (pair_next fixed moves c).commit ≡ (pair_next fixed moves d).commit = ap (λ (x : Pair). x.commit) (p ∙ sym q) in
      let told =
      same-spelled fixed.address size fixed.terms.layout pairs c.parents d.parents c.origin d.origin (pair_next fixed moves c).value (pair_next fixed moves d).value (pair_next fixed moves c).commit (pair_next fixed moves d).commit small_c small_d
      (record { clock = c.clock; action = (fields c).action; is = refl; few = few_c }) (record { clock = d.clock; action = (fields d).action; is = refl; few = few_d }) same in
      (told.0, told.1, told.3)

  -- the spelling of its operation is not too long
  operation-short : (c : Commit O R) (o a : List ℕ) → IsOf c → (fields c).action ≡ wire.Operation o a → HasLength64 o
  operation-short c o a p is =
      let f : CommitFields = fields c in
      let front : List ℕ = counted (λ address. address) f.parents ++ short_number f.branch ++ number f.clock ++ value_field f.value in
      let parts : commit_body f ≡ front ++ 1 ∷ (field o ++ field a) = ap (λ (x : Action). front ++ action_field x) is in
      let whole : length item.commit ≡ length (commit_object f) = ap (λ (x : Pair). length x.commit) (sym p) in
      omega (arith, short, whole, length-field (commit_body f), ap length parts, length-append front (1 ∷ (field o ++ field a)), length-append (field o) (field a), length-field o)

  parents-told : (ns ms : List ℕ) → AreCommits at.commits ns → AreCommits at.commits ms → map (address_at fixed.address pairs) ns ≡ map (address_at fixed.address pairs) ms → ns ≡ ms
  parents-told ns ms p q is =
      let sound = valid-sound fixed laws size moves valid in
      addresses-same fixed.address pairs (length at.commits) (λ j k in_j in_k same. sound.distinct j k in_j in_k (sound.one j k in_j in_k same)) ns ms p q is

  abbrev operation_step : ℕ → ℕ → O → Step O Q
  operation_step origin h op = ReceiveOperation origin h op

  abbrev merge_step : ℕ → ℕ → List ℕ → Step O Q
  merge_step origin h ms = ReceiveMerge origin h ms

  abbrev made_operation : ℕ → ℕ → O → Commit O R
  made_operation origin h op = operation_commit at.commits origin h op (fixed.meaning.reply_of (visible at.commits h) op)

  of-step : (step : Step O Q) (c : Commit O R) → commit_received fixed.meaning at.commits step ≡ Some c → (i : IsItem fixed moves step item) → IsOf c
  of-step step c is i =
      let both : Some c ≡ Some i.commit = sym is ∙ i.received in
      let same : c ≡ i.commit = cc both in
      ap (pair_next fixed moves) same ∙ i.objects

  operations-same : (origin origin' h h' : ℕ) (op op' : O) → IsItem fixed moves (ReceiveOperation origin h op) item → IsItem fixed moves (ReceiveOperation origin' h' op') item → operation_step origin h op ≡ operation_step origin' h' op'
  operations-same origin origin' h h' op op' i j =
      let c : Commit O R = made_operation origin h op in
      let d : Commit O R = made_operation origin' h' op' in
      let p = of-step (ReceiveOperation origin h op) c refl i in
      let q = of-step (ReceiveOperation origin' h' op') d refl j in
      let told = objects c d i.may.0 j.may.0 (omega arith) (omega arith) p q in
      let parents : h ∷ [] ≡ h' ∷ [] = parents-told (h ∷ []) (h' ∷ []) (i.may.1, tt) (j.may.1, tt) told.0 in
      let heads : h ≡ h' = cc parents in
      let o : List ℕ = fixed.meaning.op_spelling op in
      let o' : List ℕ = fixed.meaning.op_spelling op' in
      let a : List ℕ = fixed.meaning.reply_spelling (fixed.meaning.reply_of (visible at.commits h) op) in
      let a' : List ℕ = fixed.meaning.reply_spelling (fixed.meaning.reply_of (visible at.commits h') op') in
      let actions : field o ++ field a ≡ field o' ++ field a' = cc told.2 in
      let texts : o ≡ o' = (one_field.one o o' (field a) (field a') (operation-short c o a p refl) (operation-short d o' a' q refl) actions).0 in
      let same : op ≡ op' = laws.one_op op op' i.may.2 j.may.2 (operation-short c o a p refl) texts in
      ap (λ (k : ℕ). operation_step k h op) told.1 ∙ ap (λ (k : ℕ). operation_step origin' k op) heads ∙ ap (λ (x : O). operation_step origin' h' x) same

  merges-same : (origin origin' h h' : ℕ) (ms ms' : List ℕ) → IsItem fixed moves (ReceiveMerge origin h ms) item → IsItem fixed moves (ReceiveMerge origin' h' ms') item → merge_step origin h ms ≡ merge_step origin' h' ms'
  merges-same origin origin' h h' ms ms' i j =
      let c : Commit O R = merge_commit at.commits origin (h ∷ ms) in
      let d : Commit O R = merge_commit at.commits origin' (h' ∷ ms') in
      let p = of-step (ReceiveMerge origin h ms) c refl i in
      let q = of-step (ReceiveMerge origin' h' ms') d refl j in
      let few = i.may.3.few in
      let less = j.may.3.few in
      let told = objects c d i.may.0 j.may.0 (omega arith) (omega arith) p q in
      let parents : h ∷ ms ≡ h' ∷ ms' = parents-told (h ∷ ms) (h' ∷ ms') (i.may.1, i.may.2) (j.may.1, j.may.2) told.0 in
      let heads : h ≡ h' = cc parents in
      let rest : ms ≡ ms' = cc parents in
      ap (λ (k : ℕ). merge_step k h ms) told.1 ∙ ap (λ (k : ℕ). merge_step origin' k ms) heads ∙ ap (λ (l : List ℕ). merge_step origin' h' l) rest

  unlike : (origin origin' h h' : ℕ) (op : O) (ms : List ℕ) → IsItem fixed moves (ReceiveOperation origin h op) item → IsItem fixed moves (ReceiveMerge origin' h' ms) item → ⊥
  unlike origin origin' h h' op ms i j =
      let c : Commit O R = made_operation origin h op in
      let d : Commit O R = merge_commit at.commits origin' (h' ∷ ms) in
      let few = j.may.3.few in
      let told = objects c d i.may.0 j.may.0 (omega arith) (omega arith) (of-step (ReceiveOperation origin h op) c refl i) (of-step (ReceiveMerge origin' h' ms) d refl j) in
      cc told.2

  none_received : (c : Commit O R) → None ≡ Some c → ⊥
  none_received c is = cc

  pub step-same : (step other : Step O Q) → IsItem fixed moves step item → IsItem fixed moves other item → step ≡ other
  step-same (Look name) other i j = absurd (none_received i.commit i.received)
  step-same (Fork name from) other i j = absurd (none_received i.commit i.received)
  step-same (Land r h op) other i j = absurd (none_received i.commit i.received)
  step-same (Merge r h ms) other i j = absurd (none_received i.commit i.received)
  step-same (Place name n) other i j = absurd (none_received i.commit i.received)
  step-same (Drop r h) other i j = absurd (none_received i.commit i.received)
  step-same (Ask n query) other i j = absurd (none_received i.commit i.received)
  step-same (ReceiveOperation origin h op) (ReceiveOperation origin' h' op') i j = operations-same origin origin' h h' op op' i j
  step-same (ReceiveMerge origin h ms) (ReceiveMerge origin' h' ms') i j = merges-same origin origin' h h' ms ms' i j
  step-same (ReceiveOperation origin h op) (ReceiveMerge origin' h' ms) i j = absurd (unlike origin origin' h h' op ms i j)
  step-same (ReceiveMerge origin h ms) (ReceiveOperation origin' h' op) i j = absurd (unlike origin' origin h' h op ms j i)
  step-same step other i j = absurd (none_received j.commit j.received)

  none_some : (n : ℕ) → commit_at fixed moves item ≡ Some n → commit_at fixed moves item ≡ None → ⊥
  none_some n is none = let e : Some n ≡ None = sym is ∙ none in cc e

  -- an item is answered in one way
  pub answered-once : (t u : Turn O R A) → Receives fixed moves item t → Receives fixed moves item u → t ≡ u
  answered-once t u (inl (n, is, p)) (inl (k, also, q)) =
      let both : Some n ≡ Some k = sym is ∙ also in
      let same : n ≡ k = cc both in
      p ∙ ap (λ (j : ℕ). answers (Here j)) same ∙ sym q
  answered-once t u (inl (n, is, p)) (inr (inl (none, step, of, q))) = absurd (none_some n is none)
  answered-once t u (inl (n, is, p)) (inr (inr (none, without, q))) = absurd (none_some n is none)
  answered-once t u (inr (inl (none, step, of, p))) (inl (n, is, q)) = absurd (none_some n is none)
  answered-once t u (inr (inr (none, without, p))) (inl (n, is, q)) = absurd (none_some n is none)
  answered-once t u (inr (inl (none, step, of, p))) (inr (inl (also, other, of_other, q))) = p ∙ ap (full_turn fixed moves) (step-same step other of of_other) ∙ sym q
  answered-once t u (inr (inl (none, step, of, p))) (inr (inr (also, without, q))) = absurd (without step of)
  answered-once t u (inr (inr (none, without, p))) (inr (inl (also, step, of, q))) = absurd (without step of)
  answered-once t u (inr (inr (none, without, p))) (inr (inr (also, without', q))) = p ∙ sym q
