-- The steps that the fields of a commit's object ask for.
use Rattle.std.proofs.Common.{◌≡◌, ℕ, ◌+◌, ◌<◌, ◌≤◌, ◌^◌, List, [], ◌∷◌, ◌++◌, length, map, refl, ap, sym, ◌∙◌, arith, subst, append-nil, length-append, Some, None, Err, IsErrOf}
use Rattle.std.specs.List.{AllByRecursion}
use Rattle.mrdt_model.specs.Laws.{KeepsLaws}
use Rattle.branch_wire.specs.Fields.{short_number, number, field, counted}
use Rattle.branch_wire.specs.Reading.{HasLength64}
use Rattle.branch_wire.specs.Objects.{CommitFields, action_field, value_field, commit_body, commit_kind, commit_object, HasParents}
use Rattle.branch_wire.specs.declared.action.Action.{Action}
use Rattle.branch_wire.specs.declared.action.Action.TheVariants as wire
use Rattle.branch_wire.proofs.Numbers.{same_parts, length-number, length-field}
use Rattle.branch_objects_codec.specs.Grammar.{IsCommit}
use Rattle.branch_objects_codec.proofs.Body.{same_commit}
use Rattle.branch_history.specs.declared.moves.Move.{Move}
use Rattle.branch_history.specs.Commits.{Commit, visible}
use Rattle.branch_history.specs.History.{Store, operation_commit, merge_commit}
use Rattle.branch_history.specs.Steps.{Step, Look, Fork, Land, Merge, ReceiveOperation, ReceiveMerge, Place, Drop, Ask}
use Rattle.branch_history.specs.Validity.{IsStep, AreCommits}
use Rattle.branch_machine.specs.Fixed.{Fixed}
use Rattle.branch_machine.specs.Objects.{Pair, address_at, fields_of, pairs_of, store_after}
use Rattle.branch_machine.specs.Machine.{commit_received, pair_next}
use Rattle.branch_machine.specs.Laws.{HasSize}
use Rattle.branch_machine.specs.Validity.{IsFullyValid, IsItem}
use Rattle.branch_machine.proofs.Distinct.{all-sized, few-sized, addresses-same, valid-sound}
use Rattle.recorded_history.specs.Asks.{HaveAddresses, Asks, IsAsked}
use Rattle.recorded_history.proofs.Layouts.{kept-sized}

-- a refusal handed on is the same
pub same-error : {X Y E : Type 0} (e k : E) → IsErrOf {T = X} (Err e) k → IsErrOf {T = Y} (Err e) k
same-error e k is = let same : e ≡ k = cc is in ap Err same

-- equal objects of commits are of equal fields
pub same-object : (c d : CommitFields) → IsCommit c → IsCommit d → commit_object c ≡ commit_object d → c ≡ d
same-object c d p q is =
    let inner : field (commit_body c) ≡ field (commit_body d) = cc is in
    let bodies = (same_parts (number (length (commit_body c))) (commit_body c) (number (length (commit_body d))) (commit_body d) (length-number (length (commit_body c)) ∙ sym (length-number (length (commit_body d)))) inner).1 in
    let kinds : commit_kind c.value ≡ commit_kind d.value = cc is in
    (same_commit c d [] [] p q kinds (append-nil (commit_body c) ∙ bodies ∙ sym (append-nil (commit_body d)))).0

-- a body is as short as one of an equal object
short-as : (c d : CommitFields) → HasLength64 (commit_body d) → commit_object c ≡ commit_object d → HasLength64 (commit_body c)
short-as c d short is = omega (arith, short, ap length is, length-field (commit_body c), length-field (commit_body d))

-- the spelling of its operation is not too long
pub operation-short : (f : CommitFields) (o a : List ℕ) → HasLength64 (commit_body f) → f.action ≡ wire.Operation o a → HasLength64 o
operation-short f o a short is =
    let front : List ℕ = counted (λ address. address) f.parents ++ short_number f.branch ++ number f.clock ++ value_field f.value in
    let parts : commit_body f ≡ front ++ 1 ∷ (field o ++ field a) = ap (λ (x : Action). front ++ action_field x) is in
    omega (arith, short, ap length parts, length-append front (1 ∷ (field o ++ field a)), length-append (field o) (field a), length-field o, length-field a)

module _ {S O R Q A : Type 0} (fixed : Fixed S O R Q A) (laws : KeepsLaws fixed.meaning) (size : HasSize fixed.address) (history : List (Move O R)) (valid : IsFullyValid fixed history) where
  abbrev s : Store O R
  s = store_after fixed history

  abbrev pairs : List Pair
  pairs = pairs_of fixed s.commits

  -- the fields of a commit that would come next
  abbrev pub fields : Commit O R → CommitFields
  fields c = fields_of fixed pairs (pair_next fixed history c).value c

  pub parents-told : (ns ms : List ℕ) → AreCommits s.commits ns → AreCommits s.commits ms → map (address_at fixed.address pairs) ns ≡ map (address_at fixed.address pairs) ms → ns ≡ ms
  parents-told ns ms p q is =
      let sound = valid-sound fixed laws size history valid in
      addresses-same fixed.address pairs (length s.commits) (λ j k in_j in_k same. sound.distinct j k in_j in_k (sound.one j k in_j in_k same)) ns ms p q is

  -- commits that have the same addresses are the same
  pub have-same : (addresses : List (List ℕ)) (ns ms : List ℕ) → HaveAddresses fixed history addresses ns → HaveAddresses fixed history addresses ms → ns ≡ ms
  have-same addresses ns ms p q = parents-told ns ms p.there q.there (p.addressed ∙ sym q.addressed)

  abbrev pub made_operation : ℕ → ℕ → O → Commit O R
  made_operation origin h op = operation_commit s.commits origin h op (fixed.meaning.reply_of (visible s.commits h) op)

  -- the commit that a step receives of an item has its objects
  pub of-step : (item : Pair) (step : Step O Q) (c : Commit O R) → commit_received fixed.meaning s.commits step ≡ Some c → (i : IsItem fixed history step item) → pair_next fixed history c ≡ item
  of-step item step c is i =
      let both : Some c ≡ Some i.commit = sym is ∙ i.received in
      let same : c ≡ i.commit = cc both in
      ap (pair_next fixed history) same ∙ i.objects

  clock-of-step : (item : Pair) (step : Step O Q) (c : Commit O R) → commit_received fixed.meaning s.commits step ≡ Some c → (i : IsItem fixed history step item) → c.clock < 2 ^ 64
  clock-of-step item step c is i =
      let both : Some c ≡ Some i.commit = sym is ∙ i.received in
      let same : c ≡ i.commit = cc both in
      subst (λ (d : Commit O R). d.clock < 2 ^ 64) (sym same) i.clock

  none_received : (c : Commit O R) → None ≡ Some c → ⊥
  none_received c is = cc

  -- a commit that would come next, whose object is not too long, is one of the grammar
  next-commit : (item : Pair) (step : Step O Q) (c : Commit O R) → commit_received fixed.meaning s.commits step ≡ Some c → c.origin < 2 ^ 32 → HasParents (fields c).action (length c.parents) → HasLength64 (commit_body (fields c)) → IsItem fixed history step item → IsCommit (fields c)
  next-commit item step c is small count short i = record {
    count = subst (HasParents (fields c).action) (sym (few-sized fixed.address size pairs c.parents)) count;
    addresses = all-sized fixed.address size pairs c.parents;
    branch = small;
    clock = clock-of-step item step c is i;
    value = kept-sized fixed.terms.layout (fixed.address (pair_next fixed history c).value) (size (pair_next fixed history c).value);
    short = short;
  }

  -- bytes that are no commit's object are in no item
  module _ (value commit : List ℕ) (short : HasLength64 commit) (none : (c : CommitFields) → IsCommit c → commit ≡ commit_object c → ⊥) where
    abbrev lone : Pair
    lone = record { value = value; commit = commit }

    no-item : (step : Step O Q) (c : Commit O R) → commit_received fixed.meaning s.commits step ≡ Some c → c.origin < 2 ^ 32 → HasParents (fields c).action (length c.parents) → IsItem fixed history step lone → ⊥
    no-item step c is small count i =
        let object : commit_object (fields c) ≡ commit = ap (λ (p : Pair). p.commit) (of-step lone step c is i) in
        none (fields c) (next-commit lone step c is small count (omega (arith, short, ap length object, length-field (commit_body (fields c)))) i) (sym object)

    pub unread-none : (step : Step O Q) → IsItem fixed history step lone → ⊥
    unread-none (Look name) i = none_received i.commit i.received
    unread-none (Fork name from) i = none_received i.commit i.received
    unread-none (Land r h op) i = none_received i.commit i.received
    unread-none (Merge r h ms) i = none_received i.commit i.received
    unread-none (ReceiveOperation origin h op) i = no-item (ReceiveOperation origin h op) (made_operation origin h op) refl i.may.0 refl i
    unread-none (ReceiveMerge origin h ms) i =
        let some = i.may.3.some in
        let few = i.may.3.few in
        no-item (ReceiveMerge origin h ms) (merge_commit s.commits origin (h ∷ ms)) refl i.may.0 (omega arith, omega arith) i
    unread-none (Place name n) i = none_received i.commit i.received
    unread-none (Drop r h) i = none_received i.commit i.received
    unread-none (Ask n query) i = none_received i.commit i.received

  -- an item with the object of a commit of these fields
  module _ (item : Pair) (f : CommitFields) (known : IsCommit f) (spelled : item.commit ≡ commit_object f) where
    -- its fields are these
    told : (step : Step O Q) (c : Commit O R) → commit_received fixed.meaning s.commits step ≡ Some c → c.origin < 2 ^ 32 → HasParents (fields c).action (length c.parents) → IsItem fixed history step item → fields c ≡ f
    told step c is small count i =
        let object : commit_object (fields c) ≡ commit_object f = ap (λ (p : Pair). p.commit) (of-step item step c is i) ∙ spelled in
        same-object (fields c) f (next-commit item step c is small count (short-as (fields c) f known.short object) i) known object

    pub told-operation : (origin h : ℕ) (op : O) → IsItem fixed history (ReceiveOperation origin h op) item → fields (made_operation origin h op) ≡ f
    told-operation origin h op i = told (ReceiveOperation origin h op) (made_operation origin h op) refl i.may.0 refl i

    pub told-merge : (origin h : ℕ) (ms : List ℕ) → IsItem fixed history (ReceiveMerge origin h ms) item → fields (merge_commit s.commits origin (h ∷ ms)) ≡ f
    told-merge origin h ms i =
        let some = i.may.3.some in
        let few = i.may.3.few in
        told (ReceiveMerge origin h ms) (merge_commit s.commits origin (h ∷ ms)) refl i.may.0 (omega arith, omega arith) i

    -- the step that receives it is asked for
    pub item-asked : (step : Step O Q) → IsItem fixed history step item → IsAsked fixed history f step
    item-asked (Look name) i = absurd (none_received i.commit i.received)
    item-asked (Fork name from) i = absurd (none_received i.commit i.received)
    item-asked (Land r h op) i = absurd (none_received i.commit i.received)
    item-asked (Merge r h ms) i = absurd (none_received i.commit i.received)
    item-asked (ReceiveOperation origin h op) i =
        let is = told-operation origin h op i in
        record {
          asks = (
            record { there = (i.may.1, tt); addressed = ap (λ (c : CommitFields). c.parents) is },
            ap (λ (c : CommitFields). c.branch) (sym is),
            fixed.meaning.reply_spelling (fixed.meaning.reply_of (visible s.commits h) op),
            ap (λ (c : CommitFields). c.action) (sym is),
          );
          may = i.may;
        }
    item-asked (ReceiveMerge origin h ms) i =
        let is = told-merge origin h ms i in
        record {
          asks = (
            record { there = (i.may.1, i.may.2); addressed = ap (λ (c : CommitFields). c.parents) is },
            ap (λ (c : CommitFields). c.branch) (sym is),
            ap (λ (c : CommitFields). c.action) (sym is),
          );
          may = i.may;
        }
    item-asked (Place name n) i = absurd (none_received i.commit i.received)
    item-asked (Drop r h) i = absurd (none_received i.commit i.received)
    item-asked (Ask n query) i = absurd (none_received i.commit i.received)

  -- what these fields ask for is one step
  module _ (f : CommitFields) (short : HasLength64 (commit_body f)) where
    operations-same : (origin origin' h h' : ℕ) (op op' : O) → IsAsked fixed history f (ReceiveOperation origin h op) → IsAsked fixed history f (ReceiveOperation origin' h' op') → (let step : Step O Q = ReceiveOperation origin h op in step) ≡ ReceiveOperation origin' h' op'
    operations-same origin origin' h h' op op' p q = at p.asks q.asks p.may q.may
      where
        at : Asks fixed history f (ReceiveOperation origin h op) → Asks fixed history f (ReceiveOperation origin' h' op') → IsStep {Q = Q} fixed.meaning s (ReceiveOperation origin h op) → IsStep {Q = Q} fixed.meaning s (ReceiveOperation origin' h' op') → (let step : Step O Q = ReceiveOperation origin h op in step) ≡ ReceiveOperation origin' h' op'
        at (a, o, reply, does) (a', o', reply', does') may may' =
            let parents : h ∷ [] ≡ h' ∷ [] = have-same f.parents (h ∷ []) (h' ∷ []) a a' in
            let heads : h ≡ h' = cc parents in
            let origins : origin ≡ origin' = sym o ∙ o' in
            let x : List ℕ = fixed.meaning.op_spelling op in
            let x' : List ℕ = fixed.meaning.op_spelling op' in
            let actions : wire.Operation x reply ≡ wire.Operation x' reply' = sym does ∙ does' in
            let texts : x ≡ x' = cc actions in
            let same : op ≡ op' = laws.one_op op op' may.2 may'.2 (operation-short f x reply short does) texts in
            ap (λ (k : ℕ). let step : Step O Q = ReceiveOperation k h op in step) origins ∙ ap (λ (k : ℕ). let step : Step O Q = ReceiveOperation origin' k op in step) heads ∙ ap (λ (y : O). let step : Step O Q = ReceiveOperation origin' h' y in step) same

    merges-same : (origin origin' h h' : ℕ) (ms ms' : List ℕ) → IsAsked fixed history f (ReceiveMerge origin h ms) → IsAsked fixed history f (ReceiveMerge origin' h' ms') → (let step : Step O Q = ReceiveMerge origin h ms in step) ≡ ReceiveMerge origin' h' ms'
    merges-same origin origin' h h' ms ms' p q = at p.asks q.asks
      where
        at : Asks fixed history f (ReceiveMerge origin h ms) → Asks fixed history f (ReceiveMerge origin' h' ms') → (let step : Step O Q = ReceiveMerge origin h ms in step) ≡ ReceiveMerge origin' h' ms'
        at (a, o, does) (a', o', does') =
            let parents : h ∷ ms ≡ h' ∷ ms' = have-same f.parents (h ∷ ms) (h' ∷ ms') a a' in
            let heads : h ≡ h' = cc parents in
            let rest : ms ≡ ms' = cc parents in
            let origins : origin ≡ origin' = sym o ∙ o' in
            ap (λ (k : ℕ). let step : Step O Q = ReceiveMerge k h ms in step) origins ∙ ap (λ (k : ℕ). let step : Step O Q = ReceiveMerge origin' k ms in step) heads ∙ ap (λ (l : List ℕ). let step : Step O Q = ReceiveMerge origin' h' l in step) rest

    unlike : (origin origin' h h' : ℕ) (op : O) (ms : List ℕ) → Asks fixed history f (ReceiveOperation origin h op) → Asks fixed history f (ReceiveMerge origin' h' ms) → ⊥
    unlike origin origin' h h' op ms (a, o, reply, does) (a', o', does') =
        let actions : wire.Operation (fixed.meaning.op_spelling op) reply ≡ wire.Merge = sym does ∙ does' in
        cc actions

    pub asked-same : (step other : Step O Q) → IsAsked fixed history f step → IsAsked fixed history f other → step ≡ other
    asked-same (Look name) other p q = absurd p.asks
    asked-same (Fork name from) other p q = absurd p.asks
    asked-same (Land r h op) other p q = absurd p.asks
    asked-same (Merge r h ms) other p q = absurd p.asks
    asked-same (Place name n) other p q = absurd p.asks
    asked-same (Drop r h) other p q = absurd p.asks
    asked-same (Ask n query) other p q = absurd p.asks
    asked-same (ReceiveOperation origin h op) (ReceiveOperation origin' h' op') p q = operations-same origin origin' h h' op op' p q
    asked-same (ReceiveMerge origin h ms) (ReceiveMerge origin' h' ms') p q = merges-same origin origin' h h' ms ms' p q
    asked-same (ReceiveOperation origin h op) (ReceiveMerge origin' h' ms) p q = absurd (unlike origin origin' h h' op ms p.asks q.asks)
    asked-same (ReceiveMerge origin h ms) (ReceiveOperation origin' h' op) p q = absurd (unlike origin' origin h' h op ms q.asks p.asks)
    asked-same step other p q = absurd q.asks

  -- Why nothing is asked for:
  module _ (f : CommitFields) where
    -- the parents are not here
    pub none-parents : ((commits : List ℕ) → HaveAddresses fixed history f.parents commits → ⊥) → (step : Step O Q) → IsAsked fixed history f step → ⊥
    none-parents none (Look name) p = p.asks
    none-parents none (Fork name from) p = p.asks
    none-parents none (Land r h op) p = p.asks
    none-parents none (Merge r h ms) p = p.asks
    none-parents none (ReceiveOperation origin h op) p = none (h ∷ []) p.asks.0
    none-parents none (ReceiveMerge origin h ms) p = none (h ∷ ms) p.asks.0
    none-parents none (Place name n) p = p.asks
    none-parents none (Drop r h) p = p.asks
    none-parents none (Ask n query) p = p.asks

    -- it does what only the first commit does
    pub none-root : f.action ≡ wire.Root → (step : Step O Q) → IsAsked fixed history f step → ⊥
    none-root is (Look name) p = p.asks
    none-root is (Fork name from) p = p.asks
    none-root is (Land r h op) p = p.asks
    none-root is (Merge r h ms) p = p.asks
    none-root is (ReceiveOperation origin h op) p = let e : wire.Operation (fixed.meaning.op_spelling op) p.asks.2 ≡ wire.Root = sym p.asks.3 ∙ is in cc e
    none-root is (ReceiveMerge origin h ms) p = let e : wire.Merge ≡ wire.Root = sym p.asks.2 ∙ is in cc e
    none-root is (Place name n) p = p.asks
    none-root is (Drop r h) p = p.asks
    none-root is (Ask n query) p = p.asks

    -- its operation is none of the type
    pub none-op : (text reply : List ℕ) → HasLength64 (commit_body f) → f.action ≡ wire.Operation text reply → ¬ fixed.meaning.is_op_spelling text → (step : Step O Q) → IsAsked fixed history f step → ⊥
    none-op text reply short is none (Look name) p = p.asks
    none-op text reply short is none (Fork name from) p = p.asks
    none-op text reply short is none (Land r h op) p = p.asks
    none-op text reply short is none (Merge r h ms) p = p.asks
    none-op text reply short is none (ReceiveOperation origin h op) p =
        let e : wire.Operation (fixed.meaning.op_spelling op) p.asks.2 ≡ wire.Operation text reply = sym p.asks.3 ∙ is in
        let texts : fixed.meaning.op_spelling op ≡ text = cc e in
        none (subst fixed.meaning.is_op_spelling texts (laws.op_inside op p.may.2 (operation-short f (fixed.meaning.op_spelling op) p.asks.2 short p.asks.3)))
    none-op text reply short is none (ReceiveMerge origin h ms) p = let e : wire.Merge ≡ wire.Operation text reply = sym p.asks.2 ∙ is in cc e
    none-op text reply short is none (Place name n) p = p.asks
    none-op text reply short is none (Drop r h) p = p.asks
    none-op text reply short is none (Ask n query) p = p.asks

    -- it merges commits that are not apart
    pub none-apart : (head : ℕ) (others : List ℕ) → HaveAddresses fixed history f.parents (head ∷ others) → f.action ≡ wire.Merge → ¬ IsStep fixed.meaning s (let step : Step O Q = ReceiveMerge f.branch head others in step) → (step : Step O Q) → IsAsked fixed history f step → ⊥
    none-apart head others have is none (Look name) p = p.asks
    none-apart head others have is none (Fork name from) p = p.asks
    none-apart head others have is none (Land r h op) p = p.asks
    none-apart head others have is none (Merge r h ms) p = p.asks
    none-apart head others have is none (ReceiveOperation origin h op) p = let e : wire.Operation (fixed.meaning.op_spelling op) p.asks.2 ≡ wire.Merge = sym p.asks.3 ∙ is in cc e
    none-apart head others have is none (ReceiveMerge origin h ms) p =
        let parents : h ∷ ms ≡ head ∷ others = have-same f.parents (h ∷ ms) (head ∷ others) p.asks.0 have in
        let heads : h ≡ head = cc parents in
        let rest : ms ≡ others = cc parents in
        none
        (subst (λ (l : List ℕ). IsStep fixed.meaning s (let step : Step O Q = ReceiveMerge f.branch head l in step)) rest
        (subst (λ (k : ℕ). IsStep fixed.meaning s (let step : Step O Q = ReceiveMerge f.branch k ms in step)) heads
        (subst (λ (k : ℕ). IsStep fixed.meaning s (let step : Step O Q = ReceiveMerge k h ms in step)) (sym p.asks.1) p.may)))
    none-apart head others have is none (Place name n) p = p.asks
    none-apart head others have is none (Drop r h) p = p.asks
    none-apart head others have is none (Ask n query) p = p.asks
