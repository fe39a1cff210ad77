-- The objects of a valid history are not too long for a file.
use Rattle.std.proofs.Common.{append-nil, ◌≡◌, ℕ, ◌+◌, ◌*◌, ◌<◌, ◌≤◌, ◌^◌, Bool, true, false, List, [], ◌∷◌, ◌++◌, length, refl, sym, ◌∙◌, ap, arith, length-append, map, Option, None, Some, cond, codes}
use Rattle.std.specs.Prelude.{nat_lt, nat_le}
use Rattle.std.specs.List.{flat_map, concat, list_any}
use Rattle.std.proofs.lemmas.Bool.{ltb-false}
use Rattle.std.proofs.lemmas.List.Folds.{concat-append}
use Rattle.mrdt_model.specs.Executions.{Event}
use Rattle.mrdt_model.specs.Laws.{KeepsLaws}
use Rattle.branch_wire.specs.Fields.{number, short_number, field}
use Rattle.branch_wire.specs.Objects.{action_field, value_field, CommitFields, commit_body, commit_object}
use Rattle.branch_wire.specs.StoredObjects.{Stored, header_of, file_in, same, fresh}
use Rattle.branch_wire.proofs.Numbers.{length-number, length-short_number, length-field}
use Rattle.branch_graph.specs.Graph.{reaches}
use Rattle.branch_history.specs.declared.moves.Move.{Move}
use Rattle.branch_history.specs.declared.moves.Move.TheVariants as move
use Rattle.branch_names.specs.Heads.{head_of}
use Rattle.branch_history.specs.Commits.{Commit, clock_of, visible, visible_at_all}
use Rattle.branch_history.specs.History.{Store, store_of, after_move, operation_commit, operation_event, merge_commit, received_commit}
use Rattle.branch_history.specs.Validity.{AreCommits}
use Rattle.branch_history.specs.Steps.{Exhausted, ValueTooLarge}
use Rattle.branch_history.specs.Machine.{refusal_if, event_made, event_length, operation_refusal, merge_refusal}
use Rattle.branch_history.proofs.Valid.{refusal_if-none, store_of-more, IsAccepted, IsAccepted-from, IsReceived, received_operation-tells, received_merge-tells}
use Rattle.branch_history.proofs.Kept.{IsKept}
use Rattle.branch_history.proofs.Histories.{valid-kept, received-operation, received-merge}
use Rattle.branch_history.proofs.Grown.{visible-new, visible_at_all-one}
use Rattle.branch_machine.specs.Fixed.{Form, FixedIn}
use Rattle.branch_machine.specs.Objects.{Pair, both, commit_text, address_at, store_after, action_of, fields_of, pair_at, pairs_of, objects_of, objects_text, new_objects}
use Rattle.branch_machine.specs.Laws.{HasSize}
use Rattle.branch_machine.specs.Validity.{IsFullyValid}
use Rattle.branch_machine.proofs.Valid.{by_moves, full_move-is, valid-before}
use Rattle.branch_machine.proofs.Pairs.{new-pair, pairs_of-one, objects-more}
use Rattle.branch_machine.proofs.Both.{kept_address-most, kept_value-most, length-both}
use Rattle.branch_machine.proofs.Distinct.{no-objects}

length-file : (version : ℕ) (stored more : Stored) → length (file_in version (stored ++ more)) ≡ length (file_in version stored) + length (concat more)
length-file version stored more =
    omega (arith, length-append (header_of version) (concat (stored ++ more)), length-append (header_of version) (concat stored), ap length (concat-append stored more), length-append (concat stored) (concat more))

-- what is added is no longer than the list
fresh-shorter : (stored xs : Stored) → length (concat (fresh stored xs)) ≤ length (concat xs)
fresh-shorter stored [] = omega arith
fresh-shorter stored (x ∷ xs) = at (fresh-shorter stored xs) (fresh-shorter (stored ++ x ∷ []) xs) (list_any (same x) stored)
  where
    at : length (concat (fresh stored xs)) ≤ length (concat xs) → length (concat (fresh (stored ++ x ∷ []) xs)) ≤ length (concat xs) → (b : Bool) → length (concat (cond b (fresh stored xs) (x ∷ fresh (stored ++ x ∷ []) xs))) ≤ length (x ++ concat xs)
    at kept added true = omega (arith, kept, length-append x (concat xs))
    at kept added false = omega (arith, added, length-append x (concat xs), length-append x (concat (fresh (stored ++ x ∷ []) xs)))

module _ {S O R Q A : Type 0} {form : Form} (fixed : FixedIn form S O R Q A) where
  -- no refusal for a value that is too large
  operation-size : (commits : List (Commit O R)) (origin h : ℕ) (op : O) → operation_refusal fixed.meaning fixed.terms.limits commits origin h op ≡ None → event_length fixed.meaning (event_made fixed.meaning commits origin h op) (visible commits h) ≤ fixed.terms.limits.value
  unfolding operation_refusal
  operation-size commits origin h op is =
      let clock : ℕ = clock_of commits h in
      let size : ℕ = event_length fixed.meaning (event_made fixed.meaning commits origin h op) (visible commits h) in
      let first = refusal_if-none (nat_le fixed.terms.limits.clock clock) (Exhausted clock) (refusal_if (nat_lt fixed.terms.limits.value size) (ValueTooLarge size) None) is in
      ltb-false fixed.terms.limits.value size (refusal_if-none (nat_lt fixed.terms.limits.value size) (ValueTooLarge size) None first.1).0

  merge-size : (commits : List (Commit O R)) (parents : List ℕ) → merge_refusal fixed.meaning fixed.terms.limits commits parents ≡ None → length (fixed.meaning.spelling_of (visible_at_all commits parents)) ≤ fixed.terms.limits.value
  unfolding merge_refusal
  merge-size commits parents is =
      let size : ℕ = length (fixed.meaning.spelling_of (visible_at_all commits parents)) in
      ltb-false fixed.terms.limits.value size (refusal_if-none (nat_lt fixed.terms.limits.value size) (ValueTooLarge size) None is).0

  module _ (size : HasSize fixed.address) where
    length-addresses : (pairs : List Pair) (ns : List ℕ) → length (flat_map (λ (address : List ℕ). address) (map (address_at fixed.address pairs) ns)) ≡ 32 * length ns
    length-addresses pairs [] = refl
    length-addresses pairs (n ∷ ns) =
        omega (
          arith,
          length-append (address_at fixed.address pairs n) (flat_map (λ (address : List ℕ). address) (map (address_at fixed.address pairs) ns)),
          size (commit_text pairs n),
          length-addresses pairs ns,
        )

    length-commit : (pairs : List Pair) (value : List ℕ) (c : Commit O R) → length (commit_object (fields_of fixed pairs value c)) ≤ 61 + 32 * length c.parents + length (action_field (action_of fixed c.parents c.event))
    length-commit pairs value c =
        let f : CommitFields = fields_of fixed pairs value c in
        let a : List ℕ = number (length f.parents) in
        let b : List ℕ = flat_map (λ (address : List ℕ). address) f.parents in
        omega (
          arith,
          length-field (commit_body f),
          length-append (a ++ b ++ short_number f.branch ++ number f.clock ++ value_field f.value) (action_field f.action),
          length-append (a ++ b ++ short_number f.branch ++ number f.clock) (value_field f.value),
          length-append (a ++ b ++ short_number f.branch) (number f.clock),
          length-append (a ++ b) (short_number f.branch),
          length-append a b,
          length-number (length f.parents),
          length-addresses pairs c.parents,
          length-short_number f.branch,
          length-number f.clock,
          kept_address-most fixed.terms.layout (fixed.address value) (size value),
        )

    -- no more than so many bytes for each commit
    abbrev IsShort : List (Move O R) → Type 0
    IsShort moves = length (objects_text fixed moves) ≤ 4294967600 + 1073742400 * length (store_after fixed moves).commits

    module _ (laws : KeepsLaws fixed.meaning) (moves : List (Move O R)) (kept : IsKept fixed.meaning fixed.terms (store_after fixed moves)) where
      abbrev s : Store O R
      s = store_after fixed moves

      length-more : (m : Move O R) → length (objects_text fixed (moves ++ m ∷ [])) ≤ length (objects_text fixed moves) + length (concat (new_objects fixed moves m))
      length-more m =
          let stored : Stored = objects_of fixed moves in
          let new : Stored = new_objects fixed moves m in
          omega (arith, ap (λ (x : Stored). length (file_in form.version x)) (objects-more fixed moves m), length-file form.version stored (fresh stored new), fresh-shorter stored new)

      same-short : (m : Move O R) → (store_after fixed (moves ++ m ∷ [])).commits ≡ s.commits → IsShort moves → IsShort (moves ++ m ∷ [])
      same-short m unmoved is = omega (arith, is, length-more m, ap (λ (x : Stored). length (concat x)) (no-objects fixed moves m unmoved), ap length unmoved)

      commit-short : (m : Move O R) (c : Commit O R) → (store_after fixed (moves ++ m ∷ [])).commits ≡ s.commits ++ c ∷ []
          → length (fixed.meaning.spelling_of (visible (s.commits ++ c ∷ []) (length s.commits))) + 32 * length c.parents + length (action_field (action_of fixed c.parents c.event)) ≤ 1073741824 + 400 → IsShort moves → IsShort (moves ++ m ∷ [])
      commit-short m c grown bound is =
          let pairs : List Pair = pairs_of fixed s.commits in
          let p : Pair = pair_at fixed s.commits pairs c in
          let objects = new-pair fixed moves m s.commits (store_after fixed (moves ++ m ∷ [])).commits p refl refl (ap (pairs_of fixed) grown ∙ pairs_of-one fixed s.commits c) in
          omega (
            arith,
            is,
            bound,
            length-more m,
            ap (λ (x : Stored). length (concat x)) objects,
            length-both p,
            kept_value-most fixed.terms.layout (fixed.meaning.spelling_of (visible (s.commits ++ c ∷ []) (length s.commits))),
            length-commit pairs p.value c,
            ap length grown,
            length-append s.commits (c ∷ []),
          )

      commits-after : (m : Move O R) → (store_after fixed (moves ++ m ∷ [])).commits ≡ (after_move fixed.terms.origin s m).commits
      commits-after m = ap (λ (t : Store O R). t.commits) (store_of-more fixed.terms.origin moves m)

      -- the commit of an operation of any origin
      operation-short : (m : Move O R) (origin h : ℕ) (op : O) (reply : R) → (store_after fixed (moves ++ m ∷ [])).commits ≡ s.commits ++ operation_commit s.commits origin h op reply ∷ [] → h < length s.commits → reply ≡ fixed.meaning.reply_of (visible s.commits h) op
          → operation_refusal fixed.meaning fixed.terms.limits s.commits origin h op ≡ None → IsShort moves → IsShort (moves ++ m ∷ [])
      operation-short m origin h op reply grown stands replies prepared holds =
          let c : Commit O R = operation_commit s.commits origin h op reply in
          let o : List ℕ = fixed.meaning.op_spelling op in
          let a : List ℕ = fixed.meaning.reply_spelling reply in
          let seen : visible (s.commits ++ c ∷ []) (length s.commits) ≡ operation_event s.commits origin h op reply ∷ visible s.commits h =
          visible-new s.commits c kept.ordered.ranked (stands, tt) ∙ ap (λ (x : List (Event O R)). operation_event s.commits origin h op reply ∷ x) (visible_at_all-one s.commits h) in
          let few = operation-size s.commits origin h op prepared in
          let made = ap (λ (x : R). event_length fixed.meaning (operation_event s.commits origin h op x) (visible s.commits h)) replies in
          let most = fixed.terms.limits.in_range.value_high in
          commit-short m c grown
          (omega (arith, few, made, most, ap (λ (x : List (Event O R)). length (fixed.meaning.spelling_of x)) seen, length-append (field o) (field a), length-field o, length-field a)) holds

      -- the commit of a merge of any origin, of nine parents at most
      merge-short : (m : Move O R) (origin p : ℕ) (ps : List ℕ) → (store_after fixed (moves ++ m ∷ [])).commits ≡ s.commits ++ merge_commit s.commits origin (p ∷ ps) ∷ [] → AreCommits s.commits (p ∷ ps) → length ps ≤ 8
          → merge_refusal fixed.meaning fixed.terms.limits s.commits (p ∷ ps) ≡ None → IsShort moves → IsShort (moves ++ m ∷ [])
      merge-short m origin p ps grown stand few prepared holds =
          let c : Commit O R = merge_commit s.commits origin (p ∷ ps) in
          let seen : visible (s.commits ++ c ∷ []) (length s.commits) ≡ visible_at_all s.commits (p ∷ ps) = visible-new s.commits c kept.ordered.ranked stand in
          let size = merge-size s.commits (p ∷ ps) prepared in
          let most = fixed.terms.limits.in_range.value_high in
          commit-short m c grown (omega (arith, few, size, most, ap (λ (x : List (Event O R)). length (fixed.meaning.spelling_of x)) seen)) holds

      received-short : (parents : List ℕ) (origin clock : ℕ) (act : Option (O × R)) → IsReceived fixed.meaning fixed.terms moves parents origin clock act → IsShort moves → IsShort (moves ++ move.Received parents origin clock act ∷ [])
      received-short parents origin clock None is holds =
          let m : Move O R = move.Received parents origin clock None in
          merge-short m origin is.parent is.others
          (commits-after m ∙ ap (λ (c : Commit O R). s.commits ++ c ∷ []) (received-merge fixed.meaning fixed.terms s.commits parents origin clock is.greatest ∙ ap (merge_commit s.commits origin) is.parents_are))
          (is.stands, is.all_stand) is.few.few
          (ap (merge_refusal fixed.meaning fixed.terms.limits s.commits) (sym is.parents_are) ∙ (received_merge-tells fixed.meaning fixed.terms moves origin parents is.received).1) holds
      received-short parents origin clock (Some d) is holds =
          let m : Move O R = move.Received parents origin clock (Some d) in
          operation-short m origin is.parent d.0 d.1
          (commits-after m ∙ ap (λ (c : Commit O R). s.commits ++ c ∷ []) (ap (λ (ps : List ℕ). received_commit s.commits ps origin clock (Some d)) is.parents_are ∙ received-operation fixed.meaning fixed.terms s.commits is.parent origin clock d.0 d.1 is.next))
          is.stands is.replies (received_operation-tells fixed.meaning fixed.terms moves origin is.parent d.0 is.received).2 holds

      move-short : (m : Move O R) → IsAccepted fixed.meaning fixed.terms moves m → IsShort moves → IsShort (moves ++ m ∷ [])
      move-short (move.Fork name count from) is holds = let m : Move O R = move.Fork name count from in same-short m (commits-after m) holds
      move-short (move.Place name count k) is holds = let m : Move O R = move.Place name count k in same-short m (commits-after m) holds
      move-short (move.Forward r k) is holds = let m : Move O R = move.Forward r k in same-short m (commits-after m) holds
      move-short (move.Drop r) is holds = let m : Move O R = move.Drop r in same-short m (commits-after m) holds
      move-short (move.Operation r op reply) is holds =
          let m : Move O R = move.Operation r op reply in
          let h : ℕ = head_of s.branches r in
          operation-short m (fixed.terms.origin + r) h op reply (commits-after m) (kept.ordered.heads r is.there) is.replies is.prepared holds
      move-short (move.Merge r k) is holds =
          let m : Move O R = move.Merge r k in
          let h : ℕ = head_of s.branches r in
          merge-short m (fixed.terms.origin + r) h (k ∷ []) (commits-after m) (kept.ordered.heads r is.there, (is.stands, tt)) (omega arith) is.prepared holds
      move-short (move.Join r ks) is holds =
          let m : Move O R = move.Join r ks in
          let h : ℕ = head_of s.branches r in
          merge-short m (fixed.terms.origin + r) h ks (commits-after m) (kept.ordered.heads r is.there, is.stands) is.few is.prepared holds
      move-short (move.Received parents origin clock act) is holds = received-short parents origin clock act is holds

    abbrev root : Commit O R
    root = record { parents = []; origin = 0; clock = 0; event = None }

    nothing-seen : visible (root ∷ []) 0 ≡ []
    unfolding visible reaches
    nothing-seen = refl

    start-short : length (fixed.meaning.spelling_of []) ≤ 2 ^ 32 → IsShort []
    unfolding objects_of pairs_of store_of
    start-short modest =
        let p : Pair = pair_at fixed [] [] root in
        omega (
          arith,
          modest,
          length-append (header_of form.version) (concat (fresh [] (both p ++ []))),
          fresh-shorter [] (both p ++ []),
          ap (λ (x : Stored). length (concat x)) (append-nil (both p)),
          length-both p,
          kept_value-most fixed.terms.layout (fixed.meaning.spelling_of (visible (root ∷ []) 0)),
          ap (λ (x : List (Event O R)). length (fixed.meaning.spelling_of x)) nothing-seen,
          length-commit [] p.value root,
          length-header,
        )
      where
        length-header : length (header_of form.version) ≡ 16
        length-header =
            omega (
              arith,
              length-append (codes "MRDTOBJS") (short_number form.version ++ short_number 0),
              length-append (short_number form.version) (short_number 0),
              length-short_number form.version,
              length-short_number 0,
            )

    pub short : KeepsLaws fixed.meaning → length (fixed.meaning.spelling_of []) ≤ 2 ^ 32 → (moves : List (Move O R)) → IsFullyValid fixed moves → length (objects_text fixed moves) < 2 ^ 63
    short laws modest moves valid =
        let is = by_moves fixed IsShort (start-short modest)
        (λ ms m valid_ms holds full. move-short laws ms (valid-kept fixed.meaning fixed.terms laws ms (valid-before fixed ms valid_ms)) m (IsAccepted-from fixed.meaning fixed.terms ms m (full_move-is fixed ms m full).0) holds) moves valid in
        let few = (valid-kept fixed.meaning fixed.terms laws moves (valid-before fixed moves valid)).few_commits in
        let most = fixed.terms.limits.in_range.commits_high in
        omega (arith, is, few, most)
