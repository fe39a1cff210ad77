-- The objects of the commits that are kept, where the history keeps objects.
use Rattle.std.proofs.Common.{◌≡◌, ◌⊎◌, ℕ, ◌+◌, ◌<◌, Bool, true, false, cond, ◌&&◌, List, [], ◌∷◌, ◌++◌, length, map, refl, ap, sym, ◌∙◌, arith, IsTrue, Option, Some, None, subst, length-append, ⊎_elim}
use Rattle.std.specs.Option.{option_map, option_map_or}
use Rattle.std.specs.List.{AllByRecursion, flat_map}
use Rattle.std.proofs.lemmas.Bool.{cases_Bool}
use Rattle.mrdt_model.specs.Executions.{Event}
use Rattle.mrdt_model.specs.Laws.{KeepsLaws}
use Rattle.branch_wire.specs.Objects.{commit_object}
use Rattle.branch_wire.specs.StoredObjects.{same, collision, fresh}
use Rattle.branch_graph.specs.Graph.{parents_of, IsRanked}
use Rattle.branch_history.specs.declared.moves.Move.{Move}
use Rattle.branch_history.specs.declared.moves.Move.TheVariants as move
use Rattle.branch_history.specs.Commits.{Commit, graph_of, visible}
use Rattle.branch_history.specs.History.{Store, new_store, received_commit}
use Rattle.branch_history.specs.Steps.{Collision}
use Rattle.branch_history.specs.Validity.{IsMove, IsValid}
use Rattle.branch_history.proofs.Grown.{parents_of-new}
use Rattle.branch_history.proofs.Valid.{store_of-more, IsAccepted, IsAccepted-from, store_of-none}
use Rattle.branch_history.proofs.Kept.{IsKept}
use Rattle.branch_history.proofs.Histories.{valid-kept, received-stand}
use Rattle.branch_machine.specs.Fixed.{Fixed}
use Rattle.branch_machine.specs.Objects.{Pair, both, kept_value, kept_address, commit_text, value_text, address_at, action_of, fields_of, value_at, pair_at, pairs_of, store_after, objects_of, new_objects}
use Rattle.branch_machine.specs.Machine.{collision_refusal, commit_with, commit_at}
use Rattle.branch_machine.specs.Laws.{IsNew}
use Rattle.branch_machine.specs.Validity.{IsFullMove, IsFullyValid}
use Rattle.branch_machine.proofs.Valid.{by_moves, full_move-is, is-full_move, valid-before, valid-more, valid-none}
use Rattle.branch_machine.proofs.Pairs.{length-pairs_of, pairs_of-one, new-pair}
use Rattle.branch_machine.proofs.Distinct.{MakesOne, one-or-none, made-objects, no-objects, no-collision}
use Rattle.branch_compact.specs.Compact.{new_number, commits_made, at_places, stays, renumbered, renumbered_commit, kept_commits, kept_moves}
use Rattle.branch_compact.proofs.Numbers.{get-places, places-kept, places-gone, any-places}
use Rattle.branch_compact.proofs.Thinned.{IsDownward, AreKept, position-any, any-position}
use Rattle.branch_compact.proofs.Moves.{length-after, stays-kept, kept_moves-none, kept_moves-stays, kept_moves-goes}
use Rattle.branch_compact.proofs.Steps.{kept-more, kept-gone, parents-next, IsFollowed, followed, count, visible-same, received-same}
use Rattle.branch_compact.proofs.Whole.{StayAlike, stay-alike, follow, down-before, one-becomes}
use Rattle.branch_compact.proofs.Stored.{AreSome, some-pairs, some-both}

-- the objects of one pair among those that are kept
module _ (keep : ℕ → Bool) (pairs : List Pair) (n : ℕ) (lt : n < length pairs) (is : IsTrue (keep n)) where
  pub commit_text-kept : commit_text (at_places keep 0 pairs) (new_number keep n) ≡ commit_text pairs n
  commit_text-kept = ap (λ o. option_map_or (λ p. p.commit) o []) (get-places keep pairs n lt is)

  pub value_text-kept : value_text (at_places keep 0 pairs) (new_number keep n) ≡ value_text pairs n
  value_text-kept = ap (λ o. option_map_or (λ p. p.value) o []) (get-places keep pairs n lt is)

addresses-kept : (address : List ℕ → List ℕ) (keep : ℕ → Bool) (pairs : List Pair) (ns : List ℕ) → AllByRecursion (λ n. n < length pairs) ns → AreKept keep ns
    → map (address_at address (at_places keep 0 pairs)) (map (new_number keep) ns) ≡ map (address_at address pairs) ns
addresses-kept address keep pairs [] all kept = refl
addresses-kept address keep pairs (n ∷ ns) all kept =
    ap (λ (t : List ℕ). address t ∷ map (address_at address (at_places keep 0 pairs)) (map (new_number keep) ns)) (commit_text-kept keep pairs n all.0 kept.0)
    ∙ ap (λ (l : List (List ℕ)). address_at address pairs n ∷ l) (addresses-kept address keep pairs ns all.1 kept.1)

module _ {S O R Q A : Type 0} (fixed : Fixed S O R Q A) where
  -- what a commit does, by the new numbers of its parents
  action-kept : (f : ℕ → ℕ) (parents : List ℕ) (o : Option (Event O R)) → action_of fixed (map f parents) o ≡ action_of fixed parents o
  action-kept f parents (Some e) = refl
  action-kept f [] None = refl
  action-kept f (p ∷ ps) None = refl

  -- a commit that is kept has its objects
  pair-kept : (keep : ℕ → Bool) (before after : List (Commit O R)) (c : Commit O R) → visible (after ++ renumbered_commit keep c ∷ []) (length after) ≡ visible (before ++ c ∷ []) (length before)
      → pairs_of fixed after ≡ at_places keep 0 (pairs_of fixed before) → AllByRecursion (λ p. p < length before) c.parents → AreKept keep c.parents
      → pair_at fixed after (pairs_of fixed after) (renumbered_commit keep c) ≡ pair_at fixed before (pairs_of fixed before) c
  pair-kept keep before after c seen pairs below kept =
      let d : Commit O R = renumbered_commit keep c in
      let v : List ℕ = value_at fixed (after ++ d ∷ []) (length after) in
      let w : List ℕ = value_at fixed (before ++ c ∷ []) (length before) in
      let values : v ≡ w = ap (λ x. kept_value fixed.terms.layout (fixed.meaning.spelling_of x)) seen in
      let within : AllByRecursion (λ p. p < length (pairs_of fixed before)) c.parents = subst (λ (n : ℕ). AllByRecursion (λ p. p < n) c.parents) (sym (length-pairs_of fixed before)) below in
      let addresses : map (address_at fixed.address (pairs_of fixed after)) (map (new_number keep) c.parents) ≡ map (address_at fixed.address (pairs_of fixed before)) c.parents =
      ap (λ (ps : List Pair). map (address_at fixed.address ps) (map (new_number keep) c.parents)) pairs ∙ addresses-kept fixed.address keep (pairs_of fixed before) c.parents within kept in
      ap (λ u. record { value = u; commit = commit_object (fields_of fixed (pairs_of fixed after) u d) }) values
      ∙ ap (λ l. record { value = w; commit = commit_object (record { parents = l; branch = c.origin; clock = c.clock; value = kept_address fixed.terms.layout (fixed.address w); action = action_of fixed (map (new_number keep) c.parents) c.event }) }) addresses
      ∙ ap (λ a. record { value = w; commit = commit_object (record { parents = map (address_at fixed.address (pairs_of fixed before)) c.parents; branch = c.origin; clock = c.clock; value = kept_address fixed.terms.layout (fixed.address w); action = a }) }) (action-kept (new_number keep) c.parents c.event)

  -- no commit that is kept has two objects that none has
  none-kept : (keep : ℕ → Bool) (pairs : List Pair) (p : Pair) → commit_with pairs p ≡ None → commit_with (at_places keep 0 pairs) p ≡ None
  none-kept keep pairs p none =
      let test : Pair → Bool = λ q. same q.value p.value && same q.commit p.commit in
      any-position test 0 (at_places keep 0 pairs) (any-places keep test 0 pairs (position-any test 0 pairs none))

  -- the objects stored of fewer commits are some of those stored
  objects-some : (keep : ℕ → Bool) (moves others : List (Move O R)) → pairs_of fixed (store_after fixed others).commits ≡ at_places keep 0 (pairs_of fixed (store_after fixed moves).commits)
      → AreSome (objects_of fixed others) (objects_of fixed moves)
  unfolding objects_of
  objects-some keep moves others pairs =
      subst (λ (ps : List Pair). AreSome (fresh [] (flat_map both ps)) (fresh [] (flat_map both (pairs_of fixed (store_after fixed moves).commits)))) (sym pairs) (some-pairs keep (pairs_of fixed (store_after fixed moves).commits))

  no-refusal : (moves : List (Move O R)) (m : Move O R) → collision fixed.address (objects_of fixed moves) (new_objects fixed moves m) ≡ None → collision_refusal fixed moves m ≡ None
  unfolding collision_refusal
  no-refusal moves m none = ap (option_map (λ c. Collision (fixed.address c.1) c.0 c.1)) none

  module _ (laws : KeepsLaws fixed.meaning) (keep : ℕ → Bool) (first : IsTrue (keep 0)) where
    abbrev at : List (Move O R) → Store O R
    at moves = store_after fixed moves

    -- the moves that stay are valid, and their commits have the objects of those that are kept
    pub record StayFull (moves : List (Move O R)) : Type 0 where
      pub valid : IsFullyValid fixed (kept_moves keep moves)
      pub pairs : pairs_of fixed (at (kept_moves keep moves)).commits ≡ at_places keep 0 (pairs_of fixed (at moves).commits)

    abbrev pub FullDown : List (Move O R) → Type 0
    FullDown moves = IsDownward keep (graph_of (at moves).commits)

    module _ (moves : List (Move O R)) (m : Move O R) (valid : IsFullyValid fixed moves) (is : IsFullMove fixed moves m) (below : FullDown (moves ++ m ∷ [])) (before : StayFull moves) where
      abbrev others : List (Move O R)
      others = kept_moves keep moves

      abbrev all : List (Move O R)
      all = moves ++ m ∷ []

      abbrev s : Store O R
      s = at moves

      abbrev t : Store O R
      t = at others

      abbrev s2 : Store O R
      s2 = at all

      abbrev t2 : Store O R
      t2 = at (kept_moves keep all)

      abbrev N : ℕ
      N = length s.commits

      plain : IsMove fixed.meaning fixed.terms moves m
      plain = let full = full_move-is fixed moves m is in full.0

      plain_valid : IsValid fixed.meaning fixed.terms moves
      plain_valid = valid-before fixed moves valid

      next_valid : IsValid fixed.meaning fixed.terms all
      next_valid = valid-before fixed all (valid-more fixed moves m valid is)

      kept : IsKept fixed.meaning fixed.terms s
      kept = valid-kept fixed.meaning fixed.terms laws moves plain_valid

      kept2 : IsKept fixed.meaning fixed.terms s2
      kept2 = valid-kept fixed.meaning fixed.terms laws all next_valid

      down : FullDown moves
      down = down-before fixed.meaning fixed.terms laws keep moves m kept below

      alike : StayAlike fixed.meaning fixed.terms laws keep moves
      alike = stay-alike fixed.meaning fixed.terms laws keep first moves plain_valid down

      next : StayAlike fixed.meaning fixed.terms laws keep all
      next = stay-alike fixed.meaning fixed.terms laws keep first all next_valid below

      here : IsFollowed keep s t
      here = followed (follow fixed.meaning fixed.terms laws keep moves plain_valid down alike)

      behind : IsFollowed keep s2 t2
      behind = followed (follow fixed.meaning fixed.terms laws keep all next_valid below next)

      -- a commit that is made and kept
      module _ (c : Commit O R) (made : s2.commits ≡ s.commits ++ c ∷ []) (held : IsTrue (keep N)) where
        abbrev d : Commit O R
        d = renumbered_commit keep c

        abbrev p : Pair
        p = pair_at fixed s.commits (pairs_of fixed s.commits) c

        made_too : t2.commits ≡ t.commits ++ d ∷ []
        made_too = next.thin.commits ∙ ap (kept_commits keep) made ∙ kept-more keep s.commits c held ∙ ap (λ cs. cs ++ d ∷ []) (sym alike.thin.commits)

        parents_kept : AreKept keep c.parents
        parents_kept = parents-next keep s.commits c (subst (λ (cs : List (Commit O R)). IsRanked (graph_of cs)) made kept2.ordered.ranked) (subst (λ (cs : List (Commit O R)). IsDownward keep (graph_of cs)) made below) held

        parents_below : AllByRecursion (λ p. p < N) c.parents
        parents_below = subst (AllByRecursion (λ p. p < N)) (ap (λ cs. parents_of (graph_of cs) N) made ∙ parents_of-new s.commits c) (kept2.ordered.ranked N)

        seen : visible (t.commits ++ d ∷ []) (length t.commits) ≡ visible (s.commits ++ c ∷ []) N
        seen =
            ap (λ cs. visible cs (length t.commits)) (sym made_too)
            ∙ ap (visible t2.commits) (count here)
            ∙ visible-same behind N (omega (arith, ap length made, length-append s.commits (c ∷ []))) held
            ∙ ap (λ cs. visible cs N) made

        pub pair-same : pair_at fixed t.commits (pairs_of fixed t.commits) d ≡ p
        pair-same = pair-kept keep s.commits t.commits c seen before.pairs parents_below parents_kept

        grown_too : pairs_of fixed t2.commits ≡ pairs_of fixed t.commits ++ p ∷ []
        grown_too = ap (pairs_of fixed) made_too ∙ pairs_of-one fixed t.commits d ∙ ap (λ q. pairs_of fixed t.commits ++ q ∷ []) pair-same

        pub pairs-made : pairs_of fixed t2.commits ≡ at_places keep 0 (pairs_of fixed s2.commits)
        pairs-made =
            grown_too ∙ ap (λ ps. ps ++ p ∷ []) before.pairs
            ∙ sym (places-kept keep (pairs_of fixed s.commits) p (ap keep (length-pairs_of fixed s.commits) ∙ held))
            ∙ ap (at_places keep 0) (sym (ap (pairs_of fixed) made ∙ pairs_of-one fixed s.commits c))

        -- its objects collide with none
        pub none-collides : (u : Move O R) → kept_moves keep all ≡ others ++ u ∷ [] → new_objects fixed moves m ≡ both p → collision_refusal fixed moves m ≡ None → collision_refusal fixed others u ≡ None
        none-collides u is_u objects none =
            let new : new_objects fixed others u ≡ both p = new-pair fixed others u t.commits t2.commits p refl (ap (λ l. (at l).commits) (sym is_u)) grown_too in
            no-refusal others u
            (ap (collision fixed.address (objects_of fixed others)) new
            ∙ some-both fixed.address p.value p.commit (objects_of fixed others) (objects_of fixed moves) (objects-some keep moves others before.pairs)
            (ap (collision fixed.address (objects_of fixed moves)) (sym objects) ∙ no-collision fixed moves m none))

      -- a commit that is made and not kept
      pairs-gone : (c : Commit O R) → s2.commits ≡ s.commits ++ c ∷ [] → keep N ≡ false → pairs_of fixed t2.commits ≡ at_places keep 0 (pairs_of fixed s2.commits)
      pairs-gone c made lost =
          let p : Pair = pair_at fixed s.commits (pairs_of fixed s.commits) c in
          ap (pairs_of fixed) (next.thin.commits ∙ ap (kept_commits keep) made ∙ kept-gone keep s.commits c lost ∙ sym alike.thin.commits)
          ∙ before.pairs ∙ sym (places-gone keep (pairs_of fixed s.commits) p (ap keep (length-pairs_of fixed s.commits) ∙ lost))
          ∙ ap (at_places keep 0) (sym (ap (pairs_of fixed) made ∙ pairs_of-one fixed s.commits c))

      -- no commit is made
      unmoved_too : s2.commits ≡ s.commits → t2.commits ≡ t.commits
      unmoved_too same = next.thin.commits ∙ ap (kept_commits keep) same ∙ sym alike.thin.commits

      pairs-same : s2.commits ≡ s.commits → pairs_of fixed t2.commits ≡ at_places keep 0 (pairs_of fixed s2.commits)
      pairs-same same = ap (pairs_of fixed) (unmoved_too same) ∙ before.pairs ∙ ap (λ cs. at_places keep 0 (pairs_of fixed cs)) (sym same)

      accepted : IsAccepted fixed.meaning fixed.terms moves m
      accepted = IsAccepted-from fixed.meaning fixed.terms moves m plain

      kind : MakesOne fixed s s2 ⊎ (s2.commits ≡ s.commits)
      kind = let full = full_move-is fixed moves m is in one-or-none fixed moves m kept accepted full.1

      pub pairs-more : pairs_of fixed t2.commits ≡ at_places keep 0 (pairs_of fixed s2.commits)
      pairs-more = ⊎_elim (λ one. ⊎_elim (λ held. pairs-made one.made one.commits held) (λ lost. pairs-gone one.made one.commits lost) (cases_Bool (keep N))) pairs-same kind

      -- a move that makes a commit and stays is that of a commit that is kept
      kept-one : (one : MakesOne fixed s s2) → stays keep N m ≡ true → IsTrue (keep N)
      kept-one one held =
          let size : length s2.commits ≡ N + commits_made m = ap (λ (u : Store O R). length u.commits) (store_of-more fixed.terms.origin moves m) ∙ length-after fixed.terms.origin s m in
          let makes : commits_made m ≡ 1 = omega (arith, size, ap length one.commits, length-append s.commits (one.made ∷ [])) in
          sym (stays-kept keep N m makes) ∙ held

      collides-not : stays keep N m ≡ true → collision_refusal fixed moves m ≡ None → collision_refusal fixed others (renumbered keep m) ≡ None
      collides-not held none =
          let u : Move O R = renumbered keep m in
          let e = kept_moves-stays keep fixed.terms.origin moves m held in
          ⊎_elim
          (λ one. none-collides one.made one.commits (kept-one one held) u e (made-objects fixed moves m one) none)
          (λ same. no-refusal others u (ap (collision fixed.address (objects_of fixed others)) (no-objects fixed others u (ap (λ l. (at l).commits) (sym e) ∙ unmoved_too same))))
          kind

      -- what is received is new where it stays
      placed-new : (b : Bool) (name : List ℕ) (number n : ℕ) → IsNew fixed others (cond b (move.Place name number n) (move.Fork name number 0))
      placed-new true name number n = tt
      placed-new false name number n = tt

      new-kept : (k : Move O R) → m ≡ k → IsAccepted fixed.meaning fixed.terms moves k → stays keep N k ≡ true → IsNew fixed moves k → IsNew fixed others (renumbered keep k)
      unfolding commit_at
      new-kept (move.Fork name number from) e ok held new = tt
      new-kept (move.Operation r op reply) e ok held new = tt
      new-kept (move.Merge r n) e ok held new = tt
      new-kept (move.Join r ms) e ok held new = tt
      new-kept (move.Forward r n) e ok held new = tt
      new-kept (move.Received ps origin clock act) e ok held new =
          let c : Commit O R = received_commit s.commits ps origin clock act in
          let made : s2.commits ≡ s.commits ++ c ∷ [] = ap (λ k. (at (moves ++ k ∷ [])).commits) e ∙ ap (λ (u : Store O R). u.commits) (store_of-more fixed.terms.origin moves (move.Received ps origin clock act)) in
          let same = received-same here ps origin clock act (received-stand fixed.meaning fixed.terms moves ps origin clock act ok) (parents_kept c made held) in
          ap (λ k. commit_with (pairs_of fixed t.commits) (pair_at fixed t.commits (pairs_of fixed t.commits) k)) same
          ∙ ap (commit_with (pairs_of fixed t.commits)) (pair-same c made held)
          ∙ ap (λ ps. commit_with ps (pair_at fixed s.commits (pairs_of fixed s.commits) c)) before.pairs
          ∙ none-kept keep (pairs_of fixed s.commits) (pair_at fixed s.commits (pairs_of fixed s.commits) c) new
      new-kept (move.Place name number n) e ok held new = placed-new (keep n) name number (new_number keep n)
      new-kept (move.Drop r) e ok held new = tt

      stay-more : StayFull all
      stay-more = record {
        valid = ⊎_elim
            (λ held.
            let full = full_move-is fixed moves m is in
            let becomes = one-becomes fixed.meaning fixed.terms laws keep moves m plain_valid plain below alike in
            subst (λ (l : List (Move O R)). IsFullyValid fixed l) (sym (kept_moves-stays keep fixed.terms.origin moves m held))
            (valid-more fixed others (renumbered keep m) before.valid (is-full_move fixed others (renumbered keep m) (becomes.made held) (new-kept m refl accepted held full.1) (collides-not held full.2))))
            (λ lost. subst (λ (l : List (Move O R)). IsFullyValid fixed l) (sym (kept_moves-goes keep fixed.terms.origin moves m lost)) before.valid)
            (cases_Bool (stays keep N m));
        pairs = pairs-more;
      }

    -- the objects of commit 0, which is kept
    root-pairs : pairs_of fixed (new_store {O = O} {R = R}).commits ≡ at_places keep 0 (pairs_of fixed (new_store {O = O} {R = R}).commits)
    unfolding pairs_of
    root-pairs =
        let root : Commit O R = record { parents = []; origin = 0; clock = 0; event = None } in
        sym (ap (λ b. cond b (pair_at fixed [] [] root ∷ []) []) first)

    stay-none : StayFull []
    stay-none = record {
      valid = subst (λ (l : List (Move O R)). IsFullyValid fixed l) (sym (kept_moves-none keep)) (valid-none fixed);
      pairs = ap (λ l. pairs_of fixed (at l).commits) (kept_moves-none keep) ∙ ap (λ (u : Store O R). pairs_of fixed u.commits) (store_of-none fixed.terms.origin)
          ∙ root-pairs ∙ ap (λ (u : Store O R). at_places keep 0 (pairs_of fixed u.commits)) (sym (store_of-none fixed.terms.origin));
    }

    -- the moves that stay of a valid history
    pub stay-full : (moves : List (Move O R)) → IsFullyValid fixed moves → FullDown moves → StayFull moves
    stay-full =
        by_moves fixed (λ moves. FullDown moves → StayFull moves) (λ _. stay-none)
        (λ moves m valid before is below.
        stay-more moves m valid is below (before (down-before fixed.meaning fixed.terms laws keep moves m (valid-kept fixed.meaning fixed.terms laws moves (valid-before fixed moves valid)) below)))
