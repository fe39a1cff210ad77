-- The moves that stay of a valid history are a valid one, and its commits are those that are kept.
use Rattle.std.proofs.Common.{zero, suc, ◌≡◌, ℕ, ◌+◌, ◌<◌, Bool, true, false, cond, List, [], ◌∷◌, ◌++◌, length, map, refl, ap, sym, ◌∙◌, arith, IsTrue, None, subst, length-append, ⊎_elim}
use Rattle.std.proofs.lemmas.Bool.{cases_Bool, both_ways}
use Rattle.mrdt_model.specs.Laws.{Meaning, KeepsLaws}
use Rattle.branch_graph.specs.Graph.{IsRanked}
use Rattle.branch_history.specs.declared.moves.Move.{Move}
use Rattle.branch_history.specs.declared.moves.Move.TheVariants as move
use Rattle.branch_names.specs.declared.terms.Terms.{Terms}
use Rattle.branch_names.specs.Heads.{head_of, main_alone}
use Rattle.branch_history.specs.Commits.{Commit, graph_of}
use Rattle.branch_history.specs.History.{Store, new_store, after_move, store_of, operation_commit, merge_commit, received_commit}
use Rattle.branch_history.specs.Validity.{IsMove, IsValid}
use Rattle.branch_history.proofs.Grown.{length-graph}
use Rattle.branch_history.proofs.Later.{commits-longer, longer-same_at}
use Rattle.branch_history.proofs.Valid.{store_of-more, store_of-none, by_moves, IsValid-none, IsValid-more, IsAccepted, IsAccepted-from}
use Rattle.branch_history.proofs.Kept.{IsKept}
use Rattle.branch_history.proofs.Histories.{valid-kept, received-stand}
use Rattle.branch_compact.specs.Compact.{new_number, stays, renumbered, renumbered_commit, kept_moves}
use Rattle.branch_compact.proofs.Numbers.{number-zero}
use Rattle.branch_compact.proofs.Thinned.{IsDownward, AreKept}
use Rattle.branch_compact.proofs.Moves.{kept_moves-none, kept_moves-stays, kept_moves-goes, kept_moves-fewer}
use Rattle.branch_compact.proofs.Branches.{same-names, kept-same, same-added, same-moved, same-left, same-dropped, heads-added, heads-moved, heads-left, heads-dropped}
use Rattle.branch_compact.proofs.Steps.{IsThinned, AreFollowed, followed, kept-more, kept-gone, parents-next, operation-same, merge-same, received-same, thinned-commit, thinned-without, fork-moves, place-moves, operation-moves, merge-moves, join-moves, forward-moves, received-moves, drop-moves}

-- what becomes of a move: where it stays, the machine makes it, and the stores stay alike; where it goes, they do too
pub record Becomes {S O R Q A : Type 0} (meaning : Meaning S O R Q A) (terms : Terms) (keep : ℕ → Bool) (moves others : List (Move O R)) (m : Move O R) : Type 0 where
  pub made : stays keep (length (store_of terms.origin moves).commits) m ≡ true → IsMove meaning terms others (renumbered keep m)
  pub alike : stays keep (length (store_of terms.origin moves).commits) m ≡ true → IsThinned keep (after_move terms.origin (store_of terms.origin moves) m) (after_move terms.origin (store_of terms.origin others) (renumbered keep m))
  pub gone : stays keep (length (store_of terms.origin moves).commits) m ≡ false → IsThinned keep (after_move terms.origin (store_of terms.origin moves) m) (store_of terms.origin others)

module _ {S O R Q A : Type 0} {meaning : Meaning S O R Q A} {terms : Terms} {keep : ℕ → Bool} {moves others : List (Move O R)} (w : AreFollowed meaning terms keep moves others) where
  abbrev s : Store O R
  s = store_of terms.origin moves

  abbrev t : Store O R
  t = store_of terms.origin others

  abbrev N : ℕ
  N = length s.commits

  abbrev f : ℕ → ℕ
  f = new_number keep

  -- a branch placed at a commit, kept or not
  becomes-place : (name : List ℕ) (number n : ℕ) → IsAccepted meaning terms moves (move.Place name number n) → (b : Bool) → keep n ≡ b
      → IsMove meaning terms others (cond b (move.Place name number (f n)) (move.Fork name number 0))
      × IsThinned keep (after_move terms.origin s (move.Place name number n)) (after_move terms.origin t (cond b (move.Place name number (f n)) (move.Fork name number 0)))
  becomes-place name number n is true kept_n = (
    place-moves w name number n is kept_n,
    record { commits = w.thin.commits; names = same-added s.branches t.branches w.thin.names name n (f n); heads = heads-added keep s.branches t.branches w.thin.names w.thin.heads name n (f n) (λ _. refl) },
  )
  becomes-place name number n is false gone = (
    fork-moves w name number 0 is.named is.next is.free w.next.ordered.main is.landed,
    record { commits = w.thin.commits; names = same-added s.branches t.branches w.thin.names name n (head_of t.branches 0); heads = heads-added keep s.branches t.branches w.thin.names w.thin.heads name n (head_of t.branches 0) (λ kept_n. absurd (both_ways (keep n) gone kept_n)) },
  )

  pub becomes : (m : Move O R) → IsAccepted meaning terms moves m → IsRanked (graph_of (after_move terms.origin s m).commits) → IsDownward keep (graph_of (after_move terms.origin s m).commits) → Becomes meaning terms keep moves others m
  becomes (move.Fork name number from) is ranked below =
      let there = is.there in
      record {
        made = λ _. fork-moves w name number from is.named is.next is.free (kept-same s.branches t.branches w.thin.names from there) is.landed;
        alike = λ _. record {
          commits = w.thin.commits;
          names = same-added s.branches t.branches w.thin.names name (head_of s.branches from) (head_of t.branches from);
          heads = heads-added keep s.branches t.branches w.thin.names w.thin.heads name (head_of s.branches from) (head_of t.branches from) (λ kept_h. w.thin.heads from there.0 kept_h);
        };
        gone = λ no. absurd (cc);
      }
  becomes (move.Operation q op reply) is ranked below =
      let h : ℕ = head_of s.branches q in
      let c : Commit O R = operation_commit s.commits (terms.origin + q) h op reply in
      let head : IsTrue (keep N) → IsTrue (keep h) = λ yes. (parents-next keep s.commits c ranked below yes).0 in
      record {
        made = λ yes. operation-moves w q op reply is (head yes);
        alike = λ yes.
            thinned-commit (followed w) q c (operation_commit t.commits (terms.origin + q) (head_of t.branches q) op reply) is.there yes
            (ap (λ k. operation_commit t.commits (terms.origin + q) k op reply) (w.thin.heads q is.there (head yes)) ∙ operation-same (followed w) (terms.origin + q) h op reply (w.kept.ordered.heads q is.there) (head yes));
        gone = λ no. thinned-without (followed w) q c is.there no;
      }
  becomes (move.Merge q m) is ranked below =
      let h : ℕ = head_of s.branches q in
      let c : Commit O R = merge_commit s.commits (terms.origin + q) (h ∷ m ∷ []) in
      let parents : IsTrue (keep N) → AreKept keep (h ∷ m ∷ []) = λ yes. parents-next keep s.commits c ranked below yes in
      record {
        made = λ yes. merge-moves w q m is (parents yes).0 (parents yes).1.0;
        alike = λ yes.
            thinned-commit (followed w) q c (merge_commit t.commits (terms.origin + q) (head_of t.branches q ∷ f m ∷ [])) is.there yes
            (ap (λ k. merge_commit t.commits (terms.origin + q) (k ∷ f m ∷ [])) (w.thin.heads q is.there (parents yes).0) ∙ merge-same (followed w) (terms.origin + q) (h ∷ m ∷ []) (w.kept.ordered.heads q is.there, (is.stands, tt)) (parents yes));
        gone = λ no. thinned-without (followed w) q c is.there no;
      }
  becomes (move.Join q ms) is ranked below =
      let h : ℕ = head_of s.branches q in
      let c : Commit O R = merge_commit s.commits (terms.origin + q) (h ∷ ms) in
      let parents : IsTrue (keep N) → AreKept keep (h ∷ ms) = λ yes. parents-next keep s.commits c ranked below yes in
      record {
        made = λ yes. join-moves w q ms is (parents yes).0 (parents yes).1;
        alike = λ yes.
            thinned-commit (followed w) q c (merge_commit t.commits (terms.origin + q) (head_of t.branches q ∷ map f ms)) is.there yes
            (ap (λ k. merge_commit t.commits (terms.origin + q) (k ∷ map f ms)) (w.thin.heads q is.there (parents yes).0) ∙ merge-same (followed w) (terms.origin + q) (h ∷ ms) (w.kept.ordered.heads q is.there, is.stands) (parents yes));
        gone = λ no. thinned-without (followed w) q c is.there no;
      }
  becomes (move.Forward q m) is ranked below =
      let h : ℕ = head_of s.branches q in
      let stands = is.stands in
      let head : IsTrue (keep m) → IsTrue (keep h) = λ yes. w.down m h (omega (arith, stands, length-graph s.commits)) yes is.below in
      record {
        made = λ yes. forward-moves w q m is (head yes) yes;
        alike = λ yes. record { commits = w.thin.commits; names = same-moved s.branches t.branches w.thin.names q m (f m); heads = heads-moved keep s.branches t.branches w.thin.names w.thin.heads q m (f m) is.there refl };
        gone = λ no. record { commits = w.thin.commits; names = same-left s.branches t.branches w.thin.names q m; heads = heads-left keep s.branches t.branches w.thin.names w.thin.heads q m is.there no };
      }
  becomes (move.Received ps origin clock act) is ranked below =
      let c : Commit O R = received_commit s.commits ps origin clock act in
      let parents : IsTrue (keep N) → AreKept keep ps = λ yes. parents-next keep s.commits c ranked below yes in
      record {
        made = λ yes. received-moves w ps origin clock act is (parents yes);
        alike = λ yes. record {
          commits = ap (λ e. t.commits ++ e ∷ []) (received-same (followed w) ps origin clock act (received-stand meaning terms moves ps origin clock act is) (parents yes))
              ∙ ap (λ cs. cs ++ renumbered_commit keep c ∷ []) w.thin.commits ∙ sym (kept-more keep s.commits c yes);
          names = w.thin.names;
          heads = w.thin.heads;
        };
        gone = λ no. record { commits = w.thin.commits ∙ sym (kept-gone keep s.commits c no); names = w.thin.names; heads = w.thin.heads };
      }
  becomes (move.Place name number n) is ranked below =
      let both = becomes-place name number n is (keep n) refl in
      record { made = λ _. both.0; alike = λ _. both.1; gone = λ no. absurd (cc) }
  becomes (move.Drop q) is ranked below = record {
    made = λ _. drop-moves w q is;
    alike = λ _. record { commits = w.thin.commits; names = same-dropped s.branches t.branches w.thin.names q is.there; heads = heads-dropped keep s.branches t.branches w.thin.names w.thin.heads q };
    gone = λ no. absurd (cc);
  }

module _ {S O R Q A : Type 0} (meaning : Meaning S O R Q A) (terms : Terms) (laws : KeepsLaws meaning) (keep : ℕ → Bool) where
  abbrev at : List (Move O R) → Store O R
  at moves = store_of terms.origin moves

  -- what the moves that stay are
  pub record StayAlike (moves : List (Move O R)) : Type 0 where
    pub valid : IsValid meaning terms (kept_moves keep moves)
    pub thin : IsThinned keep (at moves) (at (kept_moves keep moves))

  abbrev pub Down : List (Move O R) → Type 0
  Down moves = IsDownward keep (graph_of (at moves).commits)

  -- fewer commits reach less
  pub down-before : (moves : List (Move O R)) (m : Move O R) → IsKept meaning terms (at moves) → Down (moves ++ m ∷ []) → Down moves
  down-before moves m kept below j k lt is reached =
      let longer = commits-longer terms.origin moves (m ∷ []) in
      let less : j < length (at moves).commits = omega (arith, length-graph (at moves).commits) in
      let same = longer-same_at (at moves).commits (at (moves ++ m ∷ [])).commits longer kept.ordered.ranked j less in
      let size : length (at (moves ++ m ∷ [])).commits ≡ length (at moves).commits + length longer.more = ap length longer.is ∙ length-append (at moves).commits longer.more in
      below j k (omega (arith, less, size, length-graph (at (moves ++ m ∷ [])).commits)) is (same.reach k ∙ reached)

  pub follow : (moves : List (Move O R)) → IsValid meaning terms moves → Down moves → StayAlike moves → AreFollowed meaning terms keep moves (kept_moves keep moves)
  follow moves valid down stay = record {
    few = kept_moves-fewer keep moves;
    kept = valid-kept meaning terms laws moves valid;
    next = valid-kept meaning terms laws (kept_moves keep moves) stay.valid;
    thin = stay.thin;
    down = down;
  }

  -- the next move of the history
  module _ (moves : List (Move O R)) (m : Move O R) (valid : IsValid meaning terms moves) (is : IsMove meaning terms moves m) (below : Down (moves ++ m ∷ [])) (before : StayAlike moves) where
    abbrev others : List (Move O R)
    others = kept_moves keep moves

    kept : IsKept meaning terms (at moves)
    kept = valid-kept meaning terms laws moves valid

    next : IsKept meaning terms (after_move terms.origin (at moves) m)
    next = subst (λ (s : Store O R). IsKept meaning terms s) (store_of-more terms.origin moves m) (valid-kept meaning terms laws (moves ++ m ∷ []) (IsValid-more meaning terms moves m valid is))

    pub one-becomes : Becomes meaning terms keep moves others m
    one-becomes =
        becomes (follow moves valid (down-before moves m kept below) before) m (IsAccepted-from meaning terms moves m is)
        next.ordered.ranked (subst (λ (s : Store O R). IsDownward keep (graph_of s.commits)) (store_of-more terms.origin moves m) below)

    abbrev here : Bool
    here = stays keep (length (at moves).commits) m

    stay-more : StayAlike (moves ++ m ∷ [])
    stay-more = ⊎_elim
        (λ yes.
        let e = kept_moves-stays keep terms.origin moves m yes in
        record {
          valid = subst (λ (l : List (Move O R)). IsValid meaning terms l) (sym e) (IsValid-more meaning terms others (renumbered keep m) before.valid (one-becomes.made yes));
          thin = subst (λ (s : Store O R). IsThinned keep s (at (kept_moves keep (moves ++ m ∷ [])))) (sym (store_of-more terms.origin moves m))
              (subst (λ (u : Store O R). IsThinned keep (after_move terms.origin (at moves) m) u) (sym (ap at e ∙ store_of-more terms.origin others (renumbered keep m))) (one-becomes.alike yes));
        })
        (λ no.
        let e = kept_moves-goes keep terms.origin moves m no in
        record {
          valid = subst (λ (l : List (Move O R)). IsValid meaning terms l) (sym e) before.valid;
          thin = subst (λ (s : Store O R). IsThinned keep s (at (kept_moves keep (moves ++ m ∷ [])))) (sym (store_of-more terms.origin moves m))
              (subst (λ (u : Store O R). IsThinned keep (after_move terms.origin (at moves) m) u) (sym (ap at e)) (one-becomes.gone no));
        })
        (cases_Bool here)

  module _ (first : IsTrue (keep 0)) where
    thinned-new : IsThinned keep (new_store {O = O} {R = R}) new_store
    thinned-new = record {
      commits = sym (ap (λ t. map (renumbered_commit keep) (cond t ((record { parents = []; origin = 0; clock = 0; event = None }) ∷ []) [])) first);
      names = same-names main_alone;
      heads = elim [ zero ↦ λ lt is. sym (number-zero keep) | suc r ↦ λ lt is. absurd (omega arith) ];
    }

    stay-none : StayAlike []
    stay-none = record {
      valid = subst (λ (l : List (Move O R)). IsValid meaning terms l) (sym (kept_moves-none keep)) (IsValid-none meaning terms);
      thin = subst (λ (s : Store O R). IsThinned keep s (at (kept_moves keep []))) (sym (store_of-none terms.origin)) (subst (λ (u : Store O R). IsThinned keep new_store u) (sym (ap at (kept_moves-none keep) ∙ store_of-none terms.origin)) thinned-new);
    }

    -- the moves that stay of a valid history
    pub stay-alike : (moves : List (Move O R)) → IsValid meaning terms moves → Down moves → StayAlike moves
    stay-alike =
        by_moves meaning terms (λ moves. Down moves → StayAlike moves) (λ _. stay-none)
        (λ moves m valid before is below. stay-more moves m valid is below (before (down-before moves m (valid-kept meaning terms laws moves valid) below)))
