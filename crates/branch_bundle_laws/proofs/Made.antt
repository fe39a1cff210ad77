-- What each commit of a valid history tells: its operation, or its merge.
use Rattle.std.proofs.Common.{◌≡◌, ℕ, ◌+◌, ◌<◌, ◌≤◌, List, [], ◌∷◌, ◌++◌, length, max, refl, ap, sym, ◌∙◌, arith, subst, Option, Some, None, length-append, ⊎_elim, nat_lt}
use Rattle.std.specs.Prelude.{nat_le}
use Rattle.std.proofs.lemmas.Bool.{cases_lt, ltb-false}
use Rattle.std.proofs.lemmas.List.{map-id}
use Rattle.mrdt_model.specs.Executions.{Event, next_event}
use Rattle.mrdt_model.specs.Laws.{Meaning, KeepsLaws}
use Rattle.branch_graph.specs.Graph.{parents_of, IsRanked, reaches}
use Rattle.branch_history.specs.declared.moves.Move.{Move}
use Rattle.branch_history.specs.declared.moves.Move.TheVariants as move
use Rattle.branch_names.specs.declared.terms.Terms.{Terms}
use Rattle.branch_names.specs.Heads.{head_of}
use Rattle.branch_history.specs.Commits.{Commit, graph_of, clock_of, event_of, greatest_clock, visible, visible_at_all}
use Rattle.branch_history.specs.Merging.{AreApart, AreFew}
use Rattle.branch_history.specs.History.{Store, new_store, after_move, store_of, operation_commit, merge_commit, received_commit}
use Rattle.branch_history.specs.Steps.{Exhausted, ValueTooLarge}
use Rattle.branch_history.specs.Machine.{refusal_if, event_made, event_length, operation_refusal}
use Rattle.branch_history.specs.Validity.{AreCommits, IsValid}
use Rattle.branch_history.proofs.Grown.{parents_of-new, clock_of-new, event_of-new}
use Rattle.branch_history.proofs.Later.{IsLonger, longer-same_at}
use Rattle.branch_history.proofs.Lists.{AllByRecursion-more}
use Rattle.branch_history.proofs.Merging.{brought-one}
use Rattle.branch_history.proofs.Kept.{IsKept}
use Rattle.branch_history.proofs.Histories.{valid-kept}
use Rattle.branch_history.proofs.Valid.{by_moves, store_of-none, store_of-more, IsAccepted, IsAccepted-from, refusal_if-none, received_operation-tells}
use Rattle.branch_bundle_laws.proofs.Mapped.{apart-mapped}

-- the operation was made on the one parent, in range, and replied what this determines; its spellings are short
pub record IsOperationOn {S O R Q A : Type 0} (meaning : Meaning S O R Q A) (limit : ℕ) (commits : List (Commit O R)) (parents : List ℕ) (e : Event O R) : Type 0 where
  pub parent : ℕ
  pub parents_are : parents ≡ parent ∷ []
  pub stands : parent < length commits
  pub known : meaning.is_op e.operation
  pub replies : e.reply ≡ meaning.reply_of (visible commits parent) e.operation
  pub short : length (meaning.op_spelling e.operation) + length (meaning.reply_spelling e.reply) ≤ limit

-- the parents are a commit and one to eight others apart from it, and the clock is the greatest of theirs
pub record IsMergeOn {O R : Type 0} (commits : List (Commit O R)) (parents : List ℕ) (clock : ℕ) : Type 0 where
  pub parent : ℕ
  pub others : List ℕ
  pub parents_are : parents ≡ parent ∷ others
  pub stand : AreCommits commits (parent ∷ others)
  pub few : AreFew others
  pub apart : AreApart (graph_of commits) parent others
  pub greatest : clock ≡ greatest_clock commits (parent ∷ others)

abbrev pub IsMadeOn : {S O R Q A : Type 0} → Meaning S O R Q A → ℕ → List (Commit O R) → List ℕ → ℕ → Option (Event O R) → Type 0
IsMadeOn meaning limit commits parents clock None = IsMergeOn commits parents clock
IsMadeOn meaning limit commits parents clock (Some e) = IsOperationOn meaning limit commits parents e

-- each commit but the first
abbrev pub AreMade : {S O R Q A : Type 0} → Meaning S O R Q A → ℕ → List (Commit O R) → Type 0
AreMade meaning limit commits = (n : ℕ) → 0 < n → n < length commits → IsMadeOn meaning limit commits (parents_of (graph_of commits) n) (clock_of commits n) (event_of commits n)

module _ {S O R Q A : Type 0} (meaning : Meaning S O R Q A) (limit : ℕ) where
  module _ (old new : List (Commit O R)) (longer : IsLonger old new) (ranked : IsRanked (graph_of old)) where
    count : length old ≤ length new
    count = omega (arith, ap length longer.is, length-append old longer.more)

    stand-longer : (ns : List ℕ) → AreCommits old ns → AreCommits new ns
    stand-longer ns all = AllByRecursion-more (λ n. n < length old) (λ n. n < length new) ns (λ n lt. omega (arith, count)) all

    greatest-longer : (ns : List ℕ) → AreCommits old ns → greatest_clock new ns ≡ greatest_clock old ns
    greatest-longer [] all = refl
    greatest-longer (n ∷ ns) all = ap (λ k. max k (greatest_clock new ns)) (longer-same_at old new longer ranked n all.0).clock ∙ ap (λ k. max (clock_of old n) k) (greatest-longer ns all.1)

    apart-longer : (a : ℕ) (ns : List ℕ) → a < length old → AreCommits old ns → AreApart (graph_of old) a ns → AreApart (graph_of new) a ns
    apart-longer a ns lt all apart =
        subst (λ (l : List ℕ). AreApart (graph_of new) a l) (map-id ns)
        (apart-mapped (λ n. n) (λ n. n < length old) (λ n k _ _ is. is) (graph_of old) (graph_of new) (λ n m less _. (longer-same_at old new longer ranked n less).reach m) a ns lt all apart)

    -- what a commit was made on it was made on in a longer list
    pub made-longer : (parents : List ℕ) (clock : ℕ) (o : Option (Event O R)) → IsMadeOn meaning limit old parents clock o → IsMadeOn meaning limit new parents clock o
    made-longer parents clock None is = record {
      parent = is.parent;
      others = is.others;
      parents_are = is.parents_are;
      stand = stand-longer (is.parent ∷ is.others) is.stand;
      few = is.few;
      apart = apart-longer is.parent is.others is.stand.0 is.stand.1 is.apart;
      greatest = is.greatest ∙ sym (greatest-longer (is.parent ∷ is.others) is.stand);
    }
    made-longer parents clock (Some e) is = record {
      parent = is.parent;
      parents_are = is.parents_are;
      stands = let lt = is.stands in omega (arith, count);
      known = is.known;
      replies = is.replies ∙ ap (λ x. meaning.reply_of x e.operation) (sym (longer-same_at old new longer ranked is.parent is.stands).visible);
      short = is.short;
    }

  -- one more commit
  made-more : (old : List (Commit O R)) (c : Commit O R) → IsRanked (graph_of old) → AreMade meaning limit old → IsMadeOn meaning limit old c.parents c.clock c.event → AreMade meaning limit (old ++ c ∷ [])
  made-more old c ranked all is n positive lt =
      ⊎_elim
      (λ less.
      let at = longer-same_at old new longer ranked n less in
      carried (sym at.parents) (sym at.clock) (sym at.event) (made-longer old new longer ranked (parents_of (graph_of old) n) (clock_of old n) (event_of old n) (all n positive less)))
      (λ le.
      let same : length old ≡ n = omega (arith, le, length-append old (c ∷ [])) in
      subst (λ (k : ℕ). IsMadeOn meaning limit new (parents_of (graph_of new) k) (clock_of new k) (event_of new k)) same
      (carried (sym (parents_of-new old c)) (sym (clock_of-new old c)) (sym (event_of-new old c)) (made-longer old new longer ranked c.parents c.clock c.event is)))
      (cases_lt n (length old))
    where
      new : List (Commit O R)
      new = old ++ c ∷ []

      longer : IsLonger old new
      longer = record { more = c ∷ []; is = refl }

      carried : {ps qs : List ℕ} {a b : ℕ} {o p : Option (Event O R)} → ps ≡ qs → a ≡ b → o ≡ p → IsMadeOn meaning limit new ps a o → IsMadeOn meaning limit new qs b p
      carried {ps} {qs} {a} {b} {o} {p} parents clocks events made =
          subst (λ x. IsMadeOn meaning limit new qs b x) events (subst (λ k. IsMadeOn meaning limit new qs k o) clocks (subst (λ l. IsMadeOn meaning limit new l a o) parents made))

module _ {S O R Q A : Type 0} (meaning : Meaning S O R Q A) (terms : Terms) (laws : KeepsLaws meaning) where
  abbrev at : List (Move O R) → Store O R
  at moves = store_of terms.origin moves

  abbrev limit : ℕ
  limit = terms.limits.value

  -- an operation that can be prepared has short spellings
  operation-short : (commits : List (Commit O R)) (origin h : ℕ) (op : O) → operation_refusal meaning terms.limits commits origin h op ≡ None → length (meaning.op_spelling op) + length (meaning.reply_spelling (meaning.reply_of (visible commits h) op)) ≤ limit
  unfolding operation_refusal
  operation-short commits origin h op is =
      let clock : ℕ = clock_of commits h in
      let size : ℕ = event_length meaning (event_made meaning commits origin h op) (visible commits h) in
      let first = refusal_if-none (nat_le terms.limits.clock clock) (Exhausted clock) (refusal_if (nat_lt terms.limits.value size) (ValueTooLarge size) None) is in
      let second = refusal_if-none (nat_lt terms.limits.value size) (ValueTooLarge size) None first.1 in
      let least : size ≤ limit = ltb-false terms.limits.value size second.0 in
      omega arith

  operation-made : (commits : List (Commit O R)) (origin h : ℕ) (op : O) (reply : R) (e : Event O R) → h < length commits → meaning.is_op op → reply ≡ meaning.reply_of (visible commits h) op → operation_refusal meaning terms.limits commits origin h op ≡ None → e.operation ≡ op → e.reply ≡ reply → (parents : List ℕ) → parents ≡ h ∷ [] → IsOperationOn meaning limit commits parents e
  operation-made commits origin h op reply e stands known replies none ops rs parents are = record {
    parent = h;
    parents_are = are;
    stands = stands;
    known = subst meaning.is_op (sym ops) known;
    replies = rs ∙ replies ∙ ap (λ o. meaning.reply_of (visible commits h) o) (sym ops);
    short = omega (arith, ap (λ o. length (meaning.op_spelling o)) ops, ap (λ r. length (meaning.reply_spelling r)) (rs ∙ replies), operation-short commits origin h op none);
  }

  not-alone : (ms : List ℕ) → 2 ≤ length ms → (n : ℕ) → ms ≡ n ∷ [] → ⊥
  not-alone ms several n is = omega (arith, several, ap length is)

  -- what a move makes
  abbrev Keeps : List (Move O R) → Move O R → Type 0
  Keeps moves m = AreMade meaning limit (after_move terms.origin (at moves) m).commits

  made-accepted : (moves : List (Move O R)) (m : Move O R) → IsKept meaning terms (at moves) → AreMade meaning limit (at moves).commits → IsAccepted meaning terms moves m → Keeps moves m
  made-accepted moves (move.Fork name number from) kept all is = all
  made-accepted moves (move.Forward r m) kept all is = all
  made-accepted moves (move.Place name number n) kept all is = all
  made-accepted moves (move.Drop r) kept all is = all
  made-accepted moves (move.Operation r op reply) kept all is =
      let s = at moves in
      let h : ℕ = head_of s.branches r in
      let c : Commit O R = operation_commit s.commits (terms.origin + r) h op reply in
      made-more meaning limit s.commits c kept.ordered.ranked all
      (operation-made s.commits (terms.origin + r) h op reply (next_event (visible s.commits h) (record { clock = clock_of s.commits h + 1; origin = terms.origin + r }) op reply) (kept.ordered.heads r is.there) is.known is.replies is.prepared refl refl (h ∷ []) refl)
  made-accepted moves (move.Merge r m) kept all is =
      let s = at moves in
      let h : ℕ = head_of s.branches r in
      made-more meaning limit s.commits (merge_commit s.commits (terms.origin + r) (h ∷ m ∷ [])) kept.ordered.ranked all
      (record {
        parent = h;
        others = m ∷ [];
        parents_are = refl;
        stand = (kept.ordered.heads r is.there, (is.stands, tt));
        few = record { some = omega arith; few = omega arith };
        apart = record { brought = brought-one (graph_of s.commits) h m is.above; alone = λ k same. (let there : m ≡ k = cc same in ap (λ j. reaches (graph_of s.commits) j h) (sym there) ∙ is.below) };
        greatest = refl;
      })
  made-accepted moves (move.Join r ms) kept all is =
      let s = at moves in
      let h : ℕ = head_of s.branches r in
      made-more meaning limit s.commits (merge_commit s.commits (terms.origin + r) (h ∷ ms)) kept.ordered.ranked all
      (record {
        parent = h;
        others = ms;
        parents_are = refl;
        stand = (kept.ordered.heads r is.there, is.stands);
        few = record { some = let some = is.several in omega arith; few = is.few };
        apart = record { brought = is.apart; alone = λ k same. absurd (not-alone ms is.several k same) };
        greatest = refl;
      })
  made-accepted moves (move.Received parents origin clock None) kept all is =
      let s = at moves in
      made-more meaning limit s.commits (received_commit s.commits parents origin clock None) kept.ordered.ranked all
      (record {
        parent = is.parent;
        others = is.others;
        parents_are = is.parents_are;
        stand = (is.stands, is.all_stand);
        few = is.few;
        apart = is.apart;
        greatest = is.greatest ∙ ap (greatest_clock s.commits) is.parents_are;
      })
  made-accepted moves (move.Received parents origin clock (Some d)) kept all is =
      let s = at moves in
      made-more meaning limit s.commits (received_commit s.commits parents origin clock (Some d)) kept.ordered.ranked all
      (operation-made s.commits origin is.parent d.0 d.1 (next_event (visible_at_all s.commits parents) (record { clock = clock; origin = origin }) d.0 d.1) is.stands is.known is.replies (received_operation-tells meaning terms moves origin is.parent d.0 is.received).2 refl refl parents is.parents_are)

  fresh-made : AreMade meaning limit new_store.commits
  fresh-made n positive lt = absurd (omega arith)

  -- each commit of a valid history
  pub valid-made : (moves : List (Move O R)) → IsValid meaning terms moves → AreMade meaning limit (at moves).commits
  valid-made =
      by_moves meaning terms (λ moves. AreMade meaning limit (at moves).commits) (subst (λ (s : Store O R). AreMade meaning limit s.commits) (sym (store_of-none terms.origin)) fresh-made)
      (λ moves m valid all is.
      subst (λ (s : Store O R). AreMade meaning limit s.commits) (sym (store_of-more terms.origin moves m))
      (made-accepted moves m (valid-kept meaning terms laws moves valid) all (IsAccepted-from meaning terms moves m is)))
