-- Each move that stays is one that the machine makes at its new place, and makes there what it made.
use Rattle.std.proofs.Common.{◌≡◌, ℕ, ◌+◌, ◌<◌, ◌≤◌, Bool, false, ◌==◌, List, [], ◌∷◌, ◌++◌, length, map, refl, ap, sym, ◌∙◌, arith, IsTrue, Option, Some, None, subst, length-append, nat_lt}
use Rattle.std.specs.Prelude.{nat_le}
use Rattle.std.specs.Option.{option_map}
use Rattle.std.proofs.lemmas.Bool.{both_ways, eq-eqb}
use Rattle.std.proofs.lemmas.List.{map-append, length-map}
use Rattle.mrdt_model.specs.declared.time.Time.{Time}
use Rattle.mrdt_model.specs.Executions.{Event, next_event}
use Rattle.mrdt_model.specs.Laws.{Meaning}
use Rattle.branch_names.specs.declared.limits.Limits.{Limits}
use Rattle.branch_names.specs.Names.{is_name}
use Rattle.branch_graph.specs.Graph.{IsRanked, reaches, parents_of}
use Rattle.branch_history.specs.declared.moves.Move.{Move}
use Rattle.branch_history.specs.declared.moves.Move.TheVariants as move
use Rattle.branch_names.specs.declared.terms.Terms.{Terms}
use Rattle.branch_names.specs.Terms.{is_own}
use Rattle.branch_names.specs.Heads.{name_of, head_of, branch_named, with_head}
use Rattle.branch_history.specs.Commits.{Commit, graph_of, clock_of, greatest_clock, visible, visible_at_all, commit_at_time}
use Rattle.branch_history.specs.Merging.{brought, AreApart, AreFew}
use Rattle.branch_history.specs.History.{Store, store_of, operation_commit, merge_commit, received_commit}
use Rattle.branch_history.specs.Steps.{Refusal, Exhausted, ValueTooLarge, OwnOrigin, TimeClash}
use Rattle.branch_history.specs.Machine.{refusal_if, or_later, unless_own, clash_refusal, event_made, event_length, operation_refusal, merge_refusal, room_refusal, fork_refusal, forward_refusal, commit_refusal, received_operation_refusal, received_merge_refusal}
use Rattle.branch_history.specs.Validity.{AreCommits, IsMove}
use Rattle.branch_names.specs.Heads.{IsKeptBranch}
use Rattle.branch_history.proofs.Lists.{AllByRecursion-more}
use Rattle.branch_history.proofs.Grown.{parents_of-new}
use Rattle.branch_history.proofs.Valid.{IsPlace, IsOperation, IsMerge, IsJoin, IsForward, IsDrop, IsReceived, commit-tells, forward-tells, drop-tells, move-room, new-room, fork-room, received_operation-tells, received_merge-tells}
use Rattle.branch_history.proofs.Kept.{IsKept}
use Rattle.branch_history.proofs.Turns as turns
use Rattle.branch_compact.specs.Compact.{new_number, at_places, renumbered_commit, kept_commits}
use Rattle.branch_compact.specs.Laws.{HaveSameNames}
use Rattle.branch_compact.proofs.Numbers.{number-low, number-less, places-kept, places-gone}
use Rattle.branch_compact.proofs.Thinned.{IsDownward, AreKept, length-kept, clock-kept, greatest-kept, no-time-kept, parents-down, reaches-kept, visible-kept, visible_at_all-kept, brought-kept}
use Rattle.branch_compact.proofs.Branches.{named-same, named-own, same-moved, same-left, HaveHeads, heads-moved, heads-left}

-- of the commits of the one store those that are kept are those of the other, and its branches are those of the other
pub record IsThinned {O R : Type 0} (keep : ℕ → Bool) (s t : Store O R) : Type 0 where
  pub commits : t.commits ≡ kept_commits keep s.commits
  pub names : HaveSameNames s.branches t.branches
  pub heads : HaveHeads keep s.branches t.branches

-- and parents come first in both, and what a commit reaches that is kept is kept
pub record IsFollowed {O R : Type 0} (keep : ℕ → Bool) (s t : Store O R) : Type 0 where
  pub thin : IsThinned keep s t
  pub ranked : IsRanked (graph_of s.commits)
  pub later : IsRanked (graph_of t.commits)
  pub down : IsDownward keep (graph_of s.commits)

-- and so of two histories
pub record AreFollowed {S O R Q A : Type 0} (meaning : Meaning S O R Q A) (terms : Terms) (keep : ℕ → Bool) (moves others : List (Move O R)) : Type 0 where
  pub few : length others ≤ length moves
  pub kept : IsKept meaning terms (store_of terms.origin moves)
  pub next : IsKept meaning terms (store_of terms.origin others)
  pub thin : IsThinned keep (store_of terms.origin moves) (store_of terms.origin others)
  pub down : IsDownward keep (graph_of (store_of terms.origin moves).commits)

pub followed : {S O R Q A : Type 0} {meaning : Meaning S O R Q A} {terms : Terms} {keep : ℕ → Bool} {moves others : List (Move O R)} → AreFollowed meaning terms keep moves others → IsFollowed keep (store_of terms.origin moves) (store_of terms.origin others)
followed w = record { thin = w.thin; ranked = w.kept.ordered.ranked; later = w.next.ordered.ranked; down = w.down }

-- why nothing of an operation or a merge is refused, by what is seen
module _ {S O R Q A : Type 0} (meaning : Meaning S O R Q A) (limits : Limits) where
  abbrev refused : ℕ → O → ℕ → List (Event O R) → Option Refusal
  refused origin op clock x =
      let size = event_length meaning (next_event x (record { clock = clock + 1; origin = origin }) op (meaning.reply_of x op)) x in
      refusal_if (nat_le limits.clock clock) (Exhausted clock)
      (refusal_if (nat_lt limits.value size) (ValueTooLarge size) None)

  operation-alike : (first second : List (Commit O R)) (origin h k : ℕ) (op : O) → clock_of second k ≡ clock_of first h → visible second k ≡ visible first h → operation_refusal meaning limits second origin k op ≡ operation_refusal meaning limits first origin h op
  unfolding operation_refusal
  operation-alike first second origin h k op clock seen = ap (λ c. refused origin op c (visible second k)) clock ∙ ap (λ x. refused origin op (clock_of first h) x) seen

  merge-alike : (first second : List (Commit O R)) (hs ks : List ℕ) → visible_at_all second ks ≡ visible_at_all first hs → merge_refusal meaning limits second ks ≡ merge_refusal meaning limits first hs
  unfolding merge_refusal
  merge-alike first second hs ks seen = ap (λ x. refusal_if (nat_lt limits.value (length (meaning.spelling_of x))) (ValueTooLarge (length (meaning.spelling_of x))) None) seen

-- one more commit
module _ {O R : Type 0} (keep : ℕ → Bool) (cs : List (Commit O R)) (c : Commit O R) where
  pub kept-more : IsTrue (keep (length cs)) → kept_commits keep (cs ++ c ∷ []) ≡ kept_commits keep cs ++ renumbered_commit keep c ∷ []
  kept-more is = ap (map (renumbered_commit keep)) (places-kept keep cs c is) ∙ map-append (renumbered_commit keep) (at_places keep 0 cs) (c ∷ [])

  pub kept-gone : keep (length cs) ≡ false → kept_commits keep (cs ++ c ∷ []) ≡ kept_commits keep cs
  kept-gone is = ap (map (renumbered_commit keep)) (places-gone keep cs c is)

  -- its parents are kept where it is
  pub parents-next : IsRanked (graph_of (cs ++ c ∷ [])) → IsDownward keep (graph_of (cs ++ c ∷ [])) → IsTrue (keep (length cs)) → AreKept keep c.parents
  parents-next ranked down is =
      let size = length-append cs (c ∷ []) in
      subst (AreKept keep) (parents_of-new cs c)
      (AllByRecursion-more (λ p. IsTrue (keep p) × (p < length cs)) (λ p. IsTrue (keep p)) (parents_of (graph_of (cs ++ c ∷ [])) (length cs)) (λ p both. both.0)
      (parents-down keep (cs ++ c ∷ []) ranked down (length cs) (omega (arith, size)) is))

module _ {O R : Type 0} {keep : ℕ → Bool} {s t : Store O R} (w : IsFollowed keep s t) where
  abbrev r : ℕ → ℕ
  r = new_number keep

  again : IsRanked (graph_of (kept_commits keep s.commits))
  again = subst (λ (cs : List (Commit O R)). IsRanked (graph_of cs)) w.thin.commits w.later

  pub count : length t.commits ≡ r (length s.commits)
  count = ap length w.thin.commits ∙ length-kept keep s.commits

  pub fewer : length t.commits ≤ length s.commits
  fewer = omega (arith, count, number-low keep (length s.commits))

  pub stand : (n : ℕ) → n < length s.commits → IsTrue (keep n) → r n < length t.commits
  stand n lt is = omega (arith, count, number-less keep n (length s.commits) is lt)

  pub stand_all : (ns : List ℕ) → AreCommits s.commits ns → AreKept keep ns → AreCommits t.commits (map r ns)
  stand_all [] all kept = tt
  stand_all (n ∷ ns) all kept = (stand n all.0 kept.0, stand_all ns all.1 kept.1)

  module _ (n : ℕ) (lt : n < length s.commits) (is : IsTrue (keep n)) where
    pub clock-same : clock_of t.commits (r n) ≡ clock_of s.commits n
    clock-same = ap (λ cs. clock_of cs (r n)) w.thin.commits ∙ clock-kept keep s.commits n lt is

    pub visible-same : visible t.commits (r n) ≡ visible s.commits n
    visible-same = ap (λ cs. visible cs (r n)) w.thin.commits ∙ visible-kept keep s.commits w.ranked again w.down n lt is

    pub reaches-same : (m : ℕ) → IsTrue (keep m) → reaches (graph_of t.commits) (r n) (r m) ≡ reaches (graph_of s.commits) n m
    reaches-same m kept_m = ap (λ cs. reaches (graph_of cs) (r n) (r m)) w.thin.commits ∙ reaches-kept keep s.commits w.ranked again w.down n m lt is kept_m

    pub brought-same : (ns : List ℕ) → AreCommits s.commits ns → AreKept keep ns → brought (graph_of t.commits) (r n) (map r ns) ≡ map r (brought (graph_of s.commits) n ns)
    brought-same ns all kept = ap (λ cs. brought (graph_of cs) (r n) (map r ns)) w.thin.commits ∙ brought-kept keep s.commits w.ranked again w.down n ns (lt, is) all kept

  module _ (ns : List ℕ) (all : AreCommits s.commits ns) (kept : AreKept keep ns) where
    pub greatest-same : greatest_clock t.commits (map r ns) ≡ greatest_clock s.commits ns
    greatest-same = ap (λ cs. greatest_clock cs (map r ns)) w.thin.commits ∙ greatest-kept keep s.commits ns all kept

    pub visible_at_all-same : visible_at_all t.commits (map r ns) ≡ visible_at_all s.commits ns
    visible_at_all-same = ap (λ cs. visible_at_all cs (map r ns)) w.thin.commits ∙ visible_at_all-kept keep s.commits w.ranked again w.down ns all kept

  pub no-time-same : (at : Time) → commit_at_time s.commits at ≡ None → commit_at_time t.commits at ≡ None
  no-time-same at none = ap (λ cs. commit_at_time cs at) w.thin.commits ∙ no-time-kept keep s.commits at none

  -- the commits of moves
  pub operation-same : (origin h : ℕ) (op : O) (reply : R) → h < length s.commits → IsTrue (keep h) → operation_commit t.commits origin (r h) op reply ≡ renumbered_commit keep (operation_commit s.commits origin h op reply)
  operation-same origin h op reply lt is =
      ap (λ x. record { parents = r h ∷ []; origin = origin; clock = clock_of t.commits (r h) + 1; event = Some (next_event x (record { clock = clock_of t.commits (r h) + 1; origin = origin }) op reply) }) (visible-same h lt is)
      ∙ ap (λ c. record { parents = r h ∷ []; origin = origin; clock = c + 1; event = Some (next_event (visible s.commits h) (record { clock = c + 1; origin = origin }) op reply) }) (clock-same h lt is)

  pub merge-same : (origin : ℕ) (ps : List ℕ) → AreCommits s.commits ps → AreKept keep ps → merge_commit t.commits origin (map r ps) ≡ renumbered_commit keep (merge_commit s.commits origin ps)
  merge-same origin ps all kept = ap (λ c. record { parents = map r ps; origin = origin; clock = c; event = None }) (greatest-same ps all kept)

  pub received-same : (ps : List ℕ) (origin clock : ℕ) (act : Option (O × R)) → AreCommits s.commits ps → AreKept keep ps → received_commit t.commits (map r ps) origin clock act ≡ renumbered_commit keep (received_commit s.commits ps origin clock act)
  received-same ps origin clock act all kept =
      ap (λ x. record { parents = map r ps; origin = origin; clock = clock; event = option_map (λ d. next_event x (record { clock = clock; origin = origin }) d.0 d.1) act }) (visible_at_all-same ps all kept)

  -- a new commit in both, or in the first alone
  pub thinned-commit : (q : ℕ) (c d : Commit O R) → q < length s.branches → IsTrue (keep (length s.commits)) → d ≡ renumbered_commit keep c
      → IsThinned keep (record { commits = s.commits ++ c ∷ []; branches = with_head s.branches q (length s.commits) }) (record { commits = t.commits ++ d ∷ []; branches = with_head t.branches q (length t.commits) })
  thinned-commit q c d there is same = record {
    commits = ap (λ e. t.commits ++ e ∷ []) same ∙ ap (λ cs. cs ++ renumbered_commit keep c ∷ []) w.thin.commits ∙ sym (kept-more keep s.commits c is);
    names = same-moved s.branches t.branches w.thin.names q (length s.commits) (length t.commits);
    heads = heads-moved keep s.branches t.branches w.thin.names w.thin.heads q (length s.commits) (length t.commits) there count;
  }

  pub thinned-without : (q : ℕ) (c : Commit O R) → q < length s.branches → keep (length s.commits) ≡ false → IsThinned keep (record { commits = s.commits ++ c ∷ []; branches = with_head s.branches q (length s.commits) }) t
  thinned-without q c there gone = record {
    commits = w.thin.commits ∙ sym (kept-gone keep s.commits c gone);
    names = same-left s.branches t.branches w.thin.names q (length s.commits);
    heads = heads-left keep s.branches t.branches w.thin.names w.thin.heads q (length s.commits) there gone;
  }

-- the moves
module _ {S O R Q A : Type 0} {meaning : Meaning S O R Q A} {terms : Terms} {keep : ℕ → Bool} {moves others : List (Move O R)} (w : AreFollowed meaning terms keep moves others) where
  abbrev s : Store O R
  s = store_of terms.origin moves

  abbrev t : Store O R
  t = store_of terms.origin others

  abbrev f : ℕ → ℕ
  f = new_number keep

  -- no refusal for want of room
  less : length moves < terms.limits.moves → length others < terms.limits.moves
  less lt = let few = w.few in omega (arith, few, lt)

  room : room_refusal terms moves ≡ None → room_refusal terms others ≡ None
  room is =
      let was = new-room meaning terms moves is in
      let lt = was.0 in
      turns.room-none terms others (omega (arith, lt, fewer (followed w))) (less was.1)

  fork-free : fork_refusal terms moves ≡ None → fork_refusal terms others ≡ None
  fork-free is =
      let was = fork-room meaning terms moves is in
      let lt = was.0 in
      turns.fork-moves terms others (omega (arith, lt, w.thin.names.count)) ∙ turns.moves-none terms others (less was.1)

  -- the head of a branch that was not dropped, where it is kept
  module _ (q : ℕ) (there : q < length s.branches) (is : IsTrue (keep (head_of s.branches q))) where
    head : head_of t.branches q ≡ f (head_of s.branches q)
    head = w.thin.heads q there is

    there_too : q < length t.branches
    there_too = omega (arith, w.thin.names.count)

    commit-free : commit_refusal terms moves q (head_of s.branches q) ≡ None → commit_refusal terms others q (f (head_of s.branches q)) ≡ None
    commit-free none =
        let tells = commit-tells meaning terms moves q (head_of s.branches q) none in
        turns.commit-room terms others q (f (head_of s.branches q)) (w.thin.names.dropped q ∙ tells.0) head ∙ room tells.2

    forward-free : forward_refusal terms moves q (head_of s.branches q) ≡ None → forward_refusal terms others q (f (head_of s.branches q)) ≡ None
    forward-free none =
        let tells = forward-tells meaning terms moves q (head_of s.branches q) none in
        turns.forward-moves terms others q (f (head_of s.branches q)) (w.thin.names.dropped q ∙ tells.0) head ∙ turns.moves-none terms others (less (move-room meaning terms moves tells.2))

  -- a new branch, from one that was not dropped
  pub fork-moves : (name : List ℕ) (number from : ℕ) → IsTrue (is_name name) → number ≡ length s.branches → branch_named s.branches name ≡ None → IsKeptBranch t.branches from → fork_refusal terms moves ≡ None → IsMove meaning terms others (move.Fork name number from)
  fork-moves name number from named next free there none =
      let e : length t.branches ≡ number = w.thin.names.count ∙ sym next in
      subst (λ (k : ℕ). IsMove meaning terms others (move.Fork name k from)) e
      (turns.IsMove-fork meaning terms others name (name_of t.branches from) from named (named-own t.branches from w.next.ordered.distinct there) (named-same s.branches t.branches w.thin.names name ∙ free) (fork-free none))

  pub place-moves : (name : List ℕ) (number n : ℕ) → IsPlace terms moves name number n → IsTrue (keep n) → IsMove meaning terms others (move.Place name number (f n))
  place-moves name number n is kept_n =
      let e : length t.branches ≡ number = w.thin.names.count ∙ sym is.next in
      subst (λ (k : ℕ). IsMove meaning terms others (move.Place name k (f n))) e
      (turns.IsMove-place meaning terms others name (f n) is.named (stand (followed w) n is.stands kept_n) (named-same s.branches t.branches w.thin.names name ∙ is.free) (fork-free is.landed))

  pub operation-moves : (q : ℕ) (op : O) (reply : R) → IsOperation meaning terms moves q op reply → IsTrue (keep (head_of s.branches q)) → IsMove meaning terms others (move.Operation q op reply)
  operation-moves q op reply is kept_h =
      let h : ℕ = head_of s.branches q in
      let lt : h < length s.commits = w.kept.ordered.heads q is.there in
      let seen = visible-same (followed w) h lt kept_h in
      let replies : meaning.reply_of (visible t.commits (f h)) op ≡ reply = ap (λ x. meaning.reply_of x op) seen ∙ sym is.replies in
      subst (λ (a : R). IsMove meaning terms others (move.Operation q op a)) replies
      (turns.IsMove-operation meaning terms others q (f h) op (there_too q is.there kept_h) (stand (followed w) h lt kept_h) is.known
      (operation-alike meaning terms.limits s.commits t.commits (terms.origin + q) h (f h) op (clock-same (followed w) h lt kept_h) seen ∙ is.prepared)
      (commit-free q is.there kept_h is.landed))

  pub merge-moves : (q m : ℕ) → IsMerge meaning terms moves q m → IsTrue (keep (head_of s.branches q)) → IsTrue (keep m) → IsMove meaning terms others (move.Merge q (f m))
  merge-moves q m is kept_h kept_m =
      let h : ℕ = head_of s.branches q in
      let lt : h < length s.commits = w.kept.ordered.heads q is.there in
      turns.IsMove-merge meaning terms others q (f h) (f m) (there_too q is.there kept_h) (stand (followed w) h lt kept_h) (stand (followed w) m is.stands kept_m)
      (reaches-same (followed w) h lt kept_h m kept_m ∙ is.above)
      (reaches-same (followed w) m is.stands kept_m h kept_h ∙ is.below)
      (merge-alike meaning terms.limits s.commits t.commits (h ∷ m ∷ []) (f h ∷ f m ∷ []) (visible_at_all-same (followed w) (h ∷ m ∷ []) (lt, (is.stands, tt)) (kept_h, (kept_m, tt))) ∙ is.prepared)
      (commit-free q is.there kept_h is.landed)

  pub join-moves : (q : ℕ) (ms : List ℕ) → IsJoin meaning terms moves q ms → IsTrue (keep (head_of s.branches q)) → AreKept keep ms → IsMove meaning terms others (move.Join q (map f ms))
  join-moves q ms is kept_h kept_ms = at ms is.several (stand_all (followed w) ms is.stands kept_ms) (omega (arith, length-map ms f, is.few)) apart prepared
    where
      h : ℕ
      h = head_of s.branches q

      lt : head_of s.branches q < length s.commits
      lt = w.kept.ordered.heads q is.there

      apart : brought (graph_of t.commits) (f (head_of s.branches q)) (map f ms) ≡ map f ms
      apart = brought-same (followed w) (head_of s.branches q) lt kept_h ms is.stands kept_ms ∙ ap (map f) is.apart

      prepared : merge_refusal meaning terms.limits t.commits (f (head_of s.branches q) ∷ map f ms) ≡ None
      prepared = merge-alike meaning terms.limits s.commits t.commits (head_of s.branches q ∷ ms) (f (head_of s.branches q) ∷ map f ms) (visible_at_all-same (followed w) (head_of s.branches q ∷ ms) (lt, is.stands) (kept_h, kept_ms)) ∙ is.prepared

      at : (ks : List ℕ) → 2 ≤ length ks → AreCommits t.commits (map f ks) → length (map f ks) ≤ 8 → brought (graph_of t.commits) (f (head_of s.branches q)) (map f ks) ≡ map f ks → merge_refusal meaning terms.limits t.commits (f (head_of s.branches q) ∷ map f ks) ≡ None → IsMove meaning terms others (move.Join q (map f ks))
      at [] several all size apart free = absurd (omega arith)
      at (m ∷ []) several all size apart free = absurd (omega arith)
      at (m ∷ k ∷ ks) several all size apart free =
          turns.IsMove-join meaning terms others q (f (head_of s.branches q)) (f m) (f k) (map f ks) (there_too q is.there kept_h) (stand (followed w) (head_of s.branches q) lt kept_h) all size apart free (commit-free q is.there kept_h is.landed)

  pub forward-moves : (q m : ℕ) → IsForward terms moves q m → IsTrue (keep (head_of s.branches q)) → IsTrue (keep m) → IsMove meaning terms others (move.Forward q (f m))
  forward-moves q m is kept_h kept_m =
      let h : ℕ = head_of s.branches q in
      let lt : h < length s.commits = w.kept.ordered.heads q is.there in
      turns.IsMove-forward meaning terms others q (f h) (f m) (there_too q is.there kept_h) (stand (followed w) h lt kept_h) (stand (followed w) m is.stands kept_m)
      (reaches-same (followed w) h lt kept_h m kept_m ∙ is.above)
      (reaches-same (followed w) m is.stands kept_m h kept_h ∙ is.below)
      (forward-free q is.there kept_h is.landed)

  pub drop-moves : (q : ℕ) → IsDrop terms moves q → IsMove meaning terms others (move.Drop q)
  drop-moves q is =
      let tells = drop-tells meaning terms moves q (head_of s.branches q) is.landed in
      let there : q < length t.branches = let lt = is.there in omega (arith, w.thin.names.count, lt) in
      turns.IsMove-drop meaning terms others q (head_of t.branches q) there (w.next.ordered.heads q there)
      (turns.drop-moves terms others q (head_of t.branches q) (w.thin.names.dropped q ∙ tells.0) (λ e. both_ways (q == 0) tells.1 (eq-eqb q 0 e)) refl ∙ turns.moves-none terms others (less (move-room meaning terms moves tells.3)))

  own-none : (origin : ℕ) (rest : Option Refusal) → is_own terms origin ≡ false → rest ≡ None → unless_own terms origin rest ≡ None
  own-none origin rest other none = turns.refusal_if-false (is_own terms origin) OwnOrigin rest other ∙ none

  received_operation-free : (origin h : ℕ) (op : O) → h < length s.commits → IsTrue (keep h) → received_operation_refusal meaning terms moves origin h op ≡ None → received_operation_refusal meaning terms others origin (f h) op ≡ None
  unfolding received_operation_refusal
  received_operation-free origin h op lt kept_h none =
      let tells = received_operation-tells meaning terms moves origin h op none in
      let clock = clock-same (followed w) h lt kept_h in
      let time : (event_made meaning t.commits origin (f h) op).time ≡ (event_made meaning s.commits origin h op).time = ap (λ c. record { clock = c + 1; origin = origin }) clock in
      let clear : commit_at_time t.commits (event_made meaning t.commits origin (f h) op).time ≡ None = ap (commit_at_time t.commits) time ∙ no-time-same (followed w) (event_made meaning s.commits origin h op).time tells.1 in
      let prepared : operation_refusal meaning terms.limits t.commits origin (f h) op ≡ None = operation-alike meaning terms.limits s.commits t.commits origin h (f h) op clock (visible-same (followed w) h lt kept_h) ∙ tells.2 in
      own-none origin (or_later (clash_refusal t.commits (event_made meaning t.commits origin (f h) op).time) (or_later (operation_refusal meaning terms.limits t.commits origin (f h) op) (room_refusal terms others))) tells.0
      (ap (λ o. or_later (option_map (λ n. TimeClash n) o) (or_later (operation_refusal meaning terms.limits t.commits origin (f h) op) (room_refusal terms others))) clear
      ∙ ap (λ o. or_later o (room_refusal terms others)) prepared ∙ room tells.3)

  received_merge-free : (origin : ℕ) (ps : List ℕ) → AreCommits s.commits ps → AreKept keep ps → received_merge_refusal meaning terms moves origin ps ≡ None → received_merge_refusal meaning terms others origin (map f ps) ≡ None
  unfolding received_merge_refusal
  received_merge-free origin ps all kept_ps none =
      let tells = received_merge-tells meaning terms moves origin ps none in
      let prepared : merge_refusal meaning terms.limits t.commits (map f ps) ≡ None = merge-alike meaning terms.limits s.commits t.commits ps (map f ps) (visible_at_all-same (followed w) ps all kept_ps) ∙ tells.1 in
      own-none origin (or_later (merge_refusal meaning terms.limits t.commits (map f ps)) (room_refusal terms others)) tells.0 (ap (λ o. or_later o (room_refusal terms others)) prepared ∙ room tells.2)

  -- commits that are apart are so by their new numbers
  apart-same : (h : ℕ) (ms : List ℕ) → h < length s.commits → IsTrue (keep h) → AreCommits s.commits ms → AreKept keep ms → AreApart (graph_of s.commits) h ms → AreApart (graph_of t.commits) (f h) (map f ms)
  apart-same h ms lt kept_h all kept_ms apart = record {
    brought = brought-same (followed w) h lt kept_h ms all kept_ms ∙ ap (map f) apart.brought;
    alone = λ n is. at ms refl n is all kept_ms;
  }
    where
      at : (ks : List ℕ) → ms ≡ ks → (n : ℕ) → map f ks ≡ n ∷ [] → AreCommits s.commits ks → AreKept keep ks → reaches (graph_of t.commits) n (f h) ≡ false
      at [] e n is all kept_ks = absurd (cc)
      at (m ∷ []) e n is all kept_ks =
          let same : f m ≡ n = cc is in
          ap (λ j. reaches (graph_of t.commits) j (f h)) (sym same) ∙ reaches-same (followed w) m all.0 kept_ks.0 h kept_h ∙ apart.alone m e
      at (m ∷ k ∷ ks) e n is all kept_ks = absurd (cc)

  few-same : (ms : List ℕ) → AreFew ms → AreFew (map f ms)
  few-same ms few = record { some = let h = few.some in omega (arith, length-map ms f, h); few = let h = few.few in omega (arith, length-map ms f, h) }

  pub received-moves : (ps : List ℕ) (origin clock : ℕ) (act : Option (O × R)) → IsReceived meaning terms moves ps origin clock act → AreKept keep ps → IsMove meaning terms others (move.Received (map f ps) origin clock act)
  received-moves ps origin clock None is kept_ps =
      let p : ℕ = is.parent in
      let ms : List ℕ = is.others in
      let all : AreKept keep (p ∷ ms) = subst (AreKept keep) is.parents_are kept_ps in
      let clocks : greatest_clock t.commits (f p ∷ map f ms) ≡ clock = greatest-same (followed w) (p ∷ ms) (is.stands, is.all_stand) all ∙ ap (greatest_clock s.commits) (sym is.parents_are) ∙ sym is.greatest in
      let free = received_merge-free origin (p ∷ ms) (is.stands, is.all_stand) all (subst (λ (qs : List ℕ). received_merge_refusal meaning terms moves origin qs ≡ None) is.parents_are is.received) in
      subst (λ (qs : List ℕ). IsMove meaning terms others (move.Received (map f qs) origin clock None)) (sym is.parents_are)
      (subst (λ (k : ℕ). IsMove meaning terms others (move.Received (f p ∷ map f ms) origin k None)) clocks
      (turns.IsMove-received_merge meaning terms others origin (f p) (map f ms) is.small (stand (followed w) p is.stands all.0) (stand_all (followed w) ms is.all_stand all.1) (few-same ms is.few) (apart-same p ms is.stands all.0 is.all_stand all.1 is.apart) free))
  received-moves ps origin clock (Some d) is kept_ps =
      let p : ℕ = is.parent in
      let all : AreKept keep (p ∷ []) = subst (AreKept keep) is.parents_are kept_ps in
      let clocks : clock_of t.commits (f p) + 1 ≡ clock = ap (λ c. c + 1) (clock-same (followed w) p is.stands all.0) ∙ sym is.next in
      let replies : meaning.reply_of (visible t.commits (f p)) d.0 ≡ d.1 = ap (λ x. meaning.reply_of x d.0) (visible-same (followed w) p is.stands all.0) ∙ sym is.replies in
      subst (λ (qs : List ℕ). IsMove meaning terms others (move.Received (map f qs) origin clock (Some d))) (sym is.parents_are)
      (subst (λ (k : ℕ). IsMove meaning terms others (move.Received (f p ∷ []) origin k (Some d))) clocks
      (subst (λ (a : R). IsMove meaning terms others (move.Received (f p ∷ []) origin (clock_of t.commits (f p) + 1) (Some (d.0, a)))) replies
      (turns.IsMove-received_operation meaning terms others origin (f p) d.0 is.small (stand (followed w) p is.stands all.0) is.known (received_operation-free origin p d.0 is.stands all.0 is.received))))
