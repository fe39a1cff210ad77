-- What is kept of the commits of a history, one move after the other.
use Rattle.std.proofs.Common.{◌≡◌, ℕ, ◌+◌, ◌<◌, ◌≤◌, ◌^◌, List, [], ◌∷◌, ◌++◌, length, map, max, take, drop, get_or, refl, ap, sym, ◌∙◌, subst, arith, Option, None, Some, append-nil, length-append, take-append-drop}
use Rattle.std.specs.Prelude.{slice_get, option_map, option_and_then, IfSome}
use Rattle.std.specs.Option.{option_map_or}
use Rattle.std.proofs.lemmas.List.{map-append, length-map, take_more, take_all, drop_more}
use Rattle.std.proofs.lemmas.Option.{slice_get-map, slice_get_read, slice_get-get_or}
use Rattle.mrdt_model.specs.Executions.{Event}
use Rattle.branch_names.specs.declared.terms.Terms.{Terms}
use Rattle.branch_names.specs.Heads.{head_of}
use Rattle.branch_graph.specs.Graph.{parents_of}
use Rattle.branch_history.specs.declared.moves.Move.{Move}
use Rattle.branch_history.specs.declared.moves.Move.TheVariants as move
use Rattle.branch_history.specs.Commits.{Commit, graph_of, clock_of, origin_of, greatest_clock}
use Rattle.branch_history.specs.History.{Store, store_of, after_move, operation_commit, merge_commit, received_commit}
use Rattle.branch_history.proofs.Grown.{length-graph, clock_of-new, origin_of-new, parents_of-old, parents_of-new}
use Rattle.branch_history.proofs.Later.{IsLonger, commits-longer}
use Rattle.branch_history.proofs.Valid.{store_of-none, store_of-more}
use Rattle.branch_history.specs.Laws.{IsWithin, IsOrdered}
use Rattle.branch_compact.specs.Compact.{commits_made}
use Rattle.branch_compact.proofs.Moves.{length-after}
use Rattle.branch_print.specs.Texts.{at_most_one}
use Rattle.branch_log.specs.declared.reading.Made.{Made}
use Rattle.branch_log.specs.Made.{act_of, event_told, unseen, AreMade, greatest_made, made_by, IsInRange}

-- the same number of two values, or of none
same-number : {A B : Type 0} (f : A → ℕ) (g : B → ℕ) (a : Option A) (b : Option B) → option_map f a ≡ option_map g b → option_map_or f a 0 ≡ option_map_or g b 0
same-number f g None None is = refl
same-number f g None (Some y) is = absurd (cc)
same-number f g (Some x) None is = absurd (cc)
same-number f g (Some x) (Some y) is = cc

-- the greatest clock so far, and those of the commits to come, of which the next is read
pub greatest-step : (made : List Made) (ns : List ℕ) (i so_far next : ℕ) (d : Made) → i < length ns → get_or ns i 0 < length made → next ≡ max (get_or made (get_or ns i 0) d).clock so_far
    → max next (greatest_made made (drop (i + 1) ns)) ≡ max so_far (greatest_made made (drop i ns))
greatest-step made ns i so_far next d lt there is =
    let n = get_or ns i 0 in
    let rest = greatest_made made (drop (i + 1) ns) in
    let here : greatest_made made (drop i ns) ≡ max (get_or made n d).clock rest =
    ap (greatest_made made) (drop_more ns i 0 lt) ∙ ap (λ (o : Option Made). max (option_map_or (λ (m : Made). m.clock) o 0) rest) (slice_get-get_or made n d there) in
    omega (arith, is, here)

module _ {O R : Type 0} (moves : List (Move O R)) where
  -- the first commit
  pub made-none : (first : ℕ) (made : List Made) → made ≡ (record { origin = 0; clock = 0; place = None }) ∷ [] → AreMade moves (store_of {O = O} {R = R} first []).commits made
  made-none first made is =
      subst (λ (s : Store O R). AreMade moves s.commits made) (sym (store_of-none first)) (record {
        origins = ap (map (λ (m : Made). m.origin)) is;
        clocks = ap (map (λ (m : Made). m.clock)) is;
        events = ap (map (event_told moves)) is;
      })

  -- the clocks that are kept
  pub clock-made : (commits : List (Commit O R)) (made : List Made) → AreMade moves commits made → (n : ℕ) → option_map_or (λ (m : Made). m.clock) (slice_get made n) 0 ≡ clock_of commits n
  clock-made commits made are n =
      same-number (λ (m : Made). m.clock) (λ (c : Commit O R). c.clock) (slice_get made n) (slice_get commits n)
      (sym (slice_get-map (λ (m : Made). m.clock) made n) ∙ ap (λ (xs : List ℕ). slice_get xs n) are.clocks ∙ slice_get-map (λ (c : Commit O R). c.clock) commits n)

  pub greatest-made : (commits : List (Commit O R)) (made : List Made) → AreMade moves commits made → (ns : List ℕ) → greatest_made made ns ≡ greatest_clock commits ns
  greatest-made commits made are [] = refl
  greatest-made commits made are (n ∷ ns) =
      ap (λ k. max k (greatest_made made ns)) (clock-made commits made are n) ∙ ap (max (clock_of commits n)) (greatest-made commits made are ns)

  -- as many are kept as there are
  pub count-made : (commits : List (Commit O R)) (made : List Made) → AreMade moves commits made → length made ≡ length commits
  count-made commits made are =
      sym (length-map made (λ (m : Made). m.clock)) ∙ ap length are.clocks ∙ length-map commits (λ (c : Commit O R). c.clock)

  -- one commit more, of which this is kept
  pub record IsOneMore (before after : List (Commit O R)) (m : Made) : Type 0 where
    pub commit : Commit O R
    pub is : after ≡ before ++ commit ∷ []
    pub origin : m.origin ≡ commit.origin
    pub clock : m.clock ≡ commit.clock
    pub event : event_told moves m ≡ option_map unseen commit.event

  -- or none
  abbrev pub IsNext : List (Commit O R) → List (Commit O R) → Option Made → Type 0
  IsNext before after None = after ≡ before
  IsNext before after (Some m) = IsOneMore before after m

  pub made-more : (before after : List (Commit O R)) (made : List Made) (next : Option Made) → AreMade moves before made → IsNext before after next → AreMade moves after (made ++ at_most_one next)
  made-more before after made None are is =
      subst (λ (ms : List Made). AreMade moves after ms) (sym (append-nil made)) (subst (λ (cs : List (Commit O R)). AreMade moves cs made) (sym is) are)
  made-more before after made (Some m) are is =
      subst (λ (cs : List (Commit O R)). AreMade moves cs (made ++ m ∷ [])) (sym is.is) (record {
        origins = more (λ (m : Made). m.origin) (λ (c : Commit O R). c.origin) are.origins is.origin;
        clocks = more (λ (m : Made). m.clock) (λ (c : Commit O R). c.clock) are.clocks is.clock;
        events = more (event_told moves) (λ (c : Commit O R). option_map unseen c.event) are.events is.event;
      })
    where
      more : {X : Type 0} (f : Made → X) (g : Commit O R → X) → map f made ≡ map g before → f m ≡ g is.commit → map f (made ++ m ∷ []) ≡ map g (before ++ is.commit ∷ [])
      more {X} f g same at =
          map-append f made (m ∷ []) ∙ ap (λ (xs : List X). xs ++ f m ∷ []) same ∙ ap (λ (x : X). map g before ++ x ∷ []) at ∙ sym (map-append g before (is.commit ∷ []))

  -- what is kept of it is in range where the commit is
  pub fits-more : (before after : List (Commit O R)) (most : ℕ) (next : Option Made) → IsNext before after next → most < 2 ^ 64
      → ((n : ℕ) → n < length after → origin_of after n < 2 ^ 32) → ((n : ℕ) → clock_of after n ≤ most) → IfSome next IsInRange
  fits-more before after most None is high small low = tt
  fits-more before after most (Some m) is high small low =
      let n = length before in
      let c : Commit O R = is.commit in
      let lt : n < length after = omega (arith, ap length is.is, length-append before (c ∷ [])) in
      let origin : origin_of after n ≡ m.origin = ap (λ cs. origin_of cs n) is.is ∙ origin_of-new before c ∙ sym is.origin in
      let clock : clock_of after n ≡ m.clock = ap (λ cs. clock_of cs n) is.is ∙ clock_of-new before c ∙ sym is.clock in
      record { origin = omega (arith, origin, small n lt); clock = omega (arith, clock, low n, high) }

  -- the parents of the next commit, in the graph of a longer list
  next-parents : (before : List (Commit O R)) (c : Commit O R) (last : List (Commit O R)) (graph : List (List ℕ)) (count : ℕ) → IsLonger (before ++ c ∷ []) last → graph ≡ graph_of last → count ≡ length before → parents_of graph count ≡ c.parents
  next-parents before c last graph count longer is counted =
      ap (λ k. parents_of graph k) counted ∙ ap (λ g. parents_of g (length before)) (is ∙ ap graph_of longer.is)
      ∙ parents_of-old (before ++ c ∷ []) longer.more (length before) (omega (arith, length-append before (c ∷ []))) ∙ parents_of-new before c

  -- what is kept of the commit that a move makes
  module _ (first : ℕ) (s : Store O R) (graph : List (List ℕ)) (last : List (Commit O R)) (is_graph : graph ≡ graph_of last) (made : List Made) (are : AreMade moves s.commits made) (place : ℕ) where
    clock-over : (c : Commit O R) → IsLonger (s.commits ++ c ∷ []) last → greatest_made made (parents_of graph (length made)) ≡ greatest_clock s.commits c.parents
    clock-over c longer =
        ap (greatest_made made) (next-parents s.commits c last graph (length made) longer is_graph (count-made s.commits made are)) ∙ greatest-made s.commits made are c.parents

    -- the event of an act
    told : ℕ → ℕ → O × R → Event O R
    told origin clock act = record { time = record { clock = clock; origin = origin }; operation = act.0; reply = act.1; seen = [] }

    told-at : (m : Move O R) (origin clock : ℕ) → slice_get moves place ≡ Some m → event_told moves (record { origin = origin; clock = clock; place = Some place }) ≡ option_map (told origin clock) (act_of m)
    unfolding told
    told-at m origin clock at = ap (λ o. option_map (told origin clock) (option_and_then act_of o)) at

    merge-next : (m : Move O R) (r : ℕ) (parents : List ℕ) → slice_get moves place ≡ Some m → act_of m ≡ None → IsLonger (s.commits ++ merge_commit s.commits (first + r) parents ∷ []) last
        → IsOneMore s.commits (s.commits ++ merge_commit s.commits (first + r) parents ∷ []) (record { origin = first + r; clock = greatest_made made (parents_of graph (length made)); place = Some place })
    merge-next m r parents at none longer =
        let clock = greatest_made made (parents_of graph (length made)) in
        record {
          commit = merge_commit s.commits (first + r) parents;
          is = refl;
          origin = refl;
          clock = clock-over (merge_commit s.commits (first + r) parents) longer;
          event = told-at m (first + r) clock at ∙ ap (option_map (told (first + r) clock)) none;
        }

    pub next-made : (m : Move O R) → slice_get moves place ≡ Some m → IsLonger (after_move first s m).commits last → IsNext s.commits (after_move first s m).commits (made_by graph made first place m)
    unfolding told
    next-made (move.Fork name number from) at longer = refl
    next-made (move.Operation r op reply) at longer =
        let h = head_of s.branches r in
        let c : Commit O R = operation_commit s.commits (first + r) h op reply in
        let clock : greatest_made made (parents_of graph (length made)) + 1 ≡ clock_of s.commits h + 1 = omega (arith, clock-over c longer) in
        record {
          commit = c;
          is = refl;
          origin = refl;
          clock = clock;
          event = told-at (move.Operation r op reply) (first + r) _ at ∙ ap (λ k. Some (told (first + r) k (op, reply))) clock;
        }
    next-made (move.Merge r m) at longer = merge-next (move.Merge r m) r (head_of s.branches r ∷ m ∷ []) at refl longer
    next-made (move.Join r ms) at longer = merge-next (move.Join r ms) r (head_of s.branches r ∷ ms) at refl longer
    next-made (move.Forward r m) at longer = refl
    next-made (move.Received parents origin clock act) at longer = record {
      commit = received_commit s.commits parents origin clock act;
      is = refl;
      origin = refl;
      clock = refl;
      event = told-at (move.Received parents origin clock act) origin clock at ∙ unseen-act act;
    }
      where
        unseen-act : (act : Option (O × R)) → option_map (told origin clock) act ≡ option_map unseen (received_commit s.commits parents origin clock act).event
        unseen-act None = refl
        unseen-act (Some d) = refl
    next-made (move.Place name number n) at longer = refl
    next-made (move.Drop r) at longer = refl

-- the next move of a valid history
module _ {O R : Type 0} (terms : Terms) (moves : List (Move O R)) (graph : List (List ℕ)) (is_graph : graph ≡ graph_of (store_of terms.origin moves).commits) (i : ℕ) (m : Move O R) (lt : i < length moves) (at : m ≡ get_or moves i m)
    (made : List Made) (are : AreMade moves (store_of terms.origin (take i moves)).commits made) where
  abbrev before : Store O R
  before = store_of terms.origin (take i moves)

  abbrev after : Store O R
  after = store_of terms.origin (take (i + 1) moves)

  next-store : after ≡ after_move terms.origin before m
  next-store = ap (store_of terms.origin) (take_more moves i m lt ∙ ap (λ k. take i moves ++ k ∷ []) (sym at)) ∙ store_of-more terms.origin (take i moves) m

  longer : IsLonger after.commits (store_of terms.origin moves).commits
  longer =
      subst (λ (ms : List (Move O R)). IsLonger after.commits (store_of terms.origin ms).commits) (take-append-drop (i + 1) moves) (commits-longer terms.origin (take (i + 1) moves) (drop (i + 1) moves))

  next : IsNext moves before.commits after.commits (made_by graph made terms.origin i m)
  next =
      subst (λ (s : Store O R). IsNext moves before.commits s.commits (made_by graph made terms.origin i m)) (sym next-store)
      (next-made moves terms.origin before graph (store_of terms.origin moves).commits is_graph made are i m (slice_get_read moves (length moves) i m refl lt at)
      (subst (λ (s : Store O R). IsLonger s.commits (store_of terms.origin moves).commits) next-store longer))

  -- its commit is one of all
  pub next-room : length made + commits_made m ≤ length graph
  next-room =
      let size : length after.commits ≡ length before.commits + commits_made m = ap (λ (s : Store O R). length s.commits) next-store ∙ length-after terms.origin before m in
      let all : length graph ≡ length (store_of terms.origin moves).commits = ap length is_graph ∙ length-graph (store_of terms.origin moves).commits in
      let whole : length (store_of terms.origin moves).commits ≡ length after.commits + length longer.more = ap length longer.is ∙ length-append after.commits longer.more in
      omega (arith, size, all, whole, count-made moves before.commits made are)

  -- what is kept of it is in range
  pub next-fits : IsWithin terms (take (i + 1) moves) → IsOrdered terms after → IfSome (made_by graph made terms.origin i m) IsInRange
  next-fits within ordered =
      let most = terms.limits.in_range.clock_high in
      fits-more moves before.commits after.commits terms.limits.clock (made_by graph made terms.origin i m) next (omega (arith, most)) ordered.small within.clocks

  pub next-kept : (more : List Made) → more ≡ made ++ at_most_one (made_by graph made terms.origin i m) → AreMade moves after.commits more
  next-kept more is = subst (λ (ms : List Made). AreMade moves after.commits ms) (sym is) (made-more moves before.commits after.commits made (made_by graph made terms.origin i m) are next)

-- what is kept of all commits
pub all-kept : {O R : Type 0} (first : ℕ) (moves : List (Move O R)) (i : ℕ) (made : List Made) → length moves ≤ i → AreMade moves (store_of first (take i moves)).commits made → AreMade moves (store_of first moves).commits made
all-kept {O} {R} first moves i made end are = subst (λ (ms : List (Move O R)). AreMade moves (store_of first ms).commits made) (take_all i moves end) are
