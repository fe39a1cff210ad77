-- The store of a history with renewed operations.
use Rattle.std.proofs.Common.{zero, suc, ◌≡◌, ℕ, ◌+◌, Bool, true, List, [], ◌∷◌, ◌++◌, length, refl, ap, sym, ◌∙◌, Option, Some, None}
use Rattle.std.specs.Prelude.{map, filter, max, slice_get, option_and_then}
use Rattle.std.specs.Option.{option_map, option_map_or}
use Rattle.std.specs.List.{filter_map, cons_option}
use Rattle.mrdt_model.specs.declared.time.Time.{Time}
use Rattle.mrdt_model.specs.Executions.{Event, times_of, next_event}
use Rattle.mrdt_renewal.specs.Renewals.{renewed_event, renewed_events}
use Rattle.branch_graph.specs.Graph.{reaches, any_reaches, falling}
use Rattle.branch_history.specs.declared.moves.Move.{Move}
use Rattle.branch_history.specs.declared.moves.Move.TheVariants as move
use Rattle.branch_names.specs.declared.branch.Branch.{Branch}
use Rattle.branch_names.specs.Heads.{head_of, with_head}
use Rattle.branch_history.specs.Commits.{Commit, graph_of, clock_of, origin_of, event_of, greatest_clock, events_where, visible, visible_at_all}
use Rattle.branch_history.specs.History.{Store, new_store, operation_event, operation_commit, merge_commit, received_commit, with_commit, after_move, after_moves, store_of}
use Rattle.branch_renewal.specs.Renewed.{renewed, renewed_moves, renewed_commit, renewed_commits, renewed_store}

module _ {X Y : Type 0} (g : X → Y) where
  pub get-map : (xs : List X) (n : ℕ) → slice_get (map g xs) n ≡ option_map g (slice_get xs n)
  get-map [] n = refl
  get-map (x ∷ xs) zero = refl
  get-map (x ∷ xs) (suc n) = get-map xs n

  pub length-mapped : (xs : List X) → length (map g xs) ≡ length xs
  length-mapped [] = refl
  length-mapped (x ∷ xs) = ap suc (length-mapped xs)

  pub mapped-append : (xs ys : List X) → map g (xs ++ ys) ≡ map g xs ++ map g ys
  mapped-append [] ys = refl
  mapped-append (x ∷ xs) ys = ap (λ l. g x ∷ l) (mapped-append xs ys)

module _ {O1 O2 R : Type 0} (f : O1 → O2) where
  pub graph-renewed : (commits : List (Commit O1 R)) → graph_of (renewed_commits f commits) ≡ graph_of commits
  graph-renewed [] = refl
  graph-renewed (c ∷ cs) = ap (λ l. c.parents ∷ l) (graph-renewed cs)

  -- what is read of one commit
  read-renewed : {X : Type 0} (read : Commit O2 R → X) (o : Option (Commit O1 R)) (d : X) → option_map_or read (option_map (renewed_commit f) o) d ≡ option_map_or (λ c. read (renewed_commit f c)) o d
  read-renewed read None d = refl
  read-renewed read (Some c) d = refl

  pub clock-renewed : (commits : List (Commit O1 R)) (n : ℕ) → clock_of (renewed_commits f commits) n ≡ clock_of commits n
  clock-renewed commits n = ap (λ o. option_map_or (λ c. c.clock) o 0) (get-map (renewed_commit f) commits n) ∙ read-renewed (λ c. c.clock) (slice_get commits n) 0

  pub origin-renewed : (commits : List (Commit O1 R)) (n : ℕ) → origin_of (renewed_commits f commits) n ≡ origin_of commits n
  origin-renewed commits n = ap (λ o. option_map_or (λ c. c.origin) o 0) (get-map (renewed_commit f) commits n) ∙ read-renewed (λ c. c.origin) (slice_get commits n) 0

  pub greatest-renewed : (commits : List (Commit O1 R)) (ns : List ℕ) → greatest_clock (renewed_commits f commits) ns ≡ greatest_clock commits ns
  greatest-renewed commits [] = refl
  greatest-renewed commits (n ∷ ns) =
      ap (λ k. max k (greatest_clock (renewed_commits f commits) ns)) (clock-renewed commits n) ∙ ap (λ k. max (clock_of commits n) k) (greatest-renewed commits ns)

  event-of-one : (o : Option (Commit O1 R)) → option_and_then (λ c. c.event) (option_map (renewed_commit f) o) ≡ option_map (renewed_event f) (option_and_then (λ c. c.event) o)
  event-of-one None = refl
  event-of-one (Some c) = refl

  pub event-renewed : (commits : List (Commit O1 R)) (n : ℕ) → event_of (renewed_commits f commits) n ≡ option_map (renewed_event f) (event_of commits n)
  event-renewed commits n = ap (λ o. option_and_then (λ c. c.event) o) (get-map (renewed_commit f) commits n) ∙ event-of-one (slice_get commits n)

  cons-renewed : (o : Option (Event O1 R)) (x : List (Event O1 R)) → cons_option (option_map (renewed_event f) o) (renewed_events f x) ≡ renewed_events f (cons_option o x)
  cons-renewed None x = refl
  cons-renewed (Some e) x = refl

  events-renewed : (commits : List (Commit O1 R)) (ns : List ℕ) → filter_map (event_of (renewed_commits f commits)) ns ≡ renewed_events f (filter_map (event_of commits) ns)
  events-renewed commits [] = refl
  events-renewed commits (n ∷ ns) =
      ap (λ o. cons_option o (filter_map (event_of (renewed_commits f commits)) ns)) (event-renewed commits n)
      ∙ ap (λ x. cons_option (option_map (renewed_event f) (event_of commits n)) x) (events-renewed commits ns)
      ∙ cons-renewed (event_of commits n) (filter_map (event_of commits) ns)

  where-renewed : (keep : ℕ → Bool) (commits : List (Commit O1 R)) → events_where keep (renewed_commits f commits) ≡ renewed_events f (events_where keep commits)
  where-renewed keep commits =
      ap (λ k. filter_map (event_of (renewed_commits f commits)) (filter keep (falling k))) (length-mapped (renewed_commit f) commits)
      ∙ events-renewed commits (filter keep (falling (length commits)))

  pub visible-renewed : (commits : List (Commit O1 R)) (n : ℕ) → visible (renewed_commits f commits) n ≡ renewed_events f (visible commits n)
  unfolding visible
  visible-renewed commits n =
      ap (λ g. events_where (reaches g n) (renewed_commits f commits)) (graph-renewed commits) ∙ where-renewed (reaches (graph_of commits) n) commits

  pub visible_at_all-renewed : (commits : List (Commit O1 R)) (ns : List ℕ) → visible_at_all (renewed_commits f commits) ns ≡ renewed_events f (visible_at_all commits ns)
  unfolding visible_at_all
  visible_at_all-renewed commits ns =
      ap (λ g. events_where (any_reaches g ns) (renewed_commits f commits)) (graph-renewed commits) ∙ where-renewed (any_reaches (graph_of commits) ns) commits

  pub times-renewed : (x : List (Event O1 R)) → times_of (renewed_events f x) ≡ times_of x
  times-renewed [] = refl
  times-renewed (e ∷ x) = ap (λ l. e.time ∷ l) (times-renewed x)

  next-renewed : (x : List (Event O1 R)) (t : Time) (op : O1) (reply : R) → next_event (renewed_events f x) t (f op) reply ≡ renewed_event f (next_event x t op reply)
  next-renewed x t op reply = ap (λ s. record { time = t; operation = f op; reply = reply; seen = s }) (times-renewed x)

  pub operation_event-renewed : (commits : List (Commit O1 R)) (origin h : ℕ) (op : O1) (reply : R) → operation_event (renewed_commits f commits) origin h (f op) reply ≡ renewed_event f (operation_event commits origin h op reply)
  operation_event-renewed commits origin h op reply =
      let time : Time = record { clock = clock_of commits h + 1; origin = origin } in
      ap (λ k. next_event (visible (renewed_commits f commits) h) (record { clock = k + 1; origin = origin }) (f op) reply) (clock-renewed commits h)
      ∙ ap (λ x. next_event x time (f op) reply) (visible-renewed commits h)
      ∙ next-renewed (visible commits h) time op reply

  operation_commit-renewed : (commits : List (Commit O1 R)) (origin h : ℕ) (op : O1) (reply : R) → operation_commit (renewed_commits f commits) origin h (f op) reply ≡ renewed_commit f (operation_commit commits origin h op reply)
  operation_commit-renewed commits origin h op reply =
      ap (λ k. record { parents = h ∷ []; origin = origin; clock = k + 1; event = Some (operation_event (renewed_commits f commits) origin h (f op) reply) }) (clock-renewed commits h)
      ∙ ap (λ e. record { parents = h ∷ []; origin = origin; clock = clock_of commits h + 1; event = Some e }) (operation_event-renewed commits origin h op reply)

  merge_commit-renewed : (commits : List (Commit O1 R)) (origin : ℕ) (parents : List ℕ) → merge_commit (renewed_commits f commits) origin parents ≡ renewed_commit f (merge_commit commits origin parents)
  merge_commit-renewed commits origin parents = ap (λ k. record { parents = parents; origin = origin; clock = k; event = None }) (greatest-renewed commits parents)

  act-renewed : (x : List (Event O1 R)) (t : Time) (act : Option (O1 × R))
      → option_map (λ (d : O2 × R). next_event (renewed_events f x) t d.0 d.1) (option_map (λ (d : O1 × R). (f d.0, d.1)) act) ≡ option_map (renewed_event f) (option_map (λ (d : O1 × R). next_event x t d.0 d.1) act)
  act-renewed x t None = refl
  act-renewed x t (Some d) = ap Some (next-renewed x t d.0 d.1)

  received-renewed : (commits : List (Commit O1 R)) (parents : List ℕ) (origin clock : ℕ) (act : Option (O1 × R))
      → received_commit (renewed_commits f commits) parents origin clock (option_map (λ (d : O1 × R). (f d.0, d.1)) act) ≡ renewed_commit f (received_commit commits parents origin clock act)
  received-renewed commits parents origin clock act =
      let time : Time = record { clock = clock; origin = origin } in
      ap (λ x. record { parents = parents; origin = origin; clock = clock; event = option_map (λ (d : O2 × R). next_event x time d.0 d.1) (option_map (λ (d : O1 × R). (f d.0, d.1)) act) }) (visible_at_all-renewed commits parents)
      ∙ ap (λ e. record { parents = parents; origin = origin; clock = clock; event = e }) (act-renewed (visible_at_all commits parents) time act)

  -- one commit more
  longer-renewed : (commits : List (Commit O1 R)) (c : Commit O1 R) (d : Commit O2 R) → d ≡ renewed_commit f c → renewed_commits f commits ++ d ∷ [] ≡ renewed_commits f (commits ++ c ∷ [])
  longer-renewed commits c d is = ap (λ d. renewed_commits f commits ++ d ∷ []) is ∙ sym (mapped-append (renewed_commit f) commits (c ∷ []))

  with_commit-renewed : (s : Store O1 R) (r : ℕ) (c : Commit O1 R) (d : Commit O2 R) → d ≡ renewed_commit f c → with_commit (renewed_store f s) r d ≡ renewed_store f (with_commit s r c)
  with_commit-renewed s r c d is =
      ap (λ l. record { commits = l; branches = with_head s.branches r (length (renewed_commits f s.commits)) }) (longer-renewed s.commits c d is)
      ∙ ap (λ k. record { commits = renewed_commits f (s.commits ++ c ∷ []); branches = with_head s.branches r k }) (length-mapped (renewed_commit f) s.commits)

  after_move-renewed : (origin : ℕ) (s : Store O1 R) (m : Move O1 R) → after_move origin (renewed_store f s) (renewed f m) ≡ renewed_store f (after_move origin s m)
  after_move-renewed origin s (move.Fork name number from) = refl
  after_move-renewed origin s (move.Operation r op reply) = with_commit-renewed s r _ _ (operation_commit-renewed s.commits (origin + r) (head_of s.branches r) op reply)
  after_move-renewed origin s (move.Merge r m) = with_commit-renewed s r _ _ (merge_commit-renewed s.commits (origin + r) (head_of s.branches r ∷ m ∷ []))
  after_move-renewed origin s (move.Join r ms) = with_commit-renewed s r _ _ (merge_commit-renewed s.commits (origin + r) (head_of s.branches r ∷ ms))
  after_move-renewed origin s (move.Forward r m) = refl
  after_move-renewed origin s (move.Received parents first clock act) =
      ap (λ l. record { commits = l; branches = s.branches })
      (longer-renewed s.commits (received_commit s.commits parents first clock act) (received_commit (renewed_commits f s.commits) parents first clock (option_map (λ (d : O1 × R). (f d.0, d.1)) act)) (received-renewed s.commits parents first clock act))
  after_move-renewed origin s (move.Place name number n) = refl
  after_move-renewed origin s (move.Drop r) = refl

  after_moves-renewed : (origin : ℕ) (s : Store O1 R) (moves : List (Move O1 R)) → after_moves origin (renewed_store f s) (renewed_moves f moves) ≡ renewed_store f (after_moves origin s moves)
  after_moves-renewed origin s [] = refl
  after_moves-renewed origin s (m ∷ ms) =
      ap (λ t. after_moves origin t (renewed_moves f ms)) (after_move-renewed origin s m) ∙ after_moves-renewed origin (after_move origin s m) ms

  pub store-renewed : (origin : ℕ) (moves : List (Move O1 R)) → store_of origin (renewed_moves f moves) ≡ renewed_store f (store_of origin moves)
  unfolding store_of
  store-renewed origin moves = after_moves-renewed origin new_store moves
