-- What the machine makes of what callers ask for, whatever the history: one move at most for each, and moves that a name that allows the work allows.
use Rattle.std.proofs.Common.{ℕ, ◌+◌, ◌≤◌, Bool, true, false, cond, List, [], ◌∷◌, ◌++◌, length, arith, length-append, Option, None, Some}
use Rattle.std.specs.List.{AllByRecursion}
use Rattle.branch_graph.specs.Graph.{reaches}
use Rattle.branch_names.specs.Heads.{branch_named, head_of}
use Rattle.branch_history.specs.declared.moves.Move.{Move}
use Rattle.branch_history.specs.declared.moves.Move.TheVariants as move
use Rattle.branch_history.specs.Commits.{graph_of}
use Rattle.branch_history.specs.History.{store_of}
use Rattle.branch_history.specs.Merging.{brought}
use Rattle.branch_history.specs.Steps as machine
use Rattle.branch_history.specs.Machine.{turn, unless, makes, event_made, operation_refusal, merge_refusal, forward_refusal, commit_refusal, fork_refusal, drop_refusal, fork_turn, merge_turn}
use Rattle.branch_machine.specs.Fixed.{Fixed}
use Rattle.branch_machine.specs.Machine.{collision_refusal, commit_here, unless_here, unless_made, full_turn}
use Rattle.store_seen.specs.Turns.{step_of}
use Rattle.store_seen.specs.Views.{SeenView, PreparedView, Work, Operation, Merge, Join, Forward}
use Rattle.store_core.specs.Batches.{job_made, batch_made}
use Rattle.branch_shared.specs.Allowed.{AllowsBringing, AllowsWork}

pub all-append : {X : Type 0} (P : X → Type 0) (xs ys : List X) → AllByRecursion P xs → AllByRecursion P ys → AllByRecursion P (xs ++ ys)
all-append P [] ys all more = more
all-append P (x ∷ xs) ys all more = (all.0, all-append P xs ys all.1 more)

module _ {O R A : Type 0} (Allows : Move O R → Type 0) where
  -- a turn makes one move at most, which is allowed
  abbrev Fits : machine.Turn O R A → Type 0
  Fits t = (length t.made ≤ 1) × AllByRecursion Allows t.made

  fits-unless : (o : Option machine.Refusal) (t : machine.Turn O R A) → Fits t → Fits (unless o t)
  fits-unless None t fits = fits
  fits-unless (Some refusal) t fits = (omega arith, tt)

  fits-here : (o : Option ℕ) (t : machine.Turn O R A) → Fits t → Fits (unless_here o t)
  fits-here None t fits = fits
  fits-here (Some n) t fits = (omega arith, tt)

  fits-made : (refusal : Move O R → Option machine.Refusal) (ms : List (Move O R)) (t : machine.Turn O R A) → Fits t → Fits (unless_made refusal ms t)
  fits-made refusal [] t fits = fits
  fits-made refusal (m ∷ ms) t fits = fits-unless (refusal m) t fits

  fits-either : (below : Bool) (s t : machine.Turn O R A) → Fits s → Fits t → Fits (cond below s t)
  fits-either true s t one other = one
  fits-either false s t one other = other

  fits-one : (m : Move O R) (o : machine.Outcome A R) → Allows m → Fits (makes m o)
  fits-one m o is = (omega arith, (is, tt))

module _ {S O R Q A : Type 0} (fixed : Fixed S O R Q A) (Allows : Move O R → Type 0) (moves : List (Move O R)) where
  fits-merge : (r h : ℕ) (ms : List ℕ) → AllowsBringing Allows r → Fits {A = A} Allows (merge_turn fixed.meaning fixed.terms moves r h ms)
  fits-merge r h [] may = (omega arith, tt)
  fits-merge r h (m ∷ []) may =
      let commits = (store_of fixed.terms.origin moves).commits in
      let up : machine.Turn O R A = makes (move.Forward r m) (machine.Forwarded m) in
      let new : machine.Turn O R A = makes (move.Merge r m) (machine.Merged (length commits)) in
      let twice = unless (commit_refusal fixed.terms moves r h) new in
      fits-either Allows (reaches (graph_of commits) m h) (unless (forward_refusal fixed.terms moves r h) up) (unless (merge_refusal fixed.meaning fixed.terms.limits commits (h ∷ m ∷ [])) twice)
      (fits-unless Allows (forward_refusal fixed.terms moves r h) up (fits-one {A = A} Allows (move.Forward r m) (machine.Forwarded m) (may.forward m)))
      (fits-unless Allows (merge_refusal fixed.meaning fixed.terms.limits commits (h ∷ m ∷ [])) twice
      (fits-unless Allows (commit_refusal fixed.terms moves r h) new (fits-one {A = A} Allows (move.Merge r m) (machine.Merged (length commits)) (may.merge m))))
  fits-merge r h (m ∷ k ∷ ks) may =
      let commits = (store_of fixed.terms.origin moves).commits in
      let new : machine.Turn O R A = makes (move.Join r (m ∷ k ∷ ks)) (machine.Joined (length commits)) in
      fits-unless Allows (merge_refusal fixed.meaning fixed.terms.limits commits (h ∷ m ∷ k ∷ ks)) (unless (commit_refusal fixed.terms moves r h) new)
      (fits-unless Allows (commit_refusal fixed.terms moves r h) new (fits-one {A = A} Allows (move.Join r (m ∷ k ∷ ks)) (machine.Joined (length commits)) (may.join (m ∷ k ∷ ks))))

  fits-merged : (r h : ℕ) (ms : List ℕ) → AllowsBringing Allows r → Fits {A = A} Allows (turn fixed.meaning fixed.terms moves (machine.Merge r h ms))
  unfolding turn
  fits-merged r h ms may = fits-merge r h (brought (graph_of (store_of fixed.terms.origin moves).commits) h ms) may

  fits-landed : (r h : ℕ) (op : O) → ((any : R) → Allows (move.Operation r op any)) → Fits {A = A} Allows (turn fixed.meaning fixed.terms moves (machine.Land r h op))
  unfolding turn
  fits-landed r h op may =
      let commits = (store_of fixed.terms.origin moves).commits in
      let e = event_made fixed.meaning commits (fixed.terms.origin + r) h op in
      let new : machine.Turn O R A = makes (move.Operation r op e.reply) (machine.Landed (length commits) e.time e.reply) in
      fits-unless Allows (operation_refusal fixed.meaning fixed.terms.limits commits (fixed.terms.origin + r) h op) (unless (commit_refusal fixed.terms moves r h) new)
      (fits-unless Allows (commit_refusal fixed.terms moves r h) new (fits-one {A = A} Allows (move.Operation r op e.reply) (machine.Landed (length commits) e.time e.reply) (may e.reply)))

  fits-fork : (name from : List ℕ) (taken found : Option ℕ) → ((number source : ℕ) → Allows (move.Fork name number source)) → Fits {A = A} Allows (fork_turn fixed.terms moves name from taken found)
  fits-fork name from taken None may = (omega arith, tt)
  fits-fork name from (Some number) (Some r) may = (omega arith, tt)
  fits-fork name from None (Some r) may =
      let branches = (store_of fixed.terms.origin moves).branches in
      let made = move.Fork name (length branches) r in
      let outcome : machine.Outcome A R = machine.Forked (length branches) (head_of branches r) in
      fits-unless Allows (fork_refusal fixed.terms moves) (makes made outcome) (fits-one {A = A} Allows made outcome (may (length branches) r))

  fits-forked : (name from : List ℕ) → ((number source : ℕ) → Allows (move.Fork name number source)) → Fits {A = A} Allows (turn fixed.meaning fixed.terms moves (machine.Fork name from))
  unfolding turn
  fits-forked name from may = let branches = (store_of fixed.terms.origin moves).branches in fits-fork name from (branch_named branches name) (branch_named branches from) may

  fits-dropped : (r h : ℕ) → Allows (move.Drop r) → Fits {A = A} Allows (turn fixed.meaning fixed.terms moves (machine.Drop r h))
  unfolding turn
  fits-dropped r h may = fits-unless Allows (drop_refusal fixed.terms moves r h) (makes (move.Drop r) (machine.DroppedAt r h)) (fits-one {A = A} Allows (move.Drop r) (machine.DroppedAt r h) may)

  fits-full : (step : machine.Step O Q) → Fits {A = A} Allows (turn fixed.meaning fixed.terms moves step) → Fits {A = A} Allows (full_turn fixed moves step)
  unfolding full_turn
  fits-full step fits =
      let t = turn fixed.meaning fixed.terms moves step in
      fits-here Allows (commit_here fixed moves step) (unless_made (collision_refusal fixed moves) t.made t) (fits-made Allows (collision_refusal fixed moves) t.made t fits)

  fits-work : (seen : SeenView (Move O R)) (work : Work O R) → AllowsWork Allows seen.branch work → Fits {A = A} Allows (turn fixed.meaning fixed.terms moves (step_of seen work))
  fits-work seen (Operation op reply) may = fits-landed seen.branch seen.head op may
  fits-work seen (Merge commit) may = fits-merged seen.branch seen.head (commit ∷ []) may
  fits-work seen (Join commits) may = fits-merged seen.branch seen.head commits may
  fits-work seen (Forward commit) may = fits-merged seen.branch seen.head (commit ∷ []) may

  pub job-allowed : (job : PreparedView O R) → AllowsWork Allows job.seen.branch job.work → (length (job_made fixed moves job) ≤ 1) × AllByRecursion Allows (job_made fixed moves job)
  job-allowed job may = fits-full (step_of job.seen job.work) (fits-work job.seen job.work may)

  pub fork-allowed : (name from : List ℕ) → ((number source : ℕ) → Allows (move.Fork name number source)) → AllByRecursion Allows (full_turn fixed moves (machine.Fork name from)).made
  fork-allowed name from may = (fits-full (machine.Fork name from) (fits-forked name from may)).1

  pub drop-allowed : (r h : ℕ) → Allows (move.Drop r) → AllByRecursion Allows (full_turn fixed moves (machine.Drop r h)).made
  drop-allowed r h may = (fits-full (machine.Drop r h) (fits-dropped r h may)).1

-- the name allows each of the jobs
abbrev pub AllowsAll : {O R : Type 0} → (Move O R → Type 0) → List (PreparedView O R) → Type 0
AllowsAll Allows jobs = AllByRecursion (λ job. AllowsWork Allows job.seen.branch job.work) jobs

pub batch-allowed : {S O R Q A : Type 0} (fixed : Fixed S O R Q A) (Allows : Move O R → Type 0) (moves : List (Move O R)) (jobs : List (PreparedView O R)) → AllowsAll Allows jobs
    → (length (batch_made fixed moves jobs) ≤ length jobs) × AllByRecursion Allows (batch_made fixed moves jobs)
batch-allowed fixed Allows moves [] may = (omega arith, tt)
batch-allowed fixed Allows moves (job ∷ jobs) may =
    let first = job_made fixed moves job in
    let rest = batch_made fixed (moves ++ first) jobs in
    let one = job-allowed fixed Allows moves job may.0 in
    let more = batch-allowed fixed Allows (moves ++ first) jobs may.1 in
    (omega (arith, length-append first rest, one.0, more.0), all-append Allows first rest one.1 more.1)
