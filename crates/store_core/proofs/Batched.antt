-- One job more of a batch.
use Rattle.std.proofs.Common.{◌≡◌, ◌≢◌, ℕ, suc, ◌≤◌, List, [], ◌∷◌, ◌++◌, length, refl, sym, ◌∙◌, ap, subst, arith, append-nil, append_assoc, length-append, Result, Ok, Err}
use Rattle.std.specs.Prelude.{All}
use Rattle.std.specs.List.{AllByRecursion}
use Rattle.std.proofs.lemmas.List.Elements.{recursion_from_All}
use mathlib.Core.List.{IsPrefix}
use Rattle.mrdt_model.specs.Laws.{Meaning}
use Rattle.branch_names.specs.declared.terms.Terms.{Terms}
use Rattle.branch_history.specs.declared.moves.Move.{Move}
use Rattle.branch_history.specs.Steps.{Turn}
use Rattle.heads_journal.specs.declared.record.Record.{Record}
use Rattle.branch_machine.specs.Fixed.{Fixed, fix}
use Rattle.branch_files.specs.Records.{record_of, records_after}
use Rattle.store_seen.specs.declared.answers.Landed.{Landed}
use Rattle.store_seen.specs.Turns.{move_of}
use Rattle.store_seen.specs.Views.{PreparedView}
use Rattle.recorded_history.specs.declared.answers.LandRefused as below
use Rattle.recorded_history.specs.declared.answers.LandRefused.TheVariants as below_refusal
use Rattle.recorded_history.specs.declared.answers.Made.{Made}
use Rattle.recorded_history.specs.Machine.{LandsMore}
use Rattle.recorded_history.specs.Refusals as recorded
use Rattle.recorded_history.specs.Views.{RecordedView}
use Rattle.store_core.specs.declared.answers.LandRefused.{LandRefused}
use Rattle.store_core.specs.declared.answers.LandRefused.TheVariants as refusal
use Rattle.store_core.specs.Batches.{job_made, batch_made, AnswersJob, AnswersAll, HaveLanded}
use Rattle.store_core.specs.Refusals.{land_refused}

-- what holds of each item holds of the one behind some first ones
mid : {X : Type 0} (P : X → Type 0) (before after : List X) (x : X) → AllByRecursion P (before ++ x ∷ after) → P x
mid P [] after x all = all.0
mid P (y ∷ before) after x all = mid P before after x all.1

pub all_at : {X : Type 0} (P : X → Type 0) (before after all : List X) (x : X) → before ++ x ∷ after ≡ all → All P all → P x
all_at P before after all x is holds = mid P before after x (recursion_from_All P (before ++ x ∷ after) (subst (All P) (sym is) holds))

-- what begins a list begins one that is longer
pub prefix_behind : {X : Type 0} (first all more : List X) → IsPrefix first all → IsPrefix first (all ++ more)
prefix_behind first all more among = (among.0 ++ more, sym (append_assoc first among.0 more) ∙ ap (λ l. l ++ more) among.1)

module _ {S O R Q A : Type 0} (fixed : Fixed S O R Q A) where
  pub made-more : (history : List (Move O R)) (jobs : List (PreparedView O R)) (job : PreparedView O R)
      → batch_made fixed history (jobs ++ job ∷ []) ≡ batch_made fixed history jobs ++ job_made fixed (history ++ batch_made fixed history jobs) job
  made-more history [] job = append-nil (job_made fixed history job) ∙ ap (λ (h : List (Move O R)). job_made fixed h job) (sym (append-nil history))
  made-more history (j ∷ jobs) job =
      let first = job_made fixed history j in
      let later = batch_made fixed (history ++ first) jobs in
      ap (λ (l : List (Move O R)). first ++ l) (made-more (history ++ first) jobs job)
      ∙ sym (append_assoc first later (job_made fixed ((history ++ first) ++ later) job))
      ∙ ap (λ (h : List (Move O R)). (first ++ later) ++ job_made fixed h job) (append_assoc history first later)

  answers-more : (history : List (Move O R)) (jobs : List (PreparedView O R)) (job : PreparedView O R) (answers : List (Result (Landed R) LandRefused)) (answer : Result (Landed R) LandRefused)
      → AnswersAll fixed history jobs answers → AnswersJob fixed (history ++ batch_made fixed history jobs) job answer → AnswersAll fixed history (jobs ++ job ∷ []) (answers ++ answer ∷ [])
  answers-more history [] job [] answer all one = (subst (λ (h : List (Move O R)). AnswersJob fixed h job answer) (append-nil history) one, tt)
  answers-more history [] job (a ∷ answers) answer all one = absurd all
  answers-more history (j ∷ jobs) job [] answer all one = absurd all
  answers-more history (j ∷ jobs) job (a ∷ answers) answer all one =
      let first = job_made fixed history j in
      (all.0, answers-more (history ++ first) jobs job answers answer all.1 (subst (λ (h : List (Move O R)). AnswersJob fixed h job answer) (sym (append_assoc history first (batch_made fixed (history ++ first) jobs))) one))

  -- one answer for each job
  pub answers-long : (history : List (Move O R)) (jobs : List (PreparedView O R)) (answers : List (Result (Landed R) LandRefused)) → AnswersAll fixed history jobs answers → length answers ≡ length jobs
  answers-long history [] [] all = refl
  answers-long history [] (a ∷ answers) all = absurd all
  answers-long history (j ∷ jobs) [] all = absurd all
  answers-long history (j ∷ jobs) (a ∷ answers) all = ap suc (answers-long (history ++ job_made fixed history j) jobs answers all.1)

  pub after-both : (history first second : List (Move O R)) → records_after fixed history (first ++ second) ≡ records_after fixed history first ++ records_after fixed (history ++ first) second
  after-both history [] second = ap (λ (h : List (Move O R)). records_after fixed h second) (sym (append-nil history))
  after-both history (m ∷ first) second =
      ap (λ (l : List Record). record_of fixed history m ∷ l)
      (after-both (history ++ m ∷ []) first second ∙ ap (λ (h : List (Move O R)). records_after fixed (history ++ m ∷ []) first ++ records_after fixed h second) (append_assoc history (m ∷ []) first))

  module _ (history : List (Move O R)) (job : PreparedView O R) where
    -- a refusal that is no want of memory is the machine's, which makes no move then
    pub refusal-answers : (e : below.LandRefused) → e ≢ below_refusal.Memory → recorded.LandRefusedAs fixed job history e → AnswersJob fixed history job (Err (land_refused e))
    refusal-answers (below_refusal.Dropped branch) not is = is
    refusal-answers (below_refusal.Stale newest) not is = is
    refusal-answers (below_refusal.FullCommits count) not is = is
    refusal-answers (below_refusal.FullMoves count) not is = is
    refusal-answers (below_refusal.Collision address stored fresh) not is = is
    refusal-answers below_refusal.Memory not is = absurd (not refl)

    pub refusal-makes : (e : below.LandRefused) → e ≢ below_refusal.Memory → recorded.LandRefusedAs fixed job history e → job_made fixed history job ≡ []
    refusal-makes (below_refusal.Dropped branch) not is = ap (λ (t : Turn O R A). t.made) is
    refusal-makes (below_refusal.Stale newest) not is = ap (λ (t : Turn O R A). t.made) is.0
    refusal-makes (below_refusal.FullCommits count) not is = ap (λ (t : Turn O R A). t.made) is
    refusal-makes (below_refusal.FullMoves count) not is = ap (λ (t : Turn O R A). t.made) is
    refusal-makes (below_refusal.Collision address stored fresh) not is = ap (λ (t : Turn O R A). t.made) is
    refusal-makes below_refusal.Memory not is = absurd (not refl)

    none : job_made fixed history job ≡ [] → length (job_made fixed history job) ≤ 1
    none is = omega (arith, ap length is)

    -- a job makes one move at most
    one_most : (answer : Result (Landed R) LandRefused) → AnswersJob fixed history job answer → length (job_made fixed history job) ≤ 1
    one_most (Ok landed) is = omega (arith, ap (λ (t : Turn O R A). length t.made) is.turn_is)
    one_most (Err (refusal.Dropped branch)) is = none (ap (λ (t : Turn O R A). t.made) is)
    one_most (Err (refusal.Stale newest)) is = none (ap (λ (t : Turn O R A). t.made) is.0)
    one_most (Err (refusal.FullCommits count)) is = none (ap (λ (t : Turn O R A). t.made) is)
    one_most (Err (refusal.FullMoves count)) is = none (ap (λ (t : Turn O R A). t.made) is)
    one_most (Err (refusal.Collision address stored fresh)) is = none (ap (λ (t : Turn O R A). t.made) is)
    one_most (Err refusal.DiskFault) is = absurd is
    one_most (Err (refusal.Failed moves)) is = absurd is
    one_most (Err refusal.Memory) is = absurd is

  -- a job that landed in memory, behind the moves that wait
  module _ (old new : RecordedView (Move O R)) (job : PreparedView O R) (made : Made R) (lands : LandsMore fixed job old new made) where
    abbrev at : List (Move O R)
    at = old.written ++ old.pending

    makes : job_made fixed at job ≡ move_of job.seen.branch job.work ∷ []
    makes = ap (λ (t : Turn O R A). t.made) lands.turn_is

    pub landed-answers : AnswersJob fixed at job (Ok made.landed)
    landed-answers = record { turn_is = lands.turn_is; counted = lands.counted }

    pub landed-makes : new ≡ record old { pending = old.pending ++ job_made fixed at job }
    landed-makes = lands.pending ∙ ap (λ (ms : List (Move O R)). record old { pending = old.pending ++ ms }) (sym makes)

    pub landed-record : made.record ∷ [] ≡ records_after fixed at (job_made fixed at job)
    landed-record = ap (λ (r : Record). r ∷ []) lands.recorded ∙ ap (records_after fixed at) (sym makes)

  -- no job
  pub landed-none : (old : RecordedView (Move O R)) → old.pending ≡ [] → HaveLanded fixed [] old old [] []
  landed-none old settled = record {
    answered = tt;
    pending = ap (λ (ms : List (Move O R)). record old { pending = ms }) settled;
    are = refl;
    few = omega arith;
  }

  -- one job more
  landed-more : (jobs : List (PreparedView O R)) (job : PreparedView O R) (old mid new : RecordedView (Move O R)) (answers : List (Result (Landed R) LandRefused)) (answer : Result (Landed R) LandRefused) (records notes : List Record)
      → HaveLanded fixed jobs old mid answers records → AnswersJob fixed (mid.written ++ mid.pending) job answer
      → new ≡ record mid { pending = mid.pending ++ job_made fixed (mid.written ++ mid.pending) job }
      → notes ≡ records ++ records_after fixed (mid.written ++ mid.pending) (job_made fixed (mid.written ++ mid.pending) job)
      → HaveLanded fixed (jobs ++ job ∷ []) old new (answers ++ answer ∷ []) notes
  landed-more jobs job old mid new answers answer records notes before one makes notes_are =
      let made = batch_made fixed old.written jobs in
      let behind = old.written ++ made in
      let at : mid.written ++ mid.pending ≡ behind = ap (λ (x : RecordedView (Move O R)). x.written ++ x.pending) before.pending in
      let here : AnswersJob fixed behind job answer = subst (λ (h : List (Move O R)). AnswersJob fixed h job answer) at one in
      let whole = made-more old.written jobs job in
      record {
        answered = answers-more old.written jobs job answers answer before.answered here;
        pending = makes ∙ ap (λ (x : RecordedView (Move O R)). record x { pending = x.pending ++ job_made fixed (x.written ++ x.pending) job }) before.pending
            ∙ ap (λ (ms : List (Move O R)). record old { pending = ms }) (sym whole);
        are = notes_are
            ∙ ap (λ (l : List Record). l ++ records_after fixed (mid.written ++ mid.pending) (job_made fixed (mid.written ++ mid.pending) job)) before.are
            ∙ ap (λ (h : List (Move O R)). records_after fixed old.written made ++ records_after fixed h (job_made fixed h job)) at
            ∙ sym (after-both old.written made (job_made fixed behind job))
            ∙ ap (records_after fixed old.written) (sym whole);
        few = omega (arith, before.few, one_most behind job answer here, ap length whole, length-append made (job_made fixed behind job), length-append jobs (job ∷ []));
      }

-- the same where the terms are those of the moves that wait
pub landed-next : {S O R Q A : Type 0} (meaning : Meaning S O R Q A) (address : List ℕ → List ℕ) (jobs : List (PreparedView O R)) (job : PreparedView O R) (old mid new : RecordedView (Move O R))
    (answers : List (Result (Landed R) LandRefused)) (answer : Result (Landed R) LandRefused) (records notes : List Record)
    → HaveLanded (fix meaning old.terms address) jobs old mid answers records → AnswersJob (fix meaning mid.terms address) (mid.written ++ mid.pending) job answer
    → new ≡ record mid { pending = mid.pending ++ job_made (fix meaning mid.terms address) (mid.written ++ mid.pending) job }
    → notes ≡ records ++ records_after (fix meaning mid.terms address) (mid.written ++ mid.pending) (job_made (fix meaning mid.terms address) (mid.written ++ mid.pending) job)
    → HaveLanded (fix meaning old.terms address) (jobs ++ job ∷ []) old new (answers ++ answer ∷ []) notes
landed-next {S} {O} {R} meaning address jobs job old mid new answers answer records notes before one makes notes_are =
    let same : mid.terms ≡ old.terms = ap (λ (x : RecordedView (Move O R)). x.terms) before.pending in
    let history = mid.written ++ mid.pending in
    landed-more (fix meaning old.terms address) jobs job old mid new answers answer records notes before
    (subst (λ (t : Terms). AnswersJob (fix meaning t address) history job answer) same one)
    (subst (λ (t : Terms). new ≡ record mid { pending = mid.pending ++ job_made (fix meaning t address) history job }) same makes)
    (subst (λ (t : Terms). notes ≡ records ++ records_after (fix meaning t address) history (job_made (fix meaning t address) history job)) same notes_are)
