-- What landing together makes of each job.
use Rattle.std.proofs.Common.{◌≡◌, ◌≢◌, ℕ, zero, suc, ◌+◌, ◌-◌, ◌≤◌, min, ◌^◌, Bool, true, false, cond, List, [], ◌∷◌, ◌++◌, length, map, take, replicate, refl, ap, sym, subst, ◌∙◌, arith, append_assoc, length-append, Result, Ok, Err}
use Rattle.std.proofs.lemmas.List.{append-nil, append_cancel_left, take_at}
use Rattle.std.specs.List.{AllByRecursion}
use mathlib.Core.List.{IsPrefix}
use Rattle.mrdt_model.specs.Laws.{Meaning}
use Rattle.branch_io.specs.Causes.{Rose}
use Rattle.atomic_table.specs.Seated.{TableId}
use Rattle.branch_disk.specs.Disk.{Files}
use Rattle.branch_disk.specs.declared.disk.Disk.{Ghosts}
use Rattle.branch_front.proofs.Prefixes.{prefix_trans}
use Rattle.branch_front.specs.Views.{View, IsIdle}
use Rattle.branch_names.specs.declared.terms.Terms.{Terms}
use Rattle.branch_history.specs.declared.moves.Move.{Move}
use Rattle.branch_history.specs.Steps.{Turn}
use Rattle.branch_machine.specs.Fixed.{Fixed, fix}
use Rattle.branch_machine.specs.Validity.{IsFullyValid}
use Rattle.store_seen.specs.declared.answers.Landed.{Landed}
use Rattle.store_seen.specs.Turns.{move_of}
use Rattle.store_seen.specs.Views.{PreparedView}
use Rattle.store_core.specs.declared.answers.LandRefused.{LandRefused}
use Rattle.store_core.specs.declared.answers.LandRefused.TheVariants as refusal
use Rattle.store_core.specs.Batches.{job_made, batch_made, HasLanded, AnswersJob, AnswersAll, AnswersBatch}
use Rattle.store_core.specs.Views.{StoreView}
use Rattle.branch_shared.specs.declared.name.Entry.{Entry}
use Rattle.branch_shared.specs.Crashes.{IsSafe, AreSure}
use Rattle.branch_shared.specs.Entries.{moves_of, moments_of}
use Rattle.branch_shared.specs.Keeps.{IsKept, faults_since}
use Rattle.branch_shared.specs.Passes.{PassView, BatchRefusedAt}
use Rattle.branch_shared.specs.Batches.{TakenView, LandsTogether, MayLand, Serves, IsBehind, pass_of, brings, bring, told, answered_all, seen_to, sure_after, shortage, with_refusal}
use Rattle.branch_shared.proofs.Makes.{AllowsAll, all-append, batch-allowed}

no-items : {X : Type 0} (xs : List X) → length xs ≡ 0 → xs ≡ []
no-items [] none = refl
no-items (x ∷ xs) none = absurd (omega arith)

module _ {S O R Q A : Type 0} (fixed : Fixed S O R Q A) where
  -- a job brings as many moves as its answer says
  brings-made : (history : List (Move O R)) (job : PreparedView O R) (answer : Result (Landed R) LandRefused) → AnswersJob fixed history job answer → length (job_made fixed history job) ≡ brings answer
  brings-made history job (Ok landed) is = ap (λ (t : Turn O R A). length t.made) is.turn_is
  brings-made history job (Err (refusal.Dropped branch)) is = ap (λ (t : Turn O R A). length t.made) is
  brings-made history job (Err (refusal.Stale newest)) is = ap (λ (t : Turn O R A). length t.made) is.0
  brings-made history job (Err (refusal.FullCommits count)) is = ap (λ (t : Turn O R A). length t.made) is
  brings-made history job (Err (refusal.FullMoves count)) is = ap (λ (t : Turn O R A). length t.made) is
  brings-made history job (Err (refusal.Collision address stored fresh)) is = ap (λ (t : Turn O R A). length t.made) is
  brings-made history job (Err refusal.DiskFault) is = absurd is
  brings-made history job (Err (refusal.Failed moves)) is = absurd is
  brings-made history job (Err refusal.Memory) is = absurd is

  bring-made : (history : List (Move O R)) (jobs : List (PreparedView O R)) (answers : List (Result (Landed R) LandRefused)) → AnswersAll fixed history jobs answers → bring answers ≡ length (batch_made fixed history jobs)
  bring-made history [] [] all = refl
  bring-made history [] (a ∷ answers) all = absurd all
  bring-made history (j ∷ jobs) [] all = absurd all
  bring-made history (j ∷ jobs) (a ∷ answers) all =
      let first = job_made fixed history j in
      let later = batch_made fixed (history ++ first) jobs in
      omega (arith, brings-made history j a all.0, bring-made (history ++ first) jobs answers all.1, length-append first later)

  one-each : (history : List (Move O R)) (jobs : List (PreparedView O R)) (answers : List (Result (Landed R) LandRefused)) → AnswersAll fixed history jobs answers → length answers ≡ length jobs
  one-each history [] [] all = refl
  one-each history [] (a ∷ answers) all = absurd all
  one-each history (j ∷ jobs) [] all = absurd all
  one-each history (j ∷ jobs) (a ∷ answers) all = ap suc (one-each (history ++ job_made fixed history j) jobs answers all.1)

none-brought : (L : Type 0) {E : Type 0} (why : E) (n : ℕ) → bring {L = L} {E = E} (replicate n (Err why)) ≡ 0
none-brought L why zero = refl
none-brought L why (suc n) = omega (arith, none-brought L why n)

long-replicate : {X : Type 0} (n : ℕ) (x : X) → length (replicate n x) ≡ n
long-replicate zero x = refl
long-replicate (suc n) x = ap suc (long-replicate n x)

-- what a batch makes of a store, whatever became of it
pub record Grows {D O R : Type 0} (jobs : List (PreparedView O R)) (old new : StoreView (Move O R) D) (answers : List (Result (Landed R) LandRefused)) : Type 1 where
  pub more : List (Move O R)
  pub history : new.history ≡ old.history ++ more
  pub many : bring answers ≡ length more
  pub allowed : (Allows : Move O R → Type 0) → AllowsAll Allows jobs → AllByRecursion Allows more
  pub terms : new.terms ≡ old.terms
  pub opened : new.opened ≡ old.opened
  pub long : length answers ≡ length jobs

module _ {D O R : Type 0} (jobs : List (PreparedView O R)) (old new : StoreView (Move O R) D) (answers : List (Result (Landed R) LandRefused)) where
  same-for-all : (why : LandRefused) → answers ≡ replicate (length jobs) (Err why) → new.history ≡ old.history → new.terms ≡ old.terms → new.opened ≡ old.opened → Grows jobs old new answers
  same-for-all why are history terms opened = record {
    more = [];
    history = history ∙ sym (append-nil old.history);
    many = ap (λ (l : List (Result (Landed R) LandRefused)). bring l) are ∙ none-brought (Landed R) why (length jobs);
    allowed = λ Allows may. tt;
    terms = terms;
    opened = opened;
    long = ap (λ (l : List (Result (Landed R) LandRefused)). length l) are ∙ long-replicate (length jobs) (Err why);
  }

  module _ {S Q A : Type 0} (fixed : Fixed S O R Q A) where
    grows-by : {E : Type 0} (was is : Bool) → old.failed ≡ was → new.failed ≡ is → AnswersBatch {E = E} fixed jobs old new (Ok answers) → Grows jobs old new answers
    grows-by was false p q batch =
        let lands = batch.landed q in
        record {
          more = batch_made fixed old.history jobs;
          history = ap (λ (s : StoreView (Move O R) D). s.history) lands.history;
          many = bring-made fixed old.history jobs answers lands.answered;
          allowed = λ Allows may. (batch-allowed fixed Allows old.history jobs may).1;
          terms = ap (λ (s : StoreView (Move O R) D). s.terms) lands.history;
          opened = ap (λ (s : StoreView (Move O R) D). s.opened) lands.history;
          long = one-each fixed old.history jobs answers lands.answered;
        }
    grows-by false true p q batch =
        let faults = batch.faulted p q in
        same-for-all refusal.DiskFault faults.answered (ap (λ (s : StoreView (Move O R) D). s.history) faults.kept) (ap (λ (s : StoreView (Move O R) D). s.terms) faults.kept) (ap (λ (s : StoreView (Move O R) D). s.opened) faults.kept)
    grows-by true true p q batch =
        let had = batch.failed p in
        same-for-all (refusal.Failed (length old.history)) had.answered (ap (λ (s : StoreView (Move O R) D). s.history) had.kept) (ap (λ (s : StoreView (Move O R) D). s.terms) had.kept) (ap (λ (s : StoreView (Move O R) D). s.opened) had.kept)

    pub grows : {E : Type 0} → AnswersBatch {E = E} fixed jobs old new (Ok answers) → Grows jobs old new answers
    grows batch = grows-by old.failed new.failed refl refl batch

module _ {S O R Q A : Type 0} (fixed : Fixed S O R Q A) (opened : ℕ) (begun : List (Move O R)) where
  module _ (made : PreparedView O R) (old : PassView (Move O R)) (history : List (Move O R)) (sure : List ℕ) (faults : ℕ) (prefix : IsPrefix old.moves history)
      (knows : IsPrefix old.sure sure × (length begun + length sure ≡ length history)) (begins : IsPrefix begun history) (rise : old.faults ≤ faults) where
    pub refused-together : (why : LandRefused) → IsFullyValid fixed history → BatchRefusedAt fixed opened made old (record old { moves = history; sure = sure; faults = faults }) why
        → (why ≢ refusal.DiskFault → ((moves : ℕ) → why ≢ refusal.Failed moves) → faults ≡ 0)
        → LandsTogether fixed opened begun made old (record { pass = record old { moves = history; sure = sure; faults = faults }; answer = Err why })
    refused-together why valid is quiet = record {
      prefix = prefix;
      sure = knows;
      begins = begins;
      valid = valid;
      faults = rise;
      parts = refl;
      landed = tt;
      refused = is;
      rest = refl;
      quiet = λ fault failed. quiet (λ e. fault (ap Err e)) (λ moves e. failed moves (ap Err e));
    }

    machine-refused : (why : LandRefused) → AnswersJob fixed history made (Err why) → BatchRefusedAt fixed opened made old (record old { moves = history; sure = sure; faults = faults }) why
    machine-refused (refusal.Dropped branch) is = is
    machine-refused (refusal.Stale newest) is = is
    machine-refused (refusal.FullCommits count) is = is
    machine-refused (refusal.FullMoves count) is = is
    machine-refused (refusal.Collision address stored fresh) is = is
    machine-refused refusal.DiskFault is = absurd is
    machine-refused (refusal.Failed moves) is = absurd is
    machine-refused refusal.Memory is = absurd is

    landed-together : (next : List (Move O R)) (later : List ℕ) (landed : Landed R) → IsPrefix old.sure later × (length begun + length later ≡ length next) → HasLanded fixed history made landed → next ≡ history ++ move_of made.seen.branch made.work ∷ [] → IsFullyValid fixed next → faults ≡ 0
        → LandsTogether fixed opened begun made old (record { pass = record old { moves = next; sure = later; mine = old.mine ++ length next ∷ []; faults = faults; receipts = old.receipts + 1 }; answer = Ok landed })
    landed-together next later landed knows-later has is valid none =
        let move = move_of made.seen.branch made.work in
        let long : landed.moves ≡ length next = omega (arith, has.counted, ap length is, length-append history (move ∷ [])) in
        let further : IsPrefix history next = (move ∷ [], sym is) in
        record {
          prefix = prefix_trans old.moves history next prefix further;
          sure = knows-later;
          begins = prefix_trans begun history next begins further;
          valid = valid;
          faults = rise;
          parts = refl;
          landed = record {
            before = history;
            seen = prefix;
            turn_is = has.turn_is;
            last = is;
            counted = long;
            rest = ap (λ (n : ℕ). record old { moves = next; sure = later; mine = old.mine ++ n ∷ []; faults = faults; receipts = old.receipts + 1 }) (sym long);
          };
          refused = tt;
          rest = tt;
          quiet = λ fault failed. none;
        }

    -- the moments behind an answer that makes the history so long
    knows-after : (since : ℕ) (next : List (Move O R)) (answer : Result (Landed R) LandRefused) → length next ≡ length history + brings answer
        → IsPrefix old.sure (sure_after since sure answer) × (length begun + length (sure_after since sure answer) ≡ length next)
    knows-after since next answer long = (
      prefix_trans old.sure sure (sure_after since sure answer) knows.0 (replicate (brings answer) since, refl),
      omega (arith, long, knows.1, length-append sure (replicate (brings answer) since), long-replicate (brings answer) since),
    )

    answered-together : (seen : List (Move O R)) (sight : List ℕ) (known since : ℕ) (next : List (Move O R)) (answer : Result (Landed R) LandRefused) → length next ≡ length history + brings answer → AnswersJob fixed history made answer → next ≡ history ++ job_made fixed history made
        → IsFullyValid fixed next → faults ≡ 0
        → LandsTogether fixed opened begun made old (record { pass = told faults next (sure_after since sure answer) answer (record old { moves = seen; sure = sight; faults = known }); answer = answer })
    answered-together seen sight known since next (Ok landed) long is grown valid none =
        landed-together next (sure_after since sure (let answer : Result (Landed R) LandRefused = Ok landed in answer)) landed (knows-after since next (Ok landed) long) is (grown ∙ ap (λ (t : Turn O R A). history ++ t.made) is.turn_is) valid none
    answered-together seen sight known since next (Err why) long is grown valid none =
        let nothing = no-items (job_made fixed history made) (brings-made fixed history made (Err why) is) in
        let same : next ≡ history = grown ∙ (ap (λ (l : List (Move O R)). history ++ l) nothing ∙ append-nil history) in
        subst (λ (l : List ℕ). LandsTogether fixed opened begun made old (record { pass = record old { moves = next; sure = l; faults = faults }; answer = Err why })) (sym (append-nil sure))
        (subst (λ (h : List (Move O R)). LandsTogether fixed opened begun made old (record { pass = record old { moves = h; sure = sure; faults = faults }; answer = Err why })) (sym same)
        (refused-together why (subst (IsFullyValid fixed) same valid) (machine-refused why is) (λ fault failed. none)))

  abbrev Lands : TakenView O R → Type 0
  Lands taken = Serves fixed opened begun taken.job taken.given

  abbrev IsOwn : TakenView O R → Type 0
  IsOwn taken = taken.given.pass ≡ pass_of begun taken.job.pass

  module _ (seen final : List (Move O R)) (sight : List ℕ) (known faults since : ℕ) (begins : IsPrefix begun seen) (rise : known ≤ faults) where
    -- what the job's own pass had seen is a beginning of what is seen now
    own-prefix : (taken : TakenView O R) → IsOwn taken → IsBehind known seen sight taken.given.pass → IsBehind known seen sight (pass_of begun taken.job.pass)
    own-prefix taken own behind = subst (IsBehind known seen sight) own behind

    pub all-together : faults ≡ 0 → ((first second : List (Move O R)) → first ++ second ≡ final → IsFullyValid fixed first)
        → (history : List (Move O R)) (sure : List ℕ) → IsPrefix seen history → IsPrefix sight sure → length begun + length sure ≡ length history → (all : List (TakenView O R)) (answers : List (Result (Landed R) LandRefused))
        → AnswersAll fixed history (map (λ (t : TakenView O R). t.job.prepared) all) answers
        → history ++ batch_made fixed history (map (λ (t : TakenView O R). t.job.prepared) all) ≡ final
        → AllByRecursion IsOwn all → AllByRecursion (λ (t : TakenView O R). IsBehind known seen sight t.given.pass) all
        → AllByRecursion Lands (answered_all faults final since sure (length history) answers (map (seen_to known seen sight) all))
    all-together none valid history sure further more long [] [] is ends own behind = tt
    all-together none valid history sure further more long [] (a ∷ answers) is ends own behind = absurd is
    all-together none valid history sure further more long (t ∷ all) [] is ends own behind = absurd is
    all-together none valid history sure further more long (t ∷ all) (a ∷ answers) is ends own behind =
        let jobs = map (λ (t : TakenView O R). t.job.prepared) all in
        let first = job_made fixed history t.job.prepared in
        let next = history ++ first in
        let later = batch_made fixed next jobs in
        let whole : next ++ later ≡ final = append_assoc history first later ∙ ends in
        let count : length next ≡ length history + brings a = omega (arith, length-append history first, brings-made fixed history t.job.prepared a is.0) in
        let here : take (length history + brings a) final ≡ next = ap (λ (l : List (Move O R)). take (length history + brings a) l) (sym whole) ∙ take_at next later (length history + brings a) count in
        let old = own-prefix t own.0 behind.0 in
        let pass = pass_of begun t.job.pass in
        let later-sure = sure_after since sure a in
        let knows : IsPrefix pass.sure sure × (length begun + length sure ≡ length history) = (prefix_trans pass.sure sight sure old.1 more, long) in
        let told-at = answered-together t.job.prepared pass history sure faults (prefix_trans pass.moves seen history old.0 further) knows (prefix_trans begun seen history begins further) (omega (arith, old.2, rise)) seen sight known since next a count is.0 refl
        (valid next later whole) none in
        let head : Lands (record t { given = record { pass = told faults (take (length history + brings a) final) later-sure a (record (t.given.pass) { moves = seen; sure = sight; faults = known }); answer = a } }) =
        subst (λ (p : PassView (Move O R)). LandsTogether fixed opened begun t.job.prepared pass (record { pass = told faults (take (length history + brings a) final) later-sure a (record p { moves = seen; sure = sight; faults = known }); answer = a })) (sym own.0)
        (subst (λ (h : List (Move O R)). LandsTogether fixed opened begun t.job.prepared pass (record { pass = told faults h later-sure a (record pass { moves = seen; sure = sight; faults = known }); answer = a })) (sym here) told-at) in
        let after = knows-after t.job.prepared pass history sure faults (prefix_trans pass.moves seen history old.0 further) knows (prefix_trans begun seen history begins further) (omega (arith, old.2, rise)) since next a count in
        let rest = all-together none valid next later-sure (prefix_trans seen history next further (first, refl)) (prefix_trans sight sure later-sure more (replicate (brings a) since, refl)) after.1 all answers is.1 whole own.1 behind.1 in
        (head, subst (λ (n : ℕ). AllByRecursion Lands (answered_all faults final since later-sure n answers (map (seen_to known seen sight) all))) count rest)

    -- all share a refusal
    module _ (why : LandRefused) (valid : IsFullyValid fixed seen) (long : length begun + length sight ≡ length seen)
        (is : (made : PreparedView O R) (old : PassView (Move O R)) → old.faults ≤ known → BatchRefusedAt fixed opened made old (record old { moves = seen; sure = sight; faults = faults }) why)
        (quiet : why ≢ refusal.DiskFault → ((moves : ℕ) → why ≢ refusal.Failed moves) → faults ≡ 0) where
      one-refused : (t : TakenView O R) → IsOwn t → IsBehind known seen sight t.given.pass → LandsTogether fixed opened begun t.job.prepared (pass_of begun t.job.pass) (record { pass = record (t.given.pass) { moves = seen; sure = sight; faults = faults }; answer = Err why })
      one-refused t own behind =
          let old = own-prefix t own behind in
          let pass = pass_of begun t.job.pass in
          subst (λ (p : PassView (Move O R)). LandsTogether fixed opened begun t.job.prepared pass (record { pass = record p { moves = seen; sure = sight; faults = faults }; answer = Err why })) (sym own)
          (refused-together t.job.prepared pass seen sight faults old.0 (old.1, long) begins (omega (arith, old.2, rise)) why valid (is t.job.prepared pass old.2) quiet)

      pub all-answered : (count : ℕ) → count ≡ length seen → (sure : List ℕ) → sure ≡ sight → (all : List (TakenView O R)) (answers : List (Result (Landed R) LandRefused)) → answers ≡ replicate (length (map (λ (t : TakenView O R). t.job.prepared) all)) (Err why)
          → AllByRecursion IsOwn all → AllByRecursion (λ (t : TakenView O R). IsBehind known seen sight t.given.pass) all
          → AllByRecursion Lands (answered_all faults seen since sure count answers (map (seen_to known seen sight) all))
      all-answered count at sure stay [] answers are own behind = subst (λ (l : List (Result (Landed R) LandRefused)). AllByRecursion Lands (answered_all faults seen since sure count l [])) (sym are) tt
      all-answered count at sure stay (t ∷ all) answers are own behind =
          let stays : count + 0 ≡ length seen = omega (arith, at) in
          let here : take (count + 0) seen ≡ seen = ap (λ (n : ℕ). take n seen) stays ∙ (ap (λ (l : List (Move O R)). take (length seen) l) (sym (append-nil seen)) ∙ take_at seen [] (length seen) refl) in
          let still : sure ++ [] ≡ sight = append-nil sure ∙ stay in
          let same : List (Result (Landed R) LandRefused) = replicate (length (map (λ (t : TakenView O R). t.job.prepared) all)) (Err why) in
          subst (λ (l : List (Result (Landed R) LandRefused)). AllByRecursion Lands (answered_all faults seen since sure count l (map (seen_to known seen sight) (t ∷ all)))) (sym are) (
            subst (λ (h : List (Move O R)). LandsTogether fixed opened begun t.job.prepared (pass_of begun t.job.pass) (record { pass = record (t.given.pass) { moves = h; sure = sure_after since sure (let answer : Result (Landed R) LandRefused = Err why in answer); faults = faults }; answer = Err why })) (sym here)
                (subst (λ (l : List ℕ). LandsTogether fixed opened begun t.job.prepared (pass_of begun t.job.pass) (record { pass = record (t.given.pass) { moves = seen; sure = l; faults = faults }; answer = Err why })) (sym still) (one-refused t own.0 behind.0)),
            all-answered (count + 0) stays (sure ++ []) still all same refl own.1 behind.1,
          )

  -- all are refused where nothing was tried
  module _ (seen : List (Move O R)) (sight : List ℕ) (known : ℕ) (begins : IsPrefix begun seen) (long : length begun + length sight ≡ length seen) (why : LandRefused) (valid : IsFullyValid fixed seen)
      (is : (made : PreparedView O R) (old : PassView (Move O R)) → old.faults ≤ known → BatchRefusedAt fixed opened made old (record old { moves = seen; sure = sight; faults = known }) why)
      (quiet : why ≢ refusal.DiskFault → ((moves : ℕ) → why ≢ refusal.Failed moves) → known ≡ 0) where
    pub all-refused : (all : List (TakenView O R)) → AllByRecursion IsOwn all → AllByRecursion (λ (t : TakenView O R). IsBehind known seen sight t.given.pass) all
        → AllByRecursion Lands (map (with_refusal why) (map (seen_to known seen sight) all))
    all-refused [] own behind = tt
    all-refused (t ∷ all) own behind = (one-refused seen seen sight known known 0 begins (omega arith) why valid long is quiet t own.0 behind.0, all-refused all own.1 behind.1)

-- what is known of a core's disk and its faults
pub record Known {M D : Type 0} (faults : D → ℕ) (store : StoreView M D) : Type 0 where
  pub later : faults store.opened ≤ faults store.disk
  pub caused : store.failed ≡ true → Rose (faults store.opened) (faults store.disk)
  pub quiet : store.failed ≡ false → faults store.disk ≡ faults store.opened

module _ {D S O R Q A : Type 0} (meaning : Meaning S O R Q A) (address : List ℕ → List ℕ) (faults : D → ℕ) (opened : ℕ) (begun : List (Move O R)) (terms : Terms) (old : StoreView (Move O R) D) (all : List (TakenView O R))
    (sure : List ℕ) (since : ℕ) (long : length begun + length sure ≡ length old.history) (opened_is : faults old.opened ≡ opened) (begins : IsPrefix begun old.history) (known : Known faults old) (own : AllByRecursion (IsOwn (fix meaning terms address) opened begun) all)
    (behind : AllByRecursion (λ (t : TakenView O R). IsBehind (faults_since faults old) old.history sure t.given.pass) all) where
  abbrev setting : Fixed S O R Q A
  setting = fix meaning terms address

  abbrev jobs : List (PreparedView O R)
  jobs = map (λ (t : TakenView O R). t.job.prepared) all

  module _ (new : StoreView (Move O R) D) (answers : List (Result (Landed R) LandRefused)) (same : new.opened ≡ old.opened) (valid : (first second : List (Move O R)) → first ++ second ≡ new.history → IsFullyValid setting first)
      (after : Known faults new) (caused : old.failed ≡ false → new.failed ≡ true → Rose (faults old.disk) (faults new.disk)) where
    abbrev Done : Type 0
    Done = AllByRecursion (Lands setting opened begun) (answered_all (faults_since faults new) new.history since sure (length old.history) answers (map (seen_to (faults_since faults old) old.history sure) all))

    served-by : {E : Type 0} (was is : Bool) → old.failed ≡ was → new.failed ≡ is → AnswersBatch {E = E} setting jobs old new (Ok answers) → Done
    served-by was false p q batch =
        let lands = batch.landed q in
        let worked : old.failed ≡ false = sym (ap (λ (s : StoreView (Move O R) D). s.failed) lands.history) ∙ q in
        let before : faults old.disk ≡ faults old.opened = known.quiet worked in
        let now : faults new.disk ≡ faults new.opened = after.quiet q in
        all-together setting opened begun old.history new.history sure (faults_since faults old) (faults_since faults new) since begins (omega arith) (omega arith) valid old.history sure ([], append-nil old.history) ([], append-nil sure) long all answers
        lands.answered (sym (ap (λ (s : StoreView (Move O R) D). s.history) lands.history)) own behind
    served-by false true p q batch =
        let fails = batch.faulted p q in
        let stays : new.history ≡ old.history = ap (λ (s : StoreView (Move O R) D). s.history) fails.kept in
        let before : faults old.disk ≡ faults old.opened = known.quiet p in
        let rose : min (faults old.disk + 1) (2 ^ 64 - 1) ≤ faults new.disk = caused p q in
        let one : faults new.opened ≡ faults old.opened = ap faults same in
        let later : faults new.opened ≤ faults new.disk = after.later in
        subst (λ (h : List (Move O R)). AllByRecursion (Lands setting opened begun) (answered_all (faults_since faults new) h since sure (length old.history) answers (map (seen_to (faults_since faults old) old.history sure) all))) (sym stays)
        (all-answered setting opened begun old.history old.history sure (faults_since faults old) (faults_since faults new) since begins (omega arith) refusal.DiskFault (valid old.history [] (append-nil old.history ∙ sym stays)) long
        (λ made pass le. omega arith) (λ fault failed. absurd (fault refl)) (length old.history) refl sure refl all answers fails.answered own behind)
    served-by true true p q batch =
        let had = batch.failed p in
        let stays : new.history ≡ old.history = ap (λ (s : StoreView (Move O R) D). s.history) had.kept in
        let one : faults new.disk ≡ faults old.disk = ap (λ (s : StoreView (Move O R) D). faults s.disk) had.kept in
        let two : faults new.opened ≡ faults old.opened = ap faults same in
        let rose : min (faults old.opened + 1) (2 ^ 64 - 1) ≤ faults old.disk = known.caused p in
        let later : faults old.opened ≤ faults old.disk = known.later in
        subst (λ (h : List (Move O R)). AllByRecursion (Lands setting opened begun) (answered_all (faults_since faults new) h since sure (length old.history) answers (map (seen_to (faults_since faults old) old.history sure) all))) (sym stays)
        (all-answered setting opened begun old.history old.history sure (faults_since faults old) (faults_since faults new) since begins (omega arith) (refusal.Failed (length old.history)) (valid old.history [] (append-nil old.history ∙ sym stays)) long
        (λ made pass le. (omega arith, refl)) (λ fault failed. absurd (failed (length old.history) refl)) (length old.history) refl sure refl all answers had.answered own behind)

    pub served : {E : Type 0} → AnswersBatch {E = E} setting jobs old new (Ok answers) → Done
    served batch = served-by old.failed new.failed refl refl batch

  module _ (valid : IsFullyValid setting old.history) where
    short-by : (was : Bool) → old.failed ≡ was → (why : LandRefused) → cond was (refusal.Failed (length old.history)) refusal.Memory ≡ why
        → AllByRecursion (Lands setting opened begun) (map (with_refusal why) (map (seen_to (faults_since faults old) old.history sure) all))
    short-by true p why is =
        let rose : min (faults old.opened + 1) (2 ^ 64 - 1) ≤ faults old.disk = known.caused p in
        let later : faults old.opened ≤ faults old.disk = known.later in
        subst (λ (w : LandRefused). AllByRecursion (Lands setting opened begun) (map (with_refusal w) (map (seen_to (faults_since faults old) old.history sure) all))) is
        (all-refused setting opened begun old.history sure (faults_since faults old) begins long (refusal.Failed (length old.history)) valid (λ made pass le. (omega arith, refl)) (λ fault failed. absurd (failed (length old.history) refl)) all own behind)
    short-by false p why is =
        let before : faults old.disk ≡ faults old.opened = known.quiet p in
        subst (λ (w : LandRefused). AllByRecursion (Lands setting opened begun) (map (with_refusal w) (map (seen_to (faults_since faults old) old.history sure) all))) is
        (all-refused setting opened begun old.history sure (faults_since faults old) begins long refusal.Memory valid (λ made pass le. tt) (λ fault failed. omega arith) all own behind)

    pub short-served : AllByRecursion (Lands setting opened begun) (map (with_refusal (shortage old)) (map (seen_to (faults_since faults old) old.history sure) all))
    short-served = short-by old.failed refl (shortage old) refl

-- what lies under the lock once the batch's answers are told
pub kept-grown : {D S O R Q A : Type 0} (disk : Ghosts D) (fixed : Fixed S O R Q A) (table : TableId) (begun : List (Move O R)) (terms : Terms) (opened : ℕ) (allows : Move O R → Type 0) (since : ℕ) (left : ℕ → Files → Type 0)
    (jobs : List (PreparedView O R)) (old new : StoreView (Move O R) D) (answers : List (Result (Landed R) LandRefused)) (was is : View (Entry O R))
    → IsKept disk fixed table begun terms opened allows since left old was → Grows jobs old new answers → AllowsAll allows jobs
    → is.table ≡ table → begun ++ moves_of is.moves ≡ new.history → is.faults ≡ faults_since disk.faults new → IsIdle is → IsSafe disk fixed since left begun allows new × AreSure disk fixed begun new.history (moments_of is.moves) new.disk
    → IsKept disk fixed table begun terms opened allows since left new is
kept-grown {D} {S} {O} {R} disk fixed table begun terms opened allows since left _ old new answers was is kept grown may named history counted idle safe = record {
  table_is = named;
  history_is = sym history;
  terms_are = grown.terms ∙ kept.terms_are;
  opened_is = ap disk.faults grown.opened ∙ kept.opened_is;
  faults_are = counted;
  idle = idle;
  allowed =
      let moves : moves_of is.moves ≡ moves_of was.moves ++ grown.more = append_cancel_left begun (moves_of is.moves) (moves_of was.moves ++ grown.more)
      (history ∙ (grown.history ∙ (ap (λ (l : List (Move O R)). l ++ grown.more) kept.history_is ∙ append_assoc begun (moves_of was.moves) grown.more))) in
      subst (AllByRecursion allows) (sym moves) (all-append allows (moves_of was.moves) grown.more kept.allowed (grown.allowed allows may));
  safe = safe.0;
  sure = safe.1;
}

-- what may be landed was prepared on a beginning of the history that all have seen, under the store's terms
module _ {O R : Type 0} (table : TableId) (begun : List (Move O R)) (terms : Terms) (allows : Move O R → Type 0) where
  pub may-begin : (faults : ℕ) (history : List (Move O R)) (sure : List ℕ) (all : List (TakenView O R)) → AllByRecursion (λ (t : TakenView O R). t.given.pass ≡ pass_of begun t.job.pass) all
      → AllByRecursion (λ (t : TakenView O R). IsBehind faults history sure t.given.pass) all → AllByRecursion (λ (t : TakenView O R). MayLand table begun terms allows t.job) all
      → AllByRecursion (λ (job : PreparedView O R). IsPrefix job.seen.history history) (map (λ (t : TakenView O R). t.job.prepared) all)
  may-begin faults history sure [] own behind may = tt
  may-begin faults history sure (t ∷ all) own behind may =
      let seen : IsPrefix (begun ++ moves_of t.job.pass.moves) history = (subst (IsBehind faults history sure) own.0 behind.0).0 in
      (prefix_trans t.job.prepared.seen.history (begun ++ moves_of t.job.pass.moves) history may.0.begins seen, may-begin faults history sure all own.1 behind.1 may.1)

  pub may-terms : (held : Terms) → held ≡ terms → (all : List (TakenView O R)) → AllByRecursion (λ (t : TakenView O R). MayLand table begun terms allows t.job) all
      → AllByRecursion (λ (job : PreparedView O R). job.seen.terms ≡ held) (map (λ (t : TakenView O R). t.job.prepared) all)
  may-terms held same [] may = tt
  may-terms held same (t ∷ all) may = (may.0.terms_are ∙ sym same, may-terms held same all may.1)

  pub may-all : (all : List (TakenView O R)) → AllByRecursion (λ (t : TakenView O R). MayLand table begun terms allows t.job) all → AllowsAll allows (map (λ (t : TakenView O R). t.job.prepared) all)
  may-all [] may = tt
  may-all (t ∷ all) may = (may.0.allowed, may-all all may.1)
