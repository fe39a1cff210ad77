-- What a client's sessions see, and how a client goes on.
use Rattle.std.specs.Prelude.{◌≡◌, ℕ, ◌+◌, ◌≤◌, ◌⊎◌, List, [], ◌∷◌, ◌++◌, length, Some, None, if◌then◌else◌}
use Rattle.std.specs.declared.option.Option.{Option}
use Rattle.std.specs.Option.{option_map}
use Rattle.std.specs.Map.{lookup}
use Rattle.std.specs.Ordering.{nat_cmp, is_eq}
use Rattle.std.specs.Cmp.Lexicographic.{slice_cmp}
use mathlib.Core.List.{IsPrefix}
use Rattle.mrdt_model.specs.Laws.{Meaning}
use Rattle.branch_names.specs.declared.terms.Terms.{Terms}
use Rattle.branch_names.specs.Heads.{head_of, branch_named}
use Rattle.branch_history.specs.declared.moves.Move.{Move}
use Rattle.branch_history.specs.declared.moves.Move.TheVariants as move
use Rattle.branch_history.specs.History.{store_of}
use Rattle.branch_history.specs.Steps as machine
use Rattle.branch_script.specs.declared.step.Step.{Step}
use Rattle.store_seen.specs.declared.answers.PairRefused.{PairRefused}
use Rattle.store_seen.specs.declared.answers.PairRefused.TheVariants as pair_refusal
use Rattle.store_seen.specs.declared.pair.PairStep.{PairStep}
use Rattle.store_seen.specs.Groups.{IsGrouped, GroupRefusedAs, MergesAllAs, IsStepOfAll}
use Rattle.store_seen.specs.Turns.{step_of}
use Rattle.store_seen.specs.Views.{CoreView, SeenView, PreparedView, GroupView}
use Rattle.recorded_history.specs.Machine.{FullyRefuses}
use Rattle.store_core.specs.declared.answers.DropRefused.{DropRefused}
use Rattle.store_core.specs.declared.answers.DropRefused.TheVariants as drop_refusal
use Rattle.branch_shared.specs.Passes.{PassView, IsSeenOn}
use Rattle.parallel_clients.specs.declared.landing.Landing.{Landing}
use Rattle.parallel_clients.specs.declared.landing.Landing.TheVariants.{Moved, Stale, Same}
use Rattle.parallel_clients.specs.declared.landing.Stop.{Stop}
use Rattle.parallel_clients.specs.declared.landing.Stop.TheVariants.{Refused, Unseen}
use Rattle.parallel_clients.specs.declared.outcome.ClientRefusal.{ClientRefusal}
use Rattle.parallel_clients.specs.declared.outcome.ClientRefusal.TheVariants as client_refusal
use Rattle.parallel_clients.specs.declared.outcome.Outcome.{Outcome}
use Rattle.parallel_clients.specs.declared.outcome.Outcome.TheVariants as outcome
use Rattle.parallel_clients.specs.declared.sessions.Session.{Session}
use Rattle.branch_doc.specs.Types.{PlainForms}
use Rattle.parallel_clients.specs.Played.{Sights, no_sights, WasHead, IsReached, Joins, BringsNothing, PlayedFrom}
use Rattle.parallel_clients.specs.Outcomes.{Setting, ArePast, HasFailed, StepRefused, SeesNone}

-- the sessions of a client: of each, the branch of its last look, and what it sees there
abbrev pub Sessions : Type 0 → Type 0
Sessions M = List (List ℕ × Session (SeenView M))

-- what the table of sessions has for a name
abbrev pub session_named : {S : Type 0} → List (List ℕ × S) → List ℕ → Option S
session_named entries name = lookup (λ other. is_eq (slice_cmp nat_cmp name other)) entries

-- a session came to see this, and the others see what they saw
abbrev pub Puts : {S : Type 0} → List (List ℕ × S) → List (List ℕ × S) → List ℕ → S → Type 0
Puts old new session s = (name : List ℕ) → session_named new name ≡ (if is_eq (slice_cmp nat_cmp session name) then Some s else session_named old name)

-- the branches that the sessions see, by their numbers
abbrev pub sights_of : {M : Type 0} → Sessions M → Sights
sights_of sessions name = option_map (λ s. s.seen.branch) (session_named sessions name)

-- a look at the branch's head, after some first part of a history
pub record IsSession {O R : Type 0} (terms : Terms) (moves : List (Move O R)) (s : Session (SeenView (Move O R))) : Type 0 where
  pub begins : IsPrefix s.seen.history moves
  pub terms_are : s.seen.terms ≡ terms
  pub named : branch_named (store_of terms.origin s.seen.history).branches s.branch ≡ Some s.seen.branch
  pub head : head_of (store_of terms.origin s.seen.history).branches s.seen.branch ≡ s.seen.head

-- each session's is one
pub record AreSessions {O R : Type 0} (terms : Terms) (moves : List (Move O R)) (sessions : Sessions (Move O R)) : Type 0 where
  pub each : (name : List ℕ) (s : Session (SeenView (Move O R))) → session_named sessions name ≡ Some s → IsSession terms moves s

-- a client on its way: the history that it has seen, what its sessions see, and the places of its moves
pub record Stage (M : Type 0) : Type 0 where
  pub moves : List M
  pub sights : Sights
  pub places : List ℕ

-- where a client goes on from a stage, it has gone on so from an earlier one, by some steps and places in front
abbrev pub GoesOn : {O R Q A : Type 0} → PlainForms O Q R A → ℕ → List Step → List ℕ → Stage (Move O R) → Stage (Move O R) → Type 0
GoesOn {O} {R} forms origin steps own old new =
    (later : List (Move O R)) (rest : List Step) (after : Sights) (more : List ℕ) → IsPrefix new.moves later → PlayedFrom forms origin later rest new.sights after (length new.moves) more
    → PlayedFrom forms origin later (steps ++ rest) old.sights after (length old.moves) (own ++ more)

-- a client came by these steps from one stage to another
pub record PlaysOn {O R Q A : Type 0} (forms : PlainForms O Q R A) (origin : ℕ) (steps : List Step) (old new : Stage (Move O R)) : Type 0 where
  pub own : List ℕ
  pub grown : IsPrefix old.moves new.moves
  pub added : new.places ≡ old.places ++ own
  pub past : ArePast (length old.moves) own
  pub goes_on : GoesOn forms origin steps own old new

abbrev pub stage_of : {M : Type 0} → PassView M → Sessions M → List ℕ → Stage M
stage_of pass sessions places = record { moves = pass.moves; sights = sights_of sessions; places = places }

-- a client's pass has seen more, and counts the moves whose places were noted. Where its own moves were those noted, they are
-- still, and it claims no others than before
pub record Advances {M : Type 0} (old new : PassView M) (places after : List ℕ) : Type 0 where
  pub seen : IsPrefix old.moves new.moves
  pub faults : old.faults ≤ new.faults
  pub parts : new.parts ≡ old.parts
  pub counted : new.receipts + length places ≡ old.receipts + length after
  pub mine : old.mine ≡ places → new.mine ≡ after
  pub others : new.others ≡ old.others

-- a move landed behind all that had been seen, and perhaps more, and its place was noted
pub record HasMoved {M : Type 0} (made : M) (old new : PassView M) (places after : List ℕ) : Type 0 where
  pub before : List M
  pub seen : IsPrefix old.moves before
  pub last : new.moves ≡ before ++ made ∷ []
  pub noted : after ≡ places ++ length new.moves ∷ []
  pub mine : new.mine ≡ old.mine ++ length new.moves ∷ []
  pub others : new.others ≡ old.others
  pub receipts : new.receipts ≡ old.receipts + 1
  pub parts : new.parts ≡ old.parts

-- the pass has seen more, and no move was made
pub record HasStayed {M : Type 0} (old new : PassView M) (places after : List ℕ) : Type 0 where
  pub rest : IsSeenOn old new
  pub noted : after ≡ places

-- what came of a landing, where a move is this one
abbrev pub IsLanding : {M : Type 0} → M → PassView M → PassView M → List ℕ → List ℕ → Landing → Type 0
IsLanding made old new places after Moved = HasMoved made old new places after
IsLanding made old new places after Stale = HasStayed old new places after
IsLanding made old new places after Same = ⊥

-- the machine refuses what was prepared, after a history
abbrev pub RefusesMade : {S O R Q A : Type 0} → Setting S O R Q A → PreparedView O R → List (Move O R) → machine.Refusal → Type 0
RefusesMade on made moves refusal = FullyRefuses on.fixed moves (step_of made.seen made.work) refusal

-- why what was prepared did not land
abbrev pub IsLandRefused : {S O R Q A : Type 0} → Setting S O R Q A → PreparedView O R → PassView (Move O R) → ClientRefusal → Type 0
IsLandRefused on made new (client_refusal.Dropped branch) = RefusesMade on made new.moves (machine.Dropped branch)
IsLandRefused on made new (client_refusal.FullCommits count) = RefusesMade on made new.moves (machine.FullCommits count)
IsLandRefused on made new (client_refusal.FullMoves count) = RefusesMade on made new.moves (machine.FullMoves count)
IsLandRefused on made new (client_refusal.Collision address stored fresh) = RefusesMade on made new.moves (machine.Collision address stored fresh)
IsLandRefused on made new client_refusal.DiskFault = HasFailed on new.faults
IsLandRefused on made new (client_refusal.Failed count) = (count ≡ length new.moves) × HasFailed on new.faults
IsLandRefused on made new client_refusal.Memory = Unit {0}
IsLandRefused on made new other = ⊥

-- an operation landed on the branch that a session sees, where there is one
pub record HasDone {O R : Type 0} (sight : Option ℕ) (op : Option O) (old new : PassView (Move O R)) (places after : List ℕ) : Type 0 where
  pub branch : ℕ
  pub sees : sight ≡ Some branch
  pub operation : O
  pub is : op ≡ Some operation
  pub reply : R
  pub moved : HasMoved (move.Operation branch operation reply) old new places after

-- what came of a try to land it
abbrev pub IsTried : {O R : Type 0} → Option ℕ → Option O → PassView (Move O R) → PassView (Move O R) → List ℕ → List ℕ → Landing → Type 0
IsTried sight op old new places after Moved = HasDone sight op old new places after
IsTried sight op old new places after Stale = HasStayed old new places after
IsTried sight op old new places after Same = ⊥

-- a head of another branch was merged into the branch that a session sees
pub record HasMerged {O R : Type 0} (origin : ℕ) (sight : Option ℕ) (from : List ℕ) (old new : PassView (Move O R)) (places after : List ℕ) : Type 0 where
  pub branch : ℕ
  pub sees : sight ≡ Some branch
  pub source : ℕ
  pub commit : ℕ
  pub head : WasHead origin new.moves from source commit
  pub moved : HasMoved (move.Merge branch commit) old new places after ⊎ HasMoved (move.Forward branch commit) old new places after

-- there was nothing to merge
pub record HasSame {O R : Type 0} (origin : ℕ) (sight : Option ℕ) (from : List ℕ) (old new : PassView (Move O R)) (places after : List ℕ) : Type 0 where
  pub branch : ℕ
  pub sees : sight ≡ Some branch
  pub reached : IsReached origin branch from new.moves
  pub stayed : HasStayed old new places after

-- what came of a try to merge
abbrev pub IsTriedMerge : {O R : Type 0} → ℕ → Option ℕ → List ℕ → PassView (Move O R) → PassView (Move O R) → List ℕ → List ℕ → Landing → Type 0
IsTriedMerge origin sight from old new places after Moved = HasMerged origin sight from old new places after
IsTriedMerge origin sight from old new places after Stale = HasStayed old new places after
IsTriedMerge origin sight from old new places after Same = HasSame origin sight from old new places after

-- why a client stops whose branch was not dropped, unless it has a newer head
abbrev pub undropped_as : DropRefused → Option ClientRefusal
undropped_as (drop_refusal.Dropped branch) = Some (client_refusal.Dropped branch)
undropped_as drop_refusal.KeepsMain = Some client_refusal.KeepsMain
undropped_as (drop_refusal.Stale newest) = None
undropped_as (drop_refusal.FullMoves count) = Some (client_refusal.FullMoves count)
undropped_as drop_refusal.DiskFault = Some client_refusal.DiskFault
undropped_as (drop_refusal.Failed moves) = Some (client_refusal.Failed moves)
undropped_as drop_refusal.Memory = Some client_refusal.Memory

-- why a client stops whose look was not grouped
abbrev pub ungrouped_as : PairRefused → ClientRefusal
ungrouped_as (pair_refusal.UnknownBranch name) = client_refusal.UnknownBranch name
ungrouped_as pair_refusal.Memory = client_refusal.Memory

-- a look was grouped with the heads that branches have, and this is what was prepared of the group
pub record IsJoinReady {S O R Q A : Type 0} (meaning : Meaning S O R Q A) (core : CoreView (Move O R)) (seen : SeenView (Move O R)) (from : List (List ℕ)) (step : PairStep S O Q A R) : Type 0 where
  pub group : GroupView (Move O R)
  pub grouped : IsGrouped meaning core seen from group
  pub is : IsStepOfAll meaning group step

-- it was grouped, and a merge of the group is too large
pub record IsJoinTooLarge {S O R Q A : Type 0} (meaning : Meaning S O R Q A) (core : CoreView (Move O R)) (seen : SeenView (Move O R)) (from : List (List ℕ)) (size : ℕ) : Type 0 where
  pub group : GroupView (Move O R)
  pub grouped : IsGrouped meaning core seen from group
  pub refused : MergesAllAs meaning group (machine.Refused (machine.ValueTooLarge size))

-- why nothing was prepared
abbrev pub IsJoinUnready : {S O R Q A : Type 0} → Meaning S O R Q A → CoreView (Move O R) → SeenView (Move O R) → List (List ℕ) → ClientRefusal → Type 0
IsJoinUnready meaning core seen from (client_refusal.UnknownBranch name) = GroupRefusedAs meaning core from (pair_refusal.UnknownBranch name)
IsJoinUnready meaning core seen from (client_refusal.ValueTooLarge size) = IsJoinTooLarge meaning core seen from size
IsJoinUnready meaning core seen from client_refusal.Memory = Unit {0}
IsJoinUnready meaning core seen from other = ⊥

-- heads of other branches were joined into the branch that a session sees
pub record HasJoined {O R : Type 0} (origin : ℕ) (sight : Option ℕ) (from : List (List ℕ)) (old new : PassView (Move O R)) (places after : List ℕ) : Type 0 where
  pub branch : ℕ
  pub sees : sight ≡ Some branch
  pub made : Move O R
  pub joins : Joins origin new.moves branch from made
  pub moved : HasMoved made old new places after

-- there was nothing to join
pub record HasNothing {O R : Type 0} (origin : ℕ) (sight : Option ℕ) (from : List (List ℕ)) (old new : PassView (Move O R)) (places after : List ℕ) : Type 0 where
  pub branch : ℕ
  pub sees : sight ≡ Some branch
  pub brings : BringsNothing origin branch from new.moves
  pub stayed : HasStayed old new places after

-- what came of a try to join
abbrev pub IsTriedJoin : {O R : Type 0} → ℕ → Option ℕ → List (List ℕ) → PassView (Move O R) → PassView (Move O R) → List ℕ → List ℕ → Landing → Type 0
IsTriedJoin origin sight from old new places after Moved = HasJoined origin sight from old new places after
IsTriedJoin origin sight from old new places after Stale = HasStayed old new places after
IsTriedJoin origin sight from old new places after Same = HasNothing origin sight from old new places after

-- the branch that a session sees was dropped
pub record HasDropped {O R : Type 0} (sight : Option ℕ) (old new : PassView (Move O R)) (places after : List ℕ) : Type 0 where
  pub branch : ℕ
  pub sees : sight ≡ Some branch
  pub moved : HasMoved (move.Drop branch) old new places after

-- what came of a try to drop it
abbrev pub IsTriedDrop : {O R : Type 0} → Option ℕ → PassView (Move O R) → PassView (Move O R) → List ℕ → List ℕ → Landing → Type 0
IsTriedDrop sight old new places after Moved = HasDropped sight old new places after
IsTriedDrop sight old new places after Stale = HasStayed old new places after
IsTriedDrop sight old new places after Same = ⊥

-- why a client stops at a step
abbrev pub IsStopped : {S O R Q A : Type 0} → Setting S O R Q A → Sights → Step → PassView (Move O R) → Stop → Type 0
IsStopped on sights step new (Refused refusal) = StepRefused on new.moves new.faults sights step refusal
IsStopped on sights step new Unseen = SeesNone sights step

-- a client stops at a step, which made no move
pub record Stops {S O R Q A : Type 0} (on : Setting S O R Q A) (sights : Sights) (step : Step) (old new : PassView (Move O R)) (places after : List ℕ) (stop : Stop) : Type 0 where
  pub why : IsStopped on sights step new stop
  pub stayed : HasStayed old new places after

-- a client has only looked again: it knows more of the store, and its sessions see the branches that they saw
pub record IsWaiting {O R : Type 0} (terms : Terms) (old new : PassView (Move O R)) (sessions now : Sessions (Move O R)) (places after : List ℕ) : Type 0 where
  pub seen : IsPrefix old.moves new.moves
  pub faults : old.faults ≤ new.faults
  pub rest : IsSeenOn old new
  pub sessions_are : AreSessions terms new.moves now
  pub sights : sights_of now ≡ sights_of sessions
  pub noted : after ≡ places

-- what a client has done so far, from a first pass on, of which the last look may have found no memory
pub record IsPlaying {O R Q A : Type 0} (forms : PlainForms O Q R A) (terms : Terms) (steps : List Step) (old new : PassView (Move O R)) (sessions : Sessions (Move O R)) (places : List ℕ) : Type 0 where
  pub plays : PlaysOn forms terms.origin steps (record { moves = old.moves; sights = no_sights; places = [] }) (stage_of new sessions places)
  pub sessions_are : AreSessions terms new.moves sessions
  pub advances : Advances old new [] places

-- the outcome of a client that stopped at the step that has so many before it
abbrev pub stopped_at : ℕ → Stop → List ℕ → Outcome
stopped_at number (Refused refusal) places = outcome.Refused number refusal places
stopped_at number Unseen places = outcome.Unseen number places
