-- What a client has played stays where a history grows.
use Rattle.std.proofs.Common.{ℕ, ◌-◌, ◌<◌, ◌≤◌, ◌⊎◌, inl, inr, ⊎_elim, List, [], ◌∷◌, length, subst, ◌∙◌, arith, Option}
use Rattle.std.specs.Prelude.{take}
use Rattle.std.proofs.lemmas.Option.{slice_get_within}
use mathlib.Core.List.{IsPrefix}
use Rattle.branch_front.proofs.Prefixes.{prefix_trans}
use Rattle.branch_history.specs.declared.moves.Move.{Move}
use Rattle.branch_history.specs.declared.moves.Move.TheVariants as move
use Rattle.branch_history.proofs.Lists.{slice_get-append}
use Rattle.branch_script.specs.declared.step.Step.{Step}
use Rattle.branch_script.specs.declared.step.Step.TheVariants.{Look, Fork, Merge, Join, Do, Ask, Drop}
use Rattle.parallel_clients.specs.declared.outcome.ClientRefusal.{ClientRefusal}
use Rattle.parallel_clients.specs.declared.outcome.ClientRefusal.TheVariants.{UnknownBranch, Dropped, KeepsMain, Exhausted, FullCommits, FullBranches, FullMoves, ValueTooLarge, Collision, NoSequences, DiskFault, Failed, Memory}
use Rattle.parallel_clients.specs.declared.outcome.Outcome.{Outcome}
use Rattle.parallel_clients.specs.declared.outcome.Outcome.TheVariants.{Done, Refused, Unseen}
use Rattle.branch_doc.specs.Types.{PlainForms}
use Rattle.parallel_clients.specs.Played.{Sights, no_sights, with_sight, IsMoveAt, HasNumber, IsAsked, IsDone, IsForked, IsMerged, IsJoined, IsTaken, IsReached, BringsNothing, TakesOne, TakesNone, PlayedFrom, PlayedTo, Played}
use Rattle.parallel_clients.specs.Outcomes.{Setting, HasFailed, StepRefused, ComesTo, StaysOutcome}
use Rattle.parallel_clients.proofs.Went.{named-later, head-later, joins-later, sees-more}

module _ {O R Q A : Type 0} (forms : PlainForms O Q R A) (origin : ℕ) (moves later : List (Move O R)) (grows : IsPrefix moves later) where
  move-later : (place : ℕ) (made : Move O R) → IsMoveAt moves place made → IsMoveAt later place made
  move-later place made at =
      let there : place - 1 < length moves = slice_get_within moves (place - 1) made at in
      subst (λ ms. IsMoveAt ms place made) grows.1 (slice_get-append moves grows.0 (place - 1) there ∙ at)

  done-later : (branch : ℕ) (op : Option O) (place : ℕ) → IsDone moves branch op place → IsDone later branch op place
  done-later branch op place is = record {
    operation = is.operation;
    is = is.is;
    reply = is.reply;
    made = move-later place (move.Operation branch is.operation is.reply) is.made;
  }

  forked-later : (new from : List ℕ) (place : ℕ) → IsForked origin moves new from place → IsForked origin later new from place
  forked-later new from place is = record { number = is.number; source = is.source; named = named-later origin moves later grows from is.source is.named; made = move-later place (move.Fork new is.number is.source) is.made }

  merged-later : (branch : ℕ) (from : List ℕ) (place : ℕ) → IsMerged origin moves branch from place → IsMerged origin later branch from place
  merged-later branch from place is = record {
    source = is.source;
    commit = is.commit;
    head = head-later origin moves later grows from is.source is.commit is.head;
    made = ⊎_elim (λ m. inl (move-later place (move.Merge branch is.commit) m)) (λ m. inr (move-later place (move.Forward branch is.commit) m)) is.made;
  }

  joined-later : (branch : ℕ) (from : List (List ℕ)) (place : ℕ) → IsJoined origin moves branch from place → IsJoined origin later branch from place
  joined-later branch from place is = record { made = is.made; joins = joins-later origin moves later grows branch from is.made is.joins; at = move-later place is.made is.at }

  none-later : (Holds : List (Move O R) → Type 0) (Rest Rest' : ℕ → List ℕ → Type 0) → ((place : ℕ) (places : List ℕ) → Rest place places → Rest' place places)
      → (last : ℕ) (places : List ℕ) → TakesNone moves Holds Rest last places → TakesNone later Holds Rest' last places
  none-later Holds Rest Rest' rest last places is = record {
    before = is.before;
    begins = prefix_trans is.before moves later is.begins grows;
    behind = is.behind;
    here = is.here;
    rest = rest (length is.before) places is.rest;
  }

  takes-later : (Is Is' : ℕ → Type 0) (Rest Rest' : ℕ → List ℕ → Type 0) → ((place : ℕ) → Is place → Is' place) → ((place : ℕ) (places : List ℕ) → Rest place places → Rest' place places)
      → (last : ℕ) (places : List ℕ) → TakesOne Is Rest last places → TakesOne Is' Rest' last places
  takes-later Is Is' Rest Rest' one rest last [] is = is
  takes-later Is Is' Rest Rest' one rest last (place ∷ places) is = (is.0, one place is.1, rest place places is.2)

  pub played_from-later : (steps : List Step) (sights after : Sights) (last : ℕ) (places : List ℕ) → PlayedFrom forms origin moves steps sights after last places → PlayedFrom forms origin later steps sights after last places
  played_from-later [] sights after last places is = is
  played_from-later (Look session branch ∷ steps) sights after last places is =
      let seen = with_sight sights session is.0 in
      (is.0, none-later (HasNumber origin branch is.0) (PlayedFrom forms origin moves steps seen after) (PlayedFrom forms origin later steps seen after) (played_from-later steps seen after) last places is.1)
  played_from-later (Ask branch query ∷ steps) sights after last places is =
      none-later (IsAsked origin branch (forms.query query)) (PlayedFrom forms origin moves steps sights after) (PlayedFrom forms origin later steps sights after) (played_from-later steps sights after) last places is
  played_from-later (Do session op ∷ steps) sights after last places is =
      let Rest = PlayedFrom forms origin moves steps sights after in
      let Rest' = PlayedFrom forms origin later steps sights after in
      sees-more (λ branch. TakesOne (IsDone moves branch (forms.op op)) Rest last places) (λ branch. TakesOne (IsDone later branch (forms.op op)) Rest' last places)
      (λ branch. takes-later (IsDone moves branch (forms.op op)) (IsDone later branch (forms.op op)) Rest Rest' (done-later branch (forms.op op)) (played_from-later steps sights after) last places)
      (sights session) is
  played_from-later (Fork new from ∷ steps) sights after last places is =
      let Rest = PlayedFrom forms origin moves steps sights after in
      let Rest' = PlayedFrom forms origin later steps sights after in
      ⊎_elim
      (λ one. inl (takes-later (IsForked origin moves new from) (IsForked origin later new from) Rest Rest' (forked-later new from) (played_from-later steps sights after) last places one))
      (λ none. inr (none-later (IsTaken origin new from) Rest Rest' (played_from-later steps sights after) last places none))
      is
  played_from-later (Merge session from ∷ steps) sights after last places is =
      let Rest = PlayedFrom forms origin moves steps sights after in
      let Rest' = PlayedFrom forms origin later steps sights after in
      sees-more
      (λ branch. TakesOne (IsMerged origin moves branch from) Rest last places ⊎ TakesNone moves (IsReached origin branch from) Rest last places)
      (λ branch. TakesOne (IsMerged origin later branch from) Rest' last places ⊎ TakesNone later (IsReached origin branch from) Rest' last places)
      (λ branch both. ⊎_elim
      (λ one. inl (takes-later (IsMerged origin moves branch from) (IsMerged origin later branch from) Rest Rest' (merged-later branch from) (played_from-later steps sights after) last places one))
      (λ none. inr (none-later (IsReached origin branch from) Rest Rest' (played_from-later steps sights after) last places none))
      both)
      (sights session) is
  played_from-later (Join session from ∷ steps) sights after last places is =
      let Rest = PlayedFrom forms origin moves steps sights after in
      let Rest' = PlayedFrom forms origin later steps sights after in
      sees-more
      (λ branch. TakesOne (IsJoined origin moves branch from) Rest last places ⊎ TakesNone moves (BringsNothing origin branch from) Rest last places)
      (λ branch. TakesOne (IsJoined origin later branch from) Rest' last places ⊎ TakesNone later (BringsNothing origin branch from) Rest' last places)
      (λ branch both. ⊎_elim
      (λ one. inl (takes-later (IsJoined origin moves branch from) (IsJoined origin later branch from) Rest Rest' (joined-later branch from) (played_from-later steps sights after) last places one))
      (λ none. inr (none-later (BringsNothing origin branch from) Rest Rest' (played_from-later steps sights after) last places none))
      both)
      (sights session) is
  played_from-later (Drop session ∷ steps) sights after last places is =
      let Rest = PlayedFrom forms origin moves steps sights after in
      let Rest' = PlayedFrom forms origin later steps sights after in
      sees-more (λ branch. TakesOne (λ place. IsMoveAt moves place (move.Drop branch)) Rest last places) (λ branch. TakesOne (λ place. IsMoveAt later place (move.Drop branch)) Rest' last places)
      (λ branch. takes-later (λ place. IsMoveAt moves place (move.Drop branch)) (λ place. IsMoveAt later place (move.Drop branch)) Rest Rest' (λ place at. move-later place (move.Drop branch) at)
      (played_from-later steps sights after) last places)
      (sights session) is

  pub played_to-later : (begun : ℕ) (steps : List Step) (places : List ℕ) (after : Sights) → PlayedTo forms origin begun steps places moves after → PlayedTo forms origin begun steps places later after
  unfolding PlayedTo
  played_to-later begun steps places after is = played_from-later steps no_sights after begun places is

  pub played-later : (begun : ℕ) (steps : List Step) (places : List ℕ) → Played forms origin begun steps places moves → Played forms origin begun steps places later
  played-later begun steps places is = (is.0, played_to-later begun steps places is.0 is.1)

-- a disk that has failed has failed when more faults are known
pub failed-later : {S O R Q A : Type 0} (on : Setting S O R Q A) (few many : ℕ) → few ≤ many → HasFailed on few → HasFailed on many
failed-later on few many le is = omega (arith, is)

module _ {S O R Q A : Type 0} (on : Setting S O R Q A) (moves : List (Move O R)) (few many : ℕ) (le : few ≤ many) (sights : Sights) (step : Step) where
  pub refused-later : (refusal : ClientRefusal) → StepRefused on moves few sights step refusal → StepRefused on moves many sights step refusal
  refused-later (UnknownBranch name) h = h
  refused-later (Dropped branch) h = h
  refused-later KeepsMain h = h
  refused-later (Exhausted clock) h = h
  refused-later (FullCommits count) h = h
  refused-later (FullBranches count) h = h
  refused-later (FullMoves count) h = h
  refused-later (ValueTooLarge length) h = h
  refused-later (Collision address stored fresh) h = h
  refused-later NoSequences h = h
  refused-later DiskFault h = failed-later on few many le h
  refused-later (Failed count) h = (h.0, failed-later on few many le h.1)
  refused-later Memory h = h

-- what became of a client
pub comes-later : {S O R Q A : Type 0} (on : Setting S O R Q A) (old new later : List (Move O R)) (few many : ℕ) (steps : List Step) (outcome : Outcome) → IsPrefix new later → few ≤ many
    → ComesTo on old new few steps outcome → ComesTo on old later many steps outcome
comes-later on old new later few many steps (Done places) grows le is = played-later on.forms on.fixed.terms.origin new later grows (length old) steps places is
comes-later on old new later few many steps (Refused number refusal places) grows le is = record {
  step = is.step;
  is_step = is.is_step;
  before = is.before;
  begun = is.begun;
  begins = prefix_trans is.before new later is.begins grows;
  sights = is.sights;
  played = is.played;
  refused = refused-later on is.before few many le is.sights is.step refusal is.refused;
}
comes-later on old new later few many steps (Unseen number places) grows le is = record {
  step = is.step;
  is_step = is.is_step;
  sights = is.sights;
  played = played_to-later on.forms on.fixed.terms.origin new later grows (length old) (take number steps) places is.sights is.played;
  unseen = is.unseen;
}

pub outcome-later : {S O R Q A : Type 0} (on : Setting S O R Q A) → StaysOutcome on
outcome-later on old new later few many steps outcome grows le is = record { comes = comes-later on old new later few many steps outcome grows le is.comes; past = is.past }
