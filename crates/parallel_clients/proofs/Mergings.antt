-- What became of a try to merge.
use Rattle.std.proofs.Common.{◌≡◌, ℕ, ◌+◌, ◌≤◌, ◌⊎◌, inl, inr, ⊎_elim, arith, length, length-append, List, [], ◌∷◌, ◌++◌, refl, ap, sym, subst, ◌∙◌, Option, Some, IsTrue}
use mathlib.Core.List.{IsPrefix}
use Rattle.branch_front.proofs.Prefixes.{prefix_self, prefix_trans}
use Rattle.branch_names.specs.declared.terms.Terms.{Terms}
use Rattle.branch_names.specs.Heads.{head_of, branch_named}
use Rattle.branch_graph.specs.Graph.{reaches}
use Rattle.branch_history.specs.declared.moves.Move.{Move}
use Rattle.branch_history.specs.declared.moves.Move.TheVariants as move
use Rattle.branch_history.specs.Commits.{graph_of}
use Rattle.branch_history.specs.History.{store_of}
use Rattle.branch_history.specs.Laws.{KeepsOrder, RaisesHeads}
use Rattle.branch_history.specs.Validity.{IsValid}
use Rattle.branch_history.specs.Steps as machine
use Rattle.branch_history.specs.Machine.{turn, answers}
use Rattle.branch_script.specs.declared.step.Step.TheVariants.{Merge}
use Rattle.store_seen.specs.Pairs.{seen_of, IsPaired, MergesAs, IsWorkOf}
use Rattle.store_seen.specs.Turns.{step_of, move_of}
use Rattle.store_seen.specs.Views.{SeenView, PreparedView, PairView, Work}
use Rattle.store_seen.specs.Views as work
use Rattle.recorded_history.specs.Machine.{FullyRefuses}
use Rattle.branch_shared.specs.Passes.{PassView, IsSeenOn}
use Rattle.parallel_clients.specs.declared.sessions.Session.{Session}
use Rattle.parallel_clients.specs.declared.landing.Landing.{Landing}
use Rattle.parallel_clients.specs.declared.landing.Landing.TheVariants.{Moved, Stale, Same}
use Rattle.parallel_clients.specs.declared.outcome.ClientRefusal.{ClientRefusal}
use Rattle.parallel_clients.specs.declared.outcome.ClientRefusal.TheVariants.{UnknownBranch, Dropped, KeepsMain, Exhausted, FullCommits, FullBranches, FullMoves, ValueTooLarge, Collision, NoSequences, DiskFault, Failed, Memory}
use Rattle.parallel_clients.specs.Played.{Sights, WasHead, HadHead, IfSees}
use Rattle.parallel_clients.specs.Outcomes.{Setting, RefusesStep, StepRefused}
use Rattle.parallel_clients.specs.Sessions.{Sessions, IsSession, IsWaiting, Advances, HasMoved, HasStayed, HasMerged, HasSame, IsLanding, RefusesMade, IsLandRefused, IsTriedMerge}
use Rattle.parallel_clients.proofs.Machines.{full-answers}
use Rattle.parallel_clients.proofs.Sessioned.{session-head, session-later, session-reaches}
use Rattle.parallel_clients.proofs.Turned.{look-named, merge-reaches}
use Rattle.parallel_clients.proofs.Went.{head-later}

-- a pass that has seen more before

pub moved-earlier : {M : Type 0} (made : M) (old mid new : PassView M) (places after : List ℕ) → IsPrefix old.moves mid.moves → IsSeenOn old mid → HasMoved made mid new places after → HasMoved made old new places after
moved-earlier made old mid new places after grows seen moved = record {
  before = moved.before;
  seen = prefix_trans old.moves mid.moves moved.before grows moved.seen;
  last = moved.last;
  noted = moved.noted;
  mine = moved.mine ∙ ap (λ p. p.mine ++ length new.moves ∷ []) seen;
  others = moved.others ∙ ap (λ p. p.others) seen;
  receipts = moved.receipts ∙ ap (λ p. p.receipts + 1) seen;
  parts = moved.parts ∙ ap (λ p. p.parts) seen;
}

pub stayed-earlier : {M : Type 0} (old mid new : PassView M) (places after : List ℕ) → IsSeenOn old mid → HasStayed mid new places after → HasStayed old new places after
stayed-earlier {M} old mid new places after seen stayed = record {
  rest = stayed.rest ∙ ap (λ (p : PassView M). record p { moves = new.moves; sure = new.sure; faults = new.faults }) seen;
  noted = stayed.noted;
}

-- a merge is refused of a session that sees a branch
sees-refused : {S O R Q A : Type 0} (on : Setting S O R Q A) (moves : List (Move O R)) (sights : Sights) (session from : List ℕ) (branch : ℕ) → sights session ≡ Some branch → (why : machine.Refusal)
    → FullyRefuses on.fixed moves (machine.Look from) why
    ⊎ ((head source commit : ℕ) × HadHead on.fixed.terms.origin moves branch head × WasHead on.fixed.terms.origin moves from source commit × FullyRefuses on.fixed moves (machine.Merge branch head (commit ∷ [])) why)
    → RefusesStep on moves sights (Merge session from) why
sees-refused on moves sights session from branch sees why =
    subst (λ o. IfSees o (λ b. FullyRefuses on.fixed moves (machine.Look from) why
    ⊎ ((head source commit : ℕ) × HadHead on.fixed.terms.origin moves b head × WasHead on.fixed.terms.origin moves from source commit × FullyRefuses on.fixed moves (machine.Merge b head (commit ∷ [])) why))) (sym sees)

-- a merge of a head of no branch
pub merge-unknown : {S O R Q A : Type 0} (on : Setting S O R Q A) (moves : List (Move O R)) (sights : Sights) (session from : List ℕ) (branch : ℕ) → sights session ≡ Some branch
    → turn on.fixed.meaning on.fixed.terms moves (machine.Look from) ≡ answers (machine.Refused (machine.UnknownBranch from)) → RefusesStep on moves sights (Merge session from) (machine.UnknownBranch from)
merge-unknown on moves sights session from branch sees none =
    let why : machine.Refusal = machine.UnknownBranch from in
    sees-refused on moves sights session from branch sees why (inl (full-answers on.fixed moves (machine.Look from) (machine.Refused why) refl none))

module _ {S O R Q A : Type 0} (on : Setting S O R Q A) (old mid : PassView (Move O R)) (grows : IsPrefix old.moves mid.moves) (seen : IsSeenOn old mid)
    (s : Session (SeenView (Move O R))) (is : IsSession on.fixed.terms old.moves s) (sights : Sights) (session from : List ℕ) (sees : sights session ≡ Some s.seen.branch)
    (pair : PairView (Move O R)) (paired : IsPaired on.fixed.meaning (record { history = mid.moves; terms = on.fixed.terms }) s.seen from pair) where
  here : IsSession on.fixed.terms mid.moves s
  here = session-later on.fixed.terms old.moves mid.moves s grows is

  looked : (branch_named (store_of on.fixed.terms.origin mid.moves).branches from ≡ Some paired.source) × (head_of (store_of on.fixed.terms.origin mid.moves).branches paired.source ≡ pair.other)
  looked = look-named on.fixed.meaning on.fixed.terms mid.moves from paired.source pair.other paired.other

  other-head : WasHead on.fixed.terms.origin mid.moves from paired.source pair.other
  other-head = record { before = mid.moves; begins = prefix_self mid.moves; named = looked.0; head = looked.1 }

  turned : (outcome : machine.Outcome A R) → MergesAs on.fixed.meaning pair outcome → turn on.fixed.meaning on.fixed.terms mid.moves (machine.Merge s.seen.branch s.seen.head (pair.other ∷ [])) ≡ answers outcome
  turned outcome merges =
      subst (λ (v : SeenView (Move O R)). turn on.fixed.meaning v.terms v.history (machine.Merge v.branch v.head (pair.other ∷ [])) ≡ answers outcome) paired.look (merges pair.history (prefix_self pair.history))

  -- nothing to merge
  pub merge-same : KeepsOrder on.fixed.meaning → RaisesHeads on.fixed.meaning → IsValid on.fixed.meaning on.fixed.terms mid.moves → (places : List ℕ) → MergesAs on.fixed.meaning pair machine.Same → HasSame on.fixed.terms.origin (sights session) from old mid places places
  merge-same order raises valid places merges =
      let below = merge-reaches on.fixed.meaning on.fixed.terms mid.moves s.seen.branch s.seen.head pair.other (turned machine.Same merges) in
      record {
        branch = s.seen.branch;
        sees = sees;
        reached = session-reaches on.fixed.terms mid.moves s here on.fixed.meaning order raises valid from paired.source looked.0
            (subst (λ h. IsTrue (reaches (graph_of (store_of on.fixed.terms.origin mid.moves).commits) s.seen.head h)) (sym looked.1) below);
        stayed = record { rest = seen; noted = refl };
      }

  -- a merge that the machine refuses, after the pairing and later
  pub merge-refused : (moves : List (Move O R)) → IsPrefix mid.moves moves → (why : machine.Refusal) → FullyRefuses on.fixed moves (machine.Merge s.seen.branch s.seen.head (pair.other ∷ [])) why
      → RefusesStep on moves sights (Merge session from) why
  merge-refused moves later why no_turn =
      sees-refused on moves sights session from s.seen.branch sees why
      (inr (s.seen.head, paired.source, pair.other, session-head on.fixed.terms moves s (session-later on.fixed.terms mid.moves moves s later here), head-later on.fixed.terms.origin mid.moves moves later from paired.source pair.other other-head, no_turn))

  pub merge-unprepared : (why : machine.Refusal) → MergesAs on.fixed.meaning pair (machine.Refused why) → RefusesStep on mid.moves sights (Merge session from) why
  merge-unprepared why merges =
      merge-refused mid.moves (prefix_self mid.moves) why (full-answers on.fixed mid.moves (machine.Merge s.seen.branch s.seen.head (pair.other ∷ [])) (machine.Refused why) refl (turned (machine.Refused why) merges))

  module _ (made : PreparedView O R) (made_seen : made.seen ≡ seen_of pair) (made_work : IsWorkOf on.fixed.meaning pair made.work) where
    seen-is : made.seen ≡ record { history = mid.moves; terms = on.fixed.terms; branch = s.seen.branch; head = s.seen.head }
    seen-is = made_seen ∙ paired.look

    pub merge-begins : IsPrefix made.seen.history mid.moves × (made.seen.terms ≡ on.fixed.terms)
    merge-begins = (subst (λ (v : SeenView (Move O R)). IsPrefix v.history mid.moves) (sym seen-is) (prefix_self mid.moves), ap (λ v. v.terms) seen-is)

    step-is : step_of {Q = Q} made.seen made.work ≡ machine.Merge s.seen.branch s.seen.head (pair.other ∷ [])
    step-is = by made.work made_work
      where
        by : (w : Work O R) → IsWorkOf on.fixed.meaning pair w → step_of {Q = Q} made.seen w ≡ machine.Merge s.seen.branch s.seen.head (pair.other ∷ [])
        by (work.Operation op reply) h = absurd h
        by (work.Merge commit) h = ap (λ (v : SeenView (Move O R)). machine.Merge v.branch v.head (commit ∷ [])) seen-is ∙ ap (λ m. machine.Merge s.seen.branch s.seen.head (m ∷ [])) h.0
        by (work.Join commits) h = absurd h
        by (work.Forward commit) h = ap (λ (v : SeenView (Move O R)). machine.Merge v.branch v.head (commit ∷ [])) seen-is ∙ ap (λ m. machine.Merge s.seen.branch s.seen.head (m ∷ [])) h.0

    pub merge-unlanded : (new : PassView (Move O R)) → IsPrefix mid.moves new.moves → (refusal : ClientRefusal) → IsLandRefused on made new refusal
        → StepRefused on new.moves new.faults sights (Merge session from) refusal
    merge-unlanded new later refusal = by refusal
      where
        no_turn : (r : machine.Refusal) → RefusesMade on made new.moves r → RefusesStep on new.moves sights (Merge session from) r
        no_turn r h = merge-refused new.moves later r (subst (λ st. FullyRefuses on.fixed new.moves st r) step-is h)

        by : (r : ClientRefusal) → IsLandRefused on made new r → StepRefused on new.moves new.faults sights (Merge session from) r
        by (UnknownBranch name) h = absurd h
        by (Dropped branch) h = no_turn (machine.Dropped branch) h
        by KeepsMain h = absurd h
        by (Exhausted clock) h = absurd h
        by (FullCommits count) h = no_turn (machine.FullCommits count) h
        by (FullBranches count) h = absurd h
        by (FullMoves count) h = no_turn (machine.FullMoves count) h
        by (ValueTooLarge length) h = absurd h
        by (Collision address stored fresh) h = no_turn (machine.Collision address stored fresh) h
        by NoSequences h = absurd h
        by DiskFault h = h
        by (Failed count) h = h
        by Memory h = h

    pub merge-tried : (new : PassView (Move O R)) → IsPrefix mid.moves new.moves → (places after : List ℕ) (landing : Landing) → IsLanding (move_of made.seen.branch made.work) mid new places after landing
        → IsTriedMerge on.fixed.terms.origin (sights session) from old new places after landing
    merge-tried new later places after = by
      where
        numbered : (m : ℕ → Move O R) → m made.seen.branch ≡ m s.seen.branch
        numbered m = ap (λ (v : SeenView (Move O R)). m v.branch) seen-is

        kind : (w : Work O R) → IsWorkOf on.fixed.meaning pair w → HasMoved (move_of made.seen.branch w) mid new places after
            → HasMoved (move.Merge s.seen.branch pair.other) old new places after ⊎ HasMoved (move.Forward s.seen.branch pair.other) old new places after
        kind (work.Operation op reply) h moved = absurd h
        kind (work.Merge commit) h moved =
            inl (moved-earlier (move.Merge s.seen.branch pair.other) old mid new places after grows seen
            (subst (λ m. HasMoved m mid new places after) (numbered (λ b. move.Merge b commit) ∙ ap (move.Merge s.seen.branch) h.0) moved))
        kind (work.Join commits) h moved = absurd h
        kind (work.Forward commit) h moved =
            inr (moved-earlier (move.Forward s.seen.branch pair.other) old mid new places after grows seen
            (subst (λ m. HasMoved m mid new places after) (numbered (λ b. move.Forward b commit) ∙ ap (move.Forward s.seen.branch) h.0) moved))

        by : (landing : Landing) → IsLanding (move_of made.seen.branch made.work) mid new places after landing → IsTriedMerge on.fixed.terms.origin (sights session) from old new places after landing
        by Moved moved = record {
          branch = s.seen.branch;
          sees = sees;
          source = paired.source;
          commit = pair.other;
          head = head-later on.fixed.terms.origin mid.moves new.moves later from paired.source pair.other other-head;
          moved = kind made.work made_work moved;
        }
        by Stale stayed = stayed-earlier old mid new places after seen stayed
        by Same none = absurd none

-- how a client's pass came on by a move, after it had waited, and before it looked again
module _ {O R : Type 0} (terms : Terms) (old mid after : PassView (Move O R)) (sessions now : Sessions (Move O R)) (places waited noted : List ℕ) (wait : IsWaiting terms old mid sessions now places waited) where
  pub moved-few : (made : Move O R) → HasMoved made mid after waited noted → length noted ≤ length places + 1
  moved-few made moved =
      let a : length noted ≡ length waited + 1 = ap length moved.noted ∙ length-append waited (length after.moves ∷ []) in
      let b : length waited ≡ length places = ap length wait.noted in omega arith

  pub merged-few : (sight : Option ℕ) (from : List ℕ) → HasMerged terms.origin sight from mid after waited noted → length noted ≤ length places + 1
  merged-few sight from merged = ⊎_elim (λ moved. moved-few (move.Merge merged.branch merged.commit) moved) (λ moved. moved-few (move.Forward merged.branch merged.commit) moved) merged.moved

  module _ (new : PassView (Move O R)) (landed : IsPrefix mid.moves after.moves) (faults : mid.faults ≤ after.faults) (looked : IsPrefix after.moves new.moves) (later : after.faults ≤ new.faults) (rest : IsSeenOn after new) where
    pub moved-advances : (made : Move O R) → HasMoved made mid after waited noted → Advances old new places noted
    moved-advances made moved =
        let a : length noted ≡ length waited + 1 = ap length moved.noted ∙ length-append waited (length after.moves ∷ []) in
        let b : length waited ≡ length places = ap length wait.noted in
        let r : new.receipts ≡ after.receipts = ap (λ p. p.receipts) rest in
        let q : mid.receipts ≡ old.receipts = ap (λ p. p.receipts) wait.rest in
        record {
          seen = prefix_trans old.moves mid.moves new.moves wait.seen (prefix_trans mid.moves after.moves new.moves landed looked);
          faults = let f = wait.faults in omega arith;
          parts = ap (λ p. p.parts) rest ∙ moved.parts ∙ ap (λ p. p.parts) wait.rest;
          counted = let m = moved.receipts in omega arith;
          mine = λ own.
              let had : mid.mine ≡ waited = ap (λ p. p.mine) wait.rest ∙ (own ∙ sym wait.noted) in
              ap (λ p. p.mine) rest ∙ (moved.mine ∙ (ap (λ ms. ms ++ length after.moves ∷ []) had ∙ sym moved.noted));
          others = ap (λ p. p.others) rest ∙ (moved.others ∙ ap (λ p. p.others) wait.rest);
        }

    pub merged-advances : (sight : Option ℕ) (from : List ℕ) → HasMerged terms.origin sight from mid after waited noted → Advances old new places noted
    merged-advances sight from merged = ⊎_elim (λ moved. moved-advances (move.Merge merged.branch merged.commit) moved) (λ moved. moved-advances (move.Forward merged.branch merged.commit) moved) merged.moved
