-- What became of a try to join.
use Rattle.std.proofs.Common.{◌≡◌, ℕ, ◌≤◌, ◌⊎◌, inl, inr, arith, length, List, [], ◌∷◌, refl, ap, sym, subst, ◌∙◌, Some, None}
use mathlib.Core.List.{IsPrefix}
use Rattle.branch_front.proofs.Prefixes.{prefix_self}
use Rattle.mrdt_model.specs.Laws.{Meaning}
use Rattle.branch_history.specs.declared.moves.Move.{Move}
use Rattle.branch_history.specs.declared.moves.Move.TheVariants as move
use Rattle.branch_history.specs.Commits.{graph_of}
use Rattle.branch_history.specs.History.{store_of}
use Rattle.branch_history.specs.Laws.{KeepsOrder, RaisesHeads}
use Rattle.branch_history.specs.Merging.{brought}
use Rattle.branch_history.specs.Validity.{IsValid}
use Rattle.branch_history.specs.Steps as machine
use Rattle.branch_history.specs.Machine.{turn, answers}
use Rattle.branch_machine.specs.Machine.{commit_here}
use Rattle.branch_script.specs.declared.step.Step.TheVariants.{Join}
use Rattle.store_seen.specs.declared.answers.PairRefused.{PairRefused}
use Rattle.store_seen.specs.declared.answers.PairRefused.TheVariants as pair_refusal
use Rattle.store_seen.specs.Groups.{look_of, IsGrouped, GroupRefusedAs, MergesAllAs, AsksFor, brought_by, IsWorkOfAll}
use Rattle.store_seen.specs.Turns.{step_of, move_of}
use Rattle.store_seen.specs.Views.{CoreView, SeenView, PreparedView, GroupView, Work}
use Rattle.store_seen.specs.Views as work
use Rattle.recorded_history.specs.Machine.{FullyRefuses}
use Rattle.branch_shared.specs.Passes.{PassView, IsSeenOn}
use Rattle.parallel_clients.specs.declared.sessions.Session.{Session}
use Rattle.parallel_clients.specs.declared.landing.Landing.{Landing}
use Rattle.parallel_clients.specs.declared.landing.Landing.TheVariants.{Moved, Stale, Same}
use Rattle.parallel_clients.specs.declared.outcome.ClientRefusal.{ClientRefusal}
use Rattle.parallel_clients.specs.declared.outcome.ClientRefusal.TheVariants.{UnknownBranch, Dropped, KeepsMain, Exhausted, FullCommits, FullBranches, FullMoves, ValueTooLarge, Collision, NoSequences, DiskFault, Failed, Memory}
use Rattle.parallel_clients.specs.Played.{Sights, AreNamedHeads, WereHeads, IsMoveOf, IfSees}
use Rattle.parallel_clients.specs.Outcomes.{Setting, RefusesLook, RefusesJoin, RefusesStep, StepRefused}
use Rattle.parallel_clients.specs.Sessions.{IsSession, HasNothing, IsLanding, RefusesMade, IsLandRefused, IsTriedJoin, IsJoinUnready, ungrouped_as}
use Rattle.parallel_clients.proofs.Machines.{full-answers, full-same}
use Rattle.parallel_clients.proofs.Sessioned.{session-head, session-later, session-brings}
use Rattle.parallel_clients.proofs.Turned.{looks-named, merge-nothing}
use Rattle.parallel_clients.proofs.Went.{heads-later}
use Rattle.parallel_clients.proofs.Mergings.{moved-earlier, stayed-earlier}

-- a join is refused of a session that sees a branch
sees-refused : {S O R Q A : Type 0} (on : Setting S O R Q A) (moves : List (Move O R)) (sights : Sights) (session : List ℕ) (from : List (List ℕ)) (branch : ℕ) → sights session ≡ Some branch → (why : machine.Refusal)
    → RefusesLook on moves from why ⊎ RefusesJoin on moves branch from why → RefusesStep on moves sights (Join session from) why
sees-refused on moves sights session from branch sees why = subst (λ o. IfSees o (λ b. RefusesLook on moves from why ⊎ RefusesJoin on moves b from why)) (sym sees)

-- a join of a head of no branch
join-unknown : {S O R Q A : Type 0} (on : Setting S O R Q A) (moves : List (Move O R)) (sights : Sights) (session : List ℕ) (from : List (List ℕ)) (branch : ℕ) → sights session ≡ Some branch → (name : List ℕ)
    → GroupRefusedAs on.fixed.meaning (record { history = moves; terms = on.fixed.terms }) from (pair_refusal.UnknownBranch name) → RefusesStep on moves sights (Join session from) (machine.UnknownBranch name)
join-unknown on moves sights session from branch sees name none =
    let why : machine.Refusal = machine.UnknownBranch name in
    sees-refused on moves sights session from branch sees why
    (inl (record {
      first = none.0;
      name = name;
      rest = none.1;
      is = none.3;
      heads = none.2;
      there = looks-named on.fixed.meaning on.fixed.terms moves none.0 none.2 none.4;
      refused = full-answers on.fixed moves (machine.Look name) (machine.Refused why) refl none.5;
    }))

-- a look that was not grouped
pub join-ungrouped : {S O R Q A : Type 0} (meaning : Meaning S O R Q A) (core : CoreView (Move O R)) (seen : SeenView (Move O R)) (from : List (List ℕ)) (refused : PairRefused)
    → GroupRefusedAs meaning core from refused → IsJoinUnready meaning core seen from (ungrouped_as refused)
join-ungrouped meaning core seen from (pair_refusal.UnknownBranch name) none = none
join-ungrouped meaning core seen from pair_refusal.Memory none = tt

module _ {S O R Q A : Type 0} (on : Setting S O R Q A) (old mid : PassView (Move O R)) (grows : IsPrefix old.moves mid.moves) (seen : IsSeenOn old mid)
    (s : Session (SeenView (Move O R))) (is : IsSession on.fixed.terms old.moves s) (sights : Sights) (session : List ℕ) (from : List (List ℕ)) (sees : sights session ≡ Some s.seen.branch)
    (group : GroupView (Move O R)) (grouped : IsGrouped on.fixed.meaning (record { history = mid.moves; terms = on.fixed.terms }) s.seen from group) where
  here : IsSession on.fixed.terms mid.moves s
  here = session-later on.fixed.terms old.moves mid.moves s grows is

  heads : AreNamedHeads on.fixed.terms.origin mid.moves from group.others
  heads = looks-named on.fixed.meaning on.fixed.terms mid.moves from group.others grouped.heads

  were : WereHeads on.fixed.terms.origin mid.moves from group.others
  were = record { before = mid.moves; begins = prefix_self mid.moves; are = heads }

  abbrev joining : machine.Step O Q
  joining = machine.Merge s.seen.branch s.seen.head group.others

  turned : (outcome : machine.Outcome A R) → MergesAllAs on.fixed.meaning group outcome → turn on.fixed.meaning on.fixed.terms mid.moves joining ≡ answers outcome
  turned outcome merges =
      subst (λ (v : SeenView (Move O R)). turn on.fixed.meaning v.terms v.history (machine.Merge v.branch v.head group.others) ≡ answers outcome) grouped.look (merges group.history (prefix_self group.history))

  -- nothing to join
  pub join-same : KeepsOrder on.fixed.meaning → RaisesHeads on.fixed.meaning → IsValid on.fixed.meaning on.fixed.terms mid.moves → (places : List ℕ) → MergesAllAs on.fixed.meaning group machine.Same
      → HasNothing on.fixed.terms.origin (sights session) from old mid places places
  join-same order raises valid places merges = record {
    branch = s.seen.branch;
    sees = sees;
    brings = session-brings on.fixed.terms mid.moves s here on.fixed.meaning order raises valid from group.others heads
        (merge-nothing on.fixed.meaning on.fixed.terms mid.moves s.seen.branch s.seen.head group.others (turned machine.Same merges));
    stayed = record { rest = seen; noted = refl };
  }

  -- a join that the machine refuses, after the grouping and later
  join-refused : (moves : List (Move O R)) → IsPrefix mid.moves moves → (why : machine.Refusal) → FullyRefuses on.fixed moves joining why → RefusesStep on moves sights (Join session from) why
  join-refused moves later why no_turn =
      sees-refused on moves sights session from s.seen.branch sees why
      (inr (record {
        head = s.seen.head;
        heads = group.others;
        seen = session-head on.fixed.terms moves s (session-later on.fixed.terms mid.moves moves s later here);
        others = heads-later on.fixed.terms.origin mid.moves moves later from group.others were;
        refused = no_turn;
      }))

  join-unprepared : (why : machine.Refusal) → MergesAllAs on.fixed.meaning group (machine.Refused why) → RefusesStep on mid.moves sights (Join session from) why
  join-unprepared why merges =
      join-refused mid.moves (prefix_self mid.moves) why (full-answers on.fixed mid.moves joining (machine.Refused why) refl (turned (machine.Refused why) merges))

  module _ (made : PreparedView O R) (made_seen : made.seen ≡ look_of group) (made_work : IsWorkOfAll on.fixed.meaning group made.work) (asks : AsksFor on.fixed.meaning group made.work) where
    seen-is : made.seen ≡ record { history = mid.moves; terms = on.fixed.terms; branch = s.seen.branch; head = s.seen.head }
    seen-is = made_seen ∙ grouped.look

    pub join-begins : IsPrefix made.seen.history mid.moves × (made.seen.terms ≡ on.fixed.terms)
    join-begins = (subst (λ (v : SeenView (Move O R)). IsPrefix v.history mid.moves) (sym seen-is) (prefix_self mid.moves), ap (λ v. v.terms) seen-is)

    -- the machine's turn for what was prepared is its turn for the join
    asked : (moves : List (Move O R)) → IsPrefix mid.moves moves → turn on.fixed.meaning on.fixed.terms moves joining ≡ turn on.fixed.meaning on.fixed.terms moves (step_of {Q = Q} made.seen made.work)
    asked moves later =
        subst (λ (v : SeenView (Move O R)). (ms : List (Move O R)) → IsPrefix v.history ms
        → turn on.fixed.meaning v.terms ms (machine.Merge v.branch v.head group.others) ≡ turn on.fixed.meaning v.terms ms (step_of {Q = Q} v made.work)) grouped.look asks moves later
        ∙ ap (λ (v : SeenView (Move O R)). turn on.fixed.meaning on.fixed.terms moves (step_of {Q = Q} v made.work)) (sym seen-is)

    receives-none : (moves : List (Move O R)) (v : SeenView (Move O R)) (w : Work O R) → commit_here on.fixed moves (step_of {Q = Q} v w) ≡ None
    receives-none moves v (work.Operation op reply) = refl
    receives-none moves v (work.Merge commit) = refl
    receives-none moves v (work.Join commits) = refl
    receives-none moves v (work.Forward commit) = refl

    pub join-unlanded : (new : PassView (Move O R)) → IsPrefix mid.moves new.moves → (refusal : ClientRefusal) → IsLandRefused on made new refusal
        → StepRefused on new.moves new.faults sights (Join session from) refusal
    join-unlanded new later refusal = by refusal
      where
        no_turn : (r : machine.Refusal) → RefusesMade on made new.moves r → RefusesStep on new.moves sights (Join session from) r
        no_turn r h =
            join-refused new.moves later r
            (full-same on.fixed new.moves joining (step_of {Q = Q} made.seen made.work) refl (receives-none new.moves made.seen made.work) (asked new.moves later) ∙ h)

        by : (r : ClientRefusal) → IsLandRefused on made new r → StepRefused on new.moves new.faults sights (Join session from) r
        by (UnknownBranch name) h = absurd h
        by (Dropped branch) h = no_turn (machine.Dropped branch) h
        by KeepsMain h = absurd h
        by (Exhausted clock) h = absurd h
        by (FullCommits count) h = no_turn (machine.FullCommits count) h
        by (FullBranches count) h = absurd h
        by (FullMoves count) h = no_turn (machine.FullMoves count) h
        by (ValueTooLarge length) h = absurd h
        by (Collision address stored fresh) h = no_turn (machine.Collision address stored fresh) h
        by NoSequences h = absurd h
        by DiskFault h = h
        by (Failed count) h = h
        by Memory h = h

    -- the move is that of what the join brings
    numbered : made.seen.branch ≡ s.seen.branch
    numbered = ap (λ (v : SeenView (Move O R)). v.branch) seen-is

    brought-is : brought_by group ≡ brought (graph_of (store_of on.fixed.terms.origin mid.moves).commits) s.seen.head group.others
    brought-is = ap (λ (v : SeenView (Move O R)). brought (graph_of (store_of v.terms.origin v.history).commits) v.head group.others) grouped.look

    move-of-several : (ks : List ℕ) → 2 ≤ length ks → IsMoveOf {O = O} {R = R} s.seen.branch ks (move.Join made.seen.branch ks)
    move-of-several [] le = absurd (omega (arith, le))
    move-of-several (m ∷ []) le = absurd (omega (arith, le))
    move-of-several (m ∷ k ∷ ks) le = ap (λ b. move.Join b (m ∷ k ∷ ks)) numbered

    move-brings : (w : Work O R) → IsWorkOfAll on.fixed.meaning group w
        → IsMoveOf s.seen.branch (brought (graph_of (store_of on.fixed.terms.origin mid.moves).commits) s.seen.head group.others) (move_of made.seen.branch w)
    move-brings (work.Operation op reply) h = absurd h
    move-brings (work.Merge commit) h =
        subst (λ ks. IsMoveOf {O = O} {R = R} s.seen.branch ks (move.Merge made.seen.branch commit)) (sym h.0 ∙ brought-is) (inl (ap (λ b. move.Merge b commit) numbered))
    move-brings (work.Join commits) h =
        subst (λ ks. IsMoveOf {O = O} {R = R} s.seen.branch ks (move.Join made.seen.branch commits)) (sym h.0 ∙ brought-is) (move-of-several commits h.1)
    move-brings (work.Forward commit) h =
        subst (λ ks. IsMoveOf {O = O} {R = R} s.seen.branch ks (move.Forward made.seen.branch commit)) (sym h.0 ∙ brought-is) (inr (ap (λ b. move.Forward b commit) numbered))

    pub join-tried : (new : PassView (Move O R)) → IsPrefix mid.moves new.moves → (places after : List ℕ) (landing : Landing) → IsLanding (move_of made.seen.branch made.work) mid new places after landing
        → IsTriedJoin on.fixed.terms.origin (sights session) from old new places after landing
    join-tried new later places after = by
      where
        by : (landing : Landing) → IsLanding (move_of made.seen.branch made.work) mid new places after landing → IsTriedJoin on.fixed.terms.origin (sights session) from old new places after landing
        by Moved moved = record {
          branch = s.seen.branch;
          sees = sees;
          made = move_of made.seen.branch made.work;
          joins = record {
            head = s.seen.head;
            heads = group.others;
            before = mid.moves;
            begins = later;
            seen = session-head on.fixed.terms mid.moves s here;
            others = heads;
            is_move = move-brings made.work made_work;
          };
          moved = moved-earlier (move_of made.seen.branch made.work) old mid new places after grows seen moved;
        }
        by Stale stayed = stayed-earlier old mid new places after seen stayed
        by Same none = absurd none

-- a join of which nothing was prepared
pub join-unready : {S O R Q A : Type 0} (on : Setting S O R Q A) (old mid : PassView (Move O R)) → IsPrefix old.moves mid.moves → IsSeenOn old mid → (s : Session (SeenView (Move O R))) → IsSession on.fixed.terms old.moves s
    → (sights : Sights) (session : List ℕ) (from : List (List ℕ)) → sights session ≡ Some s.seen.branch → (refusal : ClientRefusal)
    → IsJoinUnready on.fixed.meaning (record { history = mid.moves; terms = on.fixed.terms }) s.seen from refusal → StepRefused on mid.moves mid.faults sights (Join session from) refusal
join-unready on old mid grows seen s is sights session from sees (UnknownBranch name) h = join-unknown on mid.moves sights session from s.seen.branch sees name h
join-unready on old mid grows seen s is sights session from sees (ValueTooLarge size) h =
    join-unprepared on old mid grows seen s is sights session from sees h.group h.grouped (machine.ValueTooLarge size) h.refused
join-unready on old mid grows seen s is sights session from sees (Dropped branch) h = absurd h
join-unready on old mid grows seen s is sights session from sees KeepsMain h = absurd h
join-unready on old mid grows seen s is sights session from sees (Exhausted clock) h = absurd h
join-unready on old mid grows seen s is sights session from sees (FullCommits count) h = absurd h
join-unready on old mid grows seen s is sights session from sees (FullBranches count) h = absurd h
join-unready on old mid grows seen s is sights session from sees (FullMoves count) h = absurd h
join-unready on old mid grows seen s is sights session from sees (Collision address stored fresh) h = absurd h
join-unready on old mid grows seen s is sights session from sees NoSequences h = absurd h
join-unready on old mid grows seen s is sights session from sees DiskFault h = absurd h
join-unready on old mid grows seen s is sights session from sees (Failed count) h = absurd h
join-unready on old mid grows seen s is sights session from sees Memory h = tt
