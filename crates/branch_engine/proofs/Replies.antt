-- What each step is told, from what the core ensures.
use Rattle.std.proofs.Common.{◌≡◌, ℕ, Bool, false, List, [], ◌∷◌, ◌++◌, refl, ap, sym, subst, ◌∙◌, append-nil, inl, inr, None, Some}
use Rattle.std.specs.Option.{option_map}
use Rattle.branch_disk.specs.Disk.{Files, LeavesOnly}
use Rattle.branch_disk.specs.Moments.{weakened}
use Rattle.branch_names.specs.declared.terms.Terms.{Terms}
use Rattle.branch_names.specs.Heads.{name_of}
use Rattle.branch_history.specs.declared.moves.Move.{Move}
use Rattle.branch_history.specs.declared.moves.Move.TheVariants as move
use Rattle.branch_history.specs.History.{store_of}
use Rattle.branch_history.specs.Steps as machine
use Rattle.branch_history.specs.Machine.{turn, answers, makes}
use Rattle.branch_machine.specs.Machine.{commit_here, full_turn}
use Rattle.branch_machine.specs.Validity.{IsFullyValid}
use Rattle.branch_files.specs.Laws.{ReadsWhatStands}
use Rattle.branch_script.specs.declared.step.Step.TheVariants.{Look, Fork, Merge, Join, Drop, Do, Ask}
use Rattle.branch_print.specs.Texts.{refusal_text, outcome_text, sees_text, forked_text, answer_text, unseen_text, no_sequences_text, line_end, takes_item}
use Rattle.branch_doc.specs.declared.plain.PlainOp.{PlainOp}
use Rattle.branch_doc.specs.declared.plain.PlainQuery.{PlainQuery}
use Rattle.store_seen.specs.declared.answers.Kind.{Kind}
use Rattle.store_seen.specs.declared.answers.PairRefused.TheVariants as pair_refusal
use Rattle.store_seen.specs.Groups.{AreHeads, GroupRefusedAs}
use Rattle.store_seen.specs.Turns.{outcome_of}
use Rattle.store_core.specs.Images.{WithOrWithout}
use Rattle.store_core.specs.Turns.{Moves}
use Rattle.store_core.specs.Views.{held}
use Rattle.branch_engine.proofs.Values.{Values, fixed_of}
use Rattle.branch_engine.specs.Sessions.{seen_by}
use Rattle.branch_engine.specs.Play.{History, Play, Told, told, turn_told, with_sight, sight_after, step_told}
use Rattle.branch_engine.specs.Readings.{ReadAs, ReadAsEither}
use Rattle.branch_engine.specs.Engines.{Store, Seen, EngineView, session_named, Puts, KeepsLooks, sight_of, IsAt, Telling, LeavesEither, kind_text}
use Rattle.branch_engine.specs.Engines as engines
use Rattle.branch_engine.proofs.Machines.{full-answers}
use Rattle.branch_engine.proofs.Played.{IsWhole, turn-at, at-more, at-still, at-put, at-kept}
use Rattle.branch_engine.proofs.Landings.{text-of_kind}
use Rattle.branch_engine.proofs.Joins.{LooksAlike, heads-are, heads-unknown}
use Rattle.branch_engine.proofs.Turned.{told-look, told-fork, told-unseen, told-do, told-no_op, told-unmerged, told-merge, told-merge_unknown, told-unjoined, told-join, told-join_unknown, told-undropped, told-drop, told-ask, told-no_query, told-ask_refused}
use Rattle.branch_engine.proofs.Does.{Members, IsTold, IsHalfTold, told-by, Works}

-- the turn of a fork
abbrev pub fork_turn : {O R A : Type 0} → List ℕ → ℕ → ℕ → ℕ → machine.Turn O R A
fork_turn new number source head = record { outcome = machine.Forked number head; made = move.Fork new number source ∷ [] }

abbrev pub look_telling : {S O R Q A : Type 0} → Values S O R Q A → List ℕ → List ℕ → Telling S O R Q A
look_telling values session branch fixed p = step_told values.forms fixed p (Look session branch)

abbrev pub fork_telling : {S O R Q A : Type 0} → Values S O R Q A → List ℕ → List ℕ → Telling S O R Q A
fork_telling values new from fixed p = step_told values.forms fixed p (Fork new from)

abbrev pub ask_telling : {S O R Q A : Type 0} → Values S O R Q A → List ℕ → PlainQuery → Telling S O R Q A
ask_telling values branch query fixed p = step_told values.forms fixed p (Ask branch query)

abbrev pub do_telling : {S O R Q A : Type 0} → Values S O R Q A → List ℕ → PlainOp → Telling S O R Q A
do_telling values session op fixed p = step_told values.forms fixed p (Do session op)

abbrev pub merge_telling : {S O R Q A : Type 0} → Values S O R Q A → List ℕ → List ℕ → Telling S O R Q A
merge_telling values session from fixed p = step_told values.forms fixed p (Merge session from)

abbrev pub join_telling : {S O R Q A : Type 0} → Values S O R Q A → List ℕ → List (List ℕ) → Telling S O R Q A
join_telling values session from fixed p = step_told values.forms fixed p (Join session from)

abbrev pub drop_telling : {S O R Q A : Type 0} → Values S O R Q A → List ℕ → Telling S O R Q A
drop_telling values session fixed p = step_told values.forms fixed p (Drop session)

abbrev pub turn_telling : {S O R Q A : Type 0} → Values S O R Q A → Bool → List ℕ → ℕ → machine.Step O Q → Telling S O R Q A
turn_telling values takes session number step fixed p = turn_told values.forms fixed takes p session number step

abbrev pub view_of : {O R D : Type 0} → Store O R D → List (List ℕ × Seen O R) → EngineView O R D
view_of core sessions = record { core = core; sessions = sessions }

-- what the machine without objects answers with no move to a step that receives no commit, of an engine whose view this is
pub full-so : {S O R Q A D : Type 0} (values : Values S O R Q A) (core : Store O R D) (sessions : List (List ℕ × Seen O R)) (old : EngineView O R D) → view_of core sessions ≡ old
    → (step : machine.Step O Q) (outcome : machine.Outcome A R) → commit_here (fixed_of values core.terms) core.history step ≡ None → turn values.meaning core.terms core.history step ≡ answers outcome
    → full_turn (fixed_of values old.core.terms) old.core.history step ≡ answers outcome
full-so {S} {O} {R} {Q} {A} {D} values core sessions old view step outcome other is =
    subst (λ (v : EngineView O R D). full_turn (fixed_of values v.core.terms) v.core.history step ≡ answers outcome) view (full-answers (fixed_of values core.terms) core.history step outcome other is)

module _ {S O R Q A D : Type 0} (m : Members D) (values : Values S O R Q A) (old : EngineView O R D) where
  abbrev Is : Terms → EngineView O R D → Play O R → Type 0
  Is terms engine p = IsAt m.may_leave (fixed_of values terms) engine p

  -- what the machine answers to a step, and the moves that it makes
  abbrev pub turn_of : machine.Step O Q → machine.Turn O R A
  turn_of step = full_turn (fixed_of values old.core.terms) old.core.history step

  -- the machine refuses a step so
  abbrev pub Refuses : machine.Step O Q → machine.Refusal → Type 0
  Refuses step refusal = turn_of step ≡ answers (machine.Refused refusal)

  -- a look at a branch sees this
  abbrev pub LooksAt : List ℕ → ℕ → ℕ → Type 0
  LooksAt branch number head = turn_of (machine.Look branch) ≡ answers (machine.Sees number head)

  at-play : (terms : Terms) (p : Play O R) → Is terms old p → (step : machine.Step O Q) (t : machine.Turn O R A) → turn_of step ≡ t → full_turn (fixed_of values terms) p.moves step ≡ t
  at-play terms p at step t is = turn-at m.may_leave values terms old p at step t is

  -- the moves that telling makes are those of the machine's turn
  abbrev pub TakesTurn : Telling S O R Q A → machine.Step O Q → Type 0
  TakesTurn telling step = (terms : Terms) (p : Play O R) → Is terms old p → (telling (fixed_of values terms) p).after.moves ≡ p.moves ++ (turn_of step).made

  module _ (telling : Telling S O R Q A) (step : machine.Step O Q) (takes : TakesTurn telling step) where
    -- what stands for the history, or for it with the move, reads as the history before or behind
    pub leaves_either : ReadsWhatStands values.meaning → (new : EngineView O R D) → IsFullyValid (fixed_of values old.core.terms) old.core.history → IsFullyValid (fixed_of values old.core.terms) (old.core.history ++ (turn_of step).made)
        → LeavesOnly m.moment m.left_since old.core.disk new.core.disk (WithOrWithout (fixed_of values old.core.terms) old.core.history (turn_of step).made)
        → LeavesEither m.may_leave m.moment m.left_since values.meaning values.address telling old new
    leaves_either law new valid longer leaves terms p at =
        let fixed = fixed_of values terms in
        let after = (telling fixed p).after.moves in
        let under : old.core.terms ≡ terms = at.terms_are in
        let then : old.core.history ++ (turn_of step).made ≡ after = ap (λ (h : History O R). h ++ (turn_of step).made) at.history ∙ sym (takes terms p at) in
        let read : (h : History O R) (c : Files) → ReadAs (fixed_of values old.core.terms) h c → ReadAs fixed h c = λ h c reads. subst (λ (l : Terms). ReadAs (fixed_of values l) h c) under reads in
        weakened m.moment m.left_since old.core.disk new.core.disk _ (ReadAsEither fixed p.moves after) leaves
        (λ c either. elim either [
          | inl stands ↦ inl (subst (λ (h : History O R). ReadAs fixed h c) at.history (read old.core.history c (law old.core.terms values.address old.core.history c valid stands)))
          | inr stands ↦ inr (subst (λ (h : History O R). ReadAs fixed h c) then (read (old.core.history ++ (turn_of step).made) c (law old.core.terms values.address (old.core.history ++ (turn_of step).made) c longer stands)))
        ])

    -- where the machine makes a move, telling does
    pub moves_too : (made : Move O R) → (turn_of step).made ≡ made ∷ [] → (terms : Terms) (p : Play O R) → Is terms old p → engines.Moves p (telling (fixed_of values terms) p).after
    moves_too made is terms p at = (made, takes terms p at ∙ ap (λ (h : History O R). p.moves ++ h) is)

    -- and so it does where a move was made: the store has not failed, and its count of faults stays
    pub works_moved : ReadsWhatStands values.meaning → (core : Store O R D) (made : Move O R) (outcome : machine.Outcome A R) (moves : ℕ) → Moves (fixed_of values old.core.terms) old.core core step made outcome moves
        → IsFullyValid (fixed_of values old.core.terms) old.core.history → IsFullyValid (fixed_of values core.terms) core.history
        → LeavesOnly m.moment m.left_since old.core.disk core.disk (WithOrWithout (fixed_of values old.core.terms) old.core.history (turn_of step).made)
        → m.faults core.disk ≡ m.faults old.core.disk → (new : EngineView O R D) → new.core ≡ core → Works m values telling old new
    works_moved law core made outcome moves does valid now leaves same new is =
        let terms : core.terms ≡ old.core.terms = ap (λ (k : Store O R D). k.terms) does.history in
        let history : core.history ≡ old.core.history ++ made ∷ [] = ap (λ (k : Store O R D). k.history) does.history in
        let turned : made ∷ [] ≡ (turn_of step).made = sym (ap (λ (t : machine.Turn O R A). t.made) does.turn_is) in
        let longer = subst (λ (h : History O R). IsFullyValid (fixed_of values old.core.terms) h) (history ∙ ap (λ (ms : History O R). old.core.history ++ ms) turned) (subst (λ (l : Terms). IsFullyValid (fixed_of values l) core.history) terms now) in
        let leaves_so = subst (λ (k : Store O R D). LeavesOnly m.moment m.left_since old.core.disk k.disk (WithOrWithout (fixed_of values old.core.terms) old.core.history (turn_of step).made)) (sym is) leaves in
        record {
          working = ap (λ (k : Store O R D). k.failed) is ∙ ap (λ (k : Store O R D). k.failed) does.history ∙ does.worked;
          moments = leaves_either law new valid longer leaves_so;
          same = ap (λ (k : Store O R D). m.faults k.disk) is ∙ same;
        }

  pub fork_takes : (new from : List ℕ) → TakesTurn (fork_telling values new from) (machine.Fork new from)
  fork_takes new from terms p at = ap (λ (t : Told O R). t.after.moves) (told-fork values.forms (fixed_of values terms) p new from (turn_of (machine.Fork new from)) (at-play terms p at (machine.Fork new from) _ refl))

  pub turn_takes : (takes : Bool) (session : List ℕ) (number : ℕ) (step : machine.Step O Q) → TakesTurn (turn_telling values takes session number step) step
  turn_takes takes session number step terms p at = ap (λ (t : machine.Turn O R A). p.moves ++ t.made) (at-play terms p at step _ refl)

  module _ (session branch : List ℕ) (seen : Seen O R) (is : LooksAt branch seen.branch seen.head) where
    look_told : (terms : Terms) (p : Play O R) → Is terms old p → step_told values.forms (fixed_of values terms) p (Look session branch) ≡ told values.forms false p session 0 branch (answers {O = O} {R = R} {A = A} (machine.Sees seen.branch seen.head))
    look_told terms p at = told-look values.forms (fixed_of values terms) p session branch (answers (machine.Sees seen.branch seen.head)) (at-play terms p at (machine.Look branch) (answers (machine.Sees seen.branch seen.head)) is)

    -- a look that a session came to see
    pub looked : (new : EngineView O R D) → new.core ≡ old.core → Puts old.sessions new.sessions session seen → IsTold m values (look_telling values session branch) old new (sees_text session branch seen.head ++ line_end)
    looked new same puts terms p at =
        let t = answers {O = O} {R = R} {A = A} (machine.Sees seen.branch seen.head) in
        let put = at-put m.may_leave values terms old p at new session seen (sight_of seen) same puts refl in
        let after : Is terms new (told values.forms false p session 0 branch t).after =
        subst (λ (h : History O R). Is terms new (record { moves = h; sessions = with_sight p.sessions session (Some (sight_of seen)) })) (sym (append-nil p.moves)) put in
        told-by m values terms new (step_told values.forms (fixed_of values terms) p (Look session branch)) (told values.forms false p session 0 branch t) (sees_text session branch seen.head ++ line_end) (look_told terms p at) after refl

    -- a look that a session did not come to see
    pub looked_half : (new : EngineView O R D) → new.core ≡ old.core → KeepsLooks old.sessions new.sessions
        → IsHalfTold m values (look_telling values session branch) old new (sees_text session branch seen.head ++ line_end)
    looked_half new same kept terms p at = (inl (at-kept m.may_leave values terms old p at new same kept), ap (λ (t : Told O R). t.text) (look_told terms p at))

  pub look_refused : (session branch : List ℕ) (refusal : machine.Refusal) → Refuses (machine.Look branch) refusal → IsTold m values (look_telling values session branch) old old (refusal_text branch refusal ++ line_end)
  look_refused session branch refusal is terms p at =
      let t = answers {O = O} {R = R} {A = A} (machine.Refused refusal) in
      told-by m values terms old (step_told values.forms (fixed_of values terms) p (Look session branch)) (told values.forms false p session 0 branch t) (refusal_text branch refusal ++ line_end)
      (told-look values.forms (fixed_of values terms) p session branch t (at-play terms p at (machine.Look branch) t is)) (at-still m.may_leave values terms old p at) refl

  module _ (core : Store O R D) (new from : List ℕ) (number source head moves : ℕ)
      (does : Moves (fixed_of values old.core.terms) old.core core (machine.Fork new from) (move.Fork new number source) (machine.Forked number head) moves) (whole : IsWhole m.may_leave values core) where
    fork_told : (terms : Terms) (p : Play O R) → Is terms old p → step_told values.forms (fixed_of values terms) p (Fork new from) ≡ told values.forms false p [] 0 new (fork_turn new number source head)
    fork_told terms p at = told-fork values.forms (fixed_of values terms) p new from (fork_turn new number source head) (at-play terms p at (machine.Fork new from) (fork_turn new number source head) does.turn_is)

    fork_moves : (terms : Terms) (p : Play O R) → Is terms old p → Is terms (record { core = core; sessions = old.sessions }) (record { moves = p.moves ++ move.Fork new number source ∷ []; sessions = p.sessions })
    fork_moves terms p at =
        at-more m.may_leave values terms old p at (record { core = core; sessions = old.sessions }) (move.Fork new number source ∷ []) (ap (λ (c : Store O R D). c.terms) does.history) (ap (λ (c : Store O R D). c.history) does.history) (λ name. refl) whole

    -- a new branch
    pub forked : IsTold m values (fork_telling values new from) old (record { core = core; sessions = old.sessions }) (forked_text new number head ++ line_end)
    forked terms p at =
        told-by m values terms (record { core = core; sessions = old.sessions }) (step_told values.forms (fixed_of values terms) p (Fork new from)) (told values.forms false p [] 0 new (fork_turn new number source head)) (forked_text new number head ++ line_end)
        (fork_told terms p at) (fork_moves terms p at) refl

    pub forked_half : IsHalfTold m values (fork_telling values new from) old (record { core = core; sessions = old.sessions }) (forked_text new number head ++ line_end)
    forked_half terms p at =
        let is_told = fork_told terms p at in
        let there : Is terms (record { core = core; sessions = old.sessions }) (record { moves = (step_told values.forms (fixed_of values terms) p (Fork new from)).after.moves; sessions = p.sessions }) =
        subst (λ (h : History O R). Is terms (record { core = core; sessions = old.sessions }) (record { moves = h; sessions = p.sessions })) (sym (ap (λ (t : Told O R). t.after.moves) is_told)) (fork_moves terms p at) in
        (inr there, ap (λ (t : Told O R). t.text) is_told)

  pub fork_refused : (new from : List ℕ) (refusal : machine.Refusal) → Refuses (machine.Fork new from) refusal → IsTold m values (fork_telling values new from) old old (refusal_text new refusal ++ line_end)
  fork_refused new from refusal is terms p at =
      let t = answers {O = O} {R = R} {A = A} (machine.Refused refusal) in
      told-by m values terms old (step_told values.forms (fixed_of values terms) p (Fork new from)) (told values.forms false p [] 0 new t) (refusal_text new refusal ++ line_end)
      (told-fork values.forms (fixed_of values terms) p new from t (at-play terms p at (machine.Fork new from) t is)) (at-still m.may_leave values terms old p at) refl

  pub asked : (branch : List ℕ) (query : PlainQuery) (made : Q) (number head : ℕ) (answer : A) → LooksAt branch number head → values.forms.query query ≡ Some made
      → turn_of (machine.Ask head made) ≡ answers (machine.Answered answer) → IsTold m values (ask_telling values branch query) old old (answer_text (values.forms.answer answer) ++ line_end)
  asked branch query made number head answer looks is asks terms p at =
      told-by m values terms old (step_told values.forms (fixed_of values terms) p (Ask branch query)) _ (answer_text (values.forms.answer answer) ++ line_end)
      (told-ask values.forms (fixed_of values terms) p branch query made number head answer (at-play terms p at (machine.Look branch) (answers (machine.Sees number head)) looks) is
      (at-play terms p at (machine.Ask head made) (answers (machine.Answered answer)) asks))
      at refl

  pub no_query : (branch : List ℕ) (query : PlainQuery) (number head : ℕ) → LooksAt branch number head → values.forms.query query ≡ None
      → IsTold m values (ask_telling values branch query) old old (no_sequences_text ++ line_end)
  no_query branch query number head looks lacks terms p at =
      told-by m values terms old (step_told values.forms (fixed_of values terms) p (Ask branch query)) _ (no_sequences_text ++ line_end)
      (told-no_query values.forms (fixed_of values terms) p branch query number head (at-play terms p at (machine.Look branch) (answers (machine.Sees number head)) looks) lacks) at refl

  pub ask_refused : (branch : List ℕ) (query : PlainQuery) (refusal : machine.Refusal) → Refuses (machine.Look branch) refusal → IsTold m values (ask_telling values branch query) old old (refusal_text branch refusal ++ line_end)
  ask_refused branch query refusal looks terms p at =
      told-by m values terms old (step_told values.forms (fixed_of values terms) p (Ask branch query)) _ (refusal_text branch refusal ++ line_end)
      (told-ask_refused values.forms (fixed_of values terms) p branch query refusal (at-play terms p at (machine.Look branch) (answers (machine.Refused refusal)) looks)) at refl

  pub unseen : (session : List ℕ) (op : PlainOp) → session_named old.sessions session ≡ None → IsTold m values (do_telling values session op) old old (unseen_text session ++ line_end)
  unseen session op none terms p at =
      told-by m values terms old (step_told values.forms (fixed_of values terms) p (Do session op)) _ (unseen_text session ++ line_end)
      (told-unseen values.forms (fixed_of values terms) p session op (sym (at.sights session) ∙ ap (option_map sight_of) none)) at refl

  pub unmerged : (session from : List ℕ) → session_named old.sessions session ≡ None → IsTold m values (merge_telling values session from) old old (unseen_text session ++ line_end)
  unmerged session from none terms p at =
      told-by m values terms old (step_told values.forms (fixed_of values terms) p (Merge session from)) _ (unseen_text session ++ line_end)
      (told-unmerged values.forms (fixed_of values terms) p session from (sym (at.sights session) ∙ ap (option_map sight_of) none)) at refl

  pub unjoined : (session : List ℕ) (from : List (List ℕ)) → session_named old.sessions session ≡ None → IsTold m values (join_telling values session from) old old (unseen_text session ++ line_end)
  unjoined session from none terms p at =
      told-by m values terms old (step_told values.forms (fixed_of values terms) p (Join session from)) _ (unseen_text session ++ line_end)
      (told-unjoined values.forms (fixed_of values terms) p session from (sym (at.sights session) ∙ ap (option_map sight_of) none)) at refl

  pub undropped : (session : List ℕ) → session_named old.sessions session ≡ None → IsTold m values (drop_telling values session) old old (unseen_text session ++ line_end)
  undropped session none terms p at =
      told-by m values terms old (step_told values.forms (fixed_of values terms) p (Drop session)) _ (unseen_text session ++ line_end)
      (told-undropped values.forms (fixed_of values terms) p session (sym (at.sights session) ∙ ap (option_map sight_of) none)) at refl

  -- what the core answers to looks is told over the play
  looks_alike : (terms : Terms) (p : Play O R) → Is terms old p → LooksAlike (fixed_of values terms) p (held old.core)
  looks_alike terms p at name outcome is =
      at-play terms p at (machine.Look name) (answers outcome) (full-answers (fixed_of values old.core.terms) old.core.history (machine.Look name) outcome refl is)

  -- steps with the same turn are told alike
  pub told-alike : (takes : Bool) (session : List ℕ) (number : ℕ) (step other : machine.Step O Q) → turn_of step ≡ turn_of other
      → (terms : Terms) (p : Play O R) → Is terms old p → turn_told values.forms (fixed_of values terms) takes p session number step ≡ turn_told values.forms (fixed_of values terms) takes p session number other
  told-alike takes session number step other same terms p at =
      ap (told values.forms takes p session number (name_of (store_of terms.origin p.moves).branches number)) (at-play terms p at step (turn_of other) same ∙ sym (at-play terms p at other (turn_of other) refl))

  -- a step of the machine that is refused, or moves nothing: the session sees what it saw
  pub turn_stays : (takes : Bool) (session : List ℕ) (number : ℕ) (step : machine.Step O Q) (outcome : machine.Outcome A R) → turn_of step ≡ answers outcome
      → sight_after number outcome ≡ None → IsTold m values (turn_telling values takes session number step) old old (outcome_text values.forms takes session (name_of (store_of old.core.terms.origin old.core.history).branches number) outcome ++ line_end)
  turn_stays takes session number step outcome is none terms p at =
      let t = answers {O = O} {R = R} {A = A} outcome in
      let name = λ (first : ℕ) (h : History O R). name_of (store_of first h).branches number in
      let still = subst (λ s. Is terms old (record { moves = p.moves ++ []; sessions = with_sight p.sessions session s })) (sym none) (at-still m.may_leave values terms old p at) in
      told-by m values terms old (turn_told values.forms (fixed_of values terms) takes p session number step) (told values.forms takes p session number (name terms.origin p.moves) t) (outcome_text values.forms takes session (name old.core.terms.origin old.core.history) outcome ++ line_end)
      (ap (told values.forms takes p session number (name terms.origin p.moves)) (at-play terms p at step t is))
      still
      (ap (λ (h : History O R). outcome_text values.forms takes session (name terms.origin h) outcome ++ line_end) (sym at.history)
      ∙ ap (λ (l : Terms). outcome_text values.forms takes session (name l.origin old.core.history) outcome ++ line_end) (sym at.terms_are))

  module _ (takes : Bool) (session : List ℕ) (number : ℕ) (step : machine.Step O Q) (core : Store O R D) (made : Move O R) (k : Kind R) (moves : ℕ)
      (does : Moves (fixed_of values old.core.terms) old.core core step made (outcome_of k) moves) (whole : IsWhole m.may_leave values core) where
    landed_told : (terms : Terms) (p : Play O R) → Is terms old p
        → turn_told values.forms (fixed_of values terms) takes p session number step ≡ told values.forms takes p session number (name_of (store_of terms.origin p.moves).branches number) (makes {A = A} made (outcome_of k))
    landed_told terms p at = ap (told values.forms takes p session number (name_of (store_of terms.origin p.moves).branches number)) (at-play terms p at step (makes {A = A} made (outcome_of k)) does.turn_is)

    -- the core alone has moved
    abbrev mid : EngineView O R D
    mid = record { core = core; sessions = old.sessions }

    landed_at : (terms : Terms) (p : Play O R) → Is terms old p → Is terms mid (record { moves = p.moves ++ made ∷ []; sessions = p.sessions })
    landed_at terms p at = at-more m.may_leave values terms old p at mid (made ∷ []) (ap (λ (c : Store O R D). c.terms) does.history) (ap (λ (c : Store O R D). c.history) does.history) (λ name. refl) whole

    -- what landed: the session sees the branch's new head
    pub landed : (new : EngineView O R D) (next : Seen O R) → sight_after {A = A} number (outcome_of k) ≡ Some (sight_of next) → new.core ≡ core → Puts old.sessions new.sessions session next
        → IsTold m values (turn_telling values takes session number step) old new (kind_text values.forms.reply takes k ++ line_end)
    landed new next sees same puts terms p at =
        let name = name_of (store_of terms.origin p.moves).branches number in
        let t = makes {A = A} made (outcome_of k) in
        let put = at-put m.may_leave values terms mid (record { moves = p.moves ++ made ∷ []; sessions = p.sessions }) (landed_at terms p at) new session next (sight_of next) same puts refl in
        let after = subst (λ s. Is terms new (record { moves = p.moves ++ made ∷ []; sessions = with_sight p.sessions session s })) (sym sees) put in
        told-by m values terms new (turn_told values.forms (fixed_of values terms) takes p session number step) (told values.forms takes p session number name t) (kind_text values.forms.reply takes k ++ line_end) (landed_told terms p at)
        after (ap (λ (words : List ℕ). words ++ line_end) (sym (text-of_kind values takes session name k)))

    -- and where want of memory came behind that, each session sees what it saw
    pub landed_half : (new : EngineView O R D) → new.core ≡ core → KeepsLooks old.sessions new.sessions
        → IsHalfTold m values (turn_telling values takes session number step) old new (kind_text values.forms.reply takes k ++ line_end)
    landed_half new same kept terms p at =
        let name = name_of (store_of terms.origin p.moves).branches number in
        let is = landed_told terms p at in
        let kept_at = at-kept m.may_leave values terms mid (record { moves = p.moves ++ made ∷ []; sessions = p.sessions }) (landed_at terms p at) new same kept in
        let at_it : Is terms new (record { moves = (turn_told values.forms (fixed_of values terms) takes p session number step).after.moves; sessions = p.sessions }) =
        subst (λ (h : History O R). Is terms new (record { moves = h; sessions = p.sessions })) (sym (ap (λ (t : Told O R). t.after.moves) is)) kept_at in
        (inr at_it, ap (λ (t : Told O R). t.text) is ∙ ap (λ (words : List ℕ). words ++ line_end) (sym (text-of_kind values takes session name k)))

  -- a move after which each session sees what it saw
  module _ (takes : Bool) (session : List ℕ) (number : ℕ) (step : machine.Step O Q) (core : Store O R D) (made : Move O R) (outcome : machine.Outcome A R) (moves : ℕ)
      (does : Moves (fixed_of values old.core.terms) old.core core step made outcome moves) (whole : IsWhole m.may_leave values core) (none : sight_after number outcome ≡ None) where
    moved_told : (terms : Terms) (p : Play O R) → Is terms old p
        → turn_told values.forms (fixed_of values terms) takes p session number step ≡ told values.forms takes p session number (name_of (store_of terms.origin p.moves).branches number) (makes {A = A} made outcome)
    moved_told terms p at = ap (told values.forms takes p session number (name_of (store_of terms.origin p.moves).branches number)) (at-play terms p at step (makes {A = A} made outcome) does.turn_is)

    moved_at : (terms : Terms) (p : Play O R) → Is terms old p → Is terms (view_of core old.sessions) (record { moves = p.moves ++ made ∷ []; sessions = p.sessions })
    moved_at terms p at = at-more m.may_leave values terms old p at (view_of core old.sessions) (made ∷ []) (ap (λ (c : Store O R D). c.terms) does.history) (ap (λ (c : Store O R D). c.history) does.history) (λ name. refl) whole

    abbrev words_in : Terms → History O R → List ℕ
    words_in terms history = outcome_text values.forms takes session (name_of (store_of terms.origin history).branches number) outcome ++ line_end

    same_words : (terms : Terms) (p : Play O R) → Is terms old p → words_in terms p.moves ≡ words_in old.core.terms old.core.history
    same_words terms p at = ap (words_in terms) (sym at.history) ∙ ap (λ (l : Terms). words_in l old.core.history) (sym at.terms_are)

    pub moved : IsTold m values (turn_telling values takes session number step) old (view_of core old.sessions) (words_in old.core.terms old.core.history)
    moved terms p at =
        let t = makes {A = A} made outcome in
        let new = view_of core old.sessions in
        let after = subst (λ s. Is terms new (record { moves = p.moves ++ made ∷ []; sessions = with_sight p.sessions session s })) (sym none) (moved_at terms p at) in
        told-by m values terms new (turn_told values.forms (fixed_of values terms) takes p session number step) (told values.forms takes p session number (name_of (store_of terms.origin p.moves).branches number) t)
        (words_in old.core.terms old.core.history) (moved_told terms p at) after (same_words terms p at)

    pub moved_half : IsHalfTold m values (turn_telling values takes session number step) old (view_of core old.sessions) (words_in old.core.terms old.core.history)
    moved_half terms p at =
        let is = moved_told terms p at in
        let at_it : Is terms (view_of core old.sessions) (record { moves = (turn_told values.forms (fixed_of values terms) takes p session number step).after.moves; sessions = p.sessions }) =
        subst (λ (h : History O R). Is terms (view_of core old.sessions) (record { moves = h; sessions = p.sessions })) (sym (ap (λ (t : Told O R). t.after.moves) is)) (moved_at terms p at) in
        (inr at_it, ap (λ (t : Told O R). t.text) is ∙ same_words terms p at)

  module _ (session : List ℕ) (seen : Seen O R) (found : session_named old.sessions session ≡ Some seen) where
    sight : (terms : Terms) (p : Play O R) → Is terms old p → seen_by p.sessions session ≡ Some (sight_of seen)
    sight terms p at = sym (at.sights session) ∙ ap (option_map sight_of) found

    -- an operation is told as the machine's turn
    pub do_as : (op : PlainOp) (made : O) → values.forms.op op ≡ Some made → (terms : Terms) (p : Play O R) → Is terms old p
        → step_told values.forms (fixed_of values terms) p (Do session op) ≡ turn_told values.forms (fixed_of values terms) (takes_item op) p session seen.branch (machine.Land seen.branch seen.head made)
    do_as op made is terms p at = told-do values.forms (fixed_of values terms) p session op made (sight_of seen) (sight terms p at) is

    -- and one on sequences is none of a type that has none
    pub no_op : (op : PlainOp) → values.forms.op op ≡ None → IsTold m values (do_telling values session op) old old (no_sequences_text ++ line_end)
    no_op op lacks terms p at =
        told-by m values terms old (step_told values.forms (fixed_of values terms) p (Do session op)) _ (no_sequences_text ++ line_end)
        (told-no_op values.forms (fixed_of values terms) p session op (sight_of seen) (sight terms p at) lacks) at refl

    -- and so is a merge of the head of another branch
    pub merge_as : (from : List ℕ) (number head : ℕ) → LooksAt from number head
        → (terms : Terms) (p : Play O R) → Is terms old p → step_told values.forms (fixed_of values terms) p (Merge session from) ≡ turn_told values.forms (fixed_of values terms) false p session seen.branch (machine.Merge seen.branch seen.head (head ∷ []))
    merge_as from number head looks terms p at =
        told-merge values.forms (fixed_of values terms) p session from (sight_of seen) number head (sight terms p at) (at-play terms p at (machine.Look from) (answers (machine.Sees number head)) looks)

    pub merge_unknown : (from : List ℕ) (refusal : machine.Refusal) → Refuses (machine.Look from) refusal → IsTold m values (merge_telling values session from) old old (refusal_text from refusal ++ line_end)
    merge_unknown from refusal looks terms p at =
        told-by m values terms old (step_told values.forms (fixed_of values terms) p (Merge session from)) _ (refusal_text from refusal ++ line_end)
        (told-merge_unknown values.forms (fixed_of values terms) p session from (sight_of seen) refusal (sight terms p at) (at-play terms p at (machine.Look from) (answers (machine.Refused refusal)) looks)) at refl

    -- and so is a drop
    pub drop_as : (terms : Terms) (p : Play O R) → Is terms old p
        → step_told values.forms (fixed_of values terms) p (Drop session) ≡ turn_told values.forms (fixed_of values terms) false p session seen.branch (machine.Drop seen.branch seen.head)
    drop_as terms p at = told-drop values.forms (fixed_of values terms) p session (sight_of seen) (sight terms p at)

    -- and so is a join of the heads of several
    pub join_as : (from : List (List ℕ)) (heads : List ℕ) → AreHeads values.meaning (held old.core) from heads
        → (terms : Terms) (p : Play O R) → Is terms old p → step_told values.forms (fixed_of values terms) p (Join session from) ≡ turn_told values.forms (fixed_of values terms) false p session seen.branch (machine.Merge seen.branch seen.head heads)
    join_as from heads are terms p at =
        told-join values.forms (fixed_of values terms) p session from (sight_of seen) heads (sight terms p at) (heads-are (fixed_of values terms) p (held old.core) (looks_alike terms p at) from heads are)

    pub join_unknown : (from : List (List ℕ)) (named : List ℕ) → GroupRefusedAs values.meaning (held old.core) from (pair_refusal.UnknownBranch named)
        → IsTold m values (join_telling values session from) old old (refusal_text [] (machine.UnknownBranch named) ++ line_end)
    join_unknown from named refused terms p at =
        let (before, behind, heads, is, are, unknown) = refused in
        told-by m values terms old (step_told values.forms (fixed_of values terms) p (Join session from)) _ (refusal_text [] (machine.UnknownBranch named) ++ line_end)
        (told-join_unknown values.forms (fixed_of values terms) p session from (sight_of seen) named (sight terms p at)
        (heads-unknown (fixed_of values terms) p (held old.core) (looks_alike terms p at) from before behind named heads is are unknown)) at refl
