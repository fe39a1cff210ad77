-- What is told of a line about the commit of a number.
use Rattle.std.proofs.Common.{◌≡◌, ℕ, Bool, List, [], ◌∷◌, ◌++◌, length, refl, ap, sym, subst, ◌∙◌, None, Some, true, false, inr}
use Rattle.std.specs.Prelude.{Result, Ok, Err, nat_lt}
use Rattle.branch_disk.specs.Disk.{Files}
use Rattle.branch_disk.specs.declared.disk.Disk.{Ghosts}
use Rattle.branch_doc.specs.declared.plain.PlainQuery.{PlainQuery}
use Rattle.branch_history.specs.declared.moves.Move.{Move}
use Rattle.branch_history.specs.History.{store_of}
use Rattle.branch_history.specs.Machine.{answers, makes}
use Rattle.branch_history.specs.Steps as machine
use Rattle.branch_machine.specs.Validity.{IsFullyValid}
use Rattle.branch_files.specs.Laws.{ReadsWhatStands}
use Rattle.branch_names.specs.declared.terms.Terms.{Terms}
use Rattle.branch_print.specs.Texts.{outcome_text, refusal_text, answer_text, no_sequences_text, unknown_commit_text, line_end}
use Rattle.branch_script.specs.declared.step.Line.TheVariants as form
use Rattle.machine_answers.specs.Answers.{Answer, Refused}
use Rattle.store_seen.specs.declared.answers.Forked.{Forked}
use Rattle.store_core.specs.Answers.{place_answer}
use Rattle.store_core.specs.Images.{AllStand}
use Rattle.store_core.specs.Turns.{Moves}
use Rattle.store_core.specs.declared.answers.PlaceRefused.{PlaceRefused}
use Rattle.store_core.specs.declared.answers.PlaceRefused.TheVariants as place_refusal
use Rattle.branch_engine.proofs.Values.{Values, fixed_of}
use Rattle.branch_engine.specs.declared.refused.TellRefused.{TellRefused}
use Rattle.branch_engine.specs.Play.{History, Play, Told, told, has_commit, form_told}
use Rattle.branch_engine.specs.Engines.{Store, EngineView, IsAt, Telling, Writes, RepliesAs}
use Rattle.branch_engine.proofs.Played.{IsWhole, turn-at, at-more, at-still}
use Rattle.branch_engine.proofs.Turned.{told-ask_nowhere, told-ask_at, told-no_query_at, told-fork_nowhere, told-fork_at}
use Rattle.branch_engine.proofs.Does.{Members, members, DoesSo, IsTold, IsHalfTold, told-by}
use Rattle.branch_engine.proofs.Replies.{TakesTurn, view_of, turn_of}
use Rattle.branch_engine.proofs.Answered.{Answered, made_so, refused_so, faulted_so, short_so}

abbrev pub ask_at_telling : {S O R Q A : Type 0} → Values S O R Q A → ℕ → PlainQuery → Telling S O R Q A
ask_at_telling values number query fixed p = form_told values.forms fixed p (form.AskAt number query)

abbrev pub fork_at_telling : {S O R Q A : Type 0} → Values S O R Q A → List ℕ → ℕ → Telling S O R Q A
fork_at_telling values new number fixed p = form_told values.forms fixed p (form.ForkAt new number)

module _ {S O R Q A D : Type 0} (m : Members D) (values : Values S O R Q A) (old : EngineView O R D) (number : ℕ) where
  abbrev Is : Terms → EngineView O R D → Play O R → Type 0
  Is terms engine p = IsAt m.may_leave (fixed_of values terms) engine p

  -- whether the engine's store has the commit
  abbrev pub Has : Bool → Type 0
  Has t = nat_lt number (length (store_of old.core.terms.origin old.core.history).commits) ≡ t

  has-at : (t : Bool) → Has t → (terms : Terms) (p : Play O R) → Is terms old p → has_commit (fixed_of values terms) p number ≡ t
  has-at t is terms p at =
      ap (λ (h : History O R). nat_lt number (length (store_of terms.origin h).commits)) (sym at.history)
      ∙ ap (λ (l : Terms). nat_lt number (length (store_of l.origin old.core.history).commits)) (sym at.terms_are) ∙ is

  pub ask_nowhere : (query : PlainQuery) → Has false → IsTold m values (ask_at_telling values number query) old old (unknown_commit_text number ++ line_end)
  ask_nowhere query none terms p at =
      told-by m values terms old (form_told values.forms (fixed_of values terms) p (form.AskAt number query)) _ (unknown_commit_text number ++ line_end)
      (told-ask_nowhere values.forms (fixed_of values terms) p number query (has-at false none terms p at)) at refl

  pub asked_at : (query : PlainQuery) (made : Q) (answer : A) → Has true → values.forms.query query ≡ Some made → turn_of m values old (machine.Ask number made) ≡ answers (machine.Answered answer)
      → IsTold m values (ask_at_telling values number query) old old (answer_text (values.forms.answer answer) ++ line_end)
  asked_at query made answer there is asks terms p at =
      told-by m values terms old (form_told values.forms (fixed_of values terms) p (form.AskAt number query)) _ (answer_text (values.forms.answer answer) ++ line_end)
      (told-ask_at values.forms (fixed_of values terms) p number query made answer (has-at true there terms p at) is
      (turn-at m.may_leave values terms old p at (machine.Ask number made) (answers (machine.Answered answer)) asks))
      at refl

  pub no_query_at : (query : PlainQuery) → Has true → values.forms.query query ≡ None → IsTold m values (ask_at_telling values number query) old old (no_sequences_text ++ line_end)
  no_query_at query there lacks terms p at =
      told-by m values terms old (form_told values.forms (fixed_of values terms) p (form.AskAt number query)) _ (no_sequences_text ++ line_end)
      (told-no_query_at values.forms (fixed_of values terms) p number query (has-at true there terms p at) lacks) at refl

  pub fork_nowhere : (name : List ℕ) → Has false → IsTold m values (fork_at_telling values name number) old old (unknown_commit_text number ++ line_end)
  fork_nowhere name none terms p at =
      told-by m values terms old (form_told values.forms (fixed_of values terms) p (form.ForkAt name number)) _ (unknown_commit_text number ++ line_end)
      (told-fork_nowhere values.forms (fixed_of values terms) p name number (has-at false none terms p at)) at refl

  module _ (name : List ℕ) (there : Has true) where
    abbrev telling : Telling S O R Q A
    telling = fork_at_telling values name number

    abbrev placing : machine.Step O Q
    placing = machine.Place name number

    placed_told : (t : machine.Turn O R A) → turn_of m values old placing ≡ t → (terms : Terms) (p : Play O R) → Is terms old p
        → telling (fixed_of values terms) p ≡ told values.forms false p [] 0 name t
    placed_told t is terms p at =
        told-fork_at values.forms (fixed_of values terms) p name number t (has-at true there terms p at) (turn-at m.may_leave values terms old p at placing t is)

    pub place_takes : TakesTurn m values old telling placing
    place_takes terms p at = ap (λ (t : Told O R). t.after.moves) (placed_told (turn_of m values old placing) refl terms p at)

    pub place_refused : (why : machine.Refusal) → turn_of m values old placing ≡ answers (machine.Refused why) → IsTold m values telling old old (refusal_text name why ++ line_end)
    place_refused why is terms p at =
        let t = answers {O = O} {R = R} {A = A} (machine.Refused why) in
        told-by m values terms old (telling (fixed_of values terms) p) (told values.forms false p [] 0 name t) (refusal_text name why ++ line_end)
        (placed_told t is terms p at) (at-still m.may_leave values terms old p at) refl

    module _ (core : Store O R D) (branch head moves : ℕ) (made : Move O R)
        (does : Moves (fixed_of values old.core.terms) old.core core placing made (machine.Forked branch head) moves) (whole : IsWhole m.may_leave values core) where
      abbrev new : EngineView O R D
      new = view_of core old.sessions

      abbrev outcome : machine.Outcome A R
      outcome = machine.Forked branch head

      abbrev pub placed_words : List ℕ
      placed_words = outcome_text values.forms false [] name outcome ++ line_end

      placed_at : (terms : Terms) (p : Play O R) → Is terms old p → Is terms new (record { moves = p.moves ++ made ∷ []; sessions = p.sessions })
      placed_at terms p at =
          at-more m.may_leave values terms old p at new (made ∷ []) (ap (λ (c : Store O R D). c.terms) does.history) (ap (λ (c : Store O R D). c.history) does.history) (λ name. refl) whole

      pub placed : IsTold m values telling old new placed_words
      placed terms p at =
          told-by m values terms new (telling (fixed_of values terms) p) (told values.forms false p [] 0 name (makes {A = A} made outcome)) placed_words
          (placed_told (makes made outcome) does.turn_is terms p at) (placed_at terms p at) refl

      pub placed_half : IsHalfTold m values telling old new placed_words
      placed_half terms p at =
          let is = placed_told (makes made outcome) does.turn_is terms p at in
          let here : Is terms new (record { moves = (telling (fixed_of values terms) p).after.moves; sessions = p.sessions }) =
          subst (λ (h : History O R). Is terms new (record { moves = h; sessions = p.sessions })) (sym (ap (λ (t : Told O R). t.after.moves) is)) (placed_at terms p at) in
          (inr here, ap (λ (t : Told O R). t.text) is)

-- what is told of a branch placed at a commit that there is
module _ {S O R Q A D : Type 0} (d : Ghosts D) (only : (x : D) (c : Files) → d.left_since x (d.moment x) c → d.may_leave x c) (values : Values S O R Q A)
    (old : EngineView O R D) (core : Store O R D) (name : List ℕ) (number : ℕ) where
  abbrev ms : Members D
  ms = members d.may_leave d.moment d.left_since d.faults only

  module _ (there : Has ms values old number true) (out out' : List ℕ) (r : Result (Unit {0}) TellRefused) where
    abbrev at_commit : machine.Step O Q
    at_commit = machine.Place name number

    abbrev Placed : Type 0
    Placed = DoesSo ms values (fork_at_telling values name number) old (view_of core old.sessions) out out' r

    -- what the core answered to it
    abbrev PlaceAnswered : Answer A R → Type 0
    PlaceAnswered answer = Answered d only values old core at_commit answer

    refused : (why : machine.Refusal) → PlaceAnswered (Refused why) → Writes (refusal_text name why ++ line_end) out out' r → Placed
    refused why a wrote =
        refused_so d only values old core at_commit (fork_at_telling values name number) (place_takes ms values old number name there) out out' r why (refusal_text name why ++ line_end) a
        (place_refused ms values old number name there why a.takes.turns) wrote

    pub placed-as : (answer : Result Forked PlaceRefused) → PlaceAnswered (place_answer answer) → old.core.failed ≡ false
        → ReadsWhatStands values.meaning → IsFullyValid (fixed_of values old.core.terms) old.core.history → IsFullyValid (fixed_of values core.terms) core.history
        → (core.failed ≡ false → AllStand (fixed_of values core.terms) core.history (d.may_leave core.disk))
        → RepliesAs values.forms name (place_answer answer) out out' r → Placed
    placed-as (Ok forked) a worked law valid now stands replies =
        made_so d only values old core at_commit (fork_at_telling values name number) (place_takes ms values old number name there) out out' r (machine.Forked forked.number forked.head) forked.moves
        (outcome_text values.forms false [] name (machine.Forked forked.number forked.head) ++ line_end) a
        (λ made does whole. (
          placed ms values old number name there core forked.number forked.head forked.moves made does whole,
          placed_half ms values old number name there core forked.number forked.head forked.moves made does whole,
        )) law valid now stands replies
    placed-as (Err (place_refusal.NameTaken other)) a worked law valid now stands replies = refused (machine.NameTaken other) a replies
    placed-as (Err (place_refusal.FullBranches count)) a worked law valid now stands replies = refused (machine.FullBranches count) a replies
    placed-as (Err (place_refusal.FullMoves count)) a worked law valid now stands replies = refused (machine.FullMoves count) a replies
    placed-as (Err place_refusal.DiskFault) a worked law valid now stands replies =
        faulted_so d only values old core at_commit (fork_at_telling values name number) (place_takes ms values old number name there) out out' r a law valid replies.0 replies.1
    placed-as (Err (place_refusal.Failed moves)) a worked law valid now stands replies =
        let bad : false ≡ true = sym worked ∙ a.leaves.worked in absurd (let never : ⊥ = cc in never)
    placed-as (Err place_refusal.Memory) a worked law valid now stands replies =
        short_so d only values old core at_commit (fork_at_telling values name number) (place_takes ms values old number name there) out out' r a replies.0 replies.1
