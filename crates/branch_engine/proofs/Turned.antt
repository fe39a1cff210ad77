-- What a step is told, from the machine's turn.
use Rattle.std.proofs.Common.{◌≡◌, ℕ, true, false, cond, List, [], ◌∷◌, refl, ap, ◌∙◌, None, Some}
use Rattle.std.specs.Prelude.{Ok, Err}
use Rattle.branch_history.specs.Steps as machine
use Rattle.branch_history.specs.Machine.{answers}
use Rattle.branch_machine.specs.Machine.{full_turn}
use Rattle.branch_script.specs.declared.step.Step.TheVariants.{Look, Fork, Merge, Join, Drop, Do, Ask}
use Rattle.branch_script.specs.declared.step.Step.{Step}
use Rattle.branch_script.specs.declared.step.Line.TheVariants as form
use Rattle.branch_print.specs.Texts.{outcome_text, unseen_text, no_sequences_text, unknown_commit_text, takes_item}
use Rattle.branch_machine.specs.Fixed.{Fixed}
use Rattle.branch_doc.specs.Types.{PlainForms}
use Rattle.branch_engine.specs.Sessions.{Sight, seen_by}
use Rattle.branch_doc.specs.declared.plain.PlainOp.{PlainOp}
use Rattle.branch_doc.specs.declared.plain.PlainQuery.{PlainQuery}
use Rattle.branch_engine.specs.Play.{Play, told, turn_told, says, op_told, do_told, head_merged_told, merge_told, heads_named, heads_joined_told, join_told, drop_told, query_told, ask_told, step_told, has_commit, form_told}

module _ {S O R Q A : Type 0} (forms : PlainForms O Q R A) (fixed : Fixed S O R Q A) (p : Play O R) where
  pub told-look : (session branch : List ℕ) (t : machine.Turn O R A) → full_turn fixed p.moves (machine.Look branch) ≡ t → step_told forms fixed p (Look session branch) ≡ told forms false p session 0 branch t
  unfolding step_told
  told-look session branch t is = ap (told forms false p session 0 branch) is

  pub told-fork : (new from : List ℕ) (t : machine.Turn O R A) → full_turn fixed p.moves (machine.Fork new from) ≡ t → step_told forms fixed p (Fork new from) ≡ told forms false p [] 0 new t
  unfolding step_told
  told-fork new from t is = ap (told forms false p [] 0 new) is

  pub told-unseen : (session : List ℕ) (op : PlainOp) → seen_by p.sessions session ≡ None → step_told forms fixed p (Do session op) ≡ says p (unseen_text session)
  unfolding step_told
  told-unseen session op none = ap (do_told forms fixed p session op) none

  pub told-do : (session : List ℕ) (op : PlainOp) (made : O) (sight : Sight) → seen_by p.sessions session ≡ Some sight → forms.op op ≡ Some made
      → step_told forms fixed p (Do session op) ≡ turn_told forms fixed (takes_item op) p session sight.branch (machine.Land sight.branch sight.head made)
  unfolding step_told
  told-do session op made sight some is = ap (do_told forms fixed p session op) some ∙ ap (op_told forms fixed (takes_item op) p session sight) is

  pub told-no_op : (session : List ℕ) (op : PlainOp) (sight : Sight) → seen_by p.sessions session ≡ Some sight → forms.op op ≡ None → step_told forms fixed p (Do session op) ≡ says p no_sequences_text
  unfolding step_told
  told-no_op session op sight some lacks = ap (do_told forms fixed p session op) some ∙ ap (op_told forms fixed (takes_item op) p session sight) lacks

  pub told-unmerged : (session from : List ℕ) → seen_by p.sessions session ≡ None → step_told forms fixed p (Merge session from) ≡ says p (unseen_text session)
  unfolding step_told
  told-unmerged session from none = ap (merge_told forms fixed p session from) none

  pub told-merge_unknown : (session from : List ℕ) (sight : Sight) (refusal : machine.Refusal) → seen_by p.sessions session ≡ Some sight
      → full_turn fixed p.moves (machine.Look from) ≡ answers (machine.Refused refusal)
      → step_told forms fixed p (Merge session from) ≡ says p (outcome_text forms false session from (machine.Refused refusal))
  unfolding step_told
  told-merge_unknown session from sight refusal some looks =
      ap (merge_told forms fixed p session from) some ∙ ap (λ t. head_merged_told forms fixed p session from sight t.outcome) looks

  pub told-merge : (session from : List ℕ) (sight : Sight) (number head : ℕ) → seen_by p.sessions session ≡ Some sight
      → full_turn fixed p.moves (machine.Look from) ≡ answers (machine.Sees number head)
      → step_told forms fixed p (Merge session from) ≡ turn_told forms fixed false p session sight.branch (machine.Merge sight.branch sight.head (head ∷ []))
  unfolding step_told
  told-merge session from sight number head some looks =
      ap (merge_told forms fixed p session from) some ∙ ap (λ t. head_merged_told forms fixed p session from sight t.outcome) looks

  pub told-unjoined : (session : List ℕ) (from : List (List ℕ)) → seen_by p.sessions session ≡ None → step_told forms fixed p (Join session from) ≡ says p (unseen_text session)
  unfolding step_told
  told-unjoined session from none = ap (join_told forms fixed p session from) none

  pub told-join_unknown : (session : List ℕ) (from : List (List ℕ)) (sight : Sight) (named : List ℕ) → seen_by p.sessions session ≡ Some sight → heads_named fixed p from ≡ Err named
      → step_told forms fixed p (Join session from) ≡ says p (outcome_text forms false session named (machine.Refused (machine.UnknownBranch named)))
  unfolding step_told
  told-join_unknown session from sight named some unknown = ap (join_told forms fixed p session from) some ∙ ap (heads_joined_told forms fixed p session sight) unknown

  pub told-join : (session : List ℕ) (from : List (List ℕ)) (sight : Sight) (heads : List ℕ) → seen_by p.sessions session ≡ Some sight → heads_named fixed p from ≡ Ok heads
      → step_told forms fixed p (Join session from) ≡ turn_told forms fixed false p session sight.branch (machine.Merge sight.branch sight.head heads)
  unfolding step_told
  told-join session from sight heads some are = ap (join_told forms fixed p session from) some ∙ ap (heads_joined_told forms fixed p session sight) are

  pub told-undropped : (session : List ℕ) → seen_by p.sessions session ≡ None → step_told forms fixed p (Drop session) ≡ says p (unseen_text session)
  unfolding step_told
  told-undropped session none = ap (drop_told forms fixed p session) none

  pub told-drop : (session : List ℕ) (sight : Sight) → seen_by p.sessions session ≡ Some sight
      → step_told forms fixed p (Drop session) ≡ turn_told forms fixed false p session sight.branch (machine.Drop sight.branch sight.head)
  unfolding step_told
  told-drop session sight some = ap (drop_told forms fixed p session) some

  pub told-ask : (branch : List ℕ) (query : PlainQuery) (made : Q) (number head : ℕ) (answer : A) → full_turn fixed p.moves (machine.Look branch) ≡ answers (machine.Sees number head)
      → forms.query query ≡ Some made → full_turn fixed p.moves (machine.Ask head made) ≡ answers (machine.Answered answer)
      → step_told forms fixed p (Ask branch query) ≡ says p (outcome_text forms false [] branch (machine.Answered answer))
  unfolding step_told
  told-ask branch query made number head answer looks is asks =
      ap (λ t. ask_told forms fixed p branch (forms.query query) t.outcome) looks ∙ ap (query_told forms fixed p branch head) is ∙ ap (λ t. says p (outcome_text forms false [] branch t.outcome)) asks

  pub told-no_query : (branch : List ℕ) (query : PlainQuery) (number head : ℕ) → full_turn fixed p.moves (machine.Look branch) ≡ answers (machine.Sees number head)
      → forms.query query ≡ None → step_told forms fixed p (Ask branch query) ≡ says p no_sequences_text
  unfolding step_told
  told-no_query branch query number head looks lacks =
      ap (λ t. ask_told forms fixed p branch (forms.query query) t.outcome) looks ∙ ap (query_told forms fixed p branch head) lacks

  pub told-ask_refused : (branch : List ℕ) (query : PlainQuery) (refusal : machine.Refusal) → full_turn fixed p.moves (machine.Look branch) ≡ answers (machine.Refused refusal)
      → step_told forms fixed p (Ask branch query) ≡ says p (outcome_text forms false [] branch (machine.Refused refusal))
  unfolding step_told
  told-ask_refused branch query refusal looks = ap (λ t. ask_told forms fixed p branch (forms.query query) t.outcome) looks

  pub told-step : (step : Step) → form_told forms fixed p (form.Step step) ≡ step_told forms fixed p step
  unfolding form_told
  told-step step = refl

  pub told-ask_nowhere : (number : ℕ) (query : PlainQuery) → has_commit fixed p number ≡ false → form_told forms fixed p (form.AskAt number query) ≡ says p (unknown_commit_text number)
  unfolding form_told
  told-ask_nowhere number query none = ap (λ t. cond t (query_told forms fixed p [] number (forms.query query)) (says p (unknown_commit_text number))) none

  pub told-ask_at : (number : ℕ) (query : PlainQuery) (made : Q) (answer : A) → has_commit fixed p number ≡ true → forms.query query ≡ Some made
      → full_turn fixed p.moves (machine.Ask number made) ≡ answers (machine.Answered answer)
      → form_told forms fixed p (form.AskAt number query) ≡ says p (outcome_text forms false [] [] (machine.Answered answer))
  unfolding form_told
  told-ask_at number query made answer there is asks =
      ap (λ t. cond t (query_told forms fixed p [] number (forms.query query)) (says p (unknown_commit_text number))) there
      ∙ ap (query_told forms fixed p [] number) is ∙ ap (λ t. says p (outcome_text forms false [] [] t.outcome)) asks

  pub told-no_query_at : (number : ℕ) (query : PlainQuery) → has_commit fixed p number ≡ true → forms.query query ≡ None → form_told forms fixed p (form.AskAt number query) ≡ says p no_sequences_text
  unfolding form_told
  told-no_query_at number query there lacks =
      ap (λ t. cond t (query_told forms fixed p [] number (forms.query query)) (says p (unknown_commit_text number))) there ∙ ap (query_told forms fixed p [] number) lacks

  pub told-fork_nowhere : (new : List ℕ) (number : ℕ) → has_commit fixed p number ≡ false → form_told forms fixed p (form.ForkAt new number) ≡ says p (unknown_commit_text number)
  unfolding form_told
  told-fork_nowhere new number none =
      ap (λ t. cond t (told forms false p [] 0 new (full_turn fixed p.moves (machine.Place new number))) (says p (unknown_commit_text number))) none

  pub told-fork_at : (new : List ℕ) (number : ℕ) (t : machine.Turn O R A) → has_commit fixed p number ≡ true → full_turn fixed p.moves (machine.Place new number) ≡ t
      → form_told forms fixed p (form.ForkAt new number) ≡ told forms false p [] 0 new t
  unfolding form_told
  told-fork_at new number t there is =
      ap (λ t. cond t (told forms false p [] 0 new (full_turn fixed p.moves (machine.Place new number))) (says p (unknown_commit_text number))) there
      ∙ ap (told forms false p [] 0 new) is
