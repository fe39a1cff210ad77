-- The machine that keeps objects runs the lines of a script, with what each named session sees, for stores of any type
-- whose operations, queries, replies and answers have plain forms.
use Rattle.std.specs.Prelude.{ℕ, Bool, false, nat_lt, List, [], ◌∷◌, ◌++◌, length, Result, Ok, Err, Some, None, if◌then◌else◌}
use Rattle.std.specs.declared.option.Option.{Option}
use Rattle.branch_doc.specs.declared.plain.PlainOp.{PlainOp}
use Rattle.branch_doc.specs.Types.{PlainForms}
use Rattle.branch_history.specs.declared.moves.Move.{Move}
use Rattle.branch_names.specs.Heads.{name_of}
use Rattle.branch_history.specs.History.{store_of}
use Rattle.branch_history.specs.Steps as machine
use Rattle.branch_machine.specs.Fixed.{Fixed}
use Rattle.branch_machine.specs.Machine.{full_turn}
use Rattle.branch_script.specs.declared.step.Step.{Step}
use Rattle.branch_script.specs.declared.step.Step.TheVariants.{Look, Fork, Merge, Join, Drop, Do, Ask}
use Rattle.branch_script.specs.declared.step.Line.{Line}
use Rattle.branch_script.specs.declared.step.Line.TheVariants as form
use Rattle.branch_script.specs.declared.step.LineRefused.{LineRefused}
use Rattle.branch_script.specs.Script.{line_of}
use Rattle.branch_print.specs.Texts.{takes_item, outcome_text, line_refusal_text, unseen_text, no_sequences_text, unknown_commit_text, line_end}
use Rattle.branch_engine.specs.Sessions.{Sight, Session, seen_by}

abbrev pub History : Type 0 → Type 0 → Type 0
History O R = List (Move O R)

-- the history so far, and what sessions came to see, the newest first
pub record Play (O R : Type 0) : Type 0 where
  pub moves : History O R
  pub sessions : List Session

-- the text that a line is answered with, and the play after it
pub record Told (O R : Type 0) : Type 0 where
  pub text : List ℕ
  pub after : Play O R

-- after a look, or a move of its own on the branch of this number, a session sees the head that it gave
abbrev pub sight_after : {A R : Type 0} → ℕ → machine.Outcome A R → Option Sight
sight_after branch (machine.Sees number head) = Some (record { branch = number; head = head })
sight_after branch (machine.Landed commit time reply) = Some (record { branch = branch; head = commit })
sight_after branch (machine.Merged commit) = Some (record { branch = branch; head = commit })
sight_after branch (machine.Joined commit) = Some (record { branch = branch; head = commit })
sight_after branch (machine.Forwarded commit) = Some (record { branch = branch; head = commit })
sight_after branch outcome = None

-- a session that came to see something, or sees what it saw
abbrev pub with_sight : List Session → List ℕ → Option Sight → List Session
with_sight sessions name None = sessions
with_sight sessions name (Some sight) = (record { name = name; sight = sight }) ∷ sessions

-- a text alone
abbrev pub says : {O R : Type 0} → Play O R → List ℕ → Told O R
says p text = record { text = text ++ line_end; after = p }

-- the heads of the branches with these names, or the first of the names that no branch has
abbrev pub and_head : {A R : Type 0} → List ℕ → machine.Outcome A R → Result (List ℕ) (List ℕ) → Result (List ℕ) (List ℕ)
and_head name (machine.Sees number head) (Ok heads) = Ok (head ∷ heads)
and_head name (machine.Sees number head) (Err unknown) = Err unknown
and_head name outcome rest = Err name

abbrev pub heads_named : {S O R Q A : Type 0} → Fixed S O R Q A → Play O R → List (List ℕ) → Result (List ℕ) (List ℕ)
heads_named fixed p [] = Ok []
heads_named fixed p (name ∷ names) =
    and_head name (full_turn fixed p.moves (machine.Look name)).outcome (heads_named fixed p names)

-- whether the store has a commit of this number
abbrev pub has_commit : {S O R Q A : Type 0} → Fixed S O R Q A → Play O R → ℕ → Bool
has_commit fixed p number = nat_lt number (length (store_of fixed.terms.origin p.moves).commits)

-- a turn of the machine for a session, on the branch of this number and name, for a type of these plain forms; of a step
-- it is told whether it takes an item out of a sequence
abbrev pub told : {O R Q A : Type 0} → PlainForms O Q R A → Bool → Play O R → List ℕ → ℕ → List ℕ → machine.Turn O R A → Told O R
told forms takes p session number branch t = record {
  text = outcome_text forms takes session branch t.outcome ++ line_end;
  after = record { moves = p.moves ++ t.made; sessions = with_sight p.sessions session (sight_after number t.outcome) };
}

-- a play over a history, in which no session has looked
abbrev pub begins : {O R : Type 0} → History O R → Play O R
begins moves = record { moves = moves; sessions = [] }

-- the plain forms of a type, and what is fixed for a store of it
module _ {S O R Q A : Type 0} (forms : PlainForms O Q R A) (fixed : Fixed S O R Q A) where
  -- a step of the machine for a session, on the branch of this number
  abbrev pub turn_told : Bool → Play O R → List ℕ → ℕ → machine.Step O Q → Told O R
  turn_told takes p session number step =
      told forms takes p session number (name_of (store_of fixed.terms.origin p.moves).branches number) (full_turn fixed p.moves step)

  -- an operation of a session that sees this, where the store has values of its kind; only sequences it may lack
  abbrev pub op_told : Bool → Play O R → List ℕ → Sight → Option O → Told O R
  op_told takes p session sight None = says p no_sequences_text
  op_told takes p session sight (Some op) = turn_told takes p session sight.branch (machine.Land sight.branch sight.head op)

  -- and given what the session sees, if anything
  abbrev pub do_told : Play O R → List ℕ → PlainOp → Option Sight → Told O R
  do_told p session op None = says p (unseen_text session)
  do_told p session op (Some sight) = op_told (takes_item op) p session sight (forms.op op)

  -- a merge of the branch of this name into the one that a session sees, given the outcome of a look at the former: its head is merged
  abbrev pub head_merged_told : Play O R → List ℕ → List ℕ → Sight → machine.Outcome A R → Told O R
  head_merged_told p session from sight (machine.Sees number head) =
      turn_told false p session sight.branch (machine.Merge sight.branch sight.head (head ∷ []))
  head_merged_told p session from sight outcome = says p (outcome_text forms false session from outcome)

  -- and given what the session sees, if anything
  abbrev pub merge_told : Play O R → List ℕ → List ℕ → Option Sight → Told O R
  merge_told p session from None = says p (unseen_text session)
  merge_told p session from (Some sight) = head_merged_told p session from sight (full_turn fixed p.moves (machine.Look from)).outcome

  -- a join of branches into the one that a session sees, given their heads: all of them are merged at once
  abbrev pub heads_joined_told : Play O R → List ℕ → Sight → Result (List ℕ) (List ℕ) → Told O R
  heads_joined_told p session sight (Err name) =
      says p (outcome_text forms false session name (machine.Refused (machine.UnknownBranch name)))
  heads_joined_told p session sight (Ok heads) =
      turn_told false p session sight.branch (machine.Merge sight.branch sight.head heads)

  -- and given the names of the branches, and what the session sees, if anything
  abbrev pub join_told : Play O R → List ℕ → List (List ℕ) → Option Sight → Told O R
  join_told p session from None = says p (unseen_text session)
  join_told p session from (Some sight) = heads_joined_told p session sight (heads_named fixed p from)

  -- a drop of the branch that a session sees, from the head that it sees, given what that is; it sees the same as before
  abbrev pub drop_told : Play O R → List ℕ → Option Sight → Told O R
  drop_told p session None = says p (unseen_text session)
  drop_told p session (Some sight) = turn_told false p session sight.branch (machine.Drop sight.branch sight.head)

  -- a query at a commit, of the branch of this name or of none, where the store has values of its kind; only sequences it
  -- may lack
  abbrev pub query_told : Play O R → List ℕ → ℕ → Option Q → Told O R
  query_told p branch commit None = says p no_sequences_text
  query_told p branch commit (Some query) =
      says p (outcome_text forms false [] branch (full_turn fixed p.moves (machine.Ask commit query)).outcome)

  -- and given the outcome of a look at the branch: it is asked at the head
  abbrev pub ask_told : Play O R → List ℕ → Option Q → machine.Outcome A R → Told O R
  ask_told p branch query (machine.Sees number head) = query_told p branch head query
  ask_told p branch query outcome = says p (outcome_text forms false [] branch outcome)

  unfoldable pub step_told : Play O R → Step → Told O R
  step_told p (Look session branch) = told forms false p session 0 branch (full_turn fixed p.moves (machine.Look branch))
  step_told p (Fork new from) = told forms false p [] 0 new (full_turn fixed p.moves (machine.Fork new from))
  step_told p (Merge session from) = merge_told p session from (seen_by p.sessions session)
  step_told p (Join session from) = join_told p session from (seen_by p.sessions session)
  step_told p (Drop session) = drop_told p session (seen_by p.sessions session)
  step_told p (Do session op) = do_told p session op (seen_by p.sessions session)
  step_told p (Ask branch query) = ask_told p branch (forms.query query) (full_turn fixed p.moves (machine.Look branch)).outcome

  -- a line is a step, or about the commit of a number, which the store may lack
  unfoldable pub form_told : Play O R → Line → Told O R
  form_told p (form.Step step) = step_told p step
  form_told p (form.AskAt number query) =
      if has_commit fixed p number then query_told p [] number (forms.query query) else says p (unknown_commit_text number)
  form_told p (form.ForkAt new number) =
      if has_commit fixed p number then told forms false p [] 0 new (full_turn fixed p.moves (machine.Place new number))
      else says p (unknown_commit_text number)

  -- an empty line or a comment is not answered; another line is, also where it says nothing
  abbrev pub read_told : Play O R → Result (Option Line) LineRefused → Told O R
  read_told p (Ok None) = record { text = []; after = p }
  read_told p (Ok (Some line)) = form_told p line
  read_told p (Err refusal) = says p (line_refusal_text refusal)

  abbrev pub line_told : Play O R → List ℕ → Told O R
  line_told p line = read_told p (line_of line)

  -- the text of lines, from a play on, and the play after them
  abbrev pub text_from : Play O R → List (List ℕ) → List ℕ
  text_from p [] = []
  text_from p (line ∷ lines) = (line_told p line).text ++ text_from (line_told p line).after lines

  abbrev pub after_from : Play O R → List (List ℕ) → Play O R
  after_from p [] = p
  after_from p (line ∷ lines) = after_from (line_told p line).after lines

  -- the text of lines over a history, and the history after them
  unfoldable pub text_of : History O R → List (List ℕ) → List ℕ
  text_of moves lines = text_from (begins moves) lines

  unfoldable pub after_lines : History O R → List (List ℕ) → History O R
  after_lines moves lines = (after_from (begins moves) lines).moves
