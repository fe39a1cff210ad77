-- The texts of replies.
use Rattle.std.specs.Prelude.{ℕ, Bool, true, false, Option, None, Some, List, [], ◌∷◌, ◌++◌, codes, decimal, length, if◌then◌else◌}
use Rattle.std.specs.Fmt.{signed_decimal}
use Rattle.std.specs.List.{flat_map}
use Rattle.hex.specs.Hex.{encode_lower}
use Rattle.mrdt_model.specs.declared.time.Time.{Time}
use Rattle.live_set.specs.declared.kept.Kept.{Kept}
use Rattle.branch_doc.specs.declared.plain.PlainOp.{PlainOp}
use Rattle.branch_doc.specs.declared.plain.PlainOp.TheVariants.{SequenceDelete}
use Rattle.branch_doc.specs.declared.plain.PlainReply.{PlainReply}
use Rattle.branch_doc.specs.declared.plain.PlainReply.TheVariants as reply
use Rattle.branch_doc.specs.declared.plain.PlainAnswer.{PlainAnswer}
use Rattle.branch_doc.specs.declared.plain.PlainAnswer.TheVariants.{CounterValue, FlagIsOn, LwwGet, MultiValues, SetContains, SetMembers, SetSize, LogRead, LogLength, QueuePeek, QueueItems, QueueLength, SequenceRead, SequenceLength, Keys}
use Rattle.branch_doc.specs.Types.{PlainForms}
use Rattle.branch_script.specs.declared.step.LineRefused.{LineRefused}
use Rattle.branch_script.specs.declared.step.LineRefused.TheVariants.{Syntax, BadName, BadNumber, Memory}
use Rattle.branch_history.specs.Steps.{Refusal, UnknownBranch, NameTaken, Dropped, KeepsMain, Stale, Exhausted, FullCommits, FullBranches, FullMoves, ValueTooLarge, OwnOrigin, TimeClash, BadBundle, Collision, Outcome, Sees, Forked, Landed, Merged, Joined, Forwarded, Same, New, Here, DroppedAt, Answered, Refused}

-- each reply is a line, ended by byte 10
abbrev pub line_end : List ℕ
line_end = codes "\n"

-- `clock.origin`
abbrev pub time_text : Time → List ℕ
time_text t = decimal t.clock ++ codes "." ++ decimal t.origin

-- `[count]`, then each item after a space
abbrev pub items_text : List (List ℕ) → List ℕ
items_text items = codes "[" ++ decimal (length items) ++ codes "]" ++ flat_map (λ item. codes " " ++ item) items

-- a time, and what was put then
abbrev pub entry_text : Kept (List ℕ) → List ℕ
entry_text entry = time_text entry.time ++ codes " " ++ entry.payload

-- `[count]`, then each entry after a space
abbrev pub entries_text : List (Kept (List ℕ)) → List ℕ
entries_text entries = codes "[" ++ decimal (length entries) ++ codes "]" ++ flat_map (λ entry. codes " " ++ entry_text entry) entries

-- the one that there is, or none
abbrev pub at_most_one : {X : Type 0} → Option X → List X
at_most_one None = []
at_most_one (Some x) = x ∷ []

abbrev pub answer_text : PlainAnswer → List ℕ
answer_text (CounterValue value) = signed_decimal value
answer_text (FlagIsOn is_on) = if is_on then codes "on" else codes "off"
answer_text (LwwGet payload) = items_text (at_most_one payload)
answer_text (MultiValues payloads) = items_text payloads
answer_text (SetContains is_in) = if is_in then codes "yes" else codes "no"
answer_text (SetMembers members) = items_text members
answer_text (SetSize size) = decimal size
answer_text (LogRead entries) = entries_text entries
answer_text (LogLength count) = decimal count
answer_text (QueuePeek first) = entries_text (at_most_one first)
answer_text (QueueItems entries) = entries_text entries
answer_text (QueueLength count) = decimal count
answer_text (SequenceRead entries) = entries_text entries
answer_text (SequenceLength count) = decimal count
answer_text (Keys kind keys) = items_text keys

-- what a Dequeue took
abbrev pub took_text : Option (Kept (List ℕ)) → List ℕ
took_text None = codes " took nothing"
took_text (Some entry) = codes " took " ++ entry_text entry

-- Whether an operation takes an item out of a sequence. The reply to it is of the same kind as that to one that puts an
-- item in, and the step tells of which of the two it is.
abbrev pub takes_item : PlainOp → Bool
takes_item (SequenceDelete key place) = true
takes_item other = false

-- what was done to a sequence, given the item that the reply names: an insert came after it, a delete took it out
abbrev pub named_text : Bool → Option Time → List ℕ
named_text false None = codes " at start"
named_text false (Some item) = codes " after " ++ time_text item
named_text true None = codes " nothing"
named_text true (Some item) = codes " gone " ++ time_text item

-- what the reply to an operation adds to its text, by whether it takes an item out of a sequence: a Dequeue says what it
-- took, and an operation on a sequence what it did
abbrev pub reply_text : Bool → PlainReply → List ℕ
reply_text takes (reply.QueueTook took) = took_text took
reply_text takes (reply.Sequence named) = named_text takes named
reply_text takes other = []

-- a refusal, of a step on the branch of this name
abbrev pub refusal_text : List ℕ → Refusal → List ℕ
refusal_text branch (UnknownBranch name) = codes "error unknown " ++ name
refusal_text branch (NameTaken number) = codes "error taken " ++ decimal number
refusal_text branch (Dropped number) = codes "error dropped " ++ decimal number
refusal_text branch KeepsMain = codes "error keeps main"
refusal_text branch (Stale newest) = codes "stale " ++ branch ++ codes " at #" ++ decimal newest
refusal_text branch (Exhausted clock) = codes "error exhausted " ++ decimal clock
refusal_text branch (FullCommits count) = codes "error full commits " ++ decimal count
refusal_text branch (FullBranches count) = codes "error full branches " ++ decimal count
refusal_text branch (FullMoves count) = codes "error full moves " ++ decimal count
refusal_text branch (ValueTooLarge size) = codes "error too large " ++ decimal size
refusal_text branch OwnOrigin = codes "error own origin"
refusal_text branch (TimeClash number) = codes "error time clash #" ++ decimal number
refusal_text branch BadBundle = codes "error bad bundle"
refusal_text branch (Collision address stored fresh) = codes "error collision " ++ encode_lower address

abbrev pub sees_text : List ℕ → List ℕ → ℕ → List ℕ
sees_text session branch head = session ++ codes " sees " ++ branch ++ codes " at #" ++ decimal head

abbrev pub forked_text : List ℕ → ℕ → ℕ → List ℕ
forked_text branch number head = codes "forked " ++ branch ++ codes " as " ++ decimal number ++ codes " at #" ++ decimal head

-- an operation, and whether it takes an item out of a sequence
abbrev pub landed_text : ℕ → Time → Bool → PlainReply → List ℕ
landed_text commit time takes said =
    codes "landed #" ++ decimal commit ++ codes " at " ++ time_text time ++ reply_text takes said

abbrev pub merged_text : ℕ → List ℕ
merged_text commit = codes "merged #" ++ decimal commit

abbrev pub joined_text : ℕ → List ℕ
joined_text commit = codes "joined #" ++ decimal commit

abbrev pub forward_text : ℕ → List ℕ
forward_text commit = codes "forward #" ++ decimal commit

abbrev pub same_text : List ℕ
same_text = codes "same"

-- what was received is a new commit, or this one, which is here
abbrev pub new_text : ℕ → List ℕ
new_text commit = codes "new #" ++ decimal commit

abbrev pub here_text : ℕ → List ℕ
here_text commit = codes "here #" ++ decimal commit

-- a branch was dropped, at its last head
abbrev pub dropped_text : List ℕ → ℕ → List ℕ
dropped_text branch head = codes "dropped " ++ branch ++ codes " at #" ++ decimal head

-- An outcome, for a type of these plain forms, and for a session and a branch of these names: a fork's branch is the new
-- one. Of a step it is told whether it takes an item out of a sequence.
abbrev pub outcome_text : {O Q R A : Type 0} → PlainForms O Q R A → Bool → List ℕ → List ℕ → Outcome A R → List ℕ
outcome_text forms takes session branch (Sees number head) = sees_text session branch head
outcome_text forms takes session branch (Forked number head) = forked_text branch number head
outcome_text forms takes session branch (Landed commit time said) = landed_text commit time takes (forms.reply said)
outcome_text forms takes session branch (Merged commit) = merged_text commit
outcome_text forms takes session branch (Joined commit) = joined_text commit
outcome_text forms takes session branch (Forwarded commit) = forward_text commit
outcome_text forms takes session branch Same = same_text
outcome_text forms takes session branch (New commit) = new_text commit
outcome_text forms takes session branch (Here commit) = here_text commit
outcome_text forms takes session branch (DroppedAt number head) = dropped_text branch head
outcome_text forms takes session branch (Answered answer) = answer_text (forms.answer answer)
outcome_text forms takes session branch (Refused refusal) = refusal_text branch refusal

-- a line that is no step; of want of memory nothing is told
abbrev pub line_refusal_text : LineRefused → List ℕ
line_refusal_text Syntax = codes "error syntax"
line_refusal_text BadName = codes "error name"
line_refusal_text BadNumber = codes "error number"
line_refusal_text Memory = []

-- a step of a session that has not looked
abbrev pub unseen_text : List ℕ → List ℕ
unseen_text session = codes "error unseen " ++ session

-- a step on sequences, in a store that has none
abbrev pub no_sequences_text : List ℕ
no_sequences_text = codes "error no sequences"

-- a line about a commit of a number that the store has not
abbrev pub unknown_commit_text : ℕ → List ℕ
unknown_commit_text number = codes "error unknown #" ++ decimal number
