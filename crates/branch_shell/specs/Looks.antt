-- What is read of a store and written as a text, without a change of the store.
use Rattle.std.specs.Prelude.{◌≡◌, ◌⊎◌, ℕ, ◌<◌, ◌≤◌, Bool, true, false, List, ◌++◌, codes, decimal, length, Some, None}
use Rattle.std.specs.declared.option.Option.{Option}
use Rattle.std.specs.Option.{option_map}
use Rattle.mrdt_model.specs.Laws.{Meaning}
use Rattle.branch_disk.specs.Disk.{Files}
use Rattle.branch_doc.specs.declared.plain.PlainOp.{PlainOp}
use Rattle.branch_names.specs.Heads.{branch_named, head_of}
use Rattle.branch_history.specs.Commits.{Commit, visible}
use Rattle.branch_history.specs.History.{store_of}
use Rattle.branch_history.specs.Steps.{UnknownBranch}
use Rattle.branch_command.specs.declared.look.At.{At}
use Rattle.branch_command.specs.declared.look.At.TheVariants as at
use Rattle.branch_command.specs.declared.look.Look.{Look}
use Rattle.branch_command.specs.declared.look.Look.TheVariants.{Report, Address, Bundle, Log, Document, Graph}
use Rattle.branch_print.specs.Reports.{report_text}
use Rattle.branch_print.specs.Sent.{stop_text}
use Rattle.branch_print.specs.Texts.{line_end}
use Rattle.branch_tells.specs.Acts.{ArePlainOps}
use Rattle.branch_log.specs.Logs.{log_text}
use Rattle.branch_log.specs.Graphs.{graph_text}
use Rattle.branch_show.specs.Documents.{Answering, document_text}
use Rattle.branch_show.specs.Json.{json_text}
use Rattle.branch_shell.specs.Stores.{Stored, SaysRefused}
use Rattle.branch_shell.specs.Values.{ValueType}
use Rattle.branch_shell.specs.Bundling.{branches_of, address_said, bundle_said, SaysOf}

-- the commits of a store
abbrev pub commits_of : {O R : Type 0} → Stored O R → List (Commit O R)
commits_of store = (store_of store.terms.origin store.history).commits

-- this commit is the place: the head of the branch of a name, or the commit of a number
abbrev pub IsAt : {O R : Type 0} → Stored O R → At → ℕ → Type 0
IsAt store (at.Branch name) n = (number : ℕ) × (branch_named (branches_of store) name ≡ Some number)
    × (n ≡ head_of (branches_of store) number)
IsAt store (at.Commit number) n = (number < length (commits_of store)) × (n ≡ number)

-- the store has no such place
abbrev pub IsNowhere : {O R : Type 0} → Stored O R → At → Type 0
IsNowhere store (at.Branch name) = branch_named (branches_of store) name ≡ None
IsNowhere store (at.Commit number) = length (commits_of store) ≤ number

-- and the text that says so
abbrev pub nowhere_text : At → List ℕ
nowhere_text (at.Branch name) = stop_text 0 (UnknownBranch name)
nowhere_text (at.Commit number) = codes "refused unknown #" ++ decimal number ++ line_end

-- the place that a look is at, if it is not one at the whole store
abbrev pub place_of : Look → Option At
place_of Report = None
place_of (Address named) = Some (at.Branch named.name)
place_of (Bundle sending) = Some (at.Branch sending.branch)
place_of (Log place count) = Some place
place_of (Document place is_json) = Some place
place_of Graph = None

-- what a commit answers to plain queries, over exactly what is visible there; nothing to those of kinds
-- that the type lacks
abbrev pub answers_at : {S O R Q A : Type 0} → ValueType S O R Q A → Stored O R → ℕ → Answering
answers_at of store n query = option_map
    (λ query. of.forms.answer (of.meaning.answer_of (visible (commits_of store) n) query))
    (of.forms.query query)

-- what the commits did that this one reaches, by the plain forms of their operations
abbrev pub IsLog : {S O R Q A : Type 0} → ValueType S O R Q A → Stored O R → ℕ → Option ℕ → List ℕ
    → Type 0
IsLog {S} {O} of store n count text = (plain_op : O → PlainOp) × ArePlainOps of.forms plain_op
    × (text ≡ log_text plain_op of.forms.reply (commits_of store) n count)

-- a document as lines, or as JSON
abbrev pub shown_text : Bool → Answering → List ℕ
shown_text true answers = json_text answers
shown_text false answers = document_text answers

-- the text of a look at this commit, or at the whole store
abbrev pub IsLookText : {S O R Q A : Type 0} → ValueType S O R Q A → (List ℕ → List ℕ)
    → Stored O R → Look → ℕ → List ℕ → Type 0
IsLookText of address store Report n text = text ≡ report_text store.terms.origin store.history
IsLookText of address store (Address named) n text = text ≡ address_said of.meaning address store n
IsLookText of address store (Bundle sending) n text =
    text ≡ bundle_said of.meaning address sending.here store n
IsLookText of address store (Log place count) n text = IsLog of store n count text
IsLookText of address store (Document place is_json) n text =
    text ≡ shown_text is_json (answers_at of store n)
IsLookText of address store Graph n text =
    text ≡ graph_text (store_of store.terms.origin store.history)

-- this commit is the one that a look is at, if it is at one
abbrev pub IsPlaced : {O R : Type 0} → Stored O R → Option At → ℕ → Type 0
IsPlaced store None n = n ≡ 0
IsPlaced store (Some place) n = IsAt store place n

-- the text of a look at a place of the store
abbrev pub TellsLook : {S O R Q A : Type 0} → ValueType S O R Q A → (List ℕ → List ℕ) → Look
    → Stored O R → List ℕ → Type 0
TellsLook of address look store text = (n : ℕ) × IsPlaced store (place_of look) n
    × IsLookText of address store look n text

-- the store has no such place, and the text says so
abbrev pub TellsNowhere : {O R : Type 0} → Look → Stored O R → List ℕ → Type 0
TellsNowhere look store text = (place : At) × (place_of look ≡ Some place) × IsNowhere store place
    × (text ≡ nowhere_text place)

-- the text of a look at the store that opening found
abbrev pub SaysLook : {S O R Q A : Type 0} → ValueType S O R Q A → (List ℕ → List ℕ)
    → Option Files → Look → List ℕ → Type 0
SaysLook of address told look text =
    SaysOf of.kind of.meaning address told (TellsLook of address look) text

-- why nothing is told: no store was opened, or it has no such place
abbrev pub SaysNoLook : {S O R Q A T P X B C : Type 0} → ValueType S O R Q A → Meaning T P X B C
    → (List ℕ → List ℕ) → Option Files → Look → List ℕ → Type 0
SaysNoLook of old address told look text = SaysRefused of.kind of.meaning old address told text
    ⊎ SaysOf of.kind of.meaning address told (TellsNowhere look) text
