-- The text of a document: of each of its keys what it answers.
use Rattle.std.specs.Prelude.{ℕ, Option, None, Some, List, [], ◌∷◌, ◌++◌, codes}
use Rattle.std.specs.List.{flat_map}
use Rattle.branch_doc.specs.declared.plain.Kind.{Kind}
use Rattle.branch_doc.specs.declared.plain.Kind.TheVariants as kind
use Rattle.branch_doc.specs.declared.plain.PlainQuery.{PlainQuery}
use Rattle.branch_doc.specs.declared.plain.PlainQuery.TheVariants.{CounterValue, FlagIsOn, LwwGet, MultiValues, SetMembers, LogRead, QueueItems, SequenceRead, Keys}
use Rattle.branch_doc.specs.declared.plain.PlainAnswer.{PlainAnswer}
use Rattle.branch_doc.specs.declared.plain.PlainAnswer.TheVariants as answer
use Rattle.branch_print.specs.Texts.{answer_text, line_end}
use Rattle.branch_words.specs.Words.{kind_word}

-- what a document answers to queries: nothing to those of kinds that it lacks
abbrev pub Answering : Type 0
Answering = PlainQuery → Option PlainAnswer

-- all kinds, in the order of the text
abbrev pub all_kinds : List Kind
all_kinds = kind.Counter ∷ kind.Flag ∷ kind.Lww ∷ kind.Multi ∷ kind.Set ∷ kind.Log ∷ kind.Queue ∷ kind.Sequence ∷ []

-- the query that asks for all that is at a key
abbrev pub whole_query : Kind → List ℕ → PlainQuery
whole_query kind.Counter key = CounterValue key
whole_query kind.Flag key = FlagIsOn key
whole_query kind.Lww key = LwwGet key
whole_query kind.Multi key = MultiValues key
whole_query kind.Set key = SetMembers key
whole_query kind.Log key = LogRead key
whole_query kind.Queue key = QueueItems key
whole_query kind.Sequence key = SequenceRead key

-- the keys that an answer lists
abbrev pub keys_in : Option PlainAnswer → List (List ℕ)
keys_in (Some (answer.Keys kind keys)) = keys
keys_in other = []

-- the keys of a kind that operations have touched, in byte order
abbrev pub keys_of : Answering → Kind → List (List ℕ)
keys_of answers k = keys_in (answers (Keys k))

-- the text of an answer, where there is one
abbrev pub words_of : Option PlainAnswer → List ℕ
words_of None = []
words_of (Some given) = answer_text given

-- `KIND KEY ANSWER`
abbrev pub key_line : Answering → Kind → List ℕ → List ℕ
key_line answers k key =
    kind_word k ++ codes " " ++ key ++ codes " " ++ words_of (answers (whole_query k key)) ++ line_end

-- a line for each key of a kind
abbrev pub kind_lines : Answering → Kind → List ℕ
kind_lines answers k = flat_map (key_line answers k) (keys_of answers k)

-- a line for each key of each kind
unfoldable pub document_text : Answering → List ℕ
document_text answers = flat_map (kind_lines answers) all_kinds
