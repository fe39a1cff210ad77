-- The words of the forms, as tables of what stands behind each word.
use Rattle.std.specs.Prelude.{ℕ, ℤ, bytes_eq, codes, Option, Some, None, Result, Ok, Err, List, [], ◌∷◌, if◌then◌else◌}
use Rattle.branch_doc.specs.declared.plain.Kind.{Kind}
use Rattle.branch_doc.specs.declared.plain.Kind.TheVariants.{Counter, Flag, Lww, Multi, Set, Log, Queue, Sequence}
use Rattle.branch_doc.specs.declared.plain.PlainOp.{PlainOp}
use Rattle.branch_doc.specs.declared.plain.PlainOp.TheVariants.{CounterAdd, CounterReset, FlagEnable, FlagDisable, LwwSet, MultiSet, SetAdd, SetRemove, SetClear, LogAppend, QueueEnqueue, QueueDequeue, SequenceInsert, SequenceDelete}
use Rattle.branch_doc.specs.declared.plain.PlainQuery.{PlainQuery}
use Rattle.branch_doc.specs.declared.plain.PlainQuery.TheVariants.{CounterValue, FlagIsOn, LwwGet, MultiValues, SetContains, SetMembers, SetSize, LogRead, LogLength, QueuePeek, QueueItems, QueueLength, SequenceRead, SequenceLength}
use Rattle.branch_script.specs.declared.step.LineRefused.{LineRefused}
use Rattle.branch_script.specs.declared.step.LineRefused.TheVariants.{BadNumber}
use Rattle.branch_script.specs.Numbers.{integer_of, place_of}

-- what a table has behind a word
abbrev pub behind : {A : Type 0} → List ℕ → List (List ℕ × A) → Option A
behind word [] = None
behind word (row ∷ rows) = if bytes_eq word row.0 then Some row.1 else behind word rows

-- the kind of this name
unfoldable pub kind_named : List ℕ → Option Kind
kind_named word = behind word (
    (codes "counter", Counter) ∷ (codes "flag", Flag) ∷ (codes "lww", Lww) ∷ (codes "multi", Multi)
    ∷ (codes "set", Set) ∷ (codes "log", Log) ∷ (codes "queue", Queue)
    ∷ (codes "seq", Sequence) ∷ [])

-- an amount added to the counter at a key, where there is one
abbrev pub counter_add : List ℕ → Option ℤ → Result PlainOp LineRefused
counter_add key None = Err BadNumber
counter_add key (Some amount) = Ok (CounterAdd key amount)

-- a payload put into the sequence at a key, where there is a place for it
abbrev pub sequence_insert : List ℕ → List ℕ → Option ℕ → Result PlainOp LineRefused
sequence_insert key payload None = Err BadNumber
sequence_insert key payload (Some place) = Ok (SequenceInsert key place payload)

-- an item taken out of the sequence at a key, where there is a place for it
abbrev pub sequence_delete : List ℕ → Option ℕ → Result PlainOp LineRefused
sequence_delete key None = Err BadNumber
sequence_delete key (Some place) = Ok (SequenceDelete key place)

-- the operations on the value of a kind at a key that take no word
abbrev pub operations_at_key : Kind → List ℕ → List (List ℕ × PlainOp)
operations_at_key Counter key = (codes "reset", CounterReset key) ∷ []
operations_at_key Flag key = (codes "enable", FlagEnable key) ∷ (codes "disable", FlagDisable key) ∷ []
operations_at_key Lww key = []
operations_at_key Multi key = []
operations_at_key Set key = (codes "clear", SetClear key) ∷ []
operations_at_key Log key = []
operations_at_key Queue key = (codes "dequeue", QueueDequeue key) ∷ []
operations_at_key Sequence key = []

-- those that take a word
abbrev pub operations_with_word : Kind → List ℕ → List ℕ → List (List ℕ × Result PlainOp LineRefused)
operations_with_word Counter key word = (codes "add", counter_add key (integer_of word)) ∷ []
operations_with_word Flag key word = []
operations_with_word Lww key word = (codes "set", Ok (LwwSet key word)) ∷ []
operations_with_word Multi key word = (codes "set", Ok (MultiSet key word)) ∷ []
operations_with_word Set key word = (codes "add", Ok (SetAdd key word)) ∷ (codes "remove", Ok (SetRemove key word)) ∷ []
operations_with_word Log key word = (codes "append", Ok (LogAppend key word)) ∷ []
operations_with_word Queue key word = (codes "enqueue", Ok (QueueEnqueue key word)) ∷ []
operations_with_word Sequence key word = (codes "delete", sequence_delete key (place_of word)) ∷ []

-- those that take a number and a word
abbrev pub operations_with_number : Kind → List ℕ → List ℕ → List ℕ → List (List ℕ × Result PlainOp LineRefused)
operations_with_number Sequence key number word = (codes "insert", sequence_insert key word (place_of number)) ∷ []
operations_with_number other key number word = []

-- the queries of the value of a kind at a key that take no word
abbrev pub queries_at_key : Kind → List ℕ → List (List ℕ × PlainQuery)
queries_at_key Counter key = (codes "value", CounterValue key) ∷ []
queries_at_key Flag key = (codes "on", FlagIsOn key) ∷ []
queries_at_key Lww key = (codes "get", LwwGet key) ∷ []
queries_at_key Multi key = (codes "values", MultiValues key) ∷ []
queries_at_key Set key = (codes "members", SetMembers key) ∷ (codes "size", SetSize key) ∷ []
queries_at_key Log key = (codes "read", LogRead key) ∷ (codes "length", LogLength key) ∷ []
queries_at_key Queue key = (codes "peek", QueuePeek key) ∷ (codes "items", QueueItems key) ∷ (codes "length", QueueLength key) ∷ []
queries_at_key Sequence key = (codes "read", SequenceRead key) ∷ (codes "length", SequenceLength key) ∷ []

-- those that take a word
abbrev pub queries_with_word : Kind → List ℕ → List ℕ → List (List ℕ × PlainQuery)
queries_with_word Counter key word = []
queries_with_word Flag key word = []
queries_with_word Lww key word = []
queries_with_word Multi key word = []
queries_with_word Set key word = (codes "contains", SetContains key word) ∷ []
queries_with_word Log key word = []
queries_with_word Queue key word = []
queries_with_word Sequence key word = []
