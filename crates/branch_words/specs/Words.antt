-- The words of kinds and of operations, as the lines of scripts say them.
use Rattle.std.specs.Prelude.{ℕ, List, ◌++◌, codes, decimal}
use Rattle.std.specs.Fmt.{signed_decimal}
use Rattle.branch_doc.specs.declared.plain.Kind.{Kind}
use Rattle.branch_doc.specs.declared.plain.Kind.TheVariants.{Counter, Flag, Lww, Multi, Set, Log, Queue, Sequence}
use Rattle.branch_doc.specs.declared.plain.PlainOp.{PlainOp}
use Rattle.branch_doc.specs.declared.plain.PlainOp.TheVariants.{CounterAdd, CounterReset, FlagEnable, FlagDisable, LwwSet, MultiSet, SetAdd, SetRemove, SetClear, LogAppend, QueueEnqueue, QueueDequeue, SequenceInsert, SequenceDelete}

-- the word of a kind
abbrev pub kind_word : Kind → List ℕ
kind_word Counter = codes "counter"
kind_word Flag = codes "flag"
kind_word Lww = codes "lww"
kind_word Multi = codes "multi"
kind_word Set = codes "set"
kind_word Log = codes "log"
kind_word Queue = codes "queue"
kind_word Sequence = codes "seq"

-- `KIND KEY OPERATION`
abbrev pub on_key : Kind → List ℕ → List ℕ → List ℕ
on_key kind key operation = kind_word kind ++ codes " " ++ key ++ codes " " ++ operation

-- `KIND KEY OPERATION WORD`
abbrev pub with_word : Kind → List ℕ → List ℕ → List ℕ → List ℕ
with_word kind key operation word = on_key kind key operation ++ codes " " ++ word

-- the words of the line that does an operation, behind `do` and its session: each key and payload as it is, byte for
-- byte
abbrev pub op_words : PlainOp → List ℕ
op_words (CounterAdd key amount) = with_word Counter key (codes "add") (signed_decimal amount)
op_words (CounterReset key) = on_key Counter key (codes "reset")
op_words (FlagEnable key) = on_key Flag key (codes "enable")
op_words (FlagDisable key) = on_key Flag key (codes "disable")
op_words (LwwSet key payload) = with_word Lww key (codes "set") payload
op_words (MultiSet key payload) = with_word Multi key (codes "set") payload
op_words (SetAdd key element) = with_word Set key (codes "add") element
op_words (SetRemove key element) = with_word Set key (codes "remove") element
op_words (SetClear key) = on_key Set key (codes "clear")
op_words (LogAppend key payload) = with_word Log key (codes "append") payload
op_words (QueueEnqueue key payload) = with_word Queue key (codes "enqueue") payload
op_words (QueueDequeue key) = on_key Queue key (codes "dequeue")
op_words (SequenceInsert key place payload) =
    with_word Sequence key (codes "insert") (decimal place) ++ codes " " ++ payload
op_words (SequenceDelete key place) = with_word Sequence key (codes "delete") (decimal place)
