-- What is of no sequence is of the document.
use Rattle.std.proofs.Common.{◌≡◌, ℕ, List, refl, ap}
use Rattle.std.specs.Option.{option_map}
use Rattle.mrdt_both.specs.declared.both.Side.TheVariants.{First}
use Rattle.branch_doc.specs.declared.plain.Kind.{Kind}
use Rattle.branch_doc.specs.declared.plain.Kind.TheVariants as kind
use Rattle.branch_doc.specs.declared.plain.PlainOp.{PlainOp}
use Rattle.branch_doc.specs.declared.plain.PlainOp.TheVariants.{CounterAdd, CounterReset, FlagEnable, FlagDisable, LwwSet, MultiSet, SetAdd, SetRemove, SetClear, LogAppend, QueueEnqueue, QueueDequeue, SequenceInsert, SequenceDelete}
use Rattle.branch_doc.specs.declared.plain.PlainQuery.{PlainQuery}
use Rattle.branch_doc.specs.declared.plain.PlainQuery.TheVariants.{CounterValue, FlagIsOn, LwwGet, MultiValues, SetContains, SetMembers, SetSize, LogRead, LogLength, QueuePeek, QueueItems, QueueLength, SequenceRead, SequenceLength, Keys}
use Rattle.branch_doc.specs.Forms.{doc_op, doc_query}
use Rattle.mrdt_wide.specs.Forms.{wide_op, wide_query}

pub op-elsewhere : (p : PlainOp) → ((key : List ℕ) (place : ℕ) (payload : List ℕ) → p ≡ SequenceInsert key place payload → ⊥)
    → ((key : List ℕ) (place : ℕ) → p ≡ SequenceDelete key place → ⊥) → option_map First (doc_op p) ≡ wide_op p
op-elsewhere (CounterAdd key amount) inserts deletes = refl
op-elsewhere (CounterReset key) inserts deletes = refl
op-elsewhere (FlagEnable key) inserts deletes = refl
op-elsewhere (FlagDisable key) inserts deletes = refl
op-elsewhere (LwwSet key payload) inserts deletes = refl
op-elsewhere (MultiSet key payload) inserts deletes = refl
op-elsewhere (SetAdd key element) inserts deletes = refl
op-elsewhere (SetRemove key element) inserts deletes = refl
op-elsewhere (SetClear key) inserts deletes = refl
op-elsewhere (LogAppend key payload) inserts deletes = refl
op-elsewhere (QueueEnqueue key payload) inserts deletes = refl
op-elsewhere (QueueDequeue key) inserts deletes = refl
op-elsewhere (SequenceInsert key place payload) inserts deletes = absurd (inserts key place payload refl)
op-elsewhere (SequenceDelete key place) inserts deletes = absurd (deletes key place refl)

pub keys-elsewhere : (k : Kind) → (k ≡ kind.Sequence → ⊥) → option_map First (doc_query (Keys k)) ≡ wide_query (Keys k)
keys-elsewhere kind.Counter other = refl
keys-elsewhere kind.Flag other = refl
keys-elsewhere kind.Lww other = refl
keys-elsewhere kind.Multi other = refl
keys-elsewhere kind.Set other = refl
keys-elsewhere kind.Log other = refl
keys-elsewhere kind.Queue other = refl
keys-elsewhere kind.Sequence other = absurd (other refl)

pub query-elsewhere : (p : PlainQuery) → ((key : List ℕ) → p ≡ SequenceRead key → ⊥) → ((key : List ℕ) → p ≡ SequenceLength key → ⊥)
    → (p ≡ Keys kind.Sequence → ⊥) → option_map First (doc_query p) ≡ wide_query p
query-elsewhere (CounterValue key) reads lengths keys = refl
query-elsewhere (FlagIsOn key) reads lengths keys = refl
query-elsewhere (LwwGet key) reads lengths keys = refl
query-elsewhere (MultiValues key) reads lengths keys = refl
query-elsewhere (SetContains key element) reads lengths keys = refl
query-elsewhere (SetMembers key) reads lengths keys = refl
query-elsewhere (SetSize key) reads lengths keys = refl
query-elsewhere (LogRead key) reads lengths keys = refl
query-elsewhere (LogLength key) reads lengths keys = refl
query-elsewhere (QueuePeek key) reads lengths keys = refl
query-elsewhere (QueueItems key) reads lengths keys = refl
query-elsewhere (QueueLength key) reads lengths keys = refl
query-elsewhere (SequenceRead key) reads lengths keys = absurd (reads key refl)
query-elsewhere (SequenceLength key) reads lengths keys = absurd (lengths key refl)
query-elsewhere (Keys k) reads lengths keys = keys-elsewhere k (λ same. keys (ap Keys same))
