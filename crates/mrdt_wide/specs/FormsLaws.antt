-- The laws of the plain forms of a document with sequences, from those of a document.
use Rattle.std.proofs.Common.{◌≡◌, ◌∙◌, ◌↔◌, ℕ, true, false, Option, None, Some, List, refl, sym, ap}
use Rattle.std.specs.Option.{option_map}
use Rattle.mrdt_both.specs.declared.both.Side.TheVariants.{First, Second}
use Rattle.mrdt_map.specs.declared.map.MapQuery.{MapQuery}
use Rattle.mrdt_map.specs.declared.map.MapQuery.TheVariants as map_query
use Rattle.mrdt_map.specs.declared.map.MapAnswer.{MapAnswer}
use Rattle.mrdt_map.specs.declared.map.MapAnswer.TheVariants.{OnValue, OnKeys}
use Rattle.mrdt_sequence.specs.declared.op.SequenceOp.{SequenceOp}
use Rattle.mrdt_sequence.specs.declared.op.SequenceOp.TheVariants.{Insert, Delete}
use Rattle.mrdt_sequence.specs.declared.op.SequenceQuery.{SequenceQuery}
use Rattle.mrdt_sequence.specs.declared.op.SequenceQuery.TheVariants.{Read, Length}
use Rattle.mrdt_sequence.specs.declared.op.SequenceAnswer.{SequenceAnswer}
use Rattle.mrdt_sequence.specs.declared.op.SequenceAnswer.TheVariants.{OnItems, OnLength}
use Rattle.branch_doc.specs.declared.plain.Kind.{Kind}
use Rattle.branch_doc.specs.declared.plain.Kind.TheVariants as kind
use Rattle.branch_doc.specs.declared.plain.PlainOp.{PlainOp}
use Rattle.branch_doc.specs.declared.plain.PlainOp.TheVariants.{CounterAdd, CounterReset, FlagEnable, FlagDisable, LwwSet, MultiSet, SetAdd, SetRemove, SetClear, LogAppend, QueueEnqueue, QueueDequeue, SequenceInsert, SequenceDelete}
use Rattle.branch_doc.specs.declared.plain.PlainQuery.{PlainQuery}
use Rattle.branch_doc.specs.declared.plain.PlainQuery.TheVariants.{CounterValue, FlagIsOn, LwwGet, MultiValues, SetContains, SetMembers, SetSize, LogRead, LogLength, QueuePeek, QueueItems, QueueLength, SequenceRead, SequenceLength, Keys}
use Rattle.branch_doc.specs.declared.plain.PlainReply.{PlainReply}
use Rattle.branch_doc.specs.declared.plain.PlainReply.TheVariants as reply
use Rattle.branch_doc.specs.declared.plain.PlainAnswer.{PlainAnswer}
use Rattle.branch_doc.specs.declared.plain.PlainAnswer.TheVariants as answer
use Rattle.branch_doc.specs.Kinds.{op_kind, query_kind, reply_kind, answer_kind}
use Rattle.branch_doc.specs.Types.{AreNames, AreNamed, AreForms}
use Rattle.branch_doc.specs.Forms.{DocOp, DocQuery, DocReply, DocAnswer, on, doc_has, doc_op, doc_query, plain_reply, plain_answer}
use Rattle.branch_doc.proofs.ThereAndBack.{op_form, op-back, query_form, query-back, there_is, none-exactly, replies-named, answers-named}
use Rattle.mrdt_wide.specs.Wide.{WideOp, WideQuery, WideReply, WideAnswer}
use Rattle.mrdt_wide.specs.Forms.{wide_has, wide_op, wide_query, wide_reply, wide_answer, wide_forms}
use Rattle.mrdt_wide.specs.Elsewhere.{op-elsewhere, query-elsewhere}

-- the plain form of an operation
abbrev sequence_form : List ℕ → SequenceOp → PlainOp
sequence_form key (Insert place payload) = SequenceInsert key place payload
sequence_form key (Delete place) = SequenceDelete key place

abbrev wide_form : WideOp → PlainOp
wide_form (First d) = op_form d
wide_form (Second o) = sequence_form o.key o.operation

-- that of the operation of a plain form, or this one where there is none
abbrev form_or : PlainOp → Option WideOp → PlainOp
form_or p None = p
form_or p (Some w) = wide_form w

op-there : (p : PlainOp) → form_or p (wide_op p) ≡ p
op-there (CounterAdd key amount) = refl
op-there (CounterReset key) = refl
op-there (FlagEnable key) = refl
op-there (FlagDisable key) = refl
op-there (LwwSet key payload) = refl
op-there (MultiSet key payload) = refl
op-there (SetAdd key element) = refl
op-there (SetRemove key element) = refl
op-there (SetClear key) = refl
op-there (LogAppend key payload) = refl
op-there (QueueEnqueue key payload) = refl
op-there (QueueDequeue key) = refl
op-there (SequenceInsert key place payload) = refl
op-there (SequenceDelete key place) = refl

op-named : (p : PlainOp) (w : WideOp) → wide_op p ≡ Some w → wide_form w ≡ p
op-named p w is = sym (ap (form_or p) is) ∙ op-there p

-- an operation of the document is one here
op-of_doc : (p : PlainOp) (d : DocOp) → doc_op p ≡ Some d → wide_op p ≡ Some (First d)
op-of_doc p d is =
    sym (op-elsewhere p (λ key place payload same. cc (sym is ∙ ap doc_op same)) (λ key place same. cc (sym is ∙ ap doc_op same)))
    ∙ ap (option_map First) is

sequence-back : (key : List ℕ) (o : SequenceOp) → wide_op (sequence_form key o) ≡ Some (Second (on key o))
sequence-back key (Insert place payload) = refl
sequence-back key (Delete place) = refl

op-back-wide : (w : WideOp) → wide_op (wide_form w) ≡ Some w
op-back-wide (First d) = op-of_doc (op_form d) d (op-back d)
op-back-wide (Second o) = sequence-back o.key o.operation

op-there_is : (p : PlainOp) → there_is (wide_op p) ≡ true
op-there_is (CounterAdd key amount) = refl
op-there_is (CounterReset key) = refl
op-there_is (FlagEnable key) = refl
op-there_is (FlagDisable key) = refl
op-there_is (LwwSet key payload) = refl
op-there_is (MultiSet key payload) = refl
op-there_is (SetAdd key element) = refl
op-there_is (SetRemove key element) = refl
op-there_is (SetClear key) = refl
op-there_is (LogAppend key payload) = refl
op-there_is (QueueEnqueue key payload) = refl
op-there_is (QueueDequeue key) = refl
op-there_is (SequenceInsert key place payload) = refl
op-there_is (SequenceDelete key place) = refl

ops-named : AreNames wide_op wide_has op_kind
ops-named = record {
  one = λ p q w left right. sym (op-named p w left) ∙ op-named q w right;
  each = λ w. (wide_form w, op-back-wide w);
  lacks = λ p. none-exactly (wide_op p) true (op-there_is p);
}

-- the plain form of a query
abbrev sequence_query_form : MapQuery SequenceQuery → PlainQuery
sequence_query_form (map_query.AtKey key Read) = SequenceRead key
sequence_query_form (map_query.AtKey key Length) = SequenceLength key
sequence_query_form map_query.Keys = Keys kind.Sequence

abbrev wide_query_form : WideQuery → PlainQuery
wide_query_form (First d) = query_form d
wide_query_form (Second q) = sequence_query_form q

-- that of the query of a plain form, or this one where there is none
abbrev query_form_or : PlainQuery → Option WideQuery → PlainQuery
query_form_or p None = p
query_form_or p (Some w) = wide_query_form w

keys-there : (k : Kind) → query_form_or (Keys k) (wide_query (Keys k)) ≡ Keys k
keys-there kind.Counter = refl
keys-there kind.Flag = refl
keys-there kind.Lww = refl
keys-there kind.Multi = refl
keys-there kind.Set = refl
keys-there kind.Log = refl
keys-there kind.Queue = refl
keys-there kind.Sequence = refl

query-there : (p : PlainQuery) → query_form_or p (wide_query p) ≡ p
query-there (CounterValue key) = refl
query-there (FlagIsOn key) = refl
query-there (LwwGet key) = refl
query-there (MultiValues key) = refl
query-there (SetContains key element) = refl
query-there (SetMembers key) = refl
query-there (SetSize key) = refl
query-there (LogRead key) = refl
query-there (LogLength key) = refl
query-there (QueuePeek key) = refl
query-there (QueueItems key) = refl
query-there (QueueLength key) = refl
query-there (SequenceRead key) = refl
query-there (SequenceLength key) = refl
query-there (Keys k) = keys-there k

query-named : (p : PlainQuery) (w : WideQuery) → wide_query p ≡ Some w → wide_query_form w ≡ p
query-named p w is = sym (ap (query_form_or p) is) ∙ query-there p

-- a query of the document is one here
query-of_doc : (p : PlainQuery) (d : DocQuery) → doc_query p ≡ Some d → wide_query p ≡ Some (First d)
query-of_doc p d is =
    sym (query-elsewhere p (λ key same. cc (sym is ∙ ap doc_query same)) (λ key same. cc (sym is ∙ ap doc_query same)) (λ same. cc (sym is ∙ ap doc_query same)))
    ∙ ap (option_map First) is

query-back-wide : (w : WideQuery) → wide_query (wide_query_form w) ≡ Some w
query-back-wide (First d) = query-of_doc (query_form d) d (query-back d)
query-back-wide (Second (map_query.AtKey key Read)) = refl
query-back-wide (Second (map_query.AtKey key Length)) = refl
query-back-wide (Second map_query.Keys) = refl

keys-there_is : (k : Kind) → there_is (wide_query (Keys k)) ≡ true
keys-there_is kind.Counter = refl
keys-there_is kind.Flag = refl
keys-there_is kind.Lww = refl
keys-there_is kind.Multi = refl
keys-there_is kind.Set = refl
keys-there_is kind.Log = refl
keys-there_is kind.Queue = refl
keys-there_is kind.Sequence = refl

query-there_is : (p : PlainQuery) → there_is (wide_query p) ≡ true
query-there_is (CounterValue key) = refl
query-there_is (FlagIsOn key) = refl
query-there_is (LwwGet key) = refl
query-there_is (MultiValues key) = refl
query-there_is (SetContains key element) = refl
query-there_is (SetMembers key) = refl
query-there_is (SetSize key) = refl
query-there_is (LogRead key) = refl
query-there_is (LogLength key) = refl
query-there_is (QueuePeek key) = refl
query-there_is (QueueItems key) = refl
query-there_is (QueueLength key) = refl
query-there_is (SequenceRead key) = refl
query-there_is (SequenceLength key) = refl
query-there_is (Keys k) = keys-there_is k

queries-named : AreNames wide_query wide_has query_kind
queries-named = record {
  one = λ p q w left right. sym (query-named p w left) ∙ query-named q w right;
  each = λ w. (wide_query_form w, query-back-wide w);
  lacks = λ p. none-exactly (wide_query p) true (query-there_is p);
}

-- a document replies nothing of sequences
reply-apart : (d : DocReply) (p : PlainReply) → reply_kind p ≡ kind.Sequence → plain_reply d ≡ p → ⊥
reply-apart d p sequence is =
    let has : true ≡ false = sym (replies-named.only d) ∙ ap (λ q. doc_has (reply_kind q)) is ∙ ap doc_has sequence in cc has

reply-one : (x y : WideReply) → wide_reply x ≡ wide_reply y → x ≡ y
reply-one (First d) (First e) same = ap First (replies-named.one d e same)
reply-one (First d) (Second t) same = absurd (reply-apart d (reply.Sequence t) refl same)
reply-one (Second t) (First d) same = absurd (reply-apart d (reply.Sequence t) refl (sym same))
reply-one (Second t) (Second u) same = cc same

-- a plain reply of the document's kinds is one here
reply-of_doc : (p : PlainReply) → doc_has (reply_kind p) ≡ true → (x : WideReply) × (wide_reply x ≡ p)
reply-of_doc p has = let found = replies-named.each p has in (First found.0, found.1)

reply-each : (p : PlainReply) → wide_has (reply_kind p) ≡ true → (x : WideReply) × (wide_reply x ≡ p)
reply-each (reply.Sequence t) has = (Second t, refl)
reply-each reply.Counter has = reply-of_doc reply.Counter refl
reply-each reply.Flag has = reply-of_doc reply.Flag refl
reply-each reply.Lww has = reply-of_doc reply.Lww refl
reply-each reply.Multi has = reply-of_doc reply.Multi refl
reply-each reply.Set has = reply-of_doc reply.Set refl
reply-each reply.Log has = reply-of_doc reply.Log refl
reply-each reply.QueueEnqueued has = reply-of_doc reply.QueueEnqueued refl
reply-each (reply.QueueTook first) has = reply-of_doc (reply.QueueTook first) refl

replies-named-wide : AreNamed wide_reply wide_has reply_kind
replies-named-wide = record { one = reply-one; each = reply-each; only = λ x. refl }

-- the answer of the map of sequences that a plain form is of, if it is of one
abbrev sequence_answer : PlainAnswer → Option (MapAnswer SequenceAnswer)
sequence_answer (answer.SequenceRead items) = Some (OnValue (OnItems items))
sequence_answer (answer.SequenceLength n) = Some (OnValue (OnLength n))
sequence_answer (answer.Keys kind.Sequence keys) = Some (OnKeys keys)
sequence_answer other = None

sequence-there : (a : MapAnswer SequenceAnswer) → sequence_answer (wide_answer (Second a)) ≡ Some a
sequence-there (OnValue (OnItems items)) = refl
sequence-there (OnValue (OnLength n)) = refl
sequence-there (OnKeys keys) = refl

sequence-kind : (a : MapAnswer SequenceAnswer) → answer_kind (wide_answer (Second a)) ≡ kind.Sequence
sequence-kind (OnValue (OnItems items)) = refl
sequence-kind (OnValue (OnLength n)) = refl
sequence-kind (OnKeys keys) = refl

-- a document answers nothing of sequences
answer-apart : (d : DocAnswer) (p : PlainAnswer) → answer_kind p ≡ kind.Sequence → plain_answer d ≡ p → ⊥
answer-apart d p sequence is =
    let has : true ≡ false = sym (answers-named.only d) ∙ ap (λ q. doc_has (answer_kind q)) is ∙ ap doc_has sequence in cc has

answer-one : (x y : WideAnswer) → wide_answer x ≡ wide_answer y → x ≡ y
answer-one (First d) (First e) same = ap First (answers-named.one d e same)
answer-one (First d) (Second a) same = absurd (answer-apart d (wide_answer (Second a)) (sequence-kind a) same)
answer-one (Second a) (First d) same = absurd (answer-apart d (wide_answer (Second a)) (sequence-kind a) (sym same))
answer-one (Second a) (Second b) same =
    let some : Some a ≡ Some b = sym (sequence-there a) ∙ ap sequence_answer same ∙ sequence-there b in cc some

-- a plain answer of the document's kinds is one here
answer-of_doc : (p : PlainAnswer) → doc_has (answer_kind p) ≡ true → (x : WideAnswer) × (wide_answer x ≡ p)
answer-of_doc p has = let found = answers-named.each p has in (First found.0, found.1)

keys-each : (k : Kind) (keys : List (List ℕ)) → (x : WideAnswer) × (wide_answer x ≡ answer.Keys k keys)
keys-each kind.Sequence keys = (Second (OnKeys keys), refl)
keys-each kind.Counter keys = answer-of_doc (answer.Keys kind.Counter keys) refl
keys-each kind.Flag keys = answer-of_doc (answer.Keys kind.Flag keys) refl
keys-each kind.Lww keys = answer-of_doc (answer.Keys kind.Lww keys) refl
keys-each kind.Multi keys = answer-of_doc (answer.Keys kind.Multi keys) refl
keys-each kind.Set keys = answer-of_doc (answer.Keys kind.Set keys) refl
keys-each kind.Log keys = answer-of_doc (answer.Keys kind.Log keys) refl
keys-each kind.Queue keys = answer-of_doc (answer.Keys kind.Queue keys) refl

answer-each : (p : PlainAnswer) → wide_has (answer_kind p) ≡ true → (x : WideAnswer) × (wide_answer x ≡ p)
answer-each (answer.SequenceRead items) has = (Second (OnValue (OnItems items)), refl)
answer-each (answer.SequenceLength n) has = (Second (OnValue (OnLength n)), refl)
answer-each (answer.Keys k keys) has = keys-each k keys
answer-each (answer.CounterValue n) has = answer-of_doc (answer.CounterValue n) refl
answer-each (answer.FlagIsOn b) has = answer-of_doc (answer.FlagIsOn b) refl
answer-each (answer.LwwGet payload) has = answer-of_doc (answer.LwwGet payload) refl
answer-each (answer.MultiValues payloads) has = answer-of_doc (answer.MultiValues payloads) refl
answer-each (answer.SetContains b) has = answer-of_doc (answer.SetContains b) refl
answer-each (answer.SetMembers members) has = answer-of_doc (answer.SetMembers members) refl
answer-each (answer.SetSize n) has = answer-of_doc (answer.SetSize n) refl
answer-each (answer.LogRead entries) has = answer-of_doc (answer.LogRead entries) refl
answer-each (answer.LogLength n) has = answer-of_doc (answer.LogLength n) refl
answer-each (answer.QueuePeek first) has = answer-of_doc (answer.QueuePeek first) refl
answer-each (answer.QueueItems items) has = answer-of_doc (answer.QueueItems items) refl
answer-each (answer.QueueLength n) has = answer-of_doc (answer.QueueLength n) refl

answers-named-wide : AreNamed wide_answer wide_has answer_kind
answers-named-wide = record { one = answer-one; each = answer-each; only = λ x. refl }

lacks-none : (k : Kind) → wide_has k ≡ false → k ≡ kind.Sequence
lacks-none k lacks = absurd (cc lacks)

pub wide_are_forms : AreForms wide_forms
wide_are_forms = record {
  ops = ops-named;
  queries = queries-named;
  replies = replies-named-wide;
  answers = answers-named-wide;
  sequences = lacks-none;
}
