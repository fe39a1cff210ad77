-- Documents may go to another thread and be shared with it. It goes by steps, from the list that has their entries to the product, as no search goes all the way.
use denote.RattleType.{RattleType}
use denote.Builtin.{bool, i128, unit}
use denote.Param.{param}
use denote.Param.Send.{IsSend, IsSync, sendable}
use Rattle.std.proofs.Crossing.{crosses}
use Rattle.mrdt_model.specs.declared.mrdt.Mrdt as mrdt
use Rattle.mrdt_model.specs.contracts.bytes.Bytes as Bytes
use Rattle.mrdt_model.specs.contracts.shared.Shared as Shared
use Rattle.shared_list.proofs.tree.Tree.TheLaws.TheKnot.{crosses as knot}
use Rattle.shared_list.specs.declared.tree.Entry as entry
use Rattle.shared_list.specs.contracts.list.SharedList as SharedList
use Rattle.live_set.specs.declared.payload.Payload as payload
use Rattle.live_set.specs.contracts.live.Live as Live
use Rattle.mrdt_both.specs.contracts.both.Both as Both
use Rattle.mrdt_counter.specs.contracts.counter.Counter as Counter
use Rattle.mrdt_flag.specs.contracts.flag.Flag as Flag
use Rattle.mrdt_log.specs.contracts.log.Log as Log
use Rattle.mrdt_map.specs.contracts.map.Map as Map
use Rattle.mrdt_queue.specs.contracts.queue.Queue as Queue
use Rattle.mrdt_register.specs.contracts.lww.Lww as Lww
use Rattle.mrdt_register.specs.contracts.multi.Multi as Multi
use Rattle.mrdt_set.specs.contracts.set.Set as Set
use Rattle.mrdt_counter.specs.contracts.counter.CounterOp as CounterOp
use Rattle.mrdt_counter.specs.contracts.counter.CounterQuery as CounterQuery
use Rattle.mrdt_counter.specs.contracts.counter.CounterMrdt.TheImpl as CounterMrdt
use Rattle.mrdt_flag.specs.contracts.flag.FlagOp as FlagOp
use Rattle.mrdt_flag.specs.contracts.flag.FlagQuery as FlagQuery
use Rattle.mrdt_flag.specs.contracts.flag.FlagMrdt.TheImpl as FlagMrdt
use Rattle.mrdt_log.specs.contracts.log.LogOp as LogOp
use Rattle.mrdt_log.specs.contracts.log.LogQuery as LogQuery
use Rattle.mrdt_log.specs.contracts.log.LogAnswer as LogAnswer
use Rattle.mrdt_log.specs.contracts.log.LogMrdt.TheImpl as LogMrdt
use Rattle.mrdt_model.specs.contracts.listing.Listing as Listing
use Rattle.mrdt_queue.specs.contracts.op.QueueOp as QueueOp
use Rattle.mrdt_queue.specs.contracts.op.QueueQuery as QueueQuery
use Rattle.mrdt_queue.specs.contracts.op.QueueAnswer as QueueAnswer
use Rattle.mrdt_queue.specs.contracts.op.QueueReply as QueueReply
use Rattle.mrdt_queue.specs.contracts.queue.QueueMrdt.TheImpl as QueueMrdt
use Rattle.mrdt_register.specs.contracts.op.RegisterOp as RegisterOp
use Rattle.mrdt_register.specs.contracts.lww.LwwQuery as LwwQuery
use Rattle.mrdt_register.specs.contracts.lww.LwwMrdt.TheImpl as LwwMrdt
use Rattle.mrdt_register.specs.contracts.multi.MultiQuery as MultiQuery
use Rattle.mrdt_register.specs.contracts.multi.MultiMrdt.TheImpl as MultiMrdt
use Rattle.mrdt_set.specs.contracts.set.SetOp as SetOp
use Rattle.mrdt_set.specs.contracts.set.SetQuery as SetQuery
use Rattle.mrdt_set.specs.contracts.set.SetAnswer as SetAnswer
use Rattle.mrdt_set.specs.contracts.set.SetMrdt.TheImpl as SetMrdt
use Rattle.mrdt_counter.specs.contracts.sum.Sum as Sum
use Rattle.mrdt_counter.specs.contracts.sum.SumOp as SumOp
use Rattle.mrdt_counter.specs.contracts.sum.SumMrdt.TheImpl as SumMrdt
use Rattle.mrdt_model.specs.contracts.time.Time as Time
use Rattle.mrdt_old_doc.specs.contracts.elements.Elements as Elements
use Rattle.mrdt_old_doc.specs.contracts.elements.ElementsOp as ElementsOp
use Rattle.mrdt_old_doc.specs.contracts.elements.ElementsMrdt.TheImpl as ElementsMrdt
use Rattle.mrdt_old_doc.specs.contracts.doc.Doc1 as Doc1
use Rattle.mrdt_sequence.specs.contracts.sequence.Sequence as Sequence
use Rattle.mrdt_sequence.specs.contracts.op.SequenceOp as SequenceOp
use Rattle.mrdt_sequence.specs.contracts.op.SequenceQuery as SequenceQuery
use Rattle.mrdt_sequence.specs.contracts.op.SequenceAnswer as SequenceAnswer
use Rattle.mrdt_sequence.specs.contracts.sequence.SequenceMrdt.TheImpl as SequenceMrdt
use Rattle.mrdt_wide.specs.contracts.wide.Wide as Wide
use Rattle.std.specs.contracts.option.Option as Option
use Rattle.mrdt_doc.specs.contracts.doc.Doc as Doc

module _ (X : RattleType) (e : entry.Ghosts X.Denot) where
  pub List-send : IsSend X → IsSync X → IsSend (SharedList.the_row X e)
  List-send s y = let a : IsSend (param 0 X) = search sendable in let b : IsSync (param 0 X) = search sendable in search (crosses, knot, sendable) depth 60 fits 20000

  pub List-sync : IsSend X → IsSync X → IsSync (SharedList.the_row X e)
  List-sync s y = let a : IsSend (param 0 X) = search sendable in let b : IsSync (param 0 X) = search sendable in search (crosses, knot, sendable) depth 60 fits 20000

module _ (V : RattleType) (p : payload.Ghosts V.Denot) where
  pub Live-send : IsSend V → IsSync V → IsSend (Live.the_row V p)
  Live-send s y = search (sendable, crosses, List-send) depth 20

  pub Live-sync : IsSend V → IsSync V → IsSync (Live.the_row V p)
  Live-sync s y = search (sendable, crosses, List-sync) depth 20

Key-send : IsSend (Shared.the_row Bytes.the_row)
Key-send = search (sendable, crosses) depth 40

Key-sync : IsSync (Shared.the_row Bytes.the_row)
Key-sync = search (sendable, crosses) depth 40

Counter-send : IsSend Counter.the_row
Counter-send = search (sendable, crosses, Live-send) depth 20

Counter-sync : IsSync Counter.the_row
Counter-sync = search (sendable, crosses, Live-sync) depth 20

Flag-send : IsSend Flag.the_row
Flag-send = search (sendable, crosses, Live-send) depth 20

Flag-sync : IsSync Flag.the_row
Flag-sync = search (sendable, crosses, Live-sync) depth 20

Lww-send : IsSend Lww.the_row
Lww-send = let k = Key-send in search (sendable, crosses) depth 60

Lww-sync : IsSync Lww.the_row
Lww-sync = let k = Key-sync in search (sendable, crosses) depth 60

Multi-send : IsSend Multi.the_row
Multi-send = search (sendable, crosses, Live-send) depth 20

Multi-sync : IsSync Multi.the_row
Multi-sync = search (sendable, crosses, Live-sync) depth 20

Set-send : IsSend Set.the_row
Set-send = let k = Key-send in let l = Key-sync in search (sendable, crosses, Live-send, Live-sync, List-send) depth 60

Set-sync : IsSync Set.the_row
Set-sync = let k = Key-send in let l = Key-sync in search (sendable, crosses, Live-send, Live-sync, List-sync) depth 60

Log-send : IsSend Log.the_row
Log-send = search (sendable, crosses, Live-send) depth 20

Log-sync : IsSync Log.the_row
Log-sync = search (sendable, crosses, Live-sync) depth 20

Queue-send : IsSend Queue.the_row
Queue-send = search (sendable, crosses, Live-send) depth 20

Queue-sync : IsSync Queue.the_row
Queue-sync = search (sendable, crosses, Live-sync) depth 20

module _ (T O Q W R : RattleType) (m : mrdt.Ghosts T.Denot O.Denot Q.Denot W.Denot R.Denot) where
  pub Map-send : IsSend T → IsSync T → IsSend (Map.the_row T O Q W R m)
  Map-send s y = let k = Key-send in let l = Key-sync in search (sendable, crosses, List-send) depth 60

  pub Map-sync : IsSend T → IsSync T → IsSync (Map.the_row T O Q W R m)
  Map-sync s y = let k = Key-send in let l = Key-sync in search (sendable, crosses, List-sync) depth 60

module _ (A B : RattleType) where
  pub Both-send : IsSend A → IsSync A → IsSend B → IsSync B → IsSend (Both.the_row A B)
  Both-send sa ya sb yb = search (sendable, crosses) depth 20

  pub Both-sync : IsSend A → IsSync A → IsSend B → IsSync B → IsSync (Both.the_row A B)
  Both-sync sa ya sb yb = search (sendable, crosses) depth 20

abbrev counters : RattleType
counters = Map.the_row Counter.the_row CounterOp.the_row CounterQuery.the_row i128 unit CounterMrdt.ghosts

counters_cross : IsSend counters × IsSync counters
counters_cross = (Map-send Counter.the_row CounterOp.the_row CounterQuery.the_row i128 unit CounterMrdt.ghosts Counter-send Counter-sync, Map-sync Counter.the_row CounterOp.the_row CounterQuery.the_row i128 unit CounterMrdt.ghosts Counter-send Counter-sync)

abbrev flags : RattleType
flags = Map.the_row Flag.the_row FlagOp.the_row FlagQuery.the_row bool unit FlagMrdt.ghosts

flags_cross : IsSend flags × IsSync flags
flags_cross = (Map-send Flag.the_row FlagOp.the_row FlagQuery.the_row bool unit FlagMrdt.ghosts Flag-send Flag-sync, Map-sync Flag.the_row FlagOp.the_row FlagQuery.the_row bool unit FlagMrdt.ghosts Flag-send Flag-sync)

abbrev lasts : RattleType
lasts = Map.the_row Lww.the_row RegisterOp.the_row LwwQuery.the_row (Option.the_row Bytes.the_row) unit LwwMrdt.ghosts

lasts_cross : IsSend lasts × IsSync lasts
lasts_cross = (Map-send Lww.the_row RegisterOp.the_row LwwQuery.the_row (Option.the_row Bytes.the_row) unit LwwMrdt.ghosts Lww-send Lww-sync, Map-sync Lww.the_row RegisterOp.the_row LwwQuery.the_row (Option.the_row Bytes.the_row) unit LwwMrdt.ghosts Lww-send Lww-sync)

abbrev multis : RattleType
multis = Map.the_row Multi.the_row RegisterOp.the_row MultiQuery.the_row (Listing.the_row Bytes.the_row) unit MultiMrdt.ghosts

multis_cross : IsSend multis × IsSync multis
multis_cross = (Map-send Multi.the_row RegisterOp.the_row MultiQuery.the_row (Listing.the_row Bytes.the_row) unit MultiMrdt.ghosts Multi-send Multi-sync, Map-sync Multi.the_row RegisterOp.the_row MultiQuery.the_row (Listing.the_row Bytes.the_row) unit MultiMrdt.ghosts Multi-send Multi-sync)

abbrev sets : RattleType
sets = Map.the_row Set.the_row SetOp.the_row SetQuery.the_row SetAnswer.the_row unit SetMrdt.ghosts

sets_cross : IsSend sets × IsSync sets
sets_cross = (Map-send Set.the_row SetOp.the_row SetQuery.the_row SetAnswer.the_row unit SetMrdt.ghosts Set-send Set-sync, Map-sync Set.the_row SetOp.the_row SetQuery.the_row SetAnswer.the_row unit SetMrdt.ghosts Set-send Set-sync)

abbrev logs : RattleType
logs = Map.the_row Log.the_row LogOp.the_row LogQuery.the_row LogAnswer.the_row unit LogMrdt.ghosts

logs_cross : IsSend logs × IsSync logs
logs_cross = (Map-send Log.the_row LogOp.the_row LogQuery.the_row LogAnswer.the_row unit LogMrdt.ghosts Log-send Log-sync, Map-sync Log.the_row LogOp.the_row LogQuery.the_row LogAnswer.the_row unit LogMrdt.ghosts Log-send Log-sync)

abbrev queues : RattleType
queues = Map.the_row Queue.the_row QueueOp.the_row QueueQuery.the_row QueueAnswer.the_row QueueReply.the_row QueueMrdt.ghosts

queues_cross : IsSend queues × IsSync queues
queues_cross = (Map-send Queue.the_row QueueOp.the_row QueueQuery.the_row QueueAnswer.the_row QueueReply.the_row QueueMrdt.ghosts Queue-send Queue-sync, Map-sync Queue.the_row QueueOp.the_row QueueQuery.the_row QueueAnswer.the_row QueueReply.the_row QueueMrdt.ghosts Queue-send Queue-sync)

both_of : (A B : RattleType) → IsSend A × IsSync A → IsSend B × IsSync B → IsSend (Both.the_row A B) × IsSync (Both.the_row A B)
both_of A B a b = (Both-send A B a.0 a.1 b.0 b.1, Both-sync A B a.0 a.1 b.0 b.1)

product : IsSend (Both.the_row counters (Both.the_row flags (Both.the_row lasts (Both.the_row multis (Both.the_row sets (Both.the_row logs queues))))))
    × IsSync (Both.the_row counters (Both.the_row flags (Both.the_row lasts (Both.the_row multis (Both.the_row sets (Both.the_row logs queues))))))
product = both_of _ _ counters_cross (both_of _ _ flags_cross (both_of _ _ lasts_cross (both_of _ _ multis_cross (both_of _ _ sets_cross (both_of _ _ logs_cross queues_cross)))))

pub Doc-send : IsSend Doc.the_row
Doc-send = let p = product.0 in search sendable depth 20

pub Doc-sync : IsSync Doc.the_row
Doc-sync = let p = product.1 in search sendable depth 20

Sequence-send : IsSend Sequence.the_row
Sequence-send = let k = Key-send in let l = Key-sync in search (sendable, crosses, List-send) depth 60

Sequence-sync : IsSync Sequence.the_row
Sequence-sync = let k = Key-send in let l = Key-sync in search (sendable, crosses, List-sync) depth 60

abbrev sequences : RattleType
sequences = Map.the_row Sequence.the_row SequenceOp.the_row SequenceQuery.the_row SequenceAnswer.the_row (Option.the_row Time.the_row) SequenceMrdt.ghosts

sequences_cross : IsSend sequences × IsSync sequences
sequences_cross = (Map-send Sequence.the_row SequenceOp.the_row SequenceQuery.the_row SequenceAnswer.the_row (Option.the_row Time.the_row) SequenceMrdt.ghosts Sequence-send Sequence-sync, Map-sync Sequence.the_row SequenceOp.the_row SequenceQuery.the_row SequenceAnswer.the_row (Option.the_row Time.the_row) SequenceMrdt.ghosts Sequence-send Sequence-sync)

wide_product : IsSend (Both.the_row Doc.the_row sequences) × IsSync (Both.the_row Doc.the_row sequences)
wide_product = both_of _ _ (Doc-send, Doc-sync) sequences_cross

pub Wide-send : IsSend Wide.the_row
Wide-send = let p = wide_product.0 in search sendable depth 20

pub Wide-sync : IsSync Wide.the_row
Wide-sync = let p = wide_product.1 in search sendable depth 20

-- the document of version 1
Sum-send : IsSend Sum.the_row
Sum-send = search (sendable, crosses) depth 20

Sum-sync : IsSync Sum.the_row
Sum-sync = search (sendable, crosses) depth 20

Elements-send : IsSend Elements.the_row
Elements-send = let s = Set-send in search sendable depth 20

Elements-sync : IsSync Elements.the_row
Elements-sync = let s = Set-sync in search sendable depth 20

abbrev sums : RattleType
sums = Map.the_row Sum.the_row SumOp.the_row CounterQuery.the_row i128 unit SumMrdt.ghosts

sums_cross : IsSend sums × IsSync sums
sums_cross = (Map-send Sum.the_row SumOp.the_row CounterQuery.the_row i128 unit SumMrdt.ghosts Sum-send Sum-sync, Map-sync Sum.the_row SumOp.the_row CounterQuery.the_row i128 unit SumMrdt.ghosts Sum-send Sum-sync)

abbrev elements : RattleType
elements = Map.the_row Elements.the_row ElementsOp.the_row SetQuery.the_row SetAnswer.the_row unit ElementsMrdt.ghosts

elements_cross : IsSend elements × IsSync elements
elements_cross = (Map-send Elements.the_row ElementsOp.the_row SetQuery.the_row SetAnswer.the_row unit ElementsMrdt.ghosts Elements-send Elements-sync, Map-sync Elements.the_row ElementsOp.the_row SetQuery.the_row SetAnswer.the_row unit ElementsMrdt.ghosts Elements-send Elements-sync)

old_product : IsSend (Both.the_row sums (Both.the_row flags (Both.the_row lasts (Both.the_row multis (Both.the_row elements (Both.the_row logs queues))))))
    × IsSync (Both.the_row sums (Both.the_row flags (Both.the_row lasts (Both.the_row multis (Both.the_row elements (Both.the_row logs queues))))))
old_product = both_of _ _ sums_cross (both_of _ _ flags_cross (both_of _ _ lasts_cross (both_of _ _ multis_cross (both_of _ _ elements_cross (both_of _ _ logs_cross queues_cross)))))

pub Doc1-send : IsSend Doc1.the_row
Doc1-send = let p = old_product.0 in search sendable depth 20

pub Doc1-sync : IsSync Doc1.the_row
Doc1-sync = let p = old_product.1 in search sendable depth 20
