-- The laws of a document, from those of its kinds.
use Rattle.mrdt_model.specs.Laws.{KeepsLaws}
use Rattle.mrdt_both.specs.SidesLaws.{both_laws}
use Rattle.mrdt_counter.specs.Counter.{counter_meaning}
use Rattle.mrdt_counter.specs.CounterLaws.{counter_laws}
use Rattle.mrdt_flag.specs.Flag.{flag_meaning}
use Rattle.mrdt_flag.specs.FlagLaws.{flag_laws}
use Rattle.mrdt_log.specs.Log.{log_meaning}
use Rattle.mrdt_log.specs.LogLaws.{log_laws}
use Rattle.mrdt_map.specs.Keyed.{map_meaning}
use Rattle.mrdt_map.specs.MapLaws.{map_laws}
use Rattle.mrdt_queue.specs.Queue.{queue_meaning}
use Rattle.mrdt_queue.specs.QueueLaws.{queue_laws}
use Rattle.mrdt_register.specs.Lww.{lww_meaning}
use Rattle.mrdt_register.specs.LwwLaws.{lww_laws}
use Rattle.mrdt_register.specs.Multi.{multi_meaning}
use Rattle.mrdt_register.specs.MultiLaws.{multi_laws}
use Rattle.mrdt_set.specs.Set.{set_meaning}
use Rattle.mrdt_set.specs.SetLaws.{set_laws}
use Rattle.branch_doc.specs.Document.{document}

pub document_laws : KeepsLaws document
document_laws =
    both_laws (map_meaning counter_meaning) _ (map_laws counter_meaning counter_laws)
    (both_laws (map_meaning flag_meaning) _ (map_laws flag_meaning flag_laws)
    (both_laws (map_meaning lww_meaning) _ (map_laws lww_meaning lww_laws)
    (both_laws (map_meaning multi_meaning) _ (map_laws multi_meaning multi_laws)
    (both_laws (map_meaning set_meaning) _ (map_laws set_meaning set_laws)
    (both_laws (map_meaning log_meaning) (map_meaning queue_meaning) (map_laws log_meaning log_laws) (map_laws queue_meaning queue_laws))))))
