-- The laws of a document of version 1, from those of its kinds.
use Rattle.mrdt_model.specs.Laws.{KeepsLaws}
use Rattle.mrdt_both.specs.SidesLaws.{both_laws}
use Rattle.mrdt_counter.specs.Sum.{sum_meaning}
use Rattle.mrdt_counter.specs.SumLaws.{sum_laws}
use Rattle.mrdt_flag.specs.Flag.{flag_meaning}
use Rattle.mrdt_flag.specs.FlagLaws.{flag_laws}
use Rattle.mrdt_log.specs.Log.{log_meaning}
use Rattle.mrdt_log.specs.LogLaws.{log_laws}
use Rattle.mrdt_map.specs.Keyed.{map_meaning}
use Rattle.mrdt_map.specs.MapLaws.{map_laws}
use Rattle.mrdt_queue.specs.Queue.{queue_meaning}
use Rattle.mrdt_queue.specs.QueueLaws.{queue_laws}
use Rattle.mrdt_register.specs.Lww.{lww_meaning}
use Rattle.mrdt_register.specs.LwwLaws.{lww_laws}
use Rattle.mrdt_register.specs.Multi.{multi_meaning}
use Rattle.mrdt_register.specs.MultiLaws.{multi_laws}
use Rattle.mrdt_old_doc.specs.Elements.{elements_meaning, elements_laws}
use Rattle.mrdt_old_doc.specs.OldDocument.{old_document}

pub old_document_laws : KeepsLaws old_document
old_document_laws =
    both_laws (map_meaning sum_meaning) _ (map_laws sum_meaning sum_laws)
    (both_laws (map_meaning flag_meaning) _ (map_laws flag_meaning flag_laws)
    (both_laws (map_meaning lww_meaning) _ (map_laws lww_meaning lww_laws)
    (both_laws (map_meaning multi_meaning) _ (map_laws multi_meaning multi_laws)
    (both_laws (map_meaning elements_meaning) _ (map_laws elements_meaning elements_laws)
    (both_laws (map_meaning log_meaning) (map_meaning queue_meaning) (map_laws log_meaning log_laws) (map_laws queue_meaning queue_laws))))))
