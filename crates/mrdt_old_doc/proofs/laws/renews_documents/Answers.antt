use Rattle.mrdt_renewal.specs.Laws.{renews-itself, renews-through}
use Rattle.mrdt_both.specs.Sides.{both_meaning}
use Rattle.mrdt_counter.specs.Counter.{counter_meaning}
use Rattle.mrdt_counter.specs.Sum.{sum_meaning}
use Rattle.mrdt_flag.specs.Flag.{flag_meaning}
use Rattle.mrdt_log.specs.Log.{log_meaning}
use Rattle.mrdt_map.specs.Keyed.{map_meaning}
use Rattle.mrdt_queue.specs.Queue.{queue_meaning}
use Rattle.mrdt_register.specs.Lww.{lww_meaning}
use Rattle.mrdt_register.specs.Multi.{multi_meaning}
use Rattle.mrdt_set.specs.Set.{set_meaning}
use Rattle.mrdt_old_doc.specs.Elements.{renewed_elements_op, IsOpSpelling, elements_meaning}
use Rattle.mrdt_old_doc.specs.OldDocument.{renewed_sum_op, renewed_on_key, renewed_side, unchanged}
use Rattle.mrdt_old_doc.proofs.SumsRenewed.{renews_sum}
use Rattle.mrdt_old_doc.proofs.MapsRenewed.{renews_map}
use Rattle.mrdt_old_doc.proofs.SidesRenewed.{renews_both}
use Rattle.mrdt_old_doc.proofs.laws.renews_documents.Goals as goal

pub returns : goal.returns
returns c =
    renews_both (map_meaning sum_meaning) (map_meaning counter_meaning) (renewed_on_key renewed_sum_op) (renews_map sum_meaning counter_meaning renewed_sum_op renews_sum) _ _ _
    (renews_both (map_meaning flag_meaning) (map_meaning flag_meaning) unchanged (renews-itself (map_meaning flag_meaning)) _ _ _
    (renews_both (map_meaning lww_meaning) (map_meaning lww_meaning) unchanged (renews-itself (map_meaning lww_meaning)) _ _ _
    (renews_both (map_meaning multi_meaning) (map_meaning multi_meaning) unchanged (renews-itself (map_meaning multi_meaning)) _ _ _
    (renews_both (map_meaning elements_meaning) (map_meaning set_meaning) (renewed_on_key renewed_elements_op) (renews_map elements_meaning set_meaning renewed_elements_op (renews-through set_meaning renewed_elements_op IsOpSpelling)) _ _ _
    (renews-itself (both_meaning (map_meaning log_meaning) (map_meaning queue_meaning)))))))
