-- What a document means: a map for each kind, over the events of that kind.
use Rattle.std.specs.Prelude.{ℕ, ℤ, Option, List}
use Rattle.mrdt_model.specs.Laws.{Meaning}
use Rattle.live_set.specs.declared.kept.Kept.{Kept}
use Rattle.mrdt_both.specs.Sides.{both_meaning}
use Rattle.mrdt_counter.specs.Counter.{counter_meaning}
use Rattle.mrdt_flag.specs.Flag.{flag_meaning}
use Rattle.mrdt_log.specs.Log.{log_meaning}
use Rattle.mrdt_map.specs.Keyed.{map_meaning}
use Rattle.mrdt_queue.specs.Queue.{queue_meaning}
use Rattle.mrdt_register.specs.Lww.{lww_meaning}
use Rattle.mrdt_register.specs.Multi.{multi_meaning}
use Rattle.mrdt_set.specs.Set.{set_meaning}
use Rattle.branch_doc.specs.Forms.{DocOp, DocReply, DocQuery, DocAnswer}

-- values by key
abbrev pub Keyed : Type 0 → Type 0
Keyed V = List (List ℕ × V)

-- the state of each kind's map
abbrev pub DocState : Type 0
DocState =
    Keyed (List (Kept ℤ)) × (Keyed (List (Kept (Unit {0}))) × (Keyed (Option (Kept (List ℕ))) × (Keyed (List (Kept (List ℕ)))
    × (Keyed (Keyed (List (Kept (Unit {0})))) × (Keyed (List (Kept (List ℕ))) × Keyed (List (Kept (List ℕ))))))))

abbrev pub document : Meaning DocState DocOp DocReply DocQuery DocAnswer
document =
    both_meaning (map_meaning counter_meaning) (both_meaning (map_meaning flag_meaning) (both_meaning (map_meaning lww_meaning)
    (both_meaning (map_meaning multi_meaning) (both_meaning (map_meaning set_meaning) (both_meaning (map_meaning log_meaning) (map_meaning queue_meaning))))))
