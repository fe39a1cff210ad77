use Rattle.std.proofs.Common.{◌∙◌, Some, refl, sym, ap}
use Rattle.mrdt_model.specs.Executions.{next_event}
use Rattle.live_set.proofs.Rising.{entry_of}
use Rattle.mrdt_register.specs.Tops.{latest-next}
use Rattle.mrdt_register.proofs.lww.LwwMrdt.apply.Goals as goal

pub returns-clause-applies : goal.returns-clause-applies
returns-clause-applies c x lawful is after =
    (refl, ap (λ p. Some (entry_of c.args.time p)) c.in_ok-payload.ensures.value ∙ sym (latest-next x (next_event x c.args.time c.args.op.now tt) after))
