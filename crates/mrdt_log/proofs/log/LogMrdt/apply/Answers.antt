use Rattle.std.proofs.Common.{◌≡◌, ◌∙◌, [], ◌∷◌, refl, subst}
use Rattle.live_set.specs.Entries.{MergesEntries}
use Rattle.live_set.proofs.Rising.{entry_of}
use Rattle.mrdt_model.specs.Executions.{next_event}
use Rattle.mrdt_log.specs.Log.{appends, payload_of}
use Rattle.mrdt_log.proofs.Next.{appends-next}
use Rattle.mrdt_log.proofs.log.LogMrdt.apply.Goals as goal

pub returns-clause-applies : goal.returns-clause-applies
returns-clause-applies c x lawful is after =
    let merged = c.in_ok-with.field-0 in
    let e = next_event x c.args.time c.args.op.now tt in
    let one = subst (λ ks. MergesEntries [] ks (entry_of c.args.time c.in_ok-payload.payload ∷ []) merged) (c.self.view_is ∙ is) c.in_ok-with.ensures.merges in
    let text : c.in_ok-payload.payload ≡ payload_of c.args.op.now = c.in_ok-payload.ensures.text ∙ c.as_slice.ensures.bytes ∙ c.payload.ensures.value in
    let two = subst (λ p. MergesEntries [] (appends x) (entry_of c.args.time p ∷ []) merged) text one in
    (refl, appends-next x e merged after c.in_ok-with.ensures.rising two)
