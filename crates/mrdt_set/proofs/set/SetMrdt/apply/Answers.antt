use Rattle.std.proofs.Common.{rules, ◌<◌, ◌^◌, ◌∷◌, refl}
use Rattle.mrdt_model.specs.Executions.{next_event}
use Rattle.mrdt_set.proofs.Standing.{next-sound, set-found, applied-at}
use Rattle.mrdt_set.proofs.set.SetMrdt.apply.Goals as goal

pub returns-clause-applies : goal.returns-clause-applies
returns-clause-applies c x lawful is after =
    let w = lawful.well_formed in
    let op = c.args.op.now in
    let t = c.args.time in
    let clock : t.clock < 2 ^ 64 = search rules in
    let origin : t.origin < 2 ^ 32 = search rules in
    let made = c.in_ok-after.field-0 in (
      refl,
      set-found made (next_event x t op tt ∷ x) (next-sound x t op w (clock, origin) after c.in_ok-after.ensures.known) c.in_ok-after.ensures.sorted
          (λ k. applied-at c.args.self.now made x op t k w after is (c.in_ok-after.ensures.times k)),
    )
