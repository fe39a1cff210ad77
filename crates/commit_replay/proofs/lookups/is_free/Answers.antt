-- A look sees a branch of the name, or there is none.
use Rattle.std.proofs.Common.{◌≡◌, ◌↔◌, IsTrue, IfOk, refl, ◌∙◌, sym, subst, Some, None}
use Rattle.branch_names.specs.Heads.{branch_named}
use Rattle.branch_history.specs.History.{store_of}
use Rattle.store_seen.specs.Turns.{LookRefusedAs}
use Rattle.recorded_history.specs.Views.{core_of}
use Rattle.commit_replay.proofs.Looked.{look-seen, look-unseen}
use Rattle.commit_replay.proofs.lookups.is_free.Goals as goal
use Rattle.commit_replay.proofs.lookups.is_free.Goals.{in-Ok, in-Err-UnknownBranch, in-Err-Memory}

pub returns : goal.returns
returns g c =
    let r = c.args.recorded.now in
    let named = branch_named (store_of r.terms.origin r.written).branches c.args.name.now in
    elim c.match-look.branch [
      | in-Ok w ↦ subst (λ x. IfOk x (λ free. IsTrue free ↔ (named ≡ None))) (sym w.result-is) (
        (λ t. cc t),
        λ none.
            let seen = look-seen g.T.Mrdt.meaning r.terms r.written c.args.name.now w.in-Ok.field-0.branch w.in-Ok.field-0.head w.in-Ok.ensures.sees in
            let e : Some w.in-Ok.field-0.branch ≡ None = sym seen.0 ∙ none in
            cc e,
      )
      | in-Err-UnknownBranch w ↦ subst (λ x. IfOk x (λ free. IsTrue free ↔ (named ≡ None))) (sym w.result-is)
          (let refused = subst (LookRefusedAs g.T.Mrdt.meaning (core_of r) c.args.name.now) w.in-Err-UnknownBranch.field-0-is w.in-Err-UnknownBranch.ensures.refused in
          let none = look-unseen g.T.Mrdt.meaning r.terms r.written c.args.name.now c.args.name.now refused.1 in
          ((λ t. none), λ is. refl))
      | in-Err-Memory w ↦ subst (λ x. IfOk x (λ free. IsTrue free ↔ (named ≡ None))) (sym w.result-is) tt
    ]
