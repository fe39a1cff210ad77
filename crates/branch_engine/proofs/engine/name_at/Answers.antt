use Rattle.std.proofs.Common.{◌∙◌, sym}
use Rattle.std.specs.Prelude.{slice_get}
use Rattle.branch_history.specs.History.{store_of}
use Rattle.branch_engine.proofs.Drops.{name-found}
use Rattle.branch_engine.proofs.engine.name_at.Goals as goal

pub returns : goal.returns
returns g c =
    let branches = (store_of c.args.core.now.terms.origin c.args.core.now.history).branches in
    name-found (slice_get branches c.args.branch) c.unwrap-name.result (sym c.branch-core.ensures.found ∙ c.unwrap-name.ensures)
