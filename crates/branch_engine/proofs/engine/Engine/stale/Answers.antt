use Rattle.std.proofs.Common.{◌≡◌, ◌++◌, ◌∙◌, sym, subst}
use Rattle.std.specs.Prelude.{slice_get}
use Rattle.std.specs.Result.{OnErr}
use Rattle.mrdt_model.specs.Spelled.{AppendsPart}
use Rattle.branch_names.specs.Heads.{name_of}
use Rattle.branch_history.specs.History.{store_of}
use Rattle.branch_history.specs.Steps.{Stale}
use Rattle.branch_print.specs.Texts.{refusal_text, line_end}
use Rattle.branch_engine.specs.Engines.{EngineView}
use Rattle.branch_engine.proofs.Drops.{name-found}
use Rattle.branch_engine.proofs.engine.Engine.stale.Goals as goal

pub returns-clause-err : goal.returns-clause-err
returns-clause-err g c =
    let branches = (store_of c.self.inside.core.terms.origin c.self.inside.core.history).branches in
    let out = c.args.out.now.items in
    let out' = c.put_stale.new.out.items in
    let name : c.unwrap-name.result.0 ≡ name_of branches c.args.branch = name-found (slice_get branches c.args.branch) c.unwrap-name.result (sym c.branch-self.ensures.found ∙ c.unwrap-name.ensures) in
    subst (λ (v : EngineView g.row.T-Op.Denot g.row.T-Reply.Denot g.row.D.Denot). OnErr c.put_stale.result (AppendsPart out out' (refusal_text (name_of (store_of v.core.terms.origin v.core.history).branches c.args.branch) (Stale c.args.newest) ++ line_end))) c.self.view_is
    (subst (λ n. OnErr c.put_stale.result (AppendsPart out out' (refusal_text n (Stale c.args.newest) ++ line_end))) name c.put_stale.ensures.err)
