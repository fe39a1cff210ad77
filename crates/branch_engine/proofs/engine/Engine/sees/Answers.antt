use Rattle.std.proofs.Common.{◌≡◌, sym, subst}
use mathlib.Core.List.{IsPrefix}
use Rattle.store_core.specs.Views.{held}
use Rattle.branch_engine.specs.Engines.{EngineView}
use Rattle.branch_engine.proofs.Played.{looks-set}
use Rattle.branch_engine.proofs.engine.Engine.sees.Goals as goal

pub invariant_of-self : goal.invariant_of-self
invariant_of-self g c =
    looks-set (held c.self.inside.core) c.self.inside.sessions.entries c.set_session.new.sessions.entries c.args.session.now c.args.seen c.set_session.result c.self.invariant c.set_session.ensures.put c.set_session.ensures.kept
    (subst (λ (v : EngineView g.row.T-Op.Denot g.row.T-Reply.Denot g.row.D.Denot). IsPrefix c.args.seen.history v.core.history) (sym c.self.view_is) c.requires.history)
    (subst (λ (v : EngineView g.row.T-Op.Denot g.row.T-Reply.Denot g.row.D.Denot). c.args.seen.terms ≡ v.core.terms) (sym c.self.view_is) c.requires.terms)
