use Rattle.std.proofs.Common.{◌≡◌, ◌∙◌, sym, subst, false, Some}
use Rattle.std.specs.Prelude.{Result, Ok, Err, OnOk}
use Rattle.branch_names.specs.Heads.{branch_named, head_of, is_dropped}
use Rattle.branch_history.specs.History.{store_of}
use Rattle.branch_history.proofs.Turns.{look-sees}
use Rattle.store_core.specs.Views.{held}
use Rattle.branch_engine.specs.Engines.{EngineView, Puts, IsLookAt, SeesHead}
use Rattle.branch_engine.proofs.Played.{same-look, never-refused}
use Rattle.branch_engine.proofs.engine.Engine.sees_head.Goals as goal

-- what follows where a call succeeded
on_ok : {E : Type 0} (r : Result (Unit {0}) E) (P Q : Type 0) → OnOk r P → (P → Q) → OnOk r Q
on_ok (Ok done) P Q p f = f p
on_ok (Err error) P Q p f = p

pub unreachable-requires : goal.unreachable-requires
unreachable-requires g c =
    let core = c.self.inside.core in
    let kept = subst (λ (v : EngineView g.row.T-Op.Denot g.row.T-Reply.Denot g.row.D.Denot). is_dropped (store_of v.core.terms.origin v.core.history).branches c.args.branch ≡ false) (sym c.self.view_is) c.requires.kept.1 in
    let named : branch_named (store_of core.terms.origin core.history).branches c.unwrap-name.result.0 ≡ Some c.args.branch = (rw c.unwrap-name.ensures at c.branch-self.ensures.named) kept in
    let sees = look-sees g.T.Mrdt.meaning core.terms core.history c.unwrap-name.result.0 c.args.branch named in
    never-refused c.args.branch (head_of (store_of core.terms.origin core.history).branches c.args.branch) _ (sym sees ∙ (rw c.in-Err-UnknownBranch.field-0-is at c.in-Err-UnknownBranch.ensures.refused).1)

pub returns-in-Ok-clause-sees : goal.returns-in-Ok-clause-sees
returns-in-Ok-clause-sees g c =
    let core = c.self.inside.core in
    let kept = subst (λ (v : EngineView g.row.T-Op.Denot g.row.T-Reply.Denot g.row.D.Denot). is_dropped (store_of v.core.terms.origin v.core.history).branches c.args.branch ≡ false) (sym c.self.view_is) c.requires.kept.1 in
    let seen = c.in-Ok.seen in
    let named : branch_named (store_of core.terms.origin core.history).branches c.unwrap-name.result.0 ≡ Some c.args.branch = (rw c.unwrap-name.ensures at c.branch-self.ensures.named) kept in
    let sees = look-sees g.T.Mrdt.meaning core.terms core.history c.unwrap-name.result.0 c.args.branch named in
    let same = same-look seen.branch seen.head c.args.branch (head_of (store_of core.terms.origin core.history).branches c.args.branch) (sym c.in-Ok.ensures.sees ∙ sees) in
    let at : IsLookAt (held core) c.args.branch seen = record { history = c.in-Ok.ensures.on.0; terms_are = c.in-Ok.ensures.on.1; branch_is = same.0; head_is = same.1 } in
    let here : IsLookAt (held c.args.self.now.core) c.args.branch seen = subst (λ (v : EngineView g.row.T-Op.Denot g.row.T-Reply.Denot g.row.D.Denot). IsLookAt (held v.core) c.args.branch seen) c.self.view_is at in
    on_ok c.sees.result (Puts c.args.self.now.sessions c.sees.new.self.sessions c.args.session.now seen) (SeesHead c.args.self.now c.sees.new.self c.args.session.now c.args.branch) c.sees.ensures.put (λ put. (seen, put, here))
