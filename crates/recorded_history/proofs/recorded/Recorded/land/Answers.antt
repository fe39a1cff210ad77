-- Behind no pending moves.
use Rattle.std.proofs.Common.{sym, subst}
use Rattle.std.proofs.lemmas.Result.{IfOk-weaker, IfErr-weaker}
use mathlib.Core.List.{IsPrefix}
use Rattle.branch_machine.specs.Fixed.{fix}
use Rattle.recorded_history.specs.Refusals.{LandRefusedAs}
use Rattle.recorded_history.proofs.Pending.{written-alone, leaves-same, makes-alone}
use Rattle.recorded_history.proofs.recorded.Recorded.land.Goals as goal

pub land_more-requires-clause-history : goal.land_more-requires-clause-history
land_more-requires-clause-history g c κs within = subst (IsPrefix c.args.prepared.seen.history) (sym (written-alone c.args.self.now c.requires.settled)) c.requires.history

pub returns-clause-made : goal.returns-clause-made
returns-clause-made g c = IfOk-weaker c.land_more.result _ _ (λ _ is. makes-alone (fix g.T.Mrdt.meaning c.args.self.now.terms g.A.Address.address) c.args.self.now c.land_more.new.self _ _ _ _ _ c.requires.settled is) c.land_more.ensures.made

pub returns-clause-refused : goal.returns-clause-refused
returns-clause-refused g c =
    let r = c.args.self.now in
    let fixed = fix g.T.Mrdt.meaning r.terms g.A.Address.address in
    IfErr-weaker c.land_more.result _ _ (λ e is. subst (λ l. LandRefusedAs fixed c.args.prepared l e) (written-alone r c.requires.settled) is) c.land_more.ensures.refused

pub returns-clause-kept : goal.returns-clause-kept
returns-clause-kept g c = IfErr-weaker c.land_more.result _ _ (λ e is. leaves-same c.args.self.now c.requires.settled c.land_more.new.self e is) c.land_more.ensures.kept
