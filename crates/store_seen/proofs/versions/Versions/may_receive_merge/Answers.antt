-- The origin, then the length, then the room.
use Rattle.std.proofs.Common.{◌≡◌, ◌<◌, ◌≤◌, true, false, ap, sym, ◌∙◌, subst, IfErr}
use Rattle.std.proofs.lemmas.Result.{on_ok_weaker}
use Rattle.branch_names.specs.Terms.{is_own}
use Rattle.branch_history.specs.Validity.{IsValid}
use Rattle.store_seen.specs.Arrivals.{ReceiveRefusedBy}
use Rattle.store_seen.proofs.Arrived.{merge-own, merge-large, merge-room}
use Rattle.store_seen.proofs.versions.Versions.may_receive_merge.Goals as goal

pub returns-then-is_own-clause-refused : goal.returns-then-is_own-clause-refused
returns-then-is_own-clause-refused g c =
    let laws = (g.met.T.Mrdt g.world.𝓛 g.world.𝓜 g.world.𝓡 ((λ s x. x), (λ x. x), (λ x. x), λ x. x)).laws in
    let m = g.T.Mrdt.meaning in
    let core = c.args.self.now.core in
    let valid = subst (λ v. IsValid m v.core.terms v.core.history) c.self.view_is c.self.invariant.valid in
    let own : is_own core.terms c.args.origin ≡ true = ap (λ v. is_own v.core.terms c.args.origin) (sym c.self.view_is) ∙ sym c.is_own.ensures ∙ c.if-is_own.true in
    merge-own m laws core.terms core.history valid c.args.origin c.args.parents.now own

pub returns-then-size-self-clause-refused : goal.returns-then-size-self-clause-refused
returns-then-size-self-clause-refused g c =
    let laws = (g.met.T.Mrdt g.world.𝓛 g.world.𝓜 g.world.𝓡 ((λ s x. x), (λ x. x), (λ x. x), λ x. x)).laws in
    let m = g.T.Mrdt.meaning in
    let core = c.args.self.now.core in
    let valid = subst (λ v. IsValid m v.core.terms v.core.history) c.self.view_is c.self.invariant.valid in
    let foreign : is_own core.terms c.args.origin ≡ false = ap (λ v. is_own v.core.terms c.args.origin) (sym c.self.view_is) ∙ sym c.is_own.ensures ∙ c.if-is_own.false in
    let large = subst (λ v. v.core.terms.limits.value < c.args.size) c.self.view_is c.if-size-self.true in
    merge-large m laws core.terms core.history valid c.args.origin c.args.parents.now foreign c.args.size c.requires large

pub returns-clause-free : goal.returns-clause-free
returns-clause-free g c =
    let laws = (g.met.T.Mrdt g.world.𝓛 g.world.𝓜 g.world.𝓡 ((λ s x. x), (λ x. x), (λ x. x), λ x. x)).laws in
    let m = g.T.Mrdt.meaning in
    let core = c.args.self.now.core in
    let valid = subst (λ v. IsValid m v.core.terms v.core.history) c.self.view_is c.self.invariant.valid in
    let foreign : is_own core.terms c.args.origin ≡ false = ap (λ v. is_own v.core.terms c.args.origin) (sym c.self.view_is) ∙ sym c.is_own.ensures ∙ c.if-is_own.false in
    let fits = subst (λ v. c.args.size ≤ v.core.terms.limits.value) c.self.view_is c.if-size-self.false in
    on_ok_weaker c.has_room.result (λ none. merge-room m laws core.terms core.history valid c.args.origin c.args.parents.now foreign c.args.size c.requires fits ∙ none) c.has_room.ensures.free

pub returns-clause-refused : goal.returns-clause-refused
returns-clause-refused g c =
    let laws = (g.met.T.Mrdt g.world.𝓛 g.world.𝓜 g.world.𝓡 ((λ s x. x), (λ x. x), (λ x. x), λ x. x)).laws in
    let m = g.T.Mrdt.meaning in
    let core = c.args.self.now.core in
    let valid = subst (λ v. IsValid m v.core.terms v.core.history) c.self.view_is c.self.invariant.valid in
    let foreign : is_own core.terms c.args.origin ≡ false = ap (λ v. is_own v.core.terms c.args.origin) (sym c.self.view_is) ∙ sym c.is_own.ensures ∙ c.if-is_own.false in
    let fits = subst (λ v. c.args.size ≤ v.core.terms.limits.value) c.self.view_is c.if-size-self.false in
    subst (λ o. IfErr c.has_room.result (ReceiveRefusedBy o)) (sym (merge-room m laws core.terms core.history valid c.args.origin c.args.parents.now foreign c.args.size c.requires fits)) c.has_room.ensures.refused
