-- The origin, the time, the clock, the length, then the room.
use Rattle.std.proofs.Common.{◌≡◌, ◌<◌, ◌≤◌, ℕ, ◌+◌, true, false, Some, ap, sym, ◌∙◌, subst, IfErr}
use Rattle.std.proofs.lemmas.Result.{on_ok_weaker}
use Rattle.branch_names.specs.Terms.{is_own}
use Rattle.branch_history.specs.Commits.{clock_of}
use Rattle.branch_history.specs.History.{store_of}
use Rattle.branch_history.specs.Steps as machine
use Rattle.branch_history.specs.Validity.{IsValid}
use Rattle.store_seen.specs.Arrivals.{ReceiveRefusedBy}
use Rattle.store_seen.specs.Times.{received_at}
use Rattle.store_seen.proofs.Arrived.{operation-own, operation-clash, operation-late, operation-large, operation-room}
use Rattle.store_seen.proofs.versions.Versions.may_receive_operation.Goals as goal

pub returns-then-is_own-clause-refused : goal.returns-then-is_own-clause-refused
returns-then-is_own-clause-refused g c =
    let laws = (g.met.T.Mrdt g.world.𝓛 g.world.𝓜 g.world.𝓡 ((λ s x. x), (λ x. x), (λ x. x), λ x. x)).laws in
    let m = g.T.Mrdt.meaning in
    let core = c.args.self.now.core in
    let valid = subst (λ v. IsValid m v.core.terms v.core.history) c.self.view_is c.self.invariant.valid in
    let own : is_own core.terms c.args.origin ≡ true = ap (λ v. is_own v.core.terms c.args.origin) (sym c.self.view_is) ∙ sym c.is_own.ensures ∙ c.if-is_own.true in
    operation-own m laws core.terms core.history valid c.args.origin c.args.parent c.args.op.now own

pub returns-in-Some-clause-refused : goal.returns-in-Some-clause-refused
returns-in-Some-clause-refused g c =
    let laws = (g.met.T.Mrdt g.world.𝓛 g.world.𝓜 g.world.𝓡 ((λ s x. x), (λ x. x), (λ x. x), λ x. x)).laws in
    let m = g.T.Mrdt.meaning in
    let core = c.args.self.now.core in
    let valid = subst (λ v. IsValid m v.core.terms v.core.history) c.self.view_is c.self.invariant.valid in
    let commits = (store_of core.terms.origin core.history).commits in
    let clock : c.clock_of-clock.result ≡ clock_of commits c.args.parent = c.clock_of-clock.ensures.clock in
    let foreign : is_own core.terms c.args.origin ≡ false = ap (λ v. is_own v.core.terms c.args.origin) (sym c.self.view_is) ∙ sym c.is_own.ensures ∙ c.if-is_own.false in
    let look : received_at core.history (clock_of commits c.args.parent + 1, c.args.origin) ≡ c.received_at.result =
    ap (λ v. received_at v.core.history (clock_of commits c.args.parent + 1, c.args.origin)) (sym c.self.view_is) ∙ ap (λ k. received_at c.self.inside.moves.items (k + 1, c.args.origin)) (sym clock) ∙ sym c.received_at.ensures in
    operation-clash m laws core.terms core.history valid c.args.origin c.args.parent c.args.op.now foreign c.in-Some.number (look ∙ c.in-Some.is)

pub returns-then-clock-self-clause-refused : goal.returns-then-clock-self-clause-refused
returns-then-clock-self-clause-refused g c =
    let laws = (g.met.T.Mrdt g.world.𝓛 g.world.𝓜 g.world.𝓡 ((λ s x. x), (λ x. x), (λ x. x), λ x. x)).laws in
    let m = g.T.Mrdt.meaning in
    let core = c.args.self.now.core in
    let valid = subst (λ v. IsValid m v.core.terms v.core.history) c.self.view_is c.self.invariant.valid in
    let commits = (store_of core.terms.origin core.history).commits in
    let clock : c.clock_of-clock.result ≡ clock_of commits c.args.parent = c.clock_of-clock.ensures.clock in
    let foreign : is_own core.terms c.args.origin ≡ false = ap (λ v. is_own v.core.terms c.args.origin) (sym c.self.view_is) ∙ sym c.is_own.ensures ∙ c.if-is_own.false in
    let look : received_at core.history (clock_of commits c.args.parent + 1, c.args.origin) ≡ c.received_at.result =
    ap (λ v. received_at v.core.history (clock_of commits c.args.parent + 1, c.args.origin)) (sym c.self.view_is) ∙ ap (λ k. received_at c.self.inside.moves.items (k + 1, c.args.origin)) (sym clock) ∙ sym c.received_at.ensures in
    let free = look ∙ c.in_default.is in
    let late = subst (λ v. v.core.terms.limits.clock ≤ clock_of commits c.args.parent) c.self.view_is (subst (λ (k : ℕ). c.self.inside.terms.limits.clock ≤ k) clock c.if-clock-self.true) in
    operation-late m laws core.terms core.history valid c.args.origin c.args.parent c.args.op.now foreign free late ∙ ap (λ k. Some (machine.Exhausted k)) (sym clock)

pub returns-then-size-self-clause-refused : goal.returns-then-size-self-clause-refused
returns-then-size-self-clause-refused g c =
    let laws = (g.met.T.Mrdt g.world.𝓛 g.world.𝓜 g.world.𝓡 ((λ s x. x), (λ x. x), (λ x. x), λ x. x)).laws in
    let m = g.T.Mrdt.meaning in
    let core = c.args.self.now.core in
    let valid = subst (λ v. IsValid m v.core.terms v.core.history) c.self.view_is c.self.invariant.valid in
    let commits = (store_of core.terms.origin core.history).commits in
    let clock : c.clock_of-clock.result ≡ clock_of commits c.args.parent = c.clock_of-clock.ensures.clock in
    let foreign : is_own core.terms c.args.origin ≡ false = ap (λ v. is_own v.core.terms c.args.origin) (sym c.self.view_is) ∙ sym c.is_own.ensures ∙ c.if-is_own.false in
    let look : received_at core.history (clock_of commits c.args.parent + 1, c.args.origin) ≡ c.received_at.result =
    ap (λ v. received_at v.core.history (clock_of commits c.args.parent + 1, c.args.origin)) (sym c.self.view_is) ∙ ap (λ k. received_at c.self.inside.moves.items (k + 1, c.args.origin)) (sym clock) ∙ sym c.received_at.ensures in
    let free = look ∙ c.in_default.is in
    let low = subst (λ v. clock_of commits c.args.parent < v.core.terms.limits.clock) c.self.view_is (subst (λ (k : ℕ). k < c.self.inside.terms.limits.clock) clock c.if-clock-self.false) in
    let large = subst (λ v. v.core.terms.limits.value < c.args.size) c.self.view_is c.if-size-self.true in
    operation-large m laws core.terms core.history valid c.args.origin c.args.parent c.args.op.now foreign free low (subst (λ (k : ℕ). core.terms.limits.value < k) c.requires.sized large) ∙ ap (λ k. Some (machine.ValueTooLarge k)) (sym c.requires.sized)

pub returns-clause-free : goal.returns-clause-free
returns-clause-free g c =
    let laws = (g.met.T.Mrdt g.world.𝓛 g.world.𝓜 g.world.𝓡 ((λ s x. x), (λ x. x), (λ x. x), λ x. x)).laws in
    let m = g.T.Mrdt.meaning in
    let core = c.args.self.now.core in
    let valid = subst (λ v. IsValid m v.core.terms v.core.history) c.self.view_is c.self.invariant.valid in
    let commits = (store_of core.terms.origin core.history).commits in
    let clock : c.clock_of-clock.result ≡ clock_of commits c.args.parent = c.clock_of-clock.ensures.clock in
    let foreign : is_own core.terms c.args.origin ≡ false = ap (λ v. is_own v.core.terms c.args.origin) (sym c.self.view_is) ∙ sym c.is_own.ensures ∙ c.if-is_own.false in
    let look : received_at core.history (clock_of commits c.args.parent + 1, c.args.origin) ≡ c.received_at.result =
    ap (λ v. received_at v.core.history (clock_of commits c.args.parent + 1, c.args.origin)) (sym c.self.view_is) ∙ ap (λ k. received_at c.self.inside.moves.items (k + 1, c.args.origin)) (sym clock) ∙ sym c.received_at.ensures in
    let free = look ∙ c.in_default.is in
    let low = subst (λ v. clock_of commits c.args.parent < v.core.terms.limits.clock) c.self.view_is (subst (λ (k : ℕ). k < c.self.inside.terms.limits.clock) clock c.if-clock-self.false) in
    let fits = subst (λ v. c.args.size ≤ v.core.terms.limits.value) c.self.view_is c.if-size-self.false in
    let short = subst (λ (k : ℕ). k ≤ core.terms.limits.value) c.requires.sized fits in
    on_ok_weaker c.has_room.result (λ none. operation-room m laws core.terms core.history valid c.args.origin c.args.parent c.args.op.now foreign free low short ∙ none) c.has_room.ensures.free

pub returns-clause-refused : goal.returns-clause-refused
returns-clause-refused g c =
    let laws = (g.met.T.Mrdt g.world.𝓛 g.world.𝓜 g.world.𝓡 ((λ s x. x), (λ x. x), (λ x. x), λ x. x)).laws in
    let m = g.T.Mrdt.meaning in
    let core = c.args.self.now.core in
    let valid = subst (λ v. IsValid m v.core.terms v.core.history) c.self.view_is c.self.invariant.valid in
    let commits = (store_of core.terms.origin core.history).commits in
    let clock : c.clock_of-clock.result ≡ clock_of commits c.args.parent = c.clock_of-clock.ensures.clock in
    let foreign : is_own core.terms c.args.origin ≡ false = ap (λ v. is_own v.core.terms c.args.origin) (sym c.self.view_is) ∙ sym c.is_own.ensures ∙ c.if-is_own.false in
    let look : received_at core.history (clock_of commits c.args.parent + 1, c.args.origin) ≡ c.received_at.result =
    ap (λ v. received_at v.core.history (clock_of commits c.args.parent + 1, c.args.origin)) (sym c.self.view_is) ∙ ap (λ k. received_at c.self.inside.moves.items (k + 1, c.args.origin)) (sym clock) ∙ sym c.received_at.ensures in
    let free = look ∙ c.in_default.is in
    let low = subst (λ v. clock_of commits c.args.parent < v.core.terms.limits.clock) c.self.view_is (subst (λ (k : ℕ). k < c.self.inside.terms.limits.clock) clock c.if-clock-self.false) in
    let fits = subst (λ v. c.args.size ≤ v.core.terms.limits.value) c.self.view_is c.if-size-self.false in
    let short = subst (λ (k : ℕ). k ≤ core.terms.limits.value) c.requires.sized fits in
    subst (λ o. IfErr c.has_room.result (ReceiveRefusedBy o)) (sym (operation-room m laws core.terms core.history valid c.args.origin c.args.parent c.args.op.now foreign free low short)) c.has_room.ensures.refused
