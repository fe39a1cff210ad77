-- The commit that has the address of the item's is the only one that may have its objects.
use Rattle.std.proofs.Common.{◌≡◌, ◌++◌, Some, ap, sym, ◌∙◌, subst}
use Rattle.std.proofs.lemmas.Bool.{both_ways}
use Rattle.branch_machine.specs.Fixed.{fix}
use Rattle.branch_machine.specs.Objects.{Pair}
use Rattle.store_seen.specs.Nodes.{commit_at as position}
use Rattle.recorded_history.specs.Items.{lent_item, lent_pair}
use Rattle.recorded_history.specs.Machine.{addresses_of, commit_of_address}
use Rattle.recorded_history.proofs.Here.{here-none, here-is, here-other, here-missing}
use Rattle.recorded_history.proofs.recorded.Recorded.commit_of.Goals as goal

pub returns-in_default : goal.returns-in_default
returns-in_default g c =
    let laws = (g.met.T.Mrdt g.world.𝓛 g.world.𝓜 g.world.𝓡 ((λ s x. x), (λ x. x), (λ x. x), λ x. x)).laws in
    let r = c.args.self.now in
    let fixed = fix g.T.Mrdt.meaning r.terms g.A.Address.address in
    let item : Pair = record { value = c.args.value.now; commit = c.args.commit.now } in
    let history = r.written ++ r.pending in
    let addressed = subst (λ r. c.self.inside.versions.addresses ≡ addresses_of (fix g.T.Mrdt.meaning r.terms g.A.Address.address) (r.written ++ r.pending)) c.self.view_is c.self.invariant.addressed in
    sym (here-none fixed laws g.met.A.Address.size history c.moves-moves.ensures.valid item (ap (commit_of_address fixed history) (sym c.of.ensures) ∙ ap (λ l. position l c.of.result) (sym addressed) ∙ sym c.commit_at.ensures ∙ c.in_default.is))

pub returns-then-are_objects : goal.returns-then-are_objects
returns-then-are_objects g c =
    let laws = (g.met.T.Mrdt g.world.𝓛 g.world.𝓜 g.world.𝓡 ((λ s x. x), (λ x. x), (λ x. x), λ x. x)).laws in
    let r = c.args.self.now in
    let fixed = fix g.T.Mrdt.meaning r.terms g.A.Address.address in
    let item : Pair = record { value = c.args.value.now; commit = c.args.commit.now } in
    let history = r.written ++ r.pending in
    let addressed = subst (λ r. c.self.inside.versions.addresses ≡ addresses_of (fix g.T.Mrdt.meaning r.terms g.A.Address.address) (r.written ++ r.pending)) c.self.view_is c.self.invariant.addressed in
    let found : commit_of_address fixed history (fixed.address item.commit) ≡ Some c.in-Some.number = ap (commit_of_address fixed history) (sym c.of.ensures) ∙ ap (λ l. position l c.of.result) (sym addressed) ∙ sym c.commit_at.ensures ∙ c.in-Some.is in
    let its : Pair = record { value = c.in-Some-item_of.its_value.now; commit = c.in-Some-item_of.its_commit.now } in
    let got = ap lent_item (sym c.in-Some-item_of.is) ∙ c.item_of.ensures in
    let same = c.are_objects.ensures.0 c.if-are_objects.true in
    sym (here-is fixed laws g.met.A.Address.size history c.moves-moves.ensures.valid item c.in-Some.number found its got same.0 same.1)

pub returns-else-are_objects : goal.returns-else-are_objects
returns-else-are_objects g c =
    let laws = (g.met.T.Mrdt g.world.𝓛 g.world.𝓜 g.world.𝓡 ((λ s x. x), (λ x. x), (λ x. x), λ x. x)).laws in
    let r = c.args.self.now in
    let fixed = fix g.T.Mrdt.meaning r.terms g.A.Address.address in
    let item : Pair = record { value = c.args.value.now; commit = c.args.commit.now } in
    let history = r.written ++ r.pending in
    let addressed = subst (λ r. c.self.inside.versions.addresses ≡ addresses_of (fix g.T.Mrdt.meaning r.terms g.A.Address.address) (r.written ++ r.pending)) c.self.view_is c.self.invariant.addressed in
    let found : commit_of_address fixed history (fixed.address item.commit) ≡ Some c.in-Some.number = ap (commit_of_address fixed history) (sym c.of.ensures) ∙ ap (λ l. position l c.of.result) (sym addressed) ∙ sym c.commit_at.ensures ∙ c.in-Some.is in
    let its : Pair = record { value = c.in-Some-item_of.its_value.now; commit = c.in-Some-item_of.its_commit.now } in
    let got = ap lent_item (sym c.in-Some-item_of.is) ∙ c.item_of.ensures in
    sym (here-other fixed laws g.met.A.Address.size history c.moves-moves.ensures.valid item c.in-Some.number found its got (λ v t. both_ways c.are_objects.result c.if-are_objects.false (c.are_objects.ensures.1 (v, t))))

pub returns-in-None : goal.returns-in-None
returns-in-None g c =
    let laws = (g.met.T.Mrdt g.world.𝓛 g.world.𝓜 g.world.𝓡 ((λ s x. x), (λ x. x), (λ x. x), λ x. x)).laws in
    let r = c.args.self.now in
    let fixed = fix g.T.Mrdt.meaning r.terms g.A.Address.address in
    let item : Pair = record { value = c.args.value.now; commit = c.args.commit.now } in
    let history = r.written ++ r.pending in
    let addressed = subst (λ r. c.self.inside.versions.addresses ≡ addresses_of (fix g.T.Mrdt.meaning r.terms g.A.Address.address) (r.written ++ r.pending)) c.self.view_is c.self.invariant.addressed in
    let found : commit_of_address fixed history (fixed.address item.commit) ≡ Some c.in-Some.number = ap (commit_of_address fixed history) (sym c.of.ensures) ∙ ap (λ l. position l c.of.result) (sym addressed) ∙ sym c.commit_at.ensures ∙ c.in-Some.is in
    absurd (here-missing fixed laws g.met.A.Address.size history c.moves-moves.ensures.valid item c.in-Some.number found (ap lent_item (sym c.in-None.is) ∙ c.item_of.ensures))
