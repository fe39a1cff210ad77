-- The value, and then the commit.
use Rattle.std.proofs.Common.{◌∙◌, ◌++◌, ℕ, List, [], ◌∷◌, Option, length, map, ap, arith}
use Rattle.std.proofs.lemmas.List.{length-map}
use Rattle.branch_history.specs.History.{store_of}
use Rattle.branch_machine.specs.Fixed.{fix}
use Rattle.branch_machine.specs.Objects.{Pair, commit_text, pairs_of}
use Rattle.branch_machine.proofs.Pairs.{length-pairs_of}
use Rattle.branch_wire.specs.StoredObjects.{fresh}
use Rattle.store_compact.specs.Copied.{listed, pair_of}
use Rattle.store_compact.proofs.Copies.{not-none, address-at, added-same, placed-same, value-found, commit-found}
use Rattle.store_compact.proofs.Told.{spelled-fields}
use Rattle.store_compact.proofs.copying.copy_commit.Goals as goal

pub unreachable-requires : goal.unreachable-requires
unreachable-requires g c =
    let r = c.args.recorded.now in
    let fixed = fix g.T.Mrdt.meaning r.terms g.A.Address.address in
    let commits = (store_of r.terms.origin r.written).commits in
    not-none (pairs_of fixed commits) c.args.number (omega (arith, c.requires.there, length-pairs_of fixed commits)) c.in_default.ensures

pub unreachable-requires-in_default-address : goal.unreachable-requires-in_default-address
unreachable-requires-in_default-address g c =
    let r = c.args.recorded.now in
    let fixed = fix g.T.Mrdt.meaning r.terms g.A.Address.address in
    let commits = (store_of r.terms.origin r.written).commits in
    let pairs = pairs_of fixed commits in
    not-none (map (λ (p : Pair). g.A.Address.address p.commit) pairs) c.args.number
    (omega (arith, c.requires.there, length-pairs_of fixed commits, length-map pairs (λ (p : Pair). g.A.Address.address p.commit))) c.in_default-address.ensures

pub unreachable-requires-in_default-address_of_value : goal.unreachable-requires-in_default-address_of_value
unreachable-requires-in_default-address_of_value g c =
    let r = c.args.recorded.now in
    let fixed = fix g.T.Mrdt.meaning r.terms g.A.Address.address in
    let pairs = pairs_of fixed (store_of r.terms.origin r.written).commits in
    let laws = (g.met.T.Mrdt g.world.𝓛 g.world.𝓜 g.world.𝓡 ((λ s x. x), (λ x. x), (λ x. x), λ x. x)).laws in
    let fields = spelled-fields fixed laws g.met.A.Address.size r.written c.requires.valid c.args.number c.requires.there in
    c.in_default-address_of_value.ensures fields.0 fields.1 (commit-found pairs c.args.number _ c.in-Some.ensures ∙ fields.3)

pub returns-clause-known : goal.returns-clause-known
returns-clause-known g c =
    let r = c.args.recorded.now in
    let fixed = fix g.T.Mrdt.meaning r.terms g.A.Address.address in
    let pairs = pairs_of fixed (store_of r.terms.origin r.written).commits in
    let laws = (g.met.T.Mrdt g.world.𝓛 g.world.𝓜 g.world.𝓡 ((λ s x. x), (λ x. x), (λ x. x), λ x. x)).laws in
    let fields = spelled-fields fixed laws g.met.A.Address.size r.written c.requires.valid c.args.number c.requires.there in
    let address = c.in-Ok.ensures fields.0 fields.1 (commit-found pairs c.args.number _ c.in-Some.ensures ∙ fields.3) ∙ fields.2 in
    let known = c.args.known.now.keys in
    c.in_ok-copy_kept.ensures.known ∙ ap (λ (a : Option (List ℕ)). known ++ fresh known (listed a)) address

pub returns-clause-copied : goal.returns-clause-copied
returns-clause-copied g c =
    let r = c.args.recorded.now in
    let fixed = fix g.T.Mrdt.meaning r.terms g.A.Address.address in
    let pairs = pairs_of fixed (store_of r.terms.origin r.written).commits in
    let laws = (g.met.T.Mrdt g.world.𝓛 g.world.𝓜 g.world.𝓡 ((λ s x. x), (λ x. x), (λ x. x), λ x. x)).laws in
    let fields = spelled-fields fixed laws g.met.A.Address.size r.written c.requires.valid c.args.number c.requires.there in
    let value = value-found pairs c.args.number _ c.in-Some.ensures in
    let commit = commit-found pairs c.args.number _ c.in-Some.ensures in
    let address = c.in-Ok.ensures fields.0 fields.1 (commit ∙ fields.3) ∙ fields.2 in
    added-same g.A.Address.address c.args.known.now.keys c.in-Ok.its_value c.in-Some.value.now c.in-Some.commit.now (pair_of pairs c.args.number) address value commit
    c.args.copies.now.text.items c.copy_kept.new.text.items c.extend_from_slice.new.self.items c.in_ok-copy_kept.ensures.copied c.in_ok-extend_from_slice.ensures.items

pub returns-clause-placed : goal.returns-clause-placed
returns-clause-placed g c =
    let r = c.args.recorded.now in
    let fixed = fix g.T.Mrdt.meaning r.terms g.A.Address.address in
    let pairs = pairs_of fixed (store_of r.terms.origin r.written).commits in
    placed-same c.in-Some-address.address (g.A.Address.address (commit_text pairs c.args.number)) c.len-end.result (length c.extend_from_slice.new.self.items) c.args.copies.now.placed.items c.push.new.self.items
    c.in_ok-push.ensures.items (address-at g.A.Address.address pairs c.args.number c.in-Some-address.address c.in-Some-address.ensures) (c.len-end.ensures ∙ c.extend_from_slice.new.self.ok.0)
