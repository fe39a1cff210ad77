-- What the index says is believed where the commit has the address.
use Rattle.std.proofs.Common.{◌≡◌, ℕ, List, Option, Some, sym, subst, ◌∙◌}
use Rattle.std.specs.Arc.{arc_value}
use Rattle.std.specs.Prelude.{slice_get}
use Rattle.std.specs.Str.{bytes_eq}
use Rattle.std.proofs.lemmas.Bool.{both_ways}
use Rattle.indexmap.specs.IndexMap.{get}
use Rattle.store_seen.specs.Nodes.{first_nodes}
use Rattle.store_seen.proofs.Addressed.{found-first, found-none}
use Rattle.store_seen.proofs.shared.SharedNodes.commit_at.Goals as goal

pub returns-then-has_address : goal.returns-then-has_address
returns-then-has_address g c =
    let number : ℕ = c.in_ok-number.field-0.now in
    let address : List ℕ = c.args.address.now in
    let addresses = (first_nodes c.self.inside.count (arc_value c.self.inside.nodes)).addresses in
    let find : List ℕ → Option ℕ = get bytes_eq c.self.inside.index in
    let has = subst (λ v. slice_get v.addresses number ≡ Some address) (sym c.self.view_is) (c.has_address.ensures.0 c.if-has_address.true) in
    rw (← c.self.view_is) (sym (found-first addresses find c.self.invariant.2 address number (sym c.in_ok-number.ensures.value) has))

pub returns-else-has_address : goal.returns-else-has_address
returns-else-has_address g c =
    let number : ℕ = c.in_ok-number.field-0.now in
    let address : List ℕ = c.args.address.now in
    let addresses = (first_nodes c.self.inside.count (arc_value c.self.inside.nodes)).addresses in
    let find : List ℕ → Option ℕ = get bytes_eq c.self.inside.index in
    let none = found-none addresses find c.self.invariant.2 address
    (λ n is has.
    let both : Some number ≡ Some n = c.in_ok-number.ensures.value ∙ is in
    let e : n ≡ number = cc in
    let here = subst (λ v. slice_get v.addresses number ≡ Some address) c.self.view_is (subst (λ (m : ℕ). slice_get addresses m ≡ Some address) e has) in
    both_ways c.has_address.result c.if-has_address.false (c.has_address.ensures.1 here)) in
    rw (← c.self.view_is) (sym none)
