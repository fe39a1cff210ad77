-- The root commit's object stands behind that of the first value, where there is one.
use Rattle.std.proofs.Common.{◌≡◌, [], ◌++◌, ◌∙◌, rules, List, ℕ}
use Rattle.branch_wire.specs.Objects.{commit_object}
use Rattle.branch_wire.specs.StoredObjects.{header_of}
use Rattle.branch_machine.specs.Objects.{kept_value}
use Rattle.commit_replay.proofs.Begun.{root, first-written}
use Rattle.commit_replay.proofs.first.first_text.Goals as goal

pub returns : goal.returns
returns g c = λ terms of.
    let m = g.T.Mrdt.meaning in
    let layout = c.args.layout in
    let value : List ℕ = c.in_ok-value.value.items in
    let is : value ≡ kept_value layout (m.spelling_of []) = c.in_ok-value.ensures in
    let written : c.put.new.out.items ≡ (header_of c.args.version ++ value) ++ commit_object (root m g.A.Address.address terms c.args.version layout value) = search rules in
    written ∙ first-written m g.A.Address.address terms c.args.version layout of value is
