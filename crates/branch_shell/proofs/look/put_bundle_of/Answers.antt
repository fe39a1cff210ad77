-- The bytes are those of the bundle of the definition.
use Rattle.std.proofs.Common.{◌≡◌, ◌∙◌, ◌++◌, List, ℕ, ap}
use Rattle.branch_names.specs.declared.terms.Terms.{Terms}
use Rattle.branch_machine.specs.Fixed.{fix}
use Rattle.branch_bundle.specs.Held.{text_of}
use Rattle.branch_shell.specs.Stores.{Stored}
use Rattle.branch_shell.specs.Bundling.{bundle_said}
use Rattle.branch_shell.proofs.Heads.{bundle-is, on-ok}
use Rattle.branch_shell.proofs.look.put_bundle_of.Goals as goal

pub returns : goal.returns
returns g c =
    let core = c.args.core.now in
    let store : Stored _ _ = record { terms = core.terms; history = core.history } in
    let old = c.args.out.now.items in
    let new = c.put_bundle.new.out.items in
    let layout = c.terms.result.layout in
    let same = bundle-is (fix g.T.Mrdt.meaning core.terms g.A.Address.address) core.history c.args.commit c.args.here.now c.in-Ok.bundle layout (ap (λ (t : Terms). t.layout) c.terms.ensures) c.in-Ok.ensures in
    on-ok c.put_bundle.result (new ≡ old ++ text_of layout c.in-Ok.bundle) (new ≡ old ++ bundle_said g.T.Mrdt.meaning g.A.Address.address c.args.here.now store c.args.commit)
    (λ put. put ∙ ap (λ (l : List ℕ). old ++ l) same) c.put_bundle.ensures.ok
