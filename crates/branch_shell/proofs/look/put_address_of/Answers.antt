-- Each commit has an address.
use Rattle.std.proofs.Common.{◌≡◌, ◌∙◌, ◌++◌, List, ℕ, ap, sym}
use Rattle.branch_machine.specs.Fixed.{fix}
use Rattle.branch_print.specs.Sent.{address_text}
use Rattle.store_core.proofs.Bundled.{address-of-all}
use Rattle.branch_shell.specs.Stores.{Stored}
use Rattle.branch_shell.specs.Bundling.{address_said}
use Rattle.branch_shell.proofs.Heads.{address-is, on-ok}
use Rattle.branch_shell.proofs.look.put_address_of.Goals as goal

pub unreachable-requires : goal.unreachable-requires
unreachable-requires g c =
    let core = c.args.core.now in
    address-of-all (fix g.T.Mrdt.meaning core.terms g.A.Address.address) core.history c.args.commit c.requires.there (sym c.in_default.is ∙ c.address.ensures)

pub returns : goal.returns
returns g c =
    let core = c.args.core.now in
    let store : Stored _ _ = record { terms = core.terms; history = core.history } in
    let old = c.args.out.now.items in
    let new = c.put_address.new.out.items in
    let same = address-is (fix g.T.Mrdt.meaning core.terms g.A.Address.address) core.history c.args.commit c.in-Some.address (sym c.in-Some.is ∙ c.address.ensures) in
    on-ok c.put_address.result (new ≡ old ++ address_text c.in-Some.address) (new ≡ old ++ address_said g.T.Mrdt.meaning g.A.Address.address store c.args.commit)
    (λ put. put ∙ ap (λ (a : List ℕ). old ++ address_text a) same) c.put_address.ensures.ok
