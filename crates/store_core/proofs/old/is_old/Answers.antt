-- The header and the first objects are the first rule of reading.
use Rattle.std.proofs.Common.{◌∙◌, refl}
use Rattle.branch_files.specs.Reading.{NotAStore}
use Rattle.store_core.specs.Opens.{old_form}
use Rattle.store_core.proofs.Opened.{ok-more}
use Rattle.store_core.proofs.old.is_old.Goals as goal

pub returns-in-Ok-true-clause-old : goal.returns-in-Ok-true-clause-old
returns-in-Ok-true-clause-old g c =
    let address = g.A.Address.address in
    ok-more _ _ c.begins_as_old.result (λ old begins is f told.
    let has = c.in-Ok-true.ensures.has c.in-Ok-true.field-0-test f told in
    (c.reads_as_store.ensures old_form has.0 address f has.1).0 (begins is f (c.has_old_header.ensures.same ∙ told) has.0 (has.1.fits.old refl).2)) c.begins_as_old.ensures.begins

pub returns-in-Ok-true-clause-other : goal.returns-in-Ok-true-clause-other
returns-in-Ok-true-clause-other g c =
    let address = g.A.Address.address in
    ok-more _ _ c.begins_as_old.result (λ old other is f told.
    let has = c.in-Ok-true.ensures.has c.in-Ok-true.field-0-test f told in
    (c.reads_as_store.ensures old_form has.0 address f has.1).1 (other is f (c.has_old_header.ensures.same ∙ told) has.0 (has.1.fits.old refl).2)) c.begins_as_old.ensures.other

pub returns-in-Ok-false-clause-other : goal.returns-in-Ok-false-clause-other
returns-in-Ok-false-clause-other g c = λ _ f told.
    (c.reads_old_as_first_kind.ensures old_form refl g.A.Address.address f NotAStore).1
    (c.reads_as_none_of_kind.ensures old_form 0 g.A.Address.address f (c.in-Ok-false.ensures.none c.in-Ok-false.field-0-test f told))
