-- What is read has a header.
use Rattle.store_core.proofs.old.has_old_header.Goals as goal

pub returns-in-Ok-clause-has : goal.returns-in-Ok-clause-has
returns-in-Ok-clause-has g c = λ _ f told. (_, (c.in-Ok.ensures.read f told).header)
