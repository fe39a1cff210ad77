use Rattle.branch_disk.proofs.Bridge.{torn_exactly, torn_exactly_through}
use Rattle.branch_disk.proofs.laws.a_write_tears_its_range.Goals as goal

pub returns-clause-through : goal.returns-clause-through
returns-clause-through c = torn_exactly_through

pub returns-clause-failed : goal.returns-clause-failed
returns-clause-failed c = torn_exactly
