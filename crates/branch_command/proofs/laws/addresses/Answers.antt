use Rattle.branch_command.proofs.Spelled.{said_back, said_so}
use Rattle.branch_command.proofs.laws.addresses.Goals as goal

pub returns-clause-said : goal.returns-clause-said
returns-clause-said c = said_back

pub returns-clause-only : goal.returns-clause-only
returns-clause-only c = said_so
