use Rattle.branch_doc.proofs.Lacking.{op-of_sequences, query-of_sequences}
use Rattle.branch_doc.proofs.laws.lacks_only_sequences.Goals as goal

pub returns-clause-op : goal.returns-clause-op
returns-clause-op g c = op-of_sequences g.T.Forms.forms (g.met.T.Forms g.world.𝓛 g.world.𝓜 g.world.𝓡 ((λ s x. x), (λ x. x), (λ x. x), λ x. x)).are_forms

pub returns-clause-query : goal.returns-clause-query
returns-clause-query g c = query-of_sequences g.T.Forms.forms (g.met.T.Forms g.world.𝓛 g.world.𝓜 g.world.𝓡 ((λ s x. x), (λ x. x), (λ x. x), λ x. x)).are_forms
