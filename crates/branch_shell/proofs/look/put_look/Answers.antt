-- The text of each look, behind no bytes.
use Rattle.std.proofs.Common.{ap}
use Rattle.std.proofs.lemmas.Result.{on_ok_weaker}
use Rattle.branch_shell.specs.Looks.{place_of}
use Rattle.branch_shell.proofs.look.put_look.Goals as goal

pub put_address_of-requires-clause-there : goal.put_address_of-requires-clause-there
put_address_of-requires-clause-there g c κs within = c.requires.there _ (ap place_of c.in-Address.is)

pub put_bundle_of-requires-clause-there : goal.put_bundle_of-requires-clause-there
put_bundle_of-requires-clause-there g c κs within = c.requires.there _ (ap place_of c.in-Bundle.is)

pub put_log_of-requires-clause-there : goal.put_log_of-requires-clause-there
put_log_of-requires-clause-there g c κs within = c.requires.there _ (ap place_of c.in-Log.is)

pub put_document_of-requires-clause-there : goal.put_document_of-requires-clause-there
put_document_of-requires-clause-there g c κs within = c.requires.there _ (ap place_of c.in-Document.is)

pub returns-in-Report : goal.returns-in-Report
returns-in-Report g c = rw c.in-Report.is (on_ok_weaker c.put_report.result (λ is. rw c.requires.empty at is) c.put_report.ensures)

pub returns-in-Address : goal.returns-in-Address
returns-in-Address g c = rw c.in-Address.is (on_ok_weaker c.put_address_of.result (λ is. rw c.requires.empty at is) c.put_address_of.ensures)

pub returns-in-Bundle : goal.returns-in-Bundle
returns-in-Bundle g c = rw c.in-Bundle.is (on_ok_weaker c.put_bundle_of.result (λ is. rw (c.requires.empty, c.as_slice.ensures) at is) c.put_bundle_of.ensures)

pub returns-in-Log : goal.returns-in-Log
returns-in-Log g c = rw c.in-Log.is c.put_log_of.ensures

pub returns-in-Document : goal.returns-in-Document
returns-in-Document g c = rw c.in-Document.is (on_ok_weaker c.put_document_of.result (λ is. rw c.requires.empty at is) c.put_document_of.ensures)

pub returns-in-Graph : goal.returns-in-Graph
returns-in-Graph g c = rw c.in-Graph.is (on_ok_weaker c.put_graph.result (λ is. rw c.requires.empty at is) c.put_graph.ensures)
