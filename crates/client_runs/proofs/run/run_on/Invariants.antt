-- The store's name says what the store is. It allows what the steps of the scripts may make.
use Rattle.parallel_clients.specs.Allowed.{IsOfScripts}
use Rattle.client_runs.proofs.run.run_on.Given as goal

abbrev pub ghosts-share : goal.ghosts-share
ghosts-share g a = record {
  table = a.blank.table;
  queue = a.blank.queue;
  begun = a.blank.core.history;
  terms = a.blank.core.terms;
  parts = a.blank.parts;
  opened = a.blank.opened;
  allows = IsOfScripts g.T.Forms.forms a.scripts.now;
  since = g.D.Disk.moment a.blank.core.disk;
  left = g.D.Disk.left_since a.blank.core.disk;
}
