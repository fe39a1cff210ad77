-- The store's name says what the store is. Each move is allowed in it.
use Rattle.branch_disk.specs.Memory.{left_since, moment}
use Rattle.thread_tests.proofs.rows.two_threads.Given as goal

abbrev pub ghosts-in_two_threads : goal.ghosts-in_two_threads
ghosts-in_two_threads g a = record {
  table = a.blank.table;
  queue = a.blank.queue;
  begun = a.blank.core.history;
  terms = a.blank.core.terms;
  parts = a.blank.parts;
  opened = a.blank.opened;
  allows = λ made. Unit {0};
  since = moment a.blank.core.disk;
  left = left_since a.blank.core.disk;
}
