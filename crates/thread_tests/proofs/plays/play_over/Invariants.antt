-- The store's name says what the store is. Each move is allowed in it.
use Rattle.branch_disk.specs.Memory.{left_since, moment}
use Rattle.thread_tests.proofs.plays.play_over.Given as goal

abbrev pub ghosts-share : goal.ghosts-share
ghosts-share g a = record {
  table = a.blank.table;
  queue = a.blank.queue;
  begun = a.blank.core.history;
  terms = a.blank.core.terms;
  parts = a.blank.parts;
  opened = a.blank.opened;
  allows = λ made. Unit {0};
  since = moment a.blank.core.disk;
  left = left_since a.blank.core.disk;
}
