-- What a ticket and a result are to a contract.
use Rattle.std.specs.Prelude.{ℕ, []}
use Rattle.atomic_table.specs.Seated.{TableId}
use Rattle.branch_front.specs.Views.{Opening}

-- a job, and its number: how many jobs had been put before it
pub record Numbered (J : Type 0) : Type 0 where
  pub number : ℕ
  pub job : J

-- an answer, with the job that it serves and the job's number
pub record Answered (J R : Type 0) : Type 0 where
  pub number : ℕ
  pub job : J
  pub answer : R

-- the front of a queue, whose history are the jobs that were put. One pass has its one part
abbrev pub front_of : TableId → Opening
front_of table = record { table = table; begun = 0; parts = 1 }

-- the queue of a service that was not picked
abbrev pub no_table : TableId
no_table = record { words = 0; slots = 0; views_name = 0; atom = 0; block = 0; offset = 0; slot_names = [] }
