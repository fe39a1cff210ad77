-- What lies under the lock of a queue, and what its calls do to it.
use Rattle.std.specs.Prelude.{◌≡◌, ℕ, List, [], ◌∷◌, ◌++◌, ◌==◌, Bool, cond, is_some, length, option_to_list, take, drop, Option, Some, None}
use Rattle.atomic_table.specs.Seated.{TableId}
use Rattle.branch_front.specs.Views.{View, IsIdle}
use Rattle.branch_batch.specs.Lists.{first_of, all_but}
use Rattle.branch_batch.specs.Tickets.{Numbered, Answered}

-- the writer has seen so many jobs, and the pass has the one part
pub record HasWritten {J : Type 0} (table : TableId) (count : ℕ) (writer pass : View J) : Type 0 where
  pub writer_is : writer.table ≡ table
  pub counted : length writer.moves ≡ count
  pub idle : IsIdle writer
  pub quiet : writer.faults ≡ 0
  pub pass_is : pass.table ≡ table
  pub part : pass.parts ≡ 1

-- the room for the answer to the job with this number, and the answer, if it is there
pub record Room (J R : Type 0) : Type 0 where
  pub number : ℕ
  pub answer : Option (Answered J R)

-- the jobs that wait, and the rooms for the answers to these and to those that were taken, in the order in which the jobs were put;
-- and how many jobs were put
pub record LineView (J R : Type 0) : Type 0 where
  pub waiting : List (Numbered J)
  pub rooms : List (Room J R)
  pub count : ℕ

module _ {J : Type 0} where
  abbrev pub number_of : Numbered J → ℕ
  number_of job = job.number

  -- whether the job with this number is among the first 64
  abbrev pub is_first : ℕ → List (Numbered J) → Bool
  is_first own jobs = is_some (first_of number_of own (take 64 jobs))

  -- what is taken of the jobs that wait, for the holder of the ticket with this number: the first 64, where its own is among them; else
  -- the first 63, and its own, if it waits. And what goes on waiting
  abbrev pub batch_of : ℕ → List (Numbered J) → List (Numbered J)
  batch_of own jobs = cond (is_first own jobs) (take 64 jobs) (take 63 jobs ++ option_to_list (first_of number_of own (drop 63 jobs)))

  abbrev pub left_of : ℕ → List (Numbered J) → List (Numbered J)
  left_of own jobs = cond (is_first own jobs) (drop 64 jobs) (all_but number_of own (drop 63 jobs))

module _ {J R : Type 0} where
  abbrev pub room_number : Room J R → ℕ
  room_number room = room.number

  -- the answer to the job with this number, if it is there
  abbrev pub answer_in : Option (Room J R) → Option (Answered J R)
  answer_in None = None
  answer_in (Some room) = room.answer

  -- the answer comes into the room of its number, and all other rooms stay
  abbrev pub given : Answered J R → List (Room J R) → List (Room J R)
  given answer [] = []
  given answer (room ∷ rooms) = cond (room.number == answer.number) (record room { answer = Some answer } ∷ rooms) (room ∷ given answer rooms)

  -- and so do all of several
  abbrev pub all_given : List (Answered J R) → List (Room J R) → List (Room J R)
  all_given [] rooms = rooms
  all_given (answer ∷ answers) rooms = all_given answers (given answer rooms)
