-- What was done in a turn at a partition.
use Rattle.std.specs.Prelude.{◌≡◌, ◌<◌, ℕ, true, List, map, length, All, Contains}
use Rattle.row_store.specs.Store.{Reading, knows}
use Rattle.tickets.specs.Tickets.{HasEnded}
use Rattle.match_pool.specs.declared.turn.Partition.{Partition}
use Rattle.match_pool.specs.declared.turn.Turn.{Turn}
use Rattle.match_pool.specs.declared.worker.Done.{Done}
use Rattle.match_pool.specs.Drawing.{number_of_rank}
use Rattle.match_pool.specs.Working.{Job, asks_at, done_by, matched_at}

-- a partition of some of the job's traces, with claims on all of them
pub record IsPartitionOf (j : Job) (partition : Partition) : Type 0 where
  pub inside : All (λ k. k < length j.traces) partition.numbers
  pub all : partition.claims.count ≡ length partition.numbers

-- the matches of some traces of the partition, among them all whose ranks were drawn
pub record AnswersFor (j : Job) (partition drawn : List ℕ) (done : List Done) : Type 0 where
  pub numbers : List ℕ
  pub are : done ≡ map (done_by j.first (matched_at j)) numbers
  pub inside : All (Contains partition) numbers
  pub all : (rank : ℕ) → rank < length partition → Contains drawn rank → Contains numbers (number_of_rank partition rank)

-- the turn is over: its ticket is of the partition's claims and has ended, and what it drew is answered
pub record IsOver (j : Job) (partition : Partition) (turn : Turn) : Type 0 where
  pub own : turn.ticket.claims ≡ partition.claims.name
  pub ended : HasEnded partition.claims.count turn.ticket
  pub answers : AnswersFor j partition.numbers turn.ticket.numbers turn.done

-- the reader knows what the traces ask for that were matched in this turn
abbrev pub Learns : Job → Partition → Turn → Reading → Type 0
Learns j partition turn reader =
    (rank v : ℕ) → rank < length partition.numbers → Contains turn.ticket.numbers rank
    → asks_at j v (number_of_rank partition.numbers rank) ≡ true → knows reader v ≡ true

-- the turn is over, and its reader has learned what the traces ask for that were matched in it
pub record IsTurnTaken (j : Job) (partition : Partition) (turn : Turn) (reader : Reading) : Type 0 where
  pub over : IsOver j partition turn
  pub learns : Learns j partition turn reader
