-- How the partitions and the turns are dealt.
use Rattle.std.specs.Prelude.{◌≡◌, ◌<◌, ℕ, List, map, length, slice_index_or, All}
use Rattle.tickets.specs.Tickets.{Drawn, fresh_ticket}
use Rattle.match_pool.specs.declared.turn.Partition.{Partition}
use Rattle.match_pool.specs.declared.turn.Turn.{Turn}

abbrev pub ticket_of : Turn → Drawn
ticket_of turn = turn.ticket

abbrev pub partition_numbers : Partition → List ℕ
partition_numbers partition = partition.numbers

-- a turn at each partition, in which nothing was drawn
pub record AreFreshTurns (partitions : List Partition) (turns : List Turn) : Type 0 where
  pub count : length turns ≡ length partitions
  pub fresh : (place : ℕ) (d : Partition) (e : Turn) → place < length partitions
      → (slice_index_or turns place e).ticket ≡ fresh_ticket (slice_index_or partitions place d).claims.name

-- the claims are on all of the partition's numbers, with this many tickets
pub record HasClaims (tickets : ℕ) (partition : Partition) : Type 0 where
  pub all : partition.claims.count ≡ length partition.numbers
  pub tickets_are : partition.claims.seats ≡ tickets

-- partitions of these numbers, and for each worker fresh turns at them
pub record AreDealt (cuts : List (List ℕ)) (workers : ℕ) (partitions : List Partition) (by_worker : List (List Turn)) : Type 0 where
  pub cuts_are : map partition_numbers partitions ≡ cuts
  pub claims : All (HasClaims workers) partitions
  pub count : length by_worker ≡ workers
  pub fresh : All (AreFreshTurns partitions) by_worker
