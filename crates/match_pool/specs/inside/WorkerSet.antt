-- What a worker needs, what it did, and how readers become workers.
use Rattle.std.specs.Prelude.{◌≡◌, ◌<◌, ◌≤◌, ℕ, List, [], All, Contains, OnOk, length, map, slice_index_or, vec_capacity}
use Rattle.row_store.specs.Store.{Reading}
use Rattle.tickets.specs.Tickets.{fresh_ticket}
use Rattle.match_pool.specs.declared.worker_set.WorkerSet.{WorkerSet}
use Rattle.match_pool.specs.declared.worker_set.Worker.{Worker}
use Rattle.match_pool.specs.declared.turn.Partition.{Partition}
use Rattle.match_pool.specs.declared.turn.Turn.{Turn}
use Rattle.match_pool.specs.inside.Turns.{IsPartitionOf, IsTurnTaken}
use Rattle.match_pool.specs.Working.{IsReaderFor, Job, ReadsWithin}

abbrev pub reader_of : Worker → Reading
reader_of w = w.reader

abbrev pub turns_of : Worker → List Turn
turns_of w = w.turns.items

-- the worker's reader has the rows that are wanted, and it has a turn at each partition, fresh at those from one on and before another
pub record CanDrawFrom (j : Job) (partitions : List Partition) (from past : ℕ) (w : Worker) : Type 0 where
  pub reader : IsReaderFor j.network j.params w.reader
  pub partitions_are : All (IsPartitionOf j) partitions
  pub count : length w.turns.items ≡ length partitions
  pub fresh : (place : ℕ) (d : Partition) (e : Turn) → from ≤ place → place < past
      → (slice_index_or w.turns.items place e).ticket ≡ fresh_ticket (slice_index_or partitions place d).claims.name

-- the worker took its turns from one partition on and before another, and no other
pub record DrewFrom (j : Job) (partitions : List Partition) (from past : ℕ) (before after : Worker) : Type 0 where
  pub count : length after.turns.items ≡ length before.turns.items
  pub each : (place : ℕ) (d : Partition) (e : Turn) → from ≤ place → place < past
      → IsTurnTaken j (slice_index_or partitions place d) (slice_index_or after.turns.items place e) after.reader
  pub early : (place : ℕ) (e : Turn) → place < from → slice_index_or after.turns.items place e ≡ slice_index_or before.turns.items place e
  pub late : (place : ℕ) (e : Turn) → past ≤ place → slice_index_or after.turns.items place e ≡ slice_index_or before.turns.items place e

-- the worker took its turns at all partitions
pub record DrewAll (j : Job) (partitions : List Partition) (after : Worker) : Type 0 where
  pub count : length after.turns.items ≡ length partitions
  pub each : (place : ℕ) (d : Partition) (e : Turn) → place < length partitions
      → IsTurnTaken j (slice_index_or partitions place d) (slice_index_or after.turns.items place e) after.reader

-- the worker did its work
pub record Ran (j : Job) (partitions : List Partition) (before after : Worker) : Type 0 where
  pub reader : ReadsWithin j before.reader after.reader
  pub drew_all : OnOk after.outcome (DrewAll j partitions after)

-- there is room for the readers and the turns of all workers
pub record HasRoomForWorkers (worker_set : WorkerSet) : Type 0 where
  pub no_readers : worker_set.readers.items ≡ []
  pub no_turns : worker_set.turns.items ≡ []
  pub readers : length worker_set.workers.items ≤ vec_capacity worker_set.readers
  pub turns : length worker_set.workers.items ≤ vec_capacity worker_set.turns

-- each of these readers with some of these turns
pub record IsWorkerSet (readers : List Reading) (by_worker : List (List Turn)) (worker_set : WorkerSet) : Type 0 where
  pub readers_are : map reader_of worker_set.workers.items ≡ readers
  pub turns_are : All (λ w. Contains by_worker w.turns.items) worker_set.workers.items
  pub room : HasRoomForWorkers worker_set

-- the room is as before
pub record KeepsRoom (before after : WorkerSet) : Type 0 where
  pub readers : after.readers ≡ before.readers
  pub turns : after.turns ≡ before.turns
