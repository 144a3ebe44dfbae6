-- What a worker does with the traces of one partition.
use Rattle.std.specs.Prelude.{◌≡◌, ◌<◌, ◌≤◌, ℕ, List, [], ◌∷◌, ◌++◌, map, length, slice_index_or, All}
use Rattle.row_store.specs.Store.{Reading}
use Rattle.tickets.specs.Tickets.{Drawn}
use Rattle.match_pool.specs.declared.batch.Batch.{Batch}
use Rattle.match_pool.specs.declared.worker.Done.{Done}
use Rattle.match_pool.specs.Working.{Job, ReaderLearnsAsked, done_by, job, matched_at}

abbrev pub job_of : Batch → Job
job_of b = job b.net.now b.params.now b.first b.traces.now

-- the number at this rank of a partition
abbrev pub number_of_rank : List ℕ → ℕ → ℕ
number_of_rank partition rank = slice_index_or partition rank 0

-- The ticket drew some ranks, in this order, and then one too great. The answers are those of the traces
-- of the partition at these ranks, and what they ask for became known.
pub record WorksOn (j : Job) (partition : List ℕ) (reader : Reading) (ticket : Drawn) (done : List Done) (reader' : Reading)
    (ticket' : Drawn) : Type 0 where
  pub ranks : List ℕ
  pub last : ℕ
  pub drawn : ticket'.numbers ≡ ticket.numbers ++ (ranks ++ last ∷ [])
  pub below : All (λ k. k < length partition) ranks
  pub above : length partition ≤ last
  pub answers : done ≡ map (done_by j.first (matched_at j)) (map (number_of_rank partition) ranks)
  pub learns : ReaderLearnsAsked j (map (number_of_rank partition) ranks) reader reader'
