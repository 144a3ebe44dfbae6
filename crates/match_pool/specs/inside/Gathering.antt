-- How the answers of all turns come together.
use Rattle.std.specs.Prelude.{◌≡◌, ◌<◌, ◌⊎◌, ℕ, List, length, map, slice_get, Option, Some, All, Any, Contains}
use Rattle.match_text.specs.declared.matched.MatchedTrace.{MatchedTrace}
use Rattle.match_pool.specs.declared.turn.Partition.{Partition}
use Rattle.match_pool.specs.declared.turn.Turn.{Turn}
use Rattle.match_pool.specs.declared.worker.Done.{Done}
use Rattle.match_pool.specs.inside.Turns.{IsOver, IsPartitionOf}
use Rattle.match_pool.specs.Working.{Job, done_by}

-- the turns of all workers at a partition are over
pub record AreTurnsOver (j : Job) (partition : Partition) (turns : List Turn) : Type 0 where
  pub is_partition : IsPartitionOf j partition
  pub all : length turns ≡ partition.claims.seats
  pub over : All (IsOver j partition) turns

-- the slots of these numbers have their matches, and the others what they had
abbrev pub FillsSlots : (ℕ → MatchedTrace) → List ℕ → List (Option MatchedTrace) → List (Option MatchedTrace) → Type 0
FillsSlots matched numbers old new =
    (k : ℕ) → k < length old
    → (Contains numbers k × (slice_get new k ≡ Some (Some (matched k))))
    ⊎ ((Contains numbers k → ⊥) × (slice_get new k ≡ slice_get old k))

-- answers are in the slots of their places, for any numbers and matches
abbrev pub PlacesAnswers : ℕ → List Done → (old new : List (Option MatchedTrace)) → Type 0
PlacesAnswers first done old new =
    (matched : ℕ → MatchedTrace) (numbers : List ℕ)
    → done ≡ map (done_by first matched) numbers
    → FillsSlots matched numbers old new

-- each rank of the partition was drawn in one of the turns
abbrev pub AllDrawn : Partition → List Turn → Type 0
AllDrawn partition turns = (rank : ℕ) → rank < length partition.numbers → Any (λ t. Contains t.ticket.numbers rank) turns

-- each trace of the job is in a partition
abbrev pub CoverTraces : Job → List Partition → Type 0
CoverTraces j partitions = (k : ℕ) → k < length j.traces → Any (λ s. Contains s.numbers k) partitions
