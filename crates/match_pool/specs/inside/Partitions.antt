-- How the traces of a batch are cut into partitions.
use Rattle.std.specs.Prelude.{◌≡◌, ◌<◌, ℕ, List, length, All, Any, Contains}
use Rattle.std.specs.List.{sum_by}
use Rattle.match_pool.specs.declared.partitions.Spot.{Spot}

-- the spots of as many traces, in any order
pub record AreSpotsOf (count : ℕ) (spots : List Spot) : Type 0 where
  pub inside : All (λ s. s.number < count) spots
  pub long : length spots ≡ count
  pub whole : (k : ℕ) → k < count → Any (λ s. s.number ≡ k) spots

-- each number below `count` is in exactly one partition, and once, since the partitions have only
-- `count` numbers in all; no other number is in one
pub record ArePartitionsOf (count : ℕ) (partitions : List (List ℕ)) : Type 0 where
  pub inside : All (All (λ k. k < count)) partitions
  pub whole : (k : ℕ) → k < count → Any (λ numbers. Contains numbers k) partitions
  pub once : sum_by length partitions ≡ count
