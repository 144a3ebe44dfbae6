-- What a run leaves whose reader and matcher may fail both.
use Rattle.std.specs.Prelude.{◌≡◌, ◌⊎◌, ℕ, List, Result, Err}
use Rattle.edge_io.specs.State.{ShelfState, SinkState}
use Rattle.program_frame.specs.Performs.{Performs}
use Rattle.program_frame.specs.Plan.{Plan, IsFileOf, plan_of}
use Rattle.program_frame.specs.Promises.{Promises}
use Rattle.program_frame.specs.Read.{Notes}
use Rattle.program_frame.specs.declared.stop.File.TheVariants.{Traces}
use Rattle.program_frame.specs.declared.stop.Stop.{Stop}
use Rattle.program_frame.specs.declared.stop.Stop.TheVariants.{NoMemory, Unwritten}

-- a read of the trace file failed, and was noted
pub record IsNoted (asked : Result Plan (List ℕ)) (shelf shelf' : ShelfState) : Type 0 where
  pub name : List ℕ
  pub named : IsFileOf (plan_of asked) Traces name
  pub noted : Notes shelf shelf' name

-- the matcher stopped, and besides a read of the trace file failed, which nothing else shows
pub record PerformsTwice (asked : Result Plan (List ℕ)) (shelf shelf' : ShelfState)
    (out out' : SinkState) (ended : Result (Unit {0}) Stop) : Type 0 where
  pub stops : (ended ≡ Err NoMemory) ⊎ (ended ≡ Err Unwritten)
  pub noted : IsNoted asked shelf shelf'
  pub performs : Performs asked shelf shelf out out' ended

abbrev pub LivePerforms : Result Plan (List ℕ) → ShelfState → ShelfState → SinkState → SinkState
    → Result (Unit {0}) Stop → Type 0
LivePerforms asked shelf shelf' out out' ended =
    Performs asked shelf shelf' out out' ended ⊎ PerformsTwice asked shelf shelf' out out' ended

-- memory ran out, and besides a read of the trace file failed, which nothing else shows
pub record PromisesTwice (lines : ℕ → List ℕ → Type 0) (asked : Result Plan (List ℕ))
    (shelf shelf' : ShelfState) (out out' err err' : SinkState) (status : ℕ) : Type 0 where
  pub is_memory : status ≡ 1
  pub noted : IsNoted asked shelf shelf'
  pub promises : Promises lines asked shelf shelf out out' err err' status

-- what a run promises; only want of memory may hide that a read of the trace file failed
abbrev pub LivePromises : (ℕ → List ℕ → Type 0) → Result Plan (List ℕ) → ShelfState → ShelfState
    → (out out' err err' : SinkState) → ℕ → Type 0
LivePromises lines asked shelf shelf' out out' err err' status =
    Promises lines asked shelf shelf' out out' err err' status
    ⊎ PromisesTwice lines asked shelf shelf' out out' err err' status
