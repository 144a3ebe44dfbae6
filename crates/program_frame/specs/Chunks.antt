-- A trace file that is read chunk by chunk.
use Rattle.std.specs.Prelude.{◌≡◌, ℕ, ◌+◌, ◌≤◌, ◌<◌, ◌^◌, List, [], ◌++◌, length, Bool, true, false, Result, Ok, Err, None}
use Rattle.edge_io.specs.State.{ShelfState}
use Rattle.trace_reader.specs.Reading.{fault_in}
use Rattle.program_frame.specs.Read.{FailsToRead, IsReadSoFar, ReadsWhole}
use Rattle.program_frame.specs.Refusals.{trace_limit}
use Rattle.program_frame.specs.declared.stop.File.TheVariants.{Traces}
use Rattle.program_frame.specs.declared.stop.Stop.{Stop}

-- these bytes were read of the file, up to this place
pub record AreRead (name : List ℕ) (shelf : ShelfState) (at : ℕ) (fed : List ℕ) : Type 0 where
  pub place : length fed ≡ at
  pub front : IsReadSoFar shelf.holds name fed
  pub within : at ≤ trace_limit + 1

-- the bytes that were read up to this place have no fault: only then is the file read on
pub record MayReadOn (name : List ℕ) (shelf : ShelfState) (at : ℕ) : Type 0 where
  pub fed : List ℕ
  pub read : AreRead name shelf at fed
  pub faultless : fault_in fed ≡ None

-- a chunk of at least one byte was read
pub record IsChunk (at at' : ℕ) (chunk : List ℕ) : Type 0 where
  pub some : 1 ≤ length chunk
  pub short : length chunk < 2 ^ 32
  pub place : at' ≡ at + length chunk
  pub within : at' ≤ trace_limit + 1

-- no chunk was read, and the place is as before
abbrev pub IsNoChunk : (at at' : ℕ) (chunk : List ℕ) → Type 0
IsNoChunk at at' chunk = (at' ≡ at) × (chunk ≡ [])

-- the next chunk, whatever was read before; or the file was read whole, or not
abbrev pub NextChunk : List ℕ → ShelfState → ShelfState → ℕ → ℕ → List ℕ → Result Bool Stop → Type 0
NextChunk name shelf shelf' at at' chunk (Ok true) =
    IsChunk at at' chunk
    × (shelf' ≡ shelf)
    × ((fed : List ℕ) → AreRead name shelf at fed → AreRead name shelf at' (fed ++ chunk))
NextChunk name shelf shelf' at at' chunk (Ok false) =
    IsNoChunk at at' chunk
    × ((fed : List ℕ) → AreRead name shelf at fed → ReadsWhole name trace_limit shelf shelf' fed)
NextChunk name shelf shelf' at at' chunk (Err stop) =
    IsNoChunk at at' chunk × FailsToRead Traces name shelf shelf' stop
