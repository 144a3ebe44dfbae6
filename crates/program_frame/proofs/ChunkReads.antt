-- One read of a trace file.
use Rattle.std.proofs.Common.{◌≡◌, ℕ, ◌+◌, ◌<◌, ◌≤◌, Bool, true, false, List, [], ◌++◌, length, Ok, refl, sym, subst, arith, length-append}
use Rattle.std.specs.declared.option.Option.{Option}
use Rattle.edge_io.specs.Shelf.{Reads}
use Rattle.edge_io.specs.State.{ShelfState}
use Rattle.edge_io.specs.declared.shelf.Taken.{Taken}
use Rattle.edge_io.specs.declared.shelf.Taken.TheVariants.{End, Got}
use Rattle.program_frame.specs.Chunks.{AreRead, NextChunk}
use Rattle.program_frame.specs.Read.{ReadsWhole}
use Rattle.program_frame.specs.Refusals.{trace_limit}
use Rattle.program_frame.proofs.Streaming.{read_end, read_full, read_more}

-- a read into an empty buffer
pub reads_into : (told : Option (List ℕ → Option (List ℕ))) (name : List ℕ) (at : ℕ) (old chunk : List ℕ) (t : Taken) → old ≡ [] → Reads told name at old chunk t → Reads told name at [] chunk t
reads_into told name at old chunk t empty reads = subst (λ o. Reads told name at o chunk t) empty reads

-- a chunk came
pub chunk_read : (name : List ℕ) (shelf : ShelfState) (at n : ℕ) (chunk : List ℕ) → length chunk ≡ n → at + n ≤ trace_limit + 1 → Reads shelf.holds name at [] chunk (Got n) → (fed : List ℕ) → AreRead name shelf at fed → AreRead name shelf (at + n) (fed ++ chunk)
chunk_read name shelf at n chunk long within reads fed read = record {
  place = omega (arith, length-append fed chunk, read.place, long);
  front = read_more shelf.holds name fed chunk n read.front (subst (λ a. Reads shelf.holds name a [] chunk (Got n)) (sym read.place) reads);
  within = within;
}

-- the end was told
pub end_read : (name : List ℕ) (shelf shelf' : ShelfState) (at : ℕ) (chunk : List ℕ) → at ≤ trace_limit → shelf' ≡ shelf → Reads shelf.holds name at [] chunk End → (fed : List ℕ) → AreRead name shelf at fed → ReadsWhole name trace_limit shelf shelf' fed
end_read name shelf shelf' at chunk low same reads fed read =
    (read_end trace_limit shelf.holds name fed chunk read.front (omega (arith, read.place, low)) (subst (λ a. Reads shelf.holds name a [] chunk End) (sym read.place) reads), same)

-- the first byte above the limit was read
pub limit_read : (name : List ℕ) (shelf : ShelfState) (at : ℕ) → trace_limit < at → (fed : List ℕ) → AreRead name shelf at fed → ReadsWhole name trace_limit shelf shelf fed
limit_read name shelf at above fed read =
    (read_full trace_limit shelf.holds name fed read.front (omega (arith, read.place, read.within, above)), refl)

-- a chunk came, on a shelf that is as it was at first
pub next_read : (name : List ℕ) (first shelf shelf' : ShelfState) (at at' : ℕ) (items chunk : List ℕ) (more : Bool) → shelf ≡ first → chunk ≡ items → more ≡ true → NextChunk name shelf shelf' at at' items (Ok more) → NextChunk name first shelf' at at' chunk (Ok true)
next_read name first shelf shelf' at at' items chunk more same is came next =
    subst (λ s. NextChunk name s shelf' at at' chunk (Ok true)) same (subst (λ l. NextChunk name shelf shelf' at at' l (Ok true)) (sym is) (subst (λ m. NextChunk name shelf shelf' at at' items (Ok m)) came next))

-- none came, and so the file was read whole
pub next_whole : (name : List ℕ) (first shelf shelf' : ShelfState) (at at' : ℕ) (items : List ℕ) (more : Bool) → shelf ≡ first → more ≡ false → NextChunk name shelf shelf' at at' items (Ok more) → (fed : List ℕ) → AreRead name first at fed → ReadsWhole name trace_limit first shelf' fed
next_whole name first shelf shelf' at at' items more same ended next =
    (subst (λ s. NextChunk name s shelf' at at' items (Ok false)) same (subst (λ m. NextChunk name shelf shelf' at at' items (Ok m)) ended next)).1
