-- A file that is read whole.
use Rattle.std.specs.Prelude.{◌≡◌, ℕ, List, [], length, take, Some, None, IfSome}
use Rattle.std.specs.declared.option.Option.{Option}
use Rattle.edge_io.specs.Shelf.{noted}
use Rattle.edge_io.specs.State.{ShelfState}
use Rattle.program_frame.specs.Outcome.{bytes_seen}
use Rattle.program_frame.specs.declared.stop.File.{File}
use Rattle.program_frame.specs.declared.stop.Stop.{Stop}
use Rattle.program_frame.specs.declared.stop.Stop.TheVariants.{Refused, NoMemory, Unread, Unwritten}

-- these bytes are the front of the file; none, where it is not held
abbrev pub IsFront : List ℕ → Option (List ℕ) → Type 0
IsFront bytes None = bytes ≡ []
IsFront bytes (Some file) = bytes ≡ take (length bytes) file

abbrev pub IsReadSoFar : Option (List ℕ → Option (List ℕ)) → List ℕ → List ℕ → Type 0
IsReadSoFar told name bytes = IfSome told (λ files. IsFront bytes (files name))

-- the file was read to its end or to the first byte above the limit
abbrev pub IsReadWhole : Option (List ℕ → Option (List ℕ)) → List ℕ → ℕ → List ℕ → Type 0
IsReadWhole told name limit bytes = IfSome told (λ files. bytes_seen limit (files name) ≡ Some bytes)

-- a read of this name failed, and was noted
abbrev pub Notes : ShelfState → ShelfState → List ℕ → Type 0
Notes shelf shelf' name = shelf' ≡ noted name shelf

-- how the read of a whole file fails
abbrev pub FailsToRead : File → List ℕ → ShelfState → ShelfState → Stop → Type 0
FailsToRead file name shelf shelf' (Refused refusal line) = ⊥
FailsToRead file name shelf shelf' NoMemory = shelf' ≡ shelf
FailsToRead file name shelf shelf' (Unread f) = (f ≡ file) × Notes shelf shelf' name
FailsToRead file name shelf shelf' Unwritten = ⊥

-- the read of a whole file: its bytes, and a shelf as before
abbrev pub ReadsWhole : List ℕ → ℕ → ShelfState → ShelfState → List ℕ → Type 0
ReadsWhole name limit shelf shelf' bytes =
    IsReadWhole shelf.holds name limit bytes × (shelf' ≡ shelf)
