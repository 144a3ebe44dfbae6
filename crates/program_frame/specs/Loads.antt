-- A file that is read whole and accepted or refused.
use Rattle.std.specs.Prelude.{◌≡◌, ℕ, List, Result, Ok, Err}
use Rattle.edge_io.specs.State.{ShelfState}
use Rattle.program_frame.specs.Read.{FailsToRead, ReadsWhole}
use Rattle.program_frame.specs.declared.stop.File.{File}
use Rattle.program_frame.specs.declared.stop.Refusal.{Refusal}
use Rattle.program_frame.specs.declared.stop.Stop.{Stop}
use Rattle.program_frame.specs.declared.stop.Stop.TheVariants.{Refused, NoMemory, Unread, Unwritten}

-- how bytes are not accepted: this refusal with its line, or want of memory
abbrev pub RefusesLoad : {A : Type 0} → Refusal → Result A (List ℕ) → Stop → Type 0
RefusesLoad refusal said (Refused r line) = (r ≡ refusal) × (said ≡ Err line)
RefusesLoad refusal said NoMemory = Unit {0}
RefusesLoad refusal said (Unread file) = ⊥
RefusesLoad refusal said Unwritten = ⊥

-- the file was read to bytes that say this value
pub record Loaded {A : Type 0} (name : List ℕ) (limit : ℕ) (said : List ℕ → Result A (List ℕ))
    (shelf shelf' : ShelfState) (value : A) : Type 0 where
  pub bytes : List ℕ
  pub whole : ReadsWhole name limit shelf shelf' bytes
  pub is : said bytes ≡ Ok value

-- the file was read to bytes that were refused, or was not read
abbrev pub LoadFault : {A : Type 0} → Refusal → File → List ℕ → ℕ → (List ℕ → Result A (List ℕ))
    → ShelfState → ShelfState → Stop → Type 0
LoadFault refusal file name limit said shelf shelf' (Refused r line) =
    (bytes : List ℕ)
    × ReadsWhole name limit shelf shelf' bytes
    × RefusesLoad refusal (said bytes) (Refused r line)
LoadFault refusal file name limit said shelf shelf' NoMemory = shelf' ≡ shelf
LoadFault refusal file name limit said shelf shelf' (Unread f) =
    FailsToRead file name shelf shelf' (Unread f)
LoadFault refusal file name limit said shelf shelf' Unwritten = ⊥

pub record FailsToLoad {A : Type 0} (refusal : Refusal) (file : File) (name : List ℕ) (limit : ℕ)
    (said : List ℕ → Result A (List ℕ)) (shelf shelf' : ShelfState) (stop : Stop) : Type 0 where
  pub fault : LoadFault refusal file name limit said shelf shelf' stop

-- the load of a file, by how it ended
abbrev pub Loads : {A : Type 0} → Refusal → File → List ℕ → ℕ → (List ℕ → Result A (List ℕ))
    → ShelfState → ShelfState → Result A Stop → Type 0
Loads refusal file name limit said shelf shelf' (Ok value) =
    Loaded name limit said shelf shelf' value
Loads refusal file name limit said shelf shelf' (Err stop) =
    FailsToLoad refusal file name limit said shelf shelf' stop
