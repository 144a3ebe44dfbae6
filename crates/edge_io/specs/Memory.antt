-- What a shelf and a sink in memory are, and what they answer: each fails where it is told to, and
-- gives or takes all it can elsewhere.
use Rattle.std.specs.Prelude.{◌≡◌, ℕ, ◌+◌, ◌-◌, ◌^◌, ◌/◌, ◌==◌, ◌⊎◌, min, nat_lt, if◌then◌else◌, Bool, true, false, List, [], ◌++◌, length, take, Some, None}
use Rattle.std.specs.declared.option.Option.{Option}
use Rattle.std.specs.List.{list_any}
use Rattle.edge_io.specs.Files.{lookup}
use Rattle.edge_io.specs.Shelf.{IsNotRead, shelf_after}
use Rattle.edge_io.specs.State.{ShelfState, SinkState}
use Rattle.edge_io.specs.declared.shelf.Taken.{Taken}
use Rattle.edge_io.specs.declared.shelf.Taken.TheVariants.{Got, End, NoMemory}
use Rattle.edge_io.specs.declared.sink.Put.{Put}
use Rattle.edge_io.specs.declared.sink.Put.TheVariants as puts

-- the numbers of the calls that fail, from 1, and how many calls there were
pub record Script : Type 0 where
  pub fail : List ℕ
  pub calls : ℕ

-- the count of calls stays at its last value
abbrev pub next : Script → Script
next script = record script { calls = min (script.calls + 1) (2 ^ 64 - 1) }

-- the next call is to fail
abbrev pub fails_next : Script → Bool
fails_next script = list_any (λ n. n == (next script).calls) script.fail

-- a shelf of these files, of which a call gives at most this many bytes
pub record FilesInMemory : Type 0 where
  pub files : List (List ℕ × List ℕ)
  pub failed : List (List ℕ)
  pub script : Script
  pub most : ℕ

abbrev pub state_of_files : FilesInMemory → ShelfState
state_of_files shelf = record { holds = Some (lookup shelf.files); failed = shelf.failed }

abbrev pub new_files : List (List ℕ × List ℕ) → List ℕ → ℕ → FilesInMemory
new_files files fail most =
    record { files = files; failed = []; script = record { fail = fail; calls = 0 }; most = most }

-- a file gives what it has from the place on, at most as many bytes as asked for
abbrev pub ServesFile : List ℕ → ℕ → ℕ → Taken → Type 0
ServesFile file at most taken =
    (taken ≡ NoMemory)
    ⊎ (taken ≡ (if nat_lt at (length file) then Got (min most (length file - at)) else End))

-- the answer of a call that is to fail or not, for this file
abbrev pub Serves : Bool → Option (List ℕ) → ℕ → ℕ → Taken → Type 0
Serves true file at most taken = IsNotRead taken
Serves false None at most taken = IsNotRead taken
Serves false (Some file) at most taken = ServesFile file at most taken

-- the shelf after a call for this name
abbrev pub files_after : Taken → List ℕ → FilesInMemory → FilesInMemory
files_after taken name shelf = record shelf {
  failed = (shelf_after taken name (state_of_files shelf)).failed;
  script = next shelf.script;
}

-- a sink in memory, with what was written and the count of its faults
pub record BytesInMemory : Type 0 where
  pub bytes : List ℕ
  pub faults : ℕ
  pub script : Script

abbrev pub state_of_bytes : BytesInMemory → SinkState
state_of_bytes sink = record { written = Some sink.bytes; faults = sink.faults }

abbrev pub new_bytes : List ℕ → BytesInMemory
new_bytes fail = record { bytes = []; faults = 0; script = record { fail = fail; calls = 0 } }

-- a put that is to fail or not, and what was written after it: half of the text, where it failed
abbrev pub Takes : Bool → List ℕ → BytesInMemory → BytesInMemory → Put → Type 0
Takes true text old new put =
    ((put ≡ puts.NoMemory) × (new ≡ record old { script = next old.script }))
    ⊎ ((put ≡ puts.Failed) × (new ≡ record {
      bytes = old.bytes ++ take (length text / 2) text;
      faults = min (old.faults + 1) (2 ^ 64 - 1);
      script = next old.script;
    }))
Takes false text old new put =
    ((put ≡ puts.NoMemory) × (new ≡ record old { script = next old.script }))
    ⊎ ((put ≡ puts.All) × (new ≡ record old {
      bytes = old.bytes ++ text;
      script = next old.script;
    }))
