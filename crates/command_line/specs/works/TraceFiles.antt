-- `follow NET TRACES`, `prove NET TRACES`.
use Rattle.std.specs.Prelude.{ℕ, List, [], ◌∷◌, codes, Option, Some, Result, Ok, Err}
use Rattle.command_line.specs.Options.{and_then}
use Rattle.command_line.specs.Work.{PlainWork, WorkKind}
use Rattle.command_line.specs.Work.PlainWork.{follow_files, prove_files}
use Rattle.command_line.specs.declared.fault.WordsFault.{WordsFault}
use Rattle.command_line.specs.declared.fault.WordsFault.TheVariants.{Usage}

abbrev pub both_names : Option (List ℕ) → Option (List ℕ) → Result (List ℕ × List ℕ) WordsFault
both_names (Some network) (Some traces) = Ok (network, traces)
both_names _ _ = Err Usage

-- the names of the network file and the trace file, of what the words give for each name
abbrev pub file_names : (List ℕ → Option (List ℕ)) → Result (List ℕ × List ℕ) WordsFault
file_names text = both_names (text (codes "NET")) (text (codes "TRACES"))

-- a command that takes the names of these two files
abbrev pub trace_files_kind : List ℕ → (List ℕ → List ℕ → PlainWork) → WorkKind
trace_files_kind name make = record {
  name = name;
  options = [];
  arguments = codes "NET" ∷ codes "TRACES" ∷ [];
  work = λ text. and_then (file_names text) (λ names. Ok (make names.0 names.1));
}

abbrev pub follow_kind : WorkKind
follow_kind = trace_files_kind (codes "follow") follow_files

abbrev pub prove_kind : WorkKind
prove_kind = trace_files_kind (codes "prove") prove_files
