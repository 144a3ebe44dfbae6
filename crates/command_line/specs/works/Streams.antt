-- `streams NET TRACES [--idle S]`.
use Rattle.std.specs.Prelude.{ℕ, [], ◌∷◌, codes, Ok}
use Rattle.command_line.specs.Options.{and_then, option_of}
use Rattle.command_line.specs.Work.{WorkKind}
use Rattle.command_line.specs.Work.PlainWork.{stream_files}
use Rattle.command_line.specs.works.TraceFiles.{file_names}
use Rattle.command_line.specs.declared.value.ValueName.TheVariants.{Idle}

-- no two times of a file are further apart, so that no drive ends before the file does
abbrev pub default_idle : ℕ
default_idle = 4_294_967_295

abbrev pub streams_kind : WorkKind
streams_kind = record {
  name = codes "streams";
  options = codes "idle" ∷ [];
  arguments = codes "NET" ∷ codes "TRACES" ∷ [];
  work = λ text.
      and_then (file_names text) (λ names.
      and_then (option_of Idle default_idle text) (λ idle.
      Ok (stream_files names.0 names.1 idle)));
}
