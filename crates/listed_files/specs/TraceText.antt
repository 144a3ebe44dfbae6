-- The file that lists traces position by position, and the law that it is read as these traces.
use Rattle.std.specs.Prelude.{◌≡◌, ◌≢◌, ◌<◌, ◌≤◌, ◌^◌, ℕ, List, [], ◌∷◌, ◌++◌, All, length, codes, None}
use Rattle.std.specs.List.{flat_map}
use Rattle.decimal_text.specs.Number.{decimal, signed_decimal}
use Rattle.trace_reader.specs.Reading.{file_fault, file_traces}
use Rattle.trace_reader.specs.Trace.{IsLawfulTrace}
use Rattle.trace_reader.specs.declared.trace.Fix.{Fix}
use Rattle.trace_reader.specs.declared.trace.Trace.{Trace}

-- a position of the trace of this id: `ID,X,Y,TIME`, without its LF
abbrev pub fix_text : ℕ → Fix → List ℕ
fix_text id fix =
    decimal id
    ++ codes ","
    ++ signed_decimal fix.x
    ++ codes ","
    ++ signed_decimal fix.y
    ++ codes ","
    ++ decimal fix.time

-- the lines of a trace
abbrev pub trace_text : Trace → List ℕ
trace_text trace = flat_map (λ fix. fix_text trace.id fix ++ codes "\n") trace.fixes

-- the header, and the lines of each trace
abbrev pub traces_text : List Trace → List ℕ
traces_text traces = codes "trace,x,y,time\n" ++ flat_map trace_text traces

-- a trace has 1 to 100,000 positions in range; its id and times fit 32 bits
pub record IsListedTrace (trace : Trace) : Type 0 where
  pub lawful : IsLawfulTrace trace
  pub id : trace.id < 2 ^ 32
  pub times : All (λ fix. fix.time < 2 ^ 32) trace.fixes

-- no trace has the id of the one before it
abbrev pub DoIdsChange : List Trace → Type 0
DoIdsChange [] = Unit {0}
DoIdsChange (a ∷ []) = Unit {0}
DoIdsChange (a ∷ b ∷ traces) = (a.id ≢ b.id) × DoIdsChange (b ∷ traces)

-- traces that a file of at most 2^40 bytes can list
pub record AreListed (traces : List Trace) : Type 0 where
  pub each : All IsListedTrace traces
  pub change : DoIdsChange traces
  pub bytes : length (traces_text traces) ≤ 2 ^ 40

pub record SaysTraces (traces : List Trace) : Type 0 where
  pub faultless : file_fault (traces_text traces) ≡ None
  pub are : file_traces (traces_text traces) ≡ traces

abbrev pub TracesAreRead : Type 0
TracesAreRead = (traces : List Trace) → AreListed traces → SaysTraces traces
