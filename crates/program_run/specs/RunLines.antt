-- The lines by which a run refuses, and what a run promises.
use Rattle.std.specs.Prelude.{◌≡◌, ◌⊎◌, ℕ, List, Err, String}
use Rattle.edge_io.specs.State.{ShelfState, SinkState}
use Rattle.program_frame.specs.Promises.{Promises}
use Rattle.program_frame.specs.Refusals.{refusal_lines}
use Rattle.road_network.specs.Net.{Net}
use Rattle.road_network.specs.declared.limits.NetworkLimits.{NetworkLimits}
use Rattle.trace_reader.specs.declared.trace.Trace.{Trace}
use Rattle.trace_match.specs.Setting.{Setting}
use Rattle.check_work.specs.Check.{check_said}
use Rattle.table_work.specs.Preload.{table_file_said}
use Rattle.prove_work.specs.Prove.{certificate_too_long}
use Rattle.follow_work.specs.Streams.{too_long_line}
use Rattle.table_work.specs.Table.{table_too_long}
use Rattle.program_run.specs.Words.{asked_plan_within}

-- those of words, networks and traces, that of an id that is too long, those of a table and a certificate
-- that are too long, those of a table file, and those of a certificate that is refused
abbrev pub run_lines : ℕ → List ℕ → Type 0
run_lines status line =
    refusal_lines status line
    ⊎ ((status ≡ 6) × ((id : ℕ) × (line ≡ too_long_line id)))
    ⊎ ((status ≡ 8) × ((line ≡ table_too_long) ⊎ (line ≡ certificate_too_long)))
    ⊎ ((status ≡ 9)
    × ((net : Net) × (bound : ℕ) × (bytes : List ℕ) × (table_file_said net bound bytes ≡ Err line)))
    ⊎ ((status ≡ 7)
    × ((on : Setting) × (traces : List Trace) × (bytes : List ℕ)
    × (check_said on traces bytes ≡ Err line)))

-- the promises of a run of these words, within these limits of the network
abbrev pub PromisesWithin : {Z : Type 0} → NetworkLimits → List (String Z)
    → (shelf shelf' : ShelfState) (out out' err err' : SinkState) → ℕ → Type 0
PromisesWithin limits words = Promises run_lines (asked_plan_within limits words)
