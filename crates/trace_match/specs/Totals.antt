-- How many pieces traces are matched in, and which rows they ask for.
use Rattle.std.specs.Prelude.{ℕ, Bool, List, length, count_by}
use Rattle.std.specs.List.{list_any, range_with_len, sum_by}
use Rattle.trace_match.specs.Match.{asks, match_of}
use Rattle.trace_match.specs.Setting.{Setting}
use Rattle.trace_reader.specs.declared.trace.Trace.{Trace}

abbrev pub piece_count : Setting → List Trace → ℕ
piece_count on traces = sum_by (λ trace. length (match_of on.network on.params trace).pieces) traces

-- whether one of these traces asks for the row of node v
abbrev pub is_asked_by : Setting → List Trace → ℕ → Bool
is_asked_by on traces v = list_any (λ trace. asks on.network on.params trace v) traces

-- how many nodes of the network the traces ask for, each once
abbrev pub asked_count : Setting → List Trace → ℕ
asked_count on traces = count_by (is_asked_by on traces) (range_with_len 0 (length on.network.nodes))
