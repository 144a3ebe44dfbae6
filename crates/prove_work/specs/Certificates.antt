-- The certificate of the matches of traces.
use Rattle.std.specs.Prelude.{List, map}
use Rattle.bounded_table.specs.RowValue.{rows_where}
use Rattle.bounded_table.specs.Table.{TableRow}
use Rattle.cost_model.specs.declared.params.Params.{Params}
use Rattle.trace_match.specs.Setting.{Setting}
use Rattle.trace_match.specs.Totals.{is_asked_by}
use Rattle.potential_certificate.specs.declared.proof.Certificate.{Certificate}
use Rattle.potential_certificate.specs.declared.proof.TraceProof.{TraceProof}
use Rattle.road_network.specs.Net.{Net}
use Rattle.trace_match.specs.Match.{match_of, solution_of}
use Rattle.trace_reader.specs.declared.trace.Trace.{Trace}

-- the proof of a trace: the ranks, the cells and the routed pieces of its match
abbrev pub proof_of : Net → Params → Trace → TraceProof
proof_of n p trace = record {
  id = trace.id;
  ranks = (solution_of n p trace).ranks;
  tables = (solution_of n p trace).tables;
  pieces = (match_of n p trace).pieces;
}

-- the rows of the nodes that some of these traces ask for
abbrev pub asked_rows : Setting → List Trace → List TableRow
asked_rows on traces = rows_where on.network on.params.bound (is_asked_by on traces)

-- the proofs of the traces in their order, and the rows that they ask for
abbrev pub certificate_of : Setting → List Trace → Certificate
certificate_of on traces = record {
  proofs = map (proof_of on.network on.params) traces;
  rows = asked_rows on traces;
}
