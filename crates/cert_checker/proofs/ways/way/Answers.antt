use Rattle.std.proofs.Common.{◌≡◌, ◌-◌, ℕ, List, Some, true≢false, slice_index_or, sym, ap, ◌∙◌, subst}
use Rattle.road_network.specs.declared.Candidate.{Candidate}
use Rattle.road_network.specs.Net.{target}
use Rattle.bounded_table.specs.Table.{IsRow, TableRow}
use Rattle.matching.specs.declared.parts.Cell.{Cell}
use Rattle.matching.specs.Cells.{cell_at}
use Rattle.matching.specs.Layers.{end_of}
use Rattle.cert_checker.specs.Case.{has_row, layer, table}
use Rattle.cert_checker.specs.inside.CaseSeen.{case_seen}
use Rattle.cert_checker.proofs.ReadyPoints.{row_there}
use Rattle.cert_checker.proofs.RightRows.{no_row}
use Rattle.cert_checker.proofs.RowsAtPlaces.{row_at_place}
use Rattle.cert_checker.proofs.ways.way.Goals as goal

pub returns-in_err-place : goal.returns-in_err-place
returns-in_err-place c =
    let s = case_seen c.args.case.now in
    let live : (cell_at (table s (c.args.i - 1)) c.args.a).cost ≡ Some c.in_ok-cost.cost = ap (λ (cells : List Cell). (cell_at cells c.args.a).cost) (sym c.table.ensures) ∙ c.in_ok-cost.was in
    let node : c.to-end.result.0 ≡ end_of s.net (layer s (c.args.i - 1)) c.args.a = c.to-end.ensures ∙ ap (λ (x : Candidate). target s.net x.edge.0) c.candidate.ensures in
    let there = row_there s c.args.i c.requires.ready c.args.a c.in_ok-cost.cost c.requires.a live in
    absurd (true≢false (sym there ∙ ap (has_row s.rows) (sym node) ∙ sym c.in_err-place.ensures.has))

pub transition_by_row-requires-clause-row : goal.transition_by_row-requires-clause-row
transition_by_row-requires-clause-row c =
    let s = case_seen c.args.case.now in
    let node : c.to-end.result.0 ≡ end_of s.net (layer s (c.args.i - 1)) c.args.a = c.to-end.ensures ∙ ap (λ (x : Candidate). target s.net x.edge.0) c.candidate.ensures in
    let own = row_at_place s.net s.params.bound s.rows c.to-end.result.0 c.in_ok-place.place no_row c.invariants.ensures c.requires.ready.checkable.rows c.in_ok-place.ensures.at in
    subst (λ (row : TableRow). IsRow s.net s.params.bound (end_of s.net (layer s (c.args.i - 1)) c.args.a) row) (c.at.ensures no_row)
    (subst (λ (v : ℕ). IsRow s.net s.params.bound v (slice_index_or s.rows c.in_ok-place.place no_row)) node own)
