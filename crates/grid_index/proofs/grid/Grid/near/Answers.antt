use Rattle.std.proofs.Common.{flat_map, All, ap, ◌∙◌, subst, sym}
use Rattle.std.specs.List.{Contains}
use Rattle.road_network.specs.Net.{Net, HasEdge}
use Rattle.road_network.specs.declared.EdgeId.{EdgeId}
use Rattle.grid_index.specs.GridOf.{AreHits}
use Rattle.grid_index.specs.Runs.{edges_of_run}
use Rattle.grid_index.proofs.Gathering.{all_edges, all_within, hits_edge, run_has}
use Rattle.grid_index.proofs.grid.Grid.near.Goals as goal

pub returns-clause-edges : goal.returns-clause-edges
returns-clause-edges c =
    let net : Net = c.args.self.now.net in
    let P = λ (e : EdgeId). HasEdge net e.0 in
    let is = c.in_ok-edges.ensures ∙ ap (flat_map edges_of_run) c.as_slice.ensures.value in
    let edges : All P c.in_ok-edges.edges.items = subst (All P) (sym is) (all_edges P c.in_ok-runs.runs.items (λ k d lt. run_has net _ (c.in_ok-runs.ensures.are_runs k d lt))) in
    subst (All P) (sym c.from_vec.ensures) (all_within P c.in_order.result.items c.in_ok-edges.edges.items c.in_order.ensures.no_others edges)

pub returns-clause-complete : goal.returns-clause-complete
returns-clause-complete c = λ e has meets.
    let is = c.in_ok-edges.ensures ∙ ap (flat_map edges_of_run) c.as_slice.ensures.value in
    let hits = subst (λ v. AreHits c.args.self.now c.args.p c.args.reach v c.in_ok-runs.runs.items) c.corner_distance2-far2.ensures c.in_ok-runs.ensures in
    let there = hits_edge c.args.self.now c.args.p c.args.reach e c.in_ok-runs.runs.items hits has meets in
    let found = subst (λ xs. Contains xs (record { 0 = e })) (sym is) there in
    subst (λ xs. Contains xs (record { 0 = e })) (sym c.from_vec.ensures) (c.in_order.ensures.keeps (record { 0 = e }) found)

pub hits-requires-clause-p_in : goal.hits-requires-clause-p_in
hits-requires-clause-p_in c = c.requires.p_in

pub hits-requires-clause-reach : goal.hits-requires-clause-reach
hits-requires-clause-reach c = c.requires.reach
