use Rattle.std.proofs.lemmas.Result.{err_from_is_err_and}
use Rattle.std.proofs.Common.{◌≡◌, ◌∙◌, ℕ, List, ap, length, vec_len, rules, refl}
use Rattle.road_network.proofs.Finished.{begin-below, finished}
use Rattle.road_network.proofs.draft.Draft.finish.Goals as goal

pub adjacency_of-requires-clause-begin : goal.adjacency_of-requires-clause-begin
adjacency_of-requires-clause-begin c =
    let d = c.args.self in
    let nodes : c.in_ok-nodes.nodes.items ≡ d.nodes.keys = search rules in
    let long : vec_len c.in_ok-nodes.nodes ≡ length c.in_ok-nodes.nodes.items = search rules in
    let count : c.len.result ≡ length d.nodes.keys = c.len.ensures ∙ long ∙ ap (λ (l : List ℕ). length l) nodes in
    rw (c.as_slice-2.ensures, count) (begin-below d.nodes.keys d.edges d.points c.requires.parts.lawful)

pub invariant_of-result : goal.invariant_of-result
invariant_of-result c =
    let d = c.args.self in
    let nodes : c.in_ok-nodes.nodes.items ≡ d.nodes.keys = search rules in
    let edges : c.into_vec.result.items ≡ d.edges = search rules in
    let points : c.into_vec-2.result.items ≡ d.points = search rules in
    let offsets : c.into_vec-3.result.items ≡ d.offsets = search rules in
    let long : vec_len c.in_ok-nodes.nodes ≡ length c.in_ok-nodes.nodes.items = search rules in
    let count : c.len.result ≡ length d.nodes.keys = c.len.ensures ∙ long ∙ ap (λ (l : List ℕ). length l) nodes in
    let a = rw (c.as_slice-2.ensures, count) at c.in_ok-adjacency.ensures in
    let kept = c.in_ok-adjacency.adjacency in
    record {
      lawful = rw (nodes, edges, points) c.requires.parts.lawful;
      stored = rw (edges, points) c.requires.parts.stored;
      offsets = rw (edges, points, offsets) c.requires.offsets;
      starts = rw nodes a.starts.count;
      lists = rw (nodes, edges, points) (finished d.nodes.keys d.edges d.points kept.starts.items kept.leaving.items a.starts a.placed);
      arcs = rw (nodes, edges, points) (a.arcs d.points c.requires.parts.stored);
    }

pub returns-in_err-adjacency-clause-network : goal.returns-in_err-adjacency-clause-network
returns-in_err-adjacency-clause-network c = let p = err_from_is_err_and c.from_residual-in_err-adjacency.result c.from_residual-in_err-adjacency.ensures.1 in rw p.1 tt

pub returns-in_err-adjacency-clause-memory : goal.returns-in_err-adjacency-clause-memory
returns-in_err-adjacency-clause-memory c = let p = err_from_is_err_and c.from_residual-in_err-adjacency.result c.from_residual-in_err-adjacency.ensures.1 in rw (p.1, p.2) refl

pub returns-in_err-nodes-clause-network : goal.returns-in_err-nodes-clause-network
returns-in_err-nodes-clause-network c = let p = err_from_is_err_and c.from_residual.result c.from_residual.ensures.1 in rw p.1 tt

pub returns-in_err-nodes-clause-memory : goal.returns-in_err-nodes-clause-memory
returns-in_err-nodes-clause-memory c = let p = err_from_is_err_and c.from_residual.result c.from_residual.ensures.1 in rw (p.1, p.2) refl
