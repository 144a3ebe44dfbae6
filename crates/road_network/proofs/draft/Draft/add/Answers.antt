use Rattle.std.proofs.Common.{◌≡◌, ◌+◌, ◌++◌, ◌∷◌, [], ◌∙◌, true, false, not, None, Ok, refl, length, sym, ap, rules, arith}
use Rattle.std.proofs.lemmas.Result.{err_from_is_err_and}
use Rattle.road_network.specs.inside.Drafted.{drafted}
use Rattle.road_network.specs.NetworkFile.{first_fault, has_name, line_faults, nodes_with, place_of, with_node, with_row}
use Rattle.road_network.specs.inside.Rows.{row_with}
use Rattle.road_network.specs.Net.{point_count}
use Rattle.road_network.specs.inside.Stored.{edge_of, net_of}
use Rattle.road_network.specs.declared.StoredEdge.{StoredEdge}
use Rattle.road_network.proofs.Names.{mentioned, stays-at}
use Rattle.std.proofs.lemmas.List.{length-map}
use Rattle.road_network.proofs.Growing.{IsFaultless, accepted, limits_with, refused-limit, refused-line, refused-name}
use Rattle.road_network.proofs.Stored.{IsStoredRow, edges-more, grown, limits-are, name-known, names-more, net-grown, new-name, offsets-grown, old-name, points-more}
use Rattle.road_network.proofs.draft.Draft.add.Goals as goal

pub returns-then-not-is_new-clause-fault : goal.returns-then-not-is_new-clause-fault
returns-then-not-is_new-clause-fault c =
    let d = c.args.self.now in
    let names-known = name-known d.nodes.keys d.edges d.points c.args.head.now.name in
    let old : has_name (drafted d) c.args.head.now.name ≡ true = old-name c.in_ok-is_new.is_new _ ((rw c.as_slice.ensures at c.in_ok-is_new.ensures.new) ∙ ap not names-known) (search rules) in
    λ _. rw c.next_record-rec.ensures (refused-name c.args.limits (drafted d) (row_with c.args.head.now c.args.line.now) old)

pub returns-in_err-length-clause-fault : goal.returns-in_err-length-clause-fault
returns-in_err-length-clause-fault c =
    let d = c.args.self.now in
    let r = row_with c.args.head.now c.args.line.now in
    let names-known = name-known d.nodes.keys d.edges d.points c.args.head.now.name in
    let new : has_name (drafted d) c.args.head.now.name ≡ false = new-name c.in_ok-is_new.is_new _ ((rw c.as_slice.ensures at c.in_ok-is_new.ensures.new) ∙ ap not names-known) (search rules) in
    let p = err_from_is_err_and c.from_residual-in_err-length.result c.from_residual-in_err-length.ensures.1 in
    let rec = c.next_record-rec.ensures in
    rw (p.1, p.2) (λ known. refused-line c.args.limits (drafted d) r _ new (rw rec at (c.in_err-length.ensures.fault known)))

pub returns-in_err-check_limits-clause-fault : goal.returns-in_err-check_limits-clause-fault
returns-in_err-check_limits-clause-fault c =
    let d = c.args.self.now in
    let n = drafted d in
    let r = row_with c.args.head.now c.args.line.now in
    let names-known = name-known d.nodes.keys d.edges d.points c.args.head.now.name in
    let new : has_name n c.args.head.now.name ≡ false = new-name c.in_ok-is_new.is_new _ ((rw c.as_slice.ensures at c.in_ok-is_new.ensures.new) ∙ ap not names-known) (search rules) in
    let rec = c.next_record-rec.ensures in
    let nodes : c.number_of-2.new.nodes.keys ≡ nodes_with d.nodes.keys r = c.in_ok-to.ensures.nodes ∙ ap (λ k. with_node k r.to) c.in_ok-from.ensures.nodes in
    let edges : c.len.result + 1 ≡ length (with_row n r).edges = omega (arith, c.len.ensures, edges-more n r, length-map d.edges (edge_of d.points)) in
    let points : c.len-first.result + length c.args.line.now ≡ point_count (with_row n r).edges = omega (arith, c.len-first.ensures, points-more n r, c.requires.draft.parts.count) in
    let limits = limits-are c.args.limits n r c.next_record-rec.result (c.len.result + 1) c.len-2.result (c.len-first.result + length c.args.line.now) rec edges (c.len-2.ensures.len ∙ ap (λ k. length k) nodes) points in
    let p = err_from_is_err_and c.from_residual-in_err-check_limits.result c.from_residual-in_err-check_limits.ensures.1 in
    let line : first_fault (line_faults (length n.edges + 1) r.line) ≡ None = rw rec at c.in_ok-length.ensures.ok.faultless in
    rw (p.1, p.2) (λ _. refused-limit c.args.limits n r _ new line (ap (λ k. first_fault k) (sym limits) ∙ c.in_err-check_limits.ensures.fault))

pub returns-clause-ok : goal.returns-clause-ok
returns-clause-ok c =
    let d = c.args.self.now in
    let n = drafted d in
    let r = row_with c.args.head.now c.args.line.now in
    let names-known = name-known d.nodes.keys d.edges d.points c.args.head.now.name in
    let new : has_name n c.args.head.now.name ≡ false = new-name c.in_ok-is_new.is_new _ ((rw c.as_slice.ensures at c.in_ok-is_new.ensures.new) ∙ ap not names-known) (search rules) in
    let rec = c.next_record-rec.ensures in
    let nodes : c.number_of-2.new.nodes.keys ≡ nodes_with d.nodes.keys r = c.in_ok-to.ensures.nodes ∙ ap (λ k. with_node k r.to) c.in_ok-from.ensures.nodes in
    let edges : c.len.result + 1 ≡ length (with_row n r).edges = omega (arith, c.len.ensures, edges-more n r, length-map d.edges (edge_of d.points)) in
    let points : c.len-first.result + length c.args.line.now ≡ point_count (with_row n r).edges = omega (arith, c.len-first.ensures, points-more n r, c.requires.draft.parts.count) in
    let limits = limits-are c.args.limits n r c.next_record-rec.result (c.len.result + 1) c.len-2.result (c.len-first.result + length c.args.line.now) rec edges (c.len-2.ensures.len ∙ ap (λ k. length k) nodes) points in
    let line : first_fault (line_faults (length n.edges + 1) r.line) ≡ None = rw rec at c.in_ok-length.ensures.ok.faultless in
    let fits : first_fault (limits_with c.args.limits n r) ≡ None = ap (λ k. first_fault k) (sym limits) ∙ c.in_ok-check_limits.ensures.ok in
    let faultless : IsFaultless c.args.limits n r = record { named = new; line = line; limits = fits; within = c.requires.within } in
    let start : c.in_ok-from.from.0 ≡ place_of (nodes_with d.nodes.keys r) r.«from» =
    c.in_ok-from.ensures.place ∙ ap (λ k. place_of k r.«from») c.in_ok-from.ensures.nodes
    ∙ sym (stays-at (with_node d.nodes.keys r.«from») r.«from» r.to (mentioned d.nodes.keys r.«from»)) in
    let stop : c.in_ok-to.to.0 ≡ place_of (nodes_with d.nodes.keys r) r.to = c.in_ok-to.ensures.place ∙ ap (λ k. place_of k r.to) nodes in
    let e : StoredEdge = record { name = c.args.head.now.name; from = c.in_ok-from.from; to = c.in_ok-to.to; length = c.in_ok-length.length; first = c.len-first.result; end = c.len-first.result + length c.args.line.now } in
    let stored : IsStoredRow (nodes_with d.nodes.keys r) d.points r e =
    record { name = refl; start = start; stop = stop; measured = c.in_ok-length.ensures.ok.measured; first = c.len-first.ensures; end = omega (arith, c.len-first.ensures) } in
    let all = grown c.args.limits d.nodes.keys d.edges d.points r e c.requires.draft.parts faultless stored in
    let net = net-grown d.nodes.keys d.edges d.points r e c.requires.draft.parts.stored stored in
    record {
      network = accepted c.args.limits n r new line fits
          ∙ ap (λ k. Ok k) (sym (ap (λ k. net_of k c.push.new.self c.extend_from_slice.new.self) nodes
          ∙ ap (λ k. net_of (nodes_with d.nodes.keys r) k c.extend_from_slice.new.self) c.in_ok-push.ensures.ok
          ∙ ap (λ k. net_of (nodes_with d.nodes.keys r) (d.edges ++ e ∷ []) k) c.in_ok-extend_from_slice.ensures.ok
          ∙ net));
      draft = record {
        parts = rw (nodes, c.in_ok-push.ensures.ok, c.in_ok-extend_from_slice.ensures.ok) all;
        names = rw (c.in_ok-push.ensures.ok, names-more d.edges e c.args.head.now.name refl) (rw c.as_slice.ensures at c.in_ok-is_new.ensures.names);
        offsets = rw (c.in_ok-push.ensures.ok, c.in_ok-extend_from_slice.ensures.ok, c.in_ok-length.ensures.ok.offsets)
            (offsets-grown d.nodes.keys d.points d.edges d.offsets r e c.requires.draft.parts.stored c.requires.draft.offsets stored);
      };
    }

pub returns-in_err-is_new-clause-ok : goal.returns-in_err-is_new-clause-ok
returns-in_err-is_new-clause-ok c = let p = err_from_is_err_and c.from_residual.result c.from_residual.ensures.1 in rw p.1 tt

pub returns-in_err-is_new-clause-fault : goal.returns-in_err-is_new-clause-fault
returns-in_err-is_new-clause-fault c = let p = err_from_is_err_and c.from_residual.result c.from_residual.ensures.1 in rw (p.1, p.2) (λ known. absurd (known c.in_err-is_new.ensures.memory))

pub returns-in_err-length-clause-ok : goal.returns-in_err-length-clause-ok
returns-in_err-length-clause-ok c = let p = err_from_is_err_and c.from_residual-in_err-length.result c.from_residual-in_err-length.ensures.1 in rw p.1 tt

pub returns-in_err-from-clause-ok : goal.returns-in_err-from-clause-ok
returns-in_err-from-clause-ok c = let p = err_from_is_err_and c.from_residual-in_err-from.result c.from_residual-in_err-from.ensures.1 in rw p.1 tt

pub returns-in_err-from-clause-fault : goal.returns-in_err-from-clause-fault
returns-in_err-from-clause-fault c = let p = err_from_is_err_and c.from_residual-in_err-from.result c.from_residual-in_err-from.ensures.1 in rw (p.1, p.2) (λ known. absurd (known c.in_err-from.ensures.memory))

pub returns-in_err-to-clause-ok : goal.returns-in_err-to-clause-ok
returns-in_err-to-clause-ok c = let p = err_from_is_err_and c.from_residual-in_err-to.result c.from_residual-in_err-to.ensures.1 in rw p.1 tt

pub returns-in_err-to-clause-fault : goal.returns-in_err-to-clause-fault
returns-in_err-to-clause-fault c = let p = err_from_is_err_and c.from_residual-in_err-to.result c.from_residual-in_err-to.ensures.1 in rw (p.1, p.2) (λ known. absurd (known c.in_err-to.ensures.memory))

pub returns-in_err-check_limits-clause-ok : goal.returns-in_err-check_limits-clause-ok
returns-in_err-check_limits-clause-ok c = let p = err_from_is_err_and c.from_residual-in_err-check_limits.result c.from_residual-in_err-check_limits.ensures.1 in rw p.1 tt

pub returns-in_err-extend_from_slice-clause-ok : goal.returns-in_err-extend_from_slice-clause-ok
returns-in_err-extend_from_slice-clause-ok c = let p = err_from_is_err_and c.from_residual-in_err-extend_from_slice.result c.from_residual-in_err-extend_from_slice.ensures.1 in rw p.1 tt

pub returns-in_err-extend_from_slice-clause-fault : goal.returns-in_err-extend_from_slice-clause-fault
returns-in_err-extend_from_slice-clause-fault c = let p = err_from_is_err_and c.from_residual-in_err-extend_from_slice.result c.from_residual-in_err-extend_from_slice.ensures.1 in rw (p.1, p.2) (λ known. absurd (known refl))

pub returns-in_err-push-clause-ok : goal.returns-in_err-push-clause-ok
returns-in_err-push-clause-ok c = let p = err_from_is_err_and c.from_residual-in_err-push.result c.from_residual-in_err-push.ensures.1 in rw p.1 tt

pub returns-in_err-push-clause-fault : goal.returns-in_err-push-clause-fault
returns-in_err-push-clause-fault c = let p = err_from_is_err_and c.from_residual-in_err-push.result c.from_residual-in_err-push.ensures.1 in rw (p.1, p.2) (λ known. absurd (known refl))
