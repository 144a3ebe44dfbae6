-- A node that is left by its edges: the search goes on without it.
use Rattle.std.proofs.Common.{◌≡◌, ℕ, [], ◌∷◌, ◌++◌, map, length, sym, ap, subst, arith}
use Rattle.std.specs.List.{All}
use Rattle.std.proofs.lemmas.List.Elements.{All-weaker}
use Rattle.road_network.specs.Net.{Net, HasNode, IsLawful, arc_of, leaving}
use Rattle.row_search.specs.declared.dijkstra.Workspace.{Workspace}
use Rattle.row_search.specs.declared.queue.Waiting.{Waiting}
use Rattle.bounded_table.specs.LabelWords.{distance_at}
use Rattle.row_search.specs.inside.Marked.{IsSized, KeepsSizes, MarksToo}
use Rattle.row_search.specs.inside.Searching.{AreMarkedOrWait, Leaves}
use Rattle.bounded_table.specs.LabelWords.{IsTriable}
use Rattle.row_search.specs.inside.Underway.{IsUnderway, NonePending, after_arcs, effort, state_of}
use Rattle.row_search.proofs.AfterArcs.{beside}
use Rattle.bounded_table.proofs.Arcs.{IsLeaving, known_arcs}
use Rattle.row_search.proofs.Leaving.{arcs_effort, node_left}
use Rattle.row_search.proofs.MarkedNodes.{sized_still}
use Rattle.row_search.proofs.Underway.{all_tried}

-- the arcs out of a node can be tried over words of all nodes
pub triable : (n : Net) (u count : ℕ) → IsLawful n → count ≡ length n.nodes → All (IsTriable count) (map (arc_of n) (leaving n u))
triable n u count lawful same =
    All-weaker (IsLeaving n u) (IsTriable count) (λ a leaves. record { end = omega (arith, leaves.end, same); not_long = leaves.not_long }) (map (arc_of n) (leaving n u)) (known_arcs n u lawful)

pub record IsLeftByEdges (n : Net) (x : Waiting) (old new : Workspace) : Type 0 where
  pub lawful : IsLawful n
  pub node : HasNode n x.node
  pub starts : distance_at old.bound old.words.items x.node ≡ x.distance
  pub sized : IsSized (length n.nodes) old
  pub keeps : KeepsSizes old new
  pub marks : MarksToo old.marks x.node new.marks
  pub tried : state_of new ≡ after_arcs old.bound x.distance (map (arc_of n) (leaving n x.node)) (state_of old)

pub left_by_edges : (n : Net) (x : Waiting) (old new : Workspace) → IsLeftByEdges n x old new → Leaves n (x ∷ []) old new
left_by_edges n x old new h = record {
  searching = λ s others going.
      let t = node_left n s old x others new.marks (state_of new) h.lawful h.node h.starts h.marks h.tried going in
      record {
        sized = sized_still (length n.nodes) old new h.sized h.keeps;
        underway = subst (λ (k : ℕ). IsUnderway n k s (beside others (state_of new)) NonePending) (sym h.keeps.bound) (all_tried n old.bound s (beside others (state_of new)) t.underway);
        marked = subst (λ (k : ℕ). AreMarkedOrWait k new.words.items new.marks (others ++ new.queue)) (sym h.keeps.bound) t.marked;
      };
  less = omega (arith, ap effort h.tried, arcs_effort n old.bound x.distance x.node (map (arc_of n) (leaving n x.node)) (state_of old) h.lawful (known_arcs n x.node h.lawful) h.sized.words_count h.starts);
}
