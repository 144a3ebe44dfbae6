-- What a network's arcs meet, and what trying one leaves.
use Rattle.std.proofs.Common.{◌≡◌, ◌↔◌, ℕ, ◌<◌, ◌≤◌, Bool, cond, List, [], ◌∷◌, Option, Some, length, map, refl, sym, subst, ◌∙◌, arith}
use Rattle.std.proofs.Math.ListN.{get_or-map}
use Rattle.std.proofs.lemmas.List.{length-map}
use Rattle.std.proofs.lemmas.List.Sums.{sum_by-cons}
use Rattle.std.proofs.lemmas.List.Elements.{All-contains, All-map, All-weaker}
use Rattle.std.proofs.lemmas.Option.{same_Some}
use Rattle.std.specs.List.{All, count_by}
use Rattle.road_network.specs.Net.{Net, HasEdge, IsLawful, arc_of, leaving, source}
use Rattle.road_network.specs.declared.Arc.{Arc}
use Rattle.road_network.specs.declared.EdgeId.{EdgeId}
use Rattle.road_network.proofs.Leaving.{leaving_each, leaving_every}
use Rattle.bounded_table.specs.declared.table_row.Label.{Label}
use Rattle.bounded_table.specs.Closed.{IsListedBy, IsNoWorse}

-- in place of the arc at a place that a list does not have
abbrev pub no_arc : Arc
no_arc = record { edge = record { 0 = 0 }; length = 0; to = record { 0 = 0 } }

-- an arc leaves node u: it ends at a node and is not long
pub record IsLeaving (n : Net) (u : ℕ) (a : Arc) : Type 0 where
  pub has : HasEdge n a.edge.0
  pub starts : source n a.edge.0 ≡ u
  pub is : a ≡ arc_of n a.edge
  pub end : a.to.0 < length n.nodes
  pub not_long : a.length ≤ 100_000_000

arc_known : (n : Net) (u : ℕ) → IsLawful n → (e : EdgeId) → (HasEdge n e.0 × (source n e.0 ≡ u)) → IsLeaving n u (arc_of n e)
arc_known n u lawful e has = record { has = has.0; starts = has.1; is = refl; end = lawful.targets e.0 has.0; not_long = lawful.not_long e.0 has.0 }

pub known_arcs : (n : Net) (u : ℕ) → IsLawful n → All (IsLeaving n u) (map (arc_of n) (leaving n u))
known_arcs n u lawful =
    All-map (IsLeaving n u) (arc_of n) (leaving n u)
    (All-weaker (λ e. HasEdge n e.0 × (source n e.0 ≡ u)) (λ e. IsLeaving n u (arc_of n e)) (arc_known n u lawful) (leaving n u) (leaving_each n u))

-- something holds of all arcs out of a node exactly where it holds of each edge that begins there
pub arcs_are : (n : Net) (u : ℕ) (P : Arc → Type 0) → All P (map (arc_of n) (leaving n u)) ↔ ((e : ℕ) → HasEdge n e → source n e ≡ u → P (arc_of n (record { 0 = e })))
arcs_are n u P =
    let edges : List EdgeId = leaving n u in
    let Q : EdgeId → Type 0 = λ e. P (arc_of n e) in (
      λ all e has from.
          let at : All Q edges = λ k d lt. subst P (get_or-map (arc_of n) edges k d) (all k (arc_of n d) (omega (arith, length-map edges (arc_of n)))) in
          All-contains Q edges (record { 0 = e }) at (leaving_every n u e has from),
      λ each. All-map P (arc_of n) edges (All-weaker (λ e. HasEdge n e.0 × (source n e.0 ≡ u)) Q (λ e h. each e.0 h.0 h.1) edges (leaving_each n u)),
    )

pub count_arcs : (n : Net) (p : Arc → Bool) (edges : List EdgeId) → count_by p (map (arc_of n) edges) ≡ count_by (λ e. p (arc_of n e)) edges
count_arcs n p [] = refl
count_arcs n p (e ∷ edges) =
    omega (arith, sum_by-cons (λ (a : Arc). cond (p a) 1 0) (arc_of n e) (map (arc_of n) edges), sum_by-cons (λ (x : EdgeId). cond (p (arc_of n x)) 1 0) e edges, count_arcs n p edges)

-- where a node has label l, it is listed no worse than by an edge exactly if l is
pub listed_by : (table : ℕ → Option Label) (v e d : ℕ) (l : Label) → table v ≡ Some l → IsNoWorse l d e ↔ IsListedBy table v e d
listed_by table v e d l at = (
  λ no_worse. record { label = l; listed = at; no_worse = no_worse },
  λ by. subst (λ (k : Label). IsNoWorse k d e) (same_Some by.label l (sym by.listed ∙ at)) by.no_worse,
)
