-- The leaving edges of a node are those that begin there.
use Rattle.std.proofs.Common.{◌≡◌, ℕ, zero, suc, ◌<◌, [], ◌∷◌, inl, inr, sym, ap, ◌∙◌, arith, length}
use Rattle.std.proofs.lemmas.Bool.{cases_lt}
use Rattle.std.proofs.lemmas.Bool.Decides.{eqb_tells}
use Rattle.std.proofs.lemmas.List.Elements.{All-nil, All-push, All-weaker, Contains-append_left, Contains-push}
use Rattle.std.specs.List.{All, Contains}
use Rattle.road_network.specs.declared.EdgeId.{EdgeId}
use Rattle.road_network.specs.Net.{Net, HasEdge, source, leaving, leaving_below}

abbrev LeavesBelow : Net → ℕ → ℕ → EdgeId → Type 0
LeavesBelow n u i e = (e.0 < i) × (source n e.0 ≡ u)

below_each : (n : Net) (u i : ℕ) → All (LeavesBelow n u i) (leaving_below n u i)
below_each n u zero = All-nil (LeavesBelow n u zero)
below_each n u (suc i) =
    let more : All (LeavesBelow n u (suc i)) (leaving_below n u i) = All-weaker (LeavesBelow n u i) (LeavesBelow n u (suc i)) (λ e h. (omega (arith, h.0), h.1)) (leaving_below n u i) (below_each n u i) in
    elim (eqb_tells (source n i) u) [
      | inl t ↦ rw t.0 (All-push (LeavesBelow n u (suc i)) (leaving_below n u i) (record { 0 = i }) more (omega arith, t.1))
      | inr t ↦ rw t.0 more
    ]

pub leaving_each : (n : Net) (u : ℕ) → All (λ e. HasEdge n e.0 × (source n e.0 ≡ u)) (leaving n u)
leaving_each n u = below_each n u (length n.edges)

below_every : (n : Net) (u i e : ℕ) → e < i → source n e ≡ u → Contains (leaving_below n u i) (record { 0 = e })
below_every n u zero e lt at = absurd (omega arith)
below_every n u (suc i) e lt at =
    elim (cases_lt e i) [
      | inl before ↦
          let had : Contains (leaving_below n u i) (record { 0 = e }) = below_every n u i e before at in
          elim (eqb_tells (source n i) u) [
            | inl t ↦ rw t.0 (Contains-append_left (leaving_below n u i) (record { 0 = i } ∷ []) (record { 0 = e }) had)
            | inr t ↦ rw t.0 had
          ]
      | inr here ↦
          let same : e ≡ i = omega arith in
          elim (eqb_tells (source n i) u) [
            | inl t ↦ rw (t.0, same) (Contains-push (leaving_below n u i) (record { 0 = i }))
            | inr t ↦ absurd (t.1 (ap (source n) (sym same) ∙ at))
          ]
    ]

pub leaving_every : (n : Net) (u e : ℕ) → HasEdge n e → source n e ≡ u → Contains (leaving n u) (record { 0 = e })
leaving_every n u e has at = below_every n u (length n.edges) e has at
