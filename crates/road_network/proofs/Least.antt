-- The least walk is one, and its front is least too.
use Rattle.std.proofs.Common.{◌≡◌, ℕ, inl, inr, List, [], ◌∷◌, refl, ap, ◌∙◌, arith}
use Rattle.road_network.specs.Net.{Net, source}
use Rattle.road_network.specs.Walk.{IsLeastWalk, ReadsBefore}

reads_same : (x y : List ℕ) → ReadsBefore x y → ReadsBefore y x → x ≡ y
reads_same [] [] h k = refl
reads_same [] (b ∷ y) h k = absurd k
reads_same (a ∷ x) [] h k = absurd h
reads_same (a ∷ x) (b ∷ y) h k =
    elim h [
      | inl lt ↦ elim k [ inl gt ↦ absurd (omega arith) | inr q ↦ absurd (omega (arith, q.0)) ]
      | inr p ↦ elim k [
        | inl gt ↦ absurd (omega (arith, p.0))
        | inr q ↦ ap (λ (k : ℕ). k ∷ x) p.0 ∙ ap (λ (k : List ℕ). b ∷ k) (reads_same x y p.1 q.1)
      ]
    ]

pub same_least : (n : Net) (s v : ℕ) (x y : List ℕ) → IsLeastWalk n s x v → IsLeastWalk n s y v → x ≡ y
same_least n s v x y h k =
    elim (h.least y k.walk) [
      | inl lt ↦ elim (k.least x h.walk) [ inl gt ↦ absurd (omega arith) | inr q ↦ absurd (omega (arith, q.0)) ]
      | inr p ↦ elim (k.least x h.walk) [ inl gt ↦ absurd (omega (arith, p.0)) | inr q ↦ reads_same x y p.1 q.1 ]
    ]

-- the walk before the last edge is least
pub front_least : (n : Net) (s v e : ℕ) (w : List ℕ) → IsLeastWalk n s (e ∷ w) v → IsLeastWalk n s w (source n e)
front_least n s v e w h = record {
  walk = h.walk.2;
  least = λ x hx. elim (h.least (e ∷ x) (h.walk.0, h.walk.1, hx)) [
    | inl lt ↦ inl (omega arith)
    | inr p ↦ elim p.1 [ inl less ↦ absurd (omega arith) | inr q ↦ inr (omega (arith, p.0), q.1) ]
  ];
}
