-- The labels of points, one point after the other.
use Rattle.std.proofs.Common.{◌≡◌, ℕ, zero, suc, ◌+◌, ◌<◌, List, [], ◌∷◌, ◌++◌, Option, None, sym, ap, ◌∙◌, arith, length, take, get_or}
use Rattle.road_network.specs.Net.{Net}
use Rattle.matching.specs.declared.parts.Layer.{Layer}
use Rattle.matching.specs.Places.{IsAt}
use Rattle.trace_match.specs.Match.{label_of_rank, labels_of}

labels_next : (n : Net) (layers : List Layer) (ranks : List (Option ℕ)) (i : ℕ) (l : Layer) → IsAt layers i l → i < length ranks
    → labels_of n (take (suc i) layers) (take (suc i) ranks) ≡ labels_of n (take i layers) (take i ranks) ++ label_of_rank n l (get_or ranks i None) ∷ []
labels_next n [] ranks i l at lt = absurd (let below = at.below in omega (arith, below))
labels_next n (x ∷ layers) [] i l at lt = absurd (omega (arith, lt))
labels_next n (x ∷ layers) (rank ∷ ranks) zero l at lt = ap (λ y. label_of_rank n y rank ∷ []) (sym at.is)
labels_next n (x ∷ layers) (rank ∷ ranks) (suc i) l at lt =
    let below = at.below in
    ap (λ ls. label_of_rank n x rank ∷ ls) (labels_next n layers ranks i l (record { below = omega (arith, below); is = at.is }) (omega (arith, lt)))

pub labels_more : (n : Net) (layers : List Layer) (ranks : List (Option ℕ)) (i : ℕ) (l : Layer) → IsAt layers i l → i < length ranks
    → labels_of n (take (i + 1) layers) (take (i + 1) ranks) ≡ labels_of n (take i layers) (take i ranks) ++ label_of_rank n l (get_or ranks i None) ∷ []
labels_more n layers ranks i l at lt =
    let e : i + 1 ≡ suc i = omega arith in
    ap (λ k. labels_of n (take k layers) (take k ranks)) e ∙ labels_next n layers ranks i l at lt
