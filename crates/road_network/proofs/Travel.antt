-- A walk read from its last edge leads, read from its first, between the same nodes.
use Rattle.std.proofs.Common.{ℕ, List, [], ◌∷◌, ◌++◌, reverse, refl, sym, subst}
use mathlib.Core.List.{reverse-cons}
use Rattle.road_network.specs.Net.{Net, source, target}
use Rattle.road_network.specs.Walk.{IsWalk, Leads}

-- a walk on from where another ends
pub walk_on : (n : Net) (s m v : ℕ) (x y : List ℕ) → IsWalk n m x v → IsWalk n s y m → IsWalk n s (x ++ y) v
walk_on n s m v [] y hx hy = subst (λ (k : ℕ). IsWalk n s y k) hx hy
walk_on n s m v (e ∷ x) y hx hy = (hx.0, hx.1, walk_on n s m (source n e) x y hx.2 hy)

lead_on : (n : Net) (u m v : ℕ) (x y : List ℕ) → Leads n u x m → Leads n m y v → Leads n u (x ++ y) v
lead_on n u m v [] y hx hy = subst (λ (k : ℕ). Leads n k y v) (sym hx) hy
lead_on n u m v (e ∷ x) y hx hy = (hx.0, hx.1, lead_on n (target n e) m v x y hx.2 hy)

pub walk_from_leads : (n : Net) (u v : ℕ) (es : List ℕ) → Leads n u es v → IsWalk n u (reverse es) v
walk_from_leads n u v [] h = h
walk_from_leads n u v (e ∷ es) h =
    rw reverse-cons
    (walk_on n u (target n e) v (reverse es) (e ∷ []) (walk_from_leads n (target n e) v es h.2) (h.0, refl, sym h.1))

pub leads_from_walk : (n : Net) (u v : ℕ) (w : List ℕ) → IsWalk n u w v → Leads n u (reverse w) v
leads_from_walk n u v [] h = h
leads_from_walk n u v (e ∷ w) h =
    rw reverse-cons
    (lead_on n u (source n e) v (reverse w) (e ∷ []) (leads_from_walk n u (source n e) w h.2) (h.0, refl, h.1))
