-- The candidates of a point lie on different edges, so its labels agree exactly where its ranks do.
use Rattle.std.proofs.Common.{◌≡◌, ℕ, zero, suc, ◌+◌, ◌*◌, ◌<◌, Bool, true, false, cond, leb, List, [], ◌∷◌, Option, Some, None, IfSome, map, refl, sym, ap, arith, length, take, get_or}
use Rattle.std.specs.List.{range_with_len}
use Rattle.polyline_geometry.specs.declared.plane.Point.{Point}
use Rattle.cost_model.specs.declared.params.Params.{Params}
use Rattle.match_text.specs.declared.matched.Label.{Label}
use Rattle.match_text.specs.declared.matched.Label.TheVariants.{Missing, On}
use Rattle.matching.specs.declared.parts.Layer.{Layer}
use Rattle.matching.specs.Layers.{IsLayer, candidate_of_rank, no_candidate}
use Rattle.matching.proofs.CandidateLayers.{layer_of_candidates}
use Rattle.road_network.specs.declared.Candidate.{Candidate}
use Rattle.road_network.specs.Net.{Net, IsLawful, edge_name}
use Rattle.road_network.specs.Near.{candidate_at, candidates, in_order, is_before, placed, within}
use Rattle.trace_match.specs.Laws.{LabelsAgreeAsRanks}
use Rattle.trace_reader.specs.Trace.{point_of_fix}
use Rattle.trace_match.specs.Match.{label_of_rank, label_on, layer_of}

-- no candidate lies on edge e
abbrev NotOn : ℕ → List Candidate → Type 0
NotOn e [] = Unit {0}
NotOn e (c ∷ cs) = (c.edge.0 ≡ e → ⊥) × NotOn e cs

-- the candidates lie on different edges
abbrev AreApart : List Candidate → Type 0
AreApart [] = Unit {0}
AreApart (c ∷ cs) = NotOn c.edge.0 cs × AreApart cs

not_on_placed : (e : ℕ) (c : Candidate) (cs : List Candidate) → (c.edge.0 ≡ e → ⊥) → NotOn e cs → NotOn e (placed c cs)
not_on_placed e c [] here h = (here, tt)
not_on_placed e c (d ∷ cs) here h =
    elim (is_before c d) as (λ b. NotOn e (cond b (c ∷ d ∷ cs) (d ∷ placed c cs))) [
      | true ↦ (here, h)
      | false ↦ (h.0, not_on_placed e c cs here h.1)
    ]

apart_placed : (c : Candidate) (cs : List Candidate) → NotOn c.edge.0 cs → AreApart cs → AreApart (placed c cs)
apart_placed c [] none apart = (tt, tt)
apart_placed c (d ∷ cs) none apart =
    elim (is_before c d) as (λ b. AreApart (cond b (c ∷ d ∷ cs) (d ∷ placed c cs))) [
      | true ↦ (none, apart)
      | false ↦ (not_on_placed d.edge.0 c cs (λ same. none.0 (sym same)) apart.0, apart_placed c cs none.1 apart.1)
    ]

not_on_in_order : (e : ℕ) (cs : List Candidate) → NotOn e cs → NotOn e (in_order cs)
not_on_in_order e [] h = tt
not_on_in_order e (c ∷ cs) h = not_on_placed e c (in_order cs) h.0 (not_on_in_order e cs h.1)

apart_in_order : (cs : List Candidate) → AreApart cs → AreApart (in_order cs)
apart_in_order [] h = tt
apart_in_order (c ∷ cs) h = apart_placed c (in_order cs) (not_on_in_order c.edge.0 cs h.0) (apart_in_order cs h.1)

not_on_kept : (e : ℕ) (b : Bool) (c : Candidate) (rest : List Candidate) → (c.edge.0 ≡ e → ⊥) → NotOn e rest → NotOn e (cond b (c ∷ rest) rest)
not_on_kept e true c rest here h = (here, h)
not_on_kept e false c rest here h = h

not_on_within : (e radius : ℕ) (cs : List Candidate) → NotOn e cs → NotOn e (within radius cs)
not_on_within e radius [] h = tt
not_on_within e radius (c ∷ cs) h = not_on_kept e (leb c.d2 (radius * radius)) c (within radius cs) h.0 (not_on_within e radius cs h.1)

apart_kept : (b : Bool) (c : Candidate) (rest : List Candidate) → NotOn c.edge.0 rest → AreApart rest → AreApart (cond b (c ∷ rest) rest)
apart_kept true c rest none h = (none, h)
apart_kept false c rest none h = h

apart_within : (radius : ℕ) (cs : List Candidate) → AreApart cs → AreApart (within radius cs)
apart_within radius [] h = tt
apart_within radius (c ∷ cs) h = apart_kept (leb c.d2 (radius * radius)) c (within radius cs) (not_on_within c.edge.0 radius cs h.0) (apart_within radius cs h.1)

not_on_take : (e k : ℕ) (cs : List Candidate) → NotOn e cs → NotOn e (take k cs)
not_on_take e zero cs h = tt
not_on_take e (suc k) [] h = tt
not_on_take e (suc k) (c ∷ cs) h = (h.0, not_on_take e k cs h.1)

apart_take : (k : ℕ) (cs : List Candidate) → AreApart cs → AreApart (take k cs)
apart_take zero cs h = tt
apart_take (suc k) [] h = tt
apart_take (suc k) (c ∷ cs) h = (not_on_take c.edge.0 k cs h.0, apart_take k cs h.1)

not_on_snaps : (n : Net) (at : Point) (e first count : ℕ) → e < first → NotOn e (map (candidate_at n at) (range_with_len first count))
not_on_snaps n at e first zero lt = tt
not_on_snaps n at e first (suc count) lt = ((λ same. omega (arith, lt, same)), not_on_snaps n at e (first + 1) count (omega (arith, lt)))

apart_snaps : (n : Net) (at : Point) (first count : ℕ) → AreApart (map (candidate_at n at) (range_with_len first count))
apart_snaps n at first zero = tt
apart_snaps n at first (suc count) = (not_on_snaps n at first (first + 1) count (omega arith), apart_snaps n at (first + 1) count)

candidates_apart : (n : Net) (k radius : ℕ) (at : Point) → AreApart (candidates n k radius at)
candidates_apart n k radius at =
    let snaps = map (candidate_at n at) (range_with_len 0 (length n.edges)) in
    apart_take k (in_order (within radius snaps)) (apart_in_order (within radius snaps) (apart_within radius snaps (apart_snaps n at 0 (length n.edges))))

not_there : (e : ℕ) (cs : List Candidate) (i : ℕ) (d : Candidate) → NotOn e cs → i < length cs → (get_or cs i d).edge.0 ≡ e → ⊥
not_there e [] i d none lt = absurd (omega (arith, lt))
not_there e (c ∷ cs) zero d none lt = none.0
not_there e (c ∷ cs) (suc i) d none lt = not_there e cs i d none.1 (omega (arith, lt))

one_place : (cs : List Candidate) (i j : ℕ) (d : Candidate) → AreApart cs → i < length cs → j < length cs → (get_or cs i d).edge.0 ≡ (get_or cs j d).edge.0 → i ≡ j
one_place [] i j d apart lt lt2 same = absurd (omega (arith, lt))
one_place (c ∷ cs) zero zero d apart lt lt2 same = refl
one_place (c ∷ cs) zero (suc j) d apart lt lt2 same = absurd (not_there c.edge.0 cs j d apart.0 (omega (arith, lt2)) (sym same))
one_place (c ∷ cs) (suc i) zero d apart lt lt2 same = absurd (not_there c.edge.0 cs i d apart.0 (omega (arith, lt)) same)
one_place (c ∷ cs) (suc i) (suc j) d apart lt lt2 same = ap suc (one_place cs i j d apart.1 (omega (arith, lt)) (omega (arith, lt2)) same)

edge_of_label : Label → ℕ
edge_of_label Missing = 0
edge_of_label (On edge offset d2) = edge

-- two ranks with one label are one
one_rank : (n : Net) (p : Params) (l : Layer) (a b : ℕ) → IsLawful n → IsLayer n p l → AreApart l.candidates
    → a < length l.candidates → b < length l.candidates → label_on n (candidate_of_rank l a) ≡ label_on n (candidate_of_rank l b) → a ≡ b
unfolding edge_of_label
one_rank n p l a b lawful layer apart lt lt2 same =
    let names : edge_name n (candidate_of_rank l a).edge.0 ≡ edge_name n (candidate_of_rank l b).edge.0 = ap edge_of_label same in
    let has = (layer.candidates a no_candidate lt).edge in
    let has2 = (layer.candidates b no_candidate lt2).edge in
    one_place l.candidates a b no_candidate apart lt lt2 (lawful.names_differ (candidate_of_rank l a).edge.0 (candidate_of_rank l b).edge.0 has has2 names)

ranks_agree : (n : Net) (p : Params) (l : Layer) (a b : Option ℕ) → IsLawful n → IsLayer n p l → AreApart l.candidates
    → IfSome a (λ r. r < length l.candidates) → IfSome b (λ r. r < length l.candidates) → label_of_rank n l a ≡ label_of_rank n l b → a ≡ b
ranks_agree n p l None None lawful layer apart lt lt2 same = refl
ranks_agree n p l None (Some b) lawful layer apart lt lt2 same = absurd (cc)
ranks_agree n p l (Some a) None lawful layer apart lt lt2 same = absurd (cc)
ranks_agree n p l (Some a) (Some b) lawful layer apart lt lt2 same = ap (λ r. Some r) (one_rank n p l a b lawful layer apart lt lt2 same)

pub labels_agree : LabelsAgreeAsRanks
labels_agree n p fix a b lawful in_range among among2 =
    let l = layer_of n p fix in
    let layer : IsLayer n p l = layer_of_candidates n p l in_range refl in (
      ranks_agree n p l a b lawful layer (candidates_apart n p.k p.radius (point_of_fix fix)) among among2,
      (λ same. ap (label_of_rank n l) same),
    )
