-- Boxes of runs.
use Rattle.std.proofs.Common.{◌≡◌, ℕ, ◌+◌, ◌<◌, ◌≤◌, None, Option, Some, List, refl, ap, unwrap_or, subst, sym, inl, inr, arith, ℤ, pos, negsuc, ◌≤ℤ◌, ⊎_elim}
use Rattle.std.proofs.lemmas.Int.{ints}
use Rattle.std.proofs.lemmas.Bool.{cases_lt, eq-eqb, ne_eqb}
use Rattle.std.specs.Prelude.{◌==◌, if◌then◌else◌}
use Rattle.polyline_geometry.specs.declared.plane.Point.{Point}
use Rattle.polyline_geometry.specs.Boxes.{InBox, IsBetween}
use Rattle.polyline_geometry.specs.Plane.{point_at}
use Rattle.road_network.specs.declared.EdgeId.{EdgeId}
use Rattle.road_network.specs.Net.{Net, edge_line}
use Rattle.grid_index.specs.declared.runs.Run.{Run}
use Rattle.grid_index.specs.GridOf.{GridOf, StandsFor}
use Rattle.grid_index.specs.Runs.{HasSegment, IsBelow, IsNumberedAbove, IsReverse, IsRun, IsRunOf, IsTwin}

-- the point that stands for none
abbrev pub origin : Point
origin = record { x = pos 0; y = pos 0 }

pub ≤ℤ_twice : (a b c : ℤ) → a ≤ℤ b → b ≤ℤ c → a ≤ℤ c
≤ℤ_twice (pos a) (pos b) (pos c) h k = omega (arith, ints, h, k)
≤ℤ_twice (pos a) (pos b) (negsuc c) h k = absurd (omega (arith, ints, k))
≤ℤ_twice (pos a) (negsuc b) c h k = absurd (omega (arith, ints, h))
≤ℤ_twice (negsuc a) b (pos c) h k = omega (arith, ints)
≤ℤ_twice (negsuc a) (pos b) (negsuc c) h k = absurd (omega (arith, ints, k))
≤ℤ_twice (negsuc a) (negsuc b) (negsuc c) h k = omega (arith, ints, h, k)

pub below_twice : (a b c : Point) → IsBelow a b → IsBelow b c → IsBelow a c
below_twice a b c h k = record { x = ≤ℤ_twice a.x b.x c.x h.x k.x; y = ≤ℤ_twice a.y b.y c.y h.y k.y }

-- what lies between two coordinates lies between any that hold both
pub between_within : (low high a b z : ℤ) → low ≤ℤ a → low ≤ℤ b → a ≤ℤ high → b ≤ℤ high → IsBetween a b z → IsBetween low high z
between_within low high a b z la lb ah bh is =
    ⊎_elim
    (λ up. inl (≤ℤ_twice low a z la up.0, ≤ℤ_twice z b high up.1 bh))
    (λ down. inl (≤ℤ_twice low b z lb down.0, ≤ℤ_twice z a high down.1 ah))
    is

-- the box of a segment of a run lies in the run's box
pub segment_within : (line : List Point) (r : Run) (i : ℕ) (q : Point) → IsRunOf line r → r.first ≤ i → i < r.end
    → InBox (point_at line i) (point_at line (i + 1)) q → InBox r.low r.high q
segment_within line r i q h le lt inside =
    let la = h.above_low i le (omega (arith, lt)) in
    let lb = h.above_low (i + 1) (omega (arith, le)) (omega (arith, lt)) in
    let ah = h.below_high i le (omega (arith, lt)) in
    let bh = h.below_high (i + 1) (omega (arith, le)) (omega (arith, lt)) in
    record {
      x = between_within r.low.x r.high.x (point_at line i).x (point_at line (i + 1)).x q.x la.x lb.x ah.x bh.x inside.x;
      y = between_within r.low.y r.high.y (point_at line i).y (point_at line (i + 1)).y q.y la.y lb.y ah.y bh.y inside.y;
    }

between_turned : (a b z : ℤ) → IsBetween a b z → IsBetween b a z
between_turned a b z is = ⊎_elim (λ up. inr up) (λ down. inl down) is

-- a box is the same from either corner
pub box_turned : (a b q : Point) → InBox a b q → InBox b a q
box_turned a b q h = record { x = between_turned a.x b.x q.x h.x; y = between_turned a.y b.y q.y h.y }

-- a segment of the twin has the ends of the run's own segment, the last one first
pub own_box : (net : Net) (r : Run) (e i : ℕ) (q : Point) → IsRun net r → (s : HasSegment net r e i)
    → InBox (point_at (edge_line net e) i) (point_at (edge_line net e) (i + 1)) q
    → InBox (point_at (edge_line net r.edge.0) s.own) (point_at (edge_line net r.edge.0) (s.own + 1)) q
own_box net r e i q is s inside =
    let line = edge_line net r.edge.0 in
    ⊎_elim
    (λ same.
    subst (λ v. InBox (point_at line v) (point_at line (v + 1)) q) same.1
    (subst (λ v. InBox (point_at (edge_line net v) i) (point_at (edge_line net v) (i + 1)) q) (sym same.0) inside))
    (λ mirror.
    let twin : IsReverse net r.edge.0 e = subst (λ o. IsTwin net r.edge.0 o) mirror.0 is.twin in
    let start = twin.turned.points i (s.own + 1) (omega (arith, mirror.1)) in
    let end = twin.turned.points (i + 1) s.own (omega (arith, mirror.1)) in
    box_turned (point_at line (s.own + 1)) (point_at line s.own) q
    (subst (λ a. InBox a (point_at line s.own) q) start (subst (λ b. InBox (point_at (edge_line net e) i) b q) end inside)))
    s.is

-- the box of a segment lies in that of a run that has it
pub run_holds : (net : Net) (r : Run) (e i : ℕ) (q : Point) → IsRun net r → HasSegment net r e i
    → InBox (point_at (edge_line net e) i) (point_at (edge_line net e) (i + 1)) q → InBox r.low r.high q
run_holds net r e i q is s inside =
    segment_within (edge_line net r.edge.0) r s.own q is.run s.from_first s.before_end (own_box net r e i q is s inside)

-- the box of a segment lies in that of a run that stands for it
pub box_within : (g : GridOf) (e i : ℕ) (s : StandsFor g e i) (q : Point)
    → InBox (point_at (edge_line g.net e) i) (point_at (edge_line g.net e) (i + 1)) q → InBox s.run.low s.run.high q
box_within g e i s q inside = run_holds g.net s.run e i q s.is_run s.segment inside

-- a run that is made with a twin has it
pub twin_made : (edge kept : EdgeId) (twin : Option EdgeId) → IsNumberedAbove edge.0 twin → kept ≡ unwrap_or twin edge → (if kept.0 == edge.0 then None else Some kept) ≡ twin
twin_made edge kept None above is = rw (eq-eqb kept.0 edge.0 (ap (λ (e : EdgeId). e.0) is)) refl
twin_made edge kept (Some t) above is =
    let number = ap (λ (e : EdgeId). e.0) is in
    rw (ne_eqb kept.0 edge.0 (λ e. omega (arith, e, number, above))) (ap (λ e. Some e) is)

-- what holds of both ends of a segment holds of the places from the first to the last
pub of_both : (P : Point → Type 0) (line : List Point) (first i : ℕ) → P (point_at line first) → P (point_at line (first + 1)) → first ≤ i → i ≤ first + 1 → P (point_at line i)
of_both P line first i h k le lt =
    ⊎_elim
    (λ low. let e : first ≡ i = omega (arith, le, low) in subst (λ v. P (point_at line v)) e h)
    (λ high. let e : first + 1 ≡ i = omega (arith, lt, high) in subst (λ v. P (point_at line v)) e k)
    (cases_lt i (first + 1))

-- and with one more
pub of_more : (P : Point → Type 0) (line : List Point) (first end i : ℕ) → ((k : ℕ) → first ≤ k → k ≤ end → P (point_at line k)) → P (point_at line (end + 1))
    → first ≤ i → i ≤ end + 1 → P (point_at line i)
of_more P line first end i h k le lt =
    ⊎_elim
    (λ low. h i le (omega (arith, low)))
    (λ high. let e : end + 1 ≡ i = omega (arith, lt, high) in subst (λ v. P (point_at line v)) e k)
    (cases_lt i (end + 1))
