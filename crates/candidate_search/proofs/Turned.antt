-- A segment turned round: from its end to its start.
use Rattle.std.proofs.Common.{◌≡◌, ℕ, ◌+◌, ◌*◌, ◌<◌, ◌≤◌, ap, ◌∙◌, arith, mul-le-mul, ℤ, pos, negsuc, ◌+ℤ◌, ◌-ℤ◌, ◌*ℤ◌, ⊎_elim}
use Rattle.std.proofs.lemmas.Int.{ints}
use Rattle.std.proofs.lemmas.Bool.{cases_lt}
use Rattle.std.specs.Int.{int_div_euclid}
use Rattle.std.specs.Int.RustNames.{unsigned_abs}
use Rattle.polyline_geometry.specs.declared.plane.Point.{Point}
use Rattle.polyline_geometry.specs.Plane.{along, brought_into, distance2, dot, share, snap_segment, snapped, square}
use Rattle.polyline_geometry.proofs.Distances.{differ_apart}
use borrow.Author.Differences.{up, down, same_in, same_out, sum_is_lem, neg_is, product_is}

gap_turned : (a b : ℤ) → unsigned_abs (a -ℤ b) ≡ unsigned_abs (b -ℤ a)
gap_turned (pos a) (pos b) = omega (arith, ints)
gap_turned (pos a) (negsuc b) = omega (arith, ints)
gap_turned (negsuc a) (pos b) = omega (arith, ints)
gap_turned (negsuc a) (negsuc b) = omega (arith, ints)

square_turned : (a b : ℤ) → square (a -ℤ b) ≡ square (b -ℤ a)
square_turned a b = ap (λ n. n * n) (gap_turned a b)

distance2_turned : (a b : Point) → distance2 a b ≡ distance2 b a
distance2_turned a b = omega (arith, square_turned a.x b.x, square_turned a.y b.y)

square_is : (z : ℤ) → (up (z *ℤ z) ≡ square z) × (down (z *ℤ z) ≡ 0)
square_is (pos k) = omega arith
square_is (negsuc k) = omega arith

part_of_dot : (a b p : ℤ) → (p -ℤ b) *ℤ (a -ℤ b) +ℤ (p -ℤ a) *ℤ (b -ℤ a) ≡ pos (square (b -ℤ a))
part_of_dot a b p =
    let u = p -ℤ a in
    let v = b -ℤ a in
    let w = p -ℤ b in
    let turned : up (a -ℤ b) + up v ≡ down (a -ℤ b) + down v = omega (arith, sum_is_lem, neg_is) in
    let moved : up w + down u + up v ≡ down w + up u + down v = omega (arith, sum_is_lem, neg_is) in
    let ups : (up w + down u + up v) * up v ≡ (down w + up u + down v) * up v = ap (λ k. k * up v) moved in
    let downs : (up w + down u + up v) * down v ≡ (down w + up u + down v) * down v = ap (λ k. k * down v) moved in
    let above : (up (a -ℤ b) + up v) * up w ≡ (down (a -ℤ b) + down v) * up w = ap (λ k. k * up w) turned in
    let below : (up (a -ℤ b) + up v) * down w ≡ (down (a -ℤ b) + down v) * down w = ap (λ k. k * down w) turned in
    let sum = sum_is_lem (w *ℤ (a -ℤ b)) (u *ℤ v) in
    same_in (w *ℤ (a -ℤ b) +ℤ u *ℤ v) (pos (square v))
    (omega (arith, ups, downs, above, below, sum, square_is v, product_is w (a -ℤ b), product_is u v, product_is v v))

dots_turned : (a b p : Point) → dot b a p +ℤ dot a b p ≡ pos (distance2 b a)
dots_turned a b p =
    let x = part_of_dot a.x b.x p.x in
    let y = part_of_dot a.y b.y p.y in
    omega (arith, same_in, same_out, sum_is_lem, x, y)

brought_together : (n : ℕ) (y z : ℤ) → y +ℤ z ≡ pos n → brought_into n y + brought_into n z ≡ n
brought_together n (pos i) (pos j) e = omega (arith, ints)
brought_together n (pos i) (negsuc j) e = omega (arith, ints)
brought_together n (negsuc i) (pos j) e = omega (arith, ints)
brought_together n (negsuc i) (negsuc j) e = absurd (omega (arith, ints))

-- the shares of a point along the two segments add up to the squared length
shares_turned : (a b p : Point) → share b a p + share a b p ≡ distance2 b a
shares_turned a b p =
    ap (λ n. brought_into n (dot b a p) + share a b p) (distance2_turned a b)
    ∙ brought_together (distance2 b a) (dot b a p) (dot a b p) (dots_turned a b p)

-- the integer q is z / n, rounded down
record IsFloor (z : ℤ) (n : ℕ) (q : ℤ) : Type 0 where
  low : up q * n + down z ≤ down q * n + up z
  high : down q * n + up z < up q * n + down z + n

is_floor : (z : ℤ) (n : ℕ) → 0 < n → IsFloor z n (int_div_euclid z (pos n))
is_floor (pos k) n h = record { low = omega arith; high = omega arith }
is_floor (negsuc k) n h = record { low = omega arith; high = omega arith }

-- no quotient that is rounded down is below another
not_below : (z : ℤ) (n : ℕ) (q r : ℤ) → IsFloor z n q → IsFloor z n r → up q + down r < up r + down q → ⊥
not_below z n q r h k lt =
    let m : (up q + down r + 1) * n ≤ (up r + down q) * n = mul-le-mul (omega (arith, lt)) (omega arith) in
    omega (arith, m, h.high, k.low)

one_floor : (z : ℤ) (n : ℕ) (q r : ℤ) → IsFloor z n q → IsFloor z n r → q ≡ r
one_floor z n q r h k =
    ⊎_elim (λ lt. absurd (not_below z n q r h k lt))
    (λ le.
    ⊎_elim (λ lt. absurd (not_below z n r q k h lt)) (λ ge. same_in q r (omega (arith, le, ge)))
    (cases_lt (up r + down q) (up q + down r)))
    (cases_lt (up q + down r) (up r + down q))

-- f with s of n of its opposite g, rounded down, is t of n of f, rounded down, where s and t add up to n
part_turned : (f g : ℤ) (s t n : ℕ) → up f + up g ≡ down f + down g → s + t ≡ n → 0 < n
    → f +ℤ int_div_euclid (g *ℤ pos s) (pos n) ≡ int_div_euclid (f *ℤ pos t) (pos n)
part_turned f g s t n turned e h =
    let q = int_div_euclid (g *ℤ pos s) (pos n) in
    let back = is_floor (g *ℤ pos s) n h in
    let sum : (up (f +ℤ q) + down f + down q) * n ≡ (down (f +ℤ q) + up f + up q) * n = ap (λ k. k * n) (sum_is_lem f q) in
    let ups : up f * (s + t) ≡ up f * n = ap (λ k. up f * k) e in
    let downs : down f * (s + t) ≡ down f * n = ap (λ k. down f * k) e in
    let times : (up f + up g) * s ≡ (down f + down g) * s = ap (λ k. k * s) turned in
    let there : IsFloor (f *ℤ pos t) n (f +ℤ q) = record {
      low = omega (arith, back.low, sum, ups, downs, times, product_is f (pos t), product_is g (pos s));
      high = omega (arith, back.high, sum, ups, downs, times, product_is f (pos t), product_is g (pos s));
    } in
    one_floor (f *ℤ pos t) n (f +ℤ q) (int_div_euclid (f *ℤ pos t) (pos n)) there (is_floor (f *ℤ pos t) n h)

along_turned : (a b : ℤ) (s t n : ℕ) → s + t ≡ n → 0 < n → along b a s n ≡ along a b t n
along_turned a b s t n e h =
    let turned : up (b -ℤ a) + up (a -ℤ b) ≡ down (b -ℤ a) + down (a -ℤ b) = omega (arith, sum_is_lem, neg_is) in
    let part = part_turned (b -ℤ a) (a -ℤ b) s t n turned e h in
    omega (arith, same_in, same_out, sum_is_lem, neg_is, part)

snapped_turned : (a b : Point) (s t n : ℕ) → s + t ≡ n → 0 < n → snapped b a s n ≡ snapped a b t n
snapped_turned a b s t n e h =
    ap (λ v. let p : Point = record { x = v; y = along b.y a.y s n } in p) (along_turned a.x b.x s t n e h)
    ∙ ap (λ v. let p : Point = record { x = along a.x b.x t n; y = v } in p) (along_turned a.y b.y s t n e h)

-- a point is as far from a segment as from the same one from its end to its start
pub turned_d2 : (a b p : Point) → (a ≡ b → ⊥) → (snap_segment b a p).d2 ≡ (snap_segment a b p).d2
turned_d2 a b p differ =
    ap (λ n. distance2 p (snapped b a (share b a p) n)) (distance2_turned a b)
    ∙ ap (λ q. distance2 p q) (snapped_turned a b (share b a p) (share a b p) (distance2 b a) (shares_turned a b p) (differ_apart a b differ))
