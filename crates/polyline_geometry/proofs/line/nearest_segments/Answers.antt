use Rattle.std.proofs.Common.{◌≡◌, inl, inr, arith, subst, sym}
use Rattle.polyline_geometry.proofs.Ties.{AreToldAll, IsEarliest, all_matched, all_passed, all_taken}
use Rattle.polyline_geometry.proofs.line.nearest_segments.Goals as goal
use Rattle.polyline_geometry.proofs.line.nearest_segments.Goals.{in-Some, in-Some-nearest, in_default, in_default-nearest, in_default-nearest-2}

pub loop-i-preserved : goal.loop-i-preserved
loop-i-preserved c =
    let s = c.loop-i in
    let m = c.match-distance2_below in
    elim m.branch [
      | in-Some w ↦ (
          let h = w.in-Some.ensures in
          let d2 = w.in-Some.d2 in
          let found = w.match-nearest in
          let first : IsEarliest s.nearest s.i d2 found.earliest = elim found.branch [
            | in-Some-nearest v ↦ subst (λ o. IsEarliest o s.i d2 found.earliest) (sym v.in-Some-nearest.is) (inl (v.if-before-d2.true, v.earliest-is))
            | in_default-nearest-2 v ↦ subst (λ o. IsEarliest o s.i d2 found.earliest) (sym v.in-Some-nearest.is) (inr (v.if-before-d2.false, v.earliest-is))
            | in_default-nearest v ↦ subst (λ o. IsEarliest o s.i d2 found.earliest) (sym v.in_default-nearest.is) v.earliest-is
          ]
          in
          all_taken c.args.line.now c.args.p c.args.limit c.args.first s.i s.below m.below d2 found.earliest s.nearest m.nearest s.auto.i s.invariant h.0 h.1 first w.nearest-is w.below-is
          )
      | in_default w ↦ (let h = w.in_default.ensures in all_passed c.args.line.now c.args.p c.args.limit c.args.first s.i s.below m.below s.nearest m.nearest s.invariant h w.nearest-is w.below-is)
    ]

pub returns : goal.returns
returns c =
    let s = c.loop-i in
    let e : s.i ≡ c.args.end = omega (arith, s.auto.i-end c.requires.order, c.loop-i-test.false) in
    all_matched c.args.line.now c.args.p c.args.limit c.args.first c.args.end s.nearest (subst (λ n. AreToldAll c.args.line.now c.args.p c.args.limit c.args.first n s.nearest) e s.invariant.told)
