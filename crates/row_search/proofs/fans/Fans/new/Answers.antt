use Rattle.std.proofs.Common.{◌≡◌, ◌<◌, inl, inr, ℕ, List, [], ◌∷◌, ◌++◌, Some, length, map, length-append, sym, subst, ap, ◌∙◌, arith}
use Rattle.std.specs.List.{slice_get}
use Rattle.std.proofs.Math.ListN.{get_or-append}
use Rattle.std.proofs.Math.Seq.{get_or-append_seam}
use Rattle.std.proofs.lemmas.Bool.{cases_lt}
use Rattle.std.proofs.lemmas.Option.{get_or_from_slice_get, slice_get-get_or, slice_get_within}
use Rattle.road_network.specs.Net.{Net, arc_of, leaving}
use Rattle.row_search.specs.declared.fans.Fan.{Fan}
use Rattle.row_search.specs.inside.Fans.{IsFan}
use Rattle.row_search.specs.inside.FansInside.{AreOfNodes}
use Rattle.row_search.proofs.fans.Fans.new.Goals as goal

-- one more fan is that of the next node
one_more : (n : Net) (fans : List Fan) (x : Fan) → AreOfNodes n fans → IsFan (map (arc_of n) (leaving n (length fans))) x → AreOfNodes n (fans ++ x ∷ [])
one_more n fans x are is v fan at = elim (cases_lt v (length fans)) [
  | inl lt ↦
      let before : slice_get fans v ≡ Some fan = slice_get-get_or fans v fan lt ∙ ap Some (sym (get_or-append fans (x ∷ []) fan v lt) ∙ get_or_from_slice_get (fans ++ x ∷ []) v fan fan at) in
      are v fan before
  | inr le ↦
      let inside : v < length (fans ++ x ∷ []) = slice_get_within (fans ++ x ∷ []) v fan at in
      let last : v ≡ length fans = omega (arith, le, inside, length-append fans (x ∷ [])) in
      let same : x ≡ fan = sym (get_or-append_seam fans x [] fan) ∙ get_or_from_slice_get (fans ++ x ∷ []) (length fans) fan fan (subst (λ (k : ℕ). slice_get (fans ++ x ∷ []) k ≡ Some fan) last at) in
      subst (λ (k : Fan). IsFan (map (arc_of n) (leaving n v)) k) same (subst (λ (k : ℕ). IsFan (map (arc_of n) (leaving n k)) x) (sym last) is)
]

pub loop-n-preserved : goal.loop-n-preserved
loop-n-preserved c =
    let s = c.loop-n in
    let n = c.args.network.now in
    let is : IsFan (map (arc_of n) (leaving n (length s.fans.items))) c.«of».result = rw (s.invariant.count, ← c.arcs.ensures) c.«of».ensures in
    rw c.in_ok-push.ensures.items (record {
      count = omega (arith, length-append s.fans.items (c.«of».result ∷ []), s.invariant.count);
      each = one_more n s.fans.items c.«of».result s.invariant.each is;
    })
