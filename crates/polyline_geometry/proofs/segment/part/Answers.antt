use Rattle.std.proofs.Common.{◌≡◌, pos, ◌*ℤ◌, rules, sym, subst, to_z, of_z, w64}
use Rattle.std.specs.Int.{int_div_euclid}
use Rattle.polyline_geometry.specs.inside.Parts.{IsPartOf}
use Rattle.polyline_geometry.proofs.Parts.{part_between}
use Rattle.polyline_geometry.proofs.segment.part.Goals as goal

pub returns-else-t-lt-FEW-clause-within : goal.returns-else-t-lt-FEW-clause-within
returns-else-t-lt-FEW-clause-within c =
    let e : to_z w64 (of_z w64 c.narrow.result) ≡ int_div_euclid (c.args.z *ℤ pos c.args.t) (pos c.args.n) = search rules in
    subst (λ q. IsPartOf c.args.z q) (sym e) (part_between c.args.z c.args.t c.args.n c.requires.share.some c.requires.share.within)
