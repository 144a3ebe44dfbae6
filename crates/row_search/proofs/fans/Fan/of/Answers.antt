use Rattle.std.proofs.Common.{◌≡◌, ◌+◌, ◌-◌, ◌<◌, ℕ, List, Some, length, slice_index_or, refl, sym, ap, ◌∙◌, arith}
use Rattle.std.specs.Prelude.{min, slice_get}
use Rattle.std.proofs.lemmas.Bool.Decides.{nat_tests}
use Rattle.std.proofs.lemmas.Option.{slice_get-get_or}
use Rattle.road_network.specs.declared.Arc.{Arc}
use Rattle.bounded_table.proofs.Arcs.{no_arc}
use Rattle.row_search.proofs.fans.Fan.«of».Goals as goal

-- an arc that is read at a place is there
read : (arcs : List Arc) (i k : ℕ) → i ≡ k → i < length arcs → slice_get arcs k ≡ Some (slice_index_or arcs i no_arc)
read arcs i k same lt = ap (slice_get arcs) (sym same) ∙ slice_get-get_or arcs i no_arc lt

pub returns : goal.returns
returns c =
    let arcs : List Arc = c.args.arcs.now in
    let last : ℕ = c.in-Some.last in
    let count : last + 1 ≡ length arcs = omega (arith, c.in-Some.ensures) in
    record {
      whole = (λ whole. let few : last < 4 = grind (arith, nat_tests) in (omega (arith, count), omega (arith, count, few)), λ fits. let few : last < 4 = omega (arith, count, fits.1) in grind (arith, nat_tests));
      has = λ whole. record {
        first = read arcs 0 0 refl (omega (arith, count));
        second = read arcs c.min.result (min 1 (length arcs - 1)) (omega (arith, c.min.ensures, count)) (omega (arith, c.min.ensures, count));
        third = read arcs c.min-2.result (min 2 (length arcs - 1)) (omega (arith, c.min-2.ensures, count)) (omega (arith, c.min-2.ensures, count));
        fourth = read arcs c.min-3.result (min 3 (length arcs - 1)) (omega (arith, c.min-3.ensures, count)) (omega (arith, c.min-3.ensures, count));
      };
    }
