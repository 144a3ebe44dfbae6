use Rattle.std.proofs.Common.{◌≡◌, ◌*◌, ◌%◌, ◌^◌, ◌≤◌, arith}
use Rattle.std.proofs.Math.Nat.{pow-le-pow_right}
use Rattle.std.proofs.lemmas.Nat.{pow_pos}
use Rattle.grid_index.proofs.grid.Grid.build.Goals as goal

pub invariant_of-layout : goal.invariant_of-layout
invariant_of-layout c =
    let bits = c.width_bits_for-width_bits.result in
    let some = pow_pos bits in
    let few : 2 ^ bits ≤ 2 ^ 15 = pow-le-pow_right {n = 2} (omega arith) {i = bits} {j = 15} (omega (arith, c.width_bits_for-width_bits.ensures)) in
    let is : 1 * 2 ^ bits % 4_294_967_296 ≡ 2 ^ bits = omega (arith, few) in
    record {
      side_some = c.requires.some;
      width_some = omega (arith, some, is);
      width_few = omega (arith, few, is);
      width_is = is;
      bits_few = omega (arith, c.width_bits_for-width_bits.ensures);
    }
