use Rattle.std.proofs.Common.{◌≡◌, ◌<◌, ℕ, Option, false, get_or}
use Rattle.decimal_text.specs.declared.number.NumberFault.{NumberFault}
use Rattle.road_network.specs.NetworkFile.{is_fault}
use Rattle.road_network.proofs.fields.field_with.Given as goal

abbrev pub invariant-loop-i : goal.invariant-loop-i
invariant-loop-i l = (k : ℕ) (d : Option NumberFault) → k < l.i → is_fault l.kind (get_or l.readings k d) ≡ false
