use Rattle.std.proofs.Common.{◌≡◌, drop}
use Rattle.cert_checker.specs.inside.RowParts.{first_place}
use Rattle.cert_checker.proofs.checked_rows.first_place.Given as goal

abbrev pub invariant-loop-number : goal.invariant-loop-number
invariant-loop-number l = first_place (drop l.number-index l.numbers) ≡ first_place l.numbers
