use Rattle.std.proofs.Common.{◌≡◌, ◌++◌}
use Rattle.std.specs.Prelude.{codes}
use Rattle.std.proofs.lemmas.Result.{on_ok_weaker}
use Rattle.decimal_text.specs.Number.{decimal}
use Rattle.road_network.proofs.FaultText.{three-parts}
use Rattle.road_network.proofs.fault.write_record.Goals as goal

pub returns : goal.returns
returns c =
    let written : c.write_unsigned.new.into ≡ c.extend_from_slice.new.self ++ decimal c.args.rec = rw c.from.ensures at c.in_ok-write_unsigned.ensures.ok in
    on_ok_weaker c.extend_from_slice-2.result
    (λ (h : c.extend_from_slice-2.new.self ≡ c.write_unsigned.new.into ++ c.args.rest.now).
    three-parts c.args.line.now (codes "network record ") (decimal c.args.rec) c.args.rest.now c.extend_from_slice.new.self c.write_unsigned.new.into c.extend_from_slice-2.new.self
    c.in_ok-extend_from_slice.ensures.ok written h)
    c.extend_from_slice-2.ensures.ok
