use Rattle.std.proofs.Common.{◌≡◌, ◌++◌}
use Rattle.std.specs.Prelude.{codes}
use Rattle.std.proofs.lemmas.Result.{on_ok_weaker}
use Rattle.decimal_text.specs.Number.{decimal}
use Rattle.road_network.proofs.FaultText.{one-inside}
use Rattle.road_network.proofs.fault.write_part.Goals as goal

pub returns : goal.returns
returns c =
    let written : c.write_unsigned.new.into ≡ c.write_record.new.line ++ decimal c.args.place = c.in_ok-write_unsigned.ensures.ok in
    on_ok_weaker c.extend_from_slice.result
    (λ (h : c.extend_from_slice.new.self ≡ c.write_unsigned.new.into ++ c.args.rest.now).
    one-inside c.args.line.now (codes "network record ") (decimal c.args.rec) c.args.part.now (decimal c.args.place) c.args.rest.now
    c.write_record.new.line c.write_unsigned.new.into c.extend_from_slice.new.self c.in_ok-write_record.ensures written h)
    c.extend_from_slice.ensures.ok
