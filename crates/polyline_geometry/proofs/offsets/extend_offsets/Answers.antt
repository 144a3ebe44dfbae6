use Rattle.std.proofs.Common.{◌≡◌, ◌+◌, false, leb, arith, take}
use Rattle.std.proofs.lemmas.Bool.Decides.{nat_tests}
use Rattle.polyline_geometry.specs.Plane.{line_length}
use Rattle.polyline_geometry.proofs.Lengths.{line_length_front}
use Rattle.polyline_geometry.proofs.OffsetLists.{offsets-all, offsets-more}
use Rattle.polyline_geometry.proofs.offsets.extend_offsets.Goals as goal

pub returns-then-longer-from-clause-length : goal.returns-then-longer-from-clause-length
returns-then-longer-from-clause-length c =
    let front = line_length_front c.args.line.now (c.loop-i.i + 1) in
    let no : leb (line_length c.args.line.now) c.args.limit ≡ false = grind (arith, nat_tests) in
    rw no search

pub loop-i-preserved : goal.loop-i-preserved
loop-i-preserved c =
    let line = c.args.line.now in
    let longer : c.from.result + c.from-in-loop-i.result ≡ line_length (take (c.loop-i.i + 1) line) = omega arith in
    record {
      offsets = offsets-more line c.loop-i.i (c.from.result + c.from-in-loop-i.result) c.loop-i.into c.push.new.self c.args.into.now longer c.loop-i.invariant.offsets c.in_default.ensures.ok;
      length = longer;
      within = omega arith;
    }

pub returns-clause-some : goal.returns-clause-some
returns-clause-some c = λ _. offsets-all c.args.line.now c.loop-i.i c.loop-i.into c.args.into.now (omega arith) c.loop-i.invariant.offsets
