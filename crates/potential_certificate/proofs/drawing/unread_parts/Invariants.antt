use Rattle.std.proofs.Common.{take}
use Rattle.potential_certificate.specs.inside.Gathering.{AreEachReadOf}
use Rattle.potential_certificate.proofs.drawing.unread_parts.Given as goal

abbrev pub invariant-loop-part : goal.invariant-loop-part
invariant-loop-part l = AreEachReadOf (take l.part-index l.parts) l.reads.items
