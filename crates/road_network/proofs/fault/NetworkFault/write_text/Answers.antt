use Rattle.road_network.proofs.fault.NetworkFault.write_text.Goals as goal

pub returns-in-BadHeader : goal.returns-in-BadHeader
returns-in-BadHeader c = rw c.in-BadHeader.is c.extend_from_slice.ensures.ok

pub returns-in-FieldCount : goal.returns-in-FieldCount
returns-in-FieldCount c = rw c.in-FieldCount.is c.write_record.ensures

pub returns-in-BadNumber : goal.returns-in-BadNumber
returns-in-BadNumber c = rw (c.in-BadNumber.is, ← c.from.ensures) c.write_part.ensures

pub returns-in-OutOfRange : goal.returns-in-OutOfRange
returns-in-OutOfRange c = rw (c.in-OutOfRange.is, ← c.from-in-OutOfRange.ensures) c.write_part-in-OutOfRange.ensures

pub returns-in-DuplicateEdge : goal.returns-in-DuplicateEdge
returns-in-DuplicateEdge c = rw c.in-DuplicateEdge.is c.write_record-in-DuplicateEdge.ensures

pub returns-in-ShortLine : goal.returns-in-ShortLine
returns-in-ShortLine c = rw c.in-ShortLine.is c.write_record-in-ShortLine.ensures

pub returns-in-RepeatedPoint : goal.returns-in-RepeatedPoint
returns-in-RepeatedPoint c = rw c.in-RepeatedPoint.is c.write_part-in-RepeatedPoint.ensures

pub returns-in-EdgeTooLong : goal.returns-in-EdgeTooLong
returns-in-EdgeTooLong c = rw c.in-EdgeTooLong.is c.write_record-in-EdgeTooLong.ensures

pub returns-in-TooManyEdges : goal.returns-in-TooManyEdges
returns-in-TooManyEdges c = rw c.in-TooManyEdges.is c.write_record-in-TooManyEdges.ensures

pub returns-in-TooManyNodes : goal.returns-in-TooManyNodes
returns-in-TooManyNodes c = rw c.in-TooManyNodes.is c.write_record-in-TooManyNodes.ensures

pub returns-in-TooManyPoints : goal.returns-in-TooManyPoints
returns-in-TooManyPoints c = rw c.in-TooManyPoints.is c.write_record-in-TooManyPoints.ensures

pub returns-in-FileTooLong : goal.returns-in-FileTooLong
returns-in-FileTooLong c = rw c.in-FileTooLong.is c.extend_from_slice-in-FileTooLong.ensures.ok
