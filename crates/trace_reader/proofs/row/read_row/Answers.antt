use Rattle.trace_reader.proofs.Fields.{too_few-one, too_few-two, untimed_row, untimed_too_many, timed_too_few, timed_row, timed_too_many}
use Rattle.trace_reader.proofs.row.read_row.Goals as goal

pub returns-in_default : goal.returns-in_default
returns-in_default c = too_few-one _ _ c.args.text.now _ (rw c.in_default.is at c.unsigned_field-id.ensures.rest)

pub returns-in_default-rest : goal.returns-in_default-rest
returns-in_default-rest c =
    too_few-two _ _ c.args.text.now _ c.in-Some.rest.now _ (rw c.in-Some.is at c.unsigned_field-id.ensures.rest) (rw c.in_default-rest.is at c.coordinate_field-x.ensures.rest)

pub returns-in-None : goal.returns-in-None
returns-in-None c =
    rw c.in-Untimed.is
    (untimed_row _ c.args.text.now _ c.in-Some.rest.now _ c.in-Some-rest.rest.now _ _ (rw c.in-Some.is at c.unsigned_field-id.ensures.rest) (rw c.in-Some-rest.is at c.coordinate_field-x.ensures.rest)
    (rw c.in-None.is at c.coordinate_field-y.ensures.rest) (rw (c.unsigned_field-id.ensures.number, c.coordinate_field-x.ensures.number, c.coordinate_field-y.ensures.number) at c.gather.ensures))

pub returns-in-Some-rest-2 : goal.returns-in-Some-rest-2
returns-in-Some-rest-2 c =
    rw c.in-Untimed.is
    (untimed_too_many _ c.args.text.now _ c.in-Some.rest.now _ c.in-Some-rest.rest.now _ c.in-Some-rest-2.field-0.now (rw c.in-Some.is at c.unsigned_field-id.ensures.rest) (rw c.in-Some-rest.is at c.coordinate_field-x.ensures.rest)
    (rw c.in-Some-rest-2.is at c.coordinate_field-y.ensures.rest))

pub returns-in-None-rest : goal.returns-in-None-rest
returns-in-None-rest c =
    rw c.in-Timed.is
    (timed_too_few _ c.args.text.now _ c.in-Some.rest.now _ c.in-Some-rest.rest.now _ (rw c.in-Some.is at c.unsigned_field-id.ensures.rest) (rw c.in-Some-rest.is at c.coordinate_field-x.ensures.rest)
    (rw c.in-None-rest.is at c.coordinate_field-y.ensures.rest))

pub returns-in-None-rest-2 : goal.returns-in-None-rest-2
returns-in-None-rest-2 c =
    rw c.in-Timed.is
    (timed_row _ c.args.text.now _ c.in-Some.rest.now _ c.in-Some-rest.rest.now _ c.in-Some-rest-3.rest.now _ _ (rw c.in-Some.is at c.unsigned_field-id.ensures.rest) (rw c.in-Some-rest.is at c.coordinate_field-x.ensures.rest)
    (rw c.in-Some-rest-3.is at c.coordinate_field-y.ensures.rest) (rw c.in-None-rest-2.is at c.unsigned_field-time.ensures.rest)
    (rw (c.unsigned_field-id.ensures.number, c.coordinate_field-x.ensures.number, c.coordinate_field-y.ensures.number, c.unsigned_field-time.ensures.number) at c.gather-in-None-rest-2.ensures))

pub returns-in-Some-rest-4 : goal.returns-in-Some-rest-4
returns-in-Some-rest-4 c =
    rw c.in-Timed.is
    (timed_too_many _ c.args.text.now _ c.in-Some.rest.now _ c.in-Some-rest.rest.now _ c.in-Some-rest-3.rest.now _ c.in-Some-rest-4.field-0.now (rw c.in-Some.is at c.unsigned_field-id.ensures.rest) (rw c.in-Some-rest.is at c.coordinate_field-x.ensures.rest)
    (rw c.in-Some-rest-3.is at c.coordinate_field-y.ensures.rest) (rw c.in-Some-rest-4.is at c.unsigned_field-time.ensures.rest))
