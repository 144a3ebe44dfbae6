use Rattle.std.proofs.Common.{◌∙◌, ap, sym, Ok, arith}
use Rattle.trace_reader.specs.Row.{coordinate_of}
use Rattle.trace_reader.proofs.Plain.{coordinate_of-plain, held, signed-within}
use Rattle.trace_reader.proofs.field.coordinate_field.Goals as goal

pub behind_field-requires-clause-within : goal.behind_field-requires-clause-within
behind_field-requires-clause-within c = signed-within _ c.in-Some.number (c.in-Some.ensures.value 1_000_000_000 (omega arith))

pub returns-in-Some-behind_field-clause-number : goal.returns-in-Some-behind_field-clause-number
returns-in-Some-behind_field-clause-number c =
    let read = c.in-Some.ensures.value 1_000_000_000 (omega arith) in
    sym (ap coordinate_of c.in-Some-behind_field.ensures.field ∙ coordinate_of-plain _ c.in-Some.number read ∙ ap Ok (held _ c.in-Some.number read))
