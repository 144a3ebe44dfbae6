use Rattle.std.proofs.Common.{◌≡◌, ◌∙◌, None, ap, refl}
use Rattle.std.proofs.lemmas.Result.{err_from_is_err_and}
use Rattle.decimal_text.specs.Number.{unsigned_within}
use Rattle.road_network.specs.NetworkFile.{field_faults, first_fault}
use Rattle.road_network.proofs.RowsRead.{AreReadings, readings, row-read, row-refused}
use Rattle.road_network.proofs.fields.read_fields.Goals as goal

pub returns-in_err-check_fields-clause-fault : goal.returns-in_err-check_fields-clause-fault
returns-in_err-check_fields-clause-fault c =
    let a = c.args in
    let x = c.parse_unsigned-name.result in
    let y = c.parse_unsigned-from.result in
    let z = c.parse_unsigned-to.result in
    let all : AreReadings a.fields.name.now a.fields.from.now a.fields.to.now a.fields.points.now x y z c.in_ok-fault.fault c.read_line.new.line =
    record {
      name = c.parse_unsigned-name.ensures.value ∙ ap (λ k. unsigned_within k a.fields.name.now) c.from.ensures;
      start = c.parse_unsigned-from.ensures.value;
      stop = c.parse_unsigned-to.ensures.value;
      points = c.in_ok-fault.ensures.value;
    } in
    let first = rw (c.err.ensures.value, c.err-2.ensures.value, c.err-3.ensures.value) at c.in_err-check_fields.ensures.fault in
    let p = err_from_is_err_and c.from_residual-in_err-check_fields.result c.from_residual-in_err-check_fields.ensures.1 in
    rw (p.1, p.2) (λ _. row-refused a.rec a.fields.name.now a.fields.from.now a.fields.to.now a.fields.points.now x y z c.in_ok-fault.fault c.read_line.new.line _ all first)

pub returns-clause-row : goal.returns-clause-row
returns-clause-row c =
    let a = c.args in
    let x = c.parse_unsigned-name.result in
    let y = c.parse_unsigned-from.result in
    let z = c.parse_unsigned-to.result in
    let all : AreReadings a.fields.name.now a.fields.from.now a.fields.to.now a.fields.points.now x y z c.in_ok-fault.fault c.read_line.new.line =
    record {
      name = c.parse_unsigned-name.ensures.value ∙ ap (λ k. unsigned_within k a.fields.name.now) c.from.ensures;
      start = c.parse_unsigned-from.ensures.value;
      stop = c.parse_unsigned-to.ensures.value;
      points = c.in_ok-fault.ensures.value;
    } in
    let first : first_fault (field_faults a.rec (readings x y z c.in_ok-fault.fault)) ≡ None =
    rw (c.err.ensures.value, c.err-2.ensures.value, c.err-3.ensures.value) at c.in_ok-check_fields.ensures.ok in
    rw (c.unwrap_or.ensures, c.unwrap_or-2.ensures, c.unwrap_or-3.ensures)
    (row-read a.rec a.fields.name.now a.fields.from.now a.fields.to.now a.fields.points.now x y z c.in_ok-fault.fault c.read_line.new.line all first)

pub returns-in_err-fault-clause-row : goal.returns-in_err-fault-clause-row
returns-in_err-fault-clause-row c = let p = err_from_is_err_and c.from_residual.result c.from_residual.ensures.1 in rw p.1 tt

pub returns-in_err-fault-clause-within : goal.returns-in_err-fault-clause-within
returns-in_err-fault-clause-within c = let p = err_from_is_err_and c.from_residual.result c.from_residual.ensures.1 in rw p.1 tt

pub returns-in_err-check_fields-clause-row : goal.returns-in_err-check_fields-clause-row
returns-in_err-check_fields-clause-row c = let p = err_from_is_err_and c.from_residual-in_err-check_fields.result c.from_residual-in_err-check_fields.ensures.1 in rw p.1 tt

pub returns-in_err-check_fields-clause-within : goal.returns-in_err-check_fields-clause-within
returns-in_err-check_fields-clause-within c = let p = err_from_is_err_and c.from_residual-in_err-check_fields.result c.from_residual-in_err-check_fields.ensures.1 in rw p.1 tt

pub returns-in_err-fault-clause-fault : goal.returns-in_err-fault-clause-fault
returns-in_err-fault-clause-fault c = let p = err_from_is_err_and c.from_residual.result c.from_residual.ensures.1 in rw (p.1, p.2) (λ known. absurd (known refl))
