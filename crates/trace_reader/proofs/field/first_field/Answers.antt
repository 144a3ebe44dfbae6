use Rattle.std.proofs.Common.{◌≡◌, ◌-◌, ◌+◌, ◌∙◌, ◌∷◌, ap, sym, take, drop, length, arith}
use Rattle.std.proofs.lemmas.Grind.{common_steps}
use Rattle.trace_reader.specs.inside.FirstField.{first_of}
use Rattle.trace_reader.specs.Row.{fields_of}
use Rattle.trace_reader.proofs.Fields.{first-place, fields-place, first-whole, fields-whole}
use Rattle.trace_reader.proofs.field.first_field.Goals as goal

pub returns-in-Some : goal.returns-in-Some
returns-in-Some c =
    let text = c.args.text.now in
    let at = c.in-Some.place in
    let rest : drop (at + 1) text ≡ take (length text - (at + 1)) (drop (at + 1) text) = grind (arith, common_steps) in
    record {
      field = sym (first-place text at c.in-Some.ensures.0 c.in-Some.ensures.1);
      rest = fields-place text at c.in-Some.ensures.0 c.in-Some.ensures.1 ∙ ap (λ r. first_of text ∷ fields_of r) rest;
    }

pub returns-in-None : goal.returns-in-None
returns-in-None c = record {
  field = sym (first-whole c.args.text.now c.in-None.ensures);
  rest = fields-whole c.args.text.now c.in-None.ensures;
}
