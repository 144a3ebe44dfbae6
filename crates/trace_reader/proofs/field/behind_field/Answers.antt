use Rattle.std.proofs.Common.{◌+◌, ◌∷◌, ◌∙◌, ap, sym, arith}
use Rattle.std.proofs.lemmas.List.{take_rest}
use Rattle.trace_reader.specs.inside.FirstField.{first_of}
use Rattle.trace_reader.specs.Row.{fields_of}
use Rattle.trace_reader.proofs.Plain.{first-all, fields-all, first-comma, fields-comma}
use Rattle.trace_reader.proofs.field.behind_field.Goals as goal

pub returns-then-count-text-clause-field : goal.returns-then-count-text-clause-field
returns-then-count-text-clause-field c = first-all c.args.text.now c.args.count c.if-count-text.true c.requires.within

pub returns-then-count-text-clause-rest : goal.returns-then-count-text-clause-rest
returns-then-count-text-clause-rest c = fields-all c.args.text.now c.args.count c.if-count-text.true c.requires.within

pub returns-then-text-count-eq44-clause-field : goal.returns-then-text-count-eq44-clause-field
returns-then-text-count-eq44-clause-field c =
    first-comma c.args.text.now c.args.count (omega (arith, c.requires.few, c.if-count-text.false)) c.requires.within c.if-text-count-eq44.true

pub returns-then-text-count-eq44-clause-rest : goal.returns-then-text-count-eq44-clause-rest
returns-then-text-count-eq44-clause-rest c =
    let text = c.args.text.now in
    fields-comma text c.args.count (omega (arith, c.requires.few, c.if-count-text.false)) c.requires.within c.if-text-count-eq44.true
    ∙ ap (λ rest. first_of text ∷ fields_of rest) (sym (take_rest text (c.args.count + 1)))
