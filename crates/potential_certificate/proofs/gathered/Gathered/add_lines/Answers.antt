use Rattle.std.proofs.Common.{◌≡◌, ◌++◌, refl, sym, ◌∙◌}
use Rattle.std.proofs.lemmas.List.{take-append-drop}
use Rattle.std.proofs.lemmas.Result.{on_ok_weaker}
use Rattle.potential_certificate.proofs.Gatherings.{extended, lines_added}
use Rattle.potential_certificate.proofs.gathered.Gathered.add_lines.Goals as goal

pub returns : goal.returns
returns g c =
    let lines = c.args.lines.now in
    let now = c.add_items.new.self in
    let items = c.split_at.result.0.now in
    let begun = c.split_at.result.1.now in
    let parts : items ++ begun ≡ lines = (λ i. c.split_at.ensures.front i ++ c.split_at.ensures.back i) ∙ take-append-drop c.last_item.result lines in
    on_ok_weaker c.extend_from_slice.result (λ e. lines_added c.args.self.now c.settle.new.self now _ items begun lines c.in_ok-settle.ensures c.in_ok-add_items.ensures (sym parts) refl refl refl e)
    (extended c.extend_from_slice.result c.extend_from_slice.new.self.items now.behind.items begun c.extend_from_slice.ensures.items)
