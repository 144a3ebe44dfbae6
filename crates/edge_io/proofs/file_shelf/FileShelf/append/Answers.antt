use Rattle.std.proofs.Common.{◌≡◌, ◌∙◌, ◌+◌, ap}
use Rattle.edge_io.proofs.Sources.{open_after}
use Rattle.edge_io.proofs.file_shelf.FileShelf.append.Goals as goal

pub invariant_of-self-2 : goal.invariant_of-self-2
invariant_of-self-2 g c =
    let file = c.in_ok-file.ensures.file in
    let count = c.in_ok-count.count in
    let opened = open_after _ c.args.name.now c.args.at _ count _ _ _ _ file.2 c.in_ok-count.ensures.ok in
    let named = c.append.ensures.name ∙ file.0 in
    let at = c.in_ok-count.ensures.at ∙ ap (λ a. a + count) file.1 in
    record { is_open = λ x is. let same : c.append.new.self ≡ x = cc in rw (← same, c.open_at.ensures.source, named, at) opened }
