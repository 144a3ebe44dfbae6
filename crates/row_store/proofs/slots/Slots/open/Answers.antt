use Rattle.std.proofs.Common.{◌≡◌, ◌+◌, ℕ, length, refl, ap, ◌∙◌, arith}
use Rattle.std.proofs.lemmas.List.{length-map, length_push}
use Rattle.once_cell.specs.Once.{cell_name}
use Rattle.row_store.proofs.slots.Slots.open.Goals as goal

pub loop-init : goal.loop-init
loop-init c = ap (λ xs. length xs) c.in_ok-cells.ensures.items

pub loop-preserved : goal.loop-preserved
loop-preserved c = ap (λ xs. length xs) c.in_ok-push.ensures.items ∙ length_push c.loop.cells.items _ ∙ ap (λ (k : ℕ). k + 1) c.loop.invariant

pub invariant_of-result : goal.invariant_of-result
invariant_of-result c =
    let low = c.loop-test.false in
    let high = c.loop.auto.counter-end in
    let end = c.node_count-end.ensures in
    let all : c.loop.counter ≡ length c.args.network.now.nodes = omega (arith, low, high, end) in
    (c.loop.invariant ∙ all, c.requires)

pub returns : goal.returns
returns c =
    let low = c.loop-test.false in
    let high = c.loop.auto.counter-end in
    let end = c.node_count-end.ensures in
    let all : c.loop.counter ≡ length c.args.network.now.nodes = omega (arith, low, high, end) in
    (refl, refl, length-map c.loop.cells.items cell_name ∙ c.loop.invariant ∙ all)
