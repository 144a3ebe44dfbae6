use Rattle.std.proofs.Common.{◌∙◌, sym, ap, ap₂, take, drop, ◌-◌, length, arith}
use Rattle.grid_index.specs.inside.Table.{members_at}
use Rattle.grid_index.proofs.Parts.{is_part, runs_are}
use Rattle.std.proofs.lemmas.List.{get_or_default}
use Rattle.grid_index.proofs.table.Table.runs_at.Goals as goal

pub index-requires : goal.index-requires
index-requires c = omega (arith, c.slot-slot.ensures.within, c.requires.count)

pub index-requires-2 : goal.index-requires-2
index-requires-2 c = omega (arith, c.slot-slot.ensures.within, c.requires.count)

pub slice_bounds-result-end : goal.slice_bounds-result-end
slice_bounds-result-end c =
    let t = c.args.self.now in
    let part = is_part t.layout.width t.starts.items t.members.items c.slot-slot.result _ _ c.requires c.slot-slot.ensures.within c.index.ensures c.index-2.ensures in
    omega (arith, part.within, ap length c.deref.ensures.value)

pub slice_bounds-result-count : goal.slice_bounds-result-count
slice_bounds-result-count c =
    let t = c.args.self.now in
    (is_part t.layout.width t.starts.items t.members.items c.slot-slot.result _ _ c.requires c.slot-slot.ensures.within c.index.ensures c.index-2.ensures).order

pub slice_bounds-result-start : goal.slice_bounds-result-start
slice_bounds-result-start c =
    let t = c.args.self.now in
    (is_part t.layout.width t.starts.items t.members.items c.slot-slot.result _ _ c.requires c.slot-slot.ensures.within c.index.ensures c.index-2.ensures).order

pub returns : goal.returns
returns c = λ net.
    let t = c.args.self.now in
    let part = is_part t.layout.width t.starts.items t.members.items c.slot-slot.result _ _ c.requires c.slot-slot.ensures.within c.index.ensures c.index-2.ensures in
    ap₂ (λ low high. take (high - low) (drop low c.deref.result.now)) part.low_is part.high_is
    ∙ (ap (λ members. members_at t.starts.items members c.slot-slot.result) c.deref.ensures.value
    ∙ ap (members_at t.starts.items t.members.items) c.slot-slot.ensures.value
    ∙ sym (runs_are t.layout.width t.starts.items t.members.items c.args.column c.args.row t.layout.width_some))

pub overflow_cast-slot : goal.overflow_cast-slot
overflow_cast-slot c = omega (arith, c.slot-slot.type_inv)

pub overflow_add-slot : goal.overflow_add-slot
overflow_add-slot c = omega (arith, c.slot-slot.type_inv)

pub offset_bounds-deref-index : goal.offset_bounds-deref-index
offset_bounds-deref-index c =
    let t = c.args.self.now in
    let s = c.slot-slot.result in
    let low = c.slot-slot.ensures.within in
    let order = c.requires.order s low in
    let within = c.requires.within s low in
    let is = c.index.ensures ∙ get_or_default t.starts.items s c.index.result.now 0 (omega (arith, low, c.requires.count)) in
    let small = t.members.small in
    omega (arith, order, within, is, small)
