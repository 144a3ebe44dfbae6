use Rattle.std.proofs.Common.{◌+◌, ◌*◌, subst, sym, refl}
use Rattle.grid_index.specs.declared.entries.Entry.{Entry}
use Rattle.grid_index.specs.GridOf.{IsGrid}
use Rattle.grid_index.specs.inside.Starts.{AreStarts}
use Rattle.grid_index.specs.inside.Table.{rows_of}
use Rattle.grid_index.proofs.LaidOut.{table_of}
use Rattle.std.specs.List.Sorted.{IsNonDecreasingBy}
use Rattle.grid_index.proofs.table.Table.of.Goals as goal

pub returns-clause-table : goal.returns-clause-table
returns-clause-table c =
    let l = c.args.layout in
    let net = c.args.net.now in
    let starts = c.in_ok-starts.starts.items in
    let members = c.in_ok-members.members.items in
    let sorted = c.sort_by_slot.new.self.at_slots.items in
    let starts_are = subst (λ xs. AreStarts xs starts (l.width * l.width + 1)) c.as_slice.ensures.value c.in_ok-starts.ensures in
    let members_are = c.in_ok-members.ensures in
    let is = table_of net l.side l.width c.in_ok-entries.entries sorted starts members l.width_some c.in_ok-entries.ensures c.sort_by_slot.ensures.same starts_are members_are in
    record {
      parts = is.0;
      grid = subst (λ wide. IsGrid (record { net = net; side = l.side; rows = rows_of l.width starts members; wide = wide })) (sym c.sort_by_slot.ensures.wide) is.1;
    }

pub starts_of-requires : goal.starts_of-requires
starts_of-requires c = subst (IsNonDecreasingBy (λ (x : Entry). x.slot)) (sym c.as_slice.ensures.value) c.sort_by_slot.ensures.sorted

pub returns-clause-layout : goal.returns-clause-layout
returns-clause-layout c = refl
