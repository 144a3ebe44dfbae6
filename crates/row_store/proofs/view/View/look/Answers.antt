use Rattle.std.proofs.Common.{length, Bor, ◌≡◌, ◌<◌, ◌∙◌, Some, sym, subst}
use Rattle.bounded_table.specs.Table.{TableRow}
use Rattle.row_store.specs.Store.{SlotSet, Sees}
use Rattle.row_store.specs.inside.Views.{viewing_of}
use Rattle.row_store.specs.Sights.{row_seen}
use Rattle.row_store.proofs.view.View.look.Goals as goal

pub sight-requires : goal.sight-requires
sight-requires c =
    let s = c.in_ok-settle.ensures.seen in
    (record { is = c.in_ok-settle.ensures.stays.is; node = subst (λ (y : Bor SlotSet). c.args.n.0 < length y.now.network.nodes) (sym c.in_ok-settle.ensures.stays.slots) c.requires.node }, (s.0, s.1.known))

pub returns-clause-seen : goal.returns-clause-seen
returns-clause-seen c =
    let s = c.in_ok-settle.ensures.seen in
    let same : s.0 ≡ row_seen c.sight.result = (let e : Some (Some s.0) ≡ Some (Some (row_seen c.sight.result)) = sym s.1.known ∙ c.sight.ensures.row in cc) in
    subst (λ (r : TableRow). Sees (viewing_of c.args.self.now) c.args.n.0 r (viewing_of c.settle.new.self)) same s.1

pub returns-clause-table : goal.returns-clause-table
returns-clause-table c = rw (← c.in_ok-settle.ensures.stays.slots) c.sight.ensures.table
