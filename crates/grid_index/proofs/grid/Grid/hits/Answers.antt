use Rattle.std.proofs.Common.{subst}
use Rattle.grid_index.specs.GridOf.{AreHits, GridOf}
use Rattle.grid_index.specs.inside.Table.{grid_of}
use Rattle.grid_index.proofs.Gathering.{gathers_hits}
use Rattle.grid_index.proofs.grid.Grid.hits.Goals as goal

pub gather_wide-requires-clause-corners : goal.gather_wide-requires-clause-corners
gather_wide-requires-clause-corners c = λ k d lt. (c.self.invariant.table.grid.wide_runs k d lt).run.corners

pub returns : goal.returns
returns c =
    let inside = c.self.inside in
    let net = inside.net.now in
    let g : GridOf = grid_of net inside.table in
    subst (λ v. AreHits v c.args.p c.args.reach c.args.far2 c.gather.new.found.items) c.self.view_is
    (gathers_hits g c.args.p c.args.reach c.args.far2 c.new-found.result.items c.gather_wide.new.found.items c.gather.new.found.items c.of_square-cells.result
    c.self.invariant.table.grid c.new-found.ensures.items c.in_ok-gather_wide.ensures c.of_square-cells.ensures (c.in_ok-gather.ensures net))
