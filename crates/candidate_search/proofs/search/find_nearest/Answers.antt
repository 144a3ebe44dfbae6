use Rattle.std.proofs.Common.{◌∙◌, subst}
use Rattle.road_network.specs.Net.{Net}
use Rattle.grid_index.specs.GridOf.{HasNoneWithin}
use Rattle.candidate_search.proofs.Visiting.{on_ok_both, rows_still}
use Rattle.candidate_search.proofs.Visited.{HoldsSquare, all_seen, none_best, none_near}
use Rattle.candidate_search.proofs.search.find_nearest.Goals as goal

pub look_at_cells-requires-clause-best : goal.look_at_cells-requires-clause-best
look_at_cells-requires-clause-best c = none_best c.args.net.now c.args.search c.reserve.new.self.items (c.reserve.ensures.items ∙ c.clear.ensures.items)

pub returns-then-is_far : goal.returns-then-is_far
returns-then-is_far c =
    let search = c.args.search in
    let far = subst (λ (n : Net). HasNoneWithin n search.at c.args.reach) c.requires.network (c.is_far.ensures c.if-is_far.true) in
    none_near c.args.net.now search c.clear.new.self.items c.invariants.ensures c.clear.ensures.items (subst (HasNoneWithin c.args.net.now search.at) c.requires.reach far)

pub returns : goal.returns
returns c =
    let net = c.args.net.now in
    let g = c.args.grid.now in
    let search = c.args.search in
    let cells = c.cells_near.result in
    let one = c.look_at_cells.new.found.items in
    let two = c.look_at_wide.new.found.items in
    let holds = subst (λ v. HoldsSquare g search.at v cells) c.requires.reach c.cells_near.ensures in
    on_ok_both c.look_at_wide.result
    (λ steps seen. all_seen net g search two cells c.invariants.ensures c.requires.network c.invariants-2.ensures holds steps.best seen
    (rows_still net g search one two cells cells.bottom cells.top steps c.in_ok-look_at_cells.ensures.seen))
    c.look_at_wide.ensures.steps c.look_at_wide.ensures.seen
