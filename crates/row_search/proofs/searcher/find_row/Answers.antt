use Rattle.row_search.proofs.MarkedNodes.{sized_here}
use Rattle.bounded_table.proofs.RowChecks.{rules_of_row}
use Rattle.row_search.proofs.searcher.find_row.Goals as goal

pub clear-requires : goal.clear-requires
clear-requires g c = sized_here _ c.args.workspace.now c.entries.new.self c.requires.clean.sized c.in-Err.ensures.clean.sized

pub from_entries-requires : goal.from_entries-requires
from_entries-requires g c = rules_of_row c.args.fans.now c.args.workspace.now.bound c.args.origin.0 (record { origin = c.args.origin.0; entries = c.in-Ok.entries.items }) c.invariants.ensures c.in-Ok.ensures.row
