use Rattle.bounded_table.proofs.LastEdges.{ends_by}
use Rattle.bounded_table.proofs.laws.last_edges_lead.Goals as goal

pub returns : goal.returns
returns c = ends_by
