use Rattle.std.proofs.Common.{◌∙◌}
use Rattle.route_rebuild.proofs.StepsBack.{turned}
use Rattle.route_rebuild.proofs.walks.walk.Goals as goal

pub returns : goal.returns
returns c =
    let items = c.from_vec.ensures ∙ c.reverse.ensures.items in
    rw (turned c.in_ok-edges.edges.items c.from_vec.result items) c.in_ok-edges.ensures
