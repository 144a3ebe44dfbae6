use Rattle.candidate_search.proofs.Shared.{enough_near}
use Rattle.candidate_search.proofs.groups.boxes_for.Goals as goal

pub returns : goal.returns
returns c =
    enough_near c.args.among.net.now c.args.among.p.now.radius c.args.extent c.grown.result c.args.among.boxes.now c.in_ok-near.near.items c.args.group.now c.invariants.ensures
    c.requires.boxes c.requires.extent c.grown.ensures c.in_ok-near.ensures
