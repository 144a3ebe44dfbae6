use Rattle.std.proofs.Common.{◌∙◌, ap, take}
use Rattle.candidate_search.proofs.best.put.Goals as goal

pub returns : goal.returns
returns c =
    let at = c.in_ok-insert.ensures in
    record { place = at.place; place_is = at.place_is; list = c.truncate.ensures.items ∙ ap (take c.args.k) at.list }
