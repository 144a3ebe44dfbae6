use Rattle.std.proofs.Common.{◌∙◌, refl}
use Rattle.follow_work.proofs.StreamTakes.{begun}
use Rattle.follow_work.proofs.streams.StreamJob.open.Goals as goal

pub returns-clause-begun : goal.returns-clause-begun
returns-clause-begun c =
    let opened = c.open-sessions.ensures in
    begun c.args.matcher.now c.open-sessions.result c.in_ok-rows.rows _ c.requires (opened.network ∙ c.network.ensures) (opened.params ∙ c.params.ensures.is) opened.none c.in_ok-rows.ensures refl refl refl
