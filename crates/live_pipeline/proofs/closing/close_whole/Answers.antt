use Rattle.live_pipeline.proofs.Wholes.{front_is_whole}
use Rattle.live_pipeline.proofs.closing.close_whole.Goals as goal

pub returns : goal.returns
returns c = front_is_whole _ _ c.close.ensures.0 c.requires.put c.requires.taken c.close.ensures.1
