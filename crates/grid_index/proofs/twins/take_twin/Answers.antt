use Rattle.std.proofs.Common.{inl, length-set, ◌∙◌}
use Rattle.grid_index.proofs.twins.take_twin.Goals as goal

pub twin_of-requires : goal.twin_of-requires
twin_of-requires c = c.requires.has

pub returns-then-index-clause-marks : goal.returns-then-index-clause-marks
returns-then-index-clause-marks c = c.requires.marks

pub returns-then-index-clause-marked : goal.returns-then-index-clause-marked
returns-then-index-clause-marked c = λ t is. inl is

pub returns-clause-marks : goal.returns-clause-marks
returns-clause-marks c = length-set _ _ _ ∙ c.requires.marks
