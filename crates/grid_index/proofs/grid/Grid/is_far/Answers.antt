use Rattle.std.proofs.Common.{subst}
use Rattle.grid_index.specs.GridOf.{GridOf, HasNoneWithin}
use Rattle.grid_index.proofs.Extents.{none_within}
use Rattle.grid_index.proofs.grid.Grid.is_far.Goals as goal

pub returns : goal.returns
returns c = λ far.
    subst (λ (g : GridOf). HasNoneWithin g.net c.args.p c.args.reach) c.self.view_is
    (none_within c.self.inside.net.now c.self.inside.extent c.args.p c.args.reach c.self.invariant.extent (c.is_apart.ensures far))
