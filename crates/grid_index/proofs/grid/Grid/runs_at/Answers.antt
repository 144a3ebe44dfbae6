use Rattle.std.proofs.Common.{◌≡◌, subst}
use Rattle.grid_index.specs.GridOf.{GridOf, runs_at}
use Rattle.grid_index.proofs.grid.Grid.runs_at.Goals as goal

pub returns : goal.returns
returns c = subst (λ (v : GridOf). c.runs_at.result.now ≡ runs_at v c.args.column c.args.row) c.self.view_is (c.runs_at.ensures c.self.inside.net.now)
