use Rattle.std.proofs.Common.{ℕ, ◌%◌, ◌/◌, ◌^◌, ap, ◌∙◌}
use Rattle.town.specs.Draws.{draw, state_after}
use Rattle.town.proofs.States.{one_step}
use Rattle.town.proofs.draw.Draw.below.Goals as goal

pub returns-clause-value : goal.returns-clause-value
returns-clause-value c =
    ap (λ s. s / 2 ^ 33 % c.args.m) (one_step c.self.inside.state) ∙ ap (λ (x : ℕ). draw 1 x c.args.m) c.self.view_is

pub returns-clause-state : goal.returns-clause-state
returns-clause-state c = one_step c.self.inside.state ∙ ap (λ (x : ℕ). state_after 1 x) c.self.view_is
