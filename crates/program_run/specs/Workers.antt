-- The number of workers changes nothing that a run writes.
use Rattle.std.specs.Prelude.{◌≡◌, ℕ}
use Rattle.command_line.specs.Work.{PlainWork}
use Rattle.cost_model.specs.declared.params.Params.{Params}
use Rattle.road_network.specs.declared.limits.NetworkLimits.{NetworkLimits}
use Rattle.program_run.specs.Words.{work_plan}

-- these options with another number of workers
abbrev pub with_workers : ℕ → Params → Params
with_workers workers options = record {
  k = options.k;
  radius = options.radius;
  sigma = options.sigma;
  beta = options.beta;
  bound = options.bound;
  workers = workers;
  back = options.back;
  gap = options.gap;
}

-- each work has the same plan for any number of workers, and so the same outcome for all files
abbrev pub WorkersChangeNothing : Type 0
WorkersChangeNothing =
    (limits : NetworkLimits) (work : PlainWork) (options : Params) (workers : ℕ)
    → work_plan limits work (with_workers workers options) ≡ work_plan limits work options
