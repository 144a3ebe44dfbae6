-- No definition of a match looks at the number of workers.
use Rattle.std.proofs.Common.{◌≡◌, ℕ, List, Bool, true, false, refl, Some, None}
use Rattle.std.specs.Prelude.{if◌then◌else◌, nat_lt}
use Rattle.cert_checker.specs.Whole.{verdict}
use Rattle.command_line.specs.Work.PlainWork.{check_files, follow_files, match_files, match_town, prove_files, stream_files, table_of_network}
use Rattle.cost_model.specs.declared.params.Params.{Params}
use Rattle.follow_work.specs.Drives.{drives_job}
use Rattle.follow_work.specs.Streams.{never, streams_job}
use Rattle.online_commit.specs.Items.{handed, items_of}
use Rattle.program_frame.specs.Plan.{Plan, loads}
use Rattle.program_frame.specs.Refusals.{network_said}
use Rattle.program_frame.specs.Stream.{works_traces}
use Rattle.program_frame.specs.declared.stop.File.TheVariants.{Network}
use Rattle.road_network.specs.Limits.{file_limit}
use Rattle.road_network.specs.declared.limits.NetworkLimits.{NetworkLimits}
use Rattle.route_rebuild.specs.Routes.{route_of}
use Rattle.trace_match.specs.Match.{asks, match_of}
use Rattle.program_run.specs.Workers.{WorkersChangeNothing, with_workers}

-- the plan of `streams`, where drives end before the file does or not
abbrev streamed : NetworkLimits → (network traces : List ℕ) (idle : ℕ) (ends : Bool) (options : Params) → Plan
streamed limits network traces idle ends options =
    loads Network network (file_limit limits) 5 (network_said limits)
    (λ net. works_traces traces (if ends
    then drives_job (record { network = net; params = options }) idle
    else streams_job (record { network = net; params = options })))

streams_alike : (limits : NetworkLimits) (network traces : List ℕ) (idle : ℕ) (options : Params) (workers : ℕ) (ends : Bool)
    → streamed limits network traces idle ends (with_workers workers options) ≡ streamed limits network traces idle ends options
unfolding match_of asks route_of handed items_of
streams_alike limits network traces idle options workers true = refl
streams_alike limits network traces idle options workers false = refl

pub workers_change_nothing : WorkersChangeNothing
unfolding match_of asks route_of handed items_of verdict
workers_change_nothing limits (match_files network traces None) options workers = refl
workers_change_nothing limits (match_files network traces (Some table)) options workers = refl
workers_change_nothing limits (follow_files network traces) options workers = refl
workers_change_nothing limits (stream_files network traces idle) options workers =
    streams_alike limits network traces idle options workers (nat_lt idle never)
workers_change_nothing limits (prove_files network traces) options workers = refl
workers_change_nothing limits (check_files network traces certificate) options workers = refl
workers_change_nothing limits (table_of_network network) options workers = refl
workers_change_nothing limits (match_town side traces seed) options workers = refl
