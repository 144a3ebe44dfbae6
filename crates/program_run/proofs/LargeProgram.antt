-- The outcome within the large limits is that within the standard ones.
use Rattle.std.proofs.Common.{◌≡◌, ◌≤◌, ◌+◌, ℕ, Bool, true, false, List, length, Option, Some, None, Result, Ok, Err, refl, sym, ◌∙◌, ap, arith, inl, inr}
use Rattle.std.specs.Prelude.{IfErr, IfSome, nat_lt}
use Rattle.std.proofs.lemmas.Bool.{cases_lt}
use Rattle.std.proofs.lemmas.List.{take_all}
use Rattle.command_line.specs.Work.{PlainCommand, PlainWork}
use Rattle.command_line.specs.Work.PlainWork.{check_files, follow_files, match_files, match_town, prove_files, stream_files, table_of_network}
use Rattle.command_line.specs.Words.{command_of}
use Rattle.command_line.specs.declared.fault.WordsFault.{WordsFault}
use Rattle.cost_model.specs.declared.params.Params.{Params}
use Rattle.program_frame.specs.Asked.{asked_of}
use Rattle.program_frame.specs.Outcome.{Outcome, bytes_seen}
use Rattle.program_frame.specs.Plan.{Plan, IsFileOf, accepts, and_then, loads, outcome_of, plan_of}
use Rattle.program_frame.specs.Refusals.{network_said, said}
use Rattle.program_frame.specs.declared.stop.File.TheVariants.{Network}
use Rattle.program_run.specs.LargeProgram.{LargeLimitsChangeNothing}
use Rattle.program_run.specs.Words.{every_work, work_plan}
use Rattle.road_network.specs.LimitLaws.{KeepsStandardLimits}
use Rattle.road_network.specs.Limits.{file_limit}
use Rattle.road_network.specs.Net.{Net}
use Rattle.road_network.specs.NetworkFile.{network_of}
use Rattle.road_network.specs.declared.fault.NetworkFault.{NetworkFault}
use Rattle.road_network.specs.declared.limits.NetworkLimits.{NetworkLimits}
use Rattle.road_network.specs.declared.limits.NetworkLimits.TheVariants.{Large, Standard}
use Rattle.road_network.proofs.Adding.{file-long}
use Rattle.road_network.proofs.LimitOrder.{limits-agree}

-- such a file is read whole within both limits
kept_short : (bytes : List ℕ) → KeepsStandardLimits bytes → length bytes ≤ 134_217_728
kept_short bytes keeps =
    elim (cases_lt 134_217_728 (length bytes)) [
      | inl long ↦
          let too_long = file-long Standard bytes long in
          let no : true ≡ false = rw too_long at keeps in
          absurd cc
      | inr few ↦ few
    ]

-- a file that fits two limits is read whole within both
within : (limit : ℕ) (f : List ℕ → Option Outcome) (bytes : List ℕ) → length bytes ≤ limit → and_then (bytes_seen limit (Some bytes)) f ≡ f bytes
within limit f bytes fits = ap f (take_all (limit + 1) bytes (omega (arith, fits)))

record FitsBoth (large small : ℕ) (f g : List ℕ → Option Outcome) (bytes : List ℕ) : Type 0 where
  large_fits : length bytes ≤ large
  small_fits : length bytes ≤ small
  alike : f bytes ≡ g bytes

read_alike : (large small : ℕ) (f g : List ℕ → Option Outcome) (held : Option (List ℕ)) → IfSome held (FitsBoth large small f g) → and_then (bytes_seen large held) f ≡ and_then (bytes_seen small held) g
read_alike large small f g None fits = refl
read_alike large small f g (Some bytes) fits = within large f bytes fits.large_fits ∙ fits.alike ∙ sym (within small g bytes fits.small_fits)

module _ (files : List ℕ → Option (List ℕ)) where
  -- what follows from the bytes of a network file
  abbrev follows : NetworkLimits → (Net → Plan) → List ℕ → Option Outcome
  follows limits next bytes = outcome_of (accepts 5 (network_said limits bytes) next) files

  file_fits : (next : Net → Plan) (held : Option (List ℕ)) → IfSome held KeepsStandardLimits → IfSome held (FitsBoth (file_limit Large) (file_limit Standard) (follows Large next) (follows Standard next))
  file_fits next None keeps = tt
  file_fits next (Some bytes) keeps =
      let short = kept_short bytes keeps in
      record {
        large_fits = omega (arith, short);
        small_fits = short;
        alike = ap (λ (r : Result Net NetworkFault). outcome_of (accepts 5 (said r) next) files) (limits-agree bytes keeps);
      }

  loaded_alike : (name : List ℕ) (next : Net → Plan) → IfSome (files name) KeepsStandardLimits
      → outcome_of (loads Network name (file_limit Large) 5 (network_said Large) next) files
      ≡ outcome_of (loads Network name (file_limit Standard) 5 (network_said Standard) next) files
  loaded_alike name next keeps =
      read_alike (file_limit Large) (file_limit Standard) (follows Large next) (follows Standard next) (files name) (file_fits next (files name) keeps)

  -- a row for each command: the network is its first file, and no limit stands behind it
  work_alike : (work : PlainWork) (options : Params) → ((name : List ℕ) → IsFileOf (work_plan Standard work options) Network name → IfSome (files name) KeepsStandardLimits)
      → outcome_of (work_plan Large work options) files ≡ outcome_of (work_plan Standard work options) files
  work_alike (match_files network traces None) options keeps = loaded_alike network _ (keeps network (inl (refl, refl)))
  work_alike (match_files network traces (Some table)) options keeps = loaded_alike network _ (keeps network (inl (refl, refl)))
  work_alike (follow_files network traces) options keeps = loaded_alike network _ (keeps network (inl (refl, refl)))
  work_alike (stream_files network traces idle) options keeps = loaded_alike network _ (keeps network (inl (refl, refl)))
  work_alike (prove_files network traces) options keeps = loaded_alike network _ (keeps network (inl (refl, refl)))
  work_alike (check_files network traces certificate) options keeps = loaded_alike network _ (keeps network (inl (refl, refl)))
  work_alike (table_of_network network) options keeps = loaded_alike network _ (keeps network (inl (refl, refl)))
  work_alike (match_town side traces seed) options keeps = refl

  command_alike : (command : Result PlainCommand WordsFault) → ((name : List ℕ) → IsFileOf (plan_of (asked_of (every_work Standard) command)) Network name → IfSome (files name) KeepsStandardLimits)
      → outcome_of (plan_of (asked_of (every_work Large) command)) files ≡ outcome_of (plan_of (asked_of (every_work Standard) command)) files
  command_alike (Ok command) keeps = work_alike command.work command.options keeps
  command_alike (Err fault) keeps = refl

pub large_limits_change_nothing : LargeLimitsChangeNothing
large_limits_change_nothing words files keeps = command_alike files (command_of words) keeps
