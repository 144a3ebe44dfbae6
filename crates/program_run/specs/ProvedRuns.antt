-- What a run of `prove` writes, a run of `check` finds proved.
use Rattle.std.specs.Prelude.{◌≡◌, ℕ, List, Option, Some, Ok}
use Rattle.command_line.specs.Words.{command_of}
use Rattle.command_line.specs.Work.PlainWork.{check_files, prove_files}
use Rattle.cost_model.specs.declared.params.Params.{Params}
use Rattle.potential_certificate.specs.declared.proof.Certificate.{Certificate}
use Rattle.program_frame.specs.Outcome.{Outcome, done_with}
use Rattle.program_frame.specs.Plan.{outcome_of, plan_of}
use Rattle.road_network.specs.declared.limits.NetworkLimits.{NetworkLimits}
use Rattle.program_run.specs.Words.{asked_within}
use Rattle.check_work.specs.Check.{certificate_in, proved_line}

-- the words of `prove` and of `check`, with the same files and options, where the certificate file
-- has this text
pub record AreProveAndCheck (proves checks : List (List ℕ)) (files files' : List ℕ → Option (List ℕ))
    (text : List ℕ) : Type 0 where
  pub network : List ℕ
  pub traces : List ℕ
  pub certificate : List ℕ
  pub options : Params
  pub proves_is : command_of proves
      ≡ Ok (record { work = prove_files network traces; options = options })
  pub checks_is : command_of checks
      ≡ Ok (record { work = check_files network traces certificate; options = options })
  pub same_network : files' network ≡ files network
  pub same_traces : files' traces ≡ files traces
  pub text_is : files' certificate ≡ Some text

-- where `prove` is done, `check` is done within the same limits with its text as the certificate file,
-- and writes the line of the certificate in it
abbrev pub ProvedRunsAreAccepted : Type 0
ProvedRunsAreAccepted =
    (limits : NetworkLimits) (proves checks : List (List ℕ))
    (files files' : List ℕ → Option (List ℕ)) (o : Outcome)
    (runs : AreProveAndCheck proves checks files files' o.out)
    → outcome_of (plan_of (asked_within limits proves)) files ≡ Some o → o.status ≡ 0
    → (c : Certificate) × (certificate_in runs.options o.out ≡ Ok c)
    × (outcome_of (plan_of (asked_within limits checks)) files' ≡ Some (done_with (proved_line c)))
