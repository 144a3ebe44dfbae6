-- What a run over any files and streams writes, as far as contracts see their bytes.
use Rattle.std.specs.Prelude.{◌≡◌, ℕ, List, take, Some, IfSome, IsSomeAnd, Result}
use Rattle.std.specs.declared.option.Option.{Option}
use Rattle.std.specs.Io.KnownBytes.{Appends}
use Rattle.edge_io.specs.Sink.{AppendsPrefix}
use Rattle.program_frame.specs.Outcome.{Outcome, out_text}
use Rattle.program_frame.specs.Plan.{Plan, outcome_of, plan_of}
use Rattle.program_frame.specs.Promises.{IsSettled}

-- out and err have gained the texts of the outcome, and the status is its status
abbrev pub IsWrittenOutcome : (out out' err err' : Option (List ℕ)) → ℕ → Outcome → Type 0
IsWrittenOutcome out out' err err' status o =
    (status ≡ o.status) × Appends out out' o.out × Appends err err' o.err

-- where the bytes of the files are known: unless memory ran out or a read or a write failed, the status and both
-- texts are those of the outcome; and out always gains a prefix of its text
pub record WritesOutcome (asked : Result Plan (List ℕ)) (files : Option (List ℕ → Option (List ℕ)))
    (out out' err err' : Option (List ℕ)) (status : ℕ) : Type 0 where
  pub whole : IsSettled status → IfSome files
      (λ held. IsSomeAnd (outcome_of (plan_of asked) held) (IsWrittenOutcome out out' err err' status))
  pub prefix : IfSome files
      (λ held. AppendsPrefix out out' (out_text (outcome_of (plan_of asked) held)))

-- the same of a run over named bytes and two empty vectors: these are all bytes that it left in them
pub record LeavesOutcome (asked : Result Plan (List ℕ)) (files : List ℕ → Option (List ℕ))
    (out err : List ℕ) (status : ℕ) : Type 0 where
  pub whole : IsSettled status
      → outcome_of (plan_of asked) files ≡ Some (record { out = out; err = err; status = status })
  pub prefix : (n : ℕ) × (out ≡ take n (out_text (outcome_of (plan_of asked) files)))
