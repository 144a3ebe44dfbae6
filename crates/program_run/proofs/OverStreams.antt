-- The promises of a run through the adapters of the shipped program.
use Rattle.std.proofs.Common.{◌≡◌, ℕ, List, [], Option, Some, None, Result, refl, sym, subst}
use Rattle.std.specs.Prelude.{IsSomeAnd}
use Rattle.edge_io.specs.State.{ShelfState, SinkState, new_shelf, new_sink}
use Rattle.program_frame.specs.Outcome.{Outcome, out_text}
use Rattle.program_frame.specs.Plan.{Plan, outcome_of, plan_of}
use Rattle.program_frame.specs.Promises.{Promises}
use Rattle.program_run.specs.OverStreams.{IsWrittenOutcome, LeavesOutcome, WritesOutcome}

-- over a new shelf and two new sinks
kept_anew : (lines : ℕ → List ℕ → Type 0) (asked : Result Plan (List ℕ)) (held : Option (List ℕ → Option (List ℕ)))
    (shelf' : ShelfState) (out : Option (List ℕ)) (out' : SinkState) (err : Option (List ℕ)) (err' : SinkState) (status : ℕ)
    → Promises lines asked (new_shelf held) shelf' (new_sink out) out' (new_sink err) err' status
    → WritesOutcome asked held out out'.written err err'.written status
kept_anew lines asked held shelf' out out' err err' status kept = record {
  whole = kept.outcome;
  prefix = kept.prefix;
}

pub outcome_written : (lines : ℕ → List ℕ → Type 0) (asked : Result Plan (List ℕ)) (held : Option (List ℕ → Option (List ℕ)))
    (shelf shelf' : ShelfState) (out out' err err' : SinkState) (begun written said_before said : Option (List ℕ)) (status : ℕ)
    → Promises lines asked shelf shelf' out out' err err' status
    → shelf ≡ new_shelf held
    → out ≡ new_sink begun
    → err ≡ new_sink said_before
    → written ≡ out'.written
    → said ≡ err'.written
    → WritesOutcome asked held begun written said_before said status
outcome_written lines asked held shelf shelf' out out' err err' begun written said_before said status kept shelf_is out_is err_is written_is said_is =
    let a = subst (λ (s : ShelfState). Promises lines asked s shelf' out out' err err' status) shelf_is kept in
    let b = subst (λ (s : SinkState). Promises lines asked (new_shelf held) shelf' s out' err err' status) out_is a in
    let c = subst (λ (s : SinkState). Promises lines asked (new_shelf held) shelf' (new_sink begun) out' s err' status) err_is b in
    let d = kept_anew lines asked held shelf' begun out' said_before err' status c in
    let e = subst (λ (x : Option (List ℕ)). WritesOutcome asked held begun x said_before err'.written status) (sym written_is) d in
    subst (λ (x : Option (List ℕ)). WritesOutcome asked held begun written said_before x status) (sym said_is) e

-- the outcome whose texts were appended to nothing
outcome_is : (known : Option Outcome) (out err : List ℕ) (status : ℕ)
    → IsSomeAnd known (IsWrittenOutcome (Some []) (Some out) (Some []) (Some err) status)
    → known ≡ Some (record { out = out; err = err; status = status })
outcome_is None out err status is = absurd is
outcome_is (Some o) out err status is = rw (is.0, is.1, is.2) refl

left_anew : (asked : Result Plan (List ℕ)) (files : List ℕ → Option (List ℕ)) (out err : List ℕ) (status : ℕ)
    → WritesOutcome asked (Some files) (Some []) (Some out) (Some []) (Some err) status
    → LeavesOutcome asked files out err status
left_anew asked files out err status wrote = record {
  whole = λ settled. outcome_is (outcome_of (plan_of asked) files) out err status (wrote.whole settled);
  prefix = (wrote.prefix.0, wrote.prefix.1);
}

pub outcome_left : (asked : Result Plan (List ℕ)) (files : List ℕ → Option (List ℕ)) (begun said_before out err : List ℕ) (status : ℕ)
    → WritesOutcome asked (Some files) (Some begun) (Some out) (Some said_before) (Some err) status
    → begun ≡ []
    → said_before ≡ []
    → LeavesOutcome asked files out err status
outcome_left asked files begun said_before out err status wrote begun_is said_is =
    let a = subst (λ (x : List ℕ). WritesOutcome asked (Some files) (Some x) (Some out) (Some said_before) (Some err) status) begun_is wrote in
    let b = subst (λ (x : List ℕ). WritesOutcome asked (Some files) (Some []) (Some out) (Some x) (Some err) status) said_is a in
    left_anew asked files out err status b
