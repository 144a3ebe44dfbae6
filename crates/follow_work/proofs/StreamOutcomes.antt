-- What holds of the text of a job that was done holds of what a plan of that job wrote.
use Rattle.std.proofs.Common.{◌≡◌, ℕ, List, ◌++◌, Option, Some, None, Result, Ok, Err, refl, sym, ap, subst, arith}
use Rattle.cost_model.specs.declared.params.Params.{Params}
use Rattle.program_frame.specs.Jobs.{JobText, bytes_give, outcome_given_by}
use Rattle.program_frame.specs.Outcome.{Outcome, refused_with, bytes_seen}
use Rattle.program_frame.specs.Plan.{accepts, and_then, loads, outcome_of}
use Rattle.program_frame.specs.Refusals.{network_said, trace_limit}
use Rattle.program_frame.specs.Stream.{works_traces}
use Rattle.program_frame.specs.declared.stop.File.TheVariants.{Network}
use Rattle.road_network.specs.Limits.{file_limit}
use Rattle.road_network.specs.Net.{Net}
use Rattle.road_network.specs.declared.limits.NetworkLimits.{NetworkLimits}
use Rattle.trace_match.specs.Setting.{Setting}
use Rattle.trace_reader.specs.Reading.{file_fault, file_traces}
use Rattle.trace_reader.specs.declared.fault.TraceFault.{TraceFault}

-- a job was done: nothing was refused, the file has no fault, and the whole text was written
pub record IsDone (refusal : Option (List ℕ)) (fault : Option TraceFault) (texts ending : List ℕ) (o : Outcome) : Type 0 where
  pub none : refusal ≡ None
  pub whole : fault ≡ None
  pub out_is : o.out ≡ texts ++ ending

done-of : (refusal : Option (List ℕ)) (fault : Option TraceFault) (texts ending : List ℕ) (o : Outcome) → outcome_given_by refusal fault texts ending ≡ o → o.status ≡ 0 → IsDone refusal fault texts ending o
done-of (Some line) fault texts ending o is done =
    let status : 6 ≡ o.status = ap (λ (x : Outcome). x.status) is in absurd (omega (arith, status, done))
done-of None (Some fault) texts ending o is done =
    let status : 6 ≡ o.status = ap (λ (x : Outcome). x.status) is in absurd (omega (arith, status, done))
done-of None None texts ending o is done = record { none = refl; whole = refl; out_is = sym (ap (λ (x : Outcome). x.out) is) }

-- such a text of some bytes
abbrev pub Says : Type 1
Says = Setting → List ℕ → List ℕ → Type 0

-- what is said of the whole text of a job
abbrev pub HoldsOf : (Setting → JobText) → Says → Type 0
HoldsOf job says = (on : Setting) (bytes : List ℕ) → file_fault bytes ≡ None → (job on).refusal (file_traces bytes) ≡ None
    → says on bytes ((job on).texts (file_traces bytes) ++ (job on).ending (file_traces bytes))

-- what was read on the way to the outcome
pub record AreRead (says : Says) (on : Setting) (held : Option (List ℕ)) (text : List ℕ) : Type 0 where
  pub bytes : List ℕ
  pub held_is : held ≡ Some bytes
  pub holds : says on bytes text

pub record IsAcceptedNet (says : Says) (options : Params) (said : Result Net (List ℕ)) (held : Option (List ℕ)) (text : List ℕ) : Type 0 where
  pub net : Net
  pub said_is : said ≡ Ok net
  pub read : AreRead says (record { network = net; params = options }) held text

pub record IsReadNet (says : Says) (limits : NetworkLimits) (network traces : List ℕ) (options : Params) (files : List ℕ → Option (List ℕ)) (text : List ℕ) : Type 0 where
  pub roads : List ℕ
  pub roads_are : bytes_seen (file_limit limits) (files network) ≡ Some roads
  pub accepted : IsAcceptedNet says options (network_said limits roads) (bytes_seen trace_limit (files traces)) text

by-bytes : (job : Setting → JobText) (says : Says) → HoldsOf job says → (on : Setting) (bytes : List ℕ) (o : Outcome) → bytes_give (job on) bytes ≡ o → o.status ≡ 0 → says on bytes o.out
by-bytes job says holds on bytes o is done =
    let traces = file_traces bytes in
    let d = done-of ((job on).refusal traces) (file_fault bytes) ((job on).texts traces) ((job on).ending traces) o is done in
    subst (λ (text : List ℕ). says on bytes text) (sym d.out_is) (holds on bytes d.whole d.none)

by-held : (job : Setting → JobText) (says : Says) → HoldsOf job says → (on : Setting) (held : Option (List ℕ)) (o : Outcome)
    → and_then held (λ bytes. let r : Option Outcome = Some (bytes_give (job on) bytes) in r) ≡ Some o → o.status ≡ 0 → AreRead says on held o.out
by-held job says holds on None o is done = absurd (cc is)
by-held job says holds on (Some bytes) o is done = record { bytes = bytes; held_is = refl; holds = by-bytes job says holds on bytes o (cc is) done }

by-said : (job : Setting → JobText) (says : Says) → HoldsOf job says → (traces : List ℕ) (options : Params) (files : List ℕ → Option (List ℕ)) (said : Result Net (List ℕ)) (o : Outcome)
    → outcome_of (accepts 5 said (λ net. works_traces traces (job (record { network = net; params = options })))) files ≡ Some o → o.status ≡ 0
    → IsAcceptedNet says options said (bytes_seen trace_limit (files traces)) o.out
by-said job says holds traces options files (Ok net) o is done =
    record { net = net; said_is = refl; read = by-held job says holds (record { network = net; params = options }) (bytes_seen trace_limit (files traces)) o is done }
by-said job says holds traces options files (Err line) o is done =
    let same : refused_with 5 line ≡ o = cc is in
    let status : 5 ≡ o.status = ap (λ (x : Outcome). x.status) same in
    absurd (omega (arith, status, done))

pub outcome-says : (job : Setting → JobText) (says : Says) → HoldsOf job says → (limits : NetworkLimits) (network traces : List ℕ) (options : Params) (files : List ℕ → Option (List ℕ)) (o : Outcome)
    → outcome_of (loads Network network (file_limit limits) 5 (network_said limits) (λ net. works_traces traces (job (record { network = net; params = options })))) files ≡ Some o → o.status ≡ 0
    → IsReadNet says limits network traces options files o.out
outcome-says job says holds limits network traces options files o = step (bytes_seen (file_limit limits) (files network)) refl
  where
    step : (held : Option (List ℕ)) → bytes_seen (file_limit limits) (files network) ≡ held
        → and_then held (λ roads. outcome_of (accepts 5 (network_said limits roads) (λ net. works_traces traces (job (record { network = net; params = options })))) files) ≡ Some o
        → o.status ≡ 0 → IsReadNet says limits network traces options files o.out
    step None held_is is done = absurd (cc is)
    step (Some roads) held_is is done = record { roads = roads; roads_are = held_is; accepted = by-said job says holds traces options files (network_said limits roads) o is done }
