-- Traces that were loaded whole.
use Rattle.std.proofs.Common.{◌≡◌, ℕ, List, Result, ap, subst, ◌∙◌}
use Rattle.program_frame.specs.Loads.{RefusesLoad}
use Rattle.program_frame.specs.declared.stop.Refusal.TheVariants.{TooLong}
use Rattle.program_frame.specs.declared.stop.Stop.{Stop}
use Rattle.trace_reader.specs.declared.trace.Trace.{Trace}
use Rattle.trace_match.specs.Setting.{Setting}
use Rattle.prove_work.specs.Prove.{prove_said}

-- what is said of the traces that were taken
pub said_of_taken : (matcher on : Setting) (traces taken : List Trace) → matcher ≡ on → traces ≡ taken → prove_said matcher traces ≡ prove_said on taken
said_of_taken matcher on traces taken same all = ap (λ (s : Setting). prove_said s traces) same ∙ ap (prove_said on) all

pub taken_refused : (stop : Stop) (matcher on : Setting) (traces taken : List Trace) → matcher ≡ on → traces ≡ taken → RefusesLoad TooLong (prove_said matcher traces) stop → RefusesLoad TooLong (prove_said on taken) stop
taken_refused stop matcher on traces taken same all refuses = subst (λ (s : Result (List ℕ) (List ℕ)). RefusesLoad TooLong s stop) (said_of_taken matcher on traces taken same all) refuses
