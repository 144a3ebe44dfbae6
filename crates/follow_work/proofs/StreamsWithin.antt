-- The two forms of a stream, by the number of seconds after which drives end.
use Rattle.std.proofs.Common.{◌≡◌, ℕ, ◌<◌, ◌≤◌, true, false, cond, nat_lt, sym, ap, arith}
use Rattle.std.proofs.lemmas.Bool.Decides.{nat_tests}
use Rattle.trace_match.specs.Setting.{Setting}
use Rattle.program_frame.specs.Jobs.{JobText}
use Rattle.follow_work.specs.Drives.{drives_job}
use Rattle.follow_work.specs.Streams.{streams_job, streams_within}

-- drives end
pub within-drives : (on : Setting) (idle : ℕ) → idle < 4_294_967_295 → drives_job on idle ≡ streams_within on idle
within-drives on idle low =
    let e : nat_lt idle 4_294_967_295 ≡ true = grind (arith, nat_tests) in
    sym (ap (λ b. let job : JobText = cond b (drives_job on idle) (streams_job on) in job) e)

-- or none ends before the file does
pub within-streams : (on : Setting) (idle : ℕ) → 4_294_967_295 ≤ idle → streams_job on ≡ streams_within on idle
within-streams on idle high =
    let e : nat_lt idle 4_294_967_295 ≡ false = grind (arith, nat_tests) in
    sym (ap (λ b. let job : JobText = cond b (drives_job on idle) (streams_job on) in job) e)
