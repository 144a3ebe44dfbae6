use Rattle.std.proofs.Common.{subst, ap, ◌∙◌}
use Rattle.check_work.specs.inside.CheckDone.{finding_said}
use Rattle.check_work.proofs.CheckedProofs.{finding_says}
use Rattle.program_frame.specs.inside.Refusing.{Accepts}
use Rattle.program_frame.specs.declared.stop.Refusal.TheVariants.{Certificate}
use Rattle.check_work.proofs.check.check_proofs.Goals as goal

pub returns : goal.returns
returns g c =
    let about = c.args.subject.now in
    let said = ap finding_said c.in_ok-found.ensures ∙ finding_says about.net.now about.params.now about.traces.now c.args.certificate.now in
    subst (λ said. Accepts Certificate said c.accept_finding.result) said c.accept_finding.ensures
