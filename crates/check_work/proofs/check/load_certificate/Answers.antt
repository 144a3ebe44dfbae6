use Rattle.std.proofs.Common.{refl}
use Rattle.std.proofs.lemmas.Result.{err_from_is_err_and}
use Rattle.program_frame.proofs.Stages.{load_taken, load_unread}
use Rattle.program_frame.specs.declared.stop.File.TheVariants.{Certificate}
use Rattle.program_frame.specs.declared.stop.Refusal.TheVariants as refusals
use Rattle.check_work.proofs.check.load_certificate.Goals as goal

pub returns-in_err-text : goal.returns-in_err-text
returns-in_err-text g c =
    let p = err_from_is_err_and c.from_residual.result c.from_residual.ensures.1 in
    rw (p.1, p.2) (load_unread Certificate c.args.name.now _ _ _ c.in_err-text.ensures.err)

pub returns : goal.returns
returns g c =
    load_taken refusals.Certificate Certificate c.args.name.now _ _ _ _ c.in_ok-text.text c.in_ok-text.text c.accept_certificate.result c.in_ok-text.ensures.ok refl c.accept_certificate.ensures
