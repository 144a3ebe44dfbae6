use Rattle.std.proofs.Common.{refl}
use Rattle.std.proofs.lemmas.Result.{err_from_is_err_and}
use Rattle.program_frame.proofs.Stages.{load_taken, load_unread}
use Rattle.program_frame.specs.declared.stop.File.TheVariants.{Network}
use Rattle.program_frame.specs.declared.stop.Refusal.TheVariants as refusals
use Rattle.program_frame.proofs.load.load_network.Goals as goal

pub returns-in_err-bytes : goal.returns-in_err-bytes
returns-in_err-bytes g c =
    let p = err_from_is_err_and c.from_residual.result c.from_residual.ensures.1 in
    rw (p.1, p.2) (load_unread Network c.args.name.now _ _ _ c.in_err-bytes.ensures.err)

pub returns : goal.returns
returns g c =
    load_taken refusals.Network Network c.args.name.now _ _ _ _ c.in_ok-bytes.bytes.items c.in_ok-bytes.bytes.items c.accept_network.result (rw c.file_bytes-limit.ensures at c.in_ok-bytes.ensures.ok) refl c.accept_network.ensures
