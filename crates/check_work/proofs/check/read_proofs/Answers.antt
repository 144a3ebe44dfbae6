use Rattle.check_work.proofs.CheckedProofs.{read_few}
use Rattle.check_work.proofs.check.read_proofs.Goals as goal

pub returns-in-Ok-clause-few : goal.returns-in-Ok-clause-few
returns-in-Ok-clause-few c = read_few c.args.options.now c.args.text c.in-Ok.certificate c.in-Ok.ensures.ok
