use Rattle.listed_files.proofs.Networks.{networks_are_read}
use Rattle.listed_files.proofs.networks_are_read.Goals as goal

pub returns : goal.returns
returns c = networks_are_read
