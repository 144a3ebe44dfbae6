use Rattle.program_frame.proofs.NetworkLoad.{network_refused}
use Rattle.program_frame.proofs.load.accept_network.Goals as goal

pub returns-in-Err : goal.returns-in-Err
returns-in-Err c = network_refused c.args.limits c.args.text.items c.in-Err.fault c.refuse_fault.result c.in-Err.ensures.fault c.refuse_fault.ensures
