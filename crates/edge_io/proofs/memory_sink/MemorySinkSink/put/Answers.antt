use Rattle.std.proofs.Common.{rules, ◌/◌, length}
use Rattle.edge_io.proofs.memory_sink.MemorySinkSink.put.Goals as goal

pub returns-in-Ok-clause-puts : goal.returns-in-Ok-clause-puts
returns-in-Ok-clause-puts c = rw (← c.self.view_is) ((length c.args.text.now / 2, search rules), search rules)
