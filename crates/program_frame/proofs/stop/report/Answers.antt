use Rattle.program_frame.proofs.stop.report.Goals as goal

pub returns : goal.returns
returns g c = record {
  put = c.say-put.result;
  puts = c.say-put.ensures.put;
  quiet = c.say-put.ensures.quiet;
  is = c.status_after.ensures;
}
