use Rattle.std.proofs.Common.{◌≤◌}
use Rattle.program_frame.proofs.Words.{AreWordsBefore}
use Rattle.program_frame.proofs.arguments.read_words.Given as goal

abbrev pub invariant-loop-i : goal.invariant-loop-i
invariant-loop-i g l = record {
  some : 1 ≤ l.i;
  words : AreWordsBefore (g.A.Arguments.given l.arguments) l.i l.words.items;
}
