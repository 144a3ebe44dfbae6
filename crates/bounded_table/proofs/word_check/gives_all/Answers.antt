use Rattle.std.proofs.Common.{rules}
use Rattle.bounded_table.proofs.word_check.gives_all.Goals as goal

pub returns-clause-blank : goal.returns-clause-blank
returns-clause-blank c = record {
  low = c.requires.blank.low;
  words_count = search (rules, c.requires.blank.words_count);
  none_labelled = c.take_away.ensures;
}
