use Rattle.std.proofs.Common.{◌≡◌}
use Rattle.table_work.specs.inside.TableDone.{draft_with_rows}
use Rattle.table_work.proofs.table.add_rows.Given as goal

-- the rows of the nodes so far were added
abbrev pub invariant-loop-node : goal.invariant-loop-node
invariant-loop-node l = record {
  searcher : l.searcher ≡ l.initial.searcher;
  recent : l.recent ≡ l.initial.recent;
  added : l.writer ≡ draft_with_rows l.initial.searcher l.node l.initial.writer;
}
