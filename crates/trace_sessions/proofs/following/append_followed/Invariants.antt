use Rattle.std.proofs.Common.{◌≡◌, ◌++◌}
use Rattle.bounded_table.specs.Rows.{AsksAll}
use Rattle.online_commit.specs.Session.{AsksPoints}
use Rattle.trace_sessions.proofs.FollowedPoints.{HasFollowed, first_layers}
use Rattle.trace_sessions.proofs.FollowedText.{text_so_far}
use Rattle.trace_sessions.proofs.following.append_followed.Given as goal

abbrev pub invariant-loop-fix : goal.invariant-loop-fix
invariant-loop-fix g l = record {
  followed : HasFollowed l.on.net.now l.on.params.now l.trace l.fix-index l.session l.pieces;
  text : l.into ≡ l.fn.into ++ text_so_far l.on.net.now l.on.params.now l.trace l.fix-index;
  asked : AsksAll (g.R.Rows.state l.fn.rows) (g.R.Rows.state l.rows) (AsksPoints l.on.net.now l.on.params.now (first_layers l.on.net.now l.on.params.now l.trace l.fix-index));
}
