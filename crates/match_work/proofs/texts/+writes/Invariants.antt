use Rattle.std.proofs.Common.{◌+◌, ◌-◌, ◌*◌}
use Rattle.match_work.proofs.texts.+writes.Given as goal

abbrev pub decreases-write_last_apart-others : goal.decreases-write_last_apart-others
decreases-write_last_apart-others g l = 3 * l.fewer + 1

abbrev pub decreases-write_last_apart : goal.decreases-write_last_apart
decreases-write_last_apart g l = 3 * l.threads - 1

abbrev pub decreases-write_in_threads : goal.decreases-write_in_threads
decreases-write_in_threads g l = 3 * l.threads
