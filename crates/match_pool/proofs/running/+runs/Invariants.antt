use Rattle.std.proofs.Common.{◌+◌, ◌*◌, length}
use Rattle.match_pool.proofs.running.+runs.Given as goal

abbrev pub decreases-run_first-others : goal.decreases-run_first-others
decreases-run_first-others g l = 3 * length l.rest.now + 1

abbrev pub decreases-run_first : goal.decreases-run_first
decreases-run_first g l = 3 * length l.rest.now + 2

abbrev pub decreases-run_from : goal.decreases-run_from
decreases-run_from g l = 3 * length l.items.now
