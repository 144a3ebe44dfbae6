use Rattle.std.proofs.Common.{length}
use Rattle.candidate_search.proofs.groups.+list_group.Given as goal

abbrev pub decreases-list_group : goal.decreases-list_group
decreases-list_group l = length l.group.now
