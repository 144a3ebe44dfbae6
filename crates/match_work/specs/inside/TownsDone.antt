-- What the matches of a town's traces come to.
use Rattle.std.specs.Prelude.{◌≡◌, ℕ, ◌*◌, ◌≤◌, ◌^◌, List, length}
use Rattle.std.specs.List.{sum_by}
use Rattle.match_text.specs.declared.matched.MatchedTrace.{MatchedTrace}
use Rattle.match_work.specs.Matched.{pieces_in}
use Rattle.match_work.specs.Towns.{cost_of}
use Rattle.match_work.specs.declared.towns.Costs.{Costs}

-- the cost of a match: each piece costs less than 2^64
pub record IsMatchCost (matched : MatchedTrace) (cost : ℕ) : Type 0 where
  pub is : cost ≡ cost_of matched
  pub small : cost ≤ length matched.pieces * 2 ^ 64

-- the pieces of these matches, and the sum of their costs
pub record AreMatchCosts (matches : List MatchedTrace) (costs : Costs) : Type 0 where
  pub pieces_are : costs.pieces ≡ pieces_in matches
  pub is : costs.cost ≡ sum_by cost_of matches
  pub small : costs.cost ≤ costs.pieces * 2 ^ 64
