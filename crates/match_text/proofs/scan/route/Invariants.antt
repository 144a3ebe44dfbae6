use Rattle.std.proofs.Common.{ℕ, List, ◌++◌, length, Option}
use Rattle.std.specs.Option.{option_map}
use Rattle.match_text.specs.Grammar.{ReadsRoute}
use Rattle.match_text.proofs.scan.route.Given as goal

-- the edges so far and those of what is left are those of all
abbrev pub invariant-loop-edge : goal.invariant-loop-edge
invariant-loop-edge l = (read : Option (List ℕ × List ℕ)) → ReadsRoute l.rest read → ReadsRoute l.text (option_map (λ x. (l.route ++ x.0, x.1)) read)

abbrev pub decreases-loop-edge : goal.decreases-loop-edge
decreases-loop-edge l = length l.rest
