use Rattle.std.proofs.Common.{◌≡◌, ◌++◌, take}
use Rattle.match_work.specs.Matched.{pieces_in}
use Rattle.match_work.specs.inside.Calls.{text_of_matches}
use Rattle.match_work.proofs.texts.write_matches.Given as goal

abbrev pub invariant-loop-matched : goal.invariant-loop-matched
invariant-loop-matched l = record {
  text : l.into ≡ l.initial.into ++ text_of_matches (take l.matched-index l.matches);
  pieces : l.pieces ≡ pieces_in (take l.matched-index l.matches);
}
