-- What following a trace answers.
use Rattle.std.specs.Prelude.{◌≡◌, ◌≤◌, ℕ, Bool, true, false, List, ◌++◌, length, count_by}
use Rattle.cost_model.specs.declared.params.Params.{Params}
use Rattle.road_network.specs.Net.{Net}
use Rattle.trace_reader.specs.declared.trace.Trace.{Trace}
use Rattle.trace_match.specs.Match.{match_of}
use Rattle.online_commit.specs.declared.items.Item.{Item}
use Rattle.online_commit.specs.declared.items.Item.TheVariants.{At, Missing, Closed}
use Rattle.trace_sessions.specs.FollowText.{follow_text}

abbrev pub is_piece : Item → Bool
is_piece (At index candidate) = false
is_piece (Missing index) = false
is_piece (Closed piece route) = true

-- how many of these items are pieces
abbrev pub pieces_among : List Item → ℕ
pieces_among items = count_by is_piece items

-- the number of pieces of the match of this trace, which is no more than that of its positions
pub record IsPieceCount (n : Net) (p : Params) (trace : Trace) (count : ℕ) : Type 0 where
  pub is : count ≡ length (match_of n p trace).pieces
  pub few : count ≤ length trace.fixes

-- the follow text of this trace comes after the text, and the answer is the number of its pieces
pub record IsFollowed (n : Net) (p : Params) (trace : Trace) (text text' : List ℕ) (count : ℕ) : Type 0 where
  pub written : text' ≡ text ++ follow_text n p trace
  pub pieces : IsPieceCount n p trace count
