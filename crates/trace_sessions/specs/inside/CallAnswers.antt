-- The answers to calls on sessions, one after the other.
use Rattle.std.specs.Prelude.{ℕ, List, [], ◌∷◌}
use Rattle.trace_sessions.specs.Sessions.{Call, Pair, items_of_call, with_fix, without_pair}
use Rattle.trace_sessions.specs.Sessions.Call.{closes, feeds}
use Rattle.cost_model.specs.declared.params.Params.{Params}
use Rattle.road_network.specs.Net.{Net}
use Rattle.online_commit.specs.declared.items.Item.{Item}
use Rattle.trace_sessions.specs.Calls.{id_of}

-- the pairs after a call
abbrev pub pairs_after : List Pair → Call → List Pair
pairs_after pairs (feeds id fix) = with_fix pairs id fix
pairs_after pairs (closes id) = without_pair pairs id

-- the answers to calls, each with its id
abbrev pub answers : Net → Params → List Pair → List Call → List (ℕ × List Item)
answers n p pairs [] = []
answers n p pairs (call ∷ calls) =
    (id_of call, items_of_call n p pairs call) ∷ answers n p (pairs_after pairs call) calls
