-- The route over a run, in the words of the run.
use Rattle.std.specs.Prelude.{ℕ, ◌≡◌, ◌+◌, ◌-◌, ◌≤◌, ◌++◌, List, length}
use Rattle.bounded_table.specs.Rows.{RowsState, AreRowsOf}
use Rattle.matching.specs.Routes.{Route, IsTheRoute}
use Rattle.road_network.specs.Net.{Net, source, target}
use Rattle.road_network.specs.Walk.{IsWalk, walk_length}
use Rattle.road_network.specs.declared.Candidate.{Candidate}
use Rattle.route_rebuild.specs.declared.run.Run.{Run}
use Rattle.route_rebuild.specs.Routes.{IsRouteOver, IsWalkStartOver, candidate_in, edges_of}
use Rattle.trellis.specs.Links.{IsDirect}

-- they are the rows that the run asks for
abbrev pub AreRowsForRun : RowsState → Run → Type 0
AreRowsForRun state run = AreRowsOf state run.net.now run.params.now.bound

-- the chosen candidate of position i
abbrev pub chosen_in_run : Run → ℕ → Candidate
chosen_in_run run i = candidate_in run.chosen.now i

-- its last position
abbrev pub last_in : Run → ℕ
last_in run = length run.chosen.now - 1

-- es is the route over the run
abbrev pub IsRouteOfRun : Run → List ℕ → Type 0
IsRouteOfRun run es = IsRouteOver run.net.now run.params.now run.chosen.now es

-- there is a direct route from position i to the next
abbrev pub IsDirectLeg : Run → ℕ → Type 0
IsDirectLeg run i = IsDirect run.params.now.back (chosen_in_run run i) (chosen_in_run run (i + 1))

-- there is none, and v is the node where the walk to the next position starts
abbrev pub IsWalkStartAt : Run → ℕ → ℕ → Type 0
IsWalkStartAt run i v = (IsDirectLeg run i → ⊥) × (v ≡ target run.net.now (chosen_in_run run i).edge.0)

-- v is such a node of the run
abbrev pub IsWalkStartOf : Run → ℕ → Type 0
IsWalkStartOf run v = IsWalkStartOver run.net.now run.params.now run.chosen.now v

-- the edges of the route from position i to the next were appended
pub record IsLegAdded (run : Run) (i : ℕ) (old new : List ℕ) : Type 0 where
  pub route : Route
  pub is : IsTheRoute run.net.now run.params.now.bound run.params.now.back (chosen_in_run run i)
      (chosen_in_run run (i + 1)) route
  pub added : new ≡ old ++ edges_of (chosen_in_run run (i + 1)) route

-- a walk of at most this length joins node u to node v
abbrev pub AreJoined : Net → ℕ → ℕ → ℕ → Type 0
AreJoined n bound u v = (w : List ℕ) × IsWalk n u w v × (walk_length n w ≤ bound)

-- and the end of edge e to the start of edge f
abbrev pub HasWalk : Net → ℕ → ℕ → ℕ → Type 0
HasWalk n bound e f = AreJoined n bound (target n e) (source n f)
