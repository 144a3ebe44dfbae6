-- The verdict on a trace: the first condition that fails, at the first position where one fails.
use Rattle.std.specs.Prelude.{ℕ, zero, suc, ◌+◌, ◌-◌, ◌==◌, ◌&&◌, ◌||◌, not, Bool, true, nat_le, nat_lt, is_some, if◌then◌else◌, List, [], ◌∷◌, length, map, Option, Some, None}
use Rattle.std.specs.Cmp.Lexicographic.{pointwise}
use Rattle.std.specs.Option.{option_eq}
use Rattle.std.specs.List.{list_all, list_any, range_with_len}
use Rattle.cost_model.specs.declared.params.Params.{Params}
use Rattle.cost_model.specs.Costs.{emission}
use Rattle.road_network.specs.Net.{Net, edge_name}
use Rattle.trace_reader.specs.declared.trace.Trace.{Trace}
use Rattle.bounded_table.specs.Table.{TableRow}
use Rattle.matching.specs.declared.parts.Cell.{Cell}
use Rattle.matching.specs.declared.parts.Piece.{Piece}
use Rattle.matching.specs.Cells.{cell_at}
use Rattle.matching.specs.Layers.{candidate_of_rank, end_of}
use Rattle.match_text.specs.declared.matched.Routed.{Routed}
use Rattle.route_rebuild.specs.Routes.{route_of}
use Rattle.trace_match.specs.Match.{layers_of}
use Rattle.potential_certificate.specs.declared.proof.TraceProof.{TraceProof}
use Rattle.cert_checker.specs.declared.verdict.Condition.{Condition}
use Rattle.cert_checker.specs.declared.verdict.Condition.TheVariants.{Candidates, FirstCost, Relaxed, Tight, Pointer, Chosen, Break, Row, Route, Trace as TraceIds}
use Rattle.cert_checker.specs.declared.verdict.Verdict.{Verdict}
use Rattle.cert_checker.specs.declared.verdict.Verdict.TheVariants.{Proved, Refused}
use Rattle.cert_checker.specs.Case.{Case, has_row, has_way, is_looked_at, layer, rank, table, ways, width}
use Rattle.cert_checker.specs.Cells.{is_first_cell, is_first_pointer, is_least_rank, is_relaxed, is_tight, pointer_of}
use Rattle.cert_checker.specs.Pieces.{begins, goes_on, is_in_any, rise_from}

-- a test of each number below n
abbrev pub each_below : ℕ → (ℕ → Bool) → Bool
each_below n test = list_all test (range_with_len 0 n)

-- position i is the last of the trace
abbrev pub is_last : Case → ℕ → Bool
is_last c i = i + 1 == length c.layers

-- a rank below the number of candidates; none if there is no candidate
abbrev pub is_rank_of : ℕ → Option ℕ → Bool
is_rank_of w None = w == 0
is_rank_of w (Some r) = nat_lt r w

abbrev pub has_candidates : Case → ℕ → Bool
has_candidates c i =
    (nat_lt i (length c.proof.ranks) && nat_lt i (length c.proof.tables))
    && ((length (table c i) == width c i)
    && (is_rank_of (width c i) (rank c i)
    && (not (is_last c i)
    || (nat_le (length c.proof.ranks) (i + 1) && nat_le (length c.proof.tables) (i + 1)))))

abbrev pub has_rows : Case → ℕ → Bool
has_rows c i =
    not (is_looked_at c i)
    || each_below (width c (i - 1)) (λ a.
    not (is_some ((cell_at (table c (i - 1)) a).cost))
    || has_row c.rows (end_of c.net (layer c (i - 1)) a))

-- the position begins a piece, goes on with one or is in none, as its transitions tell
abbrev pub breaks_right : Case → ℕ → Bool
breaks_right c i =
    if width c i == 0 then not (is_in_any c.proof.pieces i)
    else if is_looked_at c i && has_way c i then goes_on c.proof.pieces i
    else begins c.proof.pieces i

-- and at the first and the last position, the pieces are in order within the trace
abbrev pub has_breaks : Case → ℕ → Bool
has_breaks c i =
    breaks_right c i
    && ((not (i == 0) || rise_from 0 c.proof.pieces)
    && (not (is_last c i) || not (list_any (λ q. nat_lt i q.last) c.proof.pieces)))

abbrev pub has_first_costs : Case → ℕ → Bool
has_first_costs c i =
    not (begins c.proof.pieces i)
    || each_below (width c i) (λ j.
    is_first_cell (emission c.params (candidate_of_rank (layer c i) j).d2) (cell_at (table c i) j))

-- a test of each cell of a later position of a piece, by the ways to it
abbrev pub each_later : (List (Option ℕ) → Cell → Bool) → Case → ℕ → Bool
each_later test c i =
    not (goes_on c.proof.pieces i)
    || each_below (width c i) (λ j. test (ways c i j) (cell_at (table c i) j))

-- at each position of the piece but the last the chosen rank is the pointer of the next chosen cell
abbrev pub follows_pointers : Case → Routed → Bool
follows_pointers c q =
    each_below (q.last - q.first) (λ k.
    option_eq (λ a b. a == b) (rank c (q.first + k))
    (pointer_of (table c (q.first + k + 1)) (rank c (q.first + k + 1))))

-- a test of each piece that ends with position i
abbrev pub each_ended : (Routed → Bool) → Case → ℕ → Bool
each_ended test c i = list_all (λ q. not (q.last == i) || test q) c.proof.pieces

abbrev pub is_chosen : Case → Routed → Bool
is_chosen c q = is_least_rank (table c q.last) (rank c q.last) q.cost && follows_pointers c q

-- the piece without its route
abbrev pub piece_without_route : Routed → Piece
piece_without_route q = record { first = q.first; last = q.last; cost = q.cost }

abbrev pub has_route : Case → Routed → Bool
has_route c q =
    pointwise (λ a b. a == b) q.route (map (edge_name c.net) (route_of c.net c.params c.layers c.proof.ranks (piece_without_route q)))

-- the conditions at position i
abbrev pub holds : Case → ℕ → Condition → Bool
holds c i Candidates = has_candidates c i
holds c i Row = has_rows c i
holds c i Break = has_breaks c i
holds c i FirstCost = has_first_costs c i
holds c i Relaxed = each_later is_relaxed c i
holds c i Tight = each_later is_tight c i
holds c i Pointer = each_later is_first_pointer c i
holds c i Chosen = each_ended (is_chosen c) c i
holds c i Route = each_ended (has_route c) c i
holds c i TraceIds = true

-- the order in which they are tried at a position
abbrev pub order : List Condition
order =
    Candidates ∷ Row ∷ Break ∷ FirstCost ∷ Relaxed ∷ Tight ∷ Pointer ∷ Chosen ∷ Route ∷ []

abbrev pub first_failing : (Condition → Bool) → List Condition → Option Condition
first_failing test [] = None
first_failing test (x ∷ xs) = if test x then first_failing test xs else Some x

abbrev pub refused_at : ℕ → ℕ → Option Condition → Verdict
refused_at number i None = Proved
refused_at number i (Some x) = Refused x number i

abbrev pub or_else : Verdict → Verdict → Verdict
or_else Proved v = v
or_else (Refused x number place) v = Refused x number place

-- the verdict on the first n positions
abbrev pub verdict_before : ℕ → Case → ℕ → Verdict
verdict_before number c zero = Proved
verdict_before number c (suc i) = or_else (verdict_before number c i) (refused_at number i (first_failing (holds c i) order))

-- the verdict on a trace
abbrev pub trace_verdict : ℕ → Case → Verdict
trace_verdict number c = verdict_before number c (length c.layers)

-- a trace with its proof
abbrev pub case_of : Net → Params → List TableRow → Trace → TraceProof → Case
case_of n p rows trace proof = record { net = n; params = p; rows = rows; layers = layers_of n p trace; proof = proof }
