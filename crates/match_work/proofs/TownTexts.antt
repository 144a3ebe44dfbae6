-- What the matches of a town's traces come to.
use Rattle.std.proofs.Common.{◌≡◌, ℕ, ◌+◌, ◌*◌, ◌≤◌, ◌<◌, List, [], ◌∷◌, ◌++◌, All, length, take, get_or, Ok, refl, sym, ◌∙◌, ap, subst, arith}
use Rattle.std.specs.List.{AllZip, sum_by}
use Rattle.std.specs.Result.{result_unwrap_or}
use Rattle.std.proofs.lemmas.List.Elements.{All-head, All-tail, All-weaker}
use Rattle.std.proofs.lemmas.List.Sums.{sum_by-cons, sum_by_more}
use Rattle.cost_model.specs.declared.params.Params.{Params}
use Rattle.match_pool.specs.Learning.{LearnAsked}
use Rattle.match_pool.specs.Working.{StaysReader}
use Rattle.match_text.specs.declared.matched.MatchedTrace.{MatchedTrace}
use Rattle.match_text.specs.declared.matched.Routed.{Routed}
use Rattle.program_frame.specs.Jobs.{IsBounded, position_count}
use Rattle.program_frame.specs.Total.{AddsCounts, CountsFit, total_line}
use Rattle.program_frame.specs.declared.total.Tally.{Tally}
use Rattle.road_network.specs.Net.{Net}
use Rattle.road_network.specs.NetworkFile.{network_of, no_net}
use Rattle.road_network.specs.declared.limits.NetworkLimits.TheVariants.{Standard}
use Rattle.row_store.specs.Store.{Reading, Stored, count_known}
use Rattle.town.specs.Laws.{IsTownTrace}
use Rattle.town.specs.Network.{network_text}
use Rattle.town.specs.Traces.{town_trace_list, traces_text}
use Rattle.town.proofs.TownTraces.{traces_are_lawful}
use Rattle.trace_match.specs.Match.{match_of}
use Rattle.trace_reader.specs.Reading.{closed, file_traces, reading_of}
use Rattle.trace_reader.specs.Reader.{Closes, Ends}
use Rattle.trace_reader.specs.declared.reader.TraceReader.{TraceReader}
use Rattle.trace_reader.specs.Trace.{IsLawfulTrace}
use Rattle.trace_reader.specs.declared.trace.Trace.{Trace}
use Rattle.match_work.specs.Matched.{AreMatchesOf}
use Rattle.trace_match.specs.Setting.{Setting}
use Rattle.match_work.specs.Sharing.{ShareStore, fresh_readers}
use Rattle.program_frame.specs.Counts.{total_of}
use Rattle.match_work.specs.Towns.{cost_line, cost_of, costs_of, network_in, town_text}
use Rattle.match_work.specs.inside.TownsDone.{AreMatchCosts, IsMatchCost}
use Rattle.match_work.specs.declared.towns.Costs.{Costs}
use Rattle.program_frame.proofs.Counting.{fits_more}
use Rattle.match_work.proofs.Jobs.{begun, matched_more, total_is}
use Rattle.match_work.proofs.TraceMatches.{matches_of, pieces_found, pieces_next}
use Rattle.trace_match.specs.Totals.{piece_count, asked_count}

-- the network that was read
pub network_read : (bytes : List ℕ) (net : Net) → network_of Standard bytes ≡ Ok net → net ≡ network_in bytes
network_read bytes net read = sym (ap (λ r. result_unwrap_or r no_net) read)

-- the traces that were fed and those that the end of the file brings
nothing_closed : closed [] ≡ []
unfolding closed reading_of
nothing_closed = refl

pub traces_read : (bytes : List ℕ) (none old new : List Trace) (reader : TraceReader) → none ≡ [] → Closes [] bytes none old → Ends bytes reader old new → new ≡ file_traces bytes
traces_read bytes none old new reader empty closes ends =
    let front : old ≡ closed bytes = closes.grown ∙ ap (λ l. l ++ closes.more) (empty ∙ sym nothing_closed) ∙ sym closes.due in
    ends.grown ∙ ap (λ l. l ++ ends.more) front ∙ sym ends.due

-- the traces of a town are lawful and few
points_are : (traces : List Trace) → All IsTownTrace traces → position_count traces ≡ 20 * length traces
points_are [] all = refl
points_are (trace ∷ rest) all =
    let one = (All-head IsTownTrace trace rest all).fixes in
    let later = points_are rest (All-tail IsTownTrace trace rest all) in
    let more : position_count (trace ∷ rest) ≡ length trace.fixes + position_count rest = sum_by-cons (λ (t : Trace). length t.fixes) trace rest in
    omega (arith, one, later, more)

pub town_bounded : (n t seed : ℕ) (traces : List Trace) → 2 ≤ n → n ≤ 100 → 1 ≤ t → t ≤ 2_000 → traces ≡ file_traces (traces_text n t seed) → IsBounded traces
town_bounded n t seed traces two few some count are =
    let town = traces_are_lawful n t seed two few some count in
    let list = town_trace_list n t seed in
    let size = town.count in
    let points = points_are list town.each in
    subst IsBounded (sym (are ∙ town.says.are)) (record {
      few = omega (arith, size, count);
      few_points = omega (arith, size, points, count);
      lawful = All-weaker IsTownTrace IsLawfulTrace (λ trace h. h.lawful) list town.each;
    })

pub town_few : (n t seed : ℕ) (traces : List Trace) → 2 ≤ n → n ≤ 100 → 1 ≤ t → t ≤ 2_000 → traces ≡ file_traces (traces_text n t seed) → length traces ≤ 2_000
town_few n t seed traces two few some count are =
    let town = traces_are_lawful n t seed two few some count in
    let size = town.count in
    let same : length traces ≡ length (town_trace_list n t seed) = ap (λ (l : List Trace). length l) (are ∙ town.says.are) in
    omega (arith, size, same, count)

-- the cost of one more piece
pub cost_more : (pieces : List Routed) (i cost one : ℕ) (piece : Routed) → i < length pieces → piece ≡ get_or pieces i piece → one ≡ piece.cost
    → cost ≡ sum_by (λ p. p.cost) (take i pieces) → cost + one ≡ sum_by (λ p. p.cost) (take (i + 1) pieces)
cost_more pieces i cost one piece low is same before =
    let more = sum_by_more (λ (p : Routed). p.cost) pieces i piece low in
    let here : piece.cost ≡ (get_or pieces i piece).cost = ap (λ p. p.cost) is in
    omega (arith, more, here, before, same)

-- the costs of the matches are those of the traces
costs_are : (on : Setting) (traces : List Trace) → sum_by cost_of (matches_of on traces) ≡ costs_of on traces
costs_are on [] = refl
costs_are on (trace ∷ traces) =
    let one = match_of on.network on.params trace in
    let first : sum_by cost_of (matches_of on (trace ∷ traces)) ≡ cost_of one + sum_by cost_of (matches_of on traces) = sum_by-cons cost_of one (matches_of on traces) in
    let second : costs_of on (trace ∷ traces) ≡ cost_of one + costs_of on traces = sum_by-cons (λ (t : Trace). cost_of (match_of on.network on.params t)) trace traces in
    omega (arith, first, second, costs_are on traces)

-- one more match
pub costs_next : (matches : List MatchedTrace) (i : ℕ) (m : MatchedTrace) (old new : Costs) (count cost : ℕ)
    → i < length matches → m ≡ get_or matches i m → AreMatchCosts (take i matches) old → count ≡ length m.pieces → IsMatchCost m cost
    → new ≡ record { pieces = old.pieces + count; cost = old.cost + cost } → AreMatchCosts (take (i + 1) matches) new
costs_next matches i m old new count cost low is before counted one are =
    let more = sum_by_more cost_of matches i m low in
    let here : cost ≡ cost_of (get_or matches i m) = one.is ∙ ap cost_of is in
    let small = one.small in
    let front = before.small in
    subst (AreMatchCosts (take (i + 1) matches)) (sym are) (record {
      pieces_are = pieces_next matches i m old.pieces count low is before.pieces_are counted;
      is = omega (arith, before.is, here, more);
      small = omega (arith, front, small, counted);
    })

-- the text
pub report_is : (on : Setting) (traces : List Trace) (store : Stored) (fresh readers : List Reading) (matches : List MatchedTrace) (none tally : Tally) (costs : Costs) (count : ℕ) (first second third : List ℕ)
    → fresh ≡ fresh_readers on store → ShareStore on fresh → AllZip StaysReader fresh readers → LearnAsked on.network on.params traces fresh readers
    → AreMatchesOf on traces matches → AreMatchCosts matches costs
    → AddsCounts traces costs.pieces none tally → none.traces ≡ 0 → none.points ≡ 0 → none.pieces ≡ 0 → count ≡ count_known readers
    → first ≡ [] → second ≡ first ++ total_line tally.traces tally.points tally.pieces count → third ≡ second ++ cost_line costs.cost → third ≡ town_text on traces
report_is on traces store fresh readers matches none tally costs count first second third opened shared stay learn found are adds no_traces no_points no_pieces counted empty total cost =
    let start = begun on store fresh none opened shared no_traces no_points no_pieces in
    let pieces = pieces_found on traces matches costs.pieces found are.pieces_are in
    let has = matched_more on [] traces fresh readers none tally costs.pieces start pieces stay learn adds in
    let line = total_is on traces readers tally count has counted in
    let sum : costs.cost ≡ costs_of on traces = are.is ∙ ap (sum_by cost_of) found.are ∙ costs_are on traces in
    cost
    ∙ ap (λ t. t ++ cost_line costs.cost) (total ∙ ap (λ t. t ++ total_line tally.traces tally.points tally.pieces count) empty ∙ line)
    ∙ ap (λ c. total_of (piece_count on) (asked_count on) traces ++ cost_line c) sum

pub tally_fits : (on : Setting) (traces : List Trace) (matches : List MatchedTrace) (none : Tally) (costs : Costs) → IsBounded traces → AreMatchesOf on traces matches → AreMatchCosts matches costs → none.traces ≡ 0 → none.points ≡ 0 → none.pieces ≡ 0 → CountsFit traces costs.pieces none
tally_fits on traces matches none costs bounded found are no_traces no_points no_pieces =
    fits_more (piece_count on) [] traces none costs.pieces bounded (record { traces_are = no_traces; points_are = no_points; pieces_are = record { are = no_pieces; few = omega (arith, no_pieces) } }) (pieces_found on traces matches costs.pieces found are.pieces_are)

-- the text of a town, by the values that were made on the way
pub town_is : (side count seed : ℕ) (options : Params) (on : Setting) (net : Net) (traces given : List Trace) → on ≡ record { network = net; params = options } → net ≡ network_in (network_text side) → given ≡ traces → traces ≡ file_traces (traces_text side count seed)
    → town_text on given ≡ town_text (record { network = network_in (network_text side); params = options }) (file_traces (traces_text side count seed))
town_is side count seed options on net traces given laid read same are =
    ap (λ (o : Setting). town_text o given) laid
    ∙ ap (λ (n : Net). town_text (record { network = n; params = options }) given) read
    ∙ ap (λ (t : List Trace). town_text (record { network = network_in (network_text side); params = options }) t) (same ∙ are)
