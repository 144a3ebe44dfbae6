-- Proofs of matches have texts.
use Rattle.std.proofs.Common.{◌≡◌, ◌≢◌, ◌↔◌, ◌<◌, ◌≤◌, ℕ, zero, suc, ◌+◌, ◌-◌, ◌*◌, ◌^◌, true, List, [], ◌∷◌, length, get_or, map, Option, Some, None, refl, sym, ◌∙◌, ap, subst, arith, ⊎_elim}
use Rattle.std.specs.Prelude.{pos}
use Rattle.std.specs.List.{All, AllByRecursion}
use Rattle.std.proofs.lemmas.Bool.{cases_lt}
use Rattle.std.proofs.lemmas.List.{get_or-map, get_or_past, length-map}
use Rattle.cost_model.specs.declared.params.Params.{Params}
use Rattle.cost_model.specs.Options.{IsAccepted}
use Rattle.road_network.specs.Net.{Edge, IsLawful, Net, edge_name, no_edge}
use Rattle.trace_reader.specs.declared.trace.Fix.{Fix}
use Rattle.trace_reader.specs.declared.trace.Trace.{Trace}
use Rattle.bounded_table.specs.RowValue.{rows_where}
use Rattle.bounded_table.specs.Table.{TableRow}
use Rattle.trace_reader.specs.Trace.{IsLawfulTrace}
use Rattle.matching.specs.declared.parts.Cell.{Cell}
use Rattle.matching.specs.declared.parts.Layer.{Layer}
use Rattle.matching.specs.Cells.{cell_at}
use Rattle.matching.specs.Local.{IsLeastWay}
use Rattle.matching.proofs.CandidateLayers.{candidates_narrow}
use Rattle.match_text.specs.MatchText.{IsCovered, IsMatched, IsRising, PieceFits}
use Rattle.match_text.specs.declared.matched.Routed.{Routed}
use Rattle.route_rebuild.specs.Routes.{no_layer, route_of}
use Rattle.trace_match.specs.Match.{labels_of, layer_of, layers_of, match_of}
use Rattle.trace_match.proofs.Lawful.{match_lawful}
use Rattle.potential_certificate.specs.HasText.{ArePoints, IsCellValue, IsCellWord, IsPoint, IsProof, label_of_proof}
use Rattle.potential_certificate.specs.declared.proof.TraceProof.{TraceProof}
use Rattle.cert_checker.specs.Case.{Case, layer, rank, table, way, width}
use Rattle.cert_checker.specs.Laws.{HasAskedRows, IsProofOf}
use Rattle.cert_checker.specs.Verdicts.{case_of, piece_without_route}
use Rattle.cert_checker.proofs.PieceTests.{piece_no}
use Rattle.cert_checker.proofs.PointConditions.{IsRankOf}
use Rattle.cert_checker.proofs.RunPoints.{first_of, later_of, trellis_of}
use Rattle.cert_checker.proofs.MatchedCases.{IsGroundOf, IsMatchOf, point_in, run_of}
use Rattle.cert_checker.proofs.MatchHolds.{match_holds, small_in}
use Rattle.cert_checker.proofs.MatchProofs.{case_matched}
use Rattle.cert_checker.proofs.AskedNodes.{asked_node}
use Rattle.cert_checker.proofs.TheMatch.{ground_of}
use Rattle.cert_checker.proofs.RisingRows.{rows_where_has}

-- ---- points

cells_by_place : (cells : List Cell) → ((j : ℕ) → j < length cells → IsCellValue (cell_at cells j)) → AllByRecursion IsCellValue cells
cells_by_place [] h = tt
cells_by_place (cell ∷ cells) h = (h 0 (omega arith), cells_by_place cells (λ j lt. h (suc j) (omega (arith, lt))))

no_cells : (cells : List Cell) → length cells ≡ 0 → cells ≡ []
no_cells [] e = refl
no_cells (cell ∷ cells) e = absurd (omega (arith, e))

point_by_cells : (w : ℕ) (o : Option ℕ) (cells : List Cell) → IsRankOf w o → length cells ≡ w → w ≤ 32 → ((j : ℕ) → j < length cells → IsCellValue (cell_at cells j)) → IsPoint o cells
point_by_cells w None cells of count few h = no_cells cells (count ∙ of)
point_by_cells w (Some r) cells of count few h = (omega (arith, of, count), omega (arith, count, few), cells_by_place cells h)

points_by_place : (ranks : List (Option ℕ)) (tables : List (List Cell)) → length ranks ≡ length tables
    → ((i : ℕ) → i < length ranks → IsPoint (get_or ranks i None) (get_or tables i [])) → ArePoints ranks tables
points_by_place [] [] e h = tt
points_by_place [] (cells ∷ tables) e h = absurd (omega (arith, e))
points_by_place (rank ∷ ranks) [] e h = absurd (omega (arith, e))
points_by_place (rank ∷ ranks) (cells ∷ tables) e h =
    (h 0 (omega arith), points_by_place ranks tables (omega (arith, e)) (λ i lt. h (suc i) (omega (arith, lt))))

-- ---- cells

later_word : (ways : ℕ → Option ℕ) (n limit : ℕ) (x y : Option ℕ) → IsLeastWay ways n (record { cost = x; «from» = y }) → n ≤ 32
    → ((b : ℕ) → x ≡ Some b → b ≤ limit) → limit < 2 ^ 64 → IsCellWord x y
later_word ways n limit None y h few small low = h.pointer
later_word ways n limit (Some b) None h few small low = absurd h.tight
later_word ways n limit (Some b) (Some a) h few small low =
    let at = h.tight.0 in
    let le = small b refl in
    (omega (arith, le, low), omega (arith, at, few))

cell_of_point : (c : Case) (i j : ℕ) → IsGroundOf c → IsMatchOf c → ((i : ℕ) → width c i ≤ 32) → i < length c.layers → j < width c i → IsCellValue (cell_at (table c i) j)
cell_of_point c i j ground h few lt j_in =
    let there = point_in c i h lt (omega (arith, j_in)) in
    let q = piece_no c.proof.pieces there.0 in
    let run = run_of c there.0 h there.1 in
    let ge = there.2.0 in
    let le = there.2.1 in
    let inside = run.inside in
    let all = ground.trace.are.few in
    let limit = (i - q.first + 1) * 2 ^ 43 in
    let small = small_in c q (i - q.first) i ground run (omega (arith, ge)) le in
    let low : limit < 2 ^ 64 = omega (arith, inside, le, all) in
    ⊎_elim
    (λ later. later_word (λ a. way c i a j) (width c (i - 1)) limit ((cell_at (table c i) j).cost) ((cell_at (table c i) j).«from»)
    ((later_of c q i run (there.2, later)).each j j_in) (few (i - 1)) (small j) low)
    (λ no_later.
    let same : q.first ≡ i = omega (arith, ge, no_later) in
    let is = subst (λ v. (k : ℕ) → k < width c v → cell_at (table c v) k ≡ record { cost = Some ((trellis_of c).emission (layer c v) k); «from» = None }) same (first_of c q run).each in
    let cell-is = is j j_in in
    let b = (trellis_of c).emission (layer c i) j in
    let le_b : b ≤ limit = small j b (ap (λ (cell : Cell). cell.cost) cell-is) in
    subst IsCellValue (sym cell-is) (omega (arith, le_b, low), tt))
    (cases_lt q.first i)

point_of_case : (c : Case) (i : ℕ) → IsGroundOf c → IsMatchOf c → ((i : ℕ) → width c i ≤ 32) → i < length c.layers → IsPoint (rank c i) (table c i)
point_of_case c i ground h few lt =
    let at = (match_holds c i ground h lt).candidates in
    point_by_cells (width c i) (rank c i) (table c i) at.1.1.0 at.1.0 (few i)
    (λ j j_in. cell_of_point c i j ground h few lt (omega (arith, j_in, at.1.0)))

-- ---- pieces

abbrev HasShortNames : Net → Type 0
HasShortNames n = All (λ (e : Edge). e.name < 2 ^ 32) n.edges

name_short : (n : Net) (e : ℕ) → HasShortNames n → edge_name n e < 2 ^ 32
name_short n e h =
    ⊎_elim (λ lt. h e no_edge lt)
    (λ past. subst (λ (x : Edge). x.name < 2 ^ 32) (sym (get_or_past n.edges e no_edge past)) (omega arith))
    (cases_lt e (length n.edges))

names_short : (n : Net) (es : List ℕ) → HasShortNames n → AllByRecursion (λ name. name < 2 ^ 32) (map (edge_name n) es)
names_short n [] h = tt
names_short n (e ∷ es) h = (name_short n e h, names_short n es h)

pieces_by_place : (pieces : List Routed) → ((k : ℕ) → k < length pieces → PieceFits (piece_no pieces k)) → AllByRecursion PieceFits pieces
pieces_by_place [] h = tt
pieces_by_place (q ∷ pieces) h = (h 0 (omega arith), pieces_by_place pieces (λ k lt. h (suc k) (omega (arith, lt))))

piece_fits : (c : Case) (k : ℕ) → IsGroundOf c → IsMatchOf c → HasShortNames c.net → k < length c.proof.pieces → PieceFits (piece_no c.proof.pieces k)
piece_fits c k ground h names lt =
    let q = piece_no c.proof.pieces k in
    let run = run_of c k h lt in
    let some = run.some in
    let inside = run.inside in
    let all = ground.trace.are.few in
    let at = match_holds c q.last ground h inside in
    let chosen = at.chosen k lt refl in
    let small = small_in c q (q.last - q.first) q.last ground run (omega (arith, some)) (omega arith) chosen.chosen q.cost chosen.least.cost-is in
    record {
      first = omega (arith, some, inside, all);
      last = omega (arith, inside, all);
      cost = omega (arith, small, inside, all);
      route = subst (λ (route : List ℕ). AllByRecursion (λ name. name < 2 ^ 32) route) (sym (h.routes k lt))
          (names_short c.net (route_of c.net c.params c.layers c.proof.ranks (piece_without_route q)) names);
    }

-- ---- labels

-- the same points lie on roads
same_roads : (n : Net) (layers : List Layer) (ranks : List (Option ℕ)) → length ranks ≡ length layers → (i : ℕ)
    → IsMatched (map label_of_proof ranks) i ↔ IsMatched (labels_of n layers ranks) i
same_roads n [] [] e i = (λ h. h, λ h. h)
same_roads n [] (rank ∷ ranks) e i = absurd (omega (arith, e))
same_roads n (l ∷ layers) [] e i = absurd (omega (arith, e))
same_roads n (l ∷ layers) (None ∷ ranks) e zero = (λ h. h, λ h. h)
same_roads n (l ∷ layers) (Some r ∷ ranks) e zero = (λ h. h, λ h. h)
same_roads n (l ∷ layers) (rank ∷ ranks) e (suc i) = same_roads n layers ranks (omega (arith, e)) i

-- no point has more than 32 candidates
case_narrow : (n : Net) (p : Params) (rows : List TableRow) (trace : Trace) (proof : TraceProof) → IsAccepted p → (i : ℕ) → width (case_of n p rows trace proof) i ≤ 32
case_narrow n p rows trace proof accepted i =
    let layers = layers_of n p trace in
    ⊎_elim
    (λ lt.
    let fix : Fix = record { x = pos 0; y = pos 0; time = 0 } in
    let same : get_or layers i no_layer ≡ layer_of n p (get_or trace.fixes i fix) = get_or-map (layer_of n p) trace.fixes i fix no_layer (omega (arith, lt, length-map trace.fixes (layer_of n p))) in
    subst (λ (l : Layer). length l.candidates ≤ 32) (sym same) (candidates_narrow n p (layer_of n p (get_or trace.fixes i fix)) accepted refl))
    (λ past. subst (λ (l : Layer). length l.candidates ≤ 32) (sym (get_or_past layers i no_layer past)) (omega arith))
    (cases_lt i (length layers))

-- ---- the proof

pub proof_has_text : (n : Net) (p : Params) (trace : Trace) (proof : TraceProof) → IsLawful n → IsAccepted p → IsLawfulTrace trace → HasShortNames n → proof.id < 2 ^ 32
    → IsProofOf n p trace proof → IsProof proof
unfolding match_of
proof_has_text n p trace proof lawful accepted fixes names id is =
    let rows = rows_where n p.bound (λ v. true) in
    let asked : HasAskedRows n p rows trace = λ v e. rows_where_has n p.bound v (λ v. true) refl (asked_node n p trace v lawful accepted fixes e) in
    let c = case_of n p rows trace proof in
    let layers = layers_of n p trace in
    let h = case_matched n p rows trace proof is asked in
    let ground : IsGroundOf c = ground_of n p rows trace proof lawful accepted fixes in
    let found = match_lawful n p trace accepted fixes in
    let count = length-map trace.fixes (layer_of n p) in
    let ranks = h.matched.ranks_count in
    let tables = h.matched.tables_count in
    let few = λ (i : ℕ). case_narrow n p rows trace proof accepted i in
    record {
      points = points_by_place proof.ranks proof.tables (ranks ∙ sym tables) (λ i lt. point_of_case c i ground h few (omega (arith, lt, ranks)));
      pieces = record {
        rising = subst (λ (ps : List Routed). IsRising 0 ps) (sym is.pieces) found.lawful.rising;
        covers = λ i. (
          λ on. subst (λ (ps : List Routed). IsCovered ps i) (sym is.pieces) ((found.lawful.covers i).0 (subst (λ (rs : List (Option ℕ)). IsMatched (labels_of n layers rs) i) is.ranks ((same_roads n layers proof.ranks ranks i).0 on))),
          λ covered. (same_roads n layers proof.ranks ranks i).1 (subst (λ (rs : List (Option ℕ)). IsMatched (labels_of n layers rs) i) (sym is.ranks) ((found.lawful.covers i).1 (subst (λ (ps : List Routed). IsCovered ps i) is.pieces covered))),
        );
        routes = subst (λ (ps : List Routed). AllByRecursion (λ piece. piece.route ≢ []) ps) (sym is.pieces) found.lawful.routes;
        few = let some = fixes.few in omega (arith, length-map proof.ranks label_of_proof, ranks, count, some);
      };
      id = id;
      pieces_fit = pieces_by_place proof.pieces (λ k lt. piece_fits c k ground h names lt);
    }
