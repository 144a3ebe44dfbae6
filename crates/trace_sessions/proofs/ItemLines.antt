-- The lines of all items of a trace are the lines of its match. In this file layers stand in the order of the points.
use Rattle.std.proofs.Common.{◌≡◌, ℕ, suc, ◌+◌, ◌<◌, ◌≤◌, true, false, cond, eqb, List, [], ◌∷◌, ◌++◌, Option, Some, None, refl, sym, ap, ◌∙◌, arith, length, map, get_or, ⊎_elim}
use Rattle.std.specs.List.{filter}
use Rattle.std.proofs.lemmas.Bool.{cases_lt}
use Rattle.std.proofs.lemmas.Bool.Decides.{nat_tests}
use Rattle.std.proofs.lemmas.List.Elements.{All-cons}
use Rattle.cost_model.specs.declared.params.Params.{Params}
use Rattle.road_network.specs.Net.{Net}
use Rattle.matching.specs.declared.parts.Layer.{Layer}
use Rattle.matching.specs.declared.parts.Piece.{Piece}
use Rattle.matching.specs.Layers.{trellis}
use Rattle.matching.specs.Pieces.{ArePieces}
use Rattle.matching.specs.Value.{solution}
use Rattle.matching.proofs.SolutionMatches.{solution_is_a_match}
use Rattle.route_rebuild.specs.Numbers.{numbers}
use Rattle.route_rebuild.specs.Routes.{no_layer, route_of}
use Rattle.match_text.specs.declared.matched.Label.{Label}
use Rattle.match_text.specs.MatchText.{label_line, piece_line, point_lines as match_lines}
use Rattle.trace_match.specs.Match.{label_of_rank, labels_of, routed_of, routed_over}
use Rattle.trace_match.proofs.Lawful.{labels_all}
use Rattle.online_commit.specs.declared.items.Item.{Item}
use Rattle.online_commit.specs.Items.{closed_item, edge_ids, items_of, items_with, item_at, label_item, points_from}
use Rattle.online_commit.proofs.Handed.{NoneEnds, closed-here, closed-none, no_pieces}
use Rattle.online_commit.proofs.Points.{points-same}
use Rattle.trace_sessions.specs.ItemText.{item_line}

-- ---- the pieces that end with a point

abbrev closed_by : (Piece → Item) → List Piece → ℕ → List Item
closed_by f pieces k = map f (filter (λ (q : Piece). eqb q.last k) pieces)

-- each ends with point i or later, and after the one before it
abbrev EndsRise : ℕ → List Piece → Type 0
EndsRise i [] = Unit {0}
EndsRise i (q ∷ pieces) = (i ≤ q.last) × EndsRise (q.last + 1) pieces

rise_earlier : (i j : ℕ) (pieces : List Piece) → i ≤ j → EndsRise j pieces → EndsRise i pieces
rise_earlier i j [] le rise = tt
rise_earlier i j (q ∷ pieces) le rise = let here = rise.0 in (omega (arith, le, here), rise.1)

none_ends : (k i : ℕ) (pieces : List Piece) → k < i → EndsRise i pieces → NoneEnds k pieces
none_ends k i [] lt rise = no_pieces k
none_ends k i (q ∷ pieces) lt rise =
    let here = rise.0 in
    All-cons (λ (x : Piece). x.last ≡ k → ⊥) q pieces (λ e. omega (arith, e, here, lt)) (none_ends k (q.last + 1) pieces (omega (arith, here, lt)) rise.1)

closed_past : (f : Piece → Item) (q : Piece) (pieces : List Piece) (k : ℕ) → q.last < k → closed_by f (q ∷ pieces) k ≡ closed_by f pieces k
closed_past f q pieces k lt = let e : eqb q.last k ≡ false = grind (arith, nat_tests) in rw e refl

ends_rise : (n : Net) (p : Params) (layers : List Layer) (at : ℕ) (pieces : List Piece) → ArePieces (trellis n p) layers at pieces → EndsRise at pieces
ends_rise n p layers at [] are = tt
ends_rise n p layers at (q ∷ pieces) are =
    let begins = are.0 in
    let some = are.2 in
    (omega (arith, begins, some), ends_rise n p layers (q.last + 1) pieces are.4)

-- ---- single lines

label_line_is : (n : Net) (i : ℕ) (l : Layer) (rank : Option ℕ) → item_line n (label_item i l rank) ≡ label_line i (label_of_rank n l rank)
label_line_is n i l None = refl
label_line_is n i l (Some rank) = refl

pub numbers_of_ids : (es : List ℕ) → numbers (edge_ids es) ≡ es
numbers_of_ids [] = refl
numbers_of_ids (e ∷ es) = ap (λ xs. e ∷ xs) (numbers_of_ids es)

piece_line_is : (n : Net) (p : Params) (layers : List Layer) (ranks : List (Option ℕ)) (q : Piece) → item_line n (closed_item n p layers ranks q) ≡ piece_line (routed_of n p layers ranks q)
piece_line_is n p layers ranks q = ap (λ es. piece_line (routed_over n q es)) (numbers_of_ids (route_of n p layers ranks q))

-- ---- all lines

-- the items of points from i on are written as these labels
abbrev AreWritten : Net → (ℕ → Item) → ℕ → List Label → Type 0
AreWritten n label i [] = Unit {0}
AreWritten n label i (x ∷ labels) = (item_line n (label i) ≡ label_line i x) × AreWritten n label (i + 1) labels

are_written : (n : Net) (label : ℕ → Item) (i : ℕ) (layers : List Layer) (ranks : List (Option ℕ)) → length ranks ≡ length layers
    → ((j : ℕ) → j < length layers → label (i + j) ≡ label_item (i + j) (get_or layers j no_layer) (get_or ranks j None))
    → AreWritten n label i (labels_of n layers ranks)
are_written n label i [] ranks count is = tt
are_written n label i (l ∷ layers) [] count is = absurd (omega (arith, count))
are_written n label i (l ∷ layers) (rank ∷ ranks) count is =
    let z : i + 0 ≡ i = omega arith in (
      ap (item_line n) (ap label (sym z) ∙ is 0 (omega arith) ∙ ap (λ k. label_item k l rank) z) ∙ label_line_is n i l rank,
      are_written n label (i + 1) layers ranks (omega (arith, count))
          (λ j lt.
          let e : i + 1 + j ≡ i + suc j = omega arith in
          ap label e ∙ is (suc j) (omega (arith, lt)) ∙ ap (λ k. label_item k (get_or layers j no_layer) (get_or ranks j None)) (sym e)),
    )

-- the lines of the points from i on
abbrev lines_from : (n : Net) (p : Params) → List Layer → List (Option ℕ) → (ℕ → Item) → ℕ → List Label → List Piece → List (List ℕ)
lines_from n p layers ranks label i labels pieces =
    map (item_line n) (points_from label (closed_by (closed_item n p layers ranks) pieces) i (length labels))

piece_ends : (n : Net) (p : Params) (layers : List Layer) (ranks : List (Option ℕ)) (label : ℕ → Item) (i : ℕ) (x : Label) (labels : List Label) (q : Piece) (pieces : List Piece)
    → q.last ≡ i → EndsRise (q.last + 1) pieces → item_line n (label i) ≡ label_line i x
    → lines_from n p layers ranks label (i + 1) labels pieces ≡ match_lines (i + 1) labels (map (routed_of n p layers ranks) pieces)
    → lines_from n p layers ranks label i (x ∷ labels) (q ∷ pieces) ≡ match_lines i (x ∷ labels) (map (routed_of n p layers ranks) (q ∷ pieces))
piece_ends n p layers ranks label i x labels q pieces is rise first more =
    let f = closed_item n p layers ranks in
    let g = routed_of n p layers ranks in
    let behind = points_from label (closed_by f (q ∷ pieces)) (i + 1) (length labels) in
    let e : eqb q.last i ≡ true = grind (arith, nat_tests) in
    ap (λ xs. item_line n (label i) ∷ map (item_line n) (xs ++ behind)) (closed-here f [] q pieces i (no_pieces i) is (none_ends i (q.last + 1) pieces (omega (arith, is)) rise))
    ∙ ap (λ xs. item_line n (label i) ∷ item_line n (f q) ∷ map (item_line n) xs)
    (points-same label label (closed_by f (q ∷ pieces)) (closed_by f pieces) (i + 1) (length labels) (λ k ge lt. refl) (λ k ge lt. closed_past f q pieces k (omega (arith, is, ge))))
    ∙ ap (λ t. t ∷ item_line n (f q) ∷ lines_from n p layers ranks label (i + 1) labels pieces) first
    ∙ ap (λ t. label_line i x ∷ t ∷ lines_from n p layers ranks label (i + 1) labels pieces) (piece_line_is n p layers ranks q)
    ∙ ap (λ ts. label_line i x ∷ piece_line (g q) ∷ ts) more
    ∙ ap (λ b. label_line i x ∷ cond b (piece_line (g q) ∷ match_lines (i + 1) labels (map g pieces)) (match_lines (i + 1) labels (g q ∷ map g pieces))) (sym e)

piece_waits : (n : Net) (p : Params) (layers : List Layer) (ranks : List (Option ℕ)) (label : ℕ → Item) (i : ℕ) (x : Label) (labels : List Label) (q : Piece) (pieces : List Piece)
    → i < q.last → EndsRise (q.last + 1) pieces → item_line n (label i) ≡ label_line i x
    → lines_from n p layers ranks label (i + 1) labels (q ∷ pieces) ≡ match_lines (i + 1) labels (map (routed_of n p layers ranks) (q ∷ pieces))
    → lines_from n p layers ranks label i (x ∷ labels) (q ∷ pieces) ≡ match_lines i (x ∷ labels) (map (routed_of n p layers ranks) (q ∷ pieces))
piece_waits n p layers ranks label i x labels q pieces lt rise first more =
    let f = closed_item n p layers ranks in
    let g = routed_of n p layers ranks in
    let behind = points_from label (closed_by f (q ∷ pieces)) (i + 1) (length labels) in
    let e : eqb q.last i ≡ false = grind (arith, nat_tests) in
    ap (λ xs. item_line n (label i) ∷ map (item_line n) (xs ++ behind)) (closed-none f (q ∷ pieces) i (none_ends i (i + 1) (q ∷ pieces) (omega arith) (omega (arith, lt), rise)))
    ∙ ap (λ t. t ∷ lines_from n p layers ranks label (i + 1) labels (q ∷ pieces)) first
    ∙ ap (λ ts. label_line i x ∷ ts) more
    ∙ ap (λ b. label_line i x ∷ cond b (piece_line (g q) ∷ match_lines (i + 1) labels (map g pieces)) (match_lines (i + 1) labels (g q ∷ map g pieces))) (sym e)

lines_are : (n : Net) (p : Params) (layers : List Layer) (ranks : List (Option ℕ)) (label : ℕ → Item) (i : ℕ) (labels : List Label) (pieces : List Piece)
    → AreWritten n label i labels → EndsRise i pieces
    → lines_from n p layers ranks label i labels pieces ≡ match_lines i labels (map (routed_of n p layers ranks) pieces)
lines_are n p layers ranks label i [] pieces written rise = refl
lines_are n p layers ranks label i (x ∷ labels) [] written rise =
    ap (λ t. t ∷ lines_from n p layers ranks label (i + 1) labels []) written.0
    ∙ ap (λ ts. label_line i x ∷ ts) (lines_are n p layers ranks label (i + 1) labels [] written.1 tt)
lines_are n p layers ranks label i (x ∷ labels) (q ∷ pieces) written rise =
    let here = rise.0 in
    ⊎_elim
    (λ lt. piece_waits n p layers ranks label i x labels q pieces lt rise.1 written.0 (lines_are n p layers ranks label (i + 1) labels (q ∷ pieces) written.1 (omega (arith, lt), rise.1)))
    (λ le.
    let is : q.last ≡ i = omega (arith, le, here) in
    piece_ends n p layers ranks label i x labels q pieces is rise.1 written.0 (lines_are n p layers ranks label (i + 1) labels pieces written.1 (rise_earlier (i + 1) (q.last + 1) pieces (omega (arith, is)) rise.1)))
    (cases_lt i q.last)

-- the lines of all items of a trace
pub items_lines : (n : Net) (p : Params) (layers : List Layer)
    → map (item_line n) (items_of n p layers)
    ≡ match_lines 0 (labels_of n layers (solution (trellis n p) layers).ranks) (map (routed_of n p layers (solution (trellis n p) layers).ranks) (solution (trellis n p) layers).pieces)
unfolding items_of
items_lines n p layers =
    let s = solution (trellis n p) layers in
    let is = solution_is_a_match (trellis n p) layers in
    ap (λ k. map (item_line n) (items_with n p layers s.ranks s.pieces k)) (sym (labels_all n layers s.ranks is.ranks_count))
    ∙ lines_are n p layers s.ranks (item_at layers s.ranks) 0 (labels_of n layers s.ranks) s.pieces
    (are_written n (item_at layers s.ranks) 0 layers s.ranks is.ranks_count
    (λ j lt.
    let z : 0 + j ≡ j = omega arith in
    ap (item_at layers s.ranks) z ∙ ap (λ k. label_item k (get_or layers j no_layer) (get_or s.ranks j None)) (sym z)))
    (ends_rise n p layers 0 s.pieces is.pieces_are)
