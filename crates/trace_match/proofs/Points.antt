-- Which points lie in pieces, and the ranks of those that do.
use Rattle.std.proofs.Common.{◌≡◌, ℕ, suc, ◌+◌, ◌-◌, ◌<◌, ◌≤◌, List, [], ◌∷◌, Some, None, sym, ap, ◌∙◌, arith, length, take, drop, get_or, subst, ⊎_elim}
use Rattle.std.proofs.lemmas.Bool.{cases_lt}
use Rattle.std.proofs.lemmas.List.{get_or-drop, get_or-take, length-drop, length-take-le, get_or_default}
use Rattle.matching.specs.declared.parts.Piece.{Piece}
use Rattle.matching.specs.Match.{IsMatch, IsMatchedPiece}
use Rattle.matching.specs.Pieces.{ArePieces, NoCandidates}
use Rattle.matching.specs.Places.{IsAt}
use Rattle.matching.specs.Sequences.{Trellis}
use Rattle.trellis.specs.declared.parts.Solved.{Solved}
use Rattle.route_rebuild.specs.Routes.{piece_at}
use Rattle.route_rebuild.proofs.ChosenRun.{pieces_within, point_chosen}

-- point i lies in piece number k
pub record LiesIn (pieces : List Piece) (i k : ℕ) : Type 0 where
  pub below : k < length pieces
  pub after_first : (piece_at pieces k).first ≤ i
  pub to_last : i ≤ (piece_at pieces k).last

pub lies_later : (p : Piece) (pieces : List Piece) (i k : ℕ) → LiesIn pieces i k → LiesIn (p ∷ pieces) i (suc k)
lies_later p pieces i k h = let lt = h.below in record { below = omega (arith, lt); after_first = h.after_first; to_last = h.to_last }

pub lies_earlier : (p : Piece) (pieces : List Piece) (i k : ℕ) → LiesIn (p ∷ pieces) i (suc k) → LiesIn pieces i k
lies_earlier p pieces i k h = let lt = h.below in record { below = omega (arith, lt); after_first = h.after_first; to_last = h.to_last }

-- the points of a stretch without candidates have none
none_between : {L : Type 0} (t : Trellis L) (layers : List L) (at count i : ℕ) (d : L)
    → NoCandidates t (take count (drop at layers)) → at ≤ i → i < at + count → at + count ≤ length layers → t.width (get_or layers i d) ≡ 0
none_between t layers at count i d none ge lt inside =
    let long = length-take-le count (drop at layers) (omega (arith, length-drop at layers, inside)) in
    let e : at + (i - at) ≡ i = omega (arith, ge) in
    let same : get_or (take count (drop at layers)) (i - at) d ≡ get_or layers i d =
    get_or-take count (drop at layers) (i - at) d (omega (arith, ge, lt)) ∙ get_or-drop at layers (i - at) d ∙ ap (λ k. get_or layers k d) e in
    sym (ap t.width same) ∙ none (i - at) d (omega (arith, long, ge, lt))

none_from : {L : Type 0} (t : Trellis L) (layers : List L) (at i : ℕ) (d : L)
    → NoCandidates t (drop at layers) → at ≤ i → i < length layers → t.width (get_or layers i d) ≡ 0
none_from t layers at i d none ge lt =
    let e : at + (i - at) ≡ i = omega (arith, ge) in
    let same : get_or (drop at layers) (i - at) d ≡ get_or layers i d = get_or-drop at layers (i - at) d ∙ ap (λ k. get_or layers k d) e in
    sym (ap t.width same) ∙ none (i - at) d (omega (arith, length-drop at layers, ge, lt))

-- a point with candidates lies in a piece
pub point_lies : {L : Type 0} (t : Trellis L) (layers : List L) (at : ℕ) (pieces : List Piece) (i : ℕ) (d : L)
    → ArePieces t layers at pieces → at ≤ i → i < length layers → 0 < t.width (get_or layers i d) → (k : ℕ) × LiesIn pieces i k
point_lies t layers at [] i d are ge lt some = let none = none_from t layers at i d are ge lt in absurd (omega (arith, none, some))
point_lies t layers at (p ∷ pieces) i d are ge lt some =
    let first_to_last = are.2 in
    let within = are.3.within in
    let begins = are.0 in
    ⊎_elim
    (λ before. let none = none_between t layers at (p.first - at) i d are.1 ge (omega (arith, before, begins)) (omega (arith, begins, within, first_to_last, length-drop p.first layers)) in
    absurd (omega (arith, none, some)))
    (λ from_first. ⊎_elim
    (λ inside. (0, record { below = omega arith; after_first = from_first; to_last = omega (arith, inside) }))
    (λ behind. let later = point_lies t layers (p.last + 1) pieces i d are.4 behind lt some in (suc later.0, lies_later p pieces i later.0 later.1))
    (cases_lt i (p.last + 1)))
    (cases_lt i p.first)

-- and there are at most as many as points
pub pieces_count : {L : Type 0} (t : Trellis L) (layers : List L) (at : ℕ) (pieces : List Piece) → ArePieces t layers at pieces → length pieces ≤ length layers - at
pieces_count t layers at [] are = omega arith
pieces_count t layers at (p ∷ pieces) are =
    let rest = pieces_count t layers (p.last + 1) pieces are.4 in
    let within = are.3.within in
    let first_to_last = are.2 in
    let begins = are.0 in
    omega (arith, rest, within, first_to_last, begins, length-drop p.first layers)

-- a point of a piece has a rank
pub rank_there : {L : Type 0} (t : Trellis L) (layers : List L) (s : Solved) (i k : ℕ)
    → IsMatch t layers s.ranks s.pieces s.tables → LiesIn s.pieces i k → (r : ℕ) × (get_or s.ranks i None ≡ Some r)
rank_there t layers s i k is lies =
    let piece : Piece = piece_at s.pieces k in
    let none : Piece = record { first = 0; last = 0; cost = 0 } in
    let m : IsMatchedPiece t layers s.ranks s.tables piece = is.each k none lies.below in
    let within = pieces_within t layers 0 s.pieces k none is.pieces_are lies.below in
    let inside : piece.last < length s.ranks = let below = within.inside in omega (arith, below, is.ranks_count) in
    (get_or m.chosen (i - piece.first) 0, (point_chosen s.ranks m.chosen piece.first piece.last i m.ranks_are (record { from_first = lies.after_first; to_last = lies.to_last; inside = inside })).1)

-- a point with a rank lies in a piece
pub ranked_lies : {L : Type 0} (t : Trellis L) (layers : List L) (s : Solved) (i r : ℕ) (l : L)
    → IsMatch t layers s.ranks s.pieces s.tables → IsAt layers i l → get_or s.ranks i None ≡ Some r → (k : ℕ) × LiesIn s.pieces i k
ranked_lies t layers s i r l is at e =
    let lt = at.below in
    ⊎_elim
    (λ some. point_lies t layers 0 s.pieces i l is.pieces_are (omega arith) lt (subst (λ x. 0 < t.width x) at.is some))
    (λ few. let none : t.width l ≡ 0 = omega (arith, few) in
    let missing = (is.missing i l lt at.is none).0 in
    let other = get_or_default s.ranks i None (Some 0) (omega (arith, lt, is.ranks_count)) in
    absurd (let z : Some r ≡ None = sym e ∙ other ∙ missing in cc))
    (cases_lt 0 (t.width l))

-- a point of a piece is a point of the trace
pub lies_below : {L : Type 0} (t : Trellis L) (layers : List L) (pieces : List Piece) (i k : ℕ) → ArePieces t layers 0 pieces → LiesIn pieces i k → i < length layers
lies_below t layers pieces i k are lies =
    let within = pieces_within t layers 0 pieces k (record { first = 0; last = 0; cost = 0 }) are lies.below in
    let inside = within.inside in
    let le = lies.to_last in
    omega (arith, inside, le)
