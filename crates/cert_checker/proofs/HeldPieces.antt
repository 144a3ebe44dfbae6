-- The pieces of a proof whose conditions hold are those of its trace.
use Rattle.std.proofs.Common.{◌≡◌, ◌<◌, ◌≤◌, ℕ, zero, suc, ◌+◌, ◌-◌, ◌&&◌, length, get_or, take, drop, sym, ◌∙◌, ap, subst, arith, ⊎_elim}
use Rattle.std.proofs.lemmas.Bool.{and_from, and_parts, both_ways, cases_Bool, cases_lt}
use Rattle.std.proofs.lemmas.List.{drop_all, get_or-drop, get_or-take, get_or_default, length-drop, length-take-le}
use Rattle.matching.specs.declared.parts.Layer.{Layer}
use Rattle.matching.specs.Pieces.{ArePieces, NoCandidates}
use Rattle.matching.proofs.Lists.{at-get_or, drop-at}
use Rattle.route_rebuild.specs.Routes.{no_layer}
use Rattle.cert_checker.specs.Case.{Case, has_way, is_looked_at, layer, width}
use Rattle.cert_checker.proofs.PieceTests.{IsIn, begun, gone_on, no_piece, piece_after, piece_filled, piece_no}
use Rattle.cert_checker.proofs.PointConditions.{has_ways, looked}
use Rattle.cert_checker.proofs.RunPoints.{trellis_of}
use Rattle.cert_checker.proofs.MatchedCases.{pieces_of}
use Rattle.cert_checker.proofs.HeldRuns.{IsHeld, held_inside, held_order, held_run}

-- ---- the pieces

-- a point outside the pieces has no candidates
outside : (c : Case) (i : ℕ) → IsHeld c → i < length c.layers → ((k : ℕ) → k < length c.proof.pieces → IsIn i (piece_no c.proof.pieces k) → ⊥) → width c i ≡ 0
outside c i h lt none =
    let break = (h.each i lt).break.0 in
    let goes = is_looked_at c i && has_way c i in
    ⊎_elim
    (λ some. absurd (⊎_elim
    (λ both.
    let parts = and_parts (is_looked_at c i) (has_way c i) both in
    let there = (gone_on c.proof.pieces i).0 (break.on some ((looked c i).0 parts.0) ((has_ways c i).0 parts.1)) in
    none there.0 there.1 there.2.0)
    (λ neither.
    let there = (begun c.proof.pieces i).0 (break.anew some
    (λ look reached. both_ways goes neither (and_from (is_looked_at c i) (has_way c i) ((looked c i).1 look) ((has_ways c i).1 reached)))) in
    none there.0 there.1 there.2.0)
    (cases_Bool goes)))
    (λ few. omega (arith, few))
    (cases_lt 0 (width c i))

-- the pieces before number k end before point `at`, and the others begin there or later
record IsReachedBy (c : Case) (k at : ℕ) : Type 0 where
  before : (j : ℕ) → j < k → (piece_no c.proof.pieces j).last < at
  after : k < length c.proof.pieces → at ≤ (piece_no c.proof.pieces k).first

pub layer_is : (c : Case) (i : ℕ) (d : Layer) → i < length c.layers → get_or c.layers i d ≡ layer c i
layer_is c i d lt = get_or_default c.layers i d no_layer lt

no_more : (c : Case) (k at : ℕ) → IsHeld c → IsReachedBy c k at → length c.proof.pieces ≤ k → NoCandidates (trellis_of c) (drop at c.layers)
no_more c k at h r le m d lt =
    let left = length-drop at c.layers in
    let inside : at + m < length c.layers = omega (arith, lt, left) in
    ap (trellis_of c).width (get_or-drop at c.layers m d ∙ layer_is c (at + m) d inside)
    ∙ outside c (at + m) h inside (λ j j_in in_j. let low = r.before j (omega (arith, j_in, le)) in let high = in_j.1 in omega (arith, low, high))

none_between : (c : Case) (k at : ℕ) → IsHeld c → IsReachedBy c k at → k < length c.proof.pieces
    → NoCandidates (trellis_of c) (take ((piece_no c.proof.pieces k).first - at) (drop at c.layers))
none_between c k at h r k_in m d lt =
    let q = piece_no c.proof.pieces k in
    let order = held_order c h in
    let last_in = held_inside c k h k_in in
    let filled = piece_filled 0 c.proof.pieces k order k_in in
    let left = length-drop at c.layers in
    let long = length-take-le (q.first - at) (drop at c.layers) (omega (arith, left, last_in, filled)) in
    let low : m < q.first - at = omega (arith, lt, long) in
    let inside : at + m < length c.layers = omega (arith, low, last_in, filled) in
    ap (trellis_of c).width (get_or-take (q.first - at) (drop at c.layers) m d low ∙ get_or-drop at c.layers m d ∙ layer_is c (at + m) d inside)
    ∙ outside c (at + m) h inside
    (λ j j_in in_j.
    let ge = in_j.0 in
    let le = in_j.1 in
    ⊎_elim (λ earlier. let ended = r.before j earlier in omega (arith, ended, le))
    (λ others. ⊎_elim
    (λ later. let apart = piece_after 0 c.proof.pieces k j order later j_in in omega (arith, apart, ge, low, filled))
    (λ no_later. let same : j ≡ k = omega (arith, others, no_later) in
    let first : (piece_no c.proof.pieces j).first ≡ q.first = ap (λ v. (piece_no c.proof.pieces v).first) same in
    omega (arith, first, ge, low))
    (cases_lt k j))
    (cases_lt j k))

reached_next : (c : Case) (k at : ℕ) → IsHeld c → IsReachedBy c k at → k < length c.proof.pieces → IsReachedBy c (k + 1) ((piece_no c.proof.pieces k).last + 1)
reached_next c k at h r k_in =
    let order = held_order c h in
    let filled = piece_filled 0 c.proof.pieces k order k_in in
    record {
      before = λ j j_in. ⊎_elim
          (λ earlier. let apart = piece_after 0 c.proof.pieces j k order earlier k_in in omega (arith, apart, filled))
          (λ others. let same : k ≡ j = omega (arith, others, j_in) in subst (λ v. (piece_no c.proof.pieces v).last < (piece_no c.proof.pieces k).last + 1) same (omega arith))
          (cases_lt j k);
      after = λ next_in. let apart = piece_after 0 c.proof.pieces k (k + 1) order (omega arith) next_in in omega (arith, apart);
    }

pieces_from : (c : Case) (d k at : ℕ) → IsHeld c → k + d ≡ length c.proof.pieces → IsReachedBy c k at
    → ArePieces (trellis_of c) c.layers at (pieces_of (drop k c.proof.pieces))
pieces_from c zero k at h e r =
    let le : length c.proof.pieces ≤ k = omega (arith, e) in
    subst (λ ps. ArePieces (trellis_of c) c.layers at (pieces_of ps)) (sym (drop_all k c.proof.pieces le)) (no_more c k at h r le)
pieces_from c (suc d) k at h e r =
    let k_in : k < length c.proof.pieces = omega (arith, e) in
    let q = piece_no c.proof.pieces k in
    let run = held_run c k h k_in in
    subst (λ ps. ArePieces (trellis_of c) c.layers at (pieces_of ps)) (sym (drop-at c.proof.pieces k q (at-get_or c.proof.pieces k no_piece k_in))) (
      r.after k_in,
      none_between c k at h r k_in,
      run.some,
      run.piece,
      pieces_from c d (k + 1) (q.last + 1) h (omega (arith, e)) (reached_next c k at h r k_in),
    )

pub held_pieces : (c : Case) → IsHeld c → ArePieces (trellis_of c) c.layers 0 (pieces_of c.proof.pieces)
held_pieces c h = pieces_from c (length c.proof.pieces) 0 0 h (omega arith) (record { before = λ j j_in. absurd (omega (arith, j_in)); after = λ k_in. omega arith })
