-- The lines that were written stay. In this file layers stand in the order of the points.
use Rattle.std.proofs.Common.{◌≡◌, ℕ, zero, suc, ◌+◌, ◌<◌, List, [], ◌∷◌, ◌++◌, None, refl, ap, ◌∙◌, arith, length, map, take, drop}
use Rattle.std.specs.List.{flat_map, range_with_len}
use Rattle.std.proofs.lemmas.List.{append_assoc, length-append, map-append, take-append-le}
use Rattle.std.proofs.lemmas.List.Concat.{flat_map-append}
use Rattle.cost_model.specs.declared.params.Params.{Params}
use Rattle.road_network.specs.Net.{Net}
use Rattle.matching.specs.declared.parts.Layer.{Layer}
use Rattle.match_text.specs.MatchText.{end_line, trace_line}
use Rattle.trace_match.specs.Match.{layer_of, layers_of}
use Rattle.online_commit.specs.Items.{handed}
use Rattle.trace_sessions.specs.ItemText.{item_lines}
use Rattle.trace_sessions.specs.FollowText.{WrittenLinesStay, fix_line, handed_at, last_lines, followed_lines}

-- ---- points one by one

range_split : (i a b : ℕ) → range_with_len i (a + b) ≡ range_with_len i a ++ range_with_len (i + a) b
range_split i zero b =
    let none : 0 + b ≡ b = omega arith in
    let start : i ≡ i + 0 = omega arith in
    ap (range_with_len i) none ∙ ap (λ k. range_with_len k b) start
range_split i (suc a) b =
    let one : suc a + b ≡ suc (a + b) = omega arith in
    let start : i + 1 + a ≡ i + suc a = omega arith in
    ap (range_with_len i) one
    ∙ ap (λ ks. i ∷ ks) (range_split (i + 1) a b ∙ ap (λ k. range_with_len (i + 1) a ++ range_with_len k b) start)

same_lines : (f g : ℕ → List (List ℕ)) (i k : ℕ) → ((j : ℕ) → j < i + k → f j ≡ g j) → flat_map f (range_with_len i k) ≡ flat_map g (range_with_len i k)
same_lines f g i zero same = refl
same_lines f g i (suc k) same =
    ap (λ ls. ls ++ flat_map f (range_with_len (i + 1) k)) (same i (omega arith))
    ∙ ap (λ ls. g i ++ ls) (same_lines f g (i + 1) k (λ j lt. same j (omega (arith, lt))))

-- ---- the lines of a point

pub same_handed : (n : Net) (p : Params) (layers more : List Layer) (i : ℕ) → i < length layers → handed_at n p (layers ++ more) i ≡ handed_at n p layers i
same_handed n p layers more i lt =
    ap (λ fed. drop (length (handed n p fed)) (handed n p (take (suc i) (layers ++ more)))) (take-append-le i layers more (omega (arith, lt)))
    ∙ ap (λ fed. drop (length (handed n p (take i layers))) (handed n p fed)) (take-append-le (suc i) layers more (omega (arith, lt)))

points_split : (n : Net) (p : Params) (layers more : List Layer)
    → flat_map (followed_lines n p (layers ++ more)) (range_with_len 0 (length (layers ++ more)))
    ≡ flat_map (followed_lines n p layers) (range_with_len 0 (length layers)) ++ flat_map (followed_lines n p (layers ++ more)) (range_with_len (0 + length layers) (length more))
points_split n p layers more =
    let lines = followed_lines n p (layers ++ more) in
    ap (λ k. flat_map lines (range_with_len 0 k)) (length-append layers more)
    ∙ ap (flat_map lines) (range_split 0 (length layers) (length more))
    ∙ flat_map-append lines (range_with_len 0 (length layers)) (range_with_len (0 + length layers) (length more))
    ∙ ap (λ ls. ls ++ flat_map lines (range_with_len (0 + length layers) (length more)))
    (same_lines lines (followed_lines n p layers) 0 (length layers)
    (λ i lt. ap (λ items. fix_line i ∷ item_lines n None items) (same_handed n p layers more i (omega (arith, lt)))))

-- ---- the law

pub written_lines_stay : WrittenLinesStay
written_lines_stay n p trace more =
    let layers = layers_of n p trace in
    let later = map (layer_of n p) more in
    let points : List Layer → List (List ℕ) = λ ls. flat_map (followed_lines n p ls) (range_with_len 0 (length ls)) in
    let end : List Layer → List (List ℕ) = λ ls. last_lines n p ls ++ end_line trace.id ∷ [] in
    let new = flat_map (followed_lines n p (layers ++ later)) (range_with_len (0 + length layers) (length later)) in (
      new ++ end (layers ++ later),
      ap (λ ls. trace_line trace.id ∷ (points ls ++ end ls)) (map-append (layer_of n p) trace.fixes more)
          ∙ ap (λ ls. trace_line trace.id ∷ (ls ++ end (layers ++ later))) (points_split n p layers later)
          ∙ ap (λ ls. trace_line trace.id ∷ ls) (append_assoc (points layers) new (end (layers ++ later))),
    )
