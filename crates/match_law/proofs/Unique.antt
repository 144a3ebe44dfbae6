-- There is one match of a trace, and one text of traces.
use Rattle.std.proofs.Common.{◌≡◌, ℕ, zero, suc, ◌+◌, ◌-◌, ◌<◌, ◌≤◌, Bool, true, false, cond, count_by, List, [], ◌∷◌, ◌++◌, map, Some, refl, sym, ap, subst, ◌∙◌, arith, length, reverse, take, drop, get_or, slice_get, sum_by, ⊎_elim}
use Rattle.std.specs.List.{AllZip, concat, range_with_len}
use Rattle.std.proofs.lemmas.Bool.{cases_lt}
use Rattle.std.proofs.lemmas.List.{drop-drop, get_or-drop, get_or-take, length-drop, length-take, reverse-reverse, take-append-drop, take_all}
use Rattle.std.proofs.lemmas.List.Sums.{sum_by-cons}
use Rattle.cost_model.specs.declared.params.Params.{Params}
use Rattle.match_law.specs.LeastMatch.{AreAdded, AreChosen, AreLeastPieces, AreMissing, CanPositionsBePiece, IsAskedFor, IsBestOfPositions, IsLeastMatch, IsLeastPiece, IsLongest, IsRouteOver, candidates_of, edges_added, line_of_totals}
use Rattle.match_law.specs.Matches.{MatchTextsAreOne}
use Rattle.match_law.proofs.Choices.{chosen_turned}
use Rattle.match_text.specs.Lines.{text_of}
use Rattle.match_text.specs.declared.matched.Label.{Label}
use Rattle.match_text.specs.declared.matched.MatchedTrace.{MatchedTrace}
use Rattle.match_text.specs.declared.matched.Routed.{Routed}
use Rattle.matching.specs.Routes.{Route}
use Rattle.matching.proofs.Orders.{at_most-both}
use Rattle.matching.proofs.RouteBetweens.{route-unique}
use Rattle.matching.specs.Match.{from_to}
use Rattle.road_network.specs.Net.{Net, edge_name}
use Rattle.road_network.specs.declared.Candidate.{Candidate}
use Rattle.route_rebuild.specs.Routes.{no_layer}
use Rattle.trace_match.specs.Match.{label_on}
use Rattle.trace_reader.specs.declared.trace.Fix.{Fix}
use Rattle.trace_reader.specs.declared.trace.Trace.{Trace}

-- ---- sequences

chosen-unique : (n : Net) (p : Params) (fs : List Fix) (rs : List ℕ) (cs ds : List Candidate) → AreChosen n p fs rs cs → AreChosen n p fs rs ds → cs ≡ ds
chosen-unique n p [] [] [] [] h k = refl
chosen-unique n p [] [] [] (d ∷ ds) h k = absurd k
chosen-unique n p [] [] (c ∷ cs) ds h k = absurd h
chosen-unique n p [] (r ∷ rs) cs ds h k = absurd h
chosen-unique n p (f ∷ fs) [] cs ds h k = absurd h
chosen-unique n p (f ∷ fs) (r ∷ rs) [] ds h k = absurd h
chosen-unique n p (f ∷ fs) (r ∷ rs) (c ∷ cs) [] h k = absurd k
chosen-unique n p (f ∷ fs) (r ∷ rs) (c ∷ cs) (d ∷ ds) h k =
    let same : Some c ≡ Some d = sym h.0 ∙ k.0 in
    ap (λ (x : Candidate). x ∷ cs) (cc same) ∙ ap (λ (xs : List Candidate). d ∷ xs) (chosen-unique n p fs rs cs ds h.1 k.1)

turned-unique : (xs ys : List ℕ) → reverse xs ≡ reverse ys → xs ≡ ys
turned-unique xs ys e = sym (reverse-reverse xs) ∙ ap reverse e ∙ reverse-reverse ys

best-unique : (n : Net) (p : Params) (fs : List Fix) (rs ss : List ℕ) (c d : ℕ) → IsBestOfPositions n p fs rs c → IsBestOfPositions n p fs ss d → (c ≡ d) × (rs ≡ ss)
best-unique n p fs rs ss c d h k =
    let same = at_most-both c d (reverse rs) (reverse ss) (h.least (reverse ss) d k.is) (k.least (reverse rs) c h.is) in
    (same.0, turned-unique rs ss same.1)

-- ---- routes

added-unique : (n : Net) (p : Params) (a : Candidate) (cs : List Candidate) (es fs : List ℕ) → AreAdded n p a cs es → AreAdded n p a cs fs → es ≡ fs
added-unique n p a [] es fs h k = h ∙ sym k
added-unique n p a (b ∷ cs) es fs (r, rest, the, are, on) (q, left, is, those, more) =
    are ∙ ap (λ (x : Route). edges_added b x ++ rest) (route-unique n p.bound p.back a b r q the is)
    ∙ ap (λ (xs : List ℕ). edges_added b q ++ xs) (added-unique n p b cs rest left on more)
    ∙ sym those

route-over-unique : (n : Net) (p : Params) (cs : List Candidate) (es fs : List ℕ) → IsRouteOver n p cs es → IsRouteOver n p cs fs → es ≡ fs
route-over-unique n p [] es fs h k = absurd h
route-over-unique n p (a ∷ cs) es fs (rest, are, on) (left, those, more) =
    are ∙ ap (λ (xs : List ℕ). a.edge.0 ∷ xs) (added-unique n p a cs rest left on more) ∙ sym those

-- ---- pieces

longest-unique : (n : Net) (p : Params) (fs : List Fix) (c d : ℕ) → IsLongest n p fs c → IsLongest n p fs d → c ≡ d
longest-unique n p fs c d h k =
    ⊎_elim (λ lt. absurd (h.longest d lt k.within k.can))
    (λ ge. ⊎_elim (λ gt. absurd (k.longest c gt h.within h.can)) (λ le. omega (arith, ge, le)) (cases_lt d c))
    (cases_lt c d)

piece-unique : (n : Net) (p : Params) (fs : List Fix) (ls ms : List Label) (piece other : Routed)
    → IsLeastPiece n p fs ls piece → IsLeastPiece n p fs ms other → (ls ≡ ms) × (piece.cost ≡ other.cost) × (piece.route ≡ other.route)
piece-unique n p fs ls ms piece other h k =
    let best = best-unique n p fs h.ranks k.ranks piece.cost other.cost h.best k.best in
    let chosen = chosen-unique n p fs k.ranks h.chosen k.chosen (subst (λ (rs : List ℕ). AreChosen n p fs rs h.chosen) best.1 h.are) k.are in
    let edges = route-over-unique n p k.chosen h.edges k.edges (subst (λ (cs : List Candidate). IsRouteOver n p cs h.edges) chosen h.route) k.route in (
      h.labels_are ∙ ap (map (label_on n)) chosen ∙ sym k.labels_are,
      best.0,
      h.route_is ∙ ap (map (edge_name n)) edges ∙ sym k.route_is,
    )

-- ---- where a piece begins

missing-unique : (n : Net) (p : Params) (fs : List Fix) (ls ms : List Label) → AreMissing n p fs ls → AreMissing n p fs ms → ls ≡ ms
missing-unique n p [] [] [] h k = refl
missing-unique n p [] [] (m ∷ ms) h k = absurd k
missing-unique n p [] (l ∷ ls) ms h k = absurd h
missing-unique n p (f ∷ fs) [] ms h k = absurd h
missing-unique n p (f ∷ fs) (l ∷ ls) [] h k = absurd k
missing-unique n p (f ∷ fs) (l ∷ ls) (m ∷ ms) h k =
    ap (λ (x : Label). x ∷ ls) (h.0.1 ∙ sym k.0.1) ∙ ap (λ (xs : List Label). m ∷ xs) (missing-unique n p fs ls ms h.1 k.1)

missing_at : (n : Net) (p : Params) (fs : List Fix) (ls : List Label) (k : ℕ) (d : Fix) → AreMissing n p fs ls → k < length fs → candidates_of n p (get_or fs k d) ≡ []
missing_at n p [] ls k d none lt = absurd (omega (arith, lt))
missing_at n p (f ∷ fs) [] k d none lt = absurd none
missing_at n p (f ∷ fs) (l ∷ ls) zero d none lt = none.0.0
missing_at n p (f ∷ fs) (l ∷ ls) (suc k) d none lt = missing_at n p fs ls k d none.1 (omega (arith, lt))

none_chosen : (n : Net) (p : Params) (f : Fix) (fs : List Fix) (rs : List ℕ) (cs : List Candidate) → candidates_of n p f ≡ [] → AreChosen n p (f ∷ fs) rs cs → ⊥
none_chosen n p f fs [] cs none are = are
none_chosen n p f fs (r ∷ rs) [] none are = are
none_chosen n p f fs (r ∷ rs) (c ∷ cs) none are =
    let wrong : slice_get [] r ≡ Some c = sym (ap (λ (xs : List Candidate). slice_get xs r) none) ∙ are.0 in absurd (cc wrong)

-- a piece has a candidate of its first position
first_some : (n : Net) (p : Params) (fs : List Fix) (count : ℕ) (d : Fix) → 0 < count → count ≤ length fs → CanPositionsBePiece n p (take count fs) → candidates_of n p (get_or fs 0 d) ≡ [] → ⊥
first_some n p fs zero d some within can none = absurd (omega (arith, some))
first_some n p [] (suc count) d some within can none = absurd (omega (arith, within))
first_some n p (f ∷ fs) (suc count) d some within can none =
    let back = f ∷ take count fs in
    none_chosen n p f (take count fs) (reverse can.ranks_back) (reverse can.sequence.chosen) none
    (subst (λ (xs : List Fix). AreChosen n p xs (reverse can.ranks_back) (reverse can.sequence.chosen)) (reverse-reverse back)
    (chosen_turned n p (reverse back) can.ranks_back can.sequence.chosen can.sequence.are))

-- so it begins at no position without candidates
begins_after : (n : Net) (p : Params) (fs : List Fix) (ls : List Label) (i first last count : ℕ) → i ≤ first → first ≤ last
    → IsLongest n p (drop first fs) (last + 1 - first) → first - i < count → AreMissing n p (take count (drop i fs)) ls → ⊥
begins_after n p fs ls i first last count from some longest few none =
    let d : Fix = record { x = no_layer.point.x; y = no_layer.point.y; time = 0 } in
    let within = longest.within in
    let inside : first < length fs = omega (arith, within, some, length-drop first fs) in
    let place : first + 0 ≡ i + (first - i) = omega (arith, from) in
    let same : get_or (drop first fs) 0 d ≡ get_or (take count (drop i fs)) (first - i) d =
    get_or-drop first fs 0 d ∙ ap (λ (k : ℕ). get_or fs k d) place ∙ sym (get_or-drop i fs (first - i) d) ∙ sym (get_or-take count (drop i fs) (first - i) d few) in
    first_some n p (drop first fs) (last + 1 - first) d (omega (arith, some)) within longest.can
    (ap (candidates_of n p) same
    ∙ missing_at n p (take count (drop i fs)) ls (first - i) d none (omega (arith, few, from, inside, length-take count (drop i fs), length-drop i fs)))

-- nor among the rest, if that has no candidates
begins_never : (n : Net) (p : Params) (fs : List Fix) (ls : List Label) (i first last : ℕ) → i ≤ first → first ≤ last
    → IsLongest n p (drop first fs) (last + 1 - first) → AreMissing n p (drop i fs) ls → ⊥
begins_never n p fs ls i first last from some longest none =
    let within = longest.within in
    let rest = drop i fs in
    begins_after n p fs ls i first last (length rest) from some longest (omega (arith, within, some, from, length-drop first fs, length-drop i fs))
    (subst (λ (xs : List Fix). AreMissing n p xs ls) (sym (take_all (length rest) rest (omega arith))) none)

-- ---- the pieces of a trace

-- the elements from one place on, those before another place first
parted : {X : Type 0} (i j : ℕ) (xs : List X) → i ≤ j → drop i xs ≡ take (j - i) (drop i xs) ++ drop j xs
parted i j xs le =
    let place : i + (j - i) ≡ j = omega (arith, le) in
    sym (take-append-drop (j - i) (drop i xs))
    ∙ ap (λ ys. take (j - i) (drop i xs) ++ ys) (drop-drop (j - i) i xs ∙ ap (λ (k : ℕ). drop k xs) place)

in_parts : {X : Type 0} (i first last : ℕ) (xs : List X) → i ≤ first → first ≤ last → drop i xs ≡ take (first - i) (drop i xs) ++ (from_to first last xs ++ drop (last + 1) xs)
in_parts i first last xs from some =
    parted i first xs from ∙ ap (λ ys. take (first - i) (drop i xs) ++ ys) (parted first (last + 1) xs (omega (arith, some)))

same_parts : {X : Type 0} (a b c d e f : List X) → a ≡ b → c ≡ d → e ≡ f → a ++ (c ++ e) ≡ b ++ (d ++ f)
same_parts a b c d e f one two three =
    ap (λ xs. xs ++ (c ++ e)) one ∙ ap (λ xs. b ++ (xs ++ e)) two ∙ ap (λ xs. b ++ (d ++ xs)) three

same_routed : (piece other : Routed) → piece.first ≡ other.first → piece.last ≡ other.last → piece.cost ≡ other.cost → piece.route ≡ other.route → piece ≡ other
same_routed piece other first last cost route =
    ap (λ (k : ℕ). let r : Routed = record { first = k; last = piece.last; cost = piece.cost; route = piece.route } in r) first
    ∙ ap (λ (k : ℕ). let r : Routed = record { first = other.first; last = k; cost = piece.cost; route = piece.route } in r) last
    ∙ ap (λ (k : ℕ). let r : Routed = record { first = other.first; last = other.last; cost = k; route = piece.route } in r) cost
    ∙ ap (λ (es : List ℕ). let r : Routed = record { first = other.first; last = other.last; cost = other.cost; route = es } in r) route

module _ (n : Net) (p : Params) (fixes : List Fix) (ls ms : List Label) where
  -- the piece that is the longest from its first position is the first after those without candidates
  first-unique : (i : ℕ) (piece other : Routed) (pieces others : List Routed)
      → AreLeastPieces n p fixes ls i (piece ∷ pieces) → AreLeastPieces n p fixes ms i (other ∷ others) → piece.first ≡ other.first
  first-unique i piece other pieces others h k =
      let one = h.0 in
      let two = k.0 in
      ⊎_elim
      (λ lt. absurd (begins_after n p fixes (take (other.first - i) (drop i ms)) i piece.first piece.last (other.first - i) one h.2 h.3 (omega (arith, lt, one)) k.1))
      (λ ge. ⊎_elim
      (λ gt. absurd (begins_after n p fixes (take (piece.first - i) (drop i ls)) i other.first other.last (piece.first - i) two k.2 k.3 (omega (arith, gt, two)) h.1))
      (λ le. omega (arith, ge, le))
      (cases_lt other.first piece.first))
      (cases_lt piece.first other.first)

  pieces-unique : (i : ℕ) (pieces others : List Routed) → AreLeastPieces n p fixes ls i pieces → AreLeastPieces n p fixes ms i others
      → (pieces ≡ others) × (drop i ls ≡ drop i ms)
  pieces-unique i [] [] h k = (refl, missing-unique n p (drop i fixes) (drop i ls) (drop i ms) h k)
  pieces-unique i [] (other ∷ others) h k = absurd (begins_never n p fixes (drop i ls) i other.first other.last k.0 k.2 k.3 h)
  pieces-unique i (piece ∷ pieces) [] h k = absurd (begins_never n p fixes (drop i ms) i piece.first piece.last h.0 h.2 h.3 k)
  pieces-unique i (piece ∷ pieces) (other ∷ others) h k =
      let from = k.0 in
      let some = k.2 in
      let some_before = h.2 in
      let first = first-unique i piece other pieces others h k in
      let count = longest-unique n p (drop other.first fixes) (piece.last + 1 - piece.first) (other.last + 1 - other.first)
      (subst (λ (k : ℕ). IsLongest n p (drop k fixes) (piece.last + 1 - piece.first)) first h.3) k.3 in
      let last : piece.last ≡ other.last = omega (arith, count, first, some, some_before) in
      let same = piece-unique n p (from_to other.first other.last fixes) (from_to other.first other.last ls) (from_to other.first other.last ms) piece other
      (subst (λ (k : ℕ). IsLeastPiece n p (from_to other.first k fixes) (from_to other.first k ls) piece) last
      (subst (λ (k : ℕ). IsLeastPiece n p (from_to k piece.last fixes) (from_to k piece.last ls) piece) first h.4)) k.4 in
      let before = missing-unique n p (take (other.first - i) (drop i fixes)) (take (other.first - i) (drop i ls)) (take (other.first - i) (drop i ms))
      (subst (λ (k : ℕ). AreMissing n p (take (k - i) (drop i fixes)) (take (k - i) (drop i ls))) first h.1) k.1 in
      let rest = pieces-unique (other.last + 1) pieces others (subst (λ (k : ℕ). AreLeastPieces n p fixes ls (k + 1) pieces) last h.5) k.5 in (
        ap (λ (r : Routed). r ∷ pieces) (same_routed piece other first last same.1 same.2) ∙ ap (λ (rs : List Routed). other ∷ rs) rest.0,
        in_parts i other.first other.last ls from some
            ∙ same_parts (take (other.first - i) (drop i ls)) (take (other.first - i) (drop i ms)) (from_to other.first other.last ls) (from_to other.first other.last ms)
            (drop (other.last + 1) ls) (drop (other.last + 1) ms) before same.0 rest.1
            ∙ sym (in_parts i other.first other.last ms from some),
      )

-- ---- matches

pub match-unique : (n : Net) (p : Params) (trace : Trace) (matched other : MatchedTrace) → IsLeastMatch n p trace matched → IsLeastMatch n p trace other → matched ≡ other
match-unique n p trace matched other h k =
    let same = pieces-unique n p trace.fixes matched.labels other.labels 0 matched.pieces other.pieces h.pieces k.pieces in
    ap (λ (i : ℕ). let m : MatchedTrace = record { id = i; labels = matched.labels; pieces = matched.pieces } in m) (h.id ∙ sym k.id)
    ∙ ap (λ (ls : List Label). let m : MatchedTrace = record { id = other.id; labels = ls; pieces = matched.pieces } in m) same.1
    ∙ ap (λ (rs : List Routed). let m : MatchedTrace = record { id = other.id; labels = other.labels; pieces = rs } in m) same.0

matches-unique : (n : Net) (p : Params) (traces : List Trace) (matches others : List MatchedTrace)
    → AllZip (IsLeastMatch n p) traces matches → AllZip (IsLeastMatch n p) traces others → matches ≡ others
matches-unique n p [] [] [] h k = refl
matches-unique n p [] [] (o ∷ others) h k = absurd k
matches-unique n p [] (m ∷ matches) others h k = absurd h
matches-unique n p (trace ∷ traces) [] others h k = absurd h
matches-unique n p (trace ∷ traces) (m ∷ matches) [] h k = absurd k
matches-unique n p (trace ∷ traces) (m ∷ matches) (o ∷ others) h k =
    ap (λ (x : MatchedTrace). x ∷ matches) (match-unique n p trace m o h.0 k.0)
    ∙ ap (λ (xs : List MatchedTrace). o ∷ xs) (matches-unique n p traces matches others h.1 k.1)

-- ---- texts

both_true : (a b : Bool) → (a ≡ true → b ≡ true) → (b ≡ true → a ≡ true) → a ≡ b
both_true true b h k = sym (h refl)
both_true false true h k = k refl
both_true false false h k = refl

same_counts : (f g : ℕ → Bool) (xs : List ℕ) → ((x : ℕ) → f x ≡ g x) → count_by f xs ≡ count_by g xs
same_counts f g [] same = refl
same_counts f g (x ∷ xs) same =
    sum_by-cons (λ (v : ℕ). cond (f v) 1 0) x xs
    ∙ ap (λ (b : Bool). cond b 1 0 + count_by f xs) (same x)
    ∙ ap (λ (k : ℕ). cond (g x) 1 0 + k) (same_counts f g xs same)
    ∙ sym (sum_by-cons (λ (v : ℕ). cond (g v) 1 0) x xs)

pub match_texts_are_one : MatchTextsAreOne
match_texts_are_one n p traces text other h k =
    let same = matches-unique n p traces h.matches k.matches h.are k.are in
    let asked : (v : ℕ) → h.asked v ≡ k.asked v = λ v. both_true (h.asked v) (k.asked v)
    (λ is. (k.asked_is v).1 (subst (λ (ms : List MatchedTrace). IsAskedFor n p traces ms v) same ((h.asked_is v).0 is)))
    (λ is. (h.asked_is v).1 (subst (λ (ms : List MatchedTrace). IsAskedFor n p traces ms v) (sym same) ((k.asked_is v).0 is))) in
    let nodes = range_with_len 0 (length n.nodes) in
    let points = sum_by (λ (trace : Trace). length trace.fixes) traces in
    let written : List MatchedTrace → ℕ → List ℕ = λ ms rows.
    concat (map text_of ms) ++ line_of_totals (length traces) points (sum_by (λ (m : MatchedTrace). length m.pieces) ms) rows in
    h.is
    ∙ ap (λ (ms : List MatchedTrace). written ms (count_by h.asked nodes)) same
    ∙ ap (written k.matches) (same_counts h.asked k.asked nodes asked)
    ∙ sym k.is
