-- The rows that traces ask for are those of the definition.
use Rattle.std.proofs.Common.{IsTrue, ◌≡◌, ◌↔◌, ℕ, zero, suc, ◌+◌, ◌-◌, ◌<◌, ◌≤◌, Bool, true, List, [], ◌∷◌, map, Contains, Option, Some, refl, sym, ap, subst, ◌∙◌, arith, length, reverse, take, drop, get_or, slice_get, ⊎_elim}
use Rattle.std.specs.List.{list_any}
use Rattle.std.proofs.lemmas.Bool.{or_cases, or_left, or_right}
use Rattle.std.proofs.lemmas.List.{get_or-map, get_or_default, length-map}
use Rattle.std.proofs.lemmas.Option.{get_or_from_slice_get, slice_get_within}
use Rattle.cost_model.specs.Costs.{difference}
use Rattle.cost_model.specs.declared.params.Params.{Params}
use Rattle.match_law.specs.LeastMatch.{AreChosen, AsksAt, IsAskedFor, IsCost, candidates_of}
use Rattle.match_law.proofs.Matches.{part_map}
use Rattle.match_law.proofs.Pieces.{fixes_back, layers_back, le_if, true_if}
use Rattle.match_law.proofs.Sequences.{rank_of}
use Rattle.match_text.specs.declared.matched.MatchedTrace.{MatchedTrace}
use Rattle.match_text.specs.declared.matched.Routed.{Routed}
use Rattle.matching.specs.Asked.{IsAskedNodeAt}
use Rattle.matching.specs.Layers.{candidate_of_rank, end_of, trellis}
use Rattle.matching.specs.Places.{IsAt}
use Rattle.matching.specs.Sequences.{cost}
use Rattle.matching.specs.declared.parts.Layer.{Layer}
use Rattle.matching.specs.declared.parts.Piece.{Piece}
use Rattle.matching.proofs.Asking.{is_asked_node-tells}
use Rattle.matching.proofs.Lists.{at-drop, reverse-take}
use Rattle.matching.specs.Match.{from_to}
use Rattle.road_network.specs.Net.{Net, IsLawful, target}
use Rattle.road_network.specs.declared.Candidate.{Candidate}
use Rattle.trace_match.specs.Match.{asks, layer_of, layers_of, match_of, routed_of, solution_of}
use Rattle.trace_match.specs.Totals.{is_asked_by}
use Rattle.trace_reader.specs.declared.trace.Fix.{Fix}
use Rattle.trace_reader.specs.declared.trace.Trace.{Trace}

-- ---- elements of lists

map_got : {X Y : Type 0} (f : X → Y) (xs : List X) (i : ℕ) (y : Y) → slice_get (map f xs) i ≡ Some y → (x : X) × (slice_get xs i ≡ Some x) × (f x ≡ y)
map_got f [] i y is = absurd (cc is)
map_got f (x ∷ xs) zero y is = (x, refl, cc is)
map_got f (x ∷ xs) (suc i) y is = map_got f xs i y is

got_map : {X Y : Type 0} (f : X → Y) (xs : List X) (i : ℕ) (x : X) → slice_get xs i ≡ Some x → slice_get (map f xs) i ≡ Some (f x)
got_map f [] i x is = absurd (cc is)
got_map f (y ∷ xs) zero x is = ap (λ z. let o : Option _ = Some (f z) in o) (cc is)
got_map f (y ∷ xs) (suc i) x is = got_map f xs i x is

any_got : {X : Type 0} (test : X → Bool) (xs : List X) → list_any test xs ≡ true → (k : ℕ) × (x : X) × (slice_get xs k ≡ Some x) × (test x ≡ true)
any_got test [] is = absurd (cc is)
any_got test (x ∷ xs) is =
    ⊎_elim (λ here. (0, x, refl, here)) (λ later. let more = any_got test xs later in (suc more.0, more.1, more.2, more.3))
    (or_cases (test x) (list_any test xs) is)

got_any : {X : Type 0} (test : X → Bool) (xs : List X) (k : ℕ) (x : X) → slice_get xs k ≡ Some x → test x ≡ true → list_any test xs ≡ true
got_any test [] k x is passes = absurd (cc is)
got_any test (y ∷ xs) zero x is passes = let same : y ≡ x = cc is in or_left (test y) (list_any test xs) (ap test same ∙ passes)
got_any test (y ∷ xs) (suc k) x is passes = or_right (test y) (list_any test xs) (got_any test xs k x is passes)

at_got : {X : Type 0} (xs : List X) (i : ℕ) (x : X) → slice_get xs i ≡ Some x → IsAt xs i x
at_got xs i x is = record { below = slice_get_within xs i x is; is = sym (get_or_from_slice_get xs i x x is) }

-- the positions from the first of a piece to this one, from the last back
back_of : (fixes : List Fix) (first i : ℕ) (here : Fix) → first ≤ i → slice_get fixes i ≡ Some here → reverse (from_to first i fixes) ≡ here ∷ reverse (take (i - first) (drop first fixes))
back_of fixes first i here le is =
    let e : i + 1 - first ≡ i - first + 1 = omega (arith, le) in
    ap (λ (k : ℕ). reverse (take k (drop first fixes))) e
    ∙ reverse-take (drop first fixes) (i - first) here (at-drop fixes first i here le (at_got fixes i here is))

node_same : (n : Net) (l m : Layer) (rank v : ℕ) (c : Candidate) → candidate_of_rank l rank ≡ c → l ≡ m → end_of n m rank ≡ v → target n c.edge.0 ≡ v
node_same n l m rank v c is same node = ap (λ (x : Candidate). target n x.edge.0) (sym is) ∙ ap (λ (k : Layer). end_of n k rank) same ∙ node

near_same : (n : Net) (p : Params) (f g : Fix) (a b : Layer) → layer_of n p f ≡ a → layer_of n p g ≡ b → IsTrue ((trellis n p).near a b) → difference f.time g.time ≤ p.gap
near_same n p f g a b here next near =
    le_if (difference f.time g.time) p.gap
    (ap (λ (l : Layer). (trellis n p).near l (layer_of n p g)) here ∙ ap (λ (l : Layer). (trellis n p).near a l) next ∙ near)

module _ (n : Net) (p : Params) (lawful : IsLawful n) where
  -- ---- one position

  abbrev IsAskedAt : List Fix → Piece → ℕ → ℕ → Type 0
  IsAskedAt fixes q i v = IsAskedNodeAt (trellis n p) (end_of n) (map (layer_of n p) fixes) q i v

  -- what a sequence ends in
  record EndsIn (here : Fix) (back : List Fix) (rank : ℕ) (ranks : List ℕ) (cost : ℕ) : Type 0 where
    c : Candidate
    earlier : List Candidate
    are : AreChosen n p (here ∷ back) (rank ∷ ranks) (c ∷ earlier)
    costs : IsCost n p (here ∷ back) (c ∷ earlier) cost
    is : candidate_of_rank (layer_of n p here) rank ≡ c

  ends_by : (here : Fix) (back : List Fix) (rank : ℕ) (ranks : List ℕ) (cost : ℕ) (chosen : List Candidate)
      → AreChosen n p (here ∷ back) (rank ∷ ranks) chosen → IsCost n p (here ∷ back) chosen cost → EndsIn here back rank ranks cost
  ends_by here back rank ranks cost [] are costs = absurd are
  ends_by here back rank ranks cost (c ∷ earlier) are costs = record { c = c; earlier = earlier; are = are; costs = costs; is = rank_of n p here rank c are.0 }

  asks_at : (fixes : List Fix) (q : Piece) (r : Routed) (i v : ℕ) → r.first ≡ q.first → r.last ≡ q.last → IsAskedAt fixes q i v → AsksAt n p fixes r i v
  asks_at fixes q r i v first last a =
      let here = map_got (layer_of n p) fixes i a.here a.here_is in
      let next = map_got (layer_of n p) fixes (i + 1) a.next a.next_is in
      let f = here.0 in
      let g = next.0 in
      let le = a.after_first in
      let part = part_map n p fixes q.first (i + 1 - q.first) in
      let priced = ap (λ (ls : List Layer). cost (trellis n p) (reverse ls) (a.rank ∷ a.reached.1)) (sym part) ∙ a.reached.2 in
      let sequence = fixes_back n p (from_to q.first i fixes) (a.rank ∷ a.reached.1) a.reached.0 lawful priced in
      let back = back_of fixes q.first i f le here.1 in
      let ends = ends_by f (reverse (take (i - q.first) (drop q.first fixes))) a.rank a.reached.1 a.reached.0 sequence.chosen
      (subst (λ (xs : List Fix). AreChosen n p xs (a.rank ∷ a.reached.1) sequence.chosen) back sequence.are)
      (subst (λ (xs : List Fix). IsCost n p xs sequence.chosen a.reached.0) back sequence.costs) in
      let turned : f ∷ reverse (take (i - q.first) (drop q.first fixes)) ≡ reverse (from_to r.first i fixes) =
      sym back ∙ ap (λ (k : ℕ). reverse (from_to k i fixes)) (sym first) in
      let wide = a.next_some in
      let near_is = a.near in
      record {
        after_first = subst (λ (k : ℕ). k ≤ i) (sym first) le;
        to_last = subst (λ (k : ℕ). i ≤ k) (sym last) a.to_last;
        ranks_back = a.rank ∷ a.reached.1;
        cost = a.reached.0;
        c = ends.c;
        earlier = ends.earlier;
        are = subst (λ (xs : List Fix). AreChosen n p xs (a.rank ∷ a.reached.1) (ends.c ∷ ends.earlier)) turned ends.are;
        costs = subst (λ (xs : List Fix). IsCost n p xs (ends.c ∷ ends.earlier) a.reached.0) turned ends.costs;
        node = node_same n (layer_of n p f) a.here a.rank v ends.c ends.is here.2 a.node_is;
        here = f;
        next = g;
        here_is = here.1;
        next_is = next.1;
        some = subst (λ (l : Layer). 0 < (trellis n p).width l) (sym next.2) wide;
        near = near_same n p f g a.here a.next here.2 next.2 near_is;
      }

  asked_by_rank : (fixes : List Fix) (q : Piece) (r : Routed) (i v : ℕ) (ranks : List ℕ) (c : Candidate) (earlier : List Candidate) (price : ℕ) (here next : Fix)
      → r.first ≡ q.first → r.last ≡ q.last → r.first ≤ i → i ≤ r.last
      → AreChosen n p (here ∷ reverse (take (i - q.first) (drop q.first fixes))) ranks (c ∷ earlier)
      → cost (trellis n p) (reverse (map (layer_of n p) (from_to q.first i fixes))) ranks ≡ Some price
      → target n c.edge.0 ≡ v → slice_get fixes i ≡ Some here → slice_get fixes (i + 1) ≡ Some next → 0 < length (candidates_of n p next) → difference here.time next.time ≤ p.gap
      → IsAskedAt fixes q i v
  asked_by_rank fixes q r i v [] c earlier price here next first last ge le are priced node here_is next_is some near = absurd are
  asked_by_rank fixes q r i v (rank ∷ ranks) c earlier price here next first last ge le are priced node here_is next_is some near =
      let part = part_map n p fixes q.first (i + 1 - q.first) in
      record {
        after_first = subst (λ (k : ℕ). k ≤ i) first ge;
        to_last = subst (λ (k : ℕ). i ≤ k) last le;
        here = layer_of n p here;
        next = layer_of n p next;
        rank = rank;
        here_is = got_map (layer_of n p) fixes i here here_is;
        next_is = got_map (layer_of n p) fixes (i + 1) next next_is;
        next_some = some;
        near = true_if (difference here.time next.time) p.gap near;
        reached = (price, ranks, ap (λ (ls : List Layer). cost (trellis n p) (reverse ls) (rank ∷ ranks)) part ∙ priced);
        node_is = ap (λ (x : Candidate). target n x.edge.0) (rank_of n p here rank c are.0) ∙ node;
      }

  asked_at : (fixes : List Fix) (q : Piece) (r : Routed) (i v : ℕ) → r.first ≡ q.first → r.last ≡ q.last → AsksAt n p fixes r i v → IsAskedAt fixes q i v
  asked_at fixes q r i v first last a =
      let part : reverse (from_to r.first i fixes) ≡ reverse (from_to q.first i fixes) = ap (λ (k : ℕ). reverse (from_to k i fixes)) first in
      let back = back_of fixes q.first i a.here (subst (λ (k : ℕ). k ≤ i) first a.after_first) a.here_is in
      let are = subst (λ (xs : List Fix). AreChosen n p xs a.ranks_back (a.c ∷ a.earlier)) part a.are in
      let costs = subst (λ (xs : List Fix). IsCost n p xs (a.c ∷ a.earlier) a.cost) part a.costs in
      asked_by_rank fixes q r i v a.ranks_back a.c a.earlier a.cost a.here a.next first last a.after_first a.to_last
      (subst (λ (xs : List Fix). AreChosen n p xs a.ranks_back (a.c ∷ a.earlier)) back are)
      (layers_back n p (from_to q.first i fixes) a.ranks_back a.cost lawful (record { chosen = a.c ∷ a.earlier; are = are; costs = costs }))
      a.node a.here_is a.next_is a.some a.near

  -- ---- one trace

  pub record AsksFor (trace : Trace) (v : ℕ) : Type 0 where
    pub piece : Routed
    pub piece_is : Contains (match_of n p trace).pieces piece
    pub i : ℕ
    pub asks : AsksAt n p trace.fixes piece i v

  no_piece : Piece
  no_piece = record { first = 0; last = 0; cost = 0 }

  trace_asks : (trace : Trace) (v : ℕ) → asks n p trace v ≡ true → AsksFor trace v
  unfolding match_of asks
  trace_asks trace v is =
      let t = trellis n p in
      let layers = layers_of n p trace in
      let s = solution_of n p trace in
      let asked = (is_asked_node-tells t (end_of n) layers s.pieces v).1 is in
      let q = asked.0 in
      let f = routed_of n p layers s.ranks in
      let k = asked.1.0 in
      let lt = asked.1.1 in
      let long = length-map s.pieces f in
      record {
        piece = f q;
        piece_is = (k, omega (arith, long, lt), get_or-map f s.pieces k q (f q) lt ∙ ap f asked.1.2);
        i = asked.2.0;
        asks = asks_at trace.fixes q (f q) asked.2.0 v refl refl asked.2.1;
      }

  asks_trace : (trace : Trace) (v : ℕ) → AsksFor trace v → asks n p trace v ≡ true
  unfolding match_of asks
  asks_trace trace v a =
      let t = trellis n p in
      let layers = layers_of n p trace in
      let s = solution_of n p trace in
      let f = routed_of n p layers s.ranks in
      let k = a.piece_is.0 in
      let long = length-map s.pieces f in
      let below = a.piece_is.1 in
      let lt : k < length s.pieces = omega (arith, long, below) in
      let q = get_or s.pieces k no_piece in
      let same : f q ≡ a.piece = sym (get_or-map f s.pieces k no_piece a.piece lt) ∙ a.piece_is.2 in
      (is_asked_node-tells t (end_of n) layers s.pieces v).0 (
        q,
        (k, lt, get_or_default s.pieces k q no_piece lt),
        (a.i, asked_at trace.fixes q a.piece a.i v (sym (ap (λ (r : Routed). r.first) same)) (sym (ap (λ (r : Routed). r.last) same)) a.asks),
      )

  -- ---- traces

  pub traces_ask : (traces : List Trace) (v : ℕ) → (is_asked_by (record { network = n; params = p }) traces v ≡ true) ↔ IsAskedFor n p traces (map (match_of n p) traces) v
  traces_ask traces v = (
    λ is.
        let (k, trace, at, passes) = any_got (λ x. asks n p x v) traces is in
        let a = trace_asks trace v passes in
        record {
          k = k;
          trace = trace;
          matched = match_of n p trace;
          trace_is = at;
          matched_is = got_map (match_of n p) traces k trace at;
          piece = a.piece;
          piece_is = a.piece_is;
          i = a.i;
          asks = a.asks;
        },
    λ a.
        let got = map_got (match_of n p) traces a.k a.matched a.matched_is in
        let same : got.0 ≡ a.trace = let e : Some got.0 ≡ Some a.trace = sym got.1 ∙ a.trace_is in cc e in
        let matched : a.matched ≡ match_of n p a.trace = sym got.2 ∙ ap (match_of n p) same in
        got_any (λ x. asks n p x v) traces a.k a.trace a.trace_is
        (asks_trace a.trace v (record {
          piece = a.piece;
          piece_is = subst (λ (m : MatchedTrace). Contains m.pieces a.piece) matched a.piece_is;
          i = a.i;
          asks = a.asks;
        })),
  )
