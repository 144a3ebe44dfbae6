-- Batches of traces, and the verdicts on them.
use Rattle.std.proofs.Common.{◌≡◌, ◌<◌, ◌≤◌, ℕ, zero, suc, ◌+◌, ◌-◌, ◌*◌, All, List, [], ◌∷◌, ◌++◌, length, map, take, drop, get_or, IfOk, Result, Ok, refl, sym, ◌∙◌, ap, subst, arith, append-nil}
use Rattle.std.specs.List.{AllZip, flat_map}
use Rattle.std.proofs.lemmas.List.{drop_all, get_or_default, length-append, length-drop, length-map, length-take-le}
use Rattle.std.proofs.lemmas.List.Elements.{All-append, All-nil}
use Rattle.std.proofs.lemmas.List.Concat.{flat_map-append}
use Rattle.polyline_geometry.specs.Plane.{InRange}
use Rattle.cost_model.specs.declared.params.Params.{Params}
use Rattle.road_network.specs.Net.{Net}
use Rattle.trace_reader.specs.declared.trace.Fix.{Fix}
use Rattle.trace_reader.specs.declared.trace.Trace.{Trace}
use Rattle.trace_reader.specs.Trace.{IsLawfulTrace, point_of_fix}
use Rattle.bounded_table.specs.Table.{TableRow}
use Rattle.potential_certificate.specs.declared.proof.TraceProof.{TraceProof}
use Rattle.matching.specs.declared.parts.Layer.{Layer}
use Rattle.trace_match.specs.Match.{layer_of, layers_of}
use Rattle.cert_checker.specs.declared.batch.Batch.{Batch}
use Rattle.cert_checker.specs.declared.verdict.Condition.{Condition}
use Rattle.cert_checker.specs.declared.verdict.Verdict.{Verdict}
use Rattle.cert_checker.specs.declared.verdict.Verdict.TheVariants.{Proved, Refused}
use Rattle.cert_checker.specs.inside.Batches.{AreBatchesOf, FollowFrom, batch_verdict, first_refused}
use Rattle.cert_checker.specs.Verdicts.{case_of, or_else, trace_verdict}
use Rattle.cert_checker.specs.Whole.{verdict_from}

abbrev nothing : (X : Type 0) → List X
nothing X = []

take_none : {X : Type 0} (n : ℕ) → take n (nothing X) ≡ []
take_none zero = refl
take_none (suc n) = refl

take_on : {X : Type 0} (i d : ℕ) (xs : List X) → take i xs ++ take d (drop i xs) ≡ take (i + d) xs
take_on zero d xs = let e : d ≡ zero + d = omega arith in ap (λ n. take n xs) e
take_on (suc i) zero [] = sym (take_none (suc i + 0))
take_on (suc i) (suc d) [] = sym (take_none (suc i + suc d))
take_on (suc i) d (x ∷ xs) =
    let e : suc (i + d) ≡ suc i + d = omega arith in
    ap (λ l. x ∷ l) (take_on i d xs) ∙ ap (λ n. take n (x ∷ xs)) e

-- the part from one place to another behind the part before it
pub part_on : {X : Type 0} (first end : ℕ) (xs : List X) → first ≤ end → take first xs ++ take (end - first) (drop first xs) ≡ take end xs
part_on first end xs le =
    let e : first + (end - first) ≡ end = omega (arith, le) in
    take_on first (end - first) xs ∙ ap (λ n. take n xs) e

pub part_length : {X : Type 0} (first end : ℕ) (xs : List X) → first ≤ end → end ≤ length xs → first + length (take (end - first) (drop first xs)) ≡ end
part_length first end xs le within =
    let d = length-drop first xs in
    let l = length-take-le (end - first) (drop first xs) (omega (arith, d, within)) in
    omega (arith, l, le)

pub parts_more : {X : Type 0} (f : Batch → List X) (batches : List Batch) (b : Batch) (first end : ℕ) (xs : List X) → first ≤ end → flat_map f batches ≡ take first xs → f b ≡ take (end - first) (drop first xs)
    → flat_map f (batches ++ b ∷ []) ≡ take end xs
parts_more f batches b first end xs le before here =
    flat_map-append f batches (b ∷ [])
    ∙ ap (λ l. flat_map f batches ++ l) (append-nil (f b) ∙ here)
    ∙ ap (λ l. l ++ take (end - first) (drop first xs)) before
    ∙ part_on first end xs le

pub follow_more : (start : ℕ) (batches : List Batch) (b : Batch) (first end : ℕ) → FollowFrom start batches first → b.first ≡ first → first + length b.traces.now ≡ end → FollowFrom start (batches ++ b ∷ []) end
follow_more start [] b first end h is long = (is ∙ sym h, ap (λ n. n + length b.traces.now) h ∙ long)
follow_more start (a ∷ batches) b first end h is long = (h.0, follow_more (start + length a.traces.now) batches b first end h.1 is long)

or_else_assoc : (u v w : Verdict) → or_else (or_else u v) w ≡ or_else u (or_else v w)
or_else_assoc Proved v w = refl
or_else_assoc (Refused x trace place) v w = refl

-- the verdict on some traces and on those behind them
pub verdict_append : (n : Net) (p : Params) (rows : List TableRow) (k : ℕ) (ts us : List Trace) (ps qs : List TraceProof) → length ps ≡ length ts
    → verdict_from n p rows k (ts ++ us) (ps ++ qs) ≡ or_else (verdict_from n p rows k ts ps) (verdict_from n p rows (k + length ts) us qs)
verdict_append n p rows k [] us [] qs e = let z : k ≡ k + 0 = omega arith in ap (λ m. verdict_from n p rows m us qs) z
verdict_append n p rows k [] us (q ∷ ps) qs e = absurd (omega (arith, e))
verdict_append n p rows k (t ∷ ts) us [] qs e = absurd (omega (arith, e))
verdict_append n p rows k (t ∷ ts) us (q ∷ ps) qs e =
    let here = trace_verdict k (case_of n p rows t q) in
    let z : k + 1 + length ts ≡ k + suc (length ts) = omega arith in
    ap (or_else here) (verdict_append n p rows (k + 1) ts us ps qs (omega (arith, e)))
    ∙ ap (λ m. or_else here (or_else (verdict_from n p rows (k + 1) ts ps) (verdict_from n p rows m us qs))) z
    ∙ sym (or_else_assoc here (verdict_from n p rows (k + 1) ts ps) (verdict_from n p rows (k + suc (length ts)) us qs))

-- the first verdict of batches that refuses is that on all their traces
by_batches : (n : Net) (p : Params) (rows : List TableRow) (first : ℕ) (batches : List Batch) (end : ℕ) → FollowFrom first batches end
    → first_refused (map (batch_verdict n p rows) batches) ≡ verdict_from n p rows first (flat_map (λ b. b.traces.now) batches) (flat_map (λ b. b.proofs.now) batches)
by_batches n p rows first [] end h = refl
by_batches n p rows first (b ∷ batches) end h =
    let rest = first_refused (map (batch_verdict n p rows) batches) in
    ap (λ k. or_else (verdict_from n p rows k b.traces.now b.proofs.now) rest) h.0
    ∙ ap (or_else (verdict_from n p rows first b.traces.now b.proofs.now)) (by_batches n p rows (first + length b.traces.now) batches end h.1)
    ∙ sym (verdict_append n p rows first b.traces.now (flat_map (λ a. a.traces.now) batches) b.proofs.now (flat_map (λ a. a.proofs.now) batches) b.same)

pub batches_verdict : (n : Net) (p : Params) (rows : List TableRow) (traces : List Trace) (proofs : List TraceProof) (batches : List Batch) → AreBatchesOf traces proofs batches
    → first_refused (map (batch_verdict n p rows) batches) ≡ verdict_from n p rows 0 traces proofs
batches_verdict n p rows traces proofs batches are =
    by_batches n p rows 0 batches (length traces) are.follow
    ∙ ap (λ ts. verdict_from n p rows 0 ts (flat_map (λ b. b.proofs.now) batches)) are.traces_are
    ∙ ap (verdict_from n p rows 0 traces) are.proofs_are

-- answers to batches are answers to their verdicts
pub to_verdicts : {E : Type 0} (f : Batch → Verdict) (batches : List Batch) (answers : List (Result Verdict E)) → AllZip (λ b r. IfOk r (λ v. v ≡ f b)) batches answers
    → AllZip (λ w r. IfOk r (λ v. v ≡ w)) (map f batches) answers
to_verdicts f [] [] h = tt
to_verdicts f [] (r ∷ answers) h = h
to_verdicts f (b ∷ batches) [] h = h
to_verdicts f (b ∷ batches) (r ∷ answers) h = (h.0, to_verdicts f batches answers h.1)

-- the fixes of the traces of a batch
pub fixes_few : (traces : List Trace) → All IsLawfulTrace traces → length (flat_map (λ t. t.fixes) traces) ≤ 100_000 * length traces
fixes_few [] h = omega arith
fixes_few (t ∷ traces) h =
    let few = (h 0 t (omega arith)).few in
    let rest = fixes_few traces (λ k d lt. h (suc k) d (omega (arith, lt))) in
    omega (arith, few, rest, length-append t.fixes (flat_map (λ u. u.fixes) traces))

pub fixes_in_range : (traces : List Trace) → All IsLawfulTrace traces → All (λ (fix : Fix). InRange (point_of_fix fix)) (flat_map (λ t. t.fixes) traces)
fixes_in_range [] h = All-nil (λ (fix : Fix). InRange (point_of_fix fix))
fixes_in_range (t ∷ traces) h =
    All-append (λ (fix : Fix). InRange (point_of_fix fix)) t.fixes (flat_map (λ u. u.fixes) traces) (h 0 t (omega arith)).in_range
    (fixes_in_range traces (λ k d lt. h (suc k) d (omega (arith, lt))))

-- where the fixes of a trace stand among those of all
own_part : {X Y : Type 0} (f : X → List Y) (xs : List X) (i : ℕ) (x : X) → i < length xs → x ≡ get_or xs i x
    → take (length (f x)) (drop (length (flat_map f (take i xs))) (flat_map f xs)) ≡ f x
own_part f [] i x lt is = absurd (omega (arith, lt))
own_part f (y ∷ xs) zero x lt is =
    ap (λ z. take (length (f x)) (f z ++ flat_map f xs)) (sym is) ∙ take_front (f x) (flat_map f xs)
  where
    take_front : {Z : Type 0} (us vs : List Z) → take (length us) (us ++ vs) ≡ us
    take_front [] vs = refl
    take_front (u ∷ us) vs = ap (λ l. u ∷ l) (take_front us vs)
own_part f (y ∷ xs) (suc i) x lt is =
    ap (take (length (f x))) (drop_front (f y) (flat_map f (take i xs)) (flat_map f xs)) ∙ own_part f xs i x (omega (arith, lt)) is
  where
    drop_front : {Z : Type 0} (us vs ws : List Z) → drop (length (us ++ vs)) (us ++ ws) ≡ drop (length vs) ws
    drop_front [] vs ws = refl
    drop_front (u ∷ us) vs ws = drop_front us vs ws

part_more : {X Y : Type 0} (f : X → List Y) (xs : List X) (i : ℕ) (x : X) → i < length xs → x ≡ get_or xs i x
    → length (flat_map f (take (i + 1) xs)) ≡ length (flat_map f (take i xs)) + length (f x)
part_more f [] i x lt is = absurd (omega (arith, lt))
part_more f (y ∷ xs) zero x lt is = let same = ap (λ z. length (f z)) is in omega (arith, same, length-append (f y) [])
part_more f (y ∷ xs) (suc i) x lt is =
    let count : suc i + 1 ≡ suc (i + 1) = omega arith in
    let rest = part_more f xs i x (omega (arith, lt)) is in
    ap (λ k. length (flat_map f (take k (y ∷ xs)))) count
    ∙ omega (arith, rest, length-append (f y) (flat_map f (take (i + 1) xs)), length-append (f y) (flat_map f (take i xs)))

map_part : {X Y : Type 0} (g : X → Y) (n k : ℕ) (xs : List X) → take n (drop k (map g xs)) ≡ map g (take n (drop k xs))
map_part g zero zero xs = refl
map_part g (suc n) zero [] = refl
map_part g (suc n) zero (x ∷ xs) = ap (λ l. g x ∷ l) (map_part g n zero xs)
map_part g zero (suc k) [] = refl
map_part g (suc n) (suc k) [] = refl
map_part g n (suc k) (x ∷ xs) = map_part g n k xs

part_within : {X Y : Type 0} (f : X → List Y) (xs : List X) (i : ℕ) (x : X) → i < length xs → x ≡ get_or xs i x
    → length (flat_map f (take i xs)) + length (f x) ≤ length (flat_map f xs)
part_within f [] i x lt is = absurd (omega (arith, lt))
part_within f (y ∷ xs) zero x lt is = let same = ap (λ z. length (f z)) is in omega (arith, same, length-append (f y) (flat_map f xs))
part_within f (y ∷ xs) (suc i) x lt is =
    let rest = part_within f xs i x (omega (arith, lt)) is in
    omega (arith, rest, length-append (f y) (flat_map f xs), length-append (f y) (flat_map f (take i xs)))

abbrev fixes_of : List Trace → List Fix
fixes_of traces = flat_map (λ t. t.fixes) traces

-- the layers of a trace among those of its batch
pub record IsPart (n : Net) (p : Params) (traces : List Trace) (i first : ℕ) (t : Trace) (layers : List Layer) : Type 0 where
  pub within : first + length t.fixes ≤ length layers
  pub own : take (length t.fixes) (drop first layers) ≡ layers_of n p t
  pub next : first + length t.fixes ≡ length (flat_map (λ (u : Trace). u.fixes) (take (i + 1) traces))
  pub few : length layers ≤ 100_000 * length traces

pub batch_part : (n : Net) (p : Params) (traces : List Trace) (i first : ℕ) (t : Trace) (layers : List Layer) → All IsLawfulTrace traces → first ≡ length (flat_map (λ (u : Trace). u.fixes) (take i traces))
    → i < length traces → t ≡ get_or traces i t → layers ≡ map (layer_of n p) (flat_map (λ (u : Trace). u.fixes) traces) → IsPart n p traces i first t layers
batch_part n p traces i first t layers lawful behind lt is layers_are =
    let within = part_within (λ (u : Trace). u.fixes) traces i t lt is in
    let count : length layers ≡ length (fixes_of traces) = ap (λ (l : List Layer). length l) layers_are ∙ length-map (fixes_of traces) (layer_of n p) in
    record {
      within = omega (arith, within, count, behind);
      own = ap (λ (l : List Layer). take (length t.fixes) (drop first l)) layers_are
          ∙ map_part (layer_of n p) (length t.fixes) first (fixes_of traces)
          ∙ ap (λ k. map (layer_of n p) (take (length t.fixes) (drop k (fixes_of traces)))) behind
          ∙ ap (map (layer_of n p)) (own_part (λ (u : Trace). u.fixes) traces i t lt is);
      next = ap (λ k. k + length t.fixes) behind ∙ sym (part_more (λ (u : Trace). u.fixes) traces i t lt is);
      few = let all = fixes_few traces lawful in omega (arith, all, count);
    }

-- one step along two lists of which each pair is related
pub record ZipGoesOn {A B : Type 0} (R : A → B → Type 0) (xs : List A) (ys : List B) (i : ℕ) (y : B) : Type 0 where
  pub x : A
  pub split : drop i xs ≡ x ∷ drop (i + 1) xs
  pub here : R x y
  pub rest : AllZip R (drop (i + 1) xs) (drop (i + 1) ys)

pub zip_next : {A B : Type 0} (R : A → B → Type 0) (xs : List A) (ys : List B) (i : ℕ) (y : B) → AllZip R (drop i xs) (drop i ys) → i < length ys → y ≡ get_or ys i y → ZipGoesOn R xs ys i y
zip_next R xs [] i y h lt is = absurd (omega (arith, lt))
zip_next R [] (z ∷ ys) zero y h lt is = absurd h
zip_next R (x ∷ xs) (z ∷ ys) zero y h lt is = record { x = x; split = refl; here = subst (R x) (sym is) h.0; rest = h.1 }
zip_next R [] (z ∷ ys) (suc i) y h lt is =
    let none = zip_next R [] ys i y (zip_none R i ys h) (omega (arith, lt)) is in
    absurd (no_cons i none.x (drop (i + 1) []) none.split)
  where
    zip_none : {A B : Type 0} (R : A → B → Type 0) (i : ℕ) (ys : List B) → AllZip R [] (drop i ys) → AllZip R (drop i []) (drop i ys)
    zip_none R zero ys h = h
    zip_none R (suc i) ys h = h

    no_cons : {A : Type 0} (i : ℕ) (x : A) (xs : List A) → drop i [] ≡ x ∷ xs → ⊥
    no_cons zero x xs e = cc
    no_cons (suc i) x xs e = cc
zip_next R (x ∷ xs) (z ∷ ys) (suc i) y h lt is =
    let on = zip_next R xs ys i y h (omega (arith, lt)) is in
    let count : suc (i + 1) ≡ suc i + 1 = omega arith in
    record {
      x = on.x;
      split = on.split ∙ ap (λ k. on.x ∷ drop k (x ∷ xs)) count;
      here = on.here;
      rest = subst (λ k. AllZip R (drop k (x ∷ xs)) (drop k (z ∷ ys))) count on.rest;
    }

-- the answers to verdicts, one by one
pub record RefusesNext (verdicts : List Verdict) (i : ℕ) (v : Verdict) : Type 0 where
  pub split : first_refused (drop i verdicts) ≡ or_else v (first_refused (drop (i + 1) verdicts))

abbrev pub AreAnswers : {E : Type 0} → List Verdict → List (Result Verdict E) → Type 0
AreAnswers verdicts answers = AllZip (λ v r. IfOk r (λ w. w ≡ v)) verdicts answers

pub answer_next : {E : Type 0} (verdicts : List Verdict) (answers : List (Result Verdict E)) (i : ℕ) (v : Verdict) (d : Result Verdict E)
    → AreAnswers (drop i verdicts) (drop i answers) → i < length answers → get_or answers i d ≡ Ok v
    → AreAnswers (drop (i + 1) verdicts) (drop (i + 1) answers) × RefusesNext verdicts i v
answer_next verdicts answers i v d h lt is =
    let on = zip_next (λ w r. IfOk r (λ u. u ≡ w)) verdicts answers i (Ok v) h lt (sym is ∙ get_or_default answers i d (Ok v) lt) in
    let same : v ≡ on.x = on.here in
    (on.rest, record { split = ap first_refused on.split ∙ ap (λ w. or_else w (first_refused (drop (i + 1) verdicts))) (sym same) })

pub refused_next : (verdicts : List Verdict) (i : ℕ) (v : Verdict) (x : Condition) (trace place : ℕ) → RefusesNext verdicts i v → v ≡ Refused x trace place → v ≡ first_refused (drop i verdicts)
refused_next verdicts i v x trace place next is = is ∙ sym (next.split ∙ ap (λ w. or_else w (first_refused (drop (i + 1) verdicts))) is)

pub proved_next : (verdicts : List Verdict) (i : ℕ) (v : Verdict) → RefusesNext verdicts i v → v ≡ Proved → first_refused (drop (i + 1) verdicts) ≡ first_refused (drop i verdicts)
proved_next verdicts i v next is = sym (next.split ∙ ap (λ w. or_else w (first_refused (drop (i + 1) verdicts))) is)

no_verdicts : {E : Type 0} (verdicts : List Verdict) (answers : List (Result Verdict E)) → answers ≡ [] → AreAnswers verdicts answers → verdicts ≡ []
no_verdicts [] answers none h = refl
no_verdicts (v ∷ verdicts) [] none h = absurd h
no_verdicts (v ∷ verdicts) (r ∷ answers) none h = absurd (cc)

-- behind the last nothing is left
pub none_left : {E : Type 0} (verdicts : List Verdict) (answers : List (Result Verdict E)) (i : ℕ) → length answers ≤ i → AreAnswers (drop i verdicts) (drop i answers) → Proved ≡ first_refused (drop i verdicts)
none_left verdicts answers i le h = sym (ap first_refused (no_verdicts (drop i verdicts) (drop i answers) (drop_all i answers le) h))
