-- What is counted of a drive that ends, and of those that are left.
use Rattle.std.proofs.Common.{◌≡◌, ◌⊎◌, inl, inr, ⊎_elim, ℕ, ◌+◌, ◌≤◌, Bool, true, false, cond, List, [], ◌∷◌, ◌++◌, Some, refl, sym, ap, ◌∙◌, subst, arith, length, map, nat_eq}
use Rattle.std.specs.List.{sum_by}
use Rattle.std.specs.Map.{lookup}
use Rattle.std.proofs.lemmas.Bool.{or_cases, or_left, or_right}
use Rattle.std.proofs.lemmas.Bool.Decides.{nat_tests}
use Rattle.std.proofs.lemmas.List.{map-append}
use Rattle.std.proofs.lemmas.List.Elements.{All-cons, All-head, All-tail}
use Rattle.std.proofs.lemmas.List.Sums.{sum_by-cons}
use Rattle.cost_model.specs.Options.{IsAccepted}
use Rattle.cost_model.specs.declared.params.Params.{Params}
use Rattle.road_network.specs.Net.{Net}
use Rattle.trace_match.specs.Match.{asks}
use Rattle.trace_match.specs.Setting.{Setting}
use Rattle.trace_match.specs.Totals.{is_asked_by}
use Rattle.trace_match.proofs.Asking.{asked_parts}
use Rattle.trace_reader.specs.Trace.{IsLawfulTrace}
use Rattle.trace_reader.specs.declared.trace.Fix.{Fix}
use Rattle.trace_sessions.specs.Sessions.{Pair, without_pair}
use Rattle.trace_sessions.specs.StreamText.{trace_of}
use Rattle.trace_sessions.specs.Streaming.{AreLawful, fixes_in, pieces_of_all, pieces_told}
use Rattle.trace_sessions.proofs.StreamLines.{few-pieces, told-few}

-- ---- sums

pub sum-without : (f : List Fix → ℕ) (id : ℕ) (fixes : List Fix) (drives : List Pair) → lookup (nat_eq id) drives ≡ Some fixes
    → sum_by (λ (q : Pair). f q.1) drives ≡ f fixes + sum_by (λ (q : Pair). f q.1) (without_pair drives id)
sum-without f id fixes [] found = absurd (cc found)
sum-without f id fixes (e ∷ drives) found = step (nat_eq id e.0) found (sum-without f id fixes drives)
  where
    step : (b : Bool) → cond b (Some e.1) (lookup (nat_eq id) drives) ≡ Some fixes
        → (lookup (nat_eq id) drives ≡ Some fixes → sum_by (λ (q : Pair). f q.1) drives ≡ f fixes + sum_by (λ (q : Pair). f q.1) (without_pair drives id))
        → sum_by (λ (q : Pair). f q.1) (e ∷ drives) ≡ f fixes + sum_by (λ (q : Pair). f q.1) (cond b drives (e ∷ without_pair drives id))
    step true found later =
        let same : e.1 ≡ fixes = cc found in
        sum_by-cons (λ (q : Pair). f q.1) e drives ∙ ap (λ fs. f fs + sum_by (λ (q : Pair). f q.1) drives) same
    step false found later =
        let inner = later found in
        let old = sum_by-cons (λ (q : Pair). f q.1) e drives in
        let new = sum_by-cons (λ (q : Pair). f q.1) e (without_pair drives id) in
        omega (arith, inner, old, new)

-- ---- lawful drives

abbrev L : Pair → Type 0
L q = IsLawfulTrace (trace_of q)

pub lawful-without : (id : ℕ) (drives : List Pair) → AreLawful drives → AreLawful (without_pair drives id)
lawful-without id [] are = are
lawful-without id (e ∷ drives) are = step (nat_eq id e.0) (lawful-without id drives (All-tail L e drives are))
  where
    step : (b : Bool) → AreLawful (without_pair drives id) → AreLawful (cond b drives (e ∷ without_pair drives id))
    step true later = All-tail L e drives are
    step false later = All-cons L e (without_pair drives id) (All-head L e drives are) later

pub lawful-found : (id : ℕ) (fixes : List Fix) (drives : List Pair) → AreLawful drives → lookup (nat_eq id) drives ≡ Some fixes → IsLawfulTrace (trace_of (id, fixes))
lawful-found id fixes [] are found = absurd (cc found)
lawful-found id fixes (e ∷ drives) are found = step (nat_eq id e.0) found (lawful-found id fixes drives (All-tail L e drives are))
  where
    step : (b : Bool) → cond b (Some e.1) (lookup (nat_eq id) drives) ≡ Some fixes → (lookup (nat_eq id) drives ≡ Some fixes → IsLawfulTrace (trace_of (id, fixes))) → IsLawfulTrace (trace_of (id, fixes))
    step true found later =
        let same : e.1 ≡ fixes = cc found in
        let head = All-head L e drives are in
        subst (λ fs. IsLawfulTrace (trace_of (id, fs))) same (record { some = head.some; few = head.few; in_range = head.in_range })
    step false found later = later found

-- each has a position
pub few-drives : (drives : List Pair) → AreLawful drives → length drives ≤ fixes_in drives
few-drives [] are = omega arith
few-drives (e ∷ drives) are =
    let some = (All-head L e drives are).some in
    let rest = few-drives drives (All-tail L e drives are) in
    let sum = sum_by-cons (λ (q : Pair). length q.1) e drives in
    omega (arith, some, rest, sum)

-- and at least as many positions as pieces
pub few-told : (n : Net) (p : Params) (ended drives : List Pair) → IsAccepted p → AreLawful ended → AreLawful drives
    → pieces_of_all n p ended + pieces_told n p drives ≤ fixes_in ended + fixes_in drives
few-told n p ended drives accepted before are =
    let one = few-pieces n p ended accepted before in
    let two = told-few n p drives accepted are in
    omega (arith, one, two)

-- ---- what drives ask for

abbrev pub Asks : Setting → List Pair → ℕ → Type 0
Asks on pairs v = is_asked_by on (map trace_of pairs) v ≡ true

pub asks-front : (on : Setting) (front back : List Pair) (v : ℕ) → Asks on front v → Asks on (front ++ back) v
asks-front on front back v asked =
    subst (λ ts. is_asked_by on ts v ≡ true) (sym (map-append trace_of front back)) ((asked_parts on (map trace_of front) (map trace_of back) v).1 (inl asked))

pub asks-back : (on : Setting) (front back : List Pair) (v : ℕ) → Asks on back v → Asks on (front ++ back) v
asks-back on front back v asked =
    subst (λ ts. is_asked_by on ts v ≡ true) (sym (map-append trace_of front back)) ((asked_parts on (map trace_of front) (map trace_of back) v).1 (inr asked))

pub asks-cases : (on : Setting) (front back : List Pair) (v : ℕ) → Asks on (front ++ back) v → Asks on front v ⊎ Asks on back v
asks-cases on front back v asked =
    (asked_parts on (map trace_of front) (map trace_of back) v).0 (subst (λ ts. is_asked_by on ts v ≡ true) (map-append trace_of front back) asked)

-- a drive by its id, and the others
pub asks-without : (on : Setting) (v id : ℕ) (fixes : List Fix) (drives : List Pair) → lookup (nat_eq id) drives ≡ Some fixes
    → Asks on drives v → Asks on ((id, fixes) ∷ without_pair drives id) v
asks-without on v id fixes [] found asked = absurd (cc found)
asks-without on v id fixes (e ∷ drives) found asked = step (nat_eq id e.0) refl found (asks-without on v id fixes drives)
  where
    own : Bool
    own = asks on.network on.params (trace_of e) v

    first : Bool
    first = asks on.network on.params (trace_of (id, fixes)) v

    rest : List Pair
    rest = without_pair drives id

    step : (b : Bool) → nat_eq id e.0 ≡ b → cond b (Some e.1) (lookup (nat_eq id) drives) ≡ Some fixes
        → (lookup (nat_eq id) drives ≡ Some fixes → Asks on drives v → Asks on ((id, fixes) ∷ rest) v)
        → Asks on ((id, fixes) ∷ cond b drives (e ∷ rest)) v
    step true is found later =
        let is_own : id ≡ e.0 = grind (arith, nat_tests) in
        let same : e.1 ≡ fixes = cc found in
        subst (λ k. Asks on ((k, fixes) ∷ drives) v) (sym is_own) (subst (λ fs. Asks on ((e.0, fs) ∷ drives) v) same asked)
    step false is found later =
        ⊎_elim
        (λ here. or_right first (is_asked_by on (map trace_of (e ∷ rest)) v) (or_left own (is_asked_by on (map trace_of rest) v) here))
        (λ there.
        ⊎_elim
        (λ now. or_left first (is_asked_by on (map trace_of (e ∷ rest)) v) now)
        (λ then. or_right first (is_asked_by on (map trace_of (e ∷ rest)) v) (or_right own (is_asked_by on (map trace_of rest) v) then))
        (or_cases first (is_asked_by on (map trace_of rest) v) (later found there)))
        (or_cases own (is_asked_by on (map trace_of drives) v) asked)

pub asks-whole : (on : Setting) (v id : ℕ) (fixes : List Fix) (drives : List Pair) → lookup (nat_eq id) drives ≡ Some fixes
    → Asks on ((id, fixes) ∷ without_pair drives id) v → Asks on drives v
asks-whole on v id fixes [] found asked = absurd (cc found)
asks-whole on v id fixes (e ∷ drives) found asked = step (nat_eq id e.0) refl found asked (asks-whole on v id fixes drives)
  where
    own : Bool
    own = asks on.network on.params (trace_of e) v

    first : Bool
    first = asks on.network on.params (trace_of (id, fixes)) v

    rest : List Pair
    rest = without_pair drives id

    step : (b : Bool) → nat_eq id e.0 ≡ b → cond b (Some e.1) (lookup (nat_eq id) drives) ≡ Some fixes
        → Asks on ((id, fixes) ∷ cond b drives (e ∷ rest)) v
        → (lookup (nat_eq id) drives ≡ Some fixes → Asks on ((id, fixes) ∷ rest) v → Asks on drives v)
        → Asks on (e ∷ drives) v
    step true is found asked later =
        let is_own : id ≡ e.0 = grind (arith, nat_tests) in
        let same : e.1 ≡ fixes = cc found in
        subst (λ fs. Asks on ((e.0, fs) ∷ drives) v) (sym same) (subst (λ k. Asks on ((k, fixes) ∷ drives) v) is_own asked)
    step false is found asked later =
        ⊎_elim
        (λ now. or_right own (is_asked_by on (map trace_of drives) v) (later found (or_left first (is_asked_by on (map trace_of rest) v) now)))
        (λ then.
        ⊎_elim
        (λ here. or_left own (is_asked_by on (map trace_of drives) v) here)
        (λ there. or_right own (is_asked_by on (map trace_of drives) v) (later found (or_right first (is_asked_by on (map trace_of rest) v) there)))
        (or_cases own (is_asked_by on (map trace_of rest) v) then))
        (or_cases first (is_asked_by on (map trace_of (e ∷ rest)) v) asked)
