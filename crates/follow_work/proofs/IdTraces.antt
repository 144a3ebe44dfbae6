-- The whole traces of a file are the traces of its ids, one for each.
use Rattle.std.proofs.Common.{◌≡◌, ℕ, ◌<◌, Bool, true, false, cond, List, [], ◌∷◌, Option, Some, None, refl, sym, ap, ◌∙◌, arith, length, map, nat_eq, unwrap_or}
use Rattle.std.specs.Map.{lookup}
use Rattle.std.proofs.lemmas.Bool.Decides.{nat_tests}
use Rattle.std.proofs.lemmas.List.{length-append}
use Rattle.trace_reader.specs.Reading.{file_traces}
use Rattle.trace_reader.specs.declared.trace.Fix.{Fix}
use Rattle.trace_reader.specs.declared.trace.Trace.{Trace}
use Rattle.trace_sessions.specs.Sessions.{Pair, fixes_and, fixes_of, with_fix}
use Rattle.trace_sessions.specs.StreamText.{Point, fixes_among, points_in, trace_of, with_points}
use Rattle.trace_sessions.proofs.StreamPoints.{Once, fixes-behind, insert-lookup, once-insert}
use Rattle.follow_work.specs.FollowedIds.{AreTracesOfIds, with_id}
use Rattle.follow_work.specs.Streams.{pairs_in_order, whole_traces}

abbrev Anything : ℕ → Type 0
Anything id = Unit {0}

once-behind : (pairs : List Pair) (points : List Point) → Once Anything pairs → Once Anything (with_points pairs points)
once-behind pairs [] once = once
once-behind pairs (x ∷ more) once = once-behind (with_fix pairs x.0 x.1) more (once-insert Anything x.0 (fixes_and pairs x.0 x.1) pairs tt once)

-- ids that have a pair have a fix

HaveFixes : List Pair → Type 0
HaveFixes pairs = (id : ℕ) (fixes : List Fix) → lookup (nat_eq id) pairs ≡ Some fixes → 0 < length fixes

some-behind : (pairs : List Pair) (points : List Point) → HaveFixes pairs → HaveFixes (with_points pairs points)
unfolding HaveFixes
some-behind pairs [] have = have
some-behind pairs (x ∷ more) have =
    some-behind (with_fix pairs x.0 x.1) more (λ id fixes is. step id fixes (nat_eq id x.0) (sym (insert-lookup id x.0 (fixes_and pairs x.0 x.1) pairs) ∙ is))
  where
    step : (id : ℕ) (fixes : List Fix) (b : Bool) → cond b (Some (fixes_and pairs x.0 x.1)) (lookup (nat_eq id) pairs) ≡ Some fixes → 0 < length fixes
    step id fixes true is =
        let same : fixes_and pairs x.0 x.1 ≡ fixes = cc in
        omega (arith, ap length same, length-append (fixes_of pairs x.0) (x.1 ∷ []))
    step id fixes false is = have id fixes is

none-at-first : HaveFixes []
unfolding HaveFixes
none-at-first id fixes is = absurd (cc)

-- the traces of pairs with one id

abbrev told : ℕ → Option (List Fix) → List Trace
told id None = []
told id (Some fixes) = record { id = id; fixes = fixes } ∷ []

once-told : (id : ℕ) (pairs : List Pair) → Once Anything pairs → with_id id (map trace_of pairs) ≡ told id (lookup (nat_eq id) pairs)
once-told id [] once = refl
once-told id (e ∷ es) once = step (nat_eq id e.0) refl (once-told id es once.2)
  where
    step : (b : Bool) → nat_eq id e.0 ≡ b → with_id id (map trace_of es) ≡ told id (lookup (nat_eq id) es)
        → cond b (trace_of e ∷ with_id id (map trace_of es)) (with_id id (map trace_of es)) ≡ told id (cond b (Some e.1) (lookup (nat_eq id) es))
    step true is rest =
        let same : id ≡ e.0 = grind (arith, nat_tests) in
        let none : told id (lookup (nat_eq id) es) ≡ [] = ap (told id) (ap (λ j. lookup (nat_eq j) es) same ∙ once.1) in
        ap (λ (ts : List Trace). trace_of e ∷ ts) (rest ∙ none) ∙ ap (λ (j : ℕ). told j (Some e.1)) (sym same)
    step false is rest = rest

found : (o : Option (List Fix)) (fixes : List Fix) → unwrap_or o [] ≡ fixes → 0 < length fixes → o ≡ Some fixes
found None fixes is some = absurd (let e = ap length is in omega (arith, e, some))
found (Some f) fixes is some = ap (λ x. Some x) is

missing : (o : Option (List Fix)) (fixes : List Fix) → unwrap_or o [] ≡ fixes → ((f : List Fix) → o ≡ Some f → 0 < length f) → ¬ (0 < length fixes) → o ≡ None
missing None fixes is have none = refl
missing (Some f) fixes is have none = absurd (none (let some = have f refl in let e = ap length is in omega (arith, some, e)))

pub traces-of_ids : (bytes : List ℕ) → AreTracesOfIds bytes (whole_traces (file_traces bytes))
unfolding HaveFixes
traces-of_ids bytes =
    let points = points_in (file_traces bytes) in
    let pairs = pairs_in_order (file_traces bytes) in
    let once = once-behind [] points tt in
    let have = some-behind [] points none-at-first in
    record {
      each = λ id some. once-told id pairs once ∙ ap (told id) (found (lookup (nat_eq id) pairs) (fixes_among id points) (fixes-behind [] points id) some);
      others = λ id none. once-told id pairs once
          ∙ ap (told id) (missing (lookup (nat_eq id) pairs) (fixes_among id points) (fixes-behind [] points id) (λ f is. have id f is) none);
    }
