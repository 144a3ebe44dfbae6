-- Drives of different ids: those that pass a test are taken out one after the other, and an id's full drive.
use Rattle.std.proofs.Common.{◌≡◌, ℕ, ◌<◌, ◌≤◌, ◌&&◌, Bool, true, false, cond, not, nat_le, nat_lt, List, [], ◌∷◌, Some, None, refl, sym, ap, ◌∙◌, subst, arith, length, nat_eq, unwrap_or}
use Rattle.std.specs.List.{AllByRecursion, IsDistinct, filter}
use Rattle.std.specs.Map.{keys_of, lookup}
use Rattle.std.proofs.lemmas.Bool.Decides.{nat_tests}
use Rattle.std.proofs.lemmas.Map.Keys.{IsDistinct-head, IsDistinct-tail}
use Rattle.trace_reader.specs.declared.trace.Fix.{Fix}
use Rattle.trace_sessions.specs.Drives.{is_full_of}
use Rattle.trace_sessions.specs.Sessions.{Pair, without_pair}
use Rattle.trace_sessions.specs.StreamText.{has_room}
use Rattle.follow_work.proofs.StreamTotals.{absent}

abbrev pub others : (Pair → Bool) → List Pair → List Pair
others test drives = filter (λ drive. not (test drive)) drives

-- the first drive that passes the test, taken out by its id
pub record IsOut (test : Pair → Bool) (drives : List Pair) (x : Pair) (rest : List Pair) : Type 0 where
  pub found : lookup (nat_eq x.0) drives ≡ Some x.1
  pub passed : filter test (without_pair drives x.0) ≡ rest
  pub kept : others test (without_pair drives x.0) ≡ others test drives

own-id : (id : ℕ) → nat_eq id id ≡ true
own-id id = grind (arith, nat_tests)

-- an id that differs from those of some drives is not found among them
apart-from : (k : ℕ) (e : Pair) (drives : List Pair) (fixes : List Fix) → AllByRecursion (λ y. nat_eq e.0 y ≡ false) (keys_of drives) → lookup (nat_eq k) drives ≡ Some fixes → nat_eq k e.0 ≡ false
apart-from k e drives fixes all found = step (nat_eq k e.0) refl
  where
    step : (b : Bool) → nat_eq k e.0 ≡ b → nat_eq k e.0 ≡ false
    step false is = is
    step true is =
        let same : k ≡ e.0 = grind (arith, nat_tests) in
        let none : lookup (nat_eq k) drives ≡ None = ap (λ j. lookup (nat_eq j) drives) same ∙ absent e.0 drives all in
        let never : None ≡ Some fixes = sym none ∙ found in
        absurd (cc never)

pub out-first : (test : Pair → Bool) (drives : List Pair) (x : Pair) (rest : List Pair) → IsDistinct nat_eq (keys_of drives) → filter test drives ≡ x ∷ rest → IsOut test drives x rest
out-first test [] x rest different is = absurd (cc is)
out-first test (e ∷ drives) x rest different is =
    step (test e) refl is (out-first test drives x rest (IsDistinct-tail nat_eq e.0 (keys_of drives) different))
  where
    step : (b : Bool) → test e ≡ b → cond b (e ∷ filter test drives) (filter test drives) ≡ x ∷ rest → (filter test drives ≡ x ∷ rest → IsOut test drives x rest) → IsOut test (e ∷ drives) x rest
    step true passes is later =
        let same : e ≡ x = cc is in
        let tail : filter test drives ≡ rest = cc is in
        let own = own-id e.0 in
        subst (λ y. IsOut test (e ∷ drives) y rest) same (record {
          found = ap (λ b. cond b (Some e.1) (lookup (nat_eq e.0) drives)) own;
          passed = ap (λ b. filter test (cond b drives (e ∷ without_pair drives e.0))) own ∙ tail;
          kept = ap (λ b. others test (cond b drives (e ∷ without_pair drives e.0))) own
              ∙ sym (ap (λ b. cond (not b) (e ∷ others test drives) (others test drives)) passes);
        })
    step false fails is later =
        let inner = later is in
        let left = without_pair drives x.0 in
        let apart = apart-from x.0 e drives x.1 (IsDistinct-head nat_eq e.0 (keys_of drives) different) inner.found in
        record {
          found = ap (λ b. cond b (Some e.1) (lookup (nat_eq x.0) drives)) apart ∙ inner.found;
          passed = ap (λ b. filter test (cond b drives (e ∷ left))) apart
              ∙ ap (λ b. cond b (e ∷ filter test left) (filter test left)) fails
              ∙ inner.passed;
          kept = ap (λ b. others test (cond b drives (e ∷ left))) apart
              ∙ ap (λ b. cond (not b) (e ∷ others test left) (others test left)) fails
              ∙ ap (λ ds. e ∷ ds) inner.kept
              ∙ sym (ap (λ b. cond (not b) (e ∷ others test drives) (others test drives)) fails);
        }

-- where none passes, all are kept
pub none-out : (test : Pair → Bool) (drives : List Pair) → filter test drives ≡ [] → others test drives ≡ drives
none-out test [] none = refl
none-out test (e ∷ drives) none = step (test e) refl none (none-out test drives)
  where
    step : (b : Bool) → test e ≡ b → cond b (e ∷ filter test drives) (filter test drives) ≡ [] → (filter test drives ≡ [] → others test drives ≡ drives) → others test (e ∷ drives) ≡ e ∷ drives
    step true passes none later = absurd (cc none)
    step false fails none later = ap (λ b. cond (not b) (e ∷ others test drives) (others test drives)) fails ∙ ap (λ ds. e ∷ ds) (later none)

-- ---- the full drive of an id

-- no drive of other ids is one
pub full-none : (id : ℕ) (drives : List Pair) → lookup (nat_eq id) drives ≡ None → filter (is_full_of id) drives ≡ []
full-none id [] none = refl
full-none id (e ∷ drives) none = step (nat_eq id e.0) none (full-none id drives)
  where
    step : (b : Bool) → cond b (Some e.1) (lookup (nat_eq id) drives) ≡ None → (lookup (nat_eq id) drives ≡ None → filter (is_full_of id) drives ≡ [])
        → cond (b && nat_le 100_000 (length e.1)) (e ∷ filter (is_full_of id) drives) (filter (is_full_of id) drives) ≡ []
    step true none later = absurd (cc none)
    step false none later = later none

pub full-few : (id : ℕ) (fixes : List Fix) (drives : List Pair) → IsDistinct nat_eq (keys_of drives) → lookup (nat_eq id) drives ≡ Some fixes → length fixes < 100_000 → filter (is_full_of id) drives ≡ []
full-few id fixes [] different found few = refl
full-few id fixes (e ∷ drives) different found few =
    step (nat_eq id e.0) refl found (full-few id fixes drives (IsDistinct-tail nat_eq e.0 (keys_of drives) different))
  where
    rest : List Pair
    rest = filter (is_full_of id) drives

    step : (b : Bool) → nat_eq id e.0 ≡ b → cond b (Some e.1) (lookup (nat_eq id) drives) ≡ Some fixes → (lookup (nat_eq id) drives ≡ Some fixes → length fixes < 100_000 → rest ≡ [])
        → cond (b && nat_le 100_000 (length e.1)) (e ∷ rest) rest ≡ []
    step true is found later =
        let same : e.1 ≡ fixes = cc found in
        let count = ap length same in
        let low : nat_le 100_000 (length e.1) ≡ false = grind (arith, nat_tests) in
        let is_own : id ≡ e.0 = grind (arith, nat_tests) in
        let none : lookup (nat_eq id) drives ≡ None =
        ap (λ j. lookup (nat_eq j) drives) is_own ∙ absent e.0 drives (IsDistinct-head nat_eq e.0 (keys_of drives) different) in
        ap (λ b. cond b (e ∷ rest) rest) low ∙ full-none id drives none
    step false is found later = later found few

pub full-one : (id : ℕ) (fixes : List Fix) (drives : List Pair) → IsDistinct nat_eq (keys_of drives) → lookup (nat_eq id) drives ≡ Some fixes → 100_000 ≤ length fixes → filter (is_full_of id) drives ≡ (id, fixes) ∷ []
full-one id fixes [] different found full = absurd (cc found)
full-one id fixes (e ∷ drives) different found full =
    step (nat_eq id e.0) refl found (full-one id fixes drives (IsDistinct-tail nat_eq e.0 (keys_of drives) different))
  where
    rest : List Pair
    rest = filter (is_full_of id) drives

    step : (b : Bool) → nat_eq id e.0 ≡ b → cond b (Some e.1) (lookup (nat_eq id) drives) ≡ Some fixes → (lookup (nat_eq id) drives ≡ Some fixes → 100_000 ≤ length fixes → rest ≡ (id, fixes) ∷ [])
        → cond (b && nat_le 100_000 (length e.1)) (e ∷ rest) rest ≡ (id, fixes) ∷ []
    step true is found later =
        let same : e.1 ≡ fixes = cc found in
        let count = ap length same in
        let high : nat_le 100_000 (length e.1) ≡ true = grind (arith, nat_tests) in
        let is_own : id ≡ e.0 = grind (arith, nat_tests) in
        let none : lookup (nat_eq id) drives ≡ None =
        ap (λ j. lookup (nat_eq j) drives) is_own ∙ absent e.0 drives (IsDistinct-head nat_eq e.0 (keys_of drives) different) in
        ap (λ b. cond b (e ∷ rest) rest) high ∙ ap (λ ds. e ∷ ds) (full-none id drives none)
        ∙ ap (λ k. (k, e.1) ∷ []) (sym is_own) ∙ ap (λ fs. (id, fs) ∷ []) same
    step false is found later = later found full

-- after its end the id has room
pub room-left : (id : ℕ) (drives : List Pair) → IsDistinct nat_eq (keys_of drives) → has_room (others (is_full_of id) drives) id ≡ true
room-left id [] different = refl
room-left id (e ∷ drives) different =
    step (nat_eq id e.0) refl (room-left id drives (IsDistinct-tail nat_eq e.0 (keys_of drives) different))
  where
    rest : List Pair
    rest = others (is_full_of id) drives

    by-length : (c : Bool) → nat_le 100_000 (length e.1) ≡ c → nat_eq id e.0 ≡ true → rest ≡ drives → lookup (nat_eq id) drives ≡ None → has_room (cond (not c) (e ∷ rest) rest) id ≡ true
    by-length true high is same none = ap (λ ds. nat_lt (length (unwrap_or (lookup (nat_eq id) ds) [])) 100_000) same ∙ ap (λ o. nat_lt (length (unwrap_or o [])) 100_000) none
    by-length false low is same none =
        ap (λ b. nat_lt (length (unwrap_or (cond b (Some e.1) (lookup (nat_eq id) rest)) [])) 100_000) is
        ∙ (let few : nat_lt (length e.1) 100_000 ≡ true = grind (arith, nat_tests) in few)

    step : (b : Bool) → nat_eq id e.0 ≡ b → has_room rest id ≡ true → has_room (cond (not (b && nat_le 100_000 (length e.1))) (e ∷ rest) rest) id ≡ true
    step true is later =
        let is_own : id ≡ e.0 = grind (arith, nat_tests) in
        let none : lookup (nat_eq id) drives ≡ None =
        ap (λ j. lookup (nat_eq j) drives) is_own ∙ absent e.0 drives (IsDistinct-head nat_eq e.0 (keys_of drives) different) in
        by-length (nat_le 100_000 (length e.1)) refl is (none-out (is_full_of id) drives (full-none id drives none)) none
    step false is later = ap (λ b. nat_lt (length (unwrap_or (cond b (Some e.1) (lookup (nat_eq id) rest)) [])) 100_000) is ∙ later
