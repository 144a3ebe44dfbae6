-- Drives of which some end: the drive of an id among those that end and among the others.
use Rattle.std.proofs.Common.{◌≡◌, ℕ, ◌<◌, Bool, true, false, cond, List, [], ◌∷◌, ◌++◌, Option, Some, None, refl, sym, ap, ◌∙◌, arith, length, nat_eq}
use Rattle.std.specs.Prelude.{not}
use Rattle.std.specs.List.{filter}
use Rattle.std.specs.Map.{lookup}
use Rattle.std.proofs.lemmas.Bool.Decides.{nat_tests}
use Rattle.std.proofs.lemmas.List.{append_assoc, length-append}
use Rattle.trace_reader.specs.declared.trace.Fix.{Fix}
use Rattle.trace_sessions.specs.Sessions.{Pair, fixes_and, fixes_of}
use Rattle.trace_sessions.specs.StreamText.{Point}
use Rattle.trace_sessions.specs.Drives.{Fleet, open_at, fleet_after}
use Rattle.trace_sessions.specs.DrivesAlone.{drives_with}
use Rattle.trace_sessions.proofs.StreamPoints.{Once, insert-lookup, once-insert}

-- those that do not end
abbrev pub others : (Pair → Bool) → List Pair → List Pair
others ends drives = filter (λ drive. not (ends drive)) drives

-- the drive of an id where it passes the test
abbrev pub passed : (Pair → Bool) → ℕ → Option (List Fix) → Option (List Fix)
passed test id None = None
passed test id (Some fixes) = cond (test (id, fixes)) (Some fixes) None

pub lookup-filter : (P : ℕ → Type 0) (test : Pair → Bool) (id : ℕ) (es : List Pair) → Once P es → lookup (nat_eq id) (filter test es) ≡ passed test id (lookup (nat_eq id) es)
lookup-filter P test id [] once = refl
lookup-filter P test id (e ∷ es) once = step (nat_eq id e.0) refl (test e) refl (lookup-filter P test id es once.2)
  where
    own : id ≡ e.0 → (c : Bool) → test e ≡ c → passed test id (Some e.1) ≡ cond c (Some e.1) None
    own same c is = ap (λ b. cond b (Some e.1) None) (ap (λ k. test (k, e.1)) same ∙ is)

    step : (b : Bool) → nat_eq id e.0 ≡ b → (c : Bool) → test e ≡ c → lookup (nat_eq id) (filter test es) ≡ passed test id (lookup (nat_eq id) es)
        → lookup (nat_eq id) (cond c (e ∷ filter test es) (filter test es)) ≡ passed test id (cond b (Some e.1) (lookup (nat_eq id) es))
    step true is true passes rest =
        let same : id ≡ e.0 = grind (arith, nat_tests) in
        ap (λ b. cond b (Some e.1) (lookup (nat_eq id) (filter test es))) is ∙ sym (own same true passes)
    step true is false fails rest =
        let same : id ≡ e.0 = grind (arith, nat_tests) in
        rest ∙ ap (passed test id) (ap (λ k. lookup (nat_eq k) es) same ∙ once.1) ∙ sym (own same false fails)
    step false is true passes rest = ap (λ b. cond b (Some e.1) (lookup (nat_eq id) (filter test es))) is ∙ rest
    step false is false fails rest = rest

-- the drives of an id are one or none
abbrev pub given : ℕ → Option (List Fix) → List Pair
given id None = []
given id (Some fixes) = (id, fixes) ∷ []

pub with-lookup : (P : ℕ → Type 0) (id : ℕ) (es : List Pair) → Once P es → drives_with id es ≡ given id (lookup (nat_eq id) es)
with-lookup P id [] once = refl
with-lookup P id (e ∷ es) once = step (nat_eq id e.0) refl (with-lookup P id es once.2)
  where
    step : (b : Bool) → nat_eq id e.0 ≡ b → drives_with id es ≡ given id (lookup (nat_eq id) es)
        → cond b (e ∷ drives_with id es) (drives_with id es) ≡ given id (cond b (Some e.1) (lookup (nat_eq id) es))
    step true is rest =
        let same : id ≡ e.0 = grind (arith, nat_tests) in
        ap (λ ds. e ∷ ds) (rest ∙ ap (given id) (ap (λ k. lookup (nat_eq k) es) same ∙ once.1)) ∙ ap (λ k. (k, e.1) ∷ []) (sym same)
    step false is rest = rest

pub once-filter : (P : ℕ → Type 0) (test : Pair → Bool) (es : List Pair) → Once P es → Once P (filter test es)
once-filter P test [] once = tt
once-filter P test (e ∷ es) once = step (test e) (once-filter P test es once.2)
  where
    step : (c : Bool) → Once P (filter test es) → Once P (cond c (e ∷ filter test es) (filter test es))
    step true rest = (once.0, lookup-filter P test e.0 es once.2 ∙ ap (passed test e.0) once.1, rest)
    step false rest = rest

-- ---- each drive has a position

abbrev pub AreSome : List Pair → Type 0
AreSome es = (k : ℕ) (fixes : List Fix) → lookup (nat_eq k) es ≡ Some fixes → 0 < length fixes

was : (test : Pair → Bool) (k : ℕ) (fixes : List Fix) (o : Option (List Fix)) → passed test k o ≡ Some fixes → o ≡ Some fixes
was test k fixes None is = absurd cc
was test k fixes (Some own) is = step (test (k, own)) is
  where
    step : (c : Bool) → cond c (Some own) None ≡ Some fixes → Some own ≡ Some fixes
    step true is = is
    step false is = absurd cc

same_some : (a b : List Fix) → ◌≡◌ {A = Option (List Fix)} (Some a) (Some b) → a ≡ b
same_some a b is = cc

some_with : (es : List Pair) (k j : ℕ) (fix : Fix) (fixes : List Fix) (b : Bool) → AreSome es → cond b (Some (fixes_and es k fix)) (lookup (nat_eq j) es) ≡ Some fixes → 0 < length fixes
some_with es k j fix fixes true some is =
    let long = length-append (fixes_of es k) (fix ∷ []) in
    let same = ap length (same_some (fixes_and es k fix) fixes is) in
    omega (arith, long, same)
some_with es k j fix fixes false some is = some j fixes is

-- the open drives of a fleet: each id stands once, has this property, and has a position
pub record AreDrives (P : ℕ → Type 0) (es : List Pair) : Type 0 where
  pub once : Once P es
  pub some : AreSome es

pub no-drives-are : (P : ℕ → Type 0) → AreDrives P []
no-drives-are P = record { once = tt; some = λ k fixes is. absurd cc }

filter-are : (P : ℕ → Type 0) (test : Pair → Bool) (es : List Pair) → AreDrives P es → AreDrives P (filter test es)
filter-are P test es are = record {
  once = once-filter P test es are.once;
  some = λ k fixes is. are.some k fixes (was test k fixes (lookup (nat_eq k) es) (sym (lookup-filter P test k es are.once) ∙ is));
}

pub others-are : (P : ℕ → Type 0) (ends : Pair → Bool) (es : List Pair) → AreDrives P es → AreDrives P (others ends es)
others-are P ends es are = filter-are P (λ drive. not (ends drive)) es are

pub open-are : (P : ℕ → Type 0) (idle : ℕ) (fleet : Fleet) (x : Point) → AreDrives P fleet.drives → AreDrives P (open_at idle fleet x)
open-are P idle fleet x are = others-are P _ _ (others-are P _ _ are)

pub row-are : (P : ℕ → Type 0) (idle : ℕ) (fleet : Fleet) (x : Point) → P x.0 → AreDrives P fleet.drives → AreDrives P (fleet_after idle fleet x).drives
row-are P idle fleet x has are =
    let es = open_at idle fleet x in
    let own = open-are P idle fleet x are in
    record {
      once = once-insert P x.0 (fixes_and es x.0 x.1) es has own.once;
      some = λ k fixes is. some_with es x.0 k x.1 fixes (nat_eq k x.0) own.some (sym (insert-lookup k x.0 (fixes_and es x.0 x.1) es) ∙ is);
    }

-- ---- parts one after the other

pub two-parts : {X : Type 0} (a l m f b g c : List X) → a ++ l ≡ f ++ b → b ++ m ≡ g ++ c → a ++ (l ++ m) ≡ (f ++ g) ++ c
two-parts a l m f b g c one two =
    sym (append_assoc a l m) ∙ ap (λ x. x ++ m) one ∙ append_assoc f b m ∙ ap (λ x. f ++ x) two ∙ sym (append_assoc f g c)
