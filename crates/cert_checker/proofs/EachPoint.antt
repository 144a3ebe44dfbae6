-- A trace is proved exactly where each condition holds at each of its points.
use Rattle.std.proofs.Common.{◌≡◌, ◌<◌, ℕ, zero, suc, Bool, true, false, cond, [], ◌∷◌, length, Option, Some, None, refl, subst, arith, ⊎_elim}
use Rattle.std.proofs.lemmas.Bool.{cases_lt}
use Rattle.cert_checker.specs.declared.verdict.Condition.{Condition}
use Rattle.cert_checker.specs.declared.verdict.Condition.TheVariants.{Candidates, FirstCost, Relaxed, Tight, Pointer, Chosen, Break, Row, Route}
use Rattle.cert_checker.specs.declared.verdict.Verdict.{Verdict}
use Rattle.cert_checker.specs.declared.verdict.Verdict.TheVariants.{Proved, Refused}
use Rattle.cert_checker.specs.Case.{Case}
use Rattle.cert_checker.specs.Verdicts.{first_failing, holds, or_else, order, refused_at, trace_verdict, verdict_before}

-- each condition passes the test
pub record AllPass (test : Condition → Bool) : Type 0 where
  pub candidates : test Candidates ≡ true
  pub row : test Row ≡ true
  pub break : test Break ≡ true
  pub first_cost : test FirstCost ≡ true
  pub relaxed : test Relaxed ≡ true
  pub tight : test Tight ≡ true
  pub pointer : test Pointer ≡ true
  pub chosen : test Chosen ≡ true
  pub route : test Route ≡ true

passes : (b : Bool) (x : Condition) (rest : Option Condition) → cond b rest (Some x) ≡ None → (b ≡ true) × (rest ≡ None)
passes true x rest e = (refl, e)
passes false x rest e = absurd (cc)

none_failing-all_pass : (test : Condition → Bool) → first_failing test order ≡ None → AllPass test
none_failing-all_pass test h =
    let a = passes (test Candidates) Candidates (first_failing test (Row ∷ Break ∷ FirstCost ∷ Relaxed ∷ Tight ∷ Pointer ∷ Chosen ∷ Route ∷ [])) h in
    let b = passes (test Row) Row (first_failing test (Break ∷ FirstCost ∷ Relaxed ∷ Tight ∷ Pointer ∷ Chosen ∷ Route ∷ [])) a.1 in
    let c = passes (test Break) Break (first_failing test (FirstCost ∷ Relaxed ∷ Tight ∷ Pointer ∷ Chosen ∷ Route ∷ [])) b.1 in
    let d = passes (test FirstCost) FirstCost (first_failing test (Relaxed ∷ Tight ∷ Pointer ∷ Chosen ∷ Route ∷ [])) c.1 in
    let e = passes (test Relaxed) Relaxed (first_failing test (Tight ∷ Pointer ∷ Chosen ∷ Route ∷ [])) d.1 in
    let f = passes (test Tight) Tight (first_failing test (Pointer ∷ Chosen ∷ Route ∷ [])) e.1 in
    let g = passes (test Pointer) Pointer (first_failing test (Chosen ∷ Route ∷ [])) f.1 in
    let i = passes (test Chosen) Chosen (first_failing test (Route ∷ [])) g.1 in
    let j = passes (test Route) Route None i.1 in
    record { candidates = a.0; row = b.0; break = c.0; first_cost = d.0; relaxed = e.0; tight = f.0; pointer = g.0; chosen = i.0; route = j.0 }

all_pass-none_failing : (test : Condition → Bool) → AllPass test → first_failing test order ≡ None
all_pass-none_failing test h = rw (h.candidates, h.row, h.break, h.first_cost, h.relaxed, h.tight, h.pointer, h.chosen, h.route) refl

pub both_proved : (v w : Verdict) → or_else v w ≡ Proved → (v ≡ Proved) × (w ≡ Proved)
both_proved Proved w e = (refl, e)
both_proved (Refused x number place) w e = absurd (cc)

none_refused : (number i : ℕ) (o : Option Condition) → refused_at number i o ≡ Proved → o ≡ None
none_refused number i None e = refl
none_refused number i (Some x) e = absurd (cc)

before_told : (number : ℕ) (c : Case) (n : ℕ) → verdict_before number c n ≡ Proved → (i : ℕ) → i < n → AllPass (holds c i)
before_told number c zero e i lt = absurd (omega (arith, lt))
before_told number c (suc n) e i lt =
    let parts = both_proved (verdict_before number c n) (refused_at number n (first_failing (holds c n) order)) e in
    ⊎_elim (λ low. before_told number c n parts.0 i low)
    (λ ge. let same : n ≡ i = omega (arith, lt, ge) in
    subst (λ k. AllPass (holds c k)) same (none_failing-all_pass (holds c n) (none_refused number n (first_failing (holds c n) order) parts.1)))
    (cases_lt i n)

before_proved : (number : ℕ) (c : Case) (n : ℕ) → ((i : ℕ) → i < n → AllPass (holds c i)) → verdict_before number c n ≡ Proved
before_proved number c zero each = refl
before_proved number c (suc n) each =
    rw (before_proved number c n (λ i lt. each i (omega (arith, lt))), all_pass-none_failing (holds c n) (each n (omega arith))) refl

pub proved_each : (number : ℕ) (c : Case) → trace_verdict number c ≡ Proved → (i : ℕ) → i < length c.layers → AllPass (holds c i)
proved_each number c e i lt = before_told number c (length c.layers) e i lt

pub each_proved : (number : ℕ) (c : Case) → ((i : ℕ) → i < length c.layers → AllPass (holds c i)) → trace_verdict number c ≡ Proved
each_proved number c each = before_proved number c (length c.layers) each
