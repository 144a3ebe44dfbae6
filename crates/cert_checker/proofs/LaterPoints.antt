-- A later point of a piece, and the first failure of a trace.
use Rattle.std.proofs.Common.{◌≡◌, ◌<◌, ◌≤◌, ◌==◌, ℕ, zero, suc, ◌+◌, ◌-◌, Bool, true, false, true≢false, cond, List, [], ◌∷◌, length, Option, Some, None, refl, sym, ◌∙◌, ap, arith, below_more}
use Rattle.std.specs.Prelude.{◌&&◌, ◌||◌, not, nat_lt}
use Rattle.std.specs.List.{list_any}
use Rattle.std.proofs.lemmas.Bool.{and_left, and_parts, le-leb, ltb-true, ne_eqb}
use Rattle.match_text.specs.declared.matched.Routed.{Routed}
use Rattle.matching.specs.declared.parts.Cell.{Cell}
use Rattle.cert_checker.specs.declared.verdict.Condition.{Condition}
use Rattle.cert_checker.specs.declared.verdict.Condition.TheVariants.{Break, Candidates, Chosen, FirstCost, Pointer, Relaxed, Route, Row, Tight}
use Rattle.cert_checker.specs.declared.verdict.Verdict.TheVariants.{Proved, Refused}
use Rattle.cert_checker.specs.Case.{Case, has_way, is_looked_at, width}
use Rattle.cert_checker.specs.inside.Checked.{HasCells, of_cells}
use Rattle.cert_checker.specs.inside.Columns.{are_first_cells, each_cell}
use Rattle.cert_checker.specs.inside.InHand.{AreLeft}
use Rattle.cert_checker.specs.Pieces.{begins, goes_on, is_in_any, rise_from}
use Rattle.cert_checker.specs.Verdicts.{breaks_right, each_later, first_failing, has_breaks, has_candidates, has_first_costs, has_rows, holds, is_last, or_else, order, refused_at, trace_verdict, verdict_before}
use Rattle.cert_checker.proofs.FailingFirst.{fails_here, fails_later, passed}
use Rattle.cert_checker.proofs.PiecesInHand.{begins_by_first, goes_on_by_first, goes_on_by_none, in_any_by_first}

-- the piece that goes on with the point has it, and none begins with it
record GoesOn (pieces : List Routed) (i : ℕ) : Type 0 where
  pub inside : is_in_any pieces i ≡ true
  pub not_first : begins pieces i ≡ false

going_on : (pieces left : List Routed) (i : ℕ) → AreLeft pieces left i → goes_on pieces i ≡ true → GoesOn pieces i
going_on pieces [] i h on = absurd (true≢false (sym on ∙ sym (goes_on_by_none pieces [] i h refl)))
going_on pieces (q ∷ more) i h on =
    let lt = ltb-true q.first i (goes_on_by_first pieces (q ∷ more) i q h refl ∙ on) in
    record {
      inside = sym (in_any_by_first pieces (q ∷ more) i q h refl) ∙ le-leb q.first i (omega (arith, lt));
      not_first = sym (begins_by_first pieces (q ∷ more) i q h refl) ∙ ne_eqb q.first i (λ e. omega (arith, lt, e));
    }

looked_by : (empty looked way inside on first : Bool) → cond empty (not inside) (cond (looked && way) on first) ≡ true → inside ≡ true → first ≡ false → looked ≡ true
looked_by true looked way true on first h i f = absurd (true≢false (sym h))
looked_by true looked way false on first h i f = absurd (true≢false (sym i))
looked_by false true way inside on first h i f = refl
looked_by false false way inside on true h i f = absurd (true≢false f)
looked_by false false way inside on false h i f = absurd (true≢false (sym h))

-- a later point of a piece: its transitions are looked at, and it is no first point
pub record IsLaterPoint (c : Case) (i : ℕ) : Type 0 where
  pub looked : is_looked_at c i ≡ true
  pub first_costs : has_first_costs c i ≡ true
  pub each : (test : List (Option ℕ) → Cell → Bool) → each_later test c i ≡ each_cell test c i (width c i)

pub later_point : (c : Case) (i : ℕ) (left : List Routed) → AreLeft c.proof.pieces left i → has_breaks c i ≡ true → goes_on c.proof.pieces i ≡ true → IsLaterPoint c i
later_point c i left h stands on =
    let going = going_on c.proof.pieces left i h on in
    record {
      looked = looked_by (width c i == 0) (is_looked_at c i) (has_way c i) (is_in_any c.proof.pieces i) (goes_on c.proof.pieces i) (begins c.proof.pieces i)
          (and_parts (breaks_right c i) _ stands).0 going.inside going.not_first;
      first_costs = ap (λ v. not v || are_first_cells c i) going.not_first;
      each = λ test. ap (λ v. not v || each_cell test c i (width c i)) on;
    }

-- the point that all conditions on cells hold of
pub cells_met : (c : Case) (i : ℕ) → has_candidates c i ≡ true → has_rows c i ≡ true → None ≡ first_failing (holds c i) of_cells → HasCells c i
cells_met c i candidates rows none = record {
  candidates = candidates;
  rows = rows;
  breaks = passed (holds c i) [] Break (FirstCost ∷ Relaxed ∷ Tight ∷ Pointer ∷ []) none;
  tight = passed (holds c i) (Break ∷ FirstCost ∷ Relaxed ∷ []) Tight (Pointer ∷ []) none;
}

pub all_met : (c : Case) (i : ℕ) → None ≡ first_failing (holds c i) order → HasCells c i
all_met c i none = record {
  candidates = passed (holds c i) [] Candidates (Row ∷ Break ∷ FirstCost ∷ Relaxed ∷ Tight ∷ Pointer ∷ Chosen ∷ Route ∷ []) none;
  rows = passed (holds c i) (Candidates ∷ []) Row (Break ∷ FirstCost ∷ Relaxed ∷ Tight ∷ Pointer ∷ Chosen ∷ Route ∷ []) none;
  breaks = passed (holds c i) (Candidates ∷ Row ∷ []) Break (FirstCost ∷ Relaxed ∷ Tight ∷ Pointer ∷ Chosen ∷ Route ∷ []) none;
  tight = passed (holds c i) (Candidates ∷ Row ∷ Break ∷ FirstCost ∷ Relaxed ∷ []) Tight (Pointer ∷ Chosen ∷ Route ∷ []) none;
}

pub points_more : (c : Case) (i : ℕ) → ((k : ℕ) → k < i → HasCells c k) → HasCells c i → (k : ℕ) → k < i + 1 → HasCells c k
points_more c i before here = below_more (HasCells c) i before here

pub points_to : (c : Case) (i : ℕ) → ((k : ℕ) → k < i → HasCells c k) → HasCells c i → (k : ℕ) → k ≤ i → HasCells c k
points_to c i before here k le = below_more (HasCells c) i before here k (omega (arith, le))

refused_stays : (number : ℕ) (c : Case) (i d : ℕ) (x : Condition) (trace place : ℕ) → verdict_before number c i ≡ Refused x trace place → verdict_before number c (d + i) ≡ Refused x trace place
refused_stays number c i zero x trace place h = let e : zero + i ≡ i = omega arith in ap (verdict_before number c) e ∙ h
refused_stays number c i (suc d) x trace place h =
    let e : suc d + i ≡ suc (d + i) = omega arith in
    ap (verdict_before number c) e
    ∙ ap (λ v. or_else v (refused_at number (d + i) (first_failing (holds c (d + i)) order))) (refused_stays number c i d x trace place h)

-- the first failure is the verdict
pub first_fails : (number : ℕ) (c : Case) (i : ℕ) (x : Condition) → i < length c.layers → verdict_before number c i ≡ Proved → Some x ≡ first_failing (holds c i) order
    → Refused x number i ≡ trace_verdict number c
first_fails number c i x lt proved fails =
    let here : verdict_before number c (suc i) ≡ Refused x number i =
    ap (λ v. or_else v (refused_at number i (first_failing (holds c i) order))) proved ∙ ap (refused_at number i) (sym fails) in
    let d = length c.layers - suc i in
    let e : d + suc i ≡ length c.layers = omega (arith, lt) in
    sym (refused_stays number c (suc i) d x number i here) ∙ ap (verdict_before number c) e

-- and a point where none fails changes nothing
pub none_fails : (number : ℕ) (c : Case) (i : ℕ) → verdict_before number c i ≡ Proved → None ≡ first_failing (holds c i) order → verdict_before number c (i + 1) ≡ Proved
none_fails number c i proved none =
    let e : i + 1 ≡ suc i = omega arith in
    ap (verdict_before number c) e
    ∙ ap (λ v. or_else v (refused_at number i (first_failing (holds c i) order))) proved ∙ ap (refused_at number i) (sym none)

-- pieces that do not rise fail at the first point, behind its candidates
unordered : (stands rise last : Bool) → rise ≡ false → (stands && ((not true || rise) && last)) ≡ false
unordered true rise last h = and_left rise last h
unordered false rise last h = refl

pub break_at_first : (c : Case) → rise_from 0 c.proof.pieces ≡ false → has_candidates c 0 ≡ true → Some Break ≡ first_failing (holds c 0) order
break_at_first c rise has =
    fails_later (holds c 0) Candidates (Row ∷ Break ∷ FirstCost ∷ Relaxed ∷ Tight ∷ Pointer ∷ Chosen ∷ Route ∷ []) (Some Break) has
    (fails_later (holds c 0) Row (Break ∷ FirstCost ∷ Relaxed ∷ Tight ∷ Pointer ∷ Chosen ∷ Route ∷ []) (Some Break) refl
    (fails_here (holds c 0) Break (FirstCost ∷ Relaxed ∷ Tight ∷ Pointer ∷ Chosen ∷ Route ∷ []) (unordered (breaks_right c 0) (rise_from 0 c.proof.pieces) (not (is_last c 0) || not (list_any (λ q. nat_lt 0 q.last) c.proof.pieces)) rise)))
