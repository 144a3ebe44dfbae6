-- How many traces and points a file may have.
use Rattle.std.proofs.Common.{◌≡◌, ℕ, ◌+◌, ◌≤◌, ◌<◌, ◌^◌, List, [], ◌∷◌, ◌++◌, length, take, drop, sym, arith, All, length-append}
use Rattle.std.specs.List.{AllByRecursion}
use Rattle.std.proofs.lemmas.List.Elements.{recursion_from_All, All-take, All-drop, All-same}
use Rattle.std.proofs.lemmas.List.Sums.{sum_by-append}
use Rattle.std.proofs.Math.Seq.{drop-append_seam, take-append_seam}
use Rattle.trace_reader.specs.Trace.{IsLawfulTrace}
use Rattle.trace_reader.specs.Reading.{closed, file_traces}
use Rattle.trace_reader.specs.declared.trace.Trace.{Trace}
use Rattle.trace_reader.proofs.Lawful.{IsLawfulTrace-closed, IsLawfulTrace-file_traces}
use Rattle.program_frame.proofs.PointCounts.{points-append, points-closed, points-file_traces}
use Rattle.program_frame.specs.Jobs.{IsBounded, position_count}

no_more_traces : (traces : List Trace) → AllByRecursion IsLawfulTrace traces → length traces ≤ position_count traces
no_more_traces [] lawful = omega arith
no_more_traces (trace ∷ traces) lawful =
    let some = lawful.0.some in
    let sum : position_count (trace ∷ traces) ≡ 0 + length trace.fixes + position_count traces = sum_by-append (λ t. length t.fixes) (trace ∷ []) traces in
    omega (arith, some, sum, no_more_traces traces lawful.1)

bounded : (traces : List Trace) (n : ℕ) → All IsLawfulTrace traces → position_count traces ≤ n → n ≤ 2 ^ 61 → IsBounded traces
bounded traces n lawful few short = record {
  few = omega (arith, no_more_traces traces (recursion_from_All IsLawfulTrace traces lawful));
  few_points = omega arith;
  lawful = lawful;
}

pub bounded_closed : (bytes : List ℕ) → length bytes < 2 ^ 61 → IsBounded (closed bytes)
bounded_closed bytes short = bounded (closed bytes) (length bytes) (IsLawfulTrace-closed bytes) (points-closed bytes) (omega arith)

pub bounded_file : (bytes : List ℕ) → length bytes < 2 ^ 61 → IsBounded (file_traces bytes)
bounded_file bytes short = bounded (file_traces bytes) (length bytes + 1) (IsLawfulTrace-file_traces bytes) (points-file_traces bytes) (omega arith)

-- the front of bounded traces is bounded
pub bounded_front : (front back : List Trace) → IsBounded (front ++ back) → IsBounded front
bounded_front front back all = record {
  few = let few = all.few in omega (arith, few, length-append front back);
  few_points = let few = all.few_points in omega (arith, few, points-append front back);
  lawful = All-same IsLawfulTrace front (take (length front) (front ++ back)) (sym (take-append_seam front back)) (All-take IsLawfulTrace (length front) (front ++ back) all.lawful);
}

pub lawful_back : (front back : List Trace) → All IsLawfulTrace (front ++ back) → All IsLawfulTrace back
lawful_back front back all = All-same IsLawfulTrace back (drop (length front) (front ++ back)) (sym (drop-append_seam front back)) (All-drop IsLawfulTrace (length front) (front ++ back) all)

pub bounded_back : (front back : List Trace) → IsBounded (front ++ back) → IsBounded back
bounded_back front back all = record {
  few = let few = all.few in omega (arith, few, length-append front back);
  few_points = let few = all.few_points in omega (arith, few, points-append front back);
  lawful = lawful_back front back all.lawful;
}
