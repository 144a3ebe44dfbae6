-- The case that the code looks at, and what it may rest on.
use Rattle.std.specs.Prelude.{◌≡◌, ◌-◌, ◌<◌, ◌≤◌, ℕ, true, None, length}
use Rattle.std.specs.List.{All}
use Rattle.cost_model.specs.Options.{IsAccepted}
use Rattle.matching.specs.Layers.{IsLayer}
use Rattle.cert_checker.specs.declared.trace_case.TraceCase.{TraceCase}
use Rattle.cert_checker.specs.Case.{Case, is_looked_at}
use Rattle.cert_checker.specs.Rows.{first_bad_row}
use Rattle.cert_checker.specs.Verdicts.{has_candidates, has_rows}

abbrev pub case_seen : TraceCase → Case
case_seen c = record {
  net = c.net.now;
  params = c.params.now;
  rows = c.rows.now;
  layers = c.layers.now;
  proof = c.proof.now;
}

-- accepted options, layers of this network, of at most 32 candidates each, and right rows
pub record IsCheckable (c : Case) : Type 0 where
  pub options : IsAccepted c.params
  pub layers : All (IsLayer c.net c.params) c.layers
  pub narrow : All (λ l. length l.candidates ≤ 32) c.layers
  pub rows : first_bad_row c.net c.params.bound c.rows ≡ None

-- a position to which transitions are looked at, with the tables, the ranks and the rows that they rest on
pub record IsPositionReady (c : Case) (i : ℕ) : Type 0 where
  pub checkable : IsCheckable c
  pub below : i < length c.layers
  pub looked : is_looked_at c i ≡ true
  pub before : has_candidates c (i - 1) ≡ true
  pub here : has_candidates c i ≡ true
  pub rows : has_rows c i ≡ true
