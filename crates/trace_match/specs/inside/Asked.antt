-- What traces make known by the rows that they ask for.
use Rattle.std.specs.Prelude.{◌≡◌, ◌⊎◌, ◌↔◌, ℕ, List, true, Contains}
use Rattle.bounded_table.specs.Rows.{AreRowsOf, RowsState}
use Rattle.trace_reader.specs.declared.trace.Trace.{Trace}
use Rattle.trace_match.specs.Setting.{Setting}
use Rattle.trace_match.specs.Totals.{is_asked_by}

-- known is what was known before, and what these traces ask for
abbrev pub LearnsAsked : Setting → List Trace → List ℕ → List ℕ → Type 0
LearnsAsked on traces before after =
    (v : ℕ) → Contains after v ↔ (Contains before v ⊎ (is_asked_by on traces v ≡ true))

-- the rows stay those of the setting, and what these traces ask for became known
pub record AsksTraces (on : Setting) (traces : List Trace) (old new : RowsState) : Type 0 where
  pub rows : AreRowsOf new on.network on.params.bound
  pub learns : LearnsAsked on traces old.known new.known
