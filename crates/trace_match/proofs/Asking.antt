-- What traces ask for together.
use Rattle.std.proofs.Common.{◌≡◌, ◌⊎◌, ◌↔◌, ℕ, true, ◌||◌, List, ◌++◌, sym, ◌∙◌, ⊎_elim}
use Rattle.std.proofs.lemmas.Bool.{or_cases, or_left, or_right}
use Rattle.std.proofs.lemmas.List.Folds.{list_any-append}
use Rattle.trace_match.specs.Match.{asks}
use Rattle.trace_reader.specs.declared.trace.Trace.{Trace}
use Rattle.trace_match.specs.Setting.{Setting}
use Rattle.trace_match.specs.Totals.{is_asked_by}

asked-append : (on : Setting) (front back : List Trace) (v : ℕ) → is_asked_by on (front ++ back) v ≡ (is_asked_by on front v || is_asked_by on back v)
asked-append on front back v = list_any-append (λ trace. asks on.network on.params trace v) front back

-- the front or the back asks for it
pub asked_parts : (on : Setting) (front back : List Trace) (v : ℕ) → (is_asked_by on (front ++ back) v ≡ true) ↔ ((is_asked_by on front v ≡ true) ⊎ (is_asked_by on back v ≡ true))
asked_parts on front back v = (
  λ is. or_cases (is_asked_by on front v) (is_asked_by on back v) (sym (asked-append on front back v) ∙ is),
  λ one.
      asked-append on front back v
      ∙ ⊎_elim (or_left (is_asked_by on front v) (is_asked_by on back v)) (or_right (is_asked_by on front v) (is_asked_by on back v)) one,
)
