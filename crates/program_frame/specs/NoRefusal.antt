-- What nothing refuses.
use Rattle.std.specs.Prelude.{◌≡◌, ℕ, List, Some, None}
use Rattle.std.specs.declared.option.Option.{Option}

abbrev pub no_refusal : Option (List ℕ)
no_refusal = None

-- nothing is no line
pub no_line : (line : List ℕ) → no_refusal ≡ Some line → ⊥
no_line line is = cc
