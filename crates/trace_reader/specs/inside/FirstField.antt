-- The first field of a line.
use Rattle.std.specs.Prelude.{ℕ, Bool, ◌==◌, not, List}
use Rattle.std.specs.List.{before_first}

-- what comes before the first comma
abbrev pub first_of : List ℕ → List ℕ
first_of text = before_first (λ c. c == 44) text

-- this byte ends no field
abbrev pub is_within_field : ℕ → Bool
is_within_field c = not (c == 44)
