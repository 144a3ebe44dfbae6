-- Parts of a file's bytes.
use Rattle.std.specs.Prelude.{◌≡◌, ℕ, Bool, false, ◌==◌, All, List, nat_le, Option, Some, None}

-- the bytes have no LF
abbrev pub HasNoEnd : List ℕ → Type 0
HasNoEnd part = All (λ b. (b == 10) ≡ false) part

-- as many traces are closed as were asked for
abbrev pub is_reached : Option ℕ → ℕ → Bool
is_reached None closed = false
is_reached (Some most) closed = nat_le most closed
