-- The chosen ranks of a piece, pointer by pointer.
use Rattle.std.proofs.Common.{◌≡◌, ℕ, ◌+◌, ◌-◌, ◌≤◌, ◌==◌, Bool, ap, arith}
use Rattle.std.specs.Option.{option_eq}
use Rattle.match_text.specs.declared.matched.Routed.{Routed}
use Rattle.cert_checker.specs.Case.{Case, rank, table}
use Rattle.cert_checker.specs.Cells.{pointer_of}

-- the chosen rank of point i is the pointer of the next chosen cell
abbrev pub is_pointed_to : Case → ℕ → Bool
is_pointed_to c i = option_eq (λ a b. a == b) (rank c i) (pointer_of (table c (i + 1)) (rank c (i + 1)))

-- by the number of the point within the piece
abbrev pub is_pointed_in : Case → Routed → ℕ → Bool
is_pointed_in c q k = is_pointed_to c (q.first + k)

pub pointed_at : (c : Case) (q : Routed) (i : ℕ) → q.first ≤ i → is_pointed_in c q (i - q.first) ≡ is_pointed_to c i
pointed_at c q i ge = let e : q.first + (i - q.first) ≡ i = omega (arith, ge) in ap (is_pointed_to c) e
