-- Tests of the pieces of a proof.
use Rattle.std.specs.Prelude.{ℕ, ◌+◌, ◌==◌, ◌&&◌, Bool, true, nat_le, nat_lt, List, [], ◌∷◌}
use Rattle.std.specs.List.{list_any}
use Rattle.match_text.specs.declared.matched.Routed.{Routed}

-- position i is in the piece
abbrev pub is_in : ℕ → Routed → Bool
is_in i q = nat_le q.first i && nat_le i q.last

-- position i is in some piece; it is the first of one; it is in one that has position i - 1
abbrev pub is_in_any : List Routed → ℕ → Bool
is_in_any pieces i = list_any (is_in i) pieces

abbrev pub begins : List Routed → ℕ → Bool
begins pieces i = list_any (λ q. is_in i q && (q.first == i)) pieces

abbrev pub goes_on : List Routed → ℕ → Bool
goes_on pieces i = list_any (λ q. is_in i q && nat_lt q.first i) pieces

-- no piece ends before it begins, and each begins after the one before it ends, from position n on
abbrev pub rise_from : ℕ → List Routed → Bool
rise_from n [] = true
rise_from n (q ∷ pieces) = nat_le n q.first && (nat_le q.first q.last && rise_from (q.last + 1) pieces)
