-- The pieces of a proof that rise, met position by position.
use Rattle.std.specs.Prelude.{ℕ, ◌≡◌, ◌==◌, true, false, nat_le, nat_lt, List, ◌∷◌, ◌++◌, Option, MatchOption}
use Rattle.std.specs.List.{list_all, list_any}
use Rattle.match_text.specs.declared.matched.Routed.{Routed}
use Rattle.cert_checker.specs.Pieces.{is_in, rise_from}

-- the pieces rise, and these are the ones that end at position i or later
pub record AreLeft (pieces left : List Routed) (i : ℕ) : Type 0 where
  pub ended : List Routed
  pub parts : pieces ≡ ended ++ left
  pub rise : rise_from 0 pieces ≡ true
  pub before : list_all (λ q. nat_lt q.last i) ended ≡ true
  pub on : list_all (λ q. nat_le i q.last) left ≡ true

-- the pieces rise, and this is the one that has position i
pub record HasPoint (pieces : List Routed) (i : ℕ) (q : Routed) : Type 0 where
  pub before : List Routed
  pub after : List Routed
  pub parts : pieces ≡ before ++ q ∷ after
  pub rise : rise_from 0 pieces ≡ true
  pub is_in : is_in i q ≡ true

-- the pieces rise, and this is the one that ends with position i
pub record IsEnding (pieces : List Routed) (i : ℕ) (q : Routed) : Type 0 where
  pub has : HasPoint pieces i q
  pub ends : q.last ≡ i

-- this is the piece that ends with position i, or none does
abbrev pub TellsEnding : List Routed → ℕ → Option Routed → Type 0
TellsEnding pieces i found =
    MatchOption found (list_any (λ q. q.last == i) pieces ≡ false) (IsEnding pieces i)
