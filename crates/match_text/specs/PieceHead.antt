-- A piece line up to the word `route`.
use Rattle.std.specs.Prelude.{ℕ, ◌-◌, ◌^◌, List, Option, Some, codes}
use Rattle.match_text.specs.declared.scan.Head.{Head as LentHead}
use Rattle.match_text.specs.Reading.{◌>>=◌, after_bytes, number_after, most32}

-- the first and the last position of a piece, its cost, and what comes after the word `route`
pub record Head : Type 0 where
  pub first : ℕ
  pub last : ℕ
  pub cost : ℕ
  pub rest : List ℕ

unfoldable pub head_at : List ℕ → Option Head
head_at text = do
  first ← number_after (codes "piece ") most32 text
  last ← number_after (codes " ") most32 first.1
  cost ← number_after (codes " cost ") (2 ^ 64 - 1) last.1
  rest ← after_bytes (codes " route") cost.1
  Some (record { first = first.0; last = last.0; cost = cost.0; rest = rest })

abbrev pub head_of : LentHead → Head
head_of head =
    record { first = head.first; last = head.last; cost = head.cost; rest = head.rest.now }
