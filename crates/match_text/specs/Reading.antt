-- Reading from left to right: what is at the front of a text, and the rest.
use Rattle.std.specs.Prelude.{ℕ, ◌-◌, ◌^◌, List, [], ◌∷◌, take, drop, Option, Some, None, ◌||◌, not, is_some, ◌==◌, if◌then◌else◌, codes}
use Rattle.std.specs.Borrow.{Bor}
use Rattle.std.specs.Option.{option_map}
use Rattle.std.specs.Result.{result_ok}
use Rattle.std.specs.List.{prefix_len}
use Rattle.std.specs.Char.{is_ascii_digit}
use Rattle.decimal_text.specs.Number.{has_leading_zero, unsigned_within}
use Rattle.match_text.specs.declared.matched.Label.TheVariants.{Missing, On}
use Rattle.match_text.specs.declared.place.Line.{Line}
use Rattle.match_text.specs.declared.place.Line.TheVariants.{Point, End}
use Rattle.match_text.specs.declared.place.Place.{Place}

infixl 10 ◌>>=◌
abbrev pub ◌>>=◌ : {A B : Type 0} → Option A → (A → Option B) → Option B
(Some x) >>= f = f x
None >>= f = None

-- what was read, and the bytes after it
abbrev pub seen : {A : Type 0} → Option (A × Bor (List ℕ)) → Option (A × List ℕ)
seen read = option_map (λ x. (x.0, x.1.now)) read

-- what comes after these bytes
abbrev pub after_bytes : List ℕ → List ℕ → Option (List ℕ)
after_bytes [] text = Some text
after_bytes (c ∷ cs) [] = None
after_bytes (c ∷ cs) (b ∷ bs) = if c == b then after_bytes cs bs else None

-- the number that these digits spell, and the rest
abbrev pub number_of : ℕ → List ℕ → List ℕ → Option (ℕ × List ℕ)
number_of most digits rest =
    if has_leading_zero digits then None
    else option_map (λ n. (n, rest)) (result_ok (unsigned_within most digits))

-- the number of all digits at the front
unfoldable pub number_at : ℕ → List ℕ → Option (ℕ × List ℕ)
number_at most text =
    let len = prefix_len is_ascii_digit text in number_of most (take len text) (drop len text)

-- the number after these bytes
unfoldable pub number_after : List ℕ → ℕ → List ℕ → Option (ℕ × List ℕ)
number_after bytes most text = after_bytes bytes text >>= number_at most

-- ---- lines: what they say, and what comes after them

abbrev pub most32 : ℕ
most32 = 2 ^ 32 - 1

unfoldable pub trace_at : List ℕ → Option (ℕ × List ℕ)
trace_at text = do
  id ← number_after (codes "trace ") most32 text
  rest ← after_bytes (10 ∷ []) id.1
  Some (id.0, rest)

-- the end line of the trace, where no position waits
unfoldable pub end_at : Place → List ℕ → Option (Line × List ℕ)
end_at place text = do
  id ← number_after (codes "end ") most32 text
  if not (id.0 == place.id) || is_some place.waiting then None
      else (after_bytes (10 ∷ []) id.1 >>= λ rest. Some (End, rest))

-- the number of the next position after these bytes
unfoldable pub numbered_at : List ℕ → ℕ → List ℕ → Option (List ℕ)
numbered_at bytes next text = do
  point ← number_after bytes 99999 text
  if point.0 == next then Some point.1 else None

-- the line of the next position without candidates, where no position waits
unfoldable pub none_at : Place → List ℕ → Option (Line × List ℕ)
none_at place text = do
  point ← numbered_at (codes "none ") place.next text
  if is_some place.waiting then None
      else (after_bytes (10 ∷ []) point >>= λ rest. Some (Point Missing, rest))

-- the line of the next position with candidates
unfoldable pub label_at : Place → List ℕ → Option (Line × List ℕ)
label_at place text = do
  point ← numbered_at (codes "at ") place.next text
  edge ← number_after (codes " edge ") most32 point
  offset ← number_after (codes " offset ") most32 edge.1
  d2 ← number_after (codes " d2 ") (2 ^ 64 - 1) offset.1
  rest ← after_bytes (10 ∷ []) d2.1
  Some (Point (On edge.0 offset.0 d2.0), rest)
