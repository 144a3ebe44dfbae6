-- Which line may come next, and what the lines from a place on are.
use Rattle.std.specs.Prelude.{◌≡◌, ◌≢◌, ℕ, suc, ◌+◌, ◌^◌, ◌<◌, ◌≤◌, List, [], ◌∷◌, ◌++◌, length, take, map, Option, Some, None, IfSome, unwrap_or, Result, Ok, Err}
use Rattle.std.specs.List.{concat, AllByRecursion}
use Rattle.decimal_text.specs.Number.{decimal}
use Rattle.match_text.specs.declared.matched.Label.{Label}
use Rattle.match_text.specs.declared.matched.Label.TheVariants.{Missing, On}
use Rattle.match_text.specs.declared.matched.Routed.{Routed}
use Rattle.match_text.specs.declared.fault.TextFault.{TextFault}
use Rattle.match_text.specs.declared.fault.TextFault.TheVariants.{BadLine, Memory}
use Rattle.match_text.specs.declared.place.Line.{Line}
use Rattle.match_text.specs.declared.place.Line.TheVariants.{Point, Piece, End}
use Rattle.match_text.specs.declared.place.Place.{Place}
use Rattle.match_text.specs.MatchText.{words_after, LabelFits, PieceFits, label_line, piece_line, end_line}

-- the first position of a trace comes next
abbrev pub start : ℕ → Place
start id = record { id = id; next = 0; waiting = None }

abbrev pub place_after : Place → Line → Place
place_after place (Point Missing) =
    record { id = place.id; next = place.next + 1; waiting = place.waiting }
place_after place (Point (On edge offset d2)) = record
    { id = place.id; next = place.next + 1; waiting = Some (unwrap_or place.waiting place.next) }
place_after place (Piece piece) = record { id = place.id; next = place.next; waiting = None }
place_after place End = place

-- a piece line may come: it has all waiting positions, and a route
pub record EndsPiece (place : Place) (piece : Routed) : Type 0 where
  pub first : place.waiting ≡ Some piece.first
  pub last : piece.last + 1 ≡ place.next
  pub route : piece.route ≢ []
  pub fits : PieceFits piece

-- the line may come at this place
abbrev pub IsAllowed : Place → Line → Type 0
IsAllowed place (Point Missing) = (place.next < 100000) × (place.waiting ≡ None)
IsAllowed place (Point (On edge offset d2)) = (place.next < 100000) × LabelFits (On edge offset d2)
IsAllowed place (Piece piece) = EndsPiece place piece
IsAllowed place End = place.waiting ≡ None

-- the line as it is written there
abbrev pub text_at : Place → Line → List ℕ
text_at place (Point label) = label_line place.next label
text_at place (Piece piece) = piece_line piece
text_at place End = end_line place.id

abbrev pub IsEnd : Line → Type 0
IsEnd End = Unit {0}
IsEnd (Point label) = ⊥
IsEnd (Piece piece) = ⊥

-- these lines may come from this place on, and then the end line
abbrev pub Continues : Place → List Line → Type 0
Continues place [] = IsAllowed place End
Continues place (line ∷ lines) =
    (¬ IsEnd line) × IsAllowed place line × Continues (place_after place line) lines

-- the texts of these lines and of the end line
abbrev pub texts_from : Place → List Line → List (List ℕ)
texts_from place [] = text_at place End ∷ []
texts_from place (line ∷ lines) = text_at place line ∷ texts_from (place_after place line) lines

-- the text begins with n lines that may come from this place on
pub record BeginsFrom (place : Place) (n : ℕ) (text : List ℕ) : Type 0 where
  pub lines : List Line
  pub allowed : Continues place lines
  pub enough : n ≤ length (texts_from place lines)
  pub rest : List ℕ
  pub begins : text ≡ concat (take n (texts_from place lines)) ++ rest

-- the text from this place on is these lines and the end line
pub record IsWhole (place : Place) (lines : List Line) (text : List ℕ) : Type 0 where
  pub allowed : Continues place lines
  pub whole : text ≡ concat (texts_from place lines)

-- these lines and no others
pub record IsOnly (place : Place) (lines : List Line) (text : List ℕ) : Type 0 where
  pub is : IsWhole place lines text
  pub only : (others : List Line) → IsWhole place others text → others ≡ lines

-- n lines may come, and the line after them may not or is missing
pub record FailsAfter (place : Place) (n : ℕ) (text : List ℕ) : Type 0 where
  pub before : BeginsFrom place n text
  pub bad : ¬ BeginsFrom place (suc n) text
  pub not_whole : (lines : List Line) → ¬ IsWhole place lines text

-- what the text from this place on is: lines, or a number of lines before a bad one
abbrev pub Means : Place → List ℕ → Result (List Line) ℕ → Type 0
Means place text (Ok lines) = IsOnly place lines text
Means place text (Err n) = FailsAfter place n text

-- the text, or its front, is one of these, in one way
pub record Reads {A : Type 0} (IsIn : A → Type 0) (spelling : A → List ℕ) (text : List ℕ)
    (read : Option (A × List ℕ)) : Type 0 where
  pub found : IfSome read (λ x. IsIn x.0 × (text ≡ spelling x.0 ++ x.1))
  pub only : (a : A) (rest : List ℕ) → IsIn a → text ≡ spelling a ++ rest → read ≡ Some (a, rest)

abbrev pub ReadsLine : Place → List ℕ → Option (Line × List ℕ) → Type 0
ReadsLine place text read = Reads (IsAllowed place) (text_at place) text read

abbrev pub ReadsPiece : Place → List ℕ → Option (Routed × List ℕ) → Type 0
ReadsPiece place text read = Reads (EndsPiece place) piece_line text read

-- the edges of a route, each after a space, and LF
abbrev pub ReadsRoute : List ℕ → Option (List ℕ × List ℕ) → Type 0
ReadsRoute text read = Reads (AllByRecursion (λ edge. edge < 2 ^ 32))
    (λ edges. words_after (map decimal edges)) text read

abbrev pub labels_of : List Line → List Label
labels_of [] = []
labels_of (Point label ∷ lines) = label ∷ labels_of lines
labels_of (Piece piece ∷ lines) = labels_of lines
labels_of (End ∷ lines) = labels_of lines

abbrev pub pieces_of : List Line → List Routed
pieces_of [] = []
pieces_of (Point label ∷ lines) = pieces_of lines
pieces_of (Piece piece ∷ lines) = piece ∷ pieces_of lines
pieces_of (End ∷ lines) = pieces_of lines

-- what was read of the lines after the trace line, or the number of the bad one
abbrev pub ReadsLines : ℕ → List ℕ → Result (List Label × List Routed) TextFault → Type 0
ReadsLines id text (Ok x) =
    (lines : List Line) × IsOnly (start id) lines text
    × (x.0 ≡ labels_of lines)
    × (x.1 ≡ pieces_of lines)
ReadsLines id text (Err (BadLine n)) =
    (before : ℕ) × (n ≡ before + 2) × FailsAfter (start id) before text
ReadsLines id text (Err Memory) = Unit {0}
