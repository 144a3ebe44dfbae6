-- The first byte of a line tells which line it is.
use Rattle.std.proofs.Common.{◌≡◌, ℕ, ◌^◌, ◌<◌, List, ◌++◌, get_or, Option, Some, None, refl, sym, ap, ◌∙◌, arith}
use Rattle.std.specs.Option.{IfSome}
use Rattle.match_text.specs.declared.matched.Label.TheVariants.{Missing, On}
use Rattle.match_text.specs.declared.place.Line.{Line}
use Rattle.match_text.specs.declared.place.Line.TheVariants.{Point, Piece, End}
use Rattle.match_text.specs.declared.place.Place.{Place}
use Rattle.match_text.specs.Reading.{label_at, none_at, end_at}
use Rattle.match_text.specs.Grammar.{IsAllowed, text_at, ReadsLine}
use Rattle.match_text.proofs.Lines.{label_takes, label_again, none_takes, none_again, end_takes, end_again}

abbrev first_of : List ℕ → ℕ
first_of text = get_or text 0 0

-- the text begins with another byte than the line
apart : {A : Type 0} (text others : List ℕ) (b c : ℕ) → first_of text ≡ b → first_of others ≡ c → (b ≡ c → ⊥) → text ≡ others → A
apart text others b c first other differ eq = absurd (differ (sym first ∙ ap first_of eq ∙ other))

pub label_reads : (place : Place) (text : List ℕ) (read : Option (Line × List ℕ)) → first_of text ≡ 97 → read ≡ label_at place text → ReadsLine place text read
label_reads place text read first e = record { found = found read e; only = only }
  where
    found : (read : Option (Line × List ℕ)) → read ≡ label_at place text → IfSome read (λ x. IsAllowed place x.0 × (text ≡ text_at place x.0 ++ x.1))
    found None e = tt
    found (Some x) e = let takes = label_takes place text x.0 x.1 (sym e) in (takes.allowed, takes.parts)

    only : (line : Line) (rest : List ℕ) → IsAllowed place line → text ≡ text_at place line ++ rest → read ≡ Some (line, rest)
    only (Point Missing) rest allowed eq = apart text _ 97 110 first refl (λ h. omega (arith, h)) eq
    only (Point (On edge offset d2)) rest allowed eq = e ∙ ap (label_at place) eq ∙ label_again place edge offset d2 rest allowed
    only (Piece piece) rest allowed eq = apart text _ 97 112 first refl (λ h. omega (arith, h)) eq
    only End rest allowed eq = apart text _ 97 101 first refl (λ h. omega (arith, h)) eq

pub none_reads : (place : Place) (text : List ℕ) (read : Option (Line × List ℕ)) → first_of text ≡ 110 → read ≡ none_at place text → ReadsLine place text read
none_reads place text read first e = record { found = found read e; only = only }
  where
    found : (read : Option (Line × List ℕ)) → read ≡ none_at place text → IfSome read (λ x. IsAllowed place x.0 × (text ≡ text_at place x.0 ++ x.1))
    found None e = tt
    found (Some x) e = let takes = none_takes place text x.0 x.1 (sym e) in (takes.allowed, takes.parts)

    only : (line : Line) (rest : List ℕ) → IsAllowed place line → text ≡ text_at place line ++ rest → read ≡ Some (line, rest)
    only (Point Missing) rest allowed eq = e ∙ ap (none_at place) eq ∙ none_again place rest allowed
    only (Point (On edge offset d2)) rest allowed eq = apart text _ 110 97 first refl (λ h. omega (arith, h)) eq
    only (Piece piece) rest allowed eq = apart text _ 110 112 first refl (λ h. omega (arith, h)) eq
    only End rest allowed eq = apart text _ 110 101 first refl (λ h. omega (arith, h)) eq

pub end_reads : (place : Place) (text : List ℕ) (read : Option (Line × List ℕ)) → place.id < 2 ^ 32 → first_of text ≡ 101 → read ≡ end_at place text → ReadsLine place text read
end_reads place text read small first e = record { found = found read e; only = only }
  where
    found : (read : Option (Line × List ℕ)) → read ≡ end_at place text → IfSome read (λ x. IsAllowed place x.0 × (text ≡ text_at place x.0 ++ x.1))
    found None e = tt
    found (Some x) e = let takes = end_takes place text x.0 x.1 (sym e) in (takes.allowed, takes.parts)

    only : (line : Line) (rest : List ℕ) → IsAllowed place line → text ≡ text_at place line ++ rest → read ≡ Some (line, rest)
    only (Point Missing) rest allowed eq = apart text _ 101 110 first refl (λ h. omega (arith, h)) eq
    only (Point (On edge offset d2)) rest allowed eq = apart text _ 101 97 first refl (λ h. omega (arith, h)) eq
    only (Piece piece) rest allowed eq = apart text _ 101 112 first refl (λ h. omega (arith, h)) eq
    only End rest allowed eq = e ∙ ap (end_at place) eq ∙ end_again place rest small allowed
