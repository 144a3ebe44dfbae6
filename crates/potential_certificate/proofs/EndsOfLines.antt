-- Each line of a certificate has one LF, at its end.
use Rattle.std.proofs.Common.{◌==◌, if◌then◌else◌, ℕ, ◌-◌, ◌^◌, ◌<◌, Bool, true, false, List, [], ◌∷◌, ◌++◌, map, Option, Some, None, refl, arith}
use Rattle.std.specs.Prelude.{codes}
use Rattle.std.specs.List.{AllByRecursion}
use Rattle.cost_model.specs.declared.params.Params.{Params}
use Rattle.decimal_text.specs.Number.{decimal}
use Rattle.match_text.specs.Grammar.{IsAllowed}
use Rattle.match_text.specs.MatchText.{PieceFits, piece_line, trace_line}
use Rattle.match_text.specs.declared.matched.Routed.{Routed}
use Rattle.match_text.specs.declared.place.Place.{Place}
use Rattle.match_text.proofs.Steps.{IsSound}
use Rattle.matching.specs.declared.parts.Cell.{Cell}
use Rattle.row_text.proofs.LineEnds.{HasNoEnd, line_has_one_end, number_has_no_end}
use Rattle.row_text.proofs.LineFaults.{HasOneEnd, line_count-append}
use Rattle.potential_certificate.specs.CertificateText.{back_words, cell_word, cost_word, certificate_first_line, form, gap_words, last_line, certificate_option_words}
use Rattle.potential_certificate.specs.Faults.{OptionsFit}
use Rattle.potential_certificate.specs.HasText.{IsCellValue, IsCellWord}
use Rattle.potential_certificate.specs.Reading.{in_match}
use Rattle.potential_certificate.specs.declared.proof_line.ProofLine.{ProofLine}
use Rattle.potential_certificate.specs.declared.proof_line.ProofLine.TheVariants.{Missing, Layer, Piece, End}
use Rattle.potential_certificate.proofs.ProofLines.{FitsLine, line_text}

-- ---- the lines of a proof

short_has_no_end : (n : ℕ) → n < 2 ^ 32 → HasNoEnd (decimal n)
short_has_no_end n fits = number_has_no_end n (omega (arith, fits))

pub trace_has_one_end : (id : ℕ) → id < 2 ^ 32 → HasOneEnd (trace_line id)
trace_has_one_end id fits = line_has_one_end (codes "trace") (decimal id ∷ []) refl (short_has_no_end id fits, tt)

numbers_have_no_end : (numbers : List ℕ) → AllByRecursion (λ n. n < 2 ^ 32) numbers → AllByRecursion HasNoEnd (map decimal numbers)
numbers_have_no_end [] fit = tt
numbers_have_no_end (n ∷ ns) fit = (short_has_no_end n fit.0, numbers_have_no_end ns fit.1)

piece_has_one_end : (piece : Routed) → PieceFits piece → HasOneEnd (piece_line piece)
piece_has_one_end piece fits =
    line_has_one_end (codes "piece") (decimal piece.first ∷ decimal piece.last ∷ codes "cost" ∷ decimal piece.cost ∷ codes "route" ∷ map decimal piece.route) refl (short_has_no_end piece.first fits.first, (short_has_no_end piece.last fits.last, (refl, (number_has_no_end piece.cost fits.cost, (refl, numbers_have_no_end piece.route fits.route)))))

cell_has_no_end : (cost pointer : Option ℕ) → IsCellWord cost pointer → HasNoEnd (cost_word cost pointer)
cell_has_no_end None pointer fits = refl
cell_has_no_end (Some cost) None fits = omega (arith, line_count-append (decimal cost) [], number_has_no_end cost fits.0)
cell_has_no_end (Some cost) (Some rank) fits =
    omega (
      arith,
      line_count-append (decimal cost) (codes "<" ++ decimal rank),
      line_count-append (codes "<") (decimal rank),
      number_has_no_end cost fits.0,
      short_has_no_end rank fits.1,
    )

cells_have_no_end : (cells : List Cell) → AllByRecursion IsCellValue cells → AllByRecursion HasNoEnd (map cell_word cells)
cells_have_no_end [] fit = tt
cells_have_no_end (cell ∷ cells) fit = (cell_has_no_end cell.cost cell.«from» fit.0, cells_have_no_end cells fit.1)

pub proof_line_has_one_end : (place : Place) (line : ProofLine) → place.id < 2 ^ 32 → IsSound place → IsAllowed place (in_match line) → FitsLine line → HasOneEnd (line_text place line)
proof_line_has_one_end place Missing small sound allowed fits = line_has_one_end (codes "none") (decimal place.next ∷ []) refl (number_has_no_end place.next (omega (arith, sound.near)), tt)
proof_line_has_one_end place (Layer rank cells) small sound allowed fits =
    line_has_one_end (codes "layer") (decimal place.next ∷ codes "rank" ∷ decimal rank ∷ codes "cells" ∷ map cell_word cells) refl (number_has_no_end place.next (omega (arith, sound.near)), (refl, (number_has_no_end rank (omega (arith, fits.0, fits.1)), (refl, cells_have_no_end cells fits.2))))
proof_line_has_one_end place (Piece piece) small sound allowed fits = piece_has_one_end piece allowed.fits
proof_line_has_one_end place End small sound allowed fits = line_has_one_end (codes "end") (decimal place.id ∷ []) refl (short_has_no_end place.id small, tt)

-- ---- the last and the first line

pub last_has_one_end : (traces rows : ℕ) → traces < 2 ^ 64 → rows < 2 ^ 64 → HasOneEnd (last_line traces rows)
last_has_one_end traces rows few fits =
    line_has_one_end (codes "certified") (codes "traces" ∷ decimal traces ∷ codes "rows" ∷ decimal rows ∷ []) refl (refl, (number_has_no_end traces few, (refl, (number_has_no_end rows fits, tt))))

back_has_no_end : (p : Params) → OptionsFit p → AllByRecursion HasNoEnd (back_words p)
back_has_no_end p fit = by_form (form p == 1)
  where
    by_form : (is : Bool) → AllByRecursion HasNoEnd (if is then [] else codes "back" ∷ decimal p.back ∷ [])
    by_form true = tt
    by_form false = (refl, (short_has_no_end p.back fit.back, tt))

gap_has_no_end : (p : Params) → OptionsFit p → AllByRecursion HasNoEnd (gap_words p)
gap_has_no_end p fit = by_form (form p == 3)
  where
    by_form : (is : Bool) → AllByRecursion HasNoEnd (if is then codes "gap" ∷ decimal p.gap ∷ [] else [])
    by_form true = (refl, (short_has_no_end p.gap fit.gap, tt))
    by_form false = tt

both_have_no_end : (words others : List (List ℕ)) → AllByRecursion HasNoEnd words → AllByRecursion HasNoEnd others → AllByRecursion HasNoEnd (words ++ others)
both_have_no_end [] others first second = second
both_have_no_end (word ∷ words) others first second = (first.0, both_have_no_end words others first.1 second)

options_have_no_end : (p : Params) → OptionsFit p → AllByRecursion HasNoEnd (certificate_option_words p)
options_have_no_end p fit = (refl, (short_has_no_end p.k fit.k, (refl, (short_has_no_end p.radius fit.radius, (refl, (short_has_no_end p.sigma fit.sigma, (refl, (short_has_no_end p.beta fit.beta, (refl, (short_has_no_end p.bound fit.bound, tt))))))))))

form_small : (p : Params) → form p < 2 ^ 64
form_small p = by_cases (p.gap == 2 ^ 32 - 1) (p.back == 0)
  where
    by_cases : (a b : Bool) → (if a then (if b then 1 else 2) else 3) < 2 ^ 64
    by_cases true true = omega arith
    by_cases true false = omega arith
    by_cases false b = omega arith

pub first_has_one_end : (p : Params) → OptionsFit p → HasOneEnd (certificate_first_line p)
first_has_one_end p fit =
    line_has_one_end (codes "fmm-certificate") (decimal (form p) ∷ certificate_option_words p ++ back_words p ++ gap_words p) refl (
      number_has_no_end (form p) (form_small p),
      both_have_no_end (certificate_option_words p) (back_words p ++ gap_words p) (options_have_no_end p fit) (both_have_no_end (back_words p) (gap_words p) (back_has_no_end p fit) (gap_has_no_end p fit)),
    )
