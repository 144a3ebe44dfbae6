-- A cell and its word.
use Rattle.std.proofs.Common.{◌≡◌, ℕ, ◌-◌, ◌^◌, ◌<◌, ◌≤◌, inl, inr, get_or, List, [], ◌∷◌, ◌++◌, length, Option, Some, None, refl, sym, ap, subst, ◌∙◌, append_assoc, arith, length-append}
use Rattle.std.specs.Prelude.{codes}
use Rattle.std.specs.Option.{IfSome, option_map}
use Rattle.std.proofs.lemmas.Bool.{ne_eqb}
use Rattle.std.proofs.lemmas.Option.{none-some, some_pair_parts}
use Rattle.decimal_text.specs.Number.{decimal}
use Rattle.decimal_text.proofs.Laws.{digit_in-decimal, length-decimal}
use Rattle.match_text.specs.Reading.{after_bytes, most32, number_after, number_at}
use Rattle.match_text.proofs.Fields.{EndsDigits, after_takes, bind_found, bind_some, number_after_again, number_after_takes, number_again, number_takes}
use Rattle.matching.specs.Cells.{empty_cell}
use Rattle.matching.specs.declared.parts.Cell.{Cell}
use Rattle.potential_certificate.specs.CertificateText.{cell_word, cost_word, pointer_word}
use Rattle.potential_certificate.specs.HasText.{IsCellValue, IsCellWord}
use Rattle.potential_certificate.specs.Reading.{cell_at_front, cost_at, empty_or_cost, pointer_at, pointer_behind}
use Rattle.potential_certificate.proofs.WordsOfLine.{EndsWord, ReadsWord}

-- a word that ends does not go on with a digit or with `<`
word_ends_digits : (rest : List ℕ) → EndsWord rest → EndsDigits rest
word_ends_digits [] ends = absurd ends
word_ends_digits (b ∷ bs) ends = elim ends [ inl e ↦ rw e refl | inr e ↦ rw e refl ]

no_pointer : (rest : List ℕ) → EndsWord rest → after_bytes (codes "<") rest ≡ None
no_pointer [] ends = absurd ends
no_pointer (b ∷ bs) ends = elim ends [ inl e ↦ rw e refl | inr e ↦ rw e refl ]

-- ---- the rank of the point before

abbrev PointerFits : Option ℕ → Type 0
PointerFits pointer = IfSome pointer (λ rank. rank < 2 ^ 32)

pointer_again : (pointer : Option ℕ) (rest : List ℕ) → PointerFits pointer → EndsWord rest → pointer_at (pointer_word pointer ++ rest) ≡ Some (pointer, rest)
pointer_again None rest fits ends = ap (pointer_behind rest) (no_pointer rest ends)
pointer_again (Some rank) rest fits ends =
    ap (option_map (λ (x : ℕ × List ℕ). let y : Option ℕ × List ℕ = (Some x.0, x.1) in y)) (number_again most32 rank rest (omega (arith, fits)) (omega arith) (word_ends_digits rest ends))

-- the text behind a cost does not begin with a digit
pointer_ends : (pointer : Option ℕ) (rest : List ℕ) → EndsWord rest → EndsDigits (pointer_word pointer ++ rest)
pointer_ends None rest ends = word_ends_digits rest ends
pointer_ends (Some rank) rest ends = refl

record PointerTaken (text : List ℕ) (pointer : Option ℕ) (rest : List ℕ) : Type 0 where
  pub text_is : text ≡ pointer_word pointer ++ rest
  pub fits : PointerFits pointer

pointer_takes : (text : List ℕ) (pointer : Option ℕ) (rest : List ℕ) → pointer_at text ≡ Some (pointer, rest) → PointerTaken text pointer rest
pointer_takes text pointer rest e = by_sign (after_bytes (codes "<") text) refl e
  where
    by_number : (behind : List ℕ) → after_bytes (codes "<") text ≡ Some behind → (number : Option (ℕ × List ℕ)) → number_at most32 behind ≡ number
        → option_map (λ x. let y : Option ℕ × List ℕ = (Some x.0, x.1) in y) number ≡ Some (pointer, rest) → PointerTaken text pointer rest
    by_number behind sign None is e = absurd (none-some (pointer, rest) e)
    by_number behind sign (Some x) is e =
        let parts = some_pair_parts (Some x.0) pointer x.1 rest e in
        let taken = number_takes most32 x.0 behind x.1 (omega arith) is in
        subst (λ (y : Option ℕ × List ℕ). PointerTaken text y.0 y.1) (λ i. (parts.0 i, parts.1 i))
        (record { text_is = after_takes (codes "<") text behind sign ∙ ap (λ (t : List ℕ). codes "<" ++ t) taken.0; fits = omega (arith, taken.1) })

    by_sign : (sign : Option (List ℕ)) → after_bytes (codes "<") text ≡ sign → pointer_behind text sign ≡ Some (pointer, rest) → PointerTaken text pointer rest
    by_sign None is e =
        let parts = some_pair_parts None pointer text rest e in
        subst (λ (y : Option ℕ × List ℕ). PointerTaken text y.0 y.1) (λ i. (parts.0 i, parts.1 i)) (record { text_is = refl; fits = tt })
    by_sign (Some behind) is e = by_number behind is (number_at most32 behind) refl e

-- ---- a cell

not_minus : (n : ℕ) (rest : List ℕ) → n < 2 ^ 64 → after_bytes (codes " -") (32 ∷ (decimal n ++ rest)) ≡ None
not_minus n rest small = by_digits (decimal n) (length-decimal n small).0 (digit_in-decimal n 0 small (length-decimal n small).0).0
  where
    by_digits : (digits : List ℕ) → 1 ≤ length digits → 48 ≤ get_or digits 0 0 → after_bytes (codes " -") (32 ∷ (digits ++ rest)) ≡ None
    by_digits [] some first = absurd (omega (arith, some))
    by_digits (d ∷ ds) some first = rw (ne_eqb 45 d (omega (arith, first))) refl

abbrev cell_with : Option ℕ → Option ℕ → Cell
cell_with cost pointer = record { cost = cost; «from» = pointer }

cell_again_of : (cost pointer : Option ℕ) (rest : List ℕ) → IsCellWord cost pointer → EndsWord rest → cell_at_front (32 ∷ (cost_word cost pointer ++ rest)) ≡ Some (cell_with cost pointer, rest)
unfolding cell_at_front cost_at
cell_again_of None pointer rest fits ends = ap (λ (x : Option ℕ). Some (cell_with None x, rest)) (sym fits)
cell_again_of (Some cost) pointer rest fits ends =
    let behind = pointer_word pointer ++ rest in
    let text_is : 32 ∷ (cost_word (Some cost) pointer ++ rest) ≡ codes " " ++ (decimal cost ++ behind) = ap (λ (t : List ℕ). 32 ∷ t) (append_assoc (decimal cost) (pointer_word pointer) rest) in
    ap cell_at_front text_is
    ∙ ap (empty_or_cost (codes " " ++ (decimal cost ++ behind))) (not_minus cost behind fits.0)
    ∙ bind_some _ _ (cost, behind) (number_after_again (codes " ") (2 ^ 64 - 1) cost behind (omega (arith, fits.0)) (omega arith) (pointer_ends pointer rest ends))
    ∙ bind_some _ _ (pointer, rest) (pointer_again pointer rest fits.1 ends)

abbrev CellTaken : List ℕ → Cell → List ℕ → Type 0
CellTaken text cell rest = IsCellValue cell × (text ≡ 32 ∷ (cell_word cell ++ rest))

cell_takes : (text : List ℕ) (cell : Cell) (rest : List ℕ) → cell_at_front text ≡ Some (cell, rest) → IsCellValue cell × (text ≡ 32 ∷ (cell_word cell ++ rest))
unfolding cell_at_front cost_at
cell_takes text cell rest e = by_minus (after_bytes (codes " -") text) refl e
  where
    by_minus : (minus : Option (List ℕ)) → after_bytes (codes " -") text ≡ minus → empty_or_cost text minus ≡ Some (cell, rest) → CellTaken text cell rest
    by_minus (Some behind) is e =
        let parts = some_pair_parts empty_cell cell behind rest e in
        subst (λ (y : Cell × List ℕ). CellTaken text y.0 y.1) (λ i. (parts.0 i, parts.1 i)) (refl, after_takes (codes " -") text behind is)
    by_minus None is e =
        let cost = bind_found (number_after (codes " ") (2 ^ 64 - 1) text) _ (cell, rest) e in
        let pointer = bind_found (pointer_at cost.0.1) _ (cell, rest) cost.2 in
        let found = cell_with (Some cost.0.0) pointer.0.0 in
        let parts = some_pair_parts found cell pointer.0.1 rest pointer.2 in
        let first = number_after_takes (codes " ") (2 ^ 64 - 1) cost.0.0 text cost.0.1 (omega arith) cost.1 in
        let second = pointer_takes cost.0.1 pointer.0.0 pointer.0.1 pointer.1 in
        let text_is : text ≡ 32 ∷ (cell_word found ++ pointer.0.1) =
        first.0 ∙ ap (λ (t : List ℕ). codes " " ++ (decimal cost.0.0 ++ t)) second.text_is
        ∙ ap (λ (t : List ℕ). 32 ∷ t) (sym (append_assoc (decimal cost.0.0) (pointer_word pointer.0.0) pointer.0.1)) in
        let fits : IsCellValue found = (omega (arith, first.1), second.fits) in
        subst (λ (y : Cell × List ℕ). CellTaken text y.0 y.1) (λ i. (parts.0 i, parts.1 i)) (fits, text_is)

no_cell : (rest : List ℕ) → cell_at_front (10 ∷ rest) ≡ None
unfolding cell_at_front cost_at number_after
no_cell rest = refl

pub reads_cell : ReadsWord cell_at_front cell_word IsCellValue
reads_cell = record {
  again = λ cell rest fits ends. cell_again_of cell.cost cell.«from» rest fits ends;
  takes = cell_takes;
  stops = no_cell;
}

pub cell_goes_down : (text : List ℕ) (cell : Cell) (rest : List ℕ) → cell_at_front text ≡ Some (cell, rest) → length rest < length text
cell_goes_down text cell rest e = omega (arith, ap length (cell_takes text cell rest e).1, length-append (cell_word cell) rest)

-- ---- an edge of a route

edge_takes : (text : List ℕ) (edge : ℕ) (rest : List ℕ) → number_after (codes " ") most32 text ≡ Some (edge, rest) → (edge < 2 ^ 32) × (text ≡ 32 ∷ (decimal edge ++ rest))
edge_takes text edge rest e = let taken = number_after_takes (codes " ") most32 edge text rest (omega arith) e in (omega (arith, taken.1), taken.0)

no_edge : (rest : List ℕ) → number_after (codes " ") most32 (10 ∷ rest) ≡ None
unfolding number_after
no_edge rest = refl

pub reads_edge : ReadsWord (number_after (codes " ") most32) decimal (λ edge. edge < 2 ^ 32)
reads_edge = record {
  again = λ edge rest fits ends. number_after_again (codes " ") most32 edge rest (omega (arith, fits)) (omega arith) (word_ends_digits rest ends);
  takes = edge_takes;
  stops = no_edge;
}
