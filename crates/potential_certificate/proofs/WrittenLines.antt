-- Lines that are written part by part.
use Rattle.std.proofs.Common.{◌≡◌, ℕ, zero, suc, ◌+◌, ◌<◌, ◌≤◌, get_or, List, [], ◌∷◌, ◌++◌, length, take, drop, map, Option, None, refl, sym, ap, ◌∙◌, append_assoc, arith, length-append}
use Rattle.std.specs.Prelude.{codes, slice_get}
use Rattle.std.specs.List.{concat, flat_map}
use Rattle.cost_model.specs.declared.params.Params.{Params}
use Rattle.decimal_text.specs.Number.{decimal}
use Rattle.match_text.specs.MatchText.{words_after}
use Rattle.match_text.specs.declared.matched.Routed.{Routed}
use Rattle.matching.specs.declared.parts.Cell.{Cell}
use Rattle.potential_certificate.specs.CertificateText.{back_words, cell_word, certificate_first_line, form, gap_words, layer_line, certificate_option_words, position_lines}
use Rattle.potential_certificate.specs.inside.Words.{cells_text, words_text}

abbrev lf : List ℕ
lf = 10 ∷ []

words_end : (words : List (List ℕ)) → words_after words ≡ words_text words ++ lf
words_end [] = refl
words_end (word ∷ words) = ap (λ (t : List ℕ). 32 ∷ (word ++ t)) (words_end words) ∙ sym (append_assoc (32 ∷ word) (words_text words) lf)

words_both : (words others : List (List ℕ)) → words_text (words ++ others) ≡ words_text words ++ words_text others
words_both [] others = refl
words_both (word ∷ words) others = ap (λ (t : List ℕ). 32 ∷ (word ++ t)) (words_both words others) ∙ sym (append_assoc (32 ∷ word) (words_text words) (words_text others))

regroup : (old word number o k g : List ℕ) → (((((old ++ word) ++ number) ++ o) ++ k) ++ g) ++ lf ≡ old ++ (word ++ (number ++ ((o ++ (k ++ g)) ++ lf)))
regroup old word number o k g = simp append_assoc

pub first_written : (p : Params) (old a b c d e new : List ℕ)
    → a ≡ old ++ codes "fmm-certificate" → b ≡ a ++ (codes " " ++ decimal (form p)) → c ≡ b ++ words_text (certificate_option_words p) → d ≡ c ++ words_text (back_words p)
    → e ≡ d ++ words_text (gap_words p) → new ≡ e ++ lf → new ≡ old ++ certificate_first_line p
first_written p old a b c d e new first second third fourth fifth last =
    let o = words_text (certificate_option_words p) in
    let k = words_text (back_words p) in
    let g = words_text (gap_words p) in
    let number = codes " " ++ decimal (form p) in
    let tail : words_after (certificate_option_words p ++ (back_words p ++ gap_words p)) ≡ (o ++ (k ++ g)) ++ lf =
    words_end (certificate_option_words p ++ (back_words p ++ gap_words p))
    ∙ ap (λ (t : List ℕ). t ++ lf) (words_both (certificate_option_words p) (back_words p ++ gap_words p) ∙ ap (λ (t : List ℕ). o ++ t) (words_both (back_words p) (gap_words p))) in
    last
    ∙ ap (λ (t : List ℕ). t ++ lf)
    (fifth ∙ ap (λ (t : List ℕ). t ++ g) (fourth ∙ ap (λ (t : List ℕ). t ++ k) (third ∙ ap (λ (t : List ℕ). t ++ o) (second ∙ ap (λ (t : List ℕ). t ++ number) first))))
    ∙ regroup old (codes "fmm-certificate") number o k g
    ∙ ap (λ (t : List ℕ). old ++ (codes "fmm-certificate" ++ (number ++ t))) (sym tail)

-- ---- a layer

cells_words : (cells : List Cell) → words_after (map cell_word cells) ≡ cells_text cells ++ lf
cells_words [] = refl
cells_words (cell ∷ cells) = ap (λ (t : List ℕ). 32 ∷ (cell_word cell ++ t)) (cells_words cells) ∙ sym (append_assoc (32 ∷ cell_word cell) (cells_text cells) lf)

layer_group : (old i rank cells_part all : List ℕ) → (((old ++ i) ++ rank) ++ cells_part) ++ (all ++ lf) ≡ old ++ (i ++ (rank ++ (cells_part ++ (all ++ lf))))
layer_group old i rank cells_part all = simp append_assoc

pub layer_written : (i rank : ℕ) (cells : List Cell) (old a b c d new : List ℕ)
    → a ≡ old ++ (codes "layer " ++ decimal i) → b ≡ a ++ (codes " rank " ++ decimal rank) → c ≡ b ++ codes " cells" → d ≡ c ++ cells_text cells → new ≡ d ++ lf → new ≡ old ++ layer_line i rank cells
layer_written i rank cells old a b c d new first second third fourth last =
    last ∙ ap (λ (t : List ℕ). t ++ lf) fourth ∙ append_assoc c (cells_text cells) lf
    ∙ ap (λ (t : List ℕ). t ++ (cells_text cells ++ lf))
    (third ∙ ap (λ (t : List ℕ). t ++ codes " cells") (second ∙ ap (λ (t : List ℕ). t ++ (codes " rank " ++ decimal rank)) first))
    ∙ layer_group old (codes "layer " ++ decimal i) (codes " rank " ++ decimal rank) (codes " cells") (cells_text cells)
    ∙ append_tail
  where
    append_tail : old ++ ((codes "layer " ++ decimal i) ++ ((codes " rank " ++ decimal rank) ++ (codes " cells" ++ (cells_text cells ++ lf)))) ≡ old ++ layer_line i rank cells
    append_tail =
        ap (λ (t : List ℕ). old ++ t) (append_assoc (codes "layer ") (decimal i) ((codes " rank " ++ decimal rank) ++ (codes " cells" ++ (cells_text cells ++ lf))))
        ∙ ap (λ (t : List ℕ). old ++ (codes "layer " ++ (decimal i ++ t))) (append_assoc (codes " rank ") (decimal rank) (codes " cells" ++ (cells_text cells ++ lf)))
        ∙ ap (λ (t : List ℕ). old ++ (codes "layer " ++ (decimal i ++ (codes " rank " ++ (decimal rank ++ (codes " cells" ++ t)))))) (sym (cells_words cells))

-- ---- some of the lines are no longer than all

part_shorter : {X : Type 0} (f : X → List ℕ) (xs : List X) (x : X) (i : ℕ) → i < length xs → x ≡ get_or xs i x → length (flat_map f (take i xs)) + length (f x) ≤ length (flat_map f xs)
part_shorter f [] x i below is = absurd (omega (arith, below))
part_shorter f (y ∷ ys) x zero below is = omega (arith, ap (λ z. length (f z)) is, length-append (f y) (flat_map f ys))
part_shorter f (y ∷ ys) x (suc i) below is =
    omega (arith, part_shorter f ys x i (omega (arith, below)) is, length-append (f y) (flat_map f (take i ys)), length-append (f y) (flat_map f ys))

-- a part that is too long is a part of a text that is too long
pub long_part : {X : Type 0} (f : X → List ℕ) (xs : List X) (x : X) (i most : ℕ) (old before new : List ℕ) → i < length xs → x ≡ get_or xs i x
    → before ≡ old ++ flat_map f (take i xs) → new ≡ before ++ f x → most < length new → most < length (old ++ flat_map f xs)
long_part f xs x i most old before new below is before_is new_is long =
    omega (
      arith,
      long,
      ap length before_is,
      ap length new_is,
      length-append before (f x),
      length-append old (flat_map f (take i xs)),
      length-append old (flat_map f xs),
      part_shorter f xs x i below is,
    )

-- ---- points of which no table is left

no_more : {X : Type 0} (xs : List X) (i : ℕ) → slice_get xs i ≡ None → drop i xs ≡ []
no_more [] zero none = refl
no_more [] (suc i) none = refl
no_more (x ∷ xs) zero none = absurd cc
no_more (x ∷ xs) (suc i) none = no_more xs i none

pub no_lines : (i : ℕ) (ranks : List (Option ℕ)) (tables : List (List Cell)) (pieces : List Routed) (n : ℕ) → slice_get tables n ≡ None → concat (position_lines i ranks (drop n tables) pieces) ≡ []
no_lines i ranks tables pieces n none = rw (no_more tables n none) (by_ranks ranks)
  where
    by_ranks : (rs : List (Option ℕ)) → concat (position_lines i rs [] pieces) ≡ []
    by_ranks [] = refl
    by_ranks (r ∷ rs) = refl
