-- Lines that are written one after the other.
use Rattle.std.proofs.Common.{◌≡◌, ℕ, List, [], ◌∷◌, ◌++◌, map, refl, ap, sym, ◌∙◌, append_assoc}
use Rattle.std.specs.List.{concat}
use Rattle.std.proofs.lemmas.List.{append-nil}
use Rattle.decimal_text.specs.Number.{decimal}
use Rattle.match_text.specs.declared.matched.Routed.{Routed}
use Rattle.match_text.specs.declared.matched.MatchedTrace.{MatchedTrace}
use Rattle.match_text.specs.MatchText.{words_after, piece_line, trace_line, end_line, point_lines, text_of}
use Rattle.match_text.specs.inside.Parts.{piece_head, numbers_text}

pub concat-append : (xs ys : List (List ℕ)) → concat (xs ++ ys) ≡ concat xs ++ concat ys
concat-append [] ys = refl
concat-append (x ∷ xs) ys = ap (λ (t : List ℕ). x ++ t) (concat-append xs ys) ∙ sym (append_assoc x (concat xs) (concat ys))

pub words_after-numbers : (ns : List ℕ) → words_after (map decimal ns) ≡ numbers_text ns ++ 10 ∷ []
words_after-numbers [] = refl
words_after-numbers (n ∷ ns) = ap (λ (t : List ℕ). 32 ∷ (decimal n ++ t)) (words_after-numbers ns) ∙ sym (append_assoc (32 ∷ decimal n) (numbers_text ns) (10 ∷ []))

pub piece_line_is : (p : Routed) → piece_line p ≡ piece_head p ++ (numbers_text p.route ++ 10 ∷ [])
piece_line_is p = rw words_after-numbers (sym (simp append_assoc))

pub piece_written : (p : Routed) (old one two three : List ℕ) → one ≡ old ++ piece_head p → two ≡ one ++ numbers_text p.route → three ≡ two ++ 10 ∷ [] → three ≡ old ++ piece_line p
piece_written p old one two three a b c =
    c ∙ ap (λ (t : List ℕ). t ++ 10 ∷ []) (b ∙ ap (λ (t : List ℕ). t ++ numbers_text p.route) a)
    ∙ ap (λ (t : List ℕ). t ++ 10 ∷ []) (append_assoc old (piece_head p) (numbers_text p.route)) ∙ append_assoc old (piece_head p ++ numbers_text p.route) (10 ∷ [])
    ∙ ap (λ (t : List ℕ). old ++ t) (append_assoc (piece_head p) (numbers_text p.route) (10 ∷ []) ∙ sym (piece_line_is p))

pub text_written : (m : MatchedTrace) (old one two three : List ℕ) → one ≡ old ++ trace_line m.id → two ≡ one ++ concat (point_lines 0 m.labels m.pieces) → three ≡ two ++ end_line m.id → three ≡ old ++ text_of m
text_written m old one two three a b c =
    let points = concat (point_lines 0 m.labels m.pieces) in
    let last : concat (point_lines 0 m.labels m.pieces ++ end_line m.id ∷ []) ≡ points ++ end_line m.id = concat-append (point_lines 0 m.labels m.pieces) (end_line m.id ∷ []) ∙ ap (λ (t : List ℕ). points ++ t) (append-nil (end_line m.id)) in
    c ∙ ap (λ (t : List ℕ). t ++ end_line m.id) (b ∙ ap (λ (t : List ℕ). t ++ points) a ∙ append_assoc old (trace_line m.id) points)
    ∙ append_assoc old (trace_line m.id ++ points) (end_line m.id) ∙ ap (λ (t : List ℕ). old ++ t) (append_assoc (trace_line m.id) points (end_line m.id) ∙ ap (λ (t : List ℕ). trace_line m.id ++ t) (sym last))
