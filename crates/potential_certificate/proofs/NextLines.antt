-- A line of a proof at the front of a text: it is read again, the text grows shorter, and what the code reads.
use Rattle.std.proofs.Common.{◌≡◌, ℕ, ◌^◌, ◌<◌, false, eqb, List, [], ◌∷◌, ◌++◌, length, map, Option, Some, None, refl, ap, ◌∙◌, arith, length-append}
use Rattle.std.specs.Prelude.{codes}
use Rattle.std.specs.Option.{option_map, option_or}
use Rattle.std.proofs.lemmas.Option.{same_Some}
use Rattle.decimal_text.specs.Number.{decimal}
use Rattle.match_text.specs.Grammar.{EndsPiece, IsAllowed, ReadsPiece}
use Rattle.match_text.specs.MatchText.{piece_line, words_after}
use Rattle.match_text.specs.PieceHead.{head_at}
use Rattle.match_text.specs.Reading.{end_at, none_at, number_after, numbered_at}
use Rattle.match_text.specs.declared.matched.Routed.{Routed}
use Rattle.match_text.specs.declared.place.Line.{Line}
use Rattle.match_text.specs.declared.place.Place.{Place}
use Rattle.match_text.proofs.Lines.{end_again, none_again}
use Rattle.potential_certificate.specs.CertificateText.{cell_word}
use Rattle.potential_certificate.specs.Reading.{in_match, layer_at, line_at, piece_at_front, ranked_at}
use Rattle.potential_certificate.specs.declared.proof_line.ProofLine.{ProofLine}
use Rattle.potential_certificate.specs.declared.proof_line.ProofLine.TheVariants.{Missing, Layer, Piece, End}
use Rattle.potential_certificate.proofs.ProofLines.{layer_again, line_text, FitsLine, piece_reads, same_reads, as_missing, as_end, as_piece, line_takes}

-- a line does not begin as one of another kind
not_missing : (place : Place) (b : ℕ) (rest : List ℕ) → eqb 110 b ≡ false → none_at place (b ∷ rest) ≡ None
unfolding none_at numbered_at number_after
not_missing place b rest other = rw other refl

not_layer : (place : Place) (b : ℕ) (rest : List ℕ) → eqb 108 b ≡ false → layer_at place (b ∷ rest) ≡ None
unfolding layer_at ranked_at numbered_at number_after
not_layer place b rest other = rw other refl

not_piece : (place : Place) (b : ℕ) (rest : List ℕ) → eqb 112 b ≡ false → piece_at_front place (b ∷ rest) ≡ None
unfolding piece_at_front head_at number_after
not_piece place b rest other = rw other refl

abbrev others_of : Place → List ℕ → Option (ProofLine × List ℕ)
others_of place text = option_or (layer_at place text) (option_or (option_map as_piece (piece_at_front place text)) (option_map as_end (end_at place text)))

abbrev pieces_of_text : Place → List ℕ → Option (ProofLine × List ℕ)
pieces_of_text place text = option_or (option_map as_piece (piece_at_front place text)) (option_map as_end (end_at place text))

past_missing : (place : Place) (b : ℕ) (rest : List ℕ) → eqb 110 b ≡ false → line_at place (b ∷ rest) ≡ others_of place (b ∷ rest)
unfolding line_at
past_missing place b rest other = ap (λ (r : Option (Line × List ℕ)). option_or (option_map as_missing r) (others_of place (b ∷ rest))) (not_missing place b rest other)

past_layer : (place : Place) (b : ℕ) (rest : List ℕ) → eqb 110 b ≡ false → eqb 108 b ≡ false → line_at place (b ∷ rest) ≡ pieces_of_text place (b ∷ rest)
past_layer place b rest one two = past_missing place b rest one ∙ ap (λ (r : Option (ProofLine × List ℕ)). option_or r (pieces_of_text place (b ∷ rest))) (not_layer place b rest two)

pub line_again : (place : Place) (line : ProofLine) (rest : List ℕ) → place.id < 2 ^ 32 → IsAllowed place (in_match line) → FitsLine line → line_at place (line_text place line ++ rest) ≡ Some (line, rest)
unfolding line_at
line_again place Missing rest small allowed fits =
    ap (λ (r : Option (Line × List ℕ)). option_or (option_map as_missing r) (others_of place (line_text place Missing ++ rest))) (none_again place rest allowed)
line_again place (Layer rank cells) rest small allowed fits =
    past_missing place 108 _ refl ∙ ap (λ (r : Option (ProofLine × List ℕ)). option_or r (pieces_of_text place (line_text place (Layer rank cells) ++ rest))) (layer_again place rank cells rest allowed.0 fits)
line_again place (Piece piece) rest small allowed fits =
    past_layer place 112 _ refl refl ∙ ap (λ (r : Option (Routed × List ℕ)). option_or (option_map as_piece r) (option_map as_end (end_at place (line_text place (Piece piece) ++ rest)))) ((piece_reads place (piece_line piece ++ rest)).only piece rest allowed refl)
line_again place End rest small allowed fits =
    past_layer place 101 _ refl refl
    ∙ ap (λ (r : Option (Routed × List ℕ)). option_or (option_map as_piece r) (option_map as_end (end_at place (line_text place End ++ rest)))) (not_piece place 101 _ refl)
    ∙ ap (option_map as_end) (end_again place rest small allowed)

pub line_goes_down : (place : Place) (text : List ℕ) (line : ProofLine) (rest : List ℕ) → line_at place text ≡ Some (line, rest) → length rest < length text
line_goes_down place text line rest e = let taken = line_takes place text line rest e in shorter line taken.text_is
  where
    shorter : (l : ProofLine) → text ≡ line_text place l ++ rest → length rest < length text
    shorter Missing eq = omega (arith, ap length eq, length-append (words_after (decimal place.next ∷ [])) rest)
    shorter (Layer rank cells) eq = omega (arith, ap length eq, length-append (words_after (decimal place.next ∷ codes "rank" ∷ decimal rank ∷ codes "cells" ∷ map cell_word cells)) rest)
    shorter (Piece piece) eq = omega (arith, ap length eq, length-append (words_after (decimal piece.first ∷ decimal piece.last ∷ codes "cost" ∷ decimal piece.cost ∷ codes "route" ∷ map decimal piece.route)) rest)
    shorter End eq = omega (arith, ap length eq, length-append (words_after (decimal place.id ∷ [])) rest)

-- ---- the code of a read

abbrev behind_line : Option (Line × List ℕ) → Option (List ℕ)
behind_line read = option_map (λ (x : Line × List ℕ). x.1) read

abbrev first_of : Option (Line × List ℕ) → Option (ProofLine × List ℕ) → Option (Routed × List ℕ) → Option (Line × List ℕ) → Option (ProofLine × List ℕ)
first_of missing layer piece end = option_or (option_map as_missing missing) (option_or layer (option_or (option_map as_piece piece) (option_map as_end end)))

line_is : (place : Place) (text : List ℕ) → first_of (none_at place text) (layer_at place text) (piece_at_front place text) (end_at place text) ≡ line_at place text
unfolding line_at
line_is place text = refl

missing_first : (m : Option (Line × List ℕ)) (l : Option (ProofLine × List ℕ)) (p : Option (Routed × List ℕ)) (e : Option (Line × List ℕ)) (rest : List ℕ) → Some rest ≡ behind_line m → Some (Missing, rest) ≡ first_of m l p e
missing_first None l p e rest is = absurd cc
missing_first (Some x) l p e rest is = ap (λ (t : List ℕ). let y : Option (ProofLine × List ℕ) = Some (Missing, t) in y) (same_Some rest x.1 is)

layer_first : (m : Option (Line × List ℕ)) (l : Option (ProofLine × List ℕ)) (p : Option (Routed × List ℕ)) (e : Option (Line × List ℕ)) (read : ProofLine × List ℕ) → None ≡ behind_line m → Some read ≡ l → Some read ≡ first_of m l p e
layer_first (Some x) l p e read none is = absurd cc
layer_first None None p e read none is = absurd cc
layer_first None (Some x) p e read none is = is

piece_first : (m : Option (Line × List ℕ)) (l : Option (ProofLine × List ℕ)) (p : Option (Routed × List ℕ)) (e : Option (Line × List ℕ)) (piece : Routed) (rest : List ℕ)
    → None ≡ behind_line m → None ≡ l → Some (piece, rest) ≡ p → Some (Piece piece, rest) ≡ first_of m l p e
piece_first (Some x) l p e piece rest none no_layer is = absurd cc
piece_first None (Some x) p e piece rest none no_layer is = absurd cc
piece_first None None p e piece rest none no_layer is = ap (λ (r : Option (Routed × List ℕ)). option_or (option_map as_piece r) (option_map as_end e)) is

end_first : (m : Option (Line × List ℕ)) (l : Option (ProofLine × List ℕ)) (p : Option (Routed × List ℕ)) (e : Option (Line × List ℕ)) (rest : List ℕ)
    → None ≡ behind_line m → None ≡ l → None ≡ p → Some rest ≡ behind_line e → Some (End, rest) ≡ first_of m l p e
end_first (Some x) l p e rest none no_layer no_piece is = absurd cc
end_first None (Some x) p e rest none no_layer no_piece is = absurd cc
end_first None None (Some x) e rest none no_layer no_piece is = absurd cc
end_first None None None None rest none no_layer no_piece is = absurd cc
end_first None None None (Some x) rest none no_layer no_piece is = ap (λ (t : List ℕ). let y : Option (ProofLine × List ℕ) = Some (End, t) in y) (same_Some rest x.1 is)

no_first : (m : Option (Line × List ℕ)) (l : Option (ProofLine × List ℕ)) (p : Option (Routed × List ℕ)) (e : Option (Line × List ℕ)) → None ≡ behind_line m → None ≡ l → None ≡ p → None ≡ behind_line e → None ≡ first_of m l p e
no_first (Some x) l p e none no_layer no_piece no_end = absurd cc
no_first None (Some x) p e none no_layer no_piece no_end = absurd cc
no_first None None (Some x) e none no_layer no_piece no_end = absurd cc
no_first None None None (Some x) none no_layer no_piece no_end = absurd cc
no_first None None None None none no_layer no_piece no_end = refl

pub next_missing : (place : Place) (text rest : List ℕ) → Some rest ≡ behind_line (none_at place text) → Some (Missing, rest) ≡ line_at place text
next_missing place text rest is = missing_first (none_at place text) (layer_at place text) (piece_at_front place text) (end_at place text) rest is ∙ line_is place text

pub next_layer : (place : Place) (text : List ℕ) (read : ProofLine × List ℕ) → None ≡ behind_line (none_at place text) → Some read ≡ layer_at place text → Some read ≡ line_at place text
next_layer place text read none is = layer_first (none_at place text) (layer_at place text) (piece_at_front place text) (end_at place text) read none is ∙ line_is place text

piece_is : (place : Place) (text : List ℕ) (read : Option (Routed × List ℕ)) → ReadsPiece place text read → read ≡ piece_at_front place text
piece_is place text read reads = same_reads (EndsPiece place) piece_line text read (piece_at_front place text) reads (piece_reads place text)

pub next_piece : (place : Place) (text : List ℕ) (piece : Routed) (rest : List ℕ) → None ≡ behind_line (none_at place text) → None ≡ layer_at place text → ReadsPiece place text (Some (piece, rest)) → Some (Piece piece, rest) ≡ line_at place text
next_piece place text piece rest none no_layer reads =
    piece_first (none_at place text) (layer_at place text) (piece_at_front place text) (end_at place text) piece rest none no_layer (piece_is place text (Some (piece, rest)) reads) ∙ line_is place text

pub next_end : (place : Place) (text rest : List ℕ) → None ≡ behind_line (none_at place text) → None ≡ layer_at place text → ReadsPiece place text None → Some rest ≡ behind_line (end_at place text) → Some (End, rest) ≡ line_at place text
next_end place text rest none no_layer reads is =
    end_first (none_at place text) (layer_at place text) (piece_at_front place text) (end_at place text) rest none no_layer (piece_is place text None reads) is ∙ line_is place text

pub no_next : (place : Place) (text : List ℕ) → None ≡ behind_line (none_at place text) → None ≡ layer_at place text → ReadsPiece place text None → None ≡ behind_line (end_at place text) → None ≡ line_at place text
no_next place text none no_layer reads no_end =
    no_first (none_at place text) (layer_at place text) (piece_at_front place text) (end_at place text) none no_layer (piece_is place text None reads) no_end ∙ line_is place text
