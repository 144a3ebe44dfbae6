-- A line of a proof: what is read is what was written, and what was written is read again.
use Rattle.std.proofs.Common.{◌≡◌, ℕ, suc, ◌+◌, ◌^◌, ◌<◌, ◌≤◌, ◌⊎◌, inl, inr, Bool, true, false, cond, eqb, eq-eqb, ◌&&◌, ◌||◌, not, is_some, List, [], ◌∷◌, ◌++◌, length, map, Option, Some, None, refl, sym, ap, subst, ◌∙◌, append_assoc, arith, rules}
use Rattle.std.specs.Prelude.{codes, nat_lt, nat_le}
use Rattle.std.specs.List.{AllByRecursion}
use Rattle.std.specs.Option.{IfSome, option_map, option_or}
use Rattle.std.proofs.lemmas.Bool.{eqb-true, lt-ltb}
use Rattle.std.proofs.lemmas.Option.{none-some, same_Some, some_pair_parts}
use Rattle.decimal_text.specs.Number.{decimal}
use Rattle.match_text.specs.Grammar.{EndsPiece, IsAllowed, Reads, ReadsPiece, ReadsRoute}
use Rattle.match_text.specs.MatchText.{end_line, label_line, piece_line, words_after}
use Rattle.match_text.specs.PieceHead.{Head, head_at}
use Rattle.match_text.specs.Reading.{◌>>=◌, after_bytes, end_at, most32, none_at, number_after, numbered_at}
use Rattle.match_text.specs.declared.matched.Label.TheVariants.{Missing as NoRoad}
use Rattle.match_text.specs.declared.matched.Routed.{Routed}
use Rattle.match_text.specs.declared.place.Line.{Line}
use Rattle.match_text.specs.declared.place.Line.TheVariants.{Point, End as EndLine}
use Rattle.match_text.specs.declared.place.Place.{Place}
use Rattle.match_text.proofs.Fields.{EndsDigits, after_takes, bind_found, bind_some, number_after_again, number_after_takes, test_passed}
use Rattle.match_text.proofs.Lines.{Takes, end_takes, none_takes}
use Rattle.match_text.proofs.Pieces as pieces
use Rattle.matching.specs.declared.parts.Cell.{Cell}
use Rattle.potential_certificate.specs.CertificateText.{cell_word, layer_line}
use Rattle.potential_certificate.specs.HasText.{IsCellValue, IsPoint}
use Rattle.potential_certificate.specs.Reading.{all_words_at, cell_at_front, in_match, is_first, is_layer, is_open, layer_at, line_at, piece_at_front, routed_piece, piece_with, ranked_at}
use Rattle.potential_certificate.specs.declared.proof_line.ProofLine.{ProofLine}
use Rattle.potential_certificate.specs.declared.proof_line.ProofLine.TheVariants.{Missing, Layer, Piece, End}
use Rattle.potential_certificate.proofs.CellWords.{reads_cell, reads_edge}
use Rattle.potential_certificate.proofs.WordsOfLine.{words_again, words_line, words_take}

pub both : (a b : Bool) → a && b ≡ true → (a ≡ true) × (b ≡ true)
both true b h = (refl, h)
both false b h = absurd cc

-- ---- a layer

numbered_takes : (bytes : List ℕ) (next : ℕ) (text rest : List ℕ) → numbered_at bytes next text ≡ Some rest → (text ≡ bytes ++ (decimal next ++ rest)) × (next < 100000)
unfolding numbered_at
numbered_takes bytes next text rest e =
    let a = bind_found (number_after bytes 99999 text) (λ n. cond (eqb n.0 next) (Some n.1) None) rest e in
    let t = test_passed (eqb a.0.0 next) (Some a.0.1) rest a.2 in
    let same : a.0.0 ≡ next = eqb-true a.0.0 next t.0 in
    let after : a.0.1 ≡ rest = same_Some a.0.1 rest t.1 in
    let number = number_after_takes bytes 99999 a.0.0 text a.0.1 (omega arith) a.1 in
    (number.0 ∙ ap (λ (p : ℕ × List ℕ). bytes ++ (decimal p.0 ++ p.1)) (λ i. (same i, after i)), subst (λ (n : ℕ). n < 100000) same (omega (arith, number.1)))

numbered_again : (bytes : List ℕ) (next : ℕ) (rest : List ℕ) → next < 100000 → EndsDigits rest → numbered_at bytes next (bytes ++ (decimal next ++ rest)) ≡ Some rest
unfolding numbered_at
numbered_again bytes next rest small ends =
    bind_some (number_after bytes 99999 (bytes ++ (decimal next ++ rest))) (λ n. cond (eqb n.0 next) (Some n.1) None) (next, rest)
    (number_after_again bytes 99999 next rest (omega arith) (omega arith) ends)
    ∙ rw (eq-eqb next next refl) refl

abbrev ranked_text : ℕ → ℕ → List ℕ → List ℕ
ranked_text i rank words = codes "layer " ++ (decimal i ++ (codes " rank " ++ (decimal rank ++ (codes " cells" ++ words))))

ranked_again : (place : Place) (rank : ℕ) (words : List ℕ) → place.next < 100000 → rank < 2 ^ 32 → ranked_at place (ranked_text place.next rank words) ≡ Some (rank, words)
unfolding ranked_at
ranked_again place rank words near small =
    let at_cells = codes " cells" ++ words in
    let at_rank = codes " rank " ++ (decimal rank ++ at_cells) in
    bind_some _ _ at_rank (numbered_again (codes "layer ") place.next at_rank near refl)
    ∙ bind_some _ _ (rank, at_cells) (number_after_again (codes " rank ") most32 rank at_cells (omega arith) (omega arith) refl)

record RankTaken (place : Place) (text : List ℕ) (rank : ℕ) (words : List ℕ) : Type 0 where
  pub near : place.next < 100000
  pub small : rank < 2 ^ 32
  pub text_is : text ≡ ranked_text place.next rank words

ranked_takes : (place : Place) (text : List ℕ) (rank : ℕ) (words : List ℕ) → ranked_at place text ≡ Some (rank, words) → RankTaken place text rank words
unfolding ranked_at
ranked_takes place text rank words e =
    let point = bind_found (numbered_at (codes "layer ") place.next text) _ (rank, words) e in
    let number = bind_found (number_after (codes " rank ") most32 point.0) _ (rank, words) point.2 in
    let cells = bind_found (after_bytes (codes " cells") number.0.1) _ (rank, words) number.2 in
    let parts = some_pair_parts number.0.0 rank cells.0 words cells.2 in
    let first = numbered_takes (codes "layer ") place.next text point.0 point.1 in
    let second = number_after_takes (codes " rank ") most32 number.0.0 point.0 number.0.1 (omega arith) number.1 in
    let third = after_takes (codes " cells") number.0.1 cells.0 cells.1 in
    subst (λ (y : ℕ × List ℕ). RankTaken place text y.0 y.1) (λ i. (parts.0 i, parts.1 i))
    (record {
      near = first.1;
      small = omega (arith, second.1);
      text_is = first.0 ∙ ap (λ (t : List ℕ). codes "layer " ++ (decimal place.next ++ t))
          (second.0 ∙ ap (λ (t : List ℕ). codes " rank " ++ (decimal number.0.0 ++ t)) third);
    })

layer_parts : (i rank : ℕ) (cells : List Cell) (rest : List ℕ) → layer_line i rank cells ++ rest ≡ ranked_text i rank (words_line cell_word cells ++ rest)
layer_parts i rank cells rest = simp append_assoc

layer_test : (rank : ℕ) (cells : List Cell) → rank < length cells → length cells ≤ 32 → is_layer rank cells ≡ true
layer_test rank cells below few =
    let second : nat_le (length cells) 32 ≡ true = search (rules, few) in
    rw (lt-ltb rank (length cells) below) second

pub layer_again : (place : Place) (rank : ℕ) (cells : List Cell) (rest : List ℕ) → place.next < 100000 → IsPoint (Some rank) cells → layer_at place (layer_line place.next rank cells ++ rest) ≡ Some (Layer rank cells, rest)
unfolding layer_at
layer_again place rank cells rest near is =
    let words = words_line cell_word cells ++ rest in
    ap (layer_at place) (layer_parts place.next rank cells rest)
    ∙ bind_some _ _ (rank, words) (ranked_again place rank words near (omega (arith, is.0, is.1)))
    ∙ bind_some _ _ (cells, rest) (words_again cell_at_front cell_word IsCellValue reads_cell cells rest (length words + 1) is.2 (omega arith))
    ∙ rw (layer_test rank cells is.0 is.1) refl

-- the line as it is written there
abbrev pub line_text : Place → ProofLine → List ℕ
line_text place Missing = label_line place.next NoRoad
line_text place (Layer rank cells) = layer_line place.next rank cells
line_text place (Piece piece) = piece_line piece
line_text place End = end_line place.id

-- a layer has a rank and cells of a point
abbrev pub FitsLine : ProofLine → Type 0
FitsLine Missing = Unit {0}
FitsLine (Layer rank cells) = IsPoint (Some rank) cells
FitsLine (Piece piece) = Unit {0}
FitsLine End = Unit {0}

-- what was read of a line, and that it may stand there
pub record LineTaken (place : Place) (text : List ℕ) (line : ProofLine) (rest : List ℕ) : Type 0 where
  pub allowed : IsAllowed place (in_match line)
  pub fits : FitsLine line
  pub text_is : text ≡ line_text place line ++ rest

taken_is : (place : Place) (text : List ℕ) (found line : ProofLine) (behind rest : List ℕ) → (found ≡ line) × (behind ≡ rest) → LineTaken place text found behind → LineTaken place text line rest
taken_is place text found line behind rest same taken = subst (λ (y : ProofLine × List ℕ). LineTaken place text y.0 y.1) (λ i. (same.0 i, same.1 i)) taken

layer_takes : (place : Place) (text : List ℕ) (line : ProofLine) (rest : List ℕ) → layer_at place text ≡ Some (line, rest) → LineTaken place text line rest
unfolding layer_at
layer_takes place text line rest e =
    let head = bind_found (ranked_at place text) _ (line, rest) e in
    let cells = bind_found (all_words_at cell_at_front head.0.1) _ (line, rest) head.2 in
    let test = test_passed (is_layer head.0.0 cells.0.0) (Some (Layer head.0.0 cells.0.0, cells.0.1)) (line, rest) cells.2 in
    let tests = both (nat_lt head.0.0 (length cells.0.0)) (nat_le (length cells.0.0) 32) test.0 in
    let first = ranked_takes place text head.0.0 head.0.1 head.1 in
    let others = words_take cell_at_front cell_word IsCellValue reads_cell (length head.0.1 + 1) head.0.1 cells.0.0 cells.0.1 cells.1 in
    let below : head.0.0 < length cells.0.0 = search (rules, tests.0) in
    let few : length cells.0.0 ≤ 32 = search (rules, tests.1) in
    taken_is place text (Layer head.0.0 cells.0.0) line cells.0.1 rest (some_pair_parts (Layer head.0.0 cells.0.0) line cells.0.1 rest test.1)
    (record {
      allowed = (first.near, (omega arith, omega arith, omega arith));
      fits = (below, few, others.fit);
      text_is = first.text_is ∙ ap (ranked_text place.next head.0.0) others.text_is ∙ sym (layer_parts place.next head.0.0 cells.0.0 cells.0.1);
    })

-- ---- a piece

-- the numbers up to the end of a line are the route
route_reads : (text : List ℕ) → ReadsRoute text (all_words_at (number_after (codes " ") most32) text)
route_reads text = record {
  found = found (all_words_at (number_after (codes " ") most32) text) refl;
  only = λ edges rest fits eq. ap (all_words_at (number_after (codes " ") most32)) eq ∙ words_again (number_after (codes " ") most32) decimal (λ edge. edge < 2 ^ 32) reads_edge edges rest (length (words_line decimal edges ++ rest) + 1) fits (omega arith);
}
  where
    found : (read : Option (List ℕ × List ℕ)) → all_words_at (number_after (codes " ") most32) text ≡ read → IfSome read (λ x. AllByRecursion (λ edge. edge < 2 ^ 32) x.0 × (text ≡ words_after (map decimal x.0) ++ x.1))
    found None e = tt
    found (Some x) e =
        let taken = words_take (number_after (codes " ") most32) decimal (λ edge. edge < 2 ^ 32) reads_edge (length text + 1) text x.0 x.1 e in
        (taken.fit, taken.text_is)

first_is : (waiting : Option ℕ) (first : ℕ) → is_first waiting first ≡ true → waiting ≡ Some first
first_is None first h = absurd cc
first_is (Some i) first h = ap (λ (n : ℕ). let y : Option ℕ = Some n in y) (eqb-true i first h)

first_test : (waiting : Option ℕ) (first : ℕ) → waiting ≡ Some first → is_first waiting first ≡ true
first_test None first h = absurd cc
first_test (Some i) first h = eq-eqb i first (same_Some i first h)

open_test : (place : Place) (head : Head) → (place.waiting ≡ Some head.first) × (head.last + 1 ≡ place.next) → is_open place head ≡ true
open_test place head h = rw (first_test place.waiting head.first h.0) (eq-eqb (head.last + 1) place.next h.1)

open_met : (place : Place) (head : Head) → is_open place head ≡ true → (place.waiting ≡ Some head.first) × (head.last + 1 ≡ place.next)
open_met place head h =
    let parts = both (is_first place.waiting head.first) (eqb (head.last + 1) place.next) h in
    (first_is place.waiting head.first parts.0, eqb-true (head.last + 1) place.next parts.1)

-- what `piece_at_front` reads is a piece that may come, in one way
pub piece_reads : (place : Place) (text : List ℕ) → ReadsPiece place text (piece_at_front place text)
unfolding piece_at_front
piece_reads place text = by_head (head_at text) refl
  where
    by_some : (head : Head) (edge : ℕ) (edges rest : List ℕ) → head_at text ≡ Some head → ReadsRoute head.rest (Some (edge ∷ edges, rest)) → (test : Bool) → is_open place head ≡ test
        → ReadsPiece place text (cond (test && nat_lt 0 (suc (length edges))) (Some (routed_piece head (edge ∷ edges), rest)) None)
    by_some head edge edges rest e route true is =
        rw (lt-ltb 0 (suc (length edges)) (omega arith)) (pieces.piece_read place text head (edge ∷ edges) rest (sym e) (open_met place head is) route (λ h. absurd cc))
    by_some head edge edges rest e route false is = pieces.not_open place text head (sym e) (λ h. absurd (cc (sym is ∙ open_test place head h)))

    by_empty : (head : Head) (rest : List ℕ) → head_at text ≡ Some head → ReadsRoute head.rest (Some ([], rest)) → (test : Bool) → ReadsPiece place text (cond (test && false) (Some (routed_piece head [], rest)) None)
    by_empty head rest e route true = pieces.empty_route place text head rest (sym e) route
    by_empty head rest e route false = pieces.empty_route place text head rest (sym e) route

    by_route : (head : Head) → head_at text ≡ Some head → (route : Option (List ℕ × List ℕ)) → ReadsRoute head.rest route → ReadsPiece place text (route >>= piece_with place head)
    by_route head e None route = pieces.no_route place text head (sym e) route
    by_route head e (Some ([], rest)) route = by_empty head rest e route (is_open place head)
    by_route head e (Some (edge ∷ edges, rest)) route = by_some head edge edges rest e route (is_open place head) refl

    by_head : (head : Option Head) → head_at text ≡ head → ReadsPiece place text (head >>= λ h. all_words_at (number_after (codes " ") most32) h.rest >>= piece_with place h)
    by_head None e = pieces.no_head place text (sym e)
    by_head (Some head) e = by_route head e (all_words_at (number_after (codes " ") most32) head.rest) (route_reads head.rest)

-- two that read the same in one way read the same
pub same_reads : {A : Type 0} (IsIn : A → Type 0) (spelling : A → List ℕ) (text : List ℕ) (x y : Option (A × List ℕ)) → Reads IsIn spelling text x → Reads IsIn spelling text y → x ≡ y
same_reads IsIn spelling text None None a b = refl
same_reads IsIn spelling text (Some x) y a b = sym (b.only x.0 x.1 a.found.0 a.found.1)
same_reads IsIn spelling text None (Some y) a b = a.only y.0 y.1 b.found.0 b.found.1

-- ---- the four lines

or_found : {A : Type 0} (a b : Option A) (x : A) → option_or a b ≡ Some x → (a ≡ Some x) ⊎ (b ≡ Some x)
or_found (Some y) b x e = inl e
or_found None b x e = inr e

map_found : {A B : Type 0} (f : A → B) (a : Option A) (y : B) → option_map f a ≡ Some y → (x : A) × (a ≡ Some x) × (f x ≡ y)
map_found f None y e = absurd (none-some y e)
map_found f (Some x) y e = (x, refl, same_Some (f x) y e)

abbrev pub as_missing : Line × List ℕ → ProofLine × List ℕ
as_missing read = (Missing, read.1)

abbrev pub as_end : Line × List ℕ → ProofLine × List ℕ
as_end read = (End, read.1)

abbrev pub as_piece : Routed × List ℕ → ProofLine × List ℕ
as_piece read = (Piece read.0, read.1)

pair_parts : (x y : ProofLine) (a b : List ℕ) → ◌≡◌ {A = ProofLine × List ℕ} (x, a) (y, b) → (x ≡ y) × (a ≡ b)
pair_parts x y a b e = (ap (λ (p : ProofLine × List ℕ). p.0) e, ap (λ (p : ProofLine × List ℕ). p.1) e)

unless : (b : Bool) {A : Type 0} (r : Option A) (y : A) → cond b None r ≡ Some y → r ≡ Some y
unless true r y e = absurd cc
unless false r y e = e

is_missing : (place : Place) (text : List ℕ) (line : Line) (rest : List ℕ) → none_at place text ≡ Some (line, rest) → Point NoRoad ≡ line
unfolding none_at
is_missing place text line rest e =
    let a = bind_found (numbered_at (codes "none ") place.next text) _ (line, rest) e in
    let t = unless (is_some place.waiting) (after_bytes (10 ∷ []) a.0 >>= λ r. Some (Point NoRoad, r)) (line, rest) a.2 in
    let b = bind_found (after_bytes (10 ∷ []) a.0) (λ r. Some (Point NoRoad, r)) (line, rest) t in
    (some_pair_parts (Point NoRoad) line b.0 rest b.2).0

is_end : (place : Place) (text : List ℕ) (line : Line) (rest : List ℕ) → end_at place text ≡ Some (line, rest) → EndLine ≡ line
unfolding end_at
is_end place text line rest e =
    let a = bind_found (number_after (codes "end ") most32 text) _ (line, rest) e in
    let t = unless (not (eqb a.0.0 place.id) || is_some place.waiting) (after_bytes (10 ∷ []) a.0.1 >>= λ r. Some (EndLine, r)) (line, rest) a.2 in
    let b = bind_found (after_bytes (10 ∷ []) a.0.1) (λ r. Some (EndLine, r)) (line, rest) t in
    (some_pair_parts EndLine line b.0 rest b.2).0

missing_takes : (place : Place) (text : List ℕ) (line : ProofLine) (rest : List ℕ) → option_map as_missing (none_at place text) ≡ Some (line, rest) → LineTaken place text line rest
missing_takes place text line rest e =
    let read = map_found as_missing (none_at place text) (line, rest) e in
    let takes = subst (λ (l : Line). Takes place text l read.0.1) (sym (is_missing place text read.0.0 read.0.1 read.1)) (none_takes place text read.0.0 read.0.1 read.1) in
    taken_is place text Missing line read.0.1 rest (pair_parts Missing line read.0.1 rest read.2) (record { allowed = takes.allowed; fits = tt; text_is = takes.parts })

end_line_takes : (place : Place) (text : List ℕ) (line : ProofLine) (rest : List ℕ) → option_map as_end (end_at place text) ≡ Some (line, rest) → LineTaken place text line rest
end_line_takes place text line rest e =
    let read = map_found as_end (end_at place text) (line, rest) e in
    let takes = subst (λ (l : Line). Takes place text l read.0.1) (sym (is_end place text read.0.0 read.0.1 read.1)) (end_takes place text read.0.0 read.0.1 read.1) in
    taken_is place text End line read.0.1 rest (pair_parts End line read.0.1 rest read.2) (record { allowed = takes.allowed; fits = tt; text_is = takes.parts })

piece_takes : (place : Place) (text : List ℕ) (line : ProofLine) (rest : List ℕ) → option_map as_piece (piece_at_front place text) ≡ Some (line, rest) → LineTaken place text line rest
piece_takes place text line rest e =
    let read = map_found as_piece (piece_at_front place text) (line, rest) e in
    let found = subst (λ (o : Option (Routed × List ℕ)). IfSome o (λ x. EndsPiece place x.0 × (text ≡ piece_line x.0 ++ x.1))) read.1 (piece_reads place text).found in
    taken_is place text (Piece read.0.0) line read.0.1 rest (pair_parts (Piece read.0.0) line read.0.1 rest read.2) (record { allowed = found.0; fits = tt; text_is = found.1 })

pub line_takes : (place : Place) (text : List ℕ) (line : ProofLine) (rest : List ℕ) → line_at place text ≡ Some (line, rest) → LineTaken place text line rest
unfolding line_at
line_takes place text line rest e =
    elim (or_found (option_map as_missing (none_at place text)) _ (line, rest) e) [
      | inl first ↦ missing_takes place text line rest first
      | inr others ↦ elim (or_found (layer_at place text) _ (line, rest) others) [
        | inl second ↦ layer_takes place text line rest second
        | inr last ↦ elim (or_found (option_map as_piece (piece_at_front place text)) _ (line, rest) last) [
          | inl third ↦ piece_takes place text line rest third
          | inr fourth ↦ end_line_takes place text line rest fourth
        ]
      ]
    ]
