-- The lines of a lawful matched trace may come.
use Rattle.std.proofs.Common.{◌≡◌, ◌≢◌, ℕ, suc, ◌+◌, ◌-◌, ◌<◌, ◌≤◌, ◌↔◌, inl, inr, List, [], ◌∷◌, length, Option, Some, None, refl, sym, ap, subst, ◌∙◌, arith, zero-add}
use Rattle.std.specs.Option.{unwrap_or}
use Rattle.std.specs.List.{AllByRecursion}
use Rattle.std.proofs.lemmas.Bool.{cases_lt}
use Rattle.match_text.specs.declared.matched.Label.{Label}
use Rattle.match_text.specs.declared.matched.Label.TheVariants.{Missing, On}
use Rattle.match_text.specs.declared.matched.Routed.{Routed}
use Rattle.match_text.specs.declared.matched.MatchedTrace.{MatchedTrace}
use Rattle.match_text.specs.declared.place.Line.{Line}
use Rattle.match_text.specs.declared.place.Line.TheVariants.{Point, Piece}
use Rattle.match_text.specs.MatchText.{trace_line, lines_of, IsMatched, IsCovered, IsRising, IsLawful, LabelFits, PieceFits, Fits}
use Rattle.match_text.specs.Grammar.{start, Continues, texts_from, labels_of, pieces_of}
use Rattle.match_text.proofs.Laid.{rising_covers, Covers, at, trace_of, traced}

-- from the point i on: the first piece is the one of the point that waits, and goes on
abbrev Rises : ℕ → Option ℕ → List Routed → Type 0
Rises i None pieces = IsRising i pieces
Rises i (Some first) [] = ⊥
Rises i (Some first) (p ∷ ps) = (p.first ≡ first) × (first < i) × (i ≤ p.last) × IsRising (p.last + 1) ps

-- labels and pieces from the point i on
record Parts (i : ℕ) (waiting : Option ℕ) (labels : List Label) (pieces : List Routed) : Type 0 where
  rising : Rises i waiting pieces
  covers : Covers i labels pieces
  routes : AllByRecursion (λ piece. piece.route ≢ []) pieces
  labels_fit : AllByRecursion LabelFits labels
  pieces_fit : AllByRecursion PieceFits pieces
  few : length labels + i ≤ 100000

-- their lines
record HasLines (id i : ℕ) (waiting : Option ℕ) (labels : List Label) (pieces : List Routed) : Type 0 where
  lines : List Line
  continues : Continues (at id i waiting) lines
  labels_are : labels_of lines ≡ labels
  pieces_are : pieces_of lines ≡ pieces

next_covers : (i : ℕ) (label : Label) (labels : List Label) (pieces : List Routed) → Covers i (label ∷ labels) pieces → Covers (i + 1) labels pieces
next_covers i label labels pieces covers k = subst (λ (n : ℕ). IsMatched labels k ↔ IsCovered pieces n) (let e : i + suc k ≡ i + 1 + k = omega arith in e) (covers (suc k))

-- ---- a point without candidates

missing_rising : (i : ℕ) (pieces : List Routed) → IsRising i pieces → (IsCovered pieces i → ⊥) → IsRising (i + 1) pieces
missing_rising i [] rising free = tt
missing_rising i (p ∷ ps) rising free =
    elim (cases_lt i p.first) [
      | inl lt ↦ (omega (arith, lt), rising.1, rising.2)
      | inr le ↦ absurd (free (inl (le, omega (arith, rising.0, rising.1))))
    ]

not_covered : (i : ℕ) (labels : List Label) (pieces : List Routed) → Covers i (Missing ∷ labels) pieces → IsCovered pieces i → ⊥
not_covered i labels pieces covers covered = (covers 0).1 (subst (λ (n : ℕ). IsCovered pieces n) (let e : i ≡ i + 0 = omega arith in e) covered)

after_missing : (i : ℕ) (labels : List Label) (pieces : List Routed) → Parts i None (Missing ∷ labels) pieces → Parts (i + 1) None labels pieces
after_missing i labels pieces parts = record {
  rising = missing_rising i pieces parts.rising (not_covered i labels pieces parts.covers);
  covers = next_covers i Missing labels pieces parts.covers;
  routes = parts.routes;
  labels_fit = parts.labels_fit.1;
  pieces_fit = parts.pieces_fit;
  few = omega (arith, parts.few);
}

add_missing : (id i : ℕ) (labels : List Label) (pieces : List Routed) → i < 100000 → HasLines id (i + 1) None labels pieces → HasLines id i None (Missing ∷ labels) pieces
add_missing id i labels pieces near has = record {
  lines = Point Missing ∷ has.lines;
  continues = ((λ e. e), (near, refl), has.continues);
  labels_are = ap (λ (ls : List Label). Missing ∷ ls) has.labels_are;
  pieces_are = has.pieces_are;
}

-- ---- a point with candidates

-- the piece of a point that begins none before it
first_piece : (i : ℕ) (p : Routed) (ps : List Routed) → IsRising i (p ∷ ps) → IsCovered (p ∷ ps) i → (p.first ≡ i) × (i ≤ p.last)
first_piece i p ps rising covered =
    elim covered [
      | inl here ↦ (omega (arith, here.0, rising.0), here.1)
      | inr later ↦ let above = rising_covers (p.last + 1) i ps rising.2 later in absurd (omega (arith, above, rising.0, rising.1))
    ]

-- the piece of the point begins at or before it, and does not end before it
record HasPiece (i first : ℕ) (p : Routed) (ps : List Routed) : Type 0 where
  begins : p.first ≡ first
  started : first ≤ i
  goes_on : i ≤ p.last
  rising : IsRising (p.last + 1) ps

after_last : (i edge offset d2 : ℕ) (labels : List Label) (p : Routed) (ps : List Routed) (waiting : Option ℕ) → p.last ≡ i → IsRising (p.last + 1) ps → Parts i waiting (On edge offset d2 ∷ labels) (p ∷ ps) → Parts (i + 1) None labels ps
after_last i edge offset d2 labels p ps waiting last rising parts = record {
  rising = subst (λ (n : ℕ). IsRising (n + 1) ps) last rising;
  covers = λ k.
      let both = next_covers i (On edge offset d2) labels (p ∷ ps) parts.covers k in
      ((λ h. elim (both.0 h) [ inl here ↦ absurd (omega (arith, here.1, last)) | inr later ↦ later ]), λ h. both.1 (inr h));
  routes = parts.routes.1;
  labels_fit = parts.labels_fit.1;
  pieces_fit = parts.pieces_fit.1;
  few = omega (arith, parts.few);
}

after_on : (i first edge offset d2 : ℕ) (labels : List Label) (p : Routed) (ps : List Routed) (waiting : Option ℕ) → HasPiece i first p ps → i < p.last → Parts i waiting (On edge offset d2 ∷ labels) (p ∷ ps) → Parts (i + 1) (Some first) labels (p ∷ ps)
after_on i first edge offset d2 labels p ps waiting piece lt parts = record {
  rising = (piece.begins, omega (arith, piece.started), omega (arith, lt), piece.rising);
  covers = next_covers i (On edge offset d2) labels (p ∷ ps) parts.covers;
  routes = parts.routes;
  labels_fit = parts.labels_fit.1;
  pieces_fit = parts.pieces_fit;
  few = omega (arith, parts.few);
}

add_on : (id i first edge offset d2 : ℕ) (waiting : Option ℕ) (labels : List Label) (pieces : List Routed) → first ≡ unwrap_or waiting i → i < 100000 → LabelFits (On edge offset d2) → HasLines id (i + 1) (Some first) labels pieces
    → HasLines id i waiting (On edge offset d2 ∷ labels) pieces
add_on id i first edge offset d2 waiting labels pieces is near fits has = record {
  lines = Point (On edge offset d2) ∷ has.lines;
  continues = ((λ e. e), (near, fits), subst (λ (n : ℕ). Continues (at id (i + 1) (Some n)) has.lines) is has.continues);
  labels_are = ap (λ (ls : List Label). On edge offset d2 ∷ ls) has.labels_are;
  pieces_are = has.pieces_are;
}

add_piece : (id i : ℕ) (p : Routed) (labels : List Label) (ps : List Routed) → p.last ≡ i → p.route ≢ [] → PieceFits p → HasLines id (i + 1) None labels ps → HasLines id (i + 1) (Some p.first) labels (p ∷ ps)
add_piece id i p labels ps last route fits has = record {
  lines = Piece p ∷ has.lines;
  continues = ((λ e. e), record { first = refl; last = ap (λ (n : ℕ). n + 1) last; route = route; fits = fits }, has.continues);
  labels_are = has.labels_are;
  pieces_are = ap (λ (pieces : List Routed). p ∷ pieces) has.pieces_are;
}

-- the lines from a point with candidates on, from those of the rest
on_lines : (id i first edge offset d2 : ℕ) (waiting : Option ℕ) (labels : List Label) (p : Routed) (ps : List Routed) → first ≡ unwrap_or waiting i → HasPiece i first p ps → Parts i waiting (On edge offset d2 ∷ labels) (p ∷ ps)
    → ((waiting : Option ℕ) (pieces : List Routed) → Parts (i + 1) waiting labels pieces → HasLines id (i + 1) waiting labels pieces) → HasLines id i waiting (On edge offset d2 ∷ labels) (p ∷ ps)
on_lines id i first edge offset d2 waiting labels p ps is piece parts rest =
    let near : i < 100000 = omega (arith, parts.few) in
    elim (cases_lt i p.last) [
      | inl lt ↦ add_on id i first edge offset d2 waiting labels (p ∷ ps) is near parts.labels_fit.0 (rest (Some first) (p ∷ ps) (after_on i first edge offset d2 labels p ps waiting piece lt parts))
      | inr le ↦
          let last : p.last ≡ i = omega (arith, le, piece.goes_on) in
          let has = rest None ps (after_last i edge offset d2 labels p ps waiting last piece.rising parts) in
          add_on id i p.first edge offset d2 waiting labels (p ∷ ps) (piece.begins ∙ is) near parts.labels_fit.0 (add_piece id i p labels ps last parts.routes.0 parts.pieces_fit.0 has)
    ]

lines_for : (id : ℕ) (labels : List Label) (i : ℕ) (waiting : Option ℕ) (pieces : List Routed) → Parts i waiting labels pieces → HasLines id i waiting labels pieces
lines_for id [] i None [] parts = record { lines = []; continues = refl; labels_are = refl; pieces_are = refl }
lines_for id [] i None (p ∷ ps) parts =
    let rising = parts.rising in
    absurd ((parts.covers (p.first - i)).1 (inl (omega (arith, rising.0), omega (arith, rising.0, rising.1))))
lines_for id [] i (Some first) [] parts = absurd parts.rising
lines_for id [] i (Some first) (p ∷ ps) parts =
    let rising = parts.rising in
    absurd ((parts.covers 0).1 (inl (omega (arith, rising.0, rising.1), omega (arith, rising.2))))
lines_for id (Missing ∷ labels) i None pieces parts = add_missing id i labels pieces (omega (arith, parts.few)) (lines_for id labels (i + 1) None pieces (after_missing i labels pieces parts))
lines_for id (Missing ∷ labels) i (Some first) [] parts = absurd parts.rising
lines_for id (Missing ∷ labels) i (Some first) (p ∷ ps) parts =
    let rising = parts.rising in
    absurd (not_covered i labels (p ∷ ps) parts.covers (inl (omega (arith, rising.0, rising.1), rising.2)))
lines_for id (On edge offset d2 ∷ labels) i None [] parts = absurd ((parts.covers 0).0 tt)
lines_for id (On edge offset d2 ∷ labels) i None (p ∷ ps) parts =
    let covered = subst (λ (n : ℕ). IsCovered (p ∷ ps) n) (let e : i + 0 ≡ i = omega arith in e) ((parts.covers 0).0 tt) in
    let first = first_piece i p ps parts.rising covered in
    on_lines id i i edge offset d2 None labels p ps refl (record { begins = first.0; started = omega arith; goes_on = first.1; rising = parts.rising.2 }) parts (λ waiting pieces rest. lines_for id labels (i + 1) waiting pieces rest)
lines_for id (On edge offset d2 ∷ labels) i (Some first) [] parts = absurd parts.rising
lines_for id (On edge offset d2 ∷ labels) i (Some first) (p ∷ ps) parts =
    let rising = parts.rising in
    on_lines id i first edge offset d2 (Some first) labels p ps refl (record { begins = rising.0; started = omega (arith, rising.1); goes_on = rising.2; rising = rising.3 }) parts (λ waiting pieces rest. lines_for id labels (i + 1) waiting pieces rest)

-- ---- the lines of a lawful matched trace

pub record HasText (m : MatchedTrace) : Type 0 where
  pub lines : List Line
  pub continues : Continues (start m.id) lines
  pub is : trace_of m.id lines ≡ m
  pub texts : lines_of m ≡ trace_line m.id ∷ texts_from (start m.id) lines

pub has_text : (m : MatchedTrace) → IsLawful m → Fits m → HasText m
has_text m lawful fits =
    let parts : Parts 0 None m.labels m.pieces = record {
      rising = lawful.rising;
      covers = λ k. subst (λ (n : ℕ). IsMatched m.labels k ↔ IsCovered m.pieces n) (sym (zero-add k)) (lawful.covers k);
      routes = lawful.routes;
      labels_fit = fits.labels;
      pieces_fit = fits.pieces;
      few = omega (arith, lawful.few);
    } in
    let has = lines_for m.id m.labels 0 None m.pieces parts in
    let is : trace_of m.id has.lines ≡ m = λ i. record { id = m.id; labels = has.labels_are i; pieces = has.pieces_are i } in
    record {
      lines = has.lines;
      continues = has.continues;
      is = is;
      texts = ap lines_of (sym is) ∙ (traced m.id has.lines fits.id has.continues).texts;
    }
