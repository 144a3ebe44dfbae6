-- Lines that may come are the lines of a lawful matched trace.
use Rattle.std.proofs.Common.{◌≡◌, ◌≢◌, ℕ, zero, suc, ◌+◌, ◌-◌, ◌^◌, ◌<◌, ◌≤◌, ◌↔◌, inl, inr, eq-eqb, List, [], ◌∷◌, ◌++◌, length, Option, Some, None, refl, sym, ap, subst, ◌∙◌, arith, zero-add}
use Rattle.std.specs.Option.{IfSome}
use Rattle.std.specs.List.{AllByRecursion}
use Rattle.std.proofs.lemmas.Bool.{ne_eqb}
use Rattle.std.proofs.lemmas.Option.{none-some, same_Some}
use Rattle.match_text.specs.declared.matched.Label.{Label}
use Rattle.match_text.specs.declared.matched.Label.TheVariants.{Missing, On}
use Rattle.match_text.specs.declared.matched.Routed.{Routed}
use Rattle.match_text.specs.declared.matched.MatchedTrace.{MatchedTrace}
use Rattle.match_text.specs.declared.place.Line.{Line}
use Rattle.match_text.specs.declared.place.Line.TheVariants.{Point, Piece, End}
use Rattle.match_text.specs.declared.place.Place.{Place}
use Rattle.match_text.specs.MatchText.{label_line, piece_line, trace_line, end_line, piece_after, point_lines, lines_of, IsMatched, IsCovered, IsRising, IsLawful, LabelFits, PieceFits, Fits}
use Rattle.match_text.specs.Grammar.{EndsPiece, start, Continues, texts_from, labels_of, pieces_of}

-- ---- where pieces lie

pub rising_weaker : (i j : ℕ) (pieces : List Routed) → j ≤ i → IsRising i pieces → IsRising j pieces
rising_weaker i j [] le rising = tt
rising_weaker i j (p ∷ ps) le rising = (omega (arith, rising.0), rising.1, rising.2)

pub rising_covers : (i x : ℕ) (pieces : List Routed) → IsRising i pieces → IsCovered pieces x → i ≤ x
rising_covers i x [] rising covered = absurd covered
rising_covers i x (p ∷ ps) rising covered =
    elim covered [
      | inl here ↦ omega (arith, rising.0, here.0)
      | inr later ↦ let above = rising_covers (p.last + 1) x ps rising.2 later in omega (arith, rising.0, rising.1, above)
    ]

-- from the point i on: the first piece began at the point that waits, if one does
abbrev pub RisesFrom : ℕ → Option ℕ → List Routed → Type 0
RisesFrom i None pieces = IsRising i pieces
RisesFrom i (Some first) [] = ⊥
RisesFrom i (Some first) (p ∷ ps) = (p.first ≡ first) × (i ≤ p.last + 1) × IsRising (p.last + 1) ps

abbrev pub Covers : ℕ → List Label → List Routed → Type 0
Covers i labels pieces = (k : ℕ) → IsMatched labels k ↔ IsCovered pieces (i + k)

-- the lines from the point i on, of which some wait for their piece line
abbrev text_from : ℕ → Option ℕ → List Label → List Routed → List (List ℕ)
text_from i None labels pieces = point_lines i labels pieces
text_from i (Some first) labels pieces = piece_after (i - 1) pieces (point_lines i labels)

abbrev pub at : ℕ → ℕ → Option ℕ → Place
at id i waiting = record { id = id; next = i; waiting = waiting }

-- what lines from a place on have
record Laid (id i : ℕ) (waiting : Option ℕ) (lines : List Line) : Type 0 where
  rising : RisesFrom i waiting (pieces_of lines)
  covers : Covers i (labels_of lines) (pieces_of lines)
  texts : texts_from (at id i waiting) lines ≡ text_from i waiting (labels_of lines) (pieces_of lines) ++ end_line id ∷ []
  routes : AllByRecursion (λ piece. piece.route ≢ []) (pieces_of lines)
  labels_fit : AllByRecursion LabelFits (labels_of lines)
  pieces_fit : AllByRecursion PieceFits (pieces_of lines)
  few : length (labels_of lines) + i ≤ 100000

-- ---- no line

laid_end : (id i : ℕ) → i ≤ 100000 → Laid id i None []
laid_end id i near = record {
  rising = tt;
  covers = λ k. ((λ h. h), (λ h. h));
  texts = refl;
  routes = tt;
  labels_fit = tt;
  pieces_fit = tt;
  few = omega (arith, near);
}

-- ---- a point without candidates

covers_missing : (i : ℕ) (labels : List Label) (pieces : List Routed) → IsRising (i + 1) pieces → Covers (i + 1) labels pieces → Covers i (Missing ∷ labels) pieces
covers_missing i labels pieces rising covers zero = ((λ h. absurd h), λ h. let above = rising_covers (i + 1) (i + 0) pieces rising h in omega (arith, above))
covers_missing i labels pieces rising covers (suc k) = subst (λ (n : ℕ). IsMatched labels k ↔ IsCovered pieces n) (omega arith) (covers k)

passes : (i : ℕ) (pieces : List Routed) (rest : List Routed → List (List ℕ)) → IsRising (i + 1) pieces → piece_after i pieces rest ≡ rest pieces
passes i [] rest rising = refl
passes i (p ∷ ps) rest rising = rw (ne_eqb p.last i (omega (arith, rising.0, rising.1))) refl

laid_missing : (id i : ℕ) (lines : List Line) → i < 100000 → Laid id (i + 1) None lines → Laid id i None (Point Missing ∷ lines)
laid_missing id i lines near laid = record {
  rising = rising_weaker (i + 1) i (pieces_of lines) (omega arith) laid.rising;
  covers = covers_missing i (labels_of lines) (pieces_of lines) laid.rising laid.covers;
  texts = ap (λ (ts : List (List ℕ)). label_line i Missing ∷ ts)
      (laid.texts ∙ ap (λ (ts : List (List ℕ)). ts ++ end_line id ∷ []) (sym (passes i (pieces_of lines) (point_lines (i + 1) (labels_of lines)) laid.rising)));
  routes = laid.routes;
  labels_fit = (tt, laid.labels_fit);
  pieces_fit = laid.pieces_fit;
  few = omega (arith, laid.few);
}

-- ---- a point with candidates

covers_on : (i edge offset d2 : ℕ) (labels : List Label) (pieces : List Routed) → IsCovered pieces i → Covers (i + 1) labels pieces → Covers i (On edge offset d2 ∷ labels) pieces
covers_on i edge offset d2 labels pieces covered covers zero = ((λ h. subst (λ (n : ℕ). IsCovered pieces n) (omega arith) covered), λ h. tt)
covers_on i edge offset d2 labels pieces covered covers (suc k) = subst (λ (n : ℕ). IsMatched labels k ↔ IsCovered pieces n) (omega arith) (covers k)

waiting_covered : (i first : ℕ) (pieces : List Routed) → first ≤ i → RisesFrom (i + 1) (Some first) pieces → IsCovered pieces i
waiting_covered i first [] le rising = absurd rising
waiting_covered i first (p ∷ ps) le rising = inl (omega (arith, rising.0), omega (arith, rising.1))

first_rising : (i : ℕ) (pieces : List Routed) → RisesFrom (i + 1) (Some i) pieces → IsRising i pieces
first_rising i [] rising = absurd rising
first_rising i (p ∷ ps) rising = (omega (arith, rising.0), omega (arith, rising.0, rising.1), rising.2)

waiting_rising : (i first : ℕ) (pieces : List Routed) → RisesFrom (i + 1) (Some first) pieces → RisesFrom i (Some first) pieces
waiting_rising i first [] rising = absurd rising
waiting_rising i first (p ∷ ps) rising = (rising.0, omega (arith, rising.1), rising.2)

passes_waiting : (i first : ℕ) (pieces : List Routed) (rest : List Routed → List (List ℕ)) → first < i → RisesFrom (i + 1) (Some first) pieces → piece_after (i - 1) pieces rest ≡ rest pieces
passes_waiting i first [] rest lt rising = absurd rising
passes_waiting i first (p ∷ ps) rest lt rising = rw (ne_eqb p.last (i - 1) (omega (arith, lt, rising.1))) refl

-- the line of the point, and those after it
on_texts : (id i first edge offset d2 : ℕ) (lines : List Line) → Laid id (i + 1) (Some first) lines
    → label_line i (On edge offset d2) ∷ texts_from (at id (i + 1) (Some first)) lines ≡ point_lines i (On edge offset d2 ∷ labels_of lines) (pieces_of lines) ++ end_line id ∷ []
on_texts id i first edge offset d2 lines laid =
    ap (λ (ts : List (List ℕ)). label_line i (On edge offset d2) ∷ ts)
    (laid.texts ∙ ap (λ (n : ℕ). piece_after n (pieces_of lines) (point_lines (i + 1) (labels_of lines)) ++ end_line id ∷ []) (let e : i + 1 - 1 ≡ i = omega arith in e))

laid_first : (id i edge offset d2 : ℕ) (lines : List Line) → i < 100000 → LabelFits (On edge offset d2) → Laid id (i + 1) (Some i) lines → Laid id i None (Point (On edge offset d2) ∷ lines)
laid_first id i edge offset d2 lines near fits laid = record {
  rising = first_rising i (pieces_of lines) laid.rising;
  covers = covers_on i edge offset d2 (labels_of lines) (pieces_of lines) (waiting_covered i i (pieces_of lines) (omega arith) laid.rising) laid.covers;
  texts = on_texts id i i edge offset d2 lines laid;
  routes = laid.routes;
  labels_fit = (fits, laid.labels_fit);
  pieces_fit = laid.pieces_fit;
  few = omega (arith, laid.few);
}

laid_next : (id i first edge offset d2 : ℕ) (lines : List Line) → first < i → i < 100000 → LabelFits (On edge offset d2) → Laid id (i + 1) (Some first) lines → Laid id i (Some first) (Point (On edge offset d2) ∷ lines)
laid_next id i first edge offset d2 lines lt near fits laid = record {
  rising = waiting_rising i first (pieces_of lines) laid.rising;
  covers = covers_on i edge offset d2 (labels_of lines) (pieces_of lines) (waiting_covered i first (pieces_of lines) (omega (arith, lt)) laid.rising) laid.covers;
  texts = on_texts id i first edge offset d2 lines laid
      ∙ ap (λ (ts : List (List ℕ)). ts ++ end_line id ∷ []) (sym (passes_waiting i first (pieces_of lines) (point_lines i (On edge offset d2 ∷ labels_of lines)) lt laid.rising));
  routes = laid.routes;
  labels_fit = (fits, laid.labels_fit);
  pieces_fit = laid.pieces_fit;
  few = omega (arith, laid.few);
}

-- ---- a piece

laid_piece : (id i first : ℕ) (piece : Routed) (lines : List Line) → EndsPiece (at id i (Some first)) piece → Laid id i None lines → Laid id i (Some first) (Piece piece ∷ lines)
laid_piece id i first piece lines ends laid = record {
  rising = (sym (same_Some first piece.first ends.first), omega (arith, ends.last), subst (λ (n : ℕ). IsRising n (pieces_of lines)) (sym ends.last) laid.rising);
  covers = λ k. ((λ h. inr ((laid.covers k).0 h)), λ h. elim h [ inl here ↦ absurd (omega (arith, here.1, ends.last)) | inr later ↦ (laid.covers k).1 later ]);
  texts = ap (λ (ts : List (List ℕ)). piece_line piece ∷ ts) laid.texts ∙ sym (rw (eq-eqb piece.last (i - 1) (omega (arith, ends.last))) refl);
  routes = (ends.route, laid.routes);
  labels_fit = laid.labels_fit;
  pieces_fit = (ends.fits, laid.pieces_fit);
  few = laid.few;
}

-- ---- all lines

laid : (id i : ℕ) (waiting : Option ℕ) (lines : List Line) → i ≤ 100000 → IfSome waiting (λ first. first < i) → Continues (at id i waiting) lines → Laid id i waiting lines
laid id i None [] near waits continues = laid_end id i near
laid id i (Some first) [] near waits continues = absurd (none-some first (sym continues))
laid id i None (Point Missing ∷ lines) near waits continues = laid_missing id i lines continues.1.0 (laid id (i + 1) None lines (omega (arith, continues.1.0)) tt continues.2)
laid id i (Some first) (Point Missing ∷ lines) near waits continues = absurd (none-some first (sym continues.1.1))
laid id i None (Point (On edge offset d2) ∷ lines) near waits continues = laid_first id i edge offset d2 lines continues.1.0 continues.1.1 (laid id (i + 1) (Some i) lines (omega (arith, continues.1.0)) (omega arith) continues.2)
laid id i (Some first) (Point (On edge offset d2) ∷ lines) near waits continues = laid_next id i first edge offset d2 lines waits continues.1.0 continues.1.1 (laid id (i + 1) (Some first) lines (omega (arith, continues.1.0)) (omega (arith, waits)) continues.2)
laid id i None (Piece piece ∷ lines) near waits continues = absurd (none-some piece.first continues.1.first)
laid id i (Some first) (Piece piece ∷ lines) near waits continues = laid_piece id i first piece lines continues.1 (laid id i None lines near tt continues.2)
laid id i waiting (End ∷ lines) near waits continues = absurd (continues.0 tt)

-- ---- the matched trace of lines

abbrev pub trace_of : ℕ → List Line → MatchedTrace
trace_of id lines = record { id = id; labels = labels_of lines; pieces = pieces_of lines }

pub record IsTraceOf (id : ℕ) (lines : List Line) : Type 0 where
  pub lawful : IsLawful (trace_of id lines)
  pub fits : Fits (trace_of id lines)
  pub texts : lines_of (trace_of id lines) ≡ trace_line id ∷ texts_from (start id) lines

pub traced : (id : ℕ) (lines : List Line) → id < 2 ^ 32 → Continues (start id) lines → IsTraceOf id lines
traced id lines small continues =
    let all = laid id 0 None lines (omega arith) tt continues in
    record {
      lawful = record {
        rising = all.rising;
        covers = λ k. subst (λ (n : ℕ). IsMatched (labels_of lines) k ↔ IsCovered (pieces_of lines) n) (zero-add k) (all.covers k);
        routes = all.routes;
        few = omega (arith, all.few);
      };
      fits = record { id = small; labels = all.labels_fit; pieces = all.pieces_fit };
      texts = ap (λ (ts : List (List ℕ)). trace_line id ∷ ts) (sym all.texts);
    }
