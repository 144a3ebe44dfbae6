-- The lines of a proof are its text, and a proof that has a text has lines.
use Rattle.std.proofs.Common.{◌≡◌, ℕ, ◌+◌, ◌-◌, ◌^◌, ◌<◌, eq-eqb, List, [], ◌∷◌, ◌++◌, map, Option, Some, None, refl, sym, ap, subst, ◌∙◌, append_assoc, arith}
use Rattle.std.specs.List.{AllByRecursion, concat}
use Rattle.std.specs.Option.{IfSome}
use Rattle.std.proofs.lemmas.Bool.{ne_eqb}
use Rattle.std.proofs.lemmas.List.{append-nil}
use Rattle.std.proofs.lemmas.List.Folds.{concat-append}
use Rattle.std.proofs.lemmas.Option.{none-some, same_Some}
use Rattle.match_text.specs.Grammar.{Continues, EndsPiece, labels_of, pieces_of, start}
use Rattle.match_text.specs.MatchText.{IsLawful, IsRising, LabelFits, PieceFits, end_line, label_line, piece_after, piece_line, trace_line}
use Rattle.match_text.specs.declared.matched.Label.{Label}
use Rattle.match_text.specs.declared.matched.Label.TheVariants.{Missing as NoRoad, On}
use Rattle.match_text.specs.declared.matched.MatchedTrace.{MatchedTrace}
use Rattle.match_text.specs.declared.matched.Routed.{Routed}
use Rattle.match_text.specs.declared.place.Line.{Line}
use Rattle.match_text.specs.declared.place.Line.TheVariants.{Point, Piece as PieceLine, End as EndLine}
use Rattle.match_text.proofs.Laid.{RisesFrom, at, rising_weaker, trace_of, traced}
use Rattle.match_text.proofs.Lawful.{has_text}
use Rattle.matching.specs.declared.parts.Cell.{Cell}
use Rattle.potential_certificate.specs.CertificateText.{layer_line, position_lines, proof_lines, proof_text}
use Rattle.potential_certificate.specs.HasText.{ArePoints, IsProof, label_of_proof, match_of_proof}
use Rattle.potential_certificate.specs.Reading.{in_match}
use Rattle.potential_certificate.specs.declared.proof.TraceProof.{TraceProof}
use Rattle.potential_certificate.specs.declared.proof_line.ProofLine.{ProofLine}
use Rattle.potential_certificate.specs.declared.proof_line.ProofLine.TheVariants.{Missing, Layer, Piece, End}
use Rattle.potential_certificate.proofs.ProofLines.{FitsLine}
use Rattle.potential_certificate.proofs.ProofsRead.{lines_text, proof_of, texts_joined, texts_of}

-- ---- the text of lines

-- the lines from the point i on, of which some wait for their piece line
abbrev text_from : ℕ → Option ℕ → TraceProof → List (List ℕ)
text_from i None proof = position_lines i proof.ranks proof.tables proof.pieces
text_from i (Some first) proof = piece_after (i - 1) proof.pieces (position_lines i proof.ranks proof.tables)

record Laid (id i : ℕ) (waiting : Option ℕ) (lines : List ProofLine) : Type 0 where
  rising : RisesFrom i waiting (proof_of id lines).pieces
  texts : texts_of (at id i waiting) lines ≡ text_from i waiting (proof_of id lines) ++ end_line id ∷ []

passes : (i : ℕ) (pieces : List Routed) (rest : List Routed → List (List ℕ)) → IsRising (i + 1) pieces → piece_after i pieces rest ≡ rest pieces
passes i [] rest rising = refl
passes i (p ∷ ps) rest rising = rw (ne_eqb p.last i (omega (arith, rising.0, rising.1))) refl

first_rising : (i : ℕ) (pieces : List Routed) → RisesFrom (i + 1) (Some i) pieces → IsRising i pieces
first_rising i [] rising = absurd rising
first_rising i (p ∷ ps) rising = (omega (arith, rising.0), omega (arith, rising.0, rising.1), rising.2)

waiting_rising : (i first : ℕ) (pieces : List Routed) → RisesFrom (i + 1) (Some first) pieces → RisesFrom i (Some first) pieces
waiting_rising i first [] rising = absurd rising
waiting_rising i first (p ∷ ps) rising = (rising.0, omega (arith, rising.1), rising.2)

passes_waiting : (i first : ℕ) (pieces : List Routed) (rest : List Routed → List (List ℕ)) → first < i → RisesFrom (i + 1) (Some first) pieces → piece_after (i - 1) pieces rest ≡ rest pieces
passes_waiting i first [] rest lt rising = absurd rising
passes_waiting i first (p ∷ ps) rest lt rising = rw (ne_eqb p.last (i - 1) (omega (arith, lt, rising.1))) refl

laid_missing : (id i : ℕ) (lines : List ProofLine) → Laid id (i + 1) None lines → Laid id i None (Missing ∷ lines)
laid_missing id i lines laid =
    let proof = proof_of id lines in
    record {
      rising = rising_weaker (i + 1) i proof.pieces (omega arith) laid.rising;
      texts = ap (λ (ts : List (List ℕ)). label_line i NoRoad ∷ ts)
          (laid.texts ∙ ap (λ (ts : List (List ℕ)). ts ++ end_line id ∷ []) (sym (passes i proof.pieces (position_lines (i + 1) proof.ranks proof.tables) laid.rising)));
    }

layer_texts : (id i first rank : ℕ) (cells : List Cell) (lines : List ProofLine) → Laid id (i + 1) (Some first) lines
    → layer_line i rank cells ∷ texts_of (at id (i + 1) (Some first)) lines ≡ text_from i None (proof_of id (Layer rank cells ∷ lines)) ++ end_line id ∷ []
layer_texts id i first rank cells lines laid =
    let proof = proof_of id lines in
    ap (λ (ts : List (List ℕ)). layer_line i rank cells ∷ ts)
    (laid.texts ∙ ap (λ (n : ℕ). piece_after n proof.pieces (position_lines (i + 1) proof.ranks proof.tables) ++ end_line id ∷ []) (let e : i + 1 - 1 ≡ i = omega arith in e))

laid_first : (id i rank : ℕ) (cells : List Cell) (lines : List ProofLine) → Laid id (i + 1) (Some i) lines → Laid id i None (Layer rank cells ∷ lines)
laid_first id i rank cells lines laid = record { rising = first_rising i (proof_of id lines).pieces laid.rising; texts = layer_texts id i i rank cells lines laid }

laid_next : (id i first rank : ℕ) (cells : List Cell) (lines : List ProofLine) → first < i → Laid id (i + 1) (Some first) lines → Laid id i (Some first) (Layer rank cells ∷ lines)
laid_next id i first rank cells lines lt laid =
    let all = proof_of id (Layer rank cells ∷ lines) in
    record {
      rising = waiting_rising i first (proof_of id lines).pieces laid.rising;
      texts = layer_texts id i first rank cells lines laid
          ∙ ap (λ (ts : List (List ℕ)). ts ++ end_line id ∷ []) (sym (passes_waiting i first (proof_of id lines).pieces (position_lines i all.ranks all.tables) lt laid.rising));
    }

laid_piece : (id i first : ℕ) (piece : Routed) (lines : List ProofLine) → EndsPiece (at id i (Some first)) piece → Laid id i None lines → Laid id i (Some first) (Piece piece ∷ lines)
laid_piece id i first piece lines ends laid =
    let proof = proof_of id lines in
    let after : piece_after (i - 1) (piece ∷ proof.pieces) (position_lines i proof.ranks proof.tables) ≡ piece_line piece ∷ position_lines i proof.ranks proof.tables proof.pieces =
    rw (eq-eqb piece.last (i - 1) (omega (arith, ends.last))) refl in
    record {
      rising = (sym (same_Some first piece.first ends.first), omega (arith, ends.last), subst (λ (n : ℕ). IsRising n proof.pieces) (sym ends.last) laid.rising);
      texts = ap (λ (ts : List (List ℕ)). piece_line piece ∷ ts) laid.texts ∙ ap (λ (ts : List (List ℕ)). ts ++ end_line id ∷ []) (sym after);
    }

laid : (id i : ℕ) (waiting : Option ℕ) (lines : List ProofLine) → IfSome waiting (λ first. first < i) → Continues (at id i waiting) (map in_match lines) → Laid id i waiting lines
laid id i None [] waits continues = record { rising = tt; texts = refl }
laid id i (Some first) [] waits continues = absurd (none-some first (sym continues))
laid id i None (Missing ∷ lines) waits continues = laid_missing id i lines (laid id (i + 1) None lines tt continues.2)
laid id i (Some first) (Missing ∷ lines) waits continues = absurd (none-some first (sym continues.1.1))
laid id i None (Layer rank cells ∷ lines) waits continues = laid_first id i rank cells lines (laid id (i + 1) (Some i) lines (omega arith) continues.2)
laid id i (Some first) (Layer rank cells ∷ lines) waits continues = laid_next id i first rank cells lines waits (laid id (i + 1) (Some first) lines (omega (arith, waits)) continues.2)
laid id i None (Piece piece ∷ lines) waits continues = absurd (none-some piece.first continues.1.first)
laid id i (Some first) (Piece piece ∷ lines) waits continues = laid_piece id i first piece lines continues.1 (laid id i None lines tt continues.2)
laid id i waiting (End ∷ lines) waits continues = absurd (continues.0 tt)

pub id_of_lines : (n : ℕ) (ls : List ProofLine) → (proof_of n ls).id ≡ n
id_of_lines n [] = refl
id_of_lines n (Missing ∷ ls) = id_of_lines n ls
id_of_lines n (Layer rank cells ∷ ls) = id_of_lines n ls
id_of_lines n (Piece piece ∷ ls) = id_of_lines n ls
id_of_lines n (End ∷ ls) = id_of_lines n ls

-- the lines of a proof
pub texts_of_lines : (id : ℕ) (lines : List ProofLine) → Continues (start id) (map in_match lines) → proof_lines (proof_of id lines) ≡ trace_line id ∷ texts_of (start id) lines
texts_of_lines id lines continues =
    let proof = proof_of id lines in
    ap (λ (n : ℕ). trace_line n ∷ (position_lines 0 proof.ranks proof.tables proof.pieces ++ end_line n ∷ [])) (id_of_lines id lines)
    ∙ ap (λ (ts : List (List ℕ)). trace_line id ∷ ts) (sym (laid id 0 None lines tt continues).texts)

joined : (id : ℕ) (lines : List ProofLine) → Continues (start id) (map in_match lines)
    → concat (position_lines 0 (proof_of id lines).ranks (proof_of id lines).tables (proof_of id lines).pieces) ++ end_line id ≡ lines_text (start id) lines
joined id lines continues =
    let proof = proof_of id lines in
    let points = position_lines 0 proof.ranks proof.tables proof.pieces in
    ap (λ (t : List ℕ). concat points ++ t) (sym (append-nil (end_line id))) ∙ sym (concat-append points (end_line id ∷ []))
    ∙ ap concat (sym (laid id 0 None lines tt continues).texts) ∙ texts_joined (start id) lines

-- the text of a proof is that of its lines
pub text_of_lines : (id : ℕ) (lines : List ProofLine) (rest : List ℕ) → Continues (start id) (map in_match lines) → proof_text (proof_of id lines) ++ rest ≡ trace_line (proof_of id lines).id ++ (lines_text (start id) lines ++ rest)
text_of_lines id lines rest continues =
    let proof = proof_of id lines in
    append_assoc (trace_line proof.id) (concat (position_lines 0 proof.ranks proof.tables proof.pieces) ++ end_line proof.id) rest
    ∙ ap (λ (n : ℕ). trace_line proof.id ++ ((concat (position_lines 0 proof.ranks proof.tables proof.pieces) ++ end_line n) ++ rest)) (id_of_lines id lines)
    ∙ ap (λ (t : List ℕ). trace_line proof.id ++ (t ++ rest)) (joined id lines continues)

-- ---- the proof of lines has a text

labels_are : (id : ℕ) (lines : List ProofLine) → labels_of (map in_match lines) ≡ map label_of_proof (proof_of id lines).ranks
labels_are id [] = refl
labels_are id (Missing ∷ lines) = ap (λ (ls : List Label). NoRoad ∷ ls) (labels_are id lines)
labels_are id (Layer rank cells ∷ lines) = ap (λ (ls : List Label). On 0 0 0 ∷ ls) (labels_are id lines)
labels_are id (Piece piece ∷ lines) = labels_are id lines
labels_are id (End ∷ lines) = labels_are id lines

pieces_are : (id : ℕ) (lines : List ProofLine) → pieces_of (map in_match lines) ≡ (proof_of id lines).pieces
pieces_are id [] = refl
pieces_are id (Missing ∷ lines) = pieces_are id lines
pieces_are id (Layer rank cells ∷ lines) = pieces_are id lines
pieces_are id (Piece piece ∷ lines) = ap (λ (ps : List Routed). piece ∷ ps) (pieces_are id lines)
pieces_are id (End ∷ lines) = pieces_are id lines

points_are : (id : ℕ) (lines : List ProofLine) → AllByRecursion FitsLine lines → ArePoints (proof_of id lines).ranks (proof_of id lines).tables
points_are id [] fit = tt
points_are id (Missing ∷ lines) fit = (refl, points_are id lines fit.1)
points_are id (Layer rank cells ∷ lines) fit = (fit.0, points_are id lines fit.1)
points_are id (Piece piece ∷ lines) fit = points_are id lines fit.1
points_are id (End ∷ lines) fit = points_are id lines fit.1

pub lines_are_proof : (id : ℕ) (lines : List ProofLine) → id < 2 ^ 32 → Continues (start id) (map in_match lines) → AllByRecursion FitsLine lines → IsProof (proof_of id lines)
lines_are_proof id lines small continues fit =
    let all = traced id (map in_match lines) small continues in
    let same : trace_of id (map in_match lines) ≡ match_of_proof (proof_of id lines) =
    λ i. record { id = sym (id_of_lines id lines) i; labels = labels_are id lines i; pieces = pieces_are id lines i } in
    record {
      points = points_are id lines fit;
      pieces = subst IsLawful same all.lawful;
      id = subst (λ (n : ℕ). n < 2 ^ 32) (sym (id_of_lines id lines)) small;
      pieces_fit = subst (λ (ps : List Routed). AllByRecursion PieceFits ps) (pieces_are id lines) all.fits.pieces;
    }

-- ---- a proof that has a text has lines

-- lines of a proof that are these of a match text
record Zipped (id : ℕ) (ls : List Line) (ranks : List (Option ℕ)) (tables : List (List Cell)) : Type 0 where
  lines : List ProofLine
  same : map in_match lines ≡ ls
  fit : AllByRecursion FitsLine lines
  proof_is : proof_of id lines ≡ record { id = id; ranks = ranks; tables = tables; pieces = pieces_of ls }

heads : (x y : Label) (xs ys : List Label) → x ∷ xs ≡ y ∷ ys → (x ≡ y) × (xs ≡ ys)
heads x y xs ys e = (cc, cc)

zip_missing : (id : ℕ) (label : Label) (ls : List Line) (ranks : List (Option ℕ)) (cells : List Cell) (tables : List (List Cell)) → label ≡ NoRoad → cells ≡ [] → Zipped id ls ranks tables → Zipped id (Point label ∷ ls) (None ∷ ranks) (cells ∷ tables)
zip_missing id label ls ranks cells tables label_is none rest = record {
  lines = Missing ∷ rest.lines;
  same = λ i. Point (sym label_is i) ∷ rest.same i;
  fit = (tt, rest.fit);
  proof_is = λ i. record { id = (rest.proof_is i).id; ranks = None ∷ (rest.proof_is i).ranks; tables = sym none i ∷ (rest.proof_is i).tables; pieces = (rest.proof_is i).pieces };
}

zip_layer : (id : ℕ) (label : Label) (ls : List Line) (rank : ℕ) (ranks : List (Option ℕ)) (cells : List Cell) (tables : List (List Cell)) → label ≡ On 0 0 0 → FitsLine (Layer rank cells) → Zipped id ls ranks tables
    → Zipped id (Point label ∷ ls) (Some rank ∷ ranks) (cells ∷ tables)
zip_layer id label ls rank ranks cells tables label_is fits rest = record {
  lines = Layer rank cells ∷ rest.lines;
  same = λ i. Point (sym label_is i) ∷ rest.same i;
  fit = (fits, rest.fit);
  proof_is = λ i. record { id = (rest.proof_is i).id; ranks = Some rank ∷ (rest.proof_is i).ranks; tables = cells ∷ (rest.proof_is i).tables; pieces = (rest.proof_is i).pieces };
}

zip_piece : (id : ℕ) (piece : Routed) (ls : List Line) (ranks : List (Option ℕ)) (tables : List (List Cell)) → Zipped id ls ranks tables → Zipped id (PieceLine piece ∷ ls) ranks tables
zip_piece id piece ls ranks tables rest = record {
  lines = Piece piece ∷ rest.lines;
  same = λ i. PieceLine piece ∷ rest.same i;
  fit = (tt, rest.fit);
  proof_is = λ i. record { id = (rest.proof_is i).id; ranks = (rest.proof_is i).ranks; tables = (rest.proof_is i).tables; pieces = piece ∷ (rest.proof_is i).pieces };
}

zip_end : (id : ℕ) (ls : List Line) (ranks : List (Option ℕ)) (tables : List (List Cell)) → Zipped id ls ranks tables → Zipped id (EndLine ∷ ls) ranks tables
zip_end id ls ranks tables rest = record { lines = End ∷ rest.lines; same = λ i. EndLine ∷ rest.same i; fit = (tt, rest.fit); proof_is = rest.proof_is }

zipped : (id : ℕ) (ls : List Line) (ranks : List (Option ℕ)) (tables : List (List Cell)) → labels_of ls ≡ map label_of_proof ranks → ArePoints ranks tables → Zipped id ls ranks tables
zipped id [] [] [] labels points = record { lines = []; same = refl; fit = tt; proof_is = refl }
zipped id [] [] (cells ∷ tables) labels points = absurd points
zipped id [] (rank ∷ ranks) tables labels points = absurd cc
zipped id (Point label ∷ ls) [] tables labels points = absurd cc
zipped id (Point label ∷ ls) (rank ∷ ranks) [] labels points = absurd points
zipped id (Point label ∷ ls) (None ∷ ranks) (cells ∷ tables) labels points =
    let parts = heads label NoRoad (labels_of ls) (map label_of_proof ranks) labels in
    zip_missing id label ls ranks cells tables parts.0 points.0 (zipped id ls ranks tables parts.1 points.1)
zipped id (Point label ∷ ls) (Some rank ∷ ranks) (cells ∷ tables) labels points =
    let parts = heads label (On 0 0 0) (labels_of ls) (map label_of_proof ranks) labels in
    zip_layer id label ls rank ranks cells tables parts.0 points.0 (zipped id ls ranks tables parts.1 points.1)
zipped id (PieceLine piece ∷ ls) ranks tables labels points = zip_piece id piece ls ranks tables (zipped id ls ranks tables labels points)
zipped id (EndLine ∷ ls) ranks tables labels points = zip_end id ls ranks tables (zipped id ls ranks tables labels points)

labels_fit : (ranks : List (Option ℕ)) → AllByRecursion LabelFits (map label_of_proof ranks)
labels_fit [] = tt
labels_fit (None ∷ ranks) = (tt, labels_fit ranks)
labels_fit (Some rank ∷ ranks) = ((omega arith, omega arith, omega arith), labels_fit ranks)

pub record HasLines (proof : TraceProof) : Type 0 where
  pub lines : List ProofLine
  pub continues : Continues (start proof.id) (map in_match lines)
  pub fit : AllByRecursion FitsLine lines
  pub proof_is : proof_of proof.id lines ≡ proof

pub proof_has_lines : (proof : TraceProof) → IsProof proof → HasLines proof
proof_has_lines proof is =
    let has = has_text (match_of_proof proof) is.pieces (record { id = is.id; labels = labels_fit proof.ranks; pieces = is.pieces_fit }) in
    let all = zipped proof.id has.lines proof.ranks proof.tables (ap (λ (m : MatchedTrace). m.labels) has.is) is.points in
    let pieces_is : pieces_of has.lines ≡ proof.pieces = ap (λ (m : MatchedTrace). m.pieces) has.is in
    record {
      lines = all.lines;
      continues = subst (λ (ls : List Line). Continues (start proof.id) ls) (sym all.same) has.continues;
      fit = all.fit;
      proof_is = all.proof_is ∙ (λ i. record { id = proof.id; ranks = proof.ranks; tables = proof.tables; pieces = pieces_is i });
    }
