-- The lines of a proof and the proofs of a text, read one after the other.
use Rattle.std.proofs.Common.{◌≡◌, ℕ, zero, suc, ◌+◌, ◌^◌, ◌<◌, List, [], ◌∷◌, ◌++◌, length, map, Option, Some, None, Ok, Err, refl, sym, ap, subst, ◌∙◌, append_assoc, arith}
use Rattle.std.specs.List.{AllByRecursion, concat}
use Rattle.std.proofs.lemmas.List.{append-nil}
use Rattle.match_text.specs.Grammar.{Continues, IsEnd, place_after, start}
use Rattle.match_text.specs.MatchText.{end_line}
use Rattle.match_text.specs.declared.matched.Routed.{Routed}
use Rattle.match_text.specs.declared.place.Place.{Place}
use Rattle.matching.specs.declared.parts.Cell.{Cell}
use Rattle.potential_certificate.specs.inside.AddedPoint.{with_last_point}
use Rattle.potential_certificate.specs.Reading.{ProofRead, adding, certificate_fault_at, in_match, line_and_more, line_at, lines_at, lines_behind, empty_proof, proof_at, with_line}
use Rattle.potential_certificate.specs.declared.proof.TraceProof.{TraceProof}
use Rattle.potential_certificate.specs.declared.proof_line.ProofLine.{ProofLine}
use Rattle.potential_certificate.specs.declared.proof_line.ProofLine.TheVariants.{Missing, Layer, Piece, End}
use Rattle.potential_certificate.proofs.ProofLines.{FitsLine, line_takes, line_text}
use Rattle.potential_certificate.proofs.NextLines.{line_again, line_goes_down}

-- ---- the lines of a proof

-- the proof of lines, and their text with the end line
abbrev pub proof_of : ℕ → List ProofLine → TraceProof
proof_of id [] = empty_proof id
proof_of id (line ∷ lines) = with_line line (proof_of id lines)

abbrev pub lines_text : Place → List ProofLine → List ℕ
lines_text place [] = end_line place.id
lines_text place (line ∷ lines) = line_text place line ++ lines_text (place_after place (in_match line)) lines

-- each of them by itself
abbrev pub texts_of : Place → List ProofLine → List (List ℕ)
texts_of place [] = end_line place.id ∷ []
texts_of place (line ∷ lines) = line_text place line ∷ texts_of (place_after place (in_match line)) lines

pub texts_joined : (place : Place) (lines : List ProofLine) → concat (texts_of place lines) ≡ lines_text place lines
texts_joined place [] = append-nil (end_line place.id)
texts_joined place (line ∷ lines) = ap (λ (t : List ℕ). line_text place line ++ t) (texts_joined (place_after place (in_match line)) lines)

pub same_id : (place : Place) (line : ProofLine) → (place_after place (in_match line)).id ≡ place.id
same_id place Missing = refl
same_id place (Layer rank cells) = refl
same_id place (Piece piece) = refl
same_id place End = refl

-- what was read of lines and their end line
pub record LinesTaken (place : Place) (text : List ℕ) (proof : TraceProof) (rest : List ℕ) : Type 0 where
  pub lines : List ProofLine
  pub continues : Continues place (map in_match lines)
  pub fit : AllByRecursion FitsLine lines
  pub proof_is : proof ≡ proof_of place.id lines
  pub text_is : text ≡ lines_text place lines ++ rest

abbrev Takes : List ℕ → ℕ → Type 0
Takes whole fuel = (place : Place) (text : List ℕ) (proof : TraceProof) (rest : List ℕ) → lines_at whole fuel place text ≡ Ok (proof, rest) → LinesTaken place text proof rest

ok_parts : (p q : TraceProof) (a b : List ℕ) → ◌≡◌ {A = ProofRead} (Ok (p, a)) (Ok (q, b)) → (p ≡ q) × (a ≡ b)
ok_parts p q a b e = let same : (p, a) ≡ (q, b) = cc in (ap (λ (x : TraceProof × List ℕ). x.0) same, ap (λ (x : TraceProof × List ℕ). x.1) same)

-- a line that is not the end line, and those behind it
one_more : (place : Place) (text : List ℕ) (line : ProofLine) (next : List ℕ) (proof : TraceProof) (rest : List ℕ) → line_at place text ≡ Some (line, next) → ¬ IsEnd (in_match line)
    → (read : ProofRead) → ((p : TraceProof) (r : List ℕ) → read ≡ Ok (p, r) → LinesTaken (place_after place (in_match line)) next p r) → adding line read ≡ Ok (proof, rest) → LinesTaken place text proof rest
one_more place text line next proof rest first other (Err fault) more e = absurd cc
one_more place text line next proof rest first other (Ok (p, r)) more e =
    let parts = ok_parts (with_line line p) proof r rest e in
    let taken = line_takes place text line next first in
    let others = more p r refl in
    subst (λ (y : TraceProof × List ℕ). LinesTaken place text y.0 y.1) (λ i. (parts.0 i, parts.1 i))
    (record {
      lines = line ∷ others.lines;
      continues = (other, taken.allowed, others.continues);
      fit = (taken.fits, others.fit);
      proof_is = ap (with_line line) (others.proof_is ∙ ap (λ (n : ℕ). proof_of n others.lines) (same_id place line));
      text_is = taken.text_is ∙ ap (λ (t : List ℕ). line_text place line ++ t) others.text_is ∙ sym (append_assoc (line_text place line) (lines_text (place_after place (in_match line)) others.lines) r);
    })

no_more : (place : Place) (text : List ℕ) (next : List ℕ) (proof : TraceProof) (rest : List ℕ) → line_at place text ≡ Some (End, next) → ◌≡◌ {A = ProofRead} (Ok (empty_proof place.id, next)) (Ok (proof, rest)) → LinesTaken place text proof rest
no_more place text next proof rest first e =
    let parts = ok_parts (empty_proof place.id) proof next rest e in
    let taken = line_takes place text End next first in
    subst (λ (y : TraceProof × List ℕ). LinesTaken place text y.0 y.1) (λ i. (parts.0 i, parts.1 i))
    (record { lines = []; continues = taken.allowed; fit = tt; proof_is = refl; text_is = taken.text_is })

pub lines_take : (whole : List ℕ) (fuel : ℕ) → Takes whole fuel
lines_take whole zero place text proof rest e = absurd cc
lines_take whole (suc fuel) place text proof rest e = by_line (λ p t q r h. lines_take whole fuel p t q r h) (line_at place text) refl e
  where
    by_kind : Takes whole fuel → (line : ProofLine) (next : List ℕ) → line_at place text ≡ Some (line, next) → line_and_more (lines_at whole fuel) place line next ≡ Ok (proof, rest) → LinesTaken place text proof rest
    by_kind takes End next is e = no_more place text next proof rest is e
    by_kind takes Missing next is e = one_more place text Missing next proof rest is (λ h. h) (lines_at whole fuel (place_after place (in_match Missing)) next) (λ p r h. takes (place_after place (in_match Missing)) next p r h) e
    by_kind takes (Layer rank cells) next is e =
        one_more place text (Layer rank cells) next proof rest is (λ h. h) (lines_at whole fuel (place_after place (in_match (Layer rank cells))) next) (λ p r h. takes (place_after place (in_match (Layer rank cells))) next p r h) e
    by_kind takes (Piece piece) next is e =
        one_more place text (Piece piece) next proof rest is (λ h. h) (lines_at whole fuel (place_after place (in_match (Piece piece))) next) (λ p r h. takes (place_after place (in_match (Piece piece))) next p r h) e

    by_line : Takes whole fuel → (read : Option (ProofLine × List ℕ)) → line_at place text ≡ read → lines_behind (lines_at whole fuel) whole place text read ≡ Ok (proof, rest) → LinesTaken place text proof rest
    by_line takes None is e = absurd cc
    by_line takes (Some (line, next)) is e = by_kind takes line next is e

pub other_line : (whole : List ℕ) (fuel : ℕ) (place : Place) (line : ProofLine) (text : List ℕ) → ¬ IsEnd (in_match line)
    → line_and_more (lines_at whole fuel) place line text ≡ adding line (lines_at whole fuel (place_after place (in_match line)) text)
other_line whole fuel place Missing text h = refl
other_line whole fuel place (Layer rank cells) text h = refl
other_line whole fuel place (Piece piece) text h = refl
other_line whole fuel place End text h = absurd (h tt)

pub lines_again : (whole : List ℕ) (lines : List ProofLine) (place : Place) (rest : List ℕ) (fuel : ℕ) → place.id < 2 ^ 32 → Continues place (map in_match lines) → AllByRecursion FitsLine lines
    → length (lines_text place lines ++ rest) < fuel → lines_at whole fuel place (lines_text place lines ++ rest) ≡ Ok (proof_of place.id lines, rest)
lines_again whole lines place rest zero small continues fit enough = absurd (omega (arith, enough))
lines_again whole [] place rest (suc fuel) small continues fit enough =
    ap (lines_behind (lines_at whole fuel) whole place (end_line place.id ++ rest)) (line_again place End rest small continues tt)
lines_again whole (line ∷ lines) place rest (suc fuel) small continues fit enough =
    let after = place_after place (in_match line) in
    let behind = lines_text after lines ++ rest in
    let text_is : lines_text place (line ∷ lines) ++ rest ≡ line_text place line ++ behind = append_assoc (line_text place line) (lines_text after lines) rest in
    let first = line_again place line behind small continues.1 fit.0 in
    let down = line_goes_down place (line_text place line ++ behind) line behind first in
    let more = lines_again whole lines after rest fuel (subst (λ (n : ℕ). n < 2 ^ 32) (sym (same_id place line)) small) continues.2 fit.1 (omega (arith, enough, ap length text_is, down)) in
    ap (lines_at whole (suc fuel) place) text_is
    ∙ ap (lines_behind (lines_at whole fuel) whole place (line_text place line ++ behind)) first
    ∙ other_line whole fuel place line behind continues.0
    ∙ ap (adding line) (more ∙ ap (λ (n : ℕ). let y : ProofRead = Ok (proof_of n lines, rest) in y) (same_id place line))

-- ---- the loop over the lines of a proof

-- the lists of one proof before those of another
abbrev pub front_proof : TraceProof → TraceProof → TraceProof
front_proof front proof =
    record { id = proof.id; ranks = front.ranks ++ proof.ranks; tables = front.tables ++ proof.tables; pieces = front.pieces ++ proof.pieces }

abbrev pub prepended : TraceProof → ProofRead → ProofRead
prepended front (Ok read) = Ok (front_proof front read.0, read.1)
prepended front (Err fault) = Err fault

-- what the lines so far said and what those that are left say is what all say
pub record GoesOn (whole : List ℕ) (id : ℕ) (text : List ℕ) (front : TraceProof) (place : Place) (left : List ℕ) : Type 0 where
  pub fuel : ℕ
  pub enough : length left < fuel
  pub id_is : place.id ≡ id
  pub own : front.id ≡ id
  pub are : prepended front (lines_at whole fuel place left) ≡ proof_at whole id text

prepended_none : (id : ℕ) (read : ProofRead) → prepended (empty_proof id) read ≡ read
prepended_none id (Ok read) = refl
prepended_none id (Err fault) = refl

pub begins : (whole : List ℕ) (id : ℕ) (text : List ℕ) → GoesOn whole id text (empty_proof id) (start id) text
begins whole id text = record { fuel = length text + 1; enough = omega arith; id_is = refl; own = refl; are = prepended_none id (proof_at whole id text) }

-- the front with a line behind it
abbrev pub with_last : TraceProof → ProofLine → TraceProof
with_last front Missing = with_last_point front None []
with_last front (Layer rank cells) = with_last_point front (Some rank) cells
with_last front (Piece piece) = record { id = front.id; ranks = front.ranks; tables = front.tables; pieces = front.pieces ++ piece ∷ [] }
with_last front End = front

point_added : (front : TraceProof) (rank : Option ℕ) (cells : List Cell) (p : TraceProof) (rest : List ℕ)
    → ◌≡◌ {A = ProofRead} (Ok (front_proof (with_last_point front rank cells) p, rest))
    (Ok (record { id = p.id; ranks = front.ranks ++ rank ∷ p.ranks; tables = front.tables ++ cells ∷ p.tables; pieces = front.pieces ++ p.pieces }, rest))
point_added front rank cells p rest =
    let first = append_assoc front.ranks (rank ∷ []) p.ranks in
    let second = append_assoc front.tables (cells ∷ []) p.tables in
    λ i. Ok (record { id = p.id; ranks = first i; tables = second i; pieces = front.pieces ++ p.pieces }, rest)

piece_added : (front : TraceProof) (piece : Routed) (p : TraceProof) (rest : List ℕ)
    → ◌≡◌ {A = ProofRead} (Ok (front_proof (with_last front (Piece piece)) p, rest))
    (Ok (record { id = p.id; ranks = front.ranks ++ p.ranks; tables = front.tables ++ p.tables; pieces = front.pieces ++ piece ∷ p.pieces }, rest))
piece_added front piece p rest =
    let third = append_assoc front.pieces (piece ∷ []) p.pieces in
    λ i. Ok (record { id = p.id; ranks = front.ranks ++ p.ranks; tables = front.tables ++ p.tables; pieces = third i }, rest)

line_added : (front : TraceProof) (line : ProofLine) (read : ProofRead) → ¬ IsEnd (in_match line) → prepended (with_last front line) read ≡ prepended front (adding line read)
line_added front line (Err fault) other = refl
line_added front Missing (Ok (p, rest)) other = point_added front None [] p rest
line_added front (Layer rank cells) (Ok (p, rest)) other = point_added front (Some rank) cells p rest
line_added front (Piece piece) (Ok (p, rest)) other = piece_added front piece p rest
line_added front End (Ok (p, rest)) other = absurd (other tt)

same_front : (front : TraceProof) (line : ProofLine) → (with_last front line).id ≡ front.id
same_front front Missing = refl
same_front front (Layer rank cells) = refl
same_front front (Piece piece) = refl
same_front front End = refl

goes_on : (whole : List ℕ) (id : ℕ) (text : List ℕ) (front : TraceProof) (place : Place) (left : List ℕ) (line : ProofLine) (next : List ℕ)
    → line_at place left ≡ Some (line, next) → ¬ IsEnd (in_match line) → GoesOn whole id text front place left
    → GoesOn whole id text (with_last front line) (place_after place (in_match line)) next
goes_on whole id text front place left line next first other so_far = by_fuel so_far.fuel so_far.enough so_far.are
  where
    by_fuel : (fuel : ℕ) → length left < fuel → prepended front (lines_at whole fuel place left) ≡ proof_at whole id text
        → GoesOn whole id text (with_last front line) (place_after place (in_match line)) next
    by_fuel zero enough are = absurd (omega (arith, enough))
    by_fuel (suc fuel) enough are = record {
      fuel = fuel;
      enough = omega (arith, enough, line_goes_down place left line next first);
      id_is = same_id place line ∙ so_far.id_is;
      own = same_front front line ∙ so_far.own;
      are = line_added front line (lines_at whole fuel (place_after place (in_match line)) next) other
          ∙ ap (prepended front) (sym (ap (lines_behind (lines_at whole fuel) whole place left) first ∙ other_line whole fuel place line next other))
          ∙ are;
    }

-- the same, as the code knows it: the line is this one, and the front and the place are those with it
pub reads_on : (whole : List ℕ) (id : ℕ) (text : List ℕ) (front : TraceProof) (place : Place) (left : List ℕ) (line kind : ProofLine) (next : List ℕ) (front' : TraceProof) (place' : Place)
    → Some (line, next) ≡ line_at place left → line ≡ kind → ¬ IsEnd (in_match kind) → front' ≡ with_last front kind
    → place' ≡ place_after place (in_match line) → GoesOn whole id text front place left → GoesOn whole id text front' place' next
reads_on whole id text front place left line kind next front' place' first is other front_is place_is so_far =
    let first_is : line_at place left ≡ Some (kind, next) = sym first ∙ ap (λ (l : ProofLine). let y : Option (ProofLine × List ℕ) = Some (l, next) in y) is in
    let same_place : place_after place (in_match kind) ≡ place' = ap (λ (l : ProofLine). place_after place (in_match l)) (sym is) ∙ sym place_is in
    subst (λ (p : Place). GoesOn whole id text front' p next) same_place
    (subst (λ (x : TraceProof). GoesOn whole id text x (place_after place (in_match kind)) next) (sym front_is)
    (goes_on whole id text front place left kind next first_is other so_far))

pub fails : (whole : List ℕ) (id : ℕ) (text : List ℕ) (front : TraceProof) (place : Place) (left : List ℕ)
    → line_at place left ≡ None → GoesOn whole id text front place left → proof_at whole id text ≡ Err (certificate_fault_at whole left)
fails whole id text front place left none so_far = by_fuel so_far.fuel so_far.enough so_far.are
  where
    by_fuel : (fuel : ℕ) → length left < fuel → prepended front (lines_at whole fuel place left) ≡ proof_at whole id text → proof_at whole id text ≡ Err (certificate_fault_at whole left)
    by_fuel zero enough are = absurd (omega (arith, enough))
    by_fuel (suc fuel) enough are = sym are ∙ ap (prepended front) (ap (lines_behind (lines_at whole fuel) whole place left) none)

ended_proof : (id : ℕ) (front : TraceProof) (place : Place) (rest : List ℕ) → place.id ≡ id → front.id ≡ id → prepended front (Ok (empty_proof place.id, rest)) ≡ Ok (front, rest)
ended_proof id front place rest same own =
    let first = append-nil front.ranks in
    let second = append-nil front.tables in
    let third = append-nil front.pieces in
    let ids = same ∙ sym own in
    λ i. Ok (record { id = ids i; ranks = first i; tables = second i; pieces = third i }, rest)

pub ends : (whole : List ℕ) (id : ℕ) (text : List ℕ) (front : TraceProof) (place : Place) (left next : List ℕ)
    → line_at place left ≡ Some (End, next) → GoesOn whole id text front place left → proof_at whole id text ≡ Ok (front, next)
ends whole id text front place left next end so_far = by_fuel so_far.fuel so_far.enough so_far.are
  where
    by_fuel : (fuel : ℕ) → length left < fuel → prepended front (lines_at whole fuel place left) ≡ proof_at whole id text → proof_at whole id text ≡ Ok (front, next)
    by_fuel zero enough are = absurd (omega (arith, enough))
    by_fuel (suc fuel) enough are =
        sym are ∙ ap (prepended front) (ap (lines_behind (lines_at whole fuel) whole place left) end) ∙ ended_proof id front place next so_far.id_is so_far.own
