-- The proofs of a text, one after another.
use Rattle.std.proofs.Common.{◌≡◌, ℕ, zero, suc, ◌+◌, ◌<◌, List, [], ◌∷◌, ◌++◌, length, Some, None, Ok, Err, refl, sym, ap, ◌∙◌, append_assoc, arith, length-append}
use Rattle.std.proofs.lemmas.List.{append-nil}
use Rattle.match_text.specs.Grammar.{place_after, start}
use Rattle.match_text.specs.MatchText.{end_line, trace_line}
use Rattle.match_text.specs.Reading.{trace_at}
use Rattle.match_text.specs.declared.place.Place.{Place}
use Rattle.match_text.proofs.Lines.{trace_takes}
use Rattle.potential_certificate.specs.Reading.{ProofsRead, in_match, proof_and_more, proof_at, proofs_at, proofs_behind, with_proof}
use Rattle.potential_certificate.specs.declared.fault.CertFault.{CertFault}
use Rattle.potential_certificate.specs.declared.proof.TraceProof.{TraceProof}
use Rattle.potential_certificate.specs.declared.proof_line.ProofLine.{ProofLine}
use Rattle.potential_certificate.proofs.ProofLines.{line_text}
use Rattle.potential_certificate.proofs.ProofsRead.{lines_text, lines_take}

-- ---- the proofs of a text

lines_go_down : (place : Place) (lines : List ProofLine) (rest : List ℕ) → length rest < length (lines_text place lines ++ rest)
lines_go_down place [] rest = line_goes_down_end
  where
    line_goes_down_end : length rest < length (end_line place.id ++ rest)
    line_goes_down_end = omega (arith, length-append (end_line place.id) rest)
lines_go_down place (line ∷ lines) rest =
    let after = place_after place (in_match line) in
    omega (arith, lines_go_down after lines rest, ap length (append_assoc (line_text place line) (lines_text after lines) rest), length-append (line_text place line) (lines_text after lines ++ rest))

pub proof_goes_down : (whole : List ℕ) (left : List ℕ) (id : ℕ) (text : List ℕ) (proof : TraceProof) (rest : List ℕ) → trace_at left ≡ Some (id, text) → proof_at whole id text ≡ Ok (proof, rest) → length rest < length left
proof_goes_down whole left id text proof rest trace e =
    let taken = lines_take whole (length text + 1) (start id) text proof rest e in
    omega (arith, lines_go_down (start id) taken.lines rest, ap length taken.text_is, ap length (trace_takes left id text trace).0, length-append (trace_line id) text)

abbrev pub with_front : List TraceProof → ProofsRead → ProofsRead
with_front front (Ok read) = Ok (front ++ read.0, read.1)
with_front front (Err fault) = Err fault

-- the proofs so far and those of what is left are those of all
pub record ProofsGoOn (whole text : List ℕ) (front : List TraceProof) (left : List ℕ) : Type 0 where
  pub fuel : ℕ
  pub enough : length left < fuel
  pub are : with_front front (proofs_at whole fuel left) ≡ proofs_at whole (length text + 1) text

front_none : (read : ProofsRead) → with_front [] read ≡ read
front_none (Ok read) = refl
front_none (Err fault) = refl

front_more : (front : List TraceProof) (proof : TraceProof) (read : ProofsRead) → with_front (front ++ proof ∷ []) read ≡ with_front front (with_proof proof read)
front_more front proof (Ok (others, rest)) = ap (λ (t : List TraceProof). let y : ProofsRead = Ok (t, rest) in y) (append_assoc front (proof ∷ []) others)
front_more front proof (Err fault) = refl

pub proofs_begin : (whole text : List ℕ) → ProofsGoOn whole text [] text
proofs_begin whole text = record { fuel = length text + 1; enough = omega arith; are = front_none (proofs_at whole (length text + 1) text) }

pub proofs_go_on : (whole text : List ℕ) (front : List TraceProof) (left : List ℕ) (id : ℕ) (lines : List ℕ) (proof : TraceProof) (next : List ℕ)
    → trace_at left ≡ Some (id, lines) → proof_at whole id lines ≡ Ok (proof, next) → ProofsGoOn whole text front left → ProofsGoOn whole text (front ++ proof ∷ []) next
proofs_go_on whole text front left id lines proof next trace first so_far = by_fuel so_far.fuel so_far.enough so_far.are
  where
    by_fuel : (fuel : ℕ) → length left < fuel → with_front front (proofs_at whole fuel left) ≡ proofs_at whole (length text + 1) text → ProofsGoOn whole text (front ++ proof ∷ []) next
    by_fuel zero enough are = absurd (omega (arith, enough))
    by_fuel (suc fuel) enough are = record {
      fuel = fuel;
      enough = omega (arith, enough, proof_goes_down whole left id lines proof next trace first);
      are = front_more front proof (proofs_at whole fuel next)
          ∙ ap (with_front front) (sym (ap (proofs_behind (proofs_at whole fuel) whole left) trace ∙ ap (proof_and_more (proofs_at whole fuel)) first)) ∙ are;
    }

pub proofs_fail : (whole text : List ℕ) (front : List TraceProof) (left : List ℕ) (id : ℕ) (lines : List ℕ) (fault : CertFault)
    → trace_at left ≡ Some (id, lines) → proof_at whole id lines ≡ Err fault → ProofsGoOn whole text front left → proofs_at whole (length text + 1) text ≡ Err fault
proofs_fail whole text front left id lines fault trace first so_far = by_fuel so_far.fuel so_far.enough so_far.are
  where
    by_fuel : (fuel : ℕ) → length left < fuel → with_front front (proofs_at whole fuel left) ≡ proofs_at whole (length text + 1) text → proofs_at whole (length text + 1) text ≡ Err fault
    by_fuel zero enough are = absurd (omega (arith, enough))
    by_fuel (suc fuel) enough are =
        sym are ∙ ap (with_front front) (ap (proofs_behind (proofs_at whole fuel) whole left) trace ∙ ap (proof_and_more (proofs_at whole fuel)) first)

pub proofs_end : (whole text : List ℕ) (front : List TraceProof) (left : List ℕ) → trace_at left ≡ None → ProofsGoOn whole text front left → proofs_at whole (length text + 1) text ≡ Ok (front, left)
proofs_end whole text front left none so_far = by_fuel so_far.fuel so_far.enough so_far.are
  where
    by_fuel : (fuel : ℕ) → length left < fuel → with_front front (proofs_at whole fuel left) ≡ proofs_at whole (length text + 1) text → proofs_at whole (length text + 1) text ≡ Ok (front, left)
    by_fuel zero enough are = absurd (omega (arith, enough))
    by_fuel (suc fuel) enough are =
        sym are ∙ ap (with_front front) (ap (proofs_behind (proofs_at whole fuel) whole left) none) ∙ ap (λ (t : List TraceProof). let y : ProofsRead = Ok (t, left) in y) (append-nil front)
