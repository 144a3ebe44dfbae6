-- A certificate, read from its text line by line.
use Rattle.std.specs.Prelude.{ℕ, zero, suc, ◌-◌, ◌+◌, ◌^◌, ◌==◌, ◌&&◌, nat_le, nat_lt, Bool, false, if◌then◌else◌, List, [], ◌∷◌, length, codes}
use Rattle.std.specs.Prelude.{Option, Some, None, Result, Ok, Err}
use Rattle.std.specs.List.{list_any}
use Rattle.std.specs.Option.{option_map, option_or}
use Rattle.bounded_table.specs.Table.{TableRow}
use Rattle.cost_model.specs.declared.params.Params.{Params}
use Rattle.match_text.specs.Grammar.{place_after, start}
use Rattle.match_text.specs.PieceHead.{Head, head_at}
use Rattle.match_text.specs.Reading.{◌>>=◌, after_bytes, end_at, most32, none_at, number_after, number_at, numbered_at, trace_at}
use Rattle.match_text.specs.declared.matched.Label.TheVariants.{Missing as NoRoad, On}
use Rattle.match_text.specs.declared.matched.Routed.{Routed}
use Rattle.match_text.specs.declared.place.Line.{Line}
use Rattle.match_text.specs.declared.place.Line.TheVariants.{Point, Piece as PieceLine, End as EndLine}
use Rattle.match_text.specs.declared.place.Place.{Place}
use Rattle.matching.specs.Cells.{empty_cell}
use Rattle.matching.specs.declared.parts.Cell.{Cell}
pub use Rattle.row_text.specs.LineFaults.{line_count}
use Rattle.row_text.specs.Reading.{row_at}
use Rattle.potential_certificate.specs.CertificateText.{certificate_first_line, last_line, certificate_text_limit}
use Rattle.potential_certificate.specs.declared.fault.CertFault.{CertFault}
use Rattle.potential_certificate.specs.declared.fault.CertFault.TheVariants.{BadLine, Cut, TooLong}
use Rattle.potential_certificate.specs.declared.proof.Certificate.{Certificate}
use Rattle.potential_certificate.specs.declared.proof.TraceProof.{TraceProof}
use Rattle.potential_certificate.specs.declared.proof_line.ProofLine.{ProofLine}
use Rattle.potential_certificate.specs.declared.proof_line.ProofLine.TheVariants.{Missing, Layer, Piece, End}

-- ---- faults

-- the number, from 1, of the line that begins the rest `left` of a text
abbrev pub line_number : (whole left : List ℕ) → ℕ
line_number whole left = line_count whole - line_count left + 1

-- the fault where the line that begins `left` is not allowed: without LF it is not complete
abbrev pub certificate_fault_at : (whole left : List ℕ) → CertFault
certificate_fault_at whole left =
    if list_any (λ b. b == 10) left then BadLine (line_number whole left) else Cut

-- ---- the cells of a layer

-- the rank of the position before, if there is a `<`
abbrev pub pointer_behind : List ℕ → Option (List ℕ) → Option (Option ℕ × List ℕ)
pointer_behind text None = Some (None, text)
pointer_behind text (Some rest) = option_map (λ rank. (Some rank.0, rank.1)) (number_at most32 rest)

abbrev pub pointer_at : List ℕ → Option (Option ℕ × List ℕ)
pointer_at text = pointer_behind text (after_bytes (codes "<") text)

unfoldable pub cost_at : List ℕ → Option (Cell × List ℕ)
cost_at text = do
  cost ← number_after (codes " ") (2 ^ 64 - 1) text
  pointer ← pointer_at cost.1
  Some (record { cost = Some cost.0; «from» = pointer.0 }, pointer.1)

abbrev pub empty_or_cost : List ℕ → Option (List ℕ) → Option (Cell × List ℕ)
empty_or_cost text None = cost_at text
empty_or_cost text (Some rest) = Some (empty_cell, rest)

-- a cell, with the space before it
unfoldable pub cell_at_front : List ℕ → Option (Cell × List ℕ)
cell_at_front text = empty_or_cost text (after_bytes (codes " -") text)

-- ---- words up to the end of a line

-- if a word was read, it and those after it; else the end of the line
abbrev pub words_behind : {A : Type 0} → (List ℕ → Option (List A × List ℕ)) → List ℕ
    → Option (A × List ℕ) → Option (List A × List ℕ)
words_behind more text None = option_map (λ rest. ([], rest)) (after_bytes (10 ∷ []) text)
words_behind more text (Some x) = option_map (λ m. (x.0 ∷ m.0, m.1)) (more x.1)

-- all words up to the end of the line; no text has as many as `fuel`, which is above its length
abbrev pub words_at : {A : Type 0} → (List ℕ → Option (A × List ℕ)) → (fuel : ℕ) → List ℕ
    → Option (List A × List ℕ)
words_at word zero text = None
words_at word (suc fuel) text = words_behind (words_at word fuel) text (word text)

abbrev pub all_words_at : {A : Type 0} → (List ℕ → Option (A × List ℕ)) → List ℕ
    → Option (List A × List ℕ)
all_words_at word text = words_at word (length text + 1) text

-- ---- the lines of a proof

-- the rank is that of a cell, and there are at most 32
abbrev pub is_layer : ℕ → List Cell → Bool
is_layer rank cells = nat_lt rank (length cells) && nat_le (length cells) 32

abbrev pub layer_with : ℕ → List Cell × List ℕ → Option (ProofLine × List ℕ)
layer_with rank read = if is_layer rank read.0 then Some (Layer rank read.0, read.1) else None

-- the rank of the next position, and what comes after the word `cells`
unfoldable pub ranked_at : Place → List ℕ → Option (ℕ × List ℕ)
ranked_at place text = do
  point ← numbered_at (codes "layer ") place.next text
  rank ← number_after (codes " rank ") most32 point
  words ← after_bytes (codes " cells") rank.1
  Some (rank.0, words)

unfoldable pub layer_at : Place → List ℕ → Option (ProofLine × List ℕ)
layer_at place text = do
  head ← ranked_at place text
  cells ← all_words_at cell_at_front head.1
  layer_with head.0 cells

abbrev pub is_first : Option ℕ → ℕ → Bool
is_first None first = false
is_first (Some i) first = i == first

-- all waiting positions are of the piece
abbrev pub is_open : Place → Head → Bool
is_open place head = is_first place.waiting head.first && (head.last + 1 == place.next)

abbrev pub routed_piece : Head → List ℕ → Routed
routed_piece head route =
    record { first = head.first; last = head.last; cost = head.cost; route = route }

abbrev pub piece_with : Place → Head → List ℕ × List ℕ → Option (Routed × List ℕ)
piece_with place head read =
    if is_open place head && nat_lt 0 (length read.0) then Some (routed_piece head read.0, read.1) else None

unfoldable pub piece_at_front : Place → List ℕ → Option (Routed × List ℕ)
piece_at_front place text = do
  head ← head_at text
  route ← all_words_at (number_after (codes " ") most32) head.rest
  piece_with place head route

-- the line of a proof at the front that is allowed at this place; `none`, `piece` and `end` are those of a match
-- text
unfoldable pub line_at : Place → List ℕ → Option (ProofLine × List ℕ)
line_at place text =
    option_or (option_map (λ read. (Missing, read.1)) (none_at place text))
    (option_or (layer_at place text)
    (option_or (option_map (λ read. (Piece read.0, read.1)) (piece_at_front place text))
    (option_map (λ read. (End, read.1)) (end_at place text))))

-- the line of a match text with the same place after it
abbrev pub in_match : ProofLine → Line
in_match Missing = Point NoRoad
in_match (Layer rank cells) = Point (On 0 0 0)
in_match (Piece piece) = PieceLine piece
in_match End = EndLine

-- ---- a proof

abbrev pub with_position : Option ℕ → List Cell → TraceProof → TraceProof
with_position rank cells proof = record
    { id = proof.id; ranks = rank ∷ proof.ranks; tables = cells ∷ proof.tables; pieces = proof.pieces }

-- what this line says, and those after it
abbrev pub with_line : ProofLine → TraceProof → TraceProof
with_line Missing proof = with_position None [] proof
with_line (Layer rank cells) proof = with_position (Some rank) cells proof
with_line (Piece piece) proof = record
    { id = proof.id; ranks = proof.ranks; tables = proof.tables; pieces = piece ∷ proof.pieces }
with_line End proof = proof

abbrev pub empty_proof : ℕ → TraceProof
empty_proof id = record { id = id; ranks = []; tables = []; pieces = [] }

-- a proof and what comes after it, or the fault
abbrev pub ProofRead : Type 0
ProofRead = Result (TraceProof × List ℕ) CertFault

abbrev pub adding : ProofLine → ProofRead → ProofRead
adding line (Ok read) = Ok (with_line line read.0, read.1)
adding line (Err fault) = Err fault

abbrev pub line_and_more : (Place → List ℕ → ProofRead) → Place → ProofLine → List ℕ → ProofRead
line_and_more more place End rest = Ok (empty_proof place.id, rest)
line_and_more more place Missing rest =
    adding Missing (more (place_after place (in_match Missing)) rest)
line_and_more more place (Layer rank cells) rest =
    adding (Layer rank cells) (more (place_after place (in_match (Layer rank cells))) rest)
line_and_more more place (Piece piece) rest =
    adding (Piece piece) (more (place_after place (in_match (Piece piece))) rest)

abbrev pub lines_behind : (Place → List ℕ → ProofRead) → (whole : List ℕ) → Place → List ℕ
    → Option (ProofLine × List ℕ) → ProofRead
lines_behind more whole place text None = Err (certificate_fault_at whole text)
lines_behind more whole place text (Some read) = line_and_more more place read.0 read.1

-- the lines from this place on to the end line; no text has as many as `fuel`
abbrev pub lines_at : (whole : List ℕ) → (fuel : ℕ) → Place → List ℕ → ProofRead
lines_at whole zero place text = Err Cut
lines_at whole (suc fuel) place text =
    lines_behind (lines_at whole fuel) whole place text (line_at place text)

-- the proof of the trace with this id, from the line after its first one on
abbrev pub proof_at : (whole : List ℕ) → ℕ → List ℕ → ProofRead
proof_at whole id text = lines_at whole (length text + 1) (start id) text

-- ---- all proofs, and all rows

abbrev pub ProofsRead : Type 0
ProofsRead = Result (List TraceProof × List ℕ) CertFault

abbrev pub with_proof : TraceProof → ProofsRead → ProofsRead
with_proof proof (Ok read) = Ok (proof ∷ read.0, read.1)
with_proof proof (Err fault) = Err fault

abbrev pub proof_and_more : (List ℕ → ProofsRead) → ProofRead → ProofsRead
proof_and_more more (Ok read) = with_proof read.0 (more read.1)
proof_and_more more (Err fault) = Err fault

abbrev pub proofs_behind : (List ℕ → ProofsRead) → (whole : List ℕ) → List ℕ → Option (ℕ × List ℕ)
    → ProofsRead
proofs_behind more whole text None = Ok ([], text)
proofs_behind more whole text (Some trace) = proof_and_more more (proof_at whole trace.0 trace.1)

-- the proofs at the front, and what comes after them
abbrev pub proofs_at : (whole : List ℕ) → (fuel : ℕ) → List ℕ → ProofsRead
proofs_at whole zero text = Err Cut
proofs_at whole (suc fuel) text = proofs_behind (proofs_at whole fuel) whole text (trace_at text)

abbrev pub if_rises : ℕ → TableRow × List ℕ → Option (TableRow × List ℕ)
if_rises least read = if nat_le least read.0.origin then Some read else None

-- the row at the front, where its origin is not below `least`
abbrev pub row_at_least : ℕ → List ℕ → Option (TableRow × List ℕ)
row_at_least least text = row_at text >>= if_rises least

abbrev pub rows_after_row : (ℕ → List ℕ → List TableRow × List ℕ) → List ℕ → Option (TableRow × List ℕ)
    → List TableRow × List ℕ
rows_after_row more text None = ([], text)
rows_after_row more text (Some read) =
    let others = more (read.0.origin + 1) read.1 in (read.0 ∷ others.0, others.1)

-- the rows at the front whose origins rise from `least` on, and what comes after them
abbrev pub rows_at_front : (fuel least : ℕ) → List ℕ → List TableRow × List ℕ
rows_at_front zero least text = ([], text)
rows_at_front (suc fuel) least text = rows_after_row (rows_at_front fuel) text (row_at_least least text)

abbrev pub all_rows_at : List ℕ → List TableRow × List ℕ
all_rows_at text = rows_at_front (length text + 1) 0 text

-- ---- the certificate

-- nothing may come after the last line
abbrev pub ended : (whole : List ℕ) → Certificate → List ℕ → Option (List ℕ) → Result Certificate CertFault
ended whole c left None = Err (certificate_fault_at whole left)
ended whole c left (Some []) = Ok c
ended whole c left (Some (b ∷ bs)) = Err (BadLine (line_number whole (b ∷ bs)))

-- the certificate of these proofs and rows, where the last line with their counts is left
abbrev pub certificate_ended : (whole : List ℕ) → Certificate → List ℕ → Result Certificate CertFault
certificate_ended whole c left =
    ended whole c left (after_bytes (last_line (length c.proofs) (length c.rows)) left)

abbrev pub rows_and_end : (whole : List ℕ) → List TraceProof → List TableRow × List ℕ
    → Result Certificate CertFault
rows_and_end whole proofs read =
    certificate_ended whole (record { proofs = proofs; rows = read.0 }) read.1

abbrev pub proofs_and_rows : (whole : List ℕ) → ProofsRead → Result Certificate CertFault
proofs_and_rows whole (Err fault) = Err fault
proofs_and_rows whole (Ok read) = rows_and_end whole read.0 (all_rows_at read.1)

abbrev pub certificate_after_first : (whole : List ℕ) → Option (List ℕ) → Result Certificate CertFault
certificate_after_first whole None = Err (certificate_fault_at whole whole)
certificate_after_first whole (Some rest) =
    proofs_and_rows whole (proofs_at whole (length rest + 1) rest)

-- the certificate whose text this is, for these options, or the first fault
abbrev pub certificate_of_text : Params → List ℕ → Result Certificate CertFault
certificate_of_text p text =
    if nat_lt certificate_text_limit (length text) then Err TooLong
    else certificate_after_first text (after_bytes (certificate_first_line p) text)
