-- One line of a chunk, seen from the reader.
use Rattle.std.proofs.Common.{◌≡◌, ◌≢◌, ℕ, ◌+◌, ◌<◌, ◌≤◌, false, ◌==◌, List, [], ◌∷◌, ◌++◌, length, take, get_or, sym, ◌∙◌, ap, subst, inl, inr, arith}
use Rattle.std.proofs.lemmas.Bool.{eqb-true}
use Rattle.std.proofs.lemmas.List.{take_more, take-take}
use Rattle.std.proofs.lemmas.List.Elements.{All-take}
use Rattle.std.proofs.lemmas.List.Sums.{fold-append}
use Rattle.memchr.specs.Find.{Passes, is_byte}
use Rattle.trace_reader.specs.Content.{read_line}
use Rattle.trace_reader.specs.inside.Parts.{HasNoEnd}
use Rattle.trace_reader.specs.Reading.{Reading, reads, refused, read_byte, read_bytes, file_limit, end_line, closed_of}
use Rattle.trace_reader.specs.Reader.{progress_of, content_of}
use Rattle.trace_reader.specs.inside.Steps.{start_of, Exceeds, HasRoom}
use Rattle.trace_reader.specs.declared.reader.TraceReader.{TraceReader}
use Rattle.trace_reader.specs.declared.trace.Trace.{Trace}
use Rattle.trace_reader.specs.declared.fault.TraceFault.{TraceFault}
use Rattle.trace_reader.specs.declared.fault.TraceFault.TheVariants.{FileTooLong}
use Rattle.trace_reader.proofs.Unended.{with_part, refused_stays, read_part, read_file_too_long, read_line_too_long, read_ended, read_end_too_long, closed_of-part}

pub refused_in_part : (reader : TraceReader) (part : List ℕ) (given : List Trace) (fault : TraceFault) → HasNoEnd part → Exceeds reader (length part) fault
    → read_bytes (start_of reader given) part ≡ refused given fault
refused_in_part reader part given fault none (inl exceeds) =
    read_file_too_long part (progress_of reader given) none reader.limited exceeds.1 exceeds.2 ∙ ap (refused given) (sym exceeds.0)
refused_in_part reader part given fault none (inr exceeds) =
    read_line_too_long part (progress_of reader given) none reader.short exceeds.1 exceeds.2 ∙ ap (refused given) (sym exceeds.0)

-- a fault in the front of some bytes is their fault
pub refused_in_front : (reading : Reading) (front back : List ℕ) (given : List Trace) (fault : TraceFault) → read_bytes reading front ≡ refused given fault
    → read_bytes reading (front ++ back) ≡ refused given fault
refused_in_front reading front back given fault e =
    fold-append read_byte reading front back ∙ ap (λ r. read_bytes r back) e ∙ refused_stays given fault back

pub reached_in_part : (reader : TraceReader) (part : List ℕ) (given : List Trace) → HasNoEnd part → HasRoom reader (length part)
    → read_bytes (start_of reader given) part ≡ reads (with_part (progress_of reader given) part)
reached_in_part reader part given none room = read_part part (progress_of reader given) none room.file room.line

pub refused_at_end : (reader : TraceReader) (part : List ℕ) (given : List Trace) → HasNoEnd part → HasRoom reader (length part) → reader.bytes + length part ≡ file_limit
    → read_bytes (start_of reader given) (part ++ 10 ∷ []) ≡ refused given FileTooLong
refused_at_end reader part given none room full = read_end_too_long (progress_of reader given) part none full room.line

pub ended : (reader : TraceReader) (part : List ℕ) (given : List Trace) → HasNoEnd part → HasRoom reader (length part) → reader.bytes + length part ≢ file_limit
    → read_bytes (start_of reader given) (part ++ 10 ∷ [])
    ≡ end_line (with_part (progress_of reader given) part) (read_line (reader.lines + 1) (content_of reader.content given) (reader.line ++ part))
ended reader part given none room below =
    let file = room.file in
    read_ended (progress_of reader given) part none (omega arith) room.line

-- the bytes up to the first LF
pub to_first_end : (bytes : List ℕ) (place : ℕ) → place < length bytes → Passes (is_byte 10) bytes place → take (place + 1) bytes ≡ take place bytes ++ 10 ∷ []
to_first_end bytes place below here = take_more bytes place 0 below ∙ ap (λ b. take place bytes ++ b ∷ []) (eqb-true (get_or bytes place 0) 10 here)

pub quiet_in_part : (reader : TraceReader) (bytes : List ℕ) (given : List Trace) (place k : ℕ) → HasNoEnd (take place bytes) → k ≤ place
    → closed_of (read_bytes (start_of reader given) (take k bytes)) ≡ given
quiet_in_part reader bytes given place k none below =
    let front : take k (take place bytes) ≡ take k bytes = take-take k place bytes below in
    subst (λ part. closed_of (read_bytes (start_of reader given) part) ≡ given) front
    (closed_of-part (take k (take place bytes)) (progress_of reader given) (All-take (λ b. (b == 10) ≡ false) k (take place bytes) none))
