-- Bytes of a line that does not end in them.
use Rattle.std.proofs.Common.{◌≡◌, ℕ, ◌+◌, ◌<◌, ◌≤◌, false, ◌==◌, List, [], ◌∷◌, ◌++◌, length, refl, sym, ◌∙◌, ap, arith, append_assoc, append-nil, length-append, inl, inr}
use Rattle.std.proofs.lemmas.Bool.{le-leb, lt-leb, cases_lt}
use Rattle.std.proofs.lemmas.List.Elements.{All-head, All-tail}
use Rattle.std.proofs.lemmas.List.Sums.{fold-append}
use Rattle.trace_reader.specs.Content.{read_line}
use Rattle.trace_reader.specs.Reading.{Progress, reads, refused, read_byte, read_bytes, file_limit, line_limit, end_line, closed_of}
use Rattle.trace_reader.specs.declared.trace.Trace.{Trace}
use Rattle.trace_reader.specs.declared.fault.TraceFault.{TraceFault}
use Rattle.trace_reader.specs.declared.fault.TraceFault.TheVariants.{FileTooLong, LineTooLong}
use Rattle.trace_reader.proofs.Places.{HasNo}

both : {A B C : Type 0} (f : A → B → C) {a a' : A} {b b' : B} → a ≡ a' → b ≡ b' → f a b ≡ f a' b'
both f {a' = a'} {b = b} e h = ap (λ x. f x b) e ∙ ap (λ y. f a' y) h

-- the progress after bytes that do not end the line
abbrev pub with_part : Progress → List ℕ → Progress
with_part p part = record { bytes = p.bytes + length part; lines = p.lines; line = p.line ++ part; content = p.content }

pub refused_stays : (closed : List Trace) (fault : TraceFault) (bytes : List ℕ) → read_bytes (refused closed fault) bytes ≡ refused closed fault
unfolding read_byte
refused_stays closed fault [] = refl
refused_stays closed fault (b ∷ bytes) = refused_stays closed fault bytes

pub one_byte : (p : Progress) (b : ℕ) → p.bytes < file_limit → length p.line < line_limit → (b == 10) ≡ false → read_byte (reads p) b ≡ reads (with_part p (b ∷ []))
unfolding read_byte
one_byte p b file line other = rw (lt-leb file_limit p.bytes file, other, lt-leb line_limit (length p.line) line)

part_more : (p : Progress) (b : ℕ) (part : List ℕ) → with_part (with_part p (b ∷ [])) part ≡ with_part p (b ∷ part)
part_more p b part =
    let bytes : p.bytes + 1 + length part ≡ p.bytes + length (b ∷ part) = omega arith in
    both (λ n xs. record { bytes = n; lines = p.lines; line = xs; content = p.content }) bytes (append_assoc p.line (b ∷ []) part)

pub read_part : (part : List ℕ) (p : Progress) → HasNo 10 part → p.bytes + length part ≤ file_limit → length p.line + length part ≤ line_limit → read_bytes (reads p) part ≡ reads (with_part p part)
read_part [] p none file line = both (λ n xs. reads (record { bytes = n; lines = p.lines; line = xs; content = p.content })) (omega arith) (sym (append-nil p.line))
read_part (b ∷ part) p none file line =
    let one = one_byte p b (omega arith) (omega arith) (All-head (λ c. (c == 10) ≡ false) b part none) in
    ap (λ r. read_bytes r part) one
    ∙ read_part part (with_part p (b ∷ [])) (All-tail (λ c. (c == 10) ≡ false) b part none) (omega arith) (omega (arith, length-append p.line (b ∷ [])))
    ∙ ap reads (part_more p b part)

file_too_long : (p : Progress) (b : ℕ) → file_limit ≤ p.bytes → read_byte (reads p) b ≡ refused p.content.closed FileTooLong
unfolding read_byte
file_too_long p b full = rw (le-leb file_limit p.bytes full)

line_too_long : (p : Progress) (b : ℕ) → p.bytes < file_limit → line_limit ≤ length p.line → (b == 10) ≡ false → read_byte (reads p) b ≡ refused p.content.closed (LineTooLong (p.lines + 1))
unfolding read_byte
line_too_long p b file full other = rw (lt-leb file_limit p.bytes file, other, le-leb line_limit (length p.line) full)

pub line_end : (p : Progress) → p.bytes < file_limit → read_byte (reads p) 10 ≡ end_line p (read_line (p.lines + 1) p.content p.line)
unfolding read_byte
line_end p file = rw (lt-leb file_limit p.bytes file)

-- a part of a line in which the limit of the file is passed, and that of the line not before
pub read_file_too_long : (part : List ℕ) (p : Progress) → HasNo 10 part → p.bytes ≤ file_limit → file_limit < p.bytes + length part
    → file_limit + length p.line ≤ p.bytes + line_limit → read_bytes (reads p) part ≡ refused p.content.closed FileTooLong
read_file_too_long [] p none file long first = absurd (omega arith)
read_file_too_long (b ∷ part) p none file long first =
    elim (cases_lt p.bytes file_limit) [
      | inl below ↦
          ap (λ r. read_bytes r part) (one_byte p b below (omega arith) (All-head (λ c. (c == 10) ≡ false) b part none))
          ∙ read_file_too_long part (with_part p (b ∷ [])) (All-tail (λ c. (c == 10) ≡ false) b part none) (omega arith) (omega arith) (omega (arith, length-append p.line (b ∷ [])))
      | inr full ↦ ap (λ r. read_bytes r part) (file_too_long p b full) ∙ refused_stays p.content.closed FileTooLong part
    ]

-- or that of the line before
pub read_line_too_long : (part : List ℕ) (p : Progress) → HasNo 10 part → length p.line ≤ line_limit → line_limit < length p.line + length part
    → p.bytes + line_limit < file_limit + length p.line → read_bytes (reads p) part ≡ refused p.content.closed (LineTooLong (p.lines + 1))
read_line_too_long [] p none line long first = absurd (omega arith)
read_line_too_long (b ∷ part) p none line long first =
    let other = All-head (λ c. (c == 10) ≡ false) b part none in
    elim (cases_lt (length p.line) line_limit) [
      | inl below ↦
          ap (λ r. read_bytes r part) (one_byte p b (omega arith) below other)
          ∙ read_line_too_long part (with_part p (b ∷ [])) (All-tail (λ c. (c == 10) ≡ false) b part none) (omega (arith, length-append p.line (b ∷ []))) (omega (arith, length-append p.line (b ∷ []))) (omega (arith, length-append p.line (b ∷ [])))
      | inr full ↦ ap (λ r. read_bytes r part) (line_too_long p b (omega arith) full other) ∙ refused_stays p.content.closed (LineTooLong (p.lines + 1)) part
    ]

-- a line that ends
pub read_ended : (p : Progress) (part : List ℕ) → HasNo 10 part → p.bytes + length part < file_limit → length p.line + length part ≤ line_limit
    → read_bytes (reads p) (part ++ 10 ∷ []) ≡ end_line (with_part p part) (read_line (p.lines + 1) p.content (p.line ++ part))
read_ended p part none file line =
    fold-append read_byte (reads p) part (10 ∷ []) ∙ ap (λ r. read_byte r 10) (read_part part p none (omega arith) line) ∙ line_end (with_part p part) file

pub read_end_too_long : (p : Progress) (part : List ℕ) → HasNo 10 part → p.bytes + length part ≡ file_limit → length p.line + length part ≤ line_limit
    → read_bytes (reads p) (part ++ 10 ∷ []) ≡ refused p.content.closed FileTooLong
read_end_too_long p part none file line =
    fold-append read_byte (reads p) part (10 ∷ []) ∙ ap (λ r. read_byte r 10) (read_part part p none (omega arith) line) ∙ file_too_long (with_part p part) 10 (omega arith)

-- nothing is closed in a part of a line
pub closed_of-part : (part : List ℕ) (p : Progress) → HasNo 10 part → closed_of (read_bytes (reads p) part) ≡ p.content.closed
closed_of-part [] p none = refl
closed_of-part (b ∷ part) p none =
    let other = All-head (λ c. (c == 10) ≡ false) b part none in
    let refuses = λ (fault : TraceFault) (e : read_byte (reads p) b ≡ refused p.content.closed fault).
    ap (λ r. closed_of (read_bytes r part)) e ∙ ap closed_of (refused_stays p.content.closed fault part) in
    elim (cases_lt p.bytes file_limit) [
      | inr full ↦ refuses FileTooLong (file_too_long p b full)
      | inl file ↦ elim (cases_lt (length p.line) line_limit) [
        | inr full ↦ refuses (LineTooLong (p.lines + 1)) (line_too_long p b file full other)
        | inl line ↦
            ap (λ r. closed_of (read_bytes r part)) (one_byte p b file line other)
            ∙ closed_of-part part (with_part p (b ∷ [])) (All-tail (λ c. (c == 10) ≡ false) b part none)
      ]
    ]
