-- The lines of a trace file, read one after the other.
use Rattle.std.proofs.Common.{◌≡◌, ◌⊎◌, ℕ, ◌+◌, ◌<◌, ◌≤◌, ◌^◌, ◌==◌, false, List, [], ◌∷◌, ◌++◌, All, length, get_or, ◌-◌, nat_abs, Ok, Result, Some, codes, refl, sym, ap, ◌∙◌, inl, arith, append_assoc, length-append}
use Rattle.std.specs.List.{list_all, slice_split}
use Rattle.std.proofs.lemmas.Bool.{ne_eqb}
use Rattle.std.proofs.lemmas.List.{get_or_append_left}
use Rattle.std.proofs.lemmas.List.Elements.{All-append, All-cons, All-nil}
use Rattle.std.proofs.lemmas.List.Splits.{slice_split_at, slice_split_none}
use Rattle.decimal_text.specs.Blank.{is_blank}
use Rattle.decimal_text.specs.Number.{decimal, signed_decimal}
use Rattle.decimal_text.proofs.Laws.{length-decimal}
use Rattle.trace_reader.specs.Content.{Content, add_row, read_line, without_return}
use Rattle.trace_reader.specs.Reading.{Progress, Reading, end_line, read_bytes, reads}
use Rattle.trace_reader.specs.Row.{fields_of, row_of}
use Rattle.trace_reader.specs.declared.row.Header.TheVariants.{Untimed}
use Rattle.trace_reader.specs.declared.row.Row.{Row}
use Rattle.trace_reader.specs.declared.trace.Fix.{Fix}
use Rattle.trace_reader.specs.declared.fault.TraceFault.{TraceFault}
use Rattle.trace_reader.proofs.Lines.{row_line}
use Rattle.trace_reader.proofs.Unended.{read_ended, with_part}
use Rattle.town.specs.Traces.{fix_line}
use Rattle.listed_files.proofs.Traces.{coordinate-read, first-solid, last-place, number-read}
use Rattle.listed_files.proofs.Numerals.{in-decimal, in-signed, length-signed, none-is, solid-at}

-- a fix whose line can be read back: under the header without times
pub record IsPlainFix (fix : Fix) : Type 0 where
  pub x_small : nat_abs fix.x ≤ 1_000_000_000
  pub y_small : nat_abs fix.y ≤ 1_000_000_000
  pub no_time : fix.time ≡ 0

-- a line without its LF
abbrev pub line_part : ℕ → Fix → List ℕ
line_part id fix = decimal id ++ codes "," ++ signed_decimal fix.x ++ codes "," ++ signed_decimal fix.y

number-free : (c : ℕ) → (c < 45) ⊎ (57 < c) → (44 == c) ≡ false → (id : ℕ) (fix : Fix) → id < 2 ^ 32 → IsPlainFix fix → All (λ b. (b == c) ≡ false) (line_part id fix)
number-free c outside comma id fix small plain =
    let P = λ (b : ℕ). (b == c) ≡ false in
    let a = none-is c outside (decimal id) (in-decimal id (omega (arith, small))) in
    let x = none-is c outside (signed_decimal fix.x) (in-signed fix.x (omega (arith, plain.x_small))) in
    let y = none-is c outside (signed_decimal fix.y) (in-signed fix.y (omega (arith, plain.y_small))) in
    let sep = All-cons P 44 [] comma (All-nil P) in
    All-append P (decimal id ++ codes "," ++ signed_decimal fix.x ++ codes ",") (signed_decimal fix.y)
    (All-append P (decimal id ++ codes "," ++ signed_decimal fix.x) (codes ",") (All-append P (decimal id ++ codes ",") (signed_decimal fix.x) (All-append P (decimal id) (codes ",") a sep) x) sep) y

pub part-length : (id : ℕ) (fix : Fix) → id < 2 ^ 32 → IsPlainFix fix → (1 ≤ length (line_part id fix)) × (length (line_part id fix) ≤ 64)
part-length id fix small plain =
    let a = length-decimal id (omega (arith, small)) in
    let x = (length-signed fix.x (omega (arith, plain.x_small))).1 in
    let y = (length-signed fix.y (omega (arith, plain.y_small))).1 in
    let all : length (line_part id fix) ≡ length (decimal id) + 1 + length (signed_decimal fix.x) + 1 + length (signed_decimal fix.y) = simp length-append in
    (omega (arith, a.0, all), omega (arith, a.1, x, y, all))

-- its fields
fields-are : (id : ℕ) (fix : Fix) → id < 2 ^ 32 → IsPlainFix fix → fields_of (line_part id fix) ≡ decimal id ∷ signed_decimal fix.x ∷ signed_decimal fix.y ∷ []
fields-are id fix small plain =
    let p = λ (b : ℕ). b == 44 in
    let a = none-is 44 (inl (omega arith)) (decimal id) (in-decimal id (omega (arith, small))) in
    let x = none-is 44 (inl (omega arith)) (signed_decimal fix.x) (in-signed fix.x (omega (arith, plain.x_small))) in
    let y = none-is 44 (inl (omega arith)) (signed_decimal fix.y) (in-signed fix.y (omega (arith, plain.y_small))) in
    let right : line_part id fix ≡ decimal id ++ 44 ∷ (signed_decimal fix.x ++ 44 ∷ signed_decimal fix.y) = simp append_assoc in
    ap (slice_split p) right
    ∙ slice_split_at p (decimal id) 44 (signed_decimal fix.x ++ 44 ∷ signed_decimal fix.y) a refl
    ∙ ap (λ t. decimal id ∷ t) (slice_split_at p (signed_decimal fix.x) 44 (signed_decimal fix.y) x refl)
    ∙ ap (λ t. decimal id ∷ signed_decimal fix.x ∷ t) (slice_split_none p (signed_decimal fix.y) y)

-- the row of a line
abbrev pub row_with : ℕ → Fix → Row
row_with id fix = record { id = id; fix = fix }

row-read : (line id : ℕ) (fix : Fix) → id < 2 ^ 32 → IsPlainFix fix → Ok (row_with id fix) ≡ row_of Untimed line (fields_of (line_part id fix))
unfolding row_of
row-read line id fix small plain =
    let time : Ok (row_with id fix) ≡ Ok (row_with id (record { x = fix.x; y = fix.y; time = 0 })) = ap (λ t. Ok (row_with id (record { x = fix.x; y = fix.y; time = t }))) plain.no_time in
    time ∙ rw (fields-are id fix small plain, number-read id small, coordinate-read fix.x plain.x_small, coordinate-read fix.y plain.y_small) refl

-- nothing is dropped of a line, and it is not skipped
not-return : (id : ℕ) (fix : Fix) → id < 2 ^ 32 → IsPlainFix fix → without_return (line_part id fix) ≡ line_part id fix
not-return id fix small plain =
    let y = signed_decimal fix.y in
    let some = (length-signed fix.y (omega (arith, plain.y_small))).0 in
    let last = last-place (decimal id ++ codes "," ++ signed_decimal fix.x ++ codes ",") y some in
    let byte = in-signed fix.y (omega (arith, plain.y_small)) (length y - 1) 0 (omega (arith, some)) in
    let other : (get_or (line_part id fix) (length (line_part id fix) - 1) 0 == 13) ≡ false = ne_eqb _ 13 (λ e. omega (arith, byte.0, e, last)) in
    rw other refl

not-skipped : (id : ℕ) (fix : Fix) → id < 2 ^ 32 → IsPlainFix fix → list_all is_blank (without_return (line_part id fix)) ≡ false
not-skipped id fix small plain =
    let whole = not-return id fix small plain in
    let long = part-length id fix small plain in
    let some = (length-decimal id (omega (arith, small))).0 in
    let right : line_part id fix ≡ decimal id ++ 44 ∷ (signed_decimal fix.x ++ 44 ∷ signed_decimal fix.y) = simp append_assoc in
    let first : get_or (line_part id fix) 0 0 ≡ get_or (decimal id) 0 0 = ap (λ t. get_or t 0 0) right ∙ get_or_append_left (decimal id) (44 ∷ (signed_decimal fix.x ++ 44 ∷ signed_decimal fix.y)) 0 0 (omega (arith, some)) in
    ap (list_all is_blank) whole
    ∙ first-solid (line_part id fix) long.0 (ap is_blank first ∙ solid-at (decimal id) 0 (in-decimal id (omega (arith, small))) (omega (arith, some)))

-- a line brings its row
pub content-read : (line id : ℕ) (fix : Fix) (content : Content) (result : Result Content TraceFault) → id < 2 ^ 32 → IsPlainFix fix → content.header ≡ Some Untimed
    → add_row line content (row_with id fix) ≡ result → read_line line content (line_part id fix) ≡ result
content-read line id fix content result small plain header added =
    row_line line content (line_part id fix) Untimed (row_with id fix) result (not-skipped id fix small plain) header
    (row-read line id fix small plain ∙ ap (λ t. row_of Untimed line (fields_of t)) (sym (not-return id fix small plain))) added

-- between two lines, of which few bytes were read
abbrev pub between_lines : ℕ → ℕ → Content → Reading
between_lines bytes lines content = reads (record { bytes = bytes; lines = lines; line = []; content = content })

pub line-brings : (bytes lines : ℕ) (content new : Content) (id : ℕ) (fix : Fix) → id < 2 ^ 32 → IsPlainFix fix → bytes ≤ 1_000_000_000
    → read_line (lines + 1) content (line_part id fix) ≡ Ok new
    → read_bytes (between_lines bytes lines content) (fix_line id fix) ≡ between_lines (bytes + length (fix_line id fix)) (lines + 1) new
line-brings bytes lines content new id fix small plain few read =
    let p : Progress = record { bytes = bytes; lines = lines; line = []; content = content } in
    let part = line_part id fix in
    let long = part-length id fix small plain in
    let size : bytes + length part + 1 ≡ bytes + length (fix_line id fix) = omega (arith, length-append part (codes "\n")) in
    read_ended p part (number-free 10 (inl (omega arith)) refl id fix small plain) (omega (arith, few, long.1)) (omega (arith, long.1))
    ∙ ap (end_line (with_part p part)) read
    ∙ ap (λ b. between_lines b (lines + 1) new) size
