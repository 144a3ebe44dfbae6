-- The offsets of the points of a line.
use Rattle.std.proofs.Common.{◌≡◌, ℕ, ◌+◌, ◌-◌, ◌<◌, ◌≤◌, List, [], ◌∷◌, ◌++◌, length, get_or, take, map, ap, ◌∙◌, arith, append_assoc}
use Rattle.std.proofs.lemmas.List.{take_all}
use Rattle.std.proofs.lemmas.List.FromFn.{get_or-map-range_with_len, length-map-range_with_len, map-range_with_len_more}
use Rattle.std.specs.Prelude.{slice_index}
use Rattle.std.specs.List.{range_with_len}
use Rattle.polyline_geometry.specs.declared.plane.Point.{Point}
use Rattle.polyline_geometry.specs.Plane.{line_length}
use Rattle.polyline_geometry.specs.Offsets.{line_offsets, offset_at}

-- there is an offset for each point
pub length-line_offsets : (line : List Point) → length (line_offsets line) ≡ length line
unfolding line_offsets
length-line_offsets line = length-map-range_with_len (offset_at line) 0 (length line)

-- the offset of a point
pub get_or-line_offsets : (line : List Point) (i d : ℕ) → i < length line → get_or (line_offsets line) i d ≡ offset_at line i
unfolding line_offsets
get_or-line_offsets line i d h = get_or-map-range_with_len (offset_at line) 0 (length line) i i d h (omega arith)

-- the offsets of a line are kept in a list
pub kept_offset : (line : List Point) (offsets : List ℕ) (i : ℕ) → offsets ≡ line_offsets line → i < length line → get_or offsets i 0 ≡ offset_at line i
kept_offset line offsets i kept h = ap (λ l. get_or l i 0) kept ∙ get_or-line_offsets line i 0 h

-- the offset of the last point is the length of the line
pub last_offset : (line : List Point) → 1 ≤ length line → slice_index (line_offsets line) (length line - 1) ≡ line_length line
last_offset line some =
    let whole : length line ≤ length line - 1 + 1 = omega arith in
    get_or-line_offsets line (length line - 1) 0 (omega arith) ∙ ap line_length (take_all (length line - 1 + 1) line whole)

-- one more point
pub offsets-more : (line : List Point) (i d : ℕ) (old new front : List ℕ)
    → d ≡ line_length (take (i + 1) line)
    → old ≡ front ++ map (offset_at line) (range_with_len 0 i)
    → new ≡ old ++ d ∷ []
    → new ≡ front ++ map (offset_at line) (range_with_len 0 (i + 1))
offsets-more line i d old new front last before pushed =
    let more = map-range_with_len_more (offset_at line) 0 i i (omega arith) in
    rw (more, pushed, before, last) (append_assoc front (map (offset_at line) (range_with_len 0 i)) (offset_at line i ∷ []))

pub offsets-all : (line : List Point) (i : ℕ) (new front : List ℕ) → i ≡ length line
    → new ≡ front ++ map (offset_at line) (range_with_len 0 i) → new ≡ front ++ line_offsets line
unfolding line_offsets
offsets-all line i new front e h = rw e at h
