-- The lines of the network file, put together from their parts.
use Rattle.std.proofs.Common.{◌≡◌, ℕ, zero, suc, ◌+◌, ◌*◌, ◌≤◌, true, false, List, [], ◌∷◌, ◌++◌, length, refl, sym, inl, inr, ◌∙◌, ap, arith, append_assoc, length-append}
use Rattle.std.specs.List.{flat_map, range_with_len}
use Rattle.std.proofs.lemmas.Bool.{cases_Bool}
use Rattle.std.proofs.lemmas.List.{append-nil}
use Rattle.std.proofs.lemmas.List.Concat.{flat_map-append}
use Rattle.town.specs.Corners.{corner_at, is_border, next_corner}
use Rattle.town.specs.declared.corner.Corner.{Corner}
use Rattle.town.specs.declared.corner.Heading.{Heading}
use Rattle.town.specs.declared.corner.Heading.TheVariants.{East, North}
use Rattle.town.specs.Network.{Street, edge_line, street_lines, street_to, streets_below, streets_from}

pub edge_joined : (base a b c p q comma semicolon end i j k l : List ℕ) → i ≡ base ++ a ++ comma → j ≡ i ++ b ++ comma → k ≡ j ++ c ++ comma → l ≡ k ++ p ++ semicolon
    → l ++ q ++ end ≡ base ++ (a ++ comma ++ b ++ comma ++ c ++ comma ++ (p ++ semicolon ++ q) ++ end)
edge_joined base a b c p q comma semicolon end i j k l h1 h2 h3 h4 = rw (h4, h3, h2, h1) (simp append_assoc)

-- the lines of more streets
pub lines_append : (n edge : ℕ) (xs ys : List Street) → street_lines n edge (xs ++ ys) ≡ street_lines n edge xs ++ street_lines n (edge + 2 * length xs) ys
unfolding street_lines
lines_append n edge [] ys = ap (λ e. street_lines n e ys) (omega arith)
lines_append n edge (s ∷ xs) ys =
    let place : edge + 2 + 2 * length xs ≡ edge + 2 * length (s ∷ xs) = omega arith in
    let here = edge_line n edge s.one s.other ++ edge_line n (edge + 1) s.other s.one in
    ap (λ t. here ++ t) (lines_append n (edge + 2) xs ys ∙ ap (λ e. street_lines n (edge + 2) xs ++ street_lines n e ys) place)
    ∙ sym (append_assoc here (street_lines n (edge + 2) xs) (street_lines n (edge + 2 * length (s ∷ xs)) ys))

range_more : (n a : ℕ) → range_with_len a (n + 1) ≡ range_with_len a n ++ (a + n) ∷ []
range_more zero a = ap (λ b. b ∷ []) (omega arith)
range_more (suc n) a =
    let place : a + 1 + n ≡ a + suc n = omega arith in
    let more : suc n + 1 ≡ suc (n + 1) = omega arith in
    ap (range_with_len a) more
    ∙ ap (λ r. a ∷ r) (range_more n (a + 1) ∙ ap (λ k. range_with_len (a + 1) n ++ k ∷ []) place)

-- the streets of one more corner
pub streets_more : (n k : ℕ) → streets_below n (k + 1) ≡ streets_below n k ++ streets_from n (corner_at n k)
streets_more n k =
    let f = λ (number : ℕ). streets_from n (corner_at n number) in
    ap (flat_map f) (range_more k 0 ∙ ap (λ i. range_with_len 0 k ++ i ∷ []) (omega arith)) ∙ flat_map-append f (range_with_len 0 k) (k ∷ []) ∙ ap (λ t. flat_map f (range_with_len 0 k) ++ t) (append-nil (f k))

-- the lines of the streets of the first k corners are written behind the head, and this is the next
-- number
pub record IsWritten (n : ℕ) (head : List ℕ) (k edge : ℕ) (text : List ℕ) : Type 0 where
  pub text_is : text ≡ head ++ street_lines n 0 (streets_below n k)
  pub next_is : edge ≡ 2 * length (streets_below n k)
  pub few : length (streets_below n k) ≤ 2 * k

pub written_none : (n : ℕ) (head base text : List ℕ) → base ≡ [] → text ≡ base ++ head → IsWritten n head 0 0 text
unfolding street_lines
written_none n head base text none is = record { text_is = is ∙ ap (λ t. t ++ head) none ∙ sym (append-nil head); next_is = refl; few = omega arith }

-- more streets behind those whose lines are written
text_more : (n edge : ℕ) (head : List ℕ) (old new : List ℕ) (xs ys : List Street) → edge ≡ 2 * length xs → old ≡ head ++ street_lines n 0 xs → new ≡ old ++ street_lines n edge ys
    → new ≡ head ++ street_lines n 0 (xs ++ ys)
text_more n edge head old new xs ys place before grown =
    let at : edge ≡ 0 + 2 * length xs = omega arith in
    grown
    ∙ ap (λ t. t ++ street_lines n edge ys) before
    ∙ append_assoc head (street_lines n 0 xs) (street_lines n edge ys)
    ∙ ap (λ e. head ++ (street_lines n 0 xs ++ street_lines n e ys)) at
    ∙ ap (λ t. head ++ t) (sym (lines_append n 0 xs ys))

pub few_to : (n : ℕ) (c : Corner) (way : Heading) → length (street_to n c way) ≤ 1
few_to n c way = elim (cases_Bool (is_border n c way)) [ inl t ↦ rw t (omega arith) | inr f ↦ rw f (omega arith) ]

pub written_more : (n k edge mid next : ℕ) (c : Corner) (head old text new : List ℕ) → c ≡ corner_at n k → IsWritten n head k edge old
    → text ≡ old ++ street_lines n edge (street_to n c East) → mid ≡ edge + 2 * length (street_to n c East)
    → new ≡ text ++ street_lines n mid (street_to n c North) → next ≡ mid + 2 * length (street_to n c North)
    → IsWritten n head (k + 1) next new
written_more n k edge mid next c head old text new corner before east after_east north after_north =
    let xs = streets_below n k in
    let es = street_to n c East in
    let ns = street_to n c North in
    let whole : streets_below n (k + 1) ≡ xs ++ es ++ ns = streets_more n k ∙ ap (λ d. xs ++ streets_from n d) (sym corner) ∙ sym (append_assoc xs es ns) in
    let place : mid ≡ 2 * length (xs ++ es) = omega (arith, after_east, before.next_is, length-append xs es) in
    let one = text_more n edge head old text xs es before.next_is before.text_is east in
    let two = text_more n mid head text new (xs ++ es) ns place one north in
    let count : length (streets_below n (k + 1)) ≡ length xs + length es + length ns = ap length whole ∙ length-append (xs ++ es) ns ∙ ap (λ m. m + length ns) (length-append xs es) in
    record {
      text_is = two ∙ ap (λ t. head ++ street_lines n 0 t) (sym whole);
      next_is = omega (arith, after_north, after_east, before.next_is, count);
      few = omega (arith, count, before.few, few_to n c East, few_to n c North);
    }

-- at the border there is no street, and else the two lines of one
pub no_street : (n edge : ℕ) (c : Corner) (way : Heading) (text : List ℕ) → is_border n c way ≡ true → text ≡ text ++ street_lines n edge (street_to n c way)
unfolding street_lines
no_street n edge c way text border = rw border (sym (append-nil text))

pub one_street : (n edge : ℕ) (c : Corner) (way : Heading) (i j k : List ℕ) → is_border n c way ≡ false
    → j ≡ i ++ edge_line n edge c (next_corner c way) → k ≡ j ++ edge_line n (edge + 1) (next_corner c way) c
    → k ≡ i ++ street_lines n edge (street_to n c way)
unfolding street_lines
one_street n edge c way i j k open_end there back =
    let next = next_corner c way in
    let same : edge_line n edge c next ++ edge_line n (edge + 1) next c ≡ edge_line n edge c next ++ edge_line n (edge + 1) next c ++ [] = sym (append-nil (edge_line n edge c next ++ edge_line n (edge + 1) next c)) in
    rw open_end (back ∙ ap (λ t. t ++ edge_line n (edge + 1) next c) there
    ∙ append_assoc i (edge_line n edge c next) (edge_line n (edge + 1) next c)
    ∙ ap (λ t. i ++ t) same)

pub fix_joined : (base a b c comma end h i j k l : List ℕ) → h ≡ base ++ a → i ≡ h ++ comma → j ≡ i ++ b → k ≡ j ++ comma → l ≡ k ++ c → l ++ end ≡ base ++ (a ++ comma ++ b ++ comma ++ c ++ end)
fix_joined base a b c comma end h i j k l h0 h1 h2 h3 h4 = rw (h4, h3, h2, h1, h0) (simp append_assoc)
