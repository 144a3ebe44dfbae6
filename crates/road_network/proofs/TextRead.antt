-- A text from whose end bytes are cut off.
use Rattle.std.proofs.Common.{◌≡◌, ℕ, ◌++◌, List, [], ◌∷◌, refl, sym, ap, ◌∙◌, arith, length, take, drop, reverse}
use Rattle.std.proofs.lemmas.List.{reverse-append, take-append-drop, take-append-le}
use Rattle.std.proofs.Math.Seq.{take-length}

-- the part that is read, and the rest
pub part-and_rest : (reversed buf part rest : List ℕ) (count left : ℕ) → part ≡ reverse (drop left reversed) → rest ≡ take left reversed → length part ≡ count
    → reverse reversed ≡ take count (part ++ drop count buf) ++ reverse rest
part-and_rest reversed buf part rest count left part_is rest_is size =
    let front : take count (part ++ drop count buf) ≡ part = rw (← size) (take-append-le (length part) part (drop (length part) buf) (omega arith) ∙ take-length part) in
    ap reverse (sym (take-append-drop left reversed)) ∙ reverse-append (take left reversed) (drop left reversed) ∙ rw (front, part_is, rest_is) refl

-- nothing is left of a text whose end was reached
pub none-left : (rest : List ℕ) → length rest ≡ 0 → reverse rest ≡ []
none-left [] none = refl
none-left (byte ∷ rest) none = absurd (omega (arith, none))
