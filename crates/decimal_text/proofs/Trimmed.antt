-- Texts that neither begin nor end with a blank.
use Rattle.std.proofs.Common.{◌≡◌, ℕ, ◌≤◌, ◌&&◌, ◌++◌, Bool, true, false, not, List, [], ◌∷◌, length, reverse, refl, sym, ap, ◌∙◌, arith}
use Rattle.std.specs.List.{list_all}
use Rattle.std.specs.Char.{is_ascii_digit}
use Rattle.std.proofs.lemmas.List.{append-nil, reverse-reverse, reverse-append, length-reverse}
use Rattle.std.proofs.lemmas.List.Folds.{list_all-append}
use Rattle.decimal_text.specs.Blank.{is_blank, trim, trim_start, trim_end}

-- ---- tests of each byte

pub and_both : (a b : Bool) → a && b ≡ true → (a ≡ true) × (b ≡ true)
and_both true b h = (refl, h)
and_both false b h = absurd cc

pub and_of : (a b : Bool) → a ≡ true → b ≡ true → a && b ≡ true
and_of a b h k = rw (h, k) refl

pub weaker : (p q : ℕ → Bool) → ((c : ℕ) → p c ≡ true → q c ≡ true) → (text : List ℕ) → list_all p text ≡ true → list_all q text ≡ true
weaker p q more [] h = refl
weaker p q more (c ∷ cs) h =
    let both = and_both (p c) (list_all p cs) h in
    and_of (q c) (list_all q cs) (more c both.0) (weaker p q more cs both.1)

-- ---- blanks

abbrev pub solid : ℕ → Bool
solid c = not (is_blank c)

pub digit-solid : (c : ℕ) → is_ascii_digit c ≡ true → solid c ≡ true
digit-solid c h = grind arith

not-true : (b : Bool) → not b ≡ true → b ≡ false
not-true true h = absurd cc
not-true false h = refl

solid-reverse : (text : List ℕ) → list_all solid text ≡ true → list_all solid (reverse text) ≡ true
solid-reverse [] h = refl
solid-reverse (c ∷ cs) h =
    let both = and_both (solid c) (list_all solid cs) h in
    rw (reverse-append (c ∷ []) cs, list_all-append solid (reverse cs) (c ∷ [])) (and_of (list_all solid (reverse cs)) (solid c && true) (solid-reverse cs both.1) (and_of (solid c) true both.0 refl))

trim_start-solid : (front rest : List ℕ) → 1 ≤ length front → list_all solid front ≡ true → trim_start (front ++ rest) ≡ front ++ rest
trim_start-solid [] rest some h = absurd (omega (arith, some))
trim_start-solid (c ∷ cs) rest some h = let first = (and_both (solid c) (list_all solid cs) h).0 in rw (not-true (is_blank c) first) refl

-- a text whose front and end have no blanks
pub trim-ends : (text front rest before end : List ℕ) → text ≡ front ++ rest → text ≡ before ++ end → 1 ≤ length front → 1 ≤ length end → list_all solid front ≡ true → list_all solid end ≡ true → trim text ≡ text
unfolding trim
trim-ends text front rest before end first last some_front some_end solid_front solid_end =
    let left : trim_start text ≡ text = ap trim_start first ∙ trim_start-solid front rest some_front solid_front ∙ sym first in
    let back : reverse text ≡ reverse end ++ reverse before = ap reverse last ∙ reverse-append before end in
    let right : trim_start (reverse text) ≡ reverse text =
    ap trim_start back ∙ trim_start-solid (reverse end) (reverse before) (omega (arith, length-reverse end, some_end)) (solid-reverse end solid_end) ∙ sym back in
    ap trim_end left ∙ ap reverse right ∙ reverse-reverse text

pub trim-solid : (field : List ℕ) → 1 ≤ length field → list_all solid field ≡ true → trim field ≡ field
trim-solid field some h = trim-ends field field [] [] field (sym (append-nil field)) refl some some h h
