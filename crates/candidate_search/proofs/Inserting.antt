-- The nearest edges so far: the last one moves up to its place.
use Rattle.std.proofs.Common.{◌≡◌, ℕ, ◌+◌, ◌-◌, ◌<◌, List, [], ◌∷◌, ◌++◌, length, get_or, set, take, drop, sym, ap, ◌∙◌, arith, length-append, length-take, append_assoc}
use Rattle.std.specs.List.{insert}
use Rattle.std.proofs.lemmas.List.{drop_more, set_at, take_at, take_more}
use Rattle.std.proofs.lemmas.List.Edits.{insert_end}
use Rattle.candidate_search.specs.declared.best.NearEdge.{NearEdge}

-- the others, before the last
abbrev pub others_of : List NearEdge → List NearEdge
others_of found = take (length found - 1) found

-- the one below an inserted edge changes places with it
pub insert_lower : (xs : List NearEdge) (place : ℕ) (y d : NearEdge) → place < length xs
    → set (set (insert xs (place + 1) y) (place + 1) (get_or xs place d)) place y ≡ insert xs place y
insert_lower xs place y d lt =
    let x = get_or xs place d in
    let front = take place xs in
    let rest = drop (place + 1) xs in
    let short : length front ≡ place = omega (arith, length-take place xs, lt) in
    let long : length (take (place + 1) xs) ≡ place + 1 = omega (arith, length-take (place + 1) xs, lt) in
    let up : set (insert xs (place + 1) y) (place + 1) x ≡ take (place + 1) xs ++ x ∷ rest = set_at (take (place + 1) xs) y rest x (place + 1) long in
    let apart : take (place + 1) xs ++ x ∷ rest ≡ front ++ x ∷ x ∷ rest = ap (λ l. l ++ x ∷ rest) (take_more xs place d lt) ∙ append_assoc front (x ∷ []) (x ∷ rest) in
    ap (λ l. set l place y) (up ∙ apart)
    ∙ set_at front x (x ∷ rest) y place short
    ∙ ap (λ l. front ++ y ∷ l) (sym (drop_more xs place d lt))

-- one that was appended is inserted at the end
pub insert_last : (xs : List NearEdge) (y : NearEdge) (place : ℕ) → place ≡ length xs → xs ++ y ∷ [] ≡ insert xs place y
insert_last xs y place is = sym (insert_end xs y) ∙ ap (λ n. insert xs n y) (sym is)

-- before the one that was appended are the others
pub others_before : (xs : List NearEdge) (y : NearEdge) → others_of (xs ++ y ∷ []) ≡ xs
others_before xs y =
    let n = length-append xs (y ∷ []) in
    take_at xs (y ∷ []) (length (xs ++ y ∷ []) - 1) (omega (arith, n))
