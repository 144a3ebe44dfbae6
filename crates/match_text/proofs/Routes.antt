-- The edges of a route, read one after the other.
use Rattle.std.proofs.Common.{◌≡◌, ℕ, ◌^◌, ◌<◌, ◌≤◌, get_or, List, [], ◌∷◌, ◌++◌, length, map, Option, Some, None, refl, sym, ap, subst, ◌∙◌, append_assoc, arith, length-append}
use Rattle.std.specs.Prelude.{codes}
use Rattle.std.specs.Option.{option_map, IfSome}
use Rattle.std.specs.List.{AllByRecursion}
use Rattle.std.proofs.lemmas.List.{append-nil}
use Rattle.std.proofs.lemmas.Option.{some_pair_parts, same_Some, none-some}
use Rattle.decimal_text.specs.Number.{decimal}
use Rattle.match_text.specs.MatchText.{words_after}
use Rattle.match_text.specs.Reading.{after_bytes, number_after, most32}
use Rattle.match_text.specs.Grammar.{ReadsRoute}
use Rattle.match_text.proofs.Fields.{EndsDigits, after_takes, number_after_takes, number_after_again}

abbrev lf : List ℕ
lf = 10 ∷ []

-- the rest of a piece line
abbrev route_text : List ℕ → List ℕ
route_text edges = words_after (map decimal edges)

abbrev EdgesFit : List ℕ → Type 0
EdgesFit edges = AllByRecursion (λ edge. edge < 2 ^ 32) edges

abbrev prepended : List ℕ → Option (List ℕ × List ℕ) → Option (List ℕ × List ℕ)
prepended edges read = option_map (λ x. (edges ++ x.0, x.1)) read

ends_digits : (edges rest : List ℕ) → EndsDigits (route_text edges ++ rest)
ends_digits [] rest = refl
ends_digits (e ∷ es) rest = refl

first_edge : (e : ℕ) (es rest : List ℕ) → route_text (e ∷ es) ++ rest ≡ codes " " ++ (decimal e ++ (route_text es ++ rest))
first_edge e es rest = ap (λ (t : List ℕ). 32 ∷ t) (append_assoc (decimal e) (route_text es) rest)

edge_again : (e : ℕ) (es rest text : List ℕ) → e < 2 ^ 32 → text ≡ route_text (e ∷ es) ++ rest → number_after (codes " ") most32 text ≡ Some (e, route_text es ++ rest)
edge_again e es rest text small eq = ap (number_after (codes " ") most32) (eq ∙ first_edge e es rest) ∙ number_after_again (codes " ") most32 e (route_text es ++ rest) (omega arith) (omega arith) (ends_digits es rest)

same_first : (b c : ℕ) (bs cs : List ℕ) → b ∷ bs ≡ c ∷ cs → b ≡ c
same_first b c bs cs eq = ap (λ (t : List ℕ). get_or t 0 0) eq

-- neither an edge nor the end of the line comes
pub no_route : (text : List ℕ) → number_after (codes " ") most32 text ≡ None → after_bytes lf text ≡ None → ReadsRoute text None
no_route text no_edge no_end = record { found = tt; only = only }
  where
    only : (edges rest : List ℕ) → EdgesFit edges → text ≡ route_text edges ++ rest → ◌≡◌ {A = Option (List ℕ × List ℕ)} None (Some (edges, rest))
    only [] rest fits eq = absurd (none-some rest (sym no_end ∙ ap (after_bytes lf) eq))
    only (e ∷ es) rest fits eq = absurd (none-some (e, route_text es ++ rest) (sym no_edge ∙ edge_again e es rest text fits.0 eq))

-- the line ends
pub route_ends : (text rest : List ℕ) → after_bytes lf text ≡ Some rest → ReadsRoute text (Some ([], rest))
route_ends text rest end = record { found = (tt, after_takes lf text rest end); only = only }
  where
    only : (edges others : List ℕ) → EdgesFit edges → text ≡ route_text edges ++ others → ◌≡◌ {A = Option (List ℕ × List ℕ)} (Some ([], rest)) (Some (edges, others))
    only [] others fits eq = ap (λ (t : List ℕ). let read : Option (List ℕ × List ℕ) = Some ([], t) in read) (same_Some rest others (sym end ∙ ap (after_bytes lf) eq))
    only (e ∷ es) others fits eq = absurd (omega (arith, same_first 32 10 _ _ (sym eq ∙ after_takes lf text rest end)))

-- an edge comes, and then the rest of the route
pub route_more : (text : List ℕ) (e : ℕ) (next : List ℕ) (read : Option (List ℕ × List ℕ)) → number_after (codes " ") most32 text ≡ Some (e, next) → ReadsRoute next read → ReadsRoute text (prepended (e ∷ []) read)
route_more text e next read first reads = record { found = found read reads.found; only = only }
  where
    taken : (text ≡ codes " " ++ (decimal e ++ next)) × (e ≤ most32)
    taken = number_after_takes (codes " ") most32 e text next (omega arith) first

    found : (read : Option (List ℕ × List ℕ)) → IfSome read (λ x. EdgesFit x.0 × (next ≡ route_text x.0 ++ x.1)) → IfSome (prepended (e ∷ []) read) (λ x. EdgesFit x.0 × (text ≡ route_text x.0 ++ x.1))
    found None h = tt
    found (Some x) h = ((omega (arith, taken.1), h.0), taken.0 ∙ ap (λ (t : List ℕ). codes " " ++ (decimal e ++ t)) h.1 ∙ sym (first_edge e x.0 x.1))

    only : (edges others : List ℕ) → EdgesFit edges → text ≡ route_text edges ++ others → prepended (e ∷ []) read ≡ Some (edges, others)
    only [] others fits eq = absurd (omega (arith, same_first 10 32 _ _ (sym eq ∙ taken.0)))
    only (d ∷ ds) others fits eq =
        let same = some_pair_parts e d next (route_text ds ++ others) (sym first ∙ edge_again d ds others text fits.0 eq) in
        ap (prepended (e ∷ [])) (reads.only ds others fits.1 same.1) ∙ ap (λ (n : ℕ). Some (n ∷ ds, others)) same.0

pub prepended_none : (read : Option (List ℕ × List ℕ)) → prepended [] read ≡ read
prepended_none None = refl
prepended_none (Some x) = refl

prepended_more : (edges : List ℕ) (e : ℕ) (read : Option (List ℕ × List ℕ)) → prepended edges (prepended (e ∷ []) read) ≡ prepended (edges ++ e ∷ []) read
prepended_more edges e None = refl
prepended_more edges e (Some x) = ap (λ (t : List ℕ). Some (t, x.1)) (sym (append_assoc edges (e ∷ []) x.0))

-- ---- the loop over the edges

-- the edges so far and those of what is left are those of all
abbrev pub GoesOn : List ℕ → List ℕ → List ℕ → Type 0
GoesOn text edges left = (read : Option (List ℕ × List ℕ)) → ReadsRoute left read → ReadsRoute text (prepended edges read)

pub begins : (text : List ℕ) → GoesOn text [] text
begins text read reads = rw prepended_none reads

pub goes_on : (text edges left : List ℕ) (e : ℕ) (next : List ℕ) → number_after (codes " ") most32 left ≡ Some (e, next) → GoesOn text edges left → GoesOn text (edges ++ e ∷ []) next
goes_on text edges left e next first so_far read reads = rw (← prepended_more edges e read) (so_far (prepended (e ∷ []) read) (route_more left e next read first reads))

pub goes_down : (left : List ℕ) (e : ℕ) (next : List ℕ) → number_after (codes " ") most32 left ≡ Some (e, next) → length next < length left
goes_down left e next first =
    let parts = number_after_takes (codes " ") most32 e left next (omega arith) first in
    omega (arith, ap length parts.0, length-append (decimal e) next)

pub fails : (text edges left : List ℕ) → number_after (codes " ") most32 left ≡ None → after_bytes lf left ≡ None → GoesOn text edges left → ReadsRoute text None
fails text edges left no_edge no_end so_far = so_far None (no_route left no_edge no_end)

pub ends : (text edges left rest : List ℕ) → after_bytes lf left ≡ Some rest → GoesOn text edges left → ReadsRoute text (Some (edges, rest))
ends text edges left rest end so_far = subst (λ (es : List ℕ). ReadsRoute text (Some (es, rest))) (append-nil edges) (so_far (Some ([], rest)) (route_ends left rest end))
