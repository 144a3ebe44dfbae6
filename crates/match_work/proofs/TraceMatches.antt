-- The matches of traces, and their texts one after the other.
use Rattle.std.proofs.Common.{◌≡◌, ℕ, ◌+◌, ◌≤◌, ◌<◌, List, [], ◌∷◌, ◌++◌, All, map, length, take, drop, get_or, refl, sym, ◌∙◌, ap, subst, arith, append_assoc, append-nil}
use Rattle.std.proofs.lemmas.List.{take_more}
use Rattle.std.proofs.lemmas.List.Concat.{flat_map-append}
use Rattle.std.proofs.lemmas.List.Elements.{All-drop, All-head, All-map, All-tail, All-take, All-weaker}
use Rattle.std.proofs.lemmas.List.Sums.{sum_by-append, sum_by-cons, sum_by_more, sum_by_more_le}
use Rattle.cost_model.specs.Options.{IsAccepted}
use Rattle.match_text.specs.MatchText.{IsLawful, text_of}
use Rattle.match_text.specs.declared.matched.MatchedTrace.{MatchedTrace}
use Rattle.program_frame.specs.Jobs.{position_count}
use Rattle.trace_match.specs.Match.{match_of}
use Rattle.trace_match.proofs.Lawful.{match_lawful}
use Rattle.trace_reader.specs.Trace.{IsLawfulTrace}
use Rattle.trace_reader.specs.declared.trace.Trace.{Trace}
use Rattle.match_work.specs.Matched.{AreMatchesOf, pieces_in}
use Rattle.match_work.specs.inside.Calls.{text_of_matches}
use Rattle.trace_match.specs.Setting.{Setting}
use Rattle.trace_match.specs.Totals.{piece_count}
use Rattle.match_work.specs.Matches.{texts_of}
use Rattle.program_frame.specs.inside.Tallies.{IsCountOfPieces}

abbrev pub matches_of : Setting → List Trace → List MatchedTrace
matches_of on traces = map (match_of on.network on.params) traces

-- the texts and the pieces of the matches are those of the traces
texts_are : (on : Setting) (traces : List Trace) → text_of_matches (matches_of on traces) ≡ texts_of on traces
texts_are on [] = refl
texts_are on (trace ∷ traces) = ap (λ t. text_of (match_of on.network on.params trace) ++ t) (texts_are on traces)

pieces_are : (on : Setting) (traces : List Trace) → pieces_in (matches_of on traces) ≡ piece_count on traces
pieces_are on [] = refl
pieces_are on (trace ∷ traces) =
    let one = match_of on.network on.params trace in
    let first : pieces_in (matches_of on (trace ∷ traces)) ≡ length one.pieces + pieces_in (matches_of on traces) = sum_by-cons (λ (m : MatchedTrace). length m.pieces) one (matches_of on traces) in
    let second : piece_count on (trace ∷ traces) ≡ length one.pieces + piece_count on traces = sum_by-cons (λ (t : Trace). length (match_of on.network on.params t).pieces) trace traces in
    omega (arith, first, second, pieces_are on traces)

few_pieces : (on : Setting) (traces : List Trace) → IsAccepted on.params → All IsLawfulTrace traces → pieces_in (matches_of on traces) ≤ position_count traces
few_pieces on [] accepted lawful = omega arith
few_pieces on (trace ∷ traces) accepted lawful =
    let one = match_of on.network on.params trace in
    let here = (match_lawful on.network on.params trace accepted (All-head IsLawfulTrace trace traces lawful)).pieces_few in
    let first : pieces_in (matches_of on (trace ∷ traces)) ≡ length one.pieces + pieces_in (matches_of on traces) = sum_by-cons (λ (m : MatchedTrace). length m.pieces) one (matches_of on traces) in
    let second : position_count (trace ∷ traces) ≡ length trace.fixes + position_count traces = sum_by-cons (λ (t : Trace). length t.fixes) trace traces in
    omega (arith, here, first, second, few_pieces on traces accepted (All-tail IsLawfulTrace trace traces lawful))

pub matches_found : (on : Setting) (traces : List Trace) (matches : List MatchedTrace) → IsAccepted on.params → All IsLawfulTrace traces → matches ≡ matches_of on traces → AreMatchesOf on traces matches
matches_found on traces matches accepted lawful are = record {
  are = are;
  lawful = subst (All IsLawful) (sym are) (All-map IsLawful (match_of on.network on.params) traces (All-weaker IsLawfulTrace (λ (t : Trace). IsLawful (match_of on.network on.params t)) (λ t h. (match_lawful on.network on.params t accepted h).lawful) traces lawful));
  few = subst (λ (ms : List MatchedTrace). pieces_in ms ≤ position_count traces) (sym are) (few_pieces on traces accepted lawful);
}

pub texts_written : (on : Setting) (traces : List Trace) (matches : List MatchedTrace) (old new : List ℕ) → AreMatchesOf on traces matches → new ≡ old ++ text_of_matches matches → new ≡ old ++ texts_of on traces
texts_written on traces matches old new found grown = grown ∙ ap (λ t. old ++ t) (ap text_of_matches found.are ∙ texts_are on traces)

pub pieces_found : (on : Setting) (traces : List Trace) (matches : List MatchedTrace) (pieces : ℕ) → AreMatchesOf on traces matches → pieces ≡ pieces_in matches → IsCountOfPieces (piece_count on) traces pieces
pieces_found on traces matches pieces found is = record {
  are = is ∙ ap pieces_in found.are ∙ pieces_are on traces;
  few = let few = found.few in omega (arith, is, few);
}

-- one more match
pub next_match : (matches : List MatchedTrace) (i : ℕ) (m : MatchedTrace) → i < length matches → m ≡ get_or matches i m → take (i + 1) matches ≡ take i matches ++ m ∷ []
next_match matches i m low is = take_more matches i m low ∙ ap (λ (x : MatchedTrace). take i matches ++ x ∷ []) (sym is)

pub texts_next : (matches : List MatchedTrace) (i : ℕ) (m : MatchedTrace) (base old new : List ℕ) → i < length matches → m ≡ get_or matches i m → old ≡ base ++ text_of_matches (take i matches) → new ≡ old ++ text_of m → new ≡ base ++ text_of_matches (take (i + 1) matches)
texts_next matches i m base old new low is texts grown =
    let one : text_of_matches (m ∷ []) ≡ text_of m = append-nil (text_of m) in
    grown
    ∙ ap (λ t. t ++ text_of m) texts
    ∙ append_assoc base (text_of_matches (take i matches)) (text_of m)
    ∙ ap (λ t. base ++ (text_of_matches (take i matches) ++ t)) (sym one)
    ∙ ap (λ t. base ++ t) (sym (flat_map-append text_of (take i matches) (m ∷ [])) ∙ ap text_of_matches (sym (next_match matches i m low is)))

pub pieces_next : (matches : List MatchedTrace) (i : ℕ) (m : MatchedTrace) (pieces count : ℕ) → i < length matches → m ≡ get_or matches i m → pieces ≡ pieces_in (take i matches) → count ≡ length m.pieces → pieces + count ≡ pieces_in (take (i + 1) matches)
pieces_next matches i m pieces count low is before counted =
    let more = sum_by_more (λ (x : MatchedTrace). length x.pieces) matches i m low in
    let here : length m.pieces ≡ length (get_or matches i m).pieces = ap (λ (x : MatchedTrace). length x.pieces) is in
    omega (arith, more, here, before, counted)

-- the pieces of one more match are no more than those of all
pub room_next : (matches : List MatchedTrace) (i : ℕ) (m : MatchedTrace) → i < length matches → m ≡ get_or matches i m → pieces_in (take i matches) + length m.pieces ≤ pieces_in matches
room_next matches i m low is =
    let all = sum_by_more_le (λ (x : MatchedTrace). length x.pieces) matches i m low in
    let here : length m.pieces ≡ length (get_or matches i m).pieces = ap (λ (x : MatchedTrace). length x.pieces) is in
    omega (arith, all, here)

-- a front part of the matches and the part after it
pub parts_lawful : (n : ℕ) (all front last : List MatchedTrace) → front ≡ take n all → last ≡ drop n all → All IsLawful all → All IsLawful front × All IsLawful last
parts_lawful n all front last before after lawful = (
  subst (All IsLawful) (sym before) (All-take IsLawful n all lawful),
  subst (All IsLawful) (sym after) (All-drop IsLawful n all lawful),
)

pub pieces_joined : (all front last : List MatchedTrace) → all ≡ front ++ last → pieces_in all ≡ pieces_in front + pieces_in last
pieces_joined all front last whole = ap pieces_in whole ∙ sum_by-append (λ (m : MatchedTrace). length m.pieces) front last
