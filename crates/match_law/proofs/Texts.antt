-- The text of matches is that of the least matches.
use Rattle.std.proofs.Common.{◌≡◌, ℕ, ◌+◌, List, [], ◌∷◌, ◌++◌, map, All, fold, sum_by, refl, sym, ap, ◌∙◌, length}
use Rattle.std.specs.List.{AllZip, concat, flat_map}
use Rattle.std.proofs.lemmas.List.Elements.{All-head, All-tail}
use Rattle.cost_model.specs.Options.{IsAccepted}
use Rattle.cost_model.specs.declared.params.Params.{Params}
use Rattle.match_law.specs.LeastMatch.{IsLeastMatch, IsMatchText, line_of_totals}
use Rattle.match_law.proofs.Asked.{traces_ask}
use Rattle.match_law.proofs.Matches.{match_of-is_least}
use Rattle.match_text.specs.MatchText.{text_of}
use Rattle.match_text.specs.declared.matched.MatchedTrace.{MatchedTrace}
use Rattle.road_network.specs.Net.{Net, IsLawful}
use Rattle.trace_match.specs.Match.{match_of}
use Rattle.trace_match.specs.Setting.{Setting}
use Rattle.trace_match.specs.Totals.{is_asked_by, piece_count, asked_count}
use Rattle.trace_reader.specs.Trace.{IsLawfulTrace}
use Rattle.trace_reader.specs.declared.trace.Trace.{Trace}

concat-map : {X Y : Type 0} (text : Y → List ℕ) (f : X → Y) (xs : List X) → concat (map text (map f xs)) ≡ flat_map (λ x. text (f x)) xs
concat-map text f [] = refl
concat-map text f (x ∷ xs) = ap (λ (rest : List ℕ). text (f x) ++ rest) (concat-map text f xs)

fold-map : {X Y : Type 0} (count : Y → ℕ) (f : X → Y) (a : ℕ) (xs : List X) → fold (λ (b : ℕ) (y : Y). b + count y) a (map f xs) ≡ fold (λ (b : ℕ) (x : X). b + count (f x)) a xs
fold-map count f a [] = refl
fold-map count f a (x ∷ xs) = fold-map count f (a + count (f x)) xs

each_least : (n : Net) (p : Params) (traces : List Trace) → IsLawful n → IsAccepted p → All IsLawfulTrace traces → AllZip (IsLeastMatch n p) traces (map (match_of n p) traces)
each_least n p [] lawful accepted are = tt
each_least n p (trace ∷ traces) lawful accepted are = (
  match_of-is_least n p trace lawful accepted (All-head IsLawfulTrace trace traces are),
  each_least n p traces lawful accepted (All-tail IsLawfulTrace trace traces are),
)

-- the text that is written of some traces
abbrev pub match_text : Setting → List Trace → List ℕ
match_text on traces =
    flat_map (λ trace. text_of (match_of on.network on.params trace)) traces
    ++ line_of_totals (length traces) (sum_by (λ trace. length trace.fixes) traces) (piece_count on traces) (asked_count on traces)

pub texts_are_least : (on : Setting) (traces : List Trace) → IsLawful on.network → IsAccepted on.params → All IsLawfulTrace traces
    → IsMatchText on.network on.params traces (match_text on traces)
texts_are_least on traces lawful accepted are =
    let n = on.network in
    let p = on.params in
    let matches = map (match_of n p) traces in
    let points = sum_by (λ (trace : Trace). length trace.fixes) traces in
    record {
      matches = matches;
      are = each_least n p traces lawful accepted are;
      asked = is_asked_by on traces;
      asked_is = traces_ask n p lawful traces;
      is = ap (λ (text : List ℕ). text ++ line_of_totals (length traces) points (sum_by (λ (trace : Trace). length (match_of n p trace).pieces) traces) (asked_count on traces))
          (sym (concat-map text_of (match_of n p) traces))
          ∙ ap (λ (pieces : ℕ). concat (map text_of matches) ++ line_of_totals (length traces) points pieces (asked_count on traces))
          (sym (fold-map (λ (m : MatchedTrace). length m.pieces) (match_of n p) 0 traces));
    }
