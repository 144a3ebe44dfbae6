-- What was found is the match of the trace, and the rows that became known are those that it asks for.
use Rattle.std.proofs.Common.{◌≡◌, ℕ, ◌≤◌, true, List, sym, ap, ◌∙◌, subst, length, ⊎_elim}
use Rattle.std.specs.Prelude.{Result}
use Rattle.bounded_table.specs.Rows.{RowsState, AsksAll, AsksFor, AsksOnly}
use Rattle.bounded_table.proofs.Asking.{asks_by, only_by, only_then}
use Rattle.cost_model.specs.declared.params.Params.{Params}
use Rattle.match_text.specs.MatchText.{IsLawful}
use Rattle.match_text.specs.declared.matched.MatchedTrace.{MatchedTrace}
use Rattle.matching.specs.declared.parts.Layer.{Layer}
use Rattle.matching.specs.AskedValue.{is_asked_node}
use Rattle.matching.specs.Layers.{end_of, trellis}
use Rattle.matching.specs.PieceSteps.{AsksTrace}
use Rattle.matching.specs.Value.{Solution, solution}
use Rattle.matching.proofs.Asking.{is_asked_node-tells}
use Rattle.matching.proofs.Values.{solution-is}
use Rattle.road_network.specs.Net.{Net}
use Rattle.route_rebuild.specs.Chosen.{IsSolved}
use Rattle.trace_match.specs.Laws.{IsWritableMatch}
use Rattle.trace_match.specs.Match.{asks, layers_of, match_of, matched_of, solution_of}
use Rattle.trace_match.specs.inside.Solved.{as_solution}
use Rattle.trace_match.proofs.Lawful.{match_lawful}
use Rattle.trace_reader.specs.declared.trace.Trace.{Trace}
use Rattle.trace_reader.specs.Trace.{IsLawfulTrace}
use Rattle.trellis.specs.declared.parts.Solved.{Solved}
use Rattle.viterbi.specs.Asking.{AsksLayers}
use Rattle.match_pool.specs.Answers.{IsAnswerTo}
use Rattle.match_pool.specs.declared.answer.Answer.{Answer}

-- what was found for the layers of a trace
solution_found : (n : Net) (p : Params) (trace : Trace) (layers : List Layer) (s : Solved) → layers ≡ layers_of n p trace → IsSolved n p layers s → solution_of n p trace ≡ as_solution s
solution_found n p trace layers s same is = ap (solution (trellis n p)) (sym same) ∙ solution-is (trellis n p) layers s.ranks s.pieces s.tables is.matched

match_found : (n : Net) (p : Params) (trace : Trace) (layers : List Layer) (s : Solved) → layers ≡ layers_of n p trace → IsSolved n p layers s
    → matched_of n p trace.id layers (as_solution s) ≡ match_of n p trace
unfolding match_of
match_found n p trace layers s same is =
    ap (λ ls. matched_of n p trace.id ls (as_solution s)) same ∙ ap (matched_of n p trace.id (layers_of n p trace)) (sym (solution_found n p trace layers s same is))

pub answered : (n : Net) (p : Params) (trace : Trace) (answer : Answer) → IsLawfulTrace trace → answer.layers ≡ layers_of n p trace → IsSolved n p answer.layers answer.solved
    → answer.matched ≡ matched_of n p trace.id answer.layers (as_solution answer.solved) → IsAnswerTo n p trace answer
answered n p trace answer lawful same is written =
    let whole = written ∙ match_found n p trace answer.layers answer.solved same is in
    let text : IsWritableMatch n p trace = match_lawful n p trace is.trace.options lawful in
    record {
      layers_are = same;
      solved_is = is;
      matched_is = whole;
      lawful = subst IsLawful (sym whole) text.lawful;
      labels_count = ap (λ (m : MatchedTrace). length m.labels) whole ∙ text.labels_count;
      pieces_few = subst (λ (m : MatchedTrace). length m.pieces ≤ length trace.fixes) (sym whole) text.pieces_few;
    }

-- whether the trace asks, by what was found
asks-is : (n : Net) (p : Params) (trace : Trace) (layers : List Layer) (s : Solved) (v : ℕ) → layers ≡ layers_of n p trace → IsSolved n p layers s
    → asks n p trace v ≡ is_asked_node (trellis n p) (end_of n) layers s.pieces v
unfolding asks
asks-is n p trace layers s v same is =
    ap (λ (x : Solution). is_asked_node (trellis n p) (end_of n) (layers_of n p trace) x.pieces v) (solution_found n p trace layers s same is)
    ∙ ap (λ ls. is_asked_node (trellis n p) (end_of n) ls s.pieces v) (sym same)

-- the trace asks for what its pieces ask for, and for nothing else
pub pieces_ask : (n : Net) (p : Params) (trace : Trace) (layers : List Layer) (s : Solved) (v : ℕ) → layers ≡ layers_of n p trace → IsSolved n p layers s
    → AsksTrace n p layers s.pieces v → asks n p trace v ≡ true
pieces_ask n p trace layers s v same is asked = asks-is n p trace layers s v same is ∙ (is_asked_node-tells (trellis n p) (end_of n) layers s.pieces v).0 asked

pub asked_by_pieces : (n : Net) (p : Params) (trace : Trace) (layers : List Layer) (s : Solved) (v : ℕ) → layers ≡ layers_of n p trace → IsSolved n p layers s
    → asks n p trace v ≡ true → AsksTrace n p layers s.pieces v
asked_by_pieces n p trace layers s v same is asked = (is_asked_node-tells (trellis n p) (end_of n) layers s.pieces v).1 (sym (asks-is n p trace layers s v same is) ∙ asked)

-- whether the trace asks, by its layers alone
asks-layers : (n : Net) (p : Params) (trace : Trace) (layers : List Layer) (v : ℕ) → layers ≡ layers_of n p trace
    → asks n p trace v ≡ is_asked_node (trellis n p) (end_of n) layers (solution (trellis n p) layers).pieces v
unfolding asks
asks-layers n p trace layers v same = ap (λ ls. is_asked_node (trellis n p) (end_of n) ls (solution (trellis n p) ls).pieces v) (sym same)

-- what was asked for while the layers were matched
pub asked_matched : {A E : Type 0} {s0 s1 : RowsState} {result : Result A E} (n : Net) (p : Params) (trace : Trace) (layers : List Layer) → layers ≡ layers_of n p trace
    → AsksFor s0 (AsksLayers n p layers) result s1 → AsksFor s0 (λ v. asks n p trace v ≡ true) result s1
asked_matched n p trace layers same asked =
    let t = trellis n p in
    asks_by asked
    (λ v h. asks-layers n p trace layers v same ∙ (is_asked_node-tells t (end_of n) layers (solution t layers).pieces v).0 h)
    (λ v is. (is_asked_node-tells t (end_of n) layers (solution t layers).pieces v).1 (sym (asks-layers n p trace layers v same) ∙ is))

-- and then while the routes were found
pub asked_routes : {s1 s2 : RowsState} (n : Net) (p : Params) (trace : Trace) (layers : List Layer) (s : Solved) → layers ≡ layers_of n p trace → IsSolved n p layers s
    → AsksOnly s1 s2 (AsksTrace n p layers s.pieces) → AsksOnly s1 s2 (λ v. asks n p trace v ≡ true)
asked_routes n p trace layers s same is asked = only_by asked (λ v h. pieces_ask n p trace layers s v same is h)

pub asked_both : {s0 s1 s2 : RowsState} {asked : ℕ → Type 0} → AsksOnly s0 s1 asked → AsksOnly s1 s2 asked → AsksOnly s0 s2 asked
asked_both one two = only_then one two (λ v h. ⊎_elim (λ first. first) (λ next. next) h)

pub all_both : {s0 s1 s2 : RowsState} {asked : ℕ → Type 0} → AsksAll s0 s1 asked → AsksOnly s1 s2 asked → AsksAll s0 s2 asked
all_both one two = record { only = asked_both one.only two; all = λ v asked. two.keeps.known v (one.all v asked) }
