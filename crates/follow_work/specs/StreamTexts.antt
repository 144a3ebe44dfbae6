-- The text of more fragments begins with that of fewer, and a refusal stays.
use Rattle.std.proofs.Common.{◌≡◌, ℕ, List, [], ◌++◌, Some, None, refl, sym, ◌∙◌, ap}
use Rattle.std.specs.Prelude.{option_map}
use Rattle.std.specs.declared.option.Option.{Option}
use Rattle.std.specs.List.{concat}
use Rattle.std.proofs.lemmas.List.Concat.{flat_map-append}
use Rattle.std.proofs.lemmas.List.Folds.{concat-append}
use Rattle.cost_model.specs.declared.params.Params.{Params}
use Rattle.road_network.specs.Net.{Net}
use Rattle.trace_reader.specs.declared.trace.Trace.{Trace}
use Rattle.trace_sessions.specs.StreamText.{Point, fragment_points, full_id, points_in, stream_lines}
use Rattle.trace_sessions.proofs.StreamPoints.{full-stays, lines-begin}

pub points-append : (front back : List Trace) → points_in (front ++ back) ≡ points_in front ++ points_in back
points-append front back = flat_map-append fragment_points front back

abbrev streamed_text : Net → Params → List Point → List ℕ
streamed_text n p points = concat (stream_lines n p [] points)

pub texts-begin : (n : Net) (p : Params) (front back : List Trace)
    → (more : List ℕ) × (concat (stream_lines n p [] (points_in (front ++ back))) ≡ concat (stream_lines n p [] (points_in front)) ++ more)
texts-begin n p front back =
    let begins = lines-begin n p [] (points_in front) (points_in back) in
    (concat begins.0, ap (streamed_text n p) (points-append front back) ∙ ap concat begins.1 ∙ concat-append (stream_lines n p [] (points_in front)) begins.0)

said_of : (line_of : ℕ → List ℕ) (o : Option ℕ) (line : List ℕ) → option_map line_of o ≡ Some line → (id : ℕ) × (o ≡ Some id)
said_of line_of None line is = absurd cc
said_of line_of (Some id) line is = (id, refl)

pub refusal-stays : (n : Net) (p : Params) (line_of : ℕ → List ℕ) (front back : List Trace) (line : List ℕ) → option_map line_of (full_id [] (points_in front)) ≡ Some line
    → (option_map line_of (full_id [] (points_in (front ++ back))) ≡ Some line)
    × (concat (stream_lines n p [] (points_in (front ++ back))) ≡ concat (stream_lines n p [] (points_in front)))
refusal-stays n p line_of front back line is =
    let full = said_of line_of (full_id [] (points_in front)) line is in
    let stays = full-stays n p [] (points_in front) (points_in back) full.0 full.1 in (
      ap (λ ps. option_map line_of (full_id [] ps)) (points-append front back) ∙ ap (option_map line_of) (stays.0 ∙ sym full.1) ∙ is,
      ap (streamed_text n p) (points-append front back) ∙ ap concat stays.1,
    )
