-- Where `streams` is done, each id has what `follow` writes of its trace.
use Rattle.std.proofs.Common.{◌≡◌, ℕ, ◌<◌, ◌^◌, not, Bool, true, false, cond, List, [], ◌∷◌, ◌++◌, Option, Some, None, refl, sym, ap, ◌∙◌, arith, codes, length, map, nat_eq}
use Rattle.std.specs.List.{All, concat, filter, list_all}
use Rattle.std.specs.Prelude.{option_map}
use Rattle.std.proofs.lemmas.Bool.Decides.{nat_tests}
use Rattle.std.proofs.lemmas.List.{append_assoc}
use Rattle.std.proofs.lemmas.List.Elements.{All-append, All-cons, All-head, All-nil, All-tail}
use Rattle.std.proofs.lemmas.List.Folds.{concat-append}
use Rattle.decimal_text.specs.Number.{decimal, unsigned_within}
use Rattle.match_text.specs.Reading.{number_at}
use Rattle.program_frame.specs.Counts.{total_of}
use Rattle.program_frame.specs.Jobs.{position_count}
use Rattle.program_frame.specs.Total.{total_line, worded}
use Rattle.trace_match.specs.Setting.{Setting}
use Rattle.trace_match.specs.Totals.{piece_count, asked_count}
use Rattle.trace_reader.specs.Reading.{file_fault, file_traces}
use Rattle.trace_reader.specs.declared.trace.Fix.{Fix}
use Rattle.trace_reader.specs.declared.trace.Trace.{Trace}
use Rattle.trace_sessions.specs.StreamText.{Point, all_lines, closing_lines, fixes_among, full_id, points_in, stream_lines, text_led_by}
use Rattle.trace_sessions.proofs.ByteLines.{IsOneLine, IsPlain, decimal-plain, ids_have_follow_texts_before, none-leads, plain-word}
use Rattle.follow_work.specs.FollowedIds.{FollowsEachId, StreamsFollowEachId}
use Rattle.follow_work.specs.Streams.{pairs_in_order, streamed_of, stream_ending, stream_refusal, streams_job, too_long_line, whole_traces}
use Rattle.follow_work.proofs.IdTraces.{traces-of_ids}
use Rattle.follow_work.proofs.ReadIds.{HasShortId, read_ids}
use Rattle.follow_work.proofs.StreamOutcomes.{outcome-says}

-- ---- ids below 2^32

abbrev IsSmall : Point → Type 0
IsSmall x = x.0 < 2 ^ 32

small-fixes : (id : ℕ) (fixes : List Fix) → id < 2 ^ 32 → All IsSmall (map (λ (fix : Fix). (id, fix)) fixes)
small-fixes id [] small = All-nil IsSmall
small-fixes id (fix ∷ fixes) small = All-cons IsSmall (id, fix) (map (λ (f : Fix). (id, f)) fixes) small (small-fixes id fixes small)

pub small-points : (traces : List Trace) → All HasShortId traces → All IsSmall (points_in traces)
small-points [] are = All-nil IsSmall
small-points (trace ∷ traces) are =
    All-append IsSmall (map (λ (fix : Fix). (trace.id, fix)) trace.fixes) (points_in traces)
    (small-fixes trace.id trace.fixes (All-head HasShortId trace traces are)) (small-points traces (All-tail HasShortId trace traces are))

small-id : (id : ℕ) (points : List Point) → All IsSmall points → 0 < length (fixes_among id points) → id < 2 ^ 32
small-id id [] are some = absurd (omega (arith, some))
small-id id (x ∷ more) are some = step (nat_eq id x.0) refl some (small-id id more (All-tail IsSmall x more are))
  where
    rest : List Point
    rest = filter (λ (y : Point). nat_eq id y.0) more

    step : (b : Bool) → nat_eq id x.0 ≡ b → 0 < length (map (λ (y : Point). y.1) (cond b (x ∷ rest) rest)) → (0 < length (fixes_among id more) → id < 2 ^ 32) → id < 2 ^ 32
    step true is any later =
        let same : id ≡ x.0 = grind (arith, nat_tests) in
        let small = All-head IsSmall x more are in
        omega (arith, same, small)
    step false is any later = later any

-- ---- the total line

worded-plain : (word : List ℕ) (n : ℕ) → list_all (λ b. not (nat_eq b 10)) word ≡ true → All IsPlain (worded word n)
worded-plain word n plain = All-append IsPlain word (decimal n) (plain-word word plain) (decimal-plain n)

pub total-one : (traces points pieces rows : ℕ) → IsOneLine (total_line traces points pieces rows)
total-one traces points pieces rows =
    let first = worded (codes "total traces ") traces in
    let second = worded (codes " points ") points in
    let third = worded (codes " pieces ") pieces in
    let last = worded (codes " rows ") rows in
    let two = All-append IsPlain first second (worded-plain (codes "total traces ") traces refl) (worded-plain (codes " points ") points refl) in
    let three = All-append IsPlain (first ++ second) third two (worded-plain (codes " pieces ") pieces refl) in
    record {
      body = first ++ second ++ third ++ last;
      plain = All-append IsPlain (first ++ second ++ third) last three (worded-plain (codes " rows ") rows refl);
      is = refl;
    }

pub no-number : (traces points pieces rows : ℕ) → number_at (2 ^ 32) (total_line traces points pieces rows) ≡ None
unfolding number_at unsigned_within
no-number traces points pieces rows = refl

-- ---- the text

text-is : (on : Setting) (traces : List Trace) → streamed_of on traces ++ stream_ending on traces
    ≡ concat (all_lines on.network on.params (points_in traces)) ++ total_of (piece_count on) (asked_count on) (whole_traces traces)
text-is on traces =
    let lines = stream_lines on.network on.params [] (points_in traces) in
    let last = closing_lines on.network on.params (pairs_in_order traces) in
    let total = total_of (piece_count on) (asked_count on) (whole_traces traces) in
    sym (append_assoc (concat lines) (concat last) total) ∙ ap (λ t. t ++ total) (sym (concat-append lines last))

none-full : (line_of : ℕ → List ℕ) (full : Option ℕ) → option_map line_of full ≡ None → full ≡ None
none-full line_of None is = refl
none-full line_of (Some id) is = absurd (cc is)

follows : (on : Setting) (bytes : List ℕ) → file_fault bytes ≡ None → stream_refusal (file_traces bytes) ≡ None
    → FollowsEachId on bytes (streamed_of on (file_traces bytes) ++ stream_ending on (file_traces bytes))
follows on bytes whole none =
    let traces = file_traces bytes in
    let points = points_in traces in
    let all = whole_traces traces in
    let are = small-points traces (read_ids bytes) in
    let room = none-full too_long_line (full_id [] points) none in
    let total = total_of (piece_count on) (asked_count on) all in
    record {
      no_fault = whole;
      followed = λ id some. (
          let small = small-id id points are some in
          ap (text_led_by id) (text-is on traces)
          ∙ ids_have_follow_texts_before on.network on.params points id total are small room some
          (total-one (length all) (position_count all) (piece_count on all) (asked_count on all))
          (none-leads id total small (no-number (length all) (position_count all) (piece_count on all) (asked_count on all))));
      traces = all;
      traces_are = traces-of_ids bytes;
      lines = concat (all_lines on.network on.params points);
      ended = text-is on traces;
    }

-- ---- the outcome

pub streams_follow_each_id : StreamsFollowEachId
streams_follow_each_id limits network traces options files o is done =
    let r = outcome-says streams_job FollowsEachId follows limits network traces options files o is done in
    record {
      roads = r.roads;
      net = r.accepted.net;
      bytes = r.accepted.read.bytes;
      roads_are = r.roads_are;
      accepted = r.accepted.said_is;
      bytes_are = r.accepted.read.held_is;
      follows = r.accepted.read.holds;
    }
