use Rattle.std.proofs.Common.{◌++◌, ap, refl, ◌∙◌, arith}
use Rattle.program_frame.proofs.PointCounts.{points-append}
use Rattle.match_work.specs.Matched.{pieces_in}
use Rattle.match_work.specs.inside.Calls.{text_of_matches}
use Rattle.program_frame.proofs.Counting.{fits_more}
use Rattle.match_work.proofs.Jobs.{can_match, matched_more, text_grows}
use Rattle.match_work.proofs.TraceMatches.{pieces_found, texts_written}
use Rattle.match_work.proofs.matches.MatchJobJob.take.Goals as goal
use Rattle.trace_match.specs.Totals.{piece_count}

pub match_by-requires : goal.match_by-requires
match_by-requires g c lifetimes = (
  (refl, tt),
  (
    c.requires.1.1,
    (
      can_match c.args.self.now.matcher.now c.requires.0 c.args.traces.now c.args.self.now.readers c.args.self.now.tally c.requires.1.0 c.requires.2 c.requires.3,
      c.requires.1.0.shared.readers_are,
    ),
  ),
)

pub write_by-requires-clause-lawful : goal.write_by-requires-clause-lawful
write_by-requires-clause-lawful g c = rw c.as_slice.ensures c.in_ok-matches.ensures.matched.lawful

pub write_by-requires-clause-few : goal.write_by-requires-clause-few
write_by-requires-clause-few g c =
    let bounded = c.requires.2.few_points in
    let few = c.in_ok-matches.ensures.matched.few in
    let pieces = ap pieces_in c.as_slice.ensures in
    omega (arith, bounded, few, pieces, points-append c.requires.0 c.args.traces.now)

pub add-requires : goal.add-requires
add-requires g c =
    let on = c.args.self.now.matcher.now in
    fits_more (piece_count on) c.requires.0 c.args.traces.now c.args.self.now.tally c.in_ok-pieces.pieces c.requires.2 c.requires.1.0.counts
    (pieces_found on c.args.traces.now c.in_ok-matches.matches c.in_ok-pieces.pieces c.in_ok-matches.ensures.matched (c.in_ok-pieces.ensures.pieces ∙ ap pieces_in c.as_slice.ensures))

pub returns-clause-takes : goal.returns-clause-takes
returns-clause-takes g c before has bounded =
    let on = c.args.self.now.matcher.now in
    let traces = c.args.traces.now in
    let batch = c.in_ok-matches.ensures in
    let are = pieces_found on traces c.in_ok-matches.matches c.in_ok-pieces.pieces batch.matched (c.in_ok-pieces.ensures.pieces ∙ ap pieces_in c.as_slice.ensures) in
    let grown = c.in_ok-pieces.ensures.text ∙ ap (λ m. c.args.into.now ++ text_of_matches m) c.as_slice.ensures in (
      (matched_more on before traces c.args.self.now.readers c.match_by.new.readers c.args.self.now.tally c.add.new.self c.in_ok-pieces.pieces has.0 are batch.stay batch.learn c.add.ensures, has.1, has.2),
      refl,
      text_grows on before traces c.args.into.now c.write_by.new.into (texts_written on traces c.in_ok-matches.matches c.args.into.now c.write_by.new.into batch.matched grown),
    )
