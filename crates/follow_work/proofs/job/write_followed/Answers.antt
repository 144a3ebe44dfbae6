use Rattle.std.proofs.Common.{◌≡◌, ◌++◌, refl, sym, subst, append-nil, arith}
use Rattle.std.proofs.lemmas.List.{take_all}
use Rattle.bounded_table.proofs.Asking.{asks_ok}
use Rattle.follow_work.specs.Follow.{followed_of}
use Rattle.trace_match.specs.inside.Asked.{AsksTraces}
use Rattle.program_frame.specs.inside.Tallies.{IsCountOfPieces}
use Rattle.trace_match.proofs.AskedRows.{asks_next, asks_none}
use Rattle.follow_work.proofs.Follows.{followed_next, pieces_followed}
use Rattle.follow_work.proofs.job.write_followed.Goals as goal
use Rattle.trace_match.specs.Totals.{piece_count}

pub loop-trace-init : goal.loop-trace-init
loop-trace-init c = record {
  text = sym (append-nil c.args.into.now);
  pieces = record { are = refl; few = omega arith };
  asks = asks_none c.args.matcher.now c.args.rows.now c.requires.rows;
}

pub loop-trace-preserved : goal.loop-trace-preserved
loop-trace-preserved c =
    let inv = c.loop-trace.invariant in
    record {
      text = followed_next c.args.matcher.now c.args.traces.now c.loop-trace.trace-index c.trace-item.result c.args.into.now c.loop-trace.into c.follow_one.new.into c.loop-trace-test.true c.trace-item.is inv.text c.in_ok-count.ensures.followed.written;
      pieces = pieces_followed c.args.matcher.now c.args.traces.now c.loop-trace.trace-index c.trace-item.result c.loop-trace.pieces c.in_ok-count.count c.loop-trace-test.true c.trace-item.is c.in_ok-count.ensures.followed.pieces inv.pieces;
      asks = asks_next c.args.matcher.now c.args.traces.now c.loop-trace.trace-index c.trace-item.result c.args.rows.now c.loop-trace.rows c.follow_one.new.rows c.loop-trace-test.true c.trace-item.is inv.asks (asks_ok c.follow_one.ensures.asks c.in_ok-count.was);
    }

pub returns-clause-text : goal.returns-clause-text
returns-clause-text c =
    subst (λ t. c.loop-trace.into ≡ c.args.into.now ++ followed_of c.args.matcher.now t) (take_all c.loop-trace.trace-index c.args.traces.now c.loop-trace-test.false) c.loop-trace.invariant.text

pub returns-clause-pieces : goal.returns-clause-pieces
returns-clause-pieces c =
    subst (λ t. IsCountOfPieces (piece_count c.args.matcher.now) t c.loop-trace.pieces) (take_all c.loop-trace.trace-index c.args.traces.now c.loop-trace-test.false) c.loop-trace.invariant.pieces

pub returns-clause-asks : goal.returns-clause-asks
returns-clause-asks c =
    subst (λ t. AsksTraces c.args.matcher.now t c.args.rows.now c.loop-trace.rows) (take_all c.loop-trace.trace-index c.args.traces.now c.loop-trace-test.false) c.loop-trace.invariant.asks
