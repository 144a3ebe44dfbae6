use Rattle.std.proofs.Common.{◌≡◌, ◌≤◌, ◌+◌, true, ◌∙◌, sym, ap, subst, arith, length}
use Rattle.std.proofs.lemmas.List.{length-map}
use Rattle.bounded_table.specs.Rows.{AsksAll}
use Rattle.bounded_table.proofs.Asking.{asks_done, asks_err, asks_nothing}
use Rattle.trace_match.specs.Match.{asks, layer_of}
use Rattle.online_commit.specs.Session.{AsksPoints}
use Rattle.trace_sessions.specs.Following.{pieces_among}
use Rattle.trace_sessions.specs.ItemText.{AreItemsOf}
use Rattle.trace_sessions.proofs.FollowedPoints.{all_counted, all_fed, all_layers, can_feed, fed_count, few_followed, first_layers, last_left, left_lies, none_followed, turned}
use Rattle.trace_sessions.proofs.FollowedRows.{all_asked, fed_asked, first_asked, last_asked, next_asked, none_asked, session_rows}
use Rattle.trace_sessions.proofs.FollowedText.{text_begins, text_ends, text_next}
use Rattle.trace_sessions.proofs.SessionFixes.{on-err}
use Rattle.trace_sessions.proofs.Written.{adds-stays, stays-behind, stays-itself}
use Rattle.trace_sessions.proofs.following.append_followed.Goals as goal

pub loop-fix-init : goal.loop-fix-init
loop-fix-init g c = record {
  followed = none_followed c.args.on.now.net.now c.args.on.now.params.now c.args.trace.now c.open-session.result c.open-session.ensures.opened c.open-session.ensures.stands;
  text = text_begins c.args.on.now.net.now c.args.on.now.params.now c.args.trace.now c.args.into.now c.write_trace.new.into c.in_ok-write_trace.ensures.ok;
  asked = none_asked c.args.on.now.net.now c.args.on.now.params.now (g.R.Rows.state c.args.rows.now);
}

pub feed-requires-clause-layer : goal.feed-requires-clause-layer
feed-requires-clause-layer g c =
    can_feed c.args.on.now.net.now c.args.on.now.params.now c.args.trace.now c.as_slice-fix-items.result.now c.loop-fix.fix-index _ c.in_ok-layer.layer c.loop-fix.session c.loop-fix.pieces
    c.args.on.now.is.options c.requires.trace c.as_slice-fix-items.ensures c.loop-fix-test.true c.in_ok-layer.ensures c.loop-fix.invariant.followed

pub returns-in_err-layer-clause-err : goal.returns-in_err-layer-clause-err
returns-in_err-layer-clause-err g c = on-err c.from_residual-in_err-layer.result (stays-behind c.args.into.now _ c.loop-fix.into c.loop-fix.into c.loop-fix.invariant.text (stays-itself c.loop-fix.into))

pub returns-in_err-items-clause-err : goal.returns-in_err-items-clause-err
returns-in_err-items-clause-err g c = on-err c.from_residual-in_err-items.result (stays-behind c.args.into.now _ c.loop-fix.into c.loop-fix.into c.loop-fix.invariant.text (stays-itself c.loop-fix.into))

pub returns-in_err-write_step-clause-err : goal.returns-in_err-write_step-clause-err
returns-in_err-write_step-clause-err g c = on-err c.from_residual-in_err-write_step.result (stays-behind c.args.into.now _ c.loop-fix.into c.write_step.new.into c.loop-fix.invariant.text (adds-stays c.loop-fix.into _ c.write_step.new.into c.in_err-write_step.ensures.err))

pub returns-in_err-items-2-clause-err : goal.returns-in_err-items-2-clause-err
returns-in_err-items-2-clause-err g c = on-err c.from_residual-in_err-items-2.result (stays-behind c.args.into.now _ c.loop-fix.into c.loop-fix.into c.loop-fix.invariant.text (stays-itself c.loop-fix.into))

pub returns-in_err-write_rest-clause-err : goal.returns-in_err-write_rest-clause-err
returns-in_err-write_rest-clause-err g c = on-err c.from_residual-in_err-write_rest.result (stays-behind c.args.into.now _ c.loop-fix.into c.write_rest.new.into c.loop-fix.invariant.text (adds-stays c.loop-fix.into _ c.write_rest.new.into c.in_err-write_rest.ensures.err))

pub returns-in_err-write_trace-clause-asks : goal.returns-in_err-write_trace-clause-asks
returns-in_err-write_trace-clause-asks g c =
    let first = g.R.Rows.state c.args.rows.now in
    asks_err (asks_nothing first (λ v. asks c.args.on.now.net.now c.args.on.now.params.now c.args.trace.now v ≡ true)) c.from_residual.ensures.0

pub returns-in_err-layer-clause-asks : goal.returns-in_err-layer-clause-asks
returns-in_err-layer-clause-asks g c =
    asks_err (first_asked c.args.on.now.net.now c.args.on.now.params.now c.args.trace.now c.loop-fix.fix-index c.loop-fix.invariant.asked.only) c.from_residual-in_err-layer.ensures.0

pub feed-requires-clause-rows : goal.feed-requires-clause-rows
feed-requires-clause-rows g c =
    session_rows c.args.on.now.net.now c.args.on.now.params.now c.loop-fix.session (g.R.Rows.state c.args.rows.now) (g.R.Rows.state c.loop-fix.rows) _ c.loop-fix.invariant.followed.network c.loop-fix.invariant.followed.params c.requires.rows c.loop-fix.invariant.asked

pub finish-requires : goal.finish-requires
finish-requires g c = record {
  rows = session_rows c.args.on.now.net.now c.args.on.now.params.now c.loop-fix.session (g.R.Rows.state c.args.rows.now) (g.R.Rows.state c.loop-fix.rows) _ c.loop-fix.invariant.followed.network c.loop-fix.invariant.followed.params c.requires.rows c.loop-fix.invariant.asked;
}

pub returns-in_err-items-2-clause-asks : goal.returns-in_err-items-2-clause-asks
returns-in_err-items-2-clause-asks g c =
    let inv = c.loop-fix.invariant in
    let i = c.loop-fix.fix-index in
    asks_err (last_asked c.args.on.now.net.now c.args.on.now.params.now c.args.trace.now i c.loop-fix.session inv.followed.network inv.followed.params inv.followed.stands inv.asked c.finish.ensures.asks)
    c.from_residual-in_err-items-2.ensures.0

pub returns-in_err-write_rest-clause-asks : goal.returns-in_err-write_rest-clause-asks
returns-in_err-write_rest-clause-asks g c =
    let inv = c.loop-fix.invariant in
    let i = c.loop-fix.fix-index in
    asks_err (last_asked c.args.on.now.net.now c.args.on.now.params.now c.args.trace.now i c.loop-fix.session inv.followed.network inv.followed.params inv.followed.stands inv.asked c.finish.ensures.asks)
    c.from_residual-in_err-write_rest.ensures.0

pub returns-in_err-items-clause-asks : goal.returns-in_err-items-clause-asks
returns-in_err-items-clause-asks g c =
    let n = c.args.on.now.net.now in
    let p = c.args.on.now.params.now in
    let inv = c.loop-fix.invariant in
    let fixes = c.as_slice-fix-items.ensures in
    asks_err (fed_asked n p c.args.trace.now c.as_slice-fix-items.result.now c.loop-fix.fix-index _ c.in_ok-layer.layer c.loop-fix.session fixes c.loop-fix-test.true c.in_ok-layer.ensures
    inv.followed.network inv.followed.params inv.followed.stands inv.asked c.feed.ensures.asks) c.from_residual-in_err-items.ensures.0

pub write_step-requires : goal.write_step-requires
write_step-requires g c =
    let turn = turned c.args.on.now.net.now c.args.on.now.params.now c.args.trace.now c.as_slice-fix-items.result.now c.loop-fix.fix-index _ c.in_ok-layer.layer c.loop-fix.session c.feed.new.self c.loop-fix.pieces c.in_ok-items.items
    c.invariants.ensures c.args.on.now.is.options c.requires.trace c.as_slice-fix-items.ensures c.loop-fix-test.true c.in_ok-layer.ensures c.loop-fix.invariant.followed c.in_ok-items.ensures.fed in
    subst (AreItemsOf c.args.on.now.net.now) (sym c.as_slice.ensures) turn.lies

pub returns-in_err-write_step-clause-asks : goal.returns-in_err-write_step-clause-asks
returns-in_err-write_step-clause-asks g c =
    let n = c.args.on.now.net.now in
    let p = c.args.on.now.params.now in
    let inv = c.loop-fix.invariant in
    let fixes = c.as_slice-fix-items.ensures in
    asks_err (fed_asked n p c.args.trace.now c.as_slice-fix-items.result.now c.loop-fix.fix-index _ c.in_ok-layer.layer c.loop-fix.session fixes c.loop-fix-test.true c.in_ok-layer.ensures
    inv.followed.network inv.followed.params inv.followed.stands inv.asked c.feed.ensures.asks) c.from_residual-in_err-write_step.ensures.0

pub overflow_add-pieces : goal.overflow_add-pieces
overflow_add-pieces g c =
    let turn = turned c.args.on.now.net.now c.args.on.now.params.now c.args.trace.now c.as_slice-fix-items.result.now c.loop-fix.fix-index _ c.in_ok-layer.layer c.loop-fix.session c.feed.new.self c.loop-fix.pieces c.in_ok-items.items
    c.invariants.ensures c.args.on.now.is.options c.requires.trace c.as_slice-fix-items.ensures c.loop-fix-test.true c.in_ok-layer.ensures c.loop-fix.invariant.followed c.in_ok-items.ensures.fed in
    let counted = c.count_pieces-pieces.ensures ∙ ap pieces_among c.as_slice-in-loop-fix.ensures in
    let few = few_followed c.args.on.now.net.now c.args.on.now.params.now c.args.trace.now (c.loop-fix.fix-index + 1) c.feed.new.self (c.loop-fix.pieces + c.count_pieces-pieces.result) c.args.on.now.is.options c.requires.trace
    (turn.followed c.count_pieces-pieces.result counted) in
    let most = c.requires.trace.few in
    omega (arith, few, most)

pub loop-fix-preserved : goal.loop-fix-preserved
loop-fix-preserved g c =
    let n = c.args.on.now.net.now in
    let p = c.args.on.now.params.now in
    let trace = c.args.trace.now in
    let i = c.loop-fix.fix-index in
    let inv = c.loop-fix.invariant in
    let layer = c.in_ok-layer.layer in
    let turn = turned n p trace c.as_slice-fix-items.result.now i _ layer c.loop-fix.session c.feed.new.self c.loop-fix.pieces c.in_ok-items.items
    c.invariants.ensures c.args.on.now.is.options c.requires.trace c.as_slice-fix-items.ensures c.loop-fix-test.true c.in_ok-layer.ensures inv.followed c.in_ok-items.ensures.fed in
    let low = c.loop-fix-test.true in
    let size = ap length c.as_slice-fix-items.ensures in
    let point = c.count-point.ensures ∙ fed_count n p trace i c.loop-fix.session c.loop-fix.pieces inv.followed (omega (arith, low, size)) in
    let first = g.R.Rows.state c.args.rows.now in
    let now = g.R.Rows.state c.feed.new.rows in
    record {
      followed = turn.followed c.count_pieces-pieces.result (c.count_pieces-pieces.ensures ∙ ap pieces_among c.as_slice-in-loop-fix.ensures);
      text = text_next n p trace i c.count-point.result c.as_slice.result.now c.args.into.now c.loop-fix.into c.write_step.new.into inv.text point (c.as_slice.ensures ∙ turn.next.are) c.in_ok-write_step.ensures.ok;
      asked = subst (λ ls. AsksAll first now (AsksPoints n p ls)) (sym turn.layers)
          (next_asked n p c.loop-fix.session (first_layers n p trace i) layer inv.followed.network inv.followed.params inv.followed.stands inv.asked c.feed.ensures.asks c.in_ok-items.was);
    }

pub write_rest-requires : goal.write_rest-requires
write_rest-requires g c =
    let n = c.args.on.now.net.now in
    let p = c.args.on.now.params.now in
    let trace = c.args.trace.now in
    let over = subst (λ fs. length fs ≤ c.loop-fix.fix-index) c.as_slice-fix-items.ensures c.loop-fix-test.false in
    let left = last_left n p trace c.loop-fix.fix-index c.loop-fix.session c.finish.new.self c.loop-fix.pieces c.in_ok-items-2.items c.loop-fix.invariant.followed over c.in_ok-items-2.ensures.finished in
    subst (AreItemsOf n) (sym c.as_slice-2.ensures) (left_lies n p trace c.in_ok-items-2.items c.invariants.ensures c.args.on.now.is.options c.requires.trace left)

pub overflow_add-result : goal.overflow_add-result
overflow_add-result g c =
    let n = c.args.on.now.net.now in
    let p = c.args.on.now.params.now in
    let trace = c.args.trace.now in
    let over = subst (λ fs. length fs ≤ c.loop-fix.fix-index) c.as_slice-fix-items.ensures c.loop-fix-test.false in
    let left = last_left n p trace c.loop-fix.fix-index c.loop-fix.session c.finish.new.self c.loop-fix.pieces c.in_ok-items-2.items c.loop-fix.invariant.followed over c.in_ok-items-2.ensures.finished in
    let counted = c.count_pieces.ensures ∙ ap pieces_among c.as_slice-3.ensures in
    let few = (all_counted n p trace c.loop-fix.fix-index c.loop-fix.session c.loop-fix.pieces c.count_pieces.result c.in_ok-items-2.items c.args.on.now.is.options c.requires.trace c.loop-fix.invariant.followed over left counted).few in
    let most = c.requires.trace.few in
    omega (arith, few, most)

pub returns-clause-followed : goal.returns-clause-followed
returns-clause-followed g c =
    let n = c.args.on.now.net.now in
    let p = c.args.on.now.params.now in
    let trace = c.args.trace.now in
    let i = c.loop-fix.fix-index in
    let over = subst (λ fs. length fs ≤ i) c.as_slice-fix-items.ensures c.loop-fix-test.false in
    let left = last_left n p trace i c.loop-fix.session c.finish.new.self c.loop-fix.pieces c.in_ok-items-2.items c.loop-fix.invariant.followed over c.in_ok-items-2.ensures.finished in
    let size = ap length c.as_slice-fix-items.ensures in
    let count = length-map trace.fixes (layer_of n p) in
    let within = c.loop-fix.auto.fix-index-end in
    let counted = c.count_pieces.ensures ∙ ap pieces_among c.as_slice-3.ensures in
    record {
      written = text_ends n p trace i c.as_slice-2.result.now c.args.into.now c.loop-fix.into c.write_rest.new.into c.loop-fix.invariant.text
          (omega (arith, over, size, count, within)) (c.as_slice-2.ensures ∙ left.are) c.in_ok-write_rest.ensures.ok;
      pieces = all_counted n p trace i c.loop-fix.session c.loop-fix.pieces c.count_pieces.result c.in_ok-items-2.items c.args.on.now.is.options c.requires.trace c.loop-fix.invariant.followed over left counted;
    }

pub returns-clause-asks : goal.returns-clause-asks
returns-clause-asks g c =
    let n = c.args.on.now.net.now in
    let p = c.args.on.now.params.now in
    let trace = c.args.trace.now in
    let i = c.loop-fix.fix-index in
    let inv = c.loop-fix.invariant in
    let over = subst (λ fs. length fs ≤ i) c.as_slice-fix-items.ensures c.loop-fix-test.false in
    let first = g.R.Rows.state c.args.rows.now in
    let before = subst (λ ls. AsksAll first (g.R.Rows.state c.loop-fix.rows) (AsksPoints n p ls)) (all_layers n p trace i over) inv.asked in
    let all = all_asked n p trace c.loop-fix.session inv.followed.network inv.followed.params (all_fed n p trace i c.loop-fix.session c.loop-fix.pieces inv.followed over) before c.finish.ensures.asks in
    asks_done all
