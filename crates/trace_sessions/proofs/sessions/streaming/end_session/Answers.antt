use Rattle.std.proofs.Common.{◌∙◌, refl, sym, ap, subst}
use Rattle.std.specs.List.{concat}
use Rattle.std.proofs.lemmas.Result.{err_from_is_err_and}
use Rattle.bounded_table.specs.Rows.{AreRowsOf}
use Rattle.trace_sessions.specs.Following.{pieces_among}
use Rattle.trace_sessions.specs.ItemText.{AreItemsOf}
use Rattle.trace_sessions.specs.StreamText.{lines_at_end}
use Rattle.trace_sessions.proofs.StreamLines.{end-counted, end-cut, end-text, rest-lies, rest-of}
use Rattle.trace_sessions.proofs.Written.{adds-none}
use Rattle.trace_sessions.proofs.sessions.streaming.end_session.Goals as goal

pub finish-requires : goal.finish-requires
finish-requires g c = record {
  rows = subst (λ m. AreRowsOf (g.R.Rows.state c.args.rows.now) m c.args.session.params.bound) (sym c.requires.can.is.network) c.requires.rows;
}

pub write_rest-requires : goal.write_rest-requires
write_rest-requires g c =
    let can = c.requires.can in
    let rest = rest-of c.args.by.now.net.now c.args.session c.finish.new.self can.fixes c.in_ok-items.items can.is c.in_ok-items.ensures.finished in
    subst (AreItemsOf c.args.by.now.net.now) (sym c.as_slice.ensures)
    (rest-lies c.args.by.now.net.now c.args.session.params c.args.id can.fixes c.in_ok-items.items c.invariants.ensures can.accepted can.lawful rest)

pub returns-clause-ends : goal.returns-clause-ends
returns-clause-ends g c fixes is =
    let n = c.args.by.now.net.now in
    let p = c.args.session.params in
    let items = c.in_ok-items.items in
    let rest = rest-of n c.args.session c.finish.new.self fixes items is c.in_ok-items.ensures.finished in
    record {
      written = end-text n p c.args.id fixes c.as_slice.result.now c.args.into.now c.write_rest.new.into (c.as_slice.ensures ∙ rest.are) c.in_ok-write_rest.ensures.ok;
      counted = end-counted n p c.args.id fixes items c.count_pieces.result rest (c.count_pieces.ensures ∙ ap pieces_among c.as_slice-2.ensures);
    }

pub returns-in_err-items-clause-ends : goal.returns-in_err-items-clause-ends
returns-in_err-items-clause-ends g c fixes is =
    let p = err_from_is_err_and c.from_residual.result c.from_residual.ensures.1 in
    rw p.1 (adds-none c.args.into.now (concat (lines_at_end c.args.by.now.net.now c.args.session.params (c.args.id, fixes))) c.args.into.now refl)

pub returns-in_err-write_rest-clause-ends : goal.returns-in_err-write_rest-clause-ends
returns-in_err-write_rest-clause-ends g c fixes is =
    let n = c.args.by.now.net.now in
    let p = c.args.session.params in
    let rest = rest-of n c.args.session c.finish.new.self fixes c.in_ok-items.items is c.in_ok-items.ensures.finished in
    let e = err_from_is_err_and c.from_residual-in_err-write_rest.result c.from_residual-in_err-write_rest.ensures.1 in
    rw e.1 (end-cut n p c.args.id fixes c.as_slice.result.now c.args.into.now c.write_rest.new.into (c.as_slice.ensures ∙ rest.are) c.in_err-write_rest.ensures.err)
