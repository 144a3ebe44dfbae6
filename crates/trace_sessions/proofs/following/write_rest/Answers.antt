use Rattle.std.proofs.Common.{◌++◌}
use Rattle.std.proofs.lemmas.Result.{on_err_weaker, on_ok_weaker}
use Rattle.match_text.specs.MatchText.{end_line}
use Rattle.trace_sessions.specs.ItemText.{lead_of}
use Rattle.trace_sessions.proofs.SessionFixes.{on-err}
use Rattle.trace_sessions.proofs.Written.{adds-none, led-only, rest-finished, rest-led-only, rest-listed, rest-written}
use Rattle.trace_sessions.proofs.following.write_rest.Goals as goal

pub returns-in_err-extend_from_slice-clause-err : goal.returns-in_err-extend_from_slice-clause-err
returns-in_err-extend_from_slice-clause-err c =
    on-err c.from_residual-in_err-extend_from_slice.result
    (rest-led-only c.args.by.now.net.now c.args.lead c.args.id c.args.items.now c.args.into.now c.write_lead.new.into c.extend_from_slice.new.self c.in_ok-write_lead.ensures.ok c.in_err-extend_from_slice.ensures.err)

pub returns-in_err-write_items-clause-err : goal.returns-in_err-write_items-clause-err
returns-in_err-write_items-clause-err c =
    on-err c.from_residual-in_err-write_items.result
    (rest-finished c.args.by.now.net.now c.args.lead c.args.id c.args.items.now c.args.into.now c.write_lead.new.into c.extend_from_slice.new.self c.write_items.new.into
    c.in_ok-write_lead.ensures.ok c.in_ok-extend_from_slice.ensures.ok c.in_err-write_items.ensures.err)

pub returns-in_err-write_lead-2-clause-err : goal.returns-in_err-write_lead-2-clause-err
returns-in_err-write_lead-2-clause-err c =
    on-err c.from_residual-in_err-write_lead-2.result
    (rest-listed c.args.by.now.net.now c.args.lead c.args.id c.args.items.now c.args.into.now c.write_lead.new.into c.extend_from_slice.new.self c.write_items.new.into c.write_lead-2.new.into
    c.in_ok-write_lead.ensures.ok c.in_ok-extend_from_slice.ensures.ok c.in_ok-write_items.ensures.ok
    (adds-none c.write_items.new.into (lead_of c.args.lead ++ end_line c.args.id) c.write_lead-2.new.into c.in_err-write_lead-2.ensures.err))

pub returns-clause-ok : goal.returns-clause-ok
returns-clause-ok c =
    on_ok_weaker c.write_end.result
    (λ last. rest-written c.args.by.now.net.now c.args.lead c.args.id c.args.items.now c.args.into.now c.write_lead.new.into c.extend_from_slice.new.self c.write_items.new.into c.write_lead-2.new.into c.write_end.new.into
    c.in_ok-write_lead.ensures.ok c.in_ok-extend_from_slice.ensures.ok c.in_ok-write_items.ensures.ok c.in_ok-write_lead-2.ensures.ok last) c.write_end.ensures.ok

pub returns-clause-err : goal.returns-clause-err
returns-clause-err c =
    on_err_weaker c.write_end.result
    (λ same. rest-listed c.args.by.now.net.now c.args.lead c.args.id c.args.items.now c.args.into.now c.write_lead.new.into c.extend_from_slice.new.self c.write_items.new.into c.write_end.new.into
    c.in_ok-write_lead.ensures.ok c.in_ok-extend_from_slice.ensures.ok c.in_ok-write_items.ensures.ok
    (led-only c.args.lead (end_line c.args.id) c.write_items.new.into c.write_lead-2.new.into c.write_end.new.into c.in_ok-write_lead-2.ensures.ok same))
    c.write_end.ensures.err
