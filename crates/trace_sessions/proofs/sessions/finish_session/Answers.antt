use Rattle.std.proofs.Common.{nat_eq, sym, ap, ◌∙◌}
use Rattle.std.specs.Map.{set_value}
use Rattle.std.proofs.lemmas.Map.Steps.{set_value_same}
use Rattle.trace_sessions.proofs.SessionPairs.{remove-set}
use Rattle.trace_sessions.proofs.SessionFixes.{on-err}
use Rattle.trace_sessions.proofs.sessions.finish_session.Goals as goal

pub returns-in_err-items-clause-err : goal.returns-in_err-items-clause-err
returns-in_err-items-clause-err g c =
    let es = c.args.sessions.now in
    let t = nat_eq c.args.id in
    on-err c.from_residual.result (ap (set_value t es) c.in_err-items.ensures.err ∙ set_value_same t es c.in-Some.session.now (sym c.in-Some.ensures.value))

pub returns-clause-finished : goal.returns-clause-finished
returns-clause-finished g c =
    let es = c.args.sessions.now in
    let t = nat_eq c.args.id in
    record {
      session = c.in-Some.session.now;
      opened = c.finish.new.self;
      was = sym c.in-Some.ensures.value;
      finished = c.in_ok-items.ensures.finished;
      entries = c.remove.ensures.entries ∙ remove-set t es c.finish.new.self;
      different = c.remove.ensures.unique;
    }
