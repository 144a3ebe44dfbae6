use Rattle.std.proofs.Common.{◌≡◌, ◌∙◌, ap, sym, Some, None, arith}
use Rattle.trace_reader.specs.Reader.{content_of}
use Rattle.trace_reader.specs.declared.trace.Trace.{Trace}
use Rattle.trace_reader.proofs.Lines.{add_first, add_longer, add_too_long, add_next}
use Rattle.trace_reader.proofs.content.ContentReader.add_row.Goals as goal
use Rattle.trace_reader.proofs.content.ContentReader.add_row.Goals.{in_default-via-in-Some+else-trace-row, in_default-via-in_default}

same : (trace other : Trace) → Some trace ≡ Some other → trace ≡ other
same trace other e = cc e

apart : (trace : Trace) → Some trace ≡ None → ⊥
apart trace e = absurd (cc e)

pub returns-then-len-ge-POINT_LIMIT-clause-err : goal.returns-then-len-ge-POINT_LIMIT-clause-err
returns-then-len-ge-POINT_LIMIT-clause-err c known =
    add_too_long c.args.number (content_of c.args.self.now c.args.into.now) c.args.row c.in-Some.trace c.in-Some.is c.if-trace-row.true (omega (arith, c.len.ensures, c.if-len-ge-POINT_LIMIT.true))

pub returns-in_ok-push-in-Some-clause-ok : goal.returns-in_ok-push-in-Some-clause-ok
returns-in_ok-push-in-Some-clause-ok c =
    rw c.in_ok-push-in-Some.ensures.ok
    (add_longer c.args.number (content_of c.args.self.now c.args.into.now) c.args.row c.in-Some.trace c.in-Some.is c.if-trace-row.true (omega (arith, c.len.ensures, c.if-len-ge-POINT_LIMIT.false)))

pub returns-in_ok-push-in_default-clause-ok : goal.returns-in_ok-push-in_default-clause-ok
returns-in_ok-push-in_default-clause-ok c =
    elim c.in_default.branch [
      | in_default-via-in-Some+else-trace-row w ↦
          (let closed : c.in-Some-replace.closed ≡ w.in-Some.trace = same c.in-Some-replace.closed w.in-Some.trace (c.in-Some-replace.ensures.value ∙ ap (λ s. s.open) w.self-is) in
          rw (w.self-is, c.replace.ensures.after, c.in_ok-next-in_default.ensures.ok, c.in_ok-push-in_default.ensures.ok, closed)
          (add_next c.args.number (content_of c.args.self.now c.args.into.now) c.args.row w.in-Some.trace w.in-Some.is w.if-trace-row.false))
      | in_default-via-in_default w ↦ absurd (apart c.in-Some-replace.closed (c.in-Some-replace.ensures.value ∙ ap (λ s. s.open) w.self-is ∙ w.in_default.is))
    ]

pub returns-in_default-replace-clause-ok : goal.returns-in_default-replace-clause-ok
returns-in_default-replace-clause-ok c =
    elim c.in_default.branch [
      | in_default-via-in-Some+else-trace-row w ↦ absurd (apart w.in-Some.trace (sym (c.in_default-replace.ensures.value ∙ ap (λ s. s.open) w.self-is)))
      | in_default-via-in_default w ↦
          rw (w.self-is, c.replace.ensures.after, c.in_ok-next-in_default.ensures.ok)
          (add_first c.args.number (content_of c.args.self.now c.args.into.now) c.args.row w.in_default.is)
    ]
