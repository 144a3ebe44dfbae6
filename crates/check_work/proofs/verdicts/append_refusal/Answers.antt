use Rattle.std.proofs.Common.{◌≡◌, ℕ, ◌++◌, ap, sym, ◌∙◌}
use Rattle.std.specs.Prelude.{codes}
use Rattle.std.proofs.lemmas.Result.{on_ok_weaker}
use Rattle.cert_checker.specs.declared.verdict.Condition.{Condition}
use Rattle.cert_checker.specs.declared.verdict.Condition.TheVariants.{Trace as TraceIds}
use Rattle.check_work.specs.Check.{refused_trace_line, refused_whole_line}
use Rattle.check_work.proofs.verdicts.append_refusal.Goals as goal

traces_line : (x : Condition) (trace place : ℕ) → x ≡ TraceIds → refused_whole_line (codes "traces place") place x ≡ refused_trace_line x trace place
traces_line x trace place is =
    ap (refused_whole_line (codes "traces place") place) is
    ∙ ap (λ (y : Condition). refused_trace_line y trace place) (sym is)

pub returns-in-Trace : goal.returns-in-Trace
returns-in-Trace c =
    on_ok_weaker c.append_whole.result
    (λ e. e ∙ ap (λ l. c.args.line.now ++ l) (traces_line c.args.condition c.args.trace c.args.place c.in-Trace.is)) c.append_whole.ensures
