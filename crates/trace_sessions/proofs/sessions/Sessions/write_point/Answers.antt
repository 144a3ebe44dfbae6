use Rattle.std.proofs.Common.{◌≡◌, ◌++◌, subst, OnErr, OnOk}
use Rattle.std.specs.List.{concat}
use Rattle.std.proofs.lemmas.Result.{on_err_weaker, on_ok_weaker}
use Rattle.trace_sessions.specs.ItemText.{AddsPrefix}
use Rattle.trace_sessions.specs.inside.StreamingInside.{lines_of_items}
use Rattle.trace_sessions.proofs.SessionFixes.{on-err}
use Rattle.trace_sessions.proofs.StreamLines.{heading-cut, point-cut-off, point-text}
use Rattle.trace_sessions.proofs.sessions.Sessions.write_point.Goals as goal

pub returns-clause-ok : goal.returns-clause-ok
returns-clause-ok c =
    let n = c.self.inside.net.now in
    let all = on_ok_weaker c.write_step.result
    (λ rest. point-text n c.args.id c.args.point c.args.items.now c.args.into.now c.write_heading.new.into c.write_step.new.into c.in_ok-write_heading.ensures.ok rest) c.write_step.ensures.ok in
    subst (λ s. OnOk c.write_step.result (c.write_step.new.into ≡ c.args.into.now ++ concat (lines_of_items s.network c.args.id c.args.point c.args.items.now))) c.self.view_is all

pub returns-in_err-write_heading-clause-err : goal.returns-in_err-write_heading-clause-err
returns-in_err-write_heading-clause-err c =
    on-err c.from_residual.result
    (heading-cut c.args.self.now.network c.args.id c.args.point c.args.items.now c.args.into.now c.write_heading.new.into c.in_err-write_heading.ensures.err)

pub returns-clause-err : goal.returns-clause-err
returns-clause-err c =
    let n = c.self.inside.net.now in
    let all = on_err_weaker c.write_step.result
    (λ rest. point-cut-off n c.args.id c.args.point c.args.items.now c.args.into.now c.write_heading.new.into c.write_step.new.into c.in_ok-write_heading.ensures.ok rest) c.write_step.ensures.err in
    subst (λ s. OnErr c.write_step.result (AddsPrefix c.args.into.now (concat (lines_of_items s.network c.args.id c.args.point c.args.items.now)) c.write_step.new.into)) c.self.view_is all
