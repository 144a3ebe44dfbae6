use Rattle.std.proofs.Common.{Some, sym, ap, subst, ◌∙◌}
use Rattle.std.specs.Option.{option_map}
use Rattle.online_commit.specs.Session.{fed_position_count}
use Rattle.trace_sessions.specs.Sessions.{RepresentsPairs}
use Rattle.trace_sessions.proofs.SessionFixes.{length-in}
use Rattle.trace_sessions.proofs.sessions.Sessions.length.Goals as goal

pub returns-in-Some : goal.returns-in-Some
returns-in-Some c pairs keeps =
    let a = c.self.inside in
    ap (λ k. Some k) c.count.ensures ∙ ap (option_map fed_position_count) c.in-Some.ensures
    ∙ length-in a.net.now a.params c.args.id a.sessions pairs (subst (λ x. RepresentsPairs x pairs) (sym c.self.view_is) keeps)

pub returns-in-None : goal.returns-in-None
returns-in-None c pairs keeps =
    let a = c.self.inside in
    ap (option_map fed_position_count) c.in-None.ensures
    ∙ length-in a.net.now a.params c.args.id a.sessions pairs (subst (λ x. RepresentsPairs x pairs) (sym c.self.view_is) keeps)
