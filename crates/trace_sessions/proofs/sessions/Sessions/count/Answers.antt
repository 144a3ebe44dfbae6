use Rattle.std.proofs.Common.{sym, subst, ◌∙◌}
use Rattle.trace_sessions.specs.Sessions.{RepresentsPairs}
use Rattle.trace_sessions.proofs.SessionPairs.{kept-length}
use Rattle.trace_sessions.proofs.sessions.Sessions.count.Goals as goal

pub returns : goal.returns
returns c pairs keeps =
    let a = c.self.inside in
    c.len.ensures.len ∙ kept-length a.net.now a.params a.sessions pairs (subst (λ x. RepresentsPairs x pairs) (sym c.self.view_is) keeps).each
