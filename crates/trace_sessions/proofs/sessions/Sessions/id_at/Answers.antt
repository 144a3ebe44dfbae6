use Rattle.std.proofs.Common.{sym, ap, subst, ◌∙◌, slice_get}
use Rattle.trace_sessions.specs.Sessions.{RepresentsPairs}
use Rattle.trace_sessions.proofs.SessionPairs.{kept-keys}
use Rattle.trace_sessions.proofs.sessions.Sessions.id_at.Goals as goal

pub returns : goal.returns
returns c pairs keeps =
    let a = c.self.inside in
    c.id_at.ensures
    ∙ ap (λ ks. slice_get ks c.args.place) (kept-keys a.net.now a.params a.sessions pairs (subst (λ x. RepresentsPairs x pairs) (sym c.self.view_is) keeps).each)
