use Rattle.std.proofs.Common.{subst, ap, arith}
use Rattle.online_commit.specs.inside.Pieces.{session_of, session_with}
use Rattle.online_commit.specs.Session.{AsksFinished, IsFinished}
use Rattle.online_commit.specs.inside.Steps.{seen_session}
use Rattle.online_commit.proofs.ClosedSession.{finished-made}
use Rattle.online_commit.proofs.Extending.{kept-count}
use Rattle.online_commit.proofs.NextCells.{kept-some}
use Rattle.online_commit.proofs.FedAsking.{finished-asks}
use Rattle.online_commit.proofs.online.Online.finish.Goals as goal

pub returns-in_err-items-clause-asks : goal.returns-in_err-items-clause-asks
returns-in_err-items-clause-asks g c =
    subst (λ s. AsksFinished s (g.R.Rows.state c.args.rows.now) (g.R.Rows.state c.closing_items.new.rows)) c.self.view_is
    (finished-asks (session_of c.self.inside.net.now c.self.inside.params c.self.inside.piece) c.self.invariant c.closing_items.ensures.asks)

pub returns-clause-finished : goal.returns-clause-finished
returns-clause-finished g c =
    let s = session_of c.self.inside.net.now c.self.inside.params c.self.inside.piece in
    subst (λ old. IsFinished old (seen_session (session_of c.self.inside.net.now c.self.inside.params c.no_piece.result)) c.in_ok-items.items) c.self.view_is
    (finished-made s (seen_session (session_of c.self.inside.net.now c.self.inside.params c.no_piece.result)) c.in_ok-items.items c.self.invariant (λ none. c.in_ok-items.ensures.none (let all = kept-count s c.self.invariant in omega (arith, none, all))) (λ some. c.in_ok-items.ensures.some (kept-some s c.self.invariant some))
    (ap (λ a. seen_session (session_with c.self.inside.net.now c.self.inside.params a)) c.no_piece.ensures))

pub returns-clause-asks : goal.returns-clause-asks
returns-clause-asks g c =
    subst (λ s. AsksFinished s (g.R.Rows.state c.args.rows.now) (g.R.Rows.state c.closing_items.new.rows)) c.self.view_is
    (finished-asks (session_of c.self.inside.net.now c.self.inside.params c.self.inside.piece) c.self.invariant c.closing_items.ensures.asks)
