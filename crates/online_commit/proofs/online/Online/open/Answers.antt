use Rattle.std.proofs.Common.{[], sym, subst}
use Rattle.online_commit.specs.inside.Pieces.{session_with}
use Rattle.online_commit.specs.Session.{RepresentsLayers}
use Rattle.online_commit.specs.inside.Steps.{seen_session}
use Rattle.online_commit.proofs.Opened.{opened-stands}
use Rattle.online_commit.proofs.online.Online.open.Goals as goal

pub returns-clause-stands : goal.returns-clause-stands
returns-clause-stands c =
    subst (λ a. RepresentsLayers (seen_session (session_with c.args.net.now c.args.p.now a)) []) (sym c.no_piece.ensures) (opened-stands c.args.net.now c.args.p.now)
