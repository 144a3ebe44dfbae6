use Rattle.std.proofs.Common.{Some, IfOk, subst}
use Rattle.bounded_table.proofs.Asking.{asks_nothing, asks_ok}
use Rattle.matching.specs.PieceSteps.{AsksIn}
use Rattle.online_commit.specs.inside.Pieces.{session_of, whole_of}
use Rattle.online_commit.specs.Session.{AsksFed, FeedsLayer}
use Rattle.online_commit.specs.inside.Steps.{TellsCells, seen_session}
use Rattle.online_commit.proofs.Extended.{goes-on}
use Rattle.online_commit.proofs.Extending.{may-grow}
use Rattle.online_commit.proofs.LettingGo.{went-fed, went-session}
use Rattle.online_commit.proofs.FedAsking.{done-asks, failed-asks}
use Rattle.online_commit.proofs.online.Online.feed.Goals as goal

pub returns-in_err-next-clause-asks : goal.returns-in_err-next-clause-asks
returns-in_err-next-clause-asks g c =
    let s = session_of c.self.inside.net.now c.self.inside.params c.self.inside.piece in
    subst (λ x. AsksFed x c.args.layer (g.R.Rows.state c.args.rows.now) c.from_residual.result (g.R.Rows.state c.next_cells.new.rows)) c.self.view_is
    (failed-asks {result = c.from_residual.result} s c.args.layer c.self.invariant c.next_cells.ensures.asks.only c.from_residual.ensures.0)

pub go_on-requires : goal.go_on-requires
go_on-requires g c =
    let s = session_of c.self.inside.net.now c.self.inside.params c.self.inside.piece in
    let tells : TellsCells s c.args.layer (Some c.in-Some.cells) = subst (λ o. TellsCells s c.args.layer o) c.in-Some.is c.in_ok-next.ensures.next in
    let on = goes-on s c.args.self.now c.args.layer c.in-Some.cells c.self.view_is c.invariants.ensures c.self.invariant c.requires.layer.1 c.requires.layer.0 tells in
    may-grow s c.args.layer c.in-Some.cells on

pub invariant_of-self : goal.invariant_of-self
invariant_of-self g c =
    let s = session_of c.self.inside.net.now c.self.inside.params c.self.inside.piece in
    let tells : TellsCells s c.args.layer (Some c.in-Some.cells) = subst (λ o. TellsCells s c.args.layer o) c.in-Some.is c.in_ok-next.ensures.next in
    let on = goes-on s c.args.self.now c.args.layer c.in-Some.cells c.self.view_is c.invariants.ensures c.self.invariant c.requires.layer.1 c.requires.layer.0 tells in
    went-session c.self.inside.net.now c.self.inside.params (whole_of c.self.inside.piece) (whole_of c.go_on.new.piece) c.args.layer c.in-Some.cells c.go_on.result on c.go_on.ensures.ok c.go_on.ensures.err

pub returns-in-Some-clause-fed : goal.returns-in-Some-clause-fed
returns-in-Some-clause-fed g c =
    let s = session_of c.self.inside.net.now c.self.inside.params c.self.inside.piece in
    let tells : TellsCells s c.args.layer (Some c.in-Some.cells) = subst (λ o. TellsCells s c.args.layer o) c.in-Some.is c.in_ok-next.ensures.next in
    let on = goes-on s c.args.self.now c.args.layer c.in-Some.cells c.self.view_is c.invariants.ensures c.self.invariant c.requires.layer.1 c.requires.layer.0 tells in
    subst (λ x. IfOk c.go_on.result (FeedsLayer x c.args.layer (seen_session (session_of c.self.inside.net.now c.self.inside.params c.go_on.new.piece)))) c.self.view_is
    (went-fed c.self.inside.net.now c.self.inside.params (whole_of c.self.inside.piece) (whole_of c.go_on.new.piece) c.args.layer c.in-Some.cells c.go_on.result on c.go_on.ensures.ok)

pub returns-in-Some-clause-asks : goal.returns-in-Some-clause-asks
returns-in-Some-clause-asks g c =
    let s = session_of c.self.inside.net.now c.self.inside.params c.self.inside.piece in
    let mid = g.R.Rows.state c.next_cells.new.rows in
    subst (λ x. AsksFed x c.args.layer (g.R.Rows.state c.args.rows.now) c.go_on.result mid) c.self.view_is
    (done-asks {result = c.go_on.result} s c.args.layer c.self.invariant (asks_ok c.next_cells.ensures.asks c.in_ok-next.was) (asks_nothing mid (AsksIn s.network s.params s.layers s.tables)))

pub returns-in-None-clause-asks : goal.returns-in-None-clause-asks
returns-in-None-clause-asks g c =
    let s = session_of c.self.inside.net.now c.self.inside.params c.self.inside.piece in
    let mid = g.R.Rows.state c.next_cells.new.rows in
    subst (λ x. AsksFed x c.args.layer (g.R.Rows.state c.args.rows.now) c.begin_anew.result (g.R.Rows.state c.begin_anew.new.rows)) c.self.view_is
    (done-asks {result = c.begin_anew.result} s c.args.layer c.self.invariant (asks_ok c.next_cells.ensures.asks c.in_ok-next.was) c.begin_anew.ensures.asks)
