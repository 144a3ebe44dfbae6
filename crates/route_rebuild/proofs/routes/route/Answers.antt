use Rattle.std.proofs.Common.{◌+◌, ◌-◌, subst, sym}
use Rattle.std.proofs.lemmas.Result.{IfOk-weaker}
use Rattle.bounded_table.proofs.Asking.{asks_by, asks_err, asks_nothing}
use Rattle.route_rebuild.specs.Chosen.{IsCandidateRun}
use Rattle.route_rebuild.specs.inside.ChosenRuns.{AreChosenFrom}
use Rattle.route_rebuild.specs.Numbers.{numbers}
use Rattle.route_rebuild.specs.Routes.{IsRouteOver, IsWalkStartOver, piece_at}
use Rattle.route_rebuild.proofs.ChosenOver.{over-route, over-run, over-start, start-over}
use Rattle.route_rebuild.proofs.ChosenRun.{chosen_run}
use Rattle.route_rebuild.proofs.Joining.{joined_route}
use Rattle.route_rebuild.proofs.routes.route.Goals as goal

pub chosen_of-requires-clause-points : goal.chosen_of-requires-clause-points
chosen_of-requires-clause-points g c =
    rw (c.as_slice.ensures, c.as_slice-2.ensures)
    (chosen_run c.args.net.now c.args.p.now c.args.layers.now c.args.solved.now c.args.piece c.invariants.ensures c.requires.solved c.requires.piece).points

pub chosen_of-requires-clause-some : goal.chosen_of-requires-clause-some
chosen_of-requires-clause-some g c =
    rw c.as_slice.ensures (chosen_run c.args.net.now c.args.p.now c.args.layers.now c.args.solved.now c.args.piece c.invariants.ensures c.requires.solved c.requires.piece).some

pub returns-in_err-chosen-clause-asks : goal.returns-in_err-chosen-clause-asks
returns-in_err-chosen-clause-asks g c = asks_err (asks_nothing (g.R.Rows.state c.args.rows.now) _) c.from_residual.ensures.0

pub route_over-requires-clause-run : goal.route_over-requires-clause-run
route_over-requires-clause-run g c =
    let s = c.args.solved.now in
    let q = piece_at s.pieces c.args.piece in
    let run = chosen_run c.args.net.now c.args.p.now c.args.layers.now s c.args.piece c.invariants.ensures c.requires.solved c.requires.piece in
    let are : AreChosenFrom c.args.layers.now s.ranks q.first (q.last + 1 - q.first) c.in_ok-chosen.chosen.items = rw (c.as_slice.ensures, c.as_slice-2.ensures) at c.in_ok-chosen.ensures in
    subst (IsCandidateRun c.args.net.now c.args.p.now) (sym c.deref.ensures.value)
    (over-run c.args.net.now c.args.p.now c.args.layers.now s.ranks q c.in_ok-chosen.chosen.items run.some are run)

pub returns-clause-route : goal.returns-clause-route
returns-clause-route g c =
    let s = c.args.solved.now in
    let n = c.args.net.now in
    let p = c.args.p.now in
    let layers = c.args.layers.now in
    let q = piece_at s.pieces c.args.piece in
    let run = chosen_run n p layers s c.args.piece c.invariants.ensures c.requires.solved c.requires.piece in
    let are : AreChosenFrom layers s.ranks q.first (q.last + 1 - q.first) c.in_ok-chosen.chosen.items = rw (c.as_slice.ensures, c.as_slice-2.ensures) at c.in_ok-chosen.ensures in
    IfOk-weaker c.route_over.result _ _ (λ es is.
    joined_route n p layers s.ranks q (numbers es) run
    (over-route n p layers s.ranks q c.in_ok-chosen.chosen.items run.some are (numbers es) (subst (λ xs. IsRouteOver n p xs (numbers es)) c.deref.ensures.value is))) c.route_over.ensures.route

pub returns-clause-asks : goal.returns-clause-asks
returns-clause-asks g c =
    let s = c.args.solved.now in
    let n = c.args.net.now in
    let p = c.args.p.now in
    let layers = c.args.layers.now in
    let q = piece_at s.pieces c.args.piece in
    let run = chosen_run n p layers s c.args.piece c.invariants.ensures c.requires.solved c.requires.piece in
    let are : AreChosenFrom layers s.ranks q.first (q.last + 1 - q.first) c.in_ok-chosen.chosen.items = rw (c.as_slice.ensures, c.as_slice-2.ensures) at c.in_ok-chosen.ensures in
    asks_by c.route_over.ensures.asks
    (λ v start. over-start n p layers s.ranks q c.in_ok-chosen.chosen.items run.some are v (subst (λ xs. IsWalkStartOver n p xs v) c.deref.ensures.value start))
    (λ v start. subst (λ xs. IsWalkStartOver n p xs v) (sym c.deref.ensures.value) (start-over n p layers s.ranks q c.in_ok-chosen.chosen.items run.some are v start))
