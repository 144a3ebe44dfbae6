use Rattle.std.proofs.Common.{◌≡◌, ◌+◌, ◌<◌, arith}
use Rattle.bounded_table.proofs.Asking.{all_by, all_then, asks_done, asks_err, asks_nothing, only_then}
use Rattle.route_rebuild.specs.Numbers.{numbers}
use Rattle.route_rebuild.specs.inside.Runs.{IsWalkStartOf, last_in}
use Rattle.route_rebuild.proofs.RouteSoFar.{so_far_end, so_far_more, start_all, start_more, start_of, start_split}
use Rattle.route_rebuild.proofs.routes.follow.Goals as goal

pub loop-i-preserved : goal.loop-i-preserved
loop-i-preserved g c =
    let run = c.args.run.now in
    let inv = c.loop-i.invariant in
    let e = c.in_ok-append_leg.ensures in
    let lt : c.loop-i.i < last_in run = omega arith in
    record {
      so_far = so_far_more run c.loop-i.i (numbers c.loop-i.edges) (numbers c.append_leg.new.edges) lt inv.so_far e.leg;
      asks = all_then inv.asks (record { only = e.asks.only; all = e.asks.all })
          (λ v. start_more run c.loop-i.i v) (λ v. start_split run c.loop-i.i v);
    }

pub returns-clause-route : goal.returns-clause-route
returns-clause-route g c =
    let run = c.args.run.now in
    let some = run.is.some in
    so_far_end run c.loop-i.i (numbers c.loop-i.edges) (omega (arith, some)) c.loop-i.invariant.so_far

pub returns-clause-asks : goal.returns-clause-asks
returns-clause-asks g c =
    let run = c.args.run.now in
    let some = run.is.some in
    let end : c.loop-i.i ≡ last_in run = omega (arith, some) in
    asks_done (all_by c.loop-i.invariant.asks (λ v. start_of run c.loop-i.i v (omega (arith, end))) (λ v. start_all run c.loop-i.i v end))

pub returns-in_err-append_leg-clause-asks : goal.returns-in_err-append_leg-clause-asks
returns-in_err-append_leg-clause-asks g c =
    let run = c.args.run.now in
    let lt : c.loop-i.i < last_in run = omega arith in
    asks_err (only_then c.loop-i.invariant.asks.only c.append_leg.ensures.asks.only
    (λ v h. start_of run (c.loop-i.i + 1) v (omega (arith, lt)) (start_more run c.loop-i.i v h))) c.from_residual-in_err-append_leg.ensures.0

pub returns-in_err-push-clause-asks : goal.returns-in_err-push-clause-asks
returns-in_err-push-clause-asks g c = asks_err (asks_nothing (g.R.Rows.state c.args.rows.now) (IsWalkStartOf c.args.run.now)) c.from_residual.ensures.0
