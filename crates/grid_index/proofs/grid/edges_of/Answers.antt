use Rattle.std.proofs.Common.{None, Some, append-nil, ap, sym, ◌∙◌, flat_map}
use Rattle.grid_index.proofs.Gathering.{edges_more}
use Rattle.std.proofs.lemmas.List.{take_all}
use Rattle.grid_index.specs.Runs.{edges_of_run}
use Rattle.grid_index.proofs.grid.edges_of.Goals as goal
use Rattle.grid_index.proofs.grid.edges_of.Goals.{in-Some+in_ok-push-2, in_default}

pub loop-run-preserved : goal.loop-run-preserved
loop-run-preserved c =
    let s = c.loop-run in
    let runs = c.args.runs.now in
    let one = c.push.new.self.items in
    elim c.match-twin.branch [
      | in-Some+in_ok-push-2 w ↦
          edges_more runs s.run-index _ (Some w.in-Some.twin) s.edges.items one c.match-twin.edges.items c.loop-run-test.true s.invariant c.in_ok-push.ensures.items (sym c.twin.ensures ∙ w.in-Some.is)
          (ap (λ v. v.items) w.edges-is ∙ w.in_ok-push-2.ensures.items)
      | in_default w ↦
          edges_more runs s.run-index _ None s.edges.items one c.match-twin.edges.items c.loop-run-test.true s.invariant c.in_ok-push.ensures.items (sym c.twin.ensures ∙ w.in_default.is)
          (ap (λ v. v.items) w.edges-is ∙ sym (append-nil one))
    ]

pub loop-run-init : goal.loop-run-init
loop-run-init c = c.new-edges.ensures.items

pub returns : goal.returns
returns c = c.loop-run.invariant ∙ ap (flat_map edges_of_run) (take_all c.loop-run.run-index c.args.runs.now c.loop-run-test.false)
