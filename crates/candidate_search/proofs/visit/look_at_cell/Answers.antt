use Rattle.std.proofs.lemmas.Result.{err_from_is_err_and}
use Rattle.std.proofs.Common.{◌≡◌, ◌∙◌, All, ap, get_or, arith, subst, sym, ◌≤◌, List, length}
use Rattle.std.proofs.lemmas.Bool.{eqb-true}
use Rattle.road_network.specs.Net.{Net}
use Rattle.grid_index.specs.Runs.{IsRun}
use Rattle.std.proofs.lemmas.List.{get_or_default}
use Rattle.grid_index.specs.declared.runs.Run.{Run}
use Rattle.candidate_search.specs.inside.Best.{AreApart, HasSeen, IsLimit, Steps}
use Rattle.candidate_search.proofs.Visiting.{far_cell, goes_on, nothing, seen_cell, seen_one_more, stays}
use Rattle.candidate_search.specs.declared.best.NearEdge.{NearEdge}
use Rattle.candidate_search.proofs.visit.look_at_cell.Goals as goal
use Rattle.candidate_search.proofs.visit.look_at_cell.Goals.{in-Some+in_ok-look_at_box, in_default}

pub limit_for-requires-clause-apart : goal.limit_for-requires-clause-apart
limit_for-requires-clause-apart c = subst AreApart (sym c.as_slice.ensures.value) c.requires.best.apart

pub returns-then-cell_distance2-limit_for-clause-seen : goal.returns-then-cell_distance2-limit_for-clause-seen
returns-then-cell_distance2-limit_for-clause-seen c =
    let search = c.args.look.search in
    let limit = c.limit_for.result in
    let is = subst (λ l. IsLimit search l limit) c.as_slice.ensures.value c.limit_for.ensures in
    far_cell c.args.look.net.now c.args.look.grid.now search c.args.found.now.items c.args.column c.args.row limit c.cell_distance2.result c.invariants-2.ensures c.requires.network c.invariants.ensures is
    c.if-cell_distance2-limit_for.true c.cell_distance2.ensures

pub loop-run-init : goal.loop-run-init
loop-run-init c = record {
  steps = stays c.args.look.net.now c.args.look.search c.args.found.now.items c.requires.best;
  seen = λ i d lt. absurd (omega (arith, lt));
}

pub loop-run-preserved : goal.loop-run-preserved
loop-run-preserved c =
    let s = c.loop-run in
    let net = c.args.look.net.now in
    let g = c.args.look.grid.now in
    let search = c.args.look.search in
    let runs = c.runs_at-runs.result.now in
    let x : Run = get_or runs s.run-index nothing in
    let x_is = get_or_default runs s.run-index x nothing c.loop-run-test.true in
    let new = c.match-distance2_in_cell.found.items in
    elim c.match-distance2_in_cell.branch [
      | in-Some+in_ok-look_at_box w ↦
          let is = sym (ap (λ v. v.items) w.found-is) in
          let steps : Steps net search s.found.items new = subst (λ l. Steps net search s.found.items l) is w.in_ok-look_at_box.ensures.steps in
          let here : HasSeen net search new x = subst (λ l. HasSeen net search l x) is w.in_ok-look_at_box.ensures.seen in
          record {
            steps = goes_on net search c.args.found.now.items s.found.items new s.invariant.steps steps;
            seen = seen_one_more net g search s.found.items new runs c.args.column c.args.row s.run-index x c.loop-run-test.true x_is s.invariant.seen steps (λ cell. here);
          }
      | in_default w ↦
          let is = sym (ap (λ v. v.items) w.found-is) in
          let steps : Steps net search s.found.items new = subst (λ l. Steps net search s.found.items l) is (stays net search s.found.items s.invariant.steps.best) in
          record {
            steps = goes_on net search c.args.found.now.items s.found.items new s.invariant.steps steps;
            seen = seen_one_more net g search s.found.items new runs c.args.column c.args.row s.run-index x c.loop-run-test.true x_is s.invariant.seen steps (λ cell. absurd (w.in_default.ensures cell));
          }
    ]

pub returns-clause-seen : goal.returns-clause-seen
returns-clause-seen c =
    let s = c.loop-run in
    seen_cell c.args.look.net.now c.args.look.grid.now c.args.look.search s.found.items c.runs_at-runs.result.now c.args.column c.args.row s.run-index c.runs_at-runs.ensures (omega (arith, c.loop-run-test.false)) s.invariant.seen

pub returns-then-is_empty-clause-steps : goal.returns-then-is_empty-clause-steps
returns-then-is_empty-clause-steps c = stays c.args.look.net.now c.args.look.search c.args.found.now.items c.requires.best

pub cell_distance2-requires : goal.cell_distance2-requires
cell_distance2-requires c = record { p_in = c.args.look.search.at_in }

pub limit_for-requires-clause-few : goal.limit_for-requires-clause-few
limit_for-requires-clause-few c = subst (λ (l : List NearEdge). length l ≤ c.args.look.search.k) (sym c.as_slice.ensures.value) c.requires.best.few

pub returns-then-cell_distance2-limit_for-clause-steps : goal.returns-then-cell_distance2-limit_for-clause-steps
returns-then-cell_distance2-limit_for-clause-steps c = stays c.args.look.net.now c.args.look.search c.args.found.now.items c.requires.best

pub look_at_box-requires-clause-best : goal.look_at_box-requires-clause-best
look_at_box-requires-clause-best c = c.loop-run.invariant.steps.best

pub returns-clause-steps : goal.returns-clause-steps
returns-clause-steps c = c.loop-run.invariant.steps

pub returns-then-is_empty-clause-seen : goal.returns-then-is_empty-clause-seen
returns-then-is_empty-clause-seen c =
    let runs : List Run = c.runs_at-runs.result.now in
    let none : length runs ≡ 0 = eqb-true (length runs) 0 (sym c.is_empty.ensures ∙ c.if-is_empty.true) in
    seen_cell c.args.look.net.now c.args.look.grid.now c.args.look.search c.args.found.now.items runs c.args.column c.args.row 0 c.runs_at-runs.ensures (omega (arith, none)) (λ i d lt. absurd (omega (arith, lt)))

pub bounds-runs-run-index : goal.bounds-runs-run-index
bounds-runs-run-index c = c.loop-run-test.true

pub distance2_in_cell-requires-clause-run : goal.distance2_in_cell-requires-clause-run
distance2_in_cell-requires-clause-run c = subst (All (IsRun c.args.look.grid.now.net)) (sym c.runs_at-runs.ensures) (c.invariants.ensures.cell_runs c.args.column c.args.row) c.loop-run.run-index nothing c.loop-run-test.true

pub distance2_in_cell-requires-clause-p_in : goal.distance2_in_cell-requires-clause-p_in
distance2_in_cell-requires-clause-p_in c = c.args.look.search.at_in

pub look_at_box-requires-clause-run : goal.look_at_box-requires-clause-run
look_at_box-requires-clause-run c =
    let runs : List Run = c.runs_at-runs.result.now in
    let are : All (IsRun c.args.look.grid.now.net) runs = subst (All (IsRun c.args.look.grid.now.net)) (sym c.runs_at-runs.ensures) (c.invariants.ensures.cell_runs c.args.column c.args.row) in
    subst (λ (n : Net). IsRun n (get_or runs c.loop-run.run-index nothing)) c.requires.network (are c.loop-run.run-index nothing c.loop-run-test.true)

pub look_at_box-requires-clause-d2 : goal.look_at_box-requires-clause-d2
look_at_box-requires-clause-d2 c = c.in-Some.ensures.1

pub returns-in_err-look_at_box-clause-steps : goal.returns-in_err-look_at_box-clause-steps
returns-in_err-look_at_box-clause-steps c = let p = err_from_is_err_and c.from_residual.result c.from_residual.ensures.1 in rw p.1 tt

pub returns-in_err-look_at_box-clause-seen : goal.returns-in_err-look_at_box-clause-seen
returns-in_err-look_at_box-clause-seen c = let p = err_from_is_err_and c.from_residual.result c.from_residual.ensures.1 in rw p.1 tt
