use Rattle.std.proofs.Common.{get_or, pos, ◌≡◌, length, subst, arith}
use Rattle.std.proofs.lemmas.List.{get_or_default}
use Rattle.grid_index.specs.declared.runs.Run.{Run}
use Rattle.grid_index.proofs.Gathering.{appends_more, appends_none}
use Rattle.grid_index.specs.inside.Table.{Appends}
use Rattle.grid_index.proofs.table.append_near.Goals as goal

abbrev none : Run
none = record { edge = record { 0 = 0 }; first = 0; end = 0; low = record { x = pos 0; y = pos 0 }; high = record { x = pos 0; y = pos 0 }; twin = record { 0 = 0 } }

pub loop-run-preserved : goal.loop-run-preserved
loop-run-preserved c =
    let s = c.loop-run in
    let runs = c.args.runs.now in
    let x : Run = get_or runs s.run-index none in
    appends_more c.args.p c.args.far2 c.args.found.now.items s.found.items c.append_one.new.found.items runs s.run-index x c.loop-run-test.true
    (get_or_default runs s.run-index x none c.loop-run-test.true) s.invariant c.in_ok-append_one.ensures

pub loop-run-init : goal.loop-run-init
loop-run-init c = appends_none c.args.p c.args.far2 c.args.found.now.items c.args.runs.now

pub append_one-requires-clause-p_in : goal.append_one-requires-clause-p_in
append_one-requires-clause-p_in c = c.requires.p_in

pub append_one-requires-clause-corners : goal.append_one-requires-clause-corners
append_one-requires-clause-corners c = c.requires.corners c.loop-run.run-index none c.loop-run-test.true

pub returns : goal.returns
returns c =
    let s = c.loop-run in
    let runs = c.args.runs.now in
    let all : s.run-index ≡ length runs = omega (arith, c.loop-run-test.false, s.auto.run-index-end) in
    subst (λ n. Appends c.args.p c.args.far2 c.args.found.now.items s.found.items runs n) all s.invariant
