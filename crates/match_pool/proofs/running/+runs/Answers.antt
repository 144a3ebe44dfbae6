use Rattle.std.proofs.Common.{rules, subst, ◌≡◌, ◌+◌, length, arith}
use Rattle.std.specs.Fork.{AcceptsAt, ChangesAt}
use Rattle.match_pool.specs.inside.Running.{EachFromTo}
use Rattle.match_pool.proofs.Items.{each_first, each_rest, each_joined}
use Rattle.match_pool.proofs.running.+runs.Goals as goal

pub run_first-returns-clause-item : goal.run_first-returns-clause-item
run_first-returns-clause-item g t c =
    subst (ChangesAt g.F.Fn c.args.f.now c.args.first c.args.item.now) (search rules) c.join_mut.ensures.0.met.1

pub run_first-returns-clause-rest : goal.run_first-returns-clause-rest
run_first-returns-clause-rest g t c =
    subst (EachFromTo (ChangesAt g.F.Fn c.args.f.now) (c.args.first + 1) c.args.rest.now) (search rules) c.join_mut.ensures.1.met.1

pub run_from-run_one-requires : goal.run_from-run_one-requires
run_from-run_one-requires g t c =
    each_first (AcceptsAt g.F.Fn c.args.f.now) c.args.first c.args.items.now c.in-Some.item.now c.in-Some.rest.now c.in-Some.ensures.cases.0 c.requires.accepts

pub run_from-returns-then-is_empty : goal.run_from-returns-then-is_empty
run_from-returns-then-is_empty g t c =
    let none : length c.in-Some.rest.now ≡ 0 = search rules in
    each_joined (ChangesAt g.F.Fn c.args.f.now) c.args.first c.args.items.now c.in-Some.item.now c.run_one.new.item c.in-Some.rest.now c.in-Some.rest.now
    c.in-Some.ensures.cases.0 c.run_one.ensures (λ k d low. absurd (omega arith))

pub run_from-run_first-requires-clause-item : goal.run_from-run_first-requires-clause-item
run_from-run_first-requires-clause-item g t c κs within =
    each_first (AcceptsAt g.F.Fn c.args.f.now) c.args.first c.args.items.now c.in-Some.item.now c.in-Some.rest.now c.in-Some.ensures.cases.0 c.requires.accepts

pub run_from-run_first-requires-clause-rest : goal.run_from-run_first-requires-clause-rest
run_from-run_first-requires-clause-rest g t c κs within =
    each_rest (AcceptsAt g.F.Fn c.args.f.now) c.args.first c.args.items.now c.in-Some.item.now c.in-Some.rest.now c.in-Some.ensures.cases.0 c.requires.accepts

pub run_from-returns : goal.run_from-returns
run_from-returns g t c =
    each_joined (ChangesAt g.F.Fn c.args.f.now) c.args.first c.args.items.now c.in-Some.item.now c.run_first.new.item c.in-Some.rest.now c.run_first.new.rest
    c.in-Some.ensures.cases.0 c.run_first.ensures.item c.run_first.ensures.rest
