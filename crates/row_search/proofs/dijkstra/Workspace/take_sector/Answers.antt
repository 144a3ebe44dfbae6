use Rattle.std.proofs.lemmas.Result.{err_from_is_err_and}
use Rattle.std.proofs.Common.{◌≡◌, ◌+◌, ◌*◌, ℕ, length, refl, subst, ◌∙◌, arith}
use Rattle.row_search.specs.inside.Marked.{IsTaken}
use Rattle.row_search.proofs.MarkedNodes.{sector_skipped, keeps_both, keeps_none, sized_here}
use Rattle.row_search.proofs.dijkstra.Workspace.take_sector.Goals as goal

pub returns-then-no_region_in-clause-takes : goal.returns-then-no_region_in-clause-takes
returns-then-no_region_in-clause-takes c = sector_skipped c.args.sector c.args.self.now (c.no_region_in.ensures.0 c.if-no_region_in.true)

pub returns-then-no_region_in-clause-sized : goal.returns-then-no_region_in-clause-sized
returns-then-no_region_in-clause-sized c = keeps_none c.args.self.now

pub loop-region-init : goal.loop-region-init
loop-region-init c =
    let w = c.args.self.now in
    let from : c.args.sector * 4_096 ≡ c.args.sector * 8 * 512 = omega arith in
    record {
      inside = omega arith;
      sized = keeps_none w;
      taken = λ before h. subst (λ (k : ℕ). IsTaken before k w) from h;
      queue = refl;
    }

pub take_region-requires-clause-region : goal.take_region-requires-clause-region
take_region-requires-clause-region c =
    let old = c.requires.sized.marks in
    let now = c.loop-region.invariant.sized.marks (length c.args.self.now.words.items) old in
    omega (arith, c.requires.sector, c.loop-region-test.true, old.areas, old.regions, now.areas, now.regions)

pub take_region-requires-clause-sized : goal.take_region-requires-clause-sized
take_region-requires-clause-sized c = sized_here (length c.args.self.now.words.items) c.args.self.now c.loop-region.self c.requires.sized c.loop-region.invariant.sized

pub loop-region-preserved : goal.loop-region-preserved
loop-region-preserved c =
    let inv = c.loop-region.invariant in
    let e = c.in_ok-take_region.ensures in
    record {
      inside = omega (arith, c.loop-region-test.true);
      sized = keeps_both c.args.self.now c.loop-region.self c.take_region.new.self inv.sized e.sized;
      taken = λ before h. e.takes.taken before (inv.taken before h);
      queue = e.takes.queue ∙ inv.queue;
    }

pub returns-in_err-take_region-clause-takes : goal.returns-in_err-take_region-clause-takes
returns-in_err-take_region-clause-takes c = let p = err_from_is_err_and c.from_residual.result c.from_residual.ensures.1 in rw p.1 tt

pub returns-in_err-take_region-clause-sized : goal.returns-in_err-take_region-clause-sized
returns-in_err-take_region-clause-sized c = keeps_both c.args.self.now c.loop-region.self c.take_region.new.self c.loop-region.invariant.sized c.in_err-take_region.ensures.sized

pub returns-clause-takes : goal.returns-clause-takes
returns-clause-takes c =
    let inv = c.loop-region.invariant in
    let to : c.loop-region.region * 512 ≡ (c.args.sector + 1) * 4_096 = omega (arith, inv.inside, c.loop-region-test.false) in
    record {
      taken = λ before h. subst (λ (k : ℕ). IsTaken before k c.loop-region.self) to (inv.taken before h);
      queue = inv.queue;
    }

pub returns-clause-sized : goal.returns-clause-sized
returns-clause-sized c = c.loop-region.invariant.sized
