use Rattle.row_search.specs.inside.Labels.{edge_label_at}
use Rattle.std.proofs.lemmas.Result.{IfOk-weaker, err_from_is_err_and}
use Rattle.std.proofs.lemmas.List.{get_or_read}
use Rattle.std.proofs.Common.{◌≡◌, ◌+◌, ◌*◌, ◌/◌, ◌<◌, ◌≤◌, ℕ, List, length, refl, ap, subst, arith, ◌∙◌}
use Rattle.row_search.specs.inside.Marked.{IsTaken}
use Rattle.row_search.proofs.MarkedNodes.{all_taken, area_skipped, keeps_both, none_taken, sized_here}
use Rattle.row_search.proofs.dijkstra.Workspace.take_entries.Goals as goal

pub loop-sector-init : goal.loop-sector-init
loop-sector-init c = record {
  sized = record { bound = refl; words_count = refl; marks = λ count sized. sized };
  regions = refl;
  taken = none_taken _ c.clear.ensures c.requires.marked;
  queue = c.requires.none_waiting;
}

pub take_sector-requires-clause-sized : goal.take_sector-requires-clause-sized
take_sector-requires-clause-sized c = sized_here (length c.args.self.now.words.items) c.args.self.now c.loop-sector.self c.requires.sized c.loop-sector.invariant.sized

pub loop-sector-preserved-then-index-eq0 : goal.loop-sector-preserved-then-index-eq0
loop-sector-preserved-then-index-eq0 c =
    let inv = c.loop-sector.invariant in
    let w = c.loop-sector.self in
    let sector : ℕ = c.loop-sector.sector in
    let area : ℕ = sector / 64 in
    let now = inv.sized.marks (length c.args.self.now.words.items) c.requires.sized.marks in
    let inside : area < length w.marks.areas.items = omega (arith, c.loop-sector-test.true, c.len.ensures, now.regions) in
    let at = get_or_read w.marks.areas.items area c.index.result.now inside c.index.ensures 0 in
    let skipped = area_skipped area w (omega (arith, at, c.if-index-eq0.true)) in
    let from : sector * 4_096 ≡ area * 262_144 = omega (arith, c.if-sector-eq0.true) in
    let to : (area + 1) * 262_144 ≡ (sector + 64) * 4_096 = omega (arith, c.if-sector-eq0.true) in
    let words = c.args.self.now.words.items in
    record {
      sized = inv.sized;
      regions = inv.regions;
      taken = subst (λ (k : ℕ). IsTaken words k w) to (skipped.taken words (subst (λ (k : ℕ). IsTaken words k w) from inv.taken));
      queue = inv.queue;
    }

pub loop-sector-preserved : goal.loop-sector-preserved
loop-sector-preserved c =
    let inv = c.loop-sector.invariant in
    let e = c.in_ok-take_sector.ensures in
    let sized = keeps_both c.args.self.now c.loop-sector.self c.take_sector.new.self inv.sized e.sized in
    let old = c.requires.sized.marks in
    let new = sized.marks (length c.args.self.now.words.items) old in
    record {
      sized = sized;
      regions = omega (arith, old.areas, old.regions, new.areas, new.regions);
      taken = e.takes.taken c.args.self.now.words.items inv.taken;
      queue = e.takes.queue ∙ inv.queue;
    }

pub returns-in_err-take_sector-clause-entries : goal.returns-in_err-take_sector-clause-entries
returns-in_err-take_sector-clause-entries c = let p = err_from_is_err_and c.from_residual.result c.from_residual.ensures.1 in rw p.1 tt

pub returns-in_err-take_sector-clause-clean : goal.returns-in_err-take_sector-clause-clean
returns-in_err-take_sector-clause-clean c = record {
  sized = keeps_both c.args.self.now c.loop-sector.self c.take_sector.new.self c.loop-sector.invariant.sized c.in_err-take_sector.ensures.sized;
  clean = (let p = err_from_is_err_and c.from_residual.result c.from_residual.ensures.1 in rw p.1 tt);
}

pub index-requires : goal.index-requires
index-requires c = let now = c.loop-sector.invariant.sized.marks (length c.args.self.now.words.items) c.requires.sized.marks in omega arith

pub overflow_add-sector : goal.overflow_add-sector
overflow_add-sector c = omega arith

pub loop-sector-smaller-then-index-eq0 : goal.loop-sector-smaller-then-index-eq0
loop-sector-smaller-then-index-eq0 c = omega arith

pub take_sector-requires-clause-sector : goal.take_sector-requires-clause-sector
take_sector-requires-clause-sector c = omega arith

pub overflow_add-sector-else-sector-eq0 : goal.overflow_add-sector-else-sector-eq0
overflow_add-sector-else-sector-eq0 c = omega arith

pub loop-sector-smaller : goal.loop-sector-smaller
loop-sector-smaller c = omega arith

pub returns-clause-entries : goal.returns-clause-entries
returns-clause-entries c =
    let inv = c.loop-sector.invariant in
    let w = c.loop-sector.self in
    let words : List ℕ = c.args.self.now.words.items in
    let old = c.requires.sized.marks in
    let end : length w.words.items ≤ c.loop-sector.sector * 4_096 = omega (arith, c.loop-sector-test.false, c.len.ensures, inv.regions, inv.sized.words_count, old.areas, old.regions) in
    let all = all_taken words (c.loop-sector.sector * 4_096) w end inv.taken in
    IfOk-weaker c.to_vec.result _ _
    (λ entries is. rw is (record { rising = inv.taken.taken.rising; same = λ v. (all v).1 ∙ ap (λ (k : ℕ). edge_label_at k words v) inv.sized.bound }))
    c.to_vec.ensures
