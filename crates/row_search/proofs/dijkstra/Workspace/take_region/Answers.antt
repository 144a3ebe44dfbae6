use Rattle.std.proofs.lemmas.Result.{err_from_is_err_and}
use Rattle.std.proofs.Common.{length, length-set, refl, arith}
use Rattle.std.proofs.lemmas.List.{get_or_read}
use Rattle.row_search.specs.inside.Marked.{lists_in}
use Rattle.row_search.proofs.MarkedNodes.{as_many, keeps_none, region_gone, region_skipped}
use Rattle.row_search.proofs.dijkstra.Workspace.take_region.Goals as goal

pub returns-then-mark-eq0-clause-takes : goal.returns-then-mark-eq0-clause-takes
returns-then-mark-eq0-clause-takes c =
    let w = c.args.self.now in
    let at = get_or_read w.marks.regions.items c.args.region c.index-mark.result.now c.requires.region c.index-mark.ensures 0 in
    region_skipped c.args.region w (omega (arith, at, c.if-mark-eq0.true))

pub returns-then-mark-eq0-clause-sized : goal.returns-then-mark-eq0-clause-sized
returns-then-mark-eq0-clause-sized c = keeps_none c.args.self.now

pub take_octets-requires-clause-region : goal.take_octets-requires-clause-region
take_octets-requires-clause-region c = let old = c.requires.sized.marks in omega (arith, c.requires.region, old.octets)

pub returns-in_err-take_octets-clause-takes : goal.returns-in_err-take_octets-clause-takes
returns-in_err-take_octets-clause-takes c = let p = err_from_is_err_and c.from_residual.result c.from_residual.ensures.1 in rw p.1 tt

pub returns-clause-takes : goal.returns-clause-takes
returns-clause-takes c =
    let e = c.in_ok-take_octets.ensures in
    record {
      taken = λ before h. region_gone c.args.region before c.take_octets.new.self _ refl refl refl (e.takes.taken before h);
      queue = e.takes.queue;
    }

pub returns-clause-sized : goal.returns-clause-sized
returns-clause-sized c =
    let w = c.take_octets.new.self in
    let sized = c.in_ok-take_octets.ensures.sized in
    record {
      bound = sized.bound;
      words_count = sized.words_count;
      marks = λ count before. as_many (lists_in w.marks) _ refl (length-set w.marks.regions.items c.args.region 0) refl count (sized.marks count before);
    }

pub index-mark-requires : goal.index-mark-requires
index-mark-requires c = let lt = c.requires.region in omega arith

pub index_mut-requires : goal.index_mut-requires
index_mut-requires c = let now = c.in_ok-take_octets.ensures.sized.marks (length c.args.self.now.words.items) c.requires.sized.marks in omega arith
