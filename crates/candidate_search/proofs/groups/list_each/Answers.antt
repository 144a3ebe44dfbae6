use Rattle.std.proofs.lemmas.Result.{err_from_is_err_and}
use Rattle.std.proofs.Common.{◌+◌, ◌<◌, List, arith, get_or, length, set, sym, subst, take}
use Rattle.std.proofs.lemmas.List.{take_all, take_more}
use Rattle.std.proofs.lemmas.List.Elements.{All-take}
use Rattle.road_network.specs.declared.Candidate.{Candidate}
use Rattle.road_network.specs.Near.{candidates}
use Rattle.candidate_search.specs.declared.placed.Placed.{Placed}
use Rattle.candidate_search.specs.inside.Placed.{AreWritten, IsPlaced}
use Rattle.candidate_search.proofs.EdgeBoxes.{no_point}
use Rattle.candidate_search.proofs.Written.{Lists, one_written}
use Rattle.candidate_search.proofs.groups.list_each.Goals as goal

pub loop-index-preserved : goal.loop-index-preserved
loop-index-preserved c = λ points placed.
    let own = candidates c.args.among.net.now c.args.among.p.now.k c.args.among.p.now.radius in
    let s = c.loop-index in
    let group = c.args.group.now in
    let old : Lists = c.args.lists.now in
    let done = take s.index group in
    let x : Placed = get_or group s.index no_point in
    let inside : x.place < length s.lists = omega (arith, (c.requires.group s.index no_point c.loop-index-test.true).inside, c.loop-index.auto.lists) in
    subst (λ (list : List Candidate). AreWritten own points old (set s.lists x.place list) (take (s.index + 1) group)) (sym c.in_ok-lists.ensures)
    (subst (AreWritten own points old (set s.lists x.place (own x.at))) (sym (take_more group s.index no_point c.loop-index-test.true))
    (one_written own points old s.lists done x (All-take (IsPlaced points) s.index group placed) (placed s.index no_point c.loop-index-test.true) inside (s.invariant points placed)))

pub returns : goal.returns
returns c = λ points placed.
    let s = c.loop-index in
    subst (AreWritten (candidates c.args.among.net.now c.args.among.p.now.k c.args.among.p.now.radius) points c.args.lists.now s.lists) (take_all s.index c.args.group.now c.loop-index-test.false) (s.invariant points placed)

pub candidates_among-requires-clause-options : goal.candidates_among-requires-clause-options
candidates_among-requires-clause-options c = c.requires.options

pub candidates_among-requires-clause-boxes : goal.candidates_among-requires-clause-boxes
candidates_among-requires-clause-boxes c = c.requires.boxes.are

pub candidates_among-requires-clause-enough : goal.candidates_among-requires-clause-enough
candidates_among-requires-clause-enough c = c.requires.boxes.enough c.loop-index.index no_point c.loop-index-test.true

pub returns-in_err-lists : goal.returns-in_err-lists
returns-in_err-lists c = let p = err_from_is_err_and c.from_residual.result c.from_residual.ensures.1 in rw p.1 tt
