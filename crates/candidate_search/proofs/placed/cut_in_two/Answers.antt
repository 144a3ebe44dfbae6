use Rattle.std.proofs.Common.{get_or, sym, subst, take, rules}
use Rattle.std.specs.List.Sorted.{IsPermutation}
use Rattle.std.proofs.lemmas.List.{take_more, take_all}
use Rattle.candidate_search.specs.declared.placed.Placed.{Placed}
use Rattle.candidate_search.specs.inside.Placed.{both}
use Rattle.candidate_search.proofs.EdgeBoxes.{no_point}
use Rattle.candidate_search.proofs.Parts.{one_more}
use Rattle.candidate_search.proofs.placed.cut_in_two.Goals as goal

pub loop-point-preserved : goal.loop-point-preserved
loop-point-preserved c =
    let s = c.loop-point in
    let group = c.args.group.now in
    let x : Placed = get_or group s.point-index no_point in
    subst (λ l. IsPermutation l (both c.take.new.self)) (sym (take_more group s.point-index no_point c.loop-point-test.true))
    (one_more (take s.point-index group) (both s.halves) (both c.take.new.self) x s.invariant c.in_ok-take.ensures)

pub returns : goal.returns
returns c =
    let s = c.loop-point in
    record {
      below = search rules;
      above = search rules;
      all = subst (λ l. IsPermutation l (both s.halves)) (take_all s.point-index c.args.group.now c.loop-point-test.false) s.invariant;
    }
