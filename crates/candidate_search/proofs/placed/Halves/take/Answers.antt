use Rattle.std.proofs.Common.{◌++◌, ◌∷◌, [], List, sym, subst}
use Rattle.std.specs.List.Sorted.{IsPermutation}
use Rattle.candidate_search.specs.declared.placed.Placed.{Placed}
use Rattle.candidate_search.specs.inside.Placed.{both}
use Rattle.candidate_search.proofs.Parts.{one_more_below}
use Rattle.candidate_search.proofs.placed.Halves.take.Goals as goal

pub returns-in_ok-push : goal.returns-in_ok-push
returns-in_ok-push c =
    let old = c.args.self.now in
    subst (λ (l : List Placed). IsPermutation (both old ++ c.args.point ∷ []) (l ++ old.above.items)) (sym c.in_ok-push.ensures.items)
    (one_more_below old.below.items old.above.items c.args.point)
