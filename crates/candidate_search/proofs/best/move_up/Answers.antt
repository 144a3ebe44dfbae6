use Rattle.std.proofs.Common.{◌≡◌, All, subst, sym}
use Rattle.std.proofs.lemmas.List.Quantifiers.{all_pairs_remove}
use Rattle.std.proofs.lemmas.Result.{on_ok_weaker}
use Rattle.candidate_search.specs.declared.best.NearEdge.{NearEdge}
use Rattle.candidate_search.specs.inside.Best.{AreApart, IsApart, Puts}
use Rattle.candidate_search.proofs.BestLists.{others_without}
use Rattle.candidate_search.proofs.best.move_up.Goals as goal

pub put-requires-clause-apart : goal.put-requires-clause-apart
put-requires-clause-apart c =
    subst AreApart (sym c.remove.ensures.items) (all_pairs_remove IsApart c.args.found.now.items c.args.place c.requires.inside c.requires.apart)

pub put-requires-clause-others : goal.put-requires-clause-others
put-requires-clause-others c =
    let near = c.args.near in
    subst (All (λ (x : NearEdge). x.edge.0 ≡ near.edge.0 → ⊥)) (sym c.remove.ensures.items) (others_without c.args.found.now.items near c.args.place c.requires.apart c.requires.place c.requires.inside)

pub returns : goal.returns
returns c =
    on_ok_weaker c.put.result (λ puts. subst (λ l. Puts c.args.k l c.put.new.found.items c.args.near) c.remove.ensures.items puts) c.put.ensures
