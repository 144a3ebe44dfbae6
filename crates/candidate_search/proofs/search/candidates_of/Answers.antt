use Rattle.std.proofs.Common.{◌++◌, ◌∷◌, [], ◌∙◌, ap, get_or, map, sym}
use Rattle.std.proofs.lemmas.List.{map_more, take_all}
use Rattle.candidate_search.specs.declared.best.NearEdge.{NearEdge}
use Rattle.candidate_search.proofs.LastFound.{no_edge}
use Rattle.candidate_search.proofs.Reached.{made}
use Rattle.candidate_search.proofs.search.candidates_of.Goals as goal

pub loop-near-init : goal.loop-near-init
loop-near-init c = c.in_ok-list.ensures.items

pub candidate_of-requires : goal.candidate_of-requires
candidate_of-requires c = c.requires c.loop-near.near-index no_edge c.loop-near-test.true

pub loop-near-preserved : goal.loop-near-preserved
loop-near-preserved c =
    let s = c.loop-near in
    let found = c.args.found.now in
    let f = made c.args.net.now c.args.search.at in
    let x : NearEdge = get_or found s.near-index no_edge in
    c.in_ok-push.ensures.items
    ∙ ap (λ y. s.list.items ++ y ∷ []) c.candidate_of.ensures
    ∙ ap (λ l. l ++ f x ∷ []) s.invariant
    ∙ sym (map_more f found s.near-index no_edge c.loop-near-test.true)

pub returns : goal.returns
returns c =
    let s = c.loop-near in
    s.invariant ∙ ap (map (made c.args.net.now c.args.search.at)) (take_all s.near-index c.args.found.now c.loop-near-test.false)
