use Rattle.std.proofs.Common.{◌≡◌, [], ◌∷◌, ◌++◌, replicate, ap, ◌∙◌, arith}
use Rattle.std.proofs.lemmas.List.{replicate-append-replicate}
use Rattle.candidate_search.proofs.groups.empty_lists.Goals as goal

pub loop-init : goal.loop-init
loop-init c = c.in_ok-lists.ensures.items

pub loop-preserved : goal.loop-preserved
loop-preserved c =
    c.in_ok-push.ensures.items
    ∙ ap (λ x. c.loop.lists.items ++ x ∷ []) c.new.ensures
    ∙ ap (λ l. l ++ [] ∷ []) c.loop.invariant
    ∙ replicate-append-replicate c.loop.counter 1 []

pub returns : goal.returns
returns c =
    let up = c.loop.auto.counter-end in
    let down = c.loop-test.false in
    let all : c.loop.counter ≡ c.args.count = omega arith in
    c.loop.invariant ∙ ap (λ n. replicate n []) all
