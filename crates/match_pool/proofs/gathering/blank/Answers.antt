use Rattle.std.proofs.Common.{◌≡◌, [], ◌∷◌, ◌++◌, List, Option, replicate, ap, ◌∙◌, arith}
use Rattle.std.proofs.lemmas.List.{replicate-append-replicate}
use Rattle.match_text.specs.declared.matched.MatchedTrace.{MatchedTrace}
use Rattle.match_pool.proofs.Slots.{no_match}
use Rattle.match_pool.proofs.gathering.blank.Goals as goal

pub loop-init : goal.loop-init
loop-init c = c.in_ok-slots.ensures.items

pub loop-preserved : goal.loop-preserved
loop-preserved c = c.in_ok-push.ensures.items ∙ ap (λ (l : List (Option MatchedTrace)). l ++ no_match ∷ []) c.loop.invariant ∙ replicate-append-replicate c.loop.counter 1 no_match

pub returns : goal.returns
returns c =
    let up = c.loop.auto.counter-end in
    let down = c.loop-test.false in
    let all : c.loop.counter ≡ c.args.count = omega arith in
    c.loop.invariant ∙ ap (λ n. replicate n no_match) all
