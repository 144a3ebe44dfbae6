use Rattle.std.proofs.Common.{◌≡◌, List, [], ◌∷◌, ◌++◌, All, sym, ap, ◌∙◌, subst}
use Rattle.std.proofs.lemmas.List.Elements.{All-cons, All-nil}
use Rattle.tickets.specs.Tickets.{Drawn, HasEnded}
use Rattle.base_tests.proofs.drawn_numbers.gather_two.Goals as goal

pub gather-requires-clause-ended : goal.gather-requires-clause-ended
gather-requires-clause-ended c =
    let P = HasEnded c.args.claims.count in
    let a = c.args.a in
    let b = c.args.b in
    let whole : c.push-2.new.self ≡ a ∷ b ∷ [] =
    c.in_ok-push-2.ensures.ok ∙ ap (λ (l : List Drawn). l ++ b ∷ []) (c.in_ok-push.ensures.ok ∙ ap (λ (l : List Drawn). l ++ a ∷ []) c.new-tickets.ensures) in
    subst (All P) (sym whole) (All-cons P a (b ∷ []) c.requires.ended.0 (All-cons P b [] c.requires.ended.1 (All-nil P)))
