use Rattle.std.proofs.Common.{◌≡◌, [], ◌∷◌, ◌++◌, List, length, map, refl, rules, sym, ap, ◌∙◌, arith}
use Rattle.std.proofs.lemmas.List.{map-append}
use Rattle.tickets.specs.Tickets.{Drawn}
use Rattle.match_pool.specs.declared.turn.Turn.{Turn}
use Rattle.match_pool.specs.inside.Dealing.{ticket_of}
use Rattle.match_pool.proofs.Yields.{ends, goes_on}
use Rattle.match_pool.proofs.dealing.turns_with.Goals as goal

-- one more turn
one_more : (before after : List Turn) (turn : Turn) (tickets : List Drawn) → map ticket_of before ≡ tickets → after ≡ before ++ turn ∷ [] → map ticket_of after ≡ tickets ++ turn.ticket ∷ []
one_more before after turn tickets are pushed = ap (map ticket_of) pushed ∙ map-append ticket_of before (turn ∷ []) ∙ ap (λ (l : List Drawn). l ++ turn.ticket ∷ []) are

pub loop-ticket-init : goal.loop-ticket-init
loop-ticket-init c = record { whole = refl; left = search rules; turns = ap (map ticket_of) c.in_ok-turns.ensures.items }

pub loop-ticket-preserved : goal.loop-ticket-preserved
loop-ticket-preserved c =
    let at = c.loop-ticket in
    let i = at.invariant in
    let steps = c.in-Some.ensures.steps in
    record {
      whole = goes_on at.yielded _ _ _ c.in-Some.ticket i.whole steps.0;
      left = (let was = i.left in let gone = steps.1 in let short = ap (λ (l : List Drawn). length l) steps.0 in omega arith);
      turns = one_more at.turns.items c.push.new.self.items _ at.yielded i.turns c.in_ok-push.ensures.items;
    }

pub returns : goal.returns
returns c =
    let at = c.loop-ticket in
    let i = at.invariant in
    let all = ends at.yielded _ _ i.whole (sym i.left ∙ c.in-None.ensures.steps.0) ∙ c.into_iter-ticket-iterator.ensures.into_iter_gives.0 ∙ c.into_vec-ticket-items.ensures in
    ap (map ticket_of) c.from_vec.ensures ∙ i.turns ∙ all
