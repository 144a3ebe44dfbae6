use Rattle.std.proofs.Common.{◌∷◌, [], ◌++◌, All, IsSome, List, Option, Some, length, map, refl, rules, sym, ap, subst, ◌∙◌, arith}
use Rattle.std.specs.Vec.Iter.{into_iter_items}
use Rattle.std.proofs.lemmas.List.{map-append}
use Rattle.std.proofs.lemmas.List.Elements.{All-rest}
use Rattle.match_text.specs.declared.matched.MatchedTrace.{MatchedTrace}
use Rattle.match_pool.proofs.Yields.{ends, goes_on}
use Rattle.match_pool.proofs.gathering.filled.Goals as goal

pub loop-slot-init : goal.loop-slot-init
loop-slot-init c = record {
  whole = refl;
  left = search rules;
  some = subst (All IsSome) (sym c.into_iter-slot-iterator.ensures.into_iter_gives.0) c.requires;
  all = ap (map Some) c.in_ok-all.ensures.items;
}

pub loop-slot-preserved : goal.loop-slot-preserved
loop-slot-preserved c =
    let at = c.loop-slot in
    let i = at.invariant in
    let steps = c.in-Some.ensures.steps in
    record {
      whole = goes_on at.yielded _ _ _ c.in-Some.slot i.whole steps.0;
      left = (let was = i.left in let gone = steps.1 in let short = ap (λ (l : List (Option MatchedTrace)). length l) steps.0 in omega arith);
      some = All-rest IsSome c.in-Some.slot (into_iter_items c.next.new.self) _ steps.0 i.some;
      all = ap (map Some) c.in_ok-push.ensures.items ∙ map-append Some at.all.items (c.in-Some-slot.matched ∷ [])
          ∙ ap (λ (l : List (Option MatchedTrace)). l ++ Some c.in-Some-slot.matched ∷ []) i.all ∙ ap (λ (x : Option MatchedTrace). at.yielded ++ x ∷ []) (sym c.in-Some-slot.is);
    }

pub returns : goal.returns
returns c =
    let at = c.loop-slot in
    let i = at.invariant in
    let none = c.in-None.ensures.steps in
    ap (map Some) c.from_vec.ensures ∙ i.all ∙ ends at.yielded _ _ i.whole (sym i.left ∙ none.0) ∙ c.into_iter-slot-iterator.ensures.into_iter_gives.0
