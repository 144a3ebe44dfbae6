use Rattle.std.proofs.Common.{◌∙◌, reverse, refl, sym, ap, subst}
use Rattle.std.specs.Map.Iter.{TakesFirst}
use Rattle.lru.proofs.Pairs.{pops_last}
use Rattle.arrivals.proofs.Reversed.{distinct-here, pop-kept, shows-here}
use Rattle.arrivals.proofs.Arrivals.take_first.Goals as goal

pub invariant_of-self-2 : goal.invariant_of-self-2
invariant_of-self-2 g c =
    let es = c.in-Some.cache.entries in
    let new = c.pop_lru.new.self.entries in
    let steps : TakesFirst (λ e. e) (reverse es) c.pop_lru.result (reverse new) =
    rw (c.pop_lru.ensures.value, ap (λ m. m.entries) c.pop_lru.ensures.entries) (pops_last es) in
    pop-kept es new c.pop_lru.result steps (distinct-here c.self.inside.cache c.args.self.now c.self.view_is c.self.invariant c.in-Some.cache c.in-Some.is)

pub returns : goal.returns
returns g c =
    let es = c.in-Some.cache.entries in
    let new = c.pop_lru.new.self.entries in
    let steps : TakesFirst (λ e. e) (reverse es) c.pop_lru.result (reverse new) =
    rw (c.pop_lru.ensures.value, ap (λ m. m.entries) c.pop_lru.ensures.entries) (pops_last es) in
    record {
      steps = subst (λ l. TakesFirst (λ e. e) l c.pop_lru.result (reverse new)) (shows-here c.self.inside.cache c.args.self.now c.self.view_is c.self.invariant c.in-Some.cache c.in-Some.is) steps;
    }
