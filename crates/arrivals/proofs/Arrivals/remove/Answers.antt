use Rattle.std.proofs.Common.{nat_eq, reverse, refl, sym, ap, subst, ◌∙◌}
use Rattle.std.specs.List.{IsDistinct}
use Rattle.std.specs.Map.{keys_of}
use Rattle.arrivals.proofs.Reversed.{distinct-here, distinct-kept, distinct-remove, distinct-reverse, lookup-here, remove-here}
use Rattle.arrivals.proofs.Arrivals.remove.Goals as goal

pub returns-in_default-clause-unique : goal.returns-in_default-clause-unique
returns-in_default-clause-unique g c = distinct-kept c.self.inside.cache _ refl c.self.invariant

pub invariant_of-self-2 : goal.invariant_of-self-2
invariant_of-self-2 g c =
    let cache = c.in-Some.cache in
    let different = distinct-here c.self.inside.cache c.args.self.now c.self.view_is c.self.invariant cache c.in-Some.is in
    subst (λ m. IsDistinct nat_eq (keys_of m.entries)) (sym c.pop.ensures.entries) (distinct-remove (nat_eq c.args.id) cache.entries different)

pub returns-clause-value : goal.returns-clause-value
returns-clause-value g c = c.pop.ensures.value ∙ lookup-here c.self.inside.cache c.args.self.now c.self.view_is c.self.invariant c.in-Some.cache c.in-Some.is c.args.id

pub returns-clause-entries : goal.returns-clause-entries
returns-clause-entries g c =
    ap (λ m. reverse m.entries) c.pop.ensures.entries ∙ remove-here c.self.inside.cache c.args.self.now c.self.view_is c.self.invariant c.in-Some.cache c.in-Some.is c.args.id

pub returns-clause-unique : goal.returns-clause-unique
returns-clause-unique g c =
    let cache = c.in-Some.cache in
    let different = distinct-here c.self.inside.cache c.args.self.now c.self.view_is c.self.invariant cache c.in-Some.is in
    distinct-reverse c.pop.new.self.entries (subst (λ m. IsDistinct nat_eq (keys_of m.entries)) (sym c.pop.ensures.entries) (distinct-remove (nat_eq c.args.id) cache.entries different))
