use Rattle.std.proofs.Common.{◌≡◌, None, nat_eq, sym, ap, ◌∙◌, subst, reverse}
use Rattle.std.specs.List.{IsDistinct}
use Rattle.std.specs.Map.{keys_of, lookup}
use Rattle.arrivals.specs.inside.Arrived.{newest_first}
use Rattle.arrivals.proofs.Reversed.{distinct-reverse, lookup-reverse, put-kept, put-last}
use Rattle.arrivals.proofs.Arrivals.append.Goals as goal

pub put_new-put-requires : goal.put_new-put-requires
put_new-put-requires g c =
    let es = newest_first c.self.inside.cache in
    let same = c.in_ok-cache.ensures.ok ∙ ap newest_first c.take.ensures.value in
    ap (lookup (nat_eq c.args.id)) same ∙ sym (lookup-reverse c.args.id es c.self.invariant) ∙ ap (lookup (nat_eq c.args.id)) c.self.view_is ∙ c.requires

pub invariant_of-self-2 : goal.invariant_of-self-2
invariant_of-self-2 g c =
    let es = newest_first c.self.inside.cache in
    let same = c.in_ok-cache.ensures.ok ∙ ap newest_first c.take.ensures.value in
    let none : lookup (nat_eq c.args.id) es ≡ None =
    sym (lookup-reverse c.args.id es c.self.invariant) ∙ ap (lookup (nat_eq c.args.id)) c.self.view_is ∙ c.requires in
    let old = c.in_ok-cache.cache.entries in
    put-kept c.args.id c.args.value old c.put_new-put.new.cache.entries c.put_new-put.result (subst (λ l. IsDistinct nat_eq (keys_of l)) (sym same) c.self.invariant)
    (ap (lookup (nat_eq c.args.id)) same ∙ none) c.put_new-put.ensures.ok c.put_new-put.ensures.err

pub returns-clause-ok : goal.returns-clause-ok
returns-clause-ok g c =
    let same = c.in_ok-cache.ensures.ok ∙ ap newest_first c.take.ensures.value in
    put-last c.args.id c.args.value c.in_ok-cache.cache.entries c.put_new-put.new.cache.entries c.args.self.now c.put_new-put.result (ap reverse same ∙ c.self.view_is) c.put_new-put.ensures.ok

pub returns-clause-unique : goal.returns-clause-unique
returns-clause-unique g c =
    let es = newest_first c.self.inside.cache in
    let same = c.in_ok-cache.ensures.ok ∙ ap newest_first c.take.ensures.value in
    let none : lookup (nat_eq c.args.id) es ≡ None =
    sym (lookup-reverse c.args.id es c.self.invariant) ∙ ap (lookup (nat_eq c.args.id)) c.self.view_is ∙ c.requires in
    let old = c.in_ok-cache.cache.entries in
    distinct-reverse c.put_new-put.new.cache.entries (put-kept c.args.id c.args.value old c.put_new-put.new.cache.entries c.put_new-put.result (subst (λ l. IsDistinct nat_eq (keys_of l)) (sym same) c.self.invariant)
    (ap (lookup (nat_eq c.args.id)) same ∙ none) c.put_new-put.ensures.ok c.put_new-put.ensures.err)
