use Rattle.std.proofs.Common.{◌≡◌, Some, None, nat_eq, refl, sym, ap, subst, ◌∙◌}
use Rattle.std.specs.List.{IsDistinct}
use Rattle.std.specs.Map.{keys_of, lookup}
use Rattle.std.specs.Option.{ghost_name_of, option_copied_mut}
use Rattle.std.proofs.lemmas.Map.{keys-set_value}
use borrow.Follows.Closed.{read_of}
use Rattle.arrivals.specs.inside.Arrived.{arrived}
use Rattle.arrivals.proofs.Reversed.{distinct-here, distinct-kept, lookup-here, set-here, shows-here}
use Rattle.arrivals.proofs.Arrivals.get_mut.Goals as goal

pub returns-in_err-cache : goal.returns-in_err-cache
returns-in_err-cache g c =
    let o = c.self.inside.cache in
    let is : o ≡ None = sym c.as_mut.ensures.value ∙ ap option_copied_mut c.in_err-cache.was in
    let unique = distinct-kept o (arrived o) refl c.self.invariant in
    rw (c.from_residual.ensures, ← c.self.view_is) (refl, record { writes_back = tt; value = sym (ap (λ x. lookup (nat_eq c.args.id) (arrived x)) is); unique = unique })

pub invariant_of-self-lent : goal.invariant_of-self-lent
invariant_of-self-lent g c =
    let cache = c.in_ok-cache.cache.now in
    let is : c.self.inside.cache ≡ Some cache = sym c.as_mut.ensures.value ∙ ap option_copied_mut c.in_ok-cache.was in
    let different = distinct-here c.self.inside.cache c.args.self.now c.self.view_is c.self.invariant cache is in
    λ r. (λ w. subst (IsDistinct nat_eq) (sym (keys-set_value (nat_eq c.args.id) cache.entries w)) different, different)

pub returns : goal.returns
returns g c =
    let o = c.self.inside.cache in
    let now = c.args.self.now in
    let cache = c.in_ok-cache.cache.now in
    let is : o ≡ Some cache = sym c.as_mut.ensures.value ∙ ap option_copied_mut c.in_ok-cache.was in (
      λ i. read_of (ghost_name_of c.peek_mut.result) (λ w. set-here o now c.self.view_is c.self.invariant cache is c.args.id w i) (shows-here o now c.self.view_is c.self.invariant cache is i),
      record {
        writes_back = tt;
        value = c.peek_mut.ensures.value ∙ lookup-here o now c.self.view_is c.self.invariant cache is c.args.id;
        unique = distinct-kept o now c.self.view_is c.self.invariant;
      },
    )
