use Rattle.std.proofs.Common.{◌≡◌, Some, None, nat_eq, sym, ap, ◌∙◌, subst}
use Rattle.std.specs.List.{IsDistinct}
use Rattle.std.specs.Map.{keys_of, lookup}
use Rattle.std.specs.Option.{option_copied_mut}
use Rattle.std.proofs.lemmas.Map.{keys-set_value}
use Rattle.std.proofs.lemmas.Result.{on_ok_weaker}
use Rattle.arrivals.proofs.Reversed.{insert-held, insert-new}
use Rattle.arrivals.proofs.Arrivals.insert.Goals as goal

pub returns-in-Some-clause-ok : goal.returns-in-Some-clause-ok
returns-in-Some-clause-ok g c =
    insert-held c.args.id c.args.value c.in-Some.held.now c.args.self.now (sym c.get_mut.ensures.value ∙ ap option_copied_mut c.in-Some.is)

pub returns-in-Some-clause-unique : goal.returns-in-Some-clause-unique
returns-in-Some-clause-unique g c = subst (IsDistinct nat_eq) (sym (keys-set_value (nat_eq c.args.id) c.args.self.now c.args.value)) c.get_mut.ensures.unique

pub returns-in-None-clause-ok : goal.returns-in-None-clause-ok
returns-in-None-clause-ok g c =
    let none : lookup (nat_eq c.args.id) c.args.self.now ≡ None = sym c.get_mut.ensures.value ∙ ap option_copied_mut c.in-None.is in
    on_ok_weaker c.append.result (λ new. new ∙ sym (insert-new c.args.id c.args.value c.args.self.now none)) c.append.ensures.ok
