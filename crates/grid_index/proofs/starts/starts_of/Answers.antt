use Rattle.std.proofs.Common.{◌+◌, subst, sym, arith}
use Rattle.grid_index.specs.inside.Starts.{AreStarts}
use Rattle.grid_index.proofs.Starting.{start_none, starts_more, starts_none}
use Rattle.grid_index.proofs.starts.starts_of.Goals as goal

pub loop-slot-init : goal.loop-slot-init
loop-slot-init c =
    let entries = c.args.entries.now in
    let none = subst (λ xs. AreStarts entries xs 0) (sym c.in_ok-starts.ensures.items) (starts_none entries) in
    record {
      starts_are = starts_more entries c.in_ok-starts.starts.items c.push.new.self.items 0 0 none (start_none entries) c.in_ok-push.ensures.items;
      place_is = start_none entries;
    }

pub first_from-place-requires-clause-within : goal.first_from-place-requires-clause-within
first_from-place-requires-clause-within c = c.loop-slot.invariant.place_is.within

pub first_from-place-requires-clause-before : goal.first_from-place-requires-clause-before
first_from-place-requires-clause-before c = λ i d lt.
    let before = c.loop-slot.invariant.place_is.before i d lt in
    omega (arith, before)

pub loop-slot-preserved : goal.loop-slot-preserved
loop-slot-preserved c =
    let s = c.loop-slot in
    record {
      starts_are = starts_more c.args.entries.now s.starts.items c.push-in-loop-slot.new.self.items (s.slot + 1) c.first_from-place.result s.invariant.starts_are c.first_from-place.ensures c.in_ok-push-2.ensures.items;
      place_is = c.first_from-place.ensures;
    }

pub returns : goal.returns
returns c =
    let s = c.loop-slot in
    subst (AreStarts c.args.entries.now s.starts.items) (omega (arith, c.loop-slot-test.false, s.auto.slot-end)) s.invariant.starts_are
