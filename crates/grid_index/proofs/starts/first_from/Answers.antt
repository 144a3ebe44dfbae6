use Rattle.std.proofs.Common.{pos, ℕ, ◌<◌, ◌≡◌, get_or, subst, ⊎_elim, arith}
use Rattle.grid_index.specs.declared.entries.Entry.{Entry}
use Rattle.grid_index.proofs.Starting.{start_at}
use Rattle.std.proofs.lemmas.Bool.{cases_lt}
use Rattle.std.proofs.lemmas.List.{get_or_default}
use Rattle.grid_index.proofs.starts.first_from.Goals as goal

abbrev none : Entry
none = record { slot = 0; run = record { edge = record { 0 = 0 }; first = 0; end = 0; low = record { x = pos 0; y = pos 0 }; high = record { x = pos 0; y = pos 0 }; twin = record { 0 = 0 } } }

pub returns-else-entries-place : goal.returns-else-entries-place
returns-else-entries-place c =
    let s = c.loop-place in
    start_at c.args.entries.now c.args.slot s.place none c.requires.sorted c.loop-place-test.true s.invariant.before c.if-entries-place.false

pub loop-place-init : goal.loop-place-init
loop-place-init c = record { within = c.requires.within; before = c.requires.before }

pub bounds-entries-place : goal.bounds-entries-place
bounds-entries-place c = c.loop-place-test.true

pub loop-place-preserved : goal.loop-place-preserved
loop-place-preserved c =
    let s = c.loop-place in
    let entries = c.args.entries.now in
    record {
      within = omega (arith, c.loop-place-test.true);
      before = λ i d lt.
          ⊎_elim
          (λ below. s.invariant.before i d below)
          (λ le.
          let e : s.place ≡ i = omega (arith, lt, le) in
          subst (λ (k : ℕ). (get_or entries k d).slot < c.args.slot) e
          (subst (λ (x : Entry). x.slot < c.args.slot) (get_or_default entries s.place none d c.loop-place-test.true) c.if-entries-place.true))
          (cases_lt i s.place);
    }

pub returns-after-loop-place : goal.returns-after-loop-place
returns-after-loop-place c = record {
  within = c.loop-place.invariant.within;
  before = c.loop-place.invariant.before;
  after = λ i d le lt. absurd (omega (arith, le, lt, c.loop-place-test.false));
}
