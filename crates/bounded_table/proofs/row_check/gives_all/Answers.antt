use Rattle.std.proofs.Common.{◌≡◌, ◌<◌, ◌+◌, ◌≤◌, ℕ, List, length, take, rules, arith, refl, sym, ap, ◌∙◌}
use Rattle.std.proofs.lemmas.Bool.{eq-eqb, eqb-true, false≢true}
use Rattle.std.proofs.lemmas.List.{take_all}
use Rattle.std.proofs.lemmas.List.Elements.{All-more}
use Rattle.bounded_table.specs.declared.table_row.Entry.{Entry}
use Rattle.bounded_table.specs.inside.Given.{IsRelaxedAt}
use Rattle.bounded_table.specs.Table.{label_in}
use Rattle.bounded_table.proofs.Entries.{no_entry}
use Rattle.bounded_table.proofs.GivenLabels.{counted_few, counted_next}
use Rattle.bounded_table.proofs.row_check.gives_all.Goals as goal

pub overflow_add-given : goal.overflow_add-given
overflow_add-given c =
    let n = c.args.net.now in
    let bound = c.args.bound in
    let entries : List Entry = c.args.row.now.entries in
    let place : ℕ = c.loop-x.x-index in
    let lt : place < length entries = omega (arith, ap length c.entries-entries.ensures, c.loop-x-test.true) in
    let next = counted_next n bound place c.loop-x.given c.in-Some.count entries lt c.loop-x.invariant.counted (rw c.entries-entries.ensures at c.in-Some.ensures.count) in
    let inside : c.loop-x.given + c.in-Some.count ≤ length entries = counted_few n bound (place + 1) (c.loop-x.given + c.in-Some.count) entries c.invariants.ensures.rising next in
    search rules

pub loop-x-preserved : goal.loop-x-preserved
loop-x-preserved c =
    let n = c.args.net.now in
    let bound = c.args.bound in
    let entries : List Entry = c.args.row.now.entries in
    let place : ℕ = c.loop-x.x-index in
    let lt : place < length entries = omega (arith, ap length c.entries-entries.ensures, c.loop-x-test.true) in
    record {
      each = All-more (IsRelaxedAt n bound (label_in entries)) entries place no_entry lt c.loop-x.invariant.each (rw c.entries-entries.ensures at (c.in-Some.ensures.some.0 refl));
      counted = counted_next n bound place c.loop-x.given c.in-Some.count entries lt c.loop-x.invariant.counted (rw c.entries-entries.ensures at c.in-Some.ensures.count);
    }

pub overflow_add-result : goal.overflow_add-result
overflow_add-result c =
    let entries : List Entry = c.args.row.now.entries in
    let inside : c.loop-x.given ≤ length entries = counted_few c.args.net.now c.args.bound c.loop-x.x-index c.loop-x.given entries c.invariants.ensures.rising c.loop-x.invariant.counted in
    search rules

pub loop-x-init : goal.loop-x-init
loop-x-init c = record { each = λ k d lt. absurd (omega arith); counted = refl }

pub returns-in_default : goal.returns-in_default
returns-in_default c =
    let lt : c.loop-x.x-index < length c.args.row.now.entries = omega (arith, ap length c.entries-entries.ensures, c.loop-x-test.true) in
    let some = rw c.entries-entries.ensures at c.in_default.ensures.some in
    (λ is. absurd (false≢true is), λ given. some.1 (given.each c.loop-x.x-index no_entry lt))

pub returns : goal.returns
returns c =
    let entries : List Entry = c.args.row.now.entries in
    let past : length entries ≤ c.loop-x.x-index = omega (arith, ap length c.entries-entries.ensures, c.loop-x-test.false) in
    let whole : take c.loop-x.x-index entries ≡ entries = take_all c.loop-x.x-index entries past in
    let each = rw whole at c.loop-x.invariant.each in
    let counted = rw whole at c.loop-x.invariant.counted in
    let count : length c.entries-entries.result.now ≡ length entries = ap length c.entries-entries.ensures in
    let more = ap (λ (k : ℕ). k + 1) counted in (
      λ is. record { each = each; all = sym more ∙ (eqb-true (c.loop-x.given + 1) (length c.entries-entries.result.now) is ∙ count) },
      λ given. eq-eqb (c.loop-x.given + 1) (length c.entries-entries.result.now) (more ∙ (given.all ∙ sym count)),
    )
