use Rattle.std.proofs.Common.{◌≡◌, ◌↔◌, ◌<◌, ◌+◌, ◌≤◌, ℕ, ◌||◌, Bool, List, true, false, inl, inr, sym, subst, length, get_or, map, take, rules, arith, ap, refl, ◌∙◌}
use Rattle.std.proofs.lemmas.Bool.{cases_Bool, eq-eqb, eqb-true, false≢true}
use Rattle.std.proofs.lemmas.List.{take_all}
use Rattle.std.proofs.lemmas.List.Elements.{All-more}
use Rattle.road_network.specs.Net.{Net, arc_of, leaving}
use Rattle.road_network.specs.declared.Arc.{Arc}
use Rattle.bounded_table.specs.declared.table_row.Entry.{Entry}
use Rattle.bounded_table.specs.declared.word_check.Tally.{Tally}
use Rattle.bounded_table.specs.Closed.{LeavesRelaxed}
use Rattle.bounded_table.specs.inside.Given.{IsRelaxedAt, given_by}
use Rattle.bounded_table.specs.LabelWords.{word_by}
use Rattle.bounded_table.specs.Table.{label_in}
use Rattle.bounded_table.specs.inside.Tally.{IsTally}
use Rattle.bounded_table.specs.Spread.{FitsIn}
use Rattle.bounded_table.specs.LabelWords.{IsTriable}
use Rattle.std.specs.List.{All, sum_by}
use Rattle.bounded_table.proofs.Entries.{no_entry}
use Rattle.bounded_table.proofs.GivenLabels.{counted_few, counted_next}
use Rattle.bounded_table.proofs.Tallies.{AreSpread, fewer, given_there, last_one, relaxed_there, triable}
use Rattle.bounded_table.proofs.word_check.are_given.Goals as goal

-- what the tally of an entry's node tells
record Tells (n : Net) (bound : ℕ) (entries : List Entry) (x : Entry) (t : Tally) : Type 0 where
  given : t.given ≡ given_by n bound entries x
  relaxed : (t.short ≡ false) ↔ LeavesRelaxed n bound (label_in entries) x.node.0 x.distance

tells : (n : Net) (bound : ℕ) (entries : List Entry) (words : List ℕ) (x : Entry) (base : ℕ) (arcs : List Arc) (t : Tally) → AreSpread n bound entries words → base ≡ word_by x.distance 0 → arcs ≡ map (arc_of n) (leaving n x.node.0) → IsTally words (base + 1) arcs t → Tells n bound entries x t
tells n bound entries words x base arcs t spread base_is arcs_are tally =
    let by_base : IsTally words (word_by x.distance 0 + 1) arcs t = subst (λ (k : ℕ). IsTally words (k + 1) arcs t) base_is tally in
    let by : IsTally words (word_by x.distance 0 + 1) (map (arc_of n) (leaving n x.node.0)) t = subst (λ (k : List Arc). IsTally words (word_by x.distance 0 + 1) k t) arcs_are by_base in
    let relaxed = relaxed_there n bound x.node.0 x.distance entries words spread in
    record {
      given = by.given ∙ given_there n bound entries words x spread;
      relaxed = (λ enough. relaxed.0 (by.short.0 enough), λ h. by.short.1 (relaxed.1 h));
    }

pub tally_arcs-tally-requires-clause-arcs : goal.tally_arcs-tally-requires-clause-arcs
tally_arcs-tally-requires-clause-arcs c =
    let n = c.args.net.now in
    let words : List ℕ = c.args.words.now in
    let x : Entry = get_or c.args.entries.now c.loop-x.x-index no_entry in
    subst (All (IsTriable (length words))) (sym c.arcs.ensures) (triable n x.node.0 (length words) c.invariants.ensures c.requires.words.0)

neither : (a b : Bool) → (a || b) ≡ false → (a ≡ false) × (b ≡ false)
neither true b h = absurd (false≢true (sym h))
neither false b h = (refl, h)

both_false : (a b : Bool) → a ≡ false → b ≡ false → (a || b) ≡ false
both_false a b first second = rw first second

-- the count with one entry more
counted : (n : Net) (bound place given : ℕ) (entries : List Entry) (t : Tally) → place < length entries → Tells n bound entries (get_or entries place no_entry) t → given ≡ sum_by (given_by n bound entries) (take place entries) → given + t.given ≡ sum_by (given_by n bound entries) (take (place + 1) entries)
counted n bound place given entries t lt tells is = counted_next n bound place given t.given entries lt is tells.given

pub overflow_add-total : goal.overflow_add-total
overflow_add-total c =
    let n = c.args.net.now in
    let bound : ℕ = c.args.bound in
    let entries : List Entry = c.args.entries.now in
    let place : ℕ = c.loop-x.x-index in
    let x : Entry = get_or entries place no_entry in
    let t : Tells n bound entries x c.tally_arcs-tally.result = tells n bound entries c.args.words.now x c.least_word.result c.arcs.result.now c.tally_arcs-tally.result (record { lawful = c.invariants.ensures; count = c.requires.words.0; spread = c.requires.words.1 }) c.least_word.ensures c.arcs.ensures c.tally_arcs-tally.ensures in
    let next = counted n bound place c.loop-x.total.given entries c.tally_arcs-tally.result (omega arith) t c.loop-x.invariant.counted in
    let inside : c.loop-x.total.given + c.tally_arcs-tally.result.given ≤ length entries = counted_few n bound (place + 1) (c.loop-x.total.given + c.tally_arcs-tally.result.given) entries c.requires.rising next in
    search rules

pub loop-x-preserved : goal.loop-x-preserved
loop-x-preserved c =
    let n = c.args.net.now in
    let bound : ℕ = c.args.bound in
    let entries : List Entry = c.args.entries.now in
    let place : ℕ = c.loop-x.x-index in
    let lt : place < length entries = omega arith in
    let x : Entry = get_or entries place no_entry in
    let P : Entry → Type 0 = IsRelaxedAt n bound (label_in entries) in
    let fits : FitsIn n bound x = c.requires.fits place no_entry lt in
    let t : Tells n bound entries x c.tally_arcs-tally.result = tells n bound entries c.args.words.now x c.least_word.result c.arcs.result.now c.tally_arcs-tally.result (record { lawful = c.invariants.ensures; count = c.requires.words.0; spread = c.requires.words.1 }) c.least_word.ensures c.arcs.ensures c.tally_arcs-tally.ensures in
    record {
      each = (
        λ none.
            let parts = neither c.loop-x.total.short c.tally_arcs-tally.result.short none in
            All-more P entries place no_entry lt (c.loop-x.invariant.each.0 parts.0) (record { node = fits.node; within = fits.within; relaxed = t.relaxed.0 parts.1 }),
        λ all.
            let here : P x = last_one P entries place no_entry lt all in
            both_false c.loop-x.total.short c.tally_arcs-tally.result.short (c.loop-x.invariant.each.1 (fewer P entries place lt all)) (t.relaxed.1 here.relaxed),
      );
      counted = counted n bound place c.loop-x.total.given entries c.tally_arcs-tally.result lt t c.loop-x.invariant.counted;
    }

pub overflow_add-result : goal.overflow_add-result
overflow_add-result c =
    let entries : List Entry = c.args.entries.now in
    let inside : c.loop-x.total.given ≤ length entries = counted_few c.args.net.now c.args.bound c.loop-x.x-index c.loop-x.total.given entries c.requires.rising c.loop-x.invariant.counted in
    search rules

pub returns-then-not-total : goal.returns-then-not-total
returns-then-not-total c =
    let entries : List Entry = c.args.entries.now in
    let total : Tally = c.loop-x.total in
    let none : total.short ≡ false = elim (cases_Bool total.short) [ inl is ↦ absurd (false≢true (rw is at c.if-not-total.true)) | inr not ↦ not ] in
    let whole : take c.loop-x.x-index entries ≡ entries = take_all c.loop-x.x-index entries (omega arith) in
    let each = rw whole at c.loop-x.invariant.each in
    let counted = rw whole at c.loop-x.invariant.counted in
    let more = ap (λ (k : ℕ). k + 1) counted in (
      λ is. record { each = each.0 none; all = sym more ∙ eqb-true (total.given + 1) (length entries) is },
      λ given. eq-eqb (total.given + 1) (length entries) (more ∙ given.all),
    )

pub returns-else-not-total : goal.returns-else-not-total
returns-else-not-total c =
    let entries : List Entry = c.args.entries.now in
    let whole : take c.loop-x.x-index entries ≡ entries = take_all c.loop-x.x-index entries (omega arith) in
    let each = rw whole at c.loop-x.invariant.each in (
      λ is. absurd (false≢true (sym c.if-not-total.false ∙ is)),
      λ given. rw (each.1 given.each) refl,
    )
