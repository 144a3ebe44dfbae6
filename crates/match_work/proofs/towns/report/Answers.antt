use Rattle.std.proofs.Common.{ap, refl, subst, arith, ◌∙◌}
use Rattle.row_store.specs.Store.{count_known}
use Rattle.match_work.specs.Matched.{pieces_in}
use Rattle.match_work.specs.inside.TownsDone.{AreMatchCosts}
use Rattle.match_work.proofs.TownTexts.{report_is, tally_fits}
use Rattle.match_work.proofs.Sharing.{share_on}
use Rattle.match_work.proofs.towns.report.Goals as goal

pub match_batch-requires-clause-traces : goal.match_batch-requires-clause-traces
match_batch-requires-clause-traces g c lifetimes within =
    let few = c.requires.traces.1 in
    record { first_place = omega arith; few = omega (arith, few); lawful = c.requires.traces.0.lawful }

pub match_batch-requires-clause-readers : goal.match_batch-requires-clause-readers
match_batch-requires-clause-readers g c lifetimes within = c.in_ok-readers.ensures.shared.readers_are

pub add_up-costs-requires : goal.add_up-costs-requires
add_up-costs-requires g c =
    let bounded = c.requires.traces.0.few_points in
    let few = c.in_ok-matches.ensures.matched.few in
    let pieces = ap pieces_in c.as_slice.ensures in
    omega (arith, bounded, few, pieces)

pub add-requires : goal.add-requires
add-requires g c =
    tally_fits c.args.shared.now.matcher.now c.args.traces.now c.in_ok-matches.matches _ c.add_up-costs.result c.requires.traces.0 c.in_ok-matches.ensures.matched
    (subst (λ m. AreMatchCosts m c.add_up-costs.result) c.as_slice.ensures c.add_up-costs.ensures) refl refl refl

pub known_count-requires : goal.known_count-requires
known_count-requires g c =
    let shared = share_on c.args.shared.now.matcher.now c.in_ok-readers.readers c.match_batch.new.readers c.in_ok-readers.ensures.shared c.in_ok-matches.ensures.stay in
    (shared.store, rw c.as_slice-2.ensures shared.each)

pub returns : goal.returns
returns g c =
    let batch = c.in_ok-matches.ensures in
    report_is c.args.shared.now.matcher.now c.args.traces.now c.args.shared.now.store.now c.in_ok-readers.readers c.match_batch.new.readers c.in_ok-matches.matches _ c.add.new.self c.add_up-costs.result c.from.result c.new-text.result c.append_line.new.into c.append_cost.new.into
    c.in_ok-readers.ensures.fresh c.in_ok-readers.ensures.shared batch.stay batch.learn batch.matched (subst (λ m. AreMatchCosts m c.add_up-costs.result) c.as_slice.ensures c.add_up-costs.ensures)
    c.add.ensures refl refl refl (c.from.ensures ∙ c.in_ok-rows.ensures ∙ ap count_known c.as_slice-2.ensures) c.new-text.ensures c.in_ok-append_line.ensures c.in_ok-append_cost.ensures
