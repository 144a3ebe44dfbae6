use Rattle.std.proofs.Common.{◌≡◌, ℕ, List, ◌++◌, length, take, drop, refl, sym, ap, ◌∙◌}
use Rattle.std.proofs.lemmas.List.{take_at, length-take-le}
use Rattle.std.proofs.lemmas.Result.{err_from_is_err_and}
use Rattle.row_search.specs.declared.queue.Waiting.{Waiting}
use Rattle.row_search.specs.inside.Underway.{after_arcs}
use Rattle.row_search.specs.inside.Fans.{arcs_in}
use Rattle.row_search.proofs.FreePlaces.{items_still}
use Rattle.row_search.proofs.waiting_list.WaitingList.try_fan.Goals as goal

pub returns-in_err-make_places-clause-tries : goal.returns-in_err-make_places-clause-tries
returns-in_err-make_places-clause-tries c = let p = err_from_is_err_and c.from_residual.result c.from_residual.ensures.1 in rw p.1 tt

pub returns-in_err-make_places-clause-count : goal.returns-in_err-make_places-clause-count
returns-in_err-make_places-clause-count c = refl

pub try_fan-self-inside-requires-clause-arcs : goal.try_fan-self-inside-requires-clause-arcs
try_fan-self-inside-requires-clause-arcs c = c.requires.arcs

pub try_fan-self-inside-requires-clause-distance : goal.try_fan-self-inside-requires-clause-distance
try_fan-self-inside-requires-clause-distance c = c.requires.distance

pub invariant_of-self-2 : goal.invariant_of-self-2
invariant_of-self-2 c =
    let places : List Waiting = c.make_places.new.places.items in
    let new : List Waiting = c.try_fan-self-inside.new.places in
    let back : take c.make_places.new.places.len (new ++ drop (length new) places) ≡ new = take_at new (drop (length new) places) c.make_places.new.places.len (c.try_fan-self-inside.auto.places ∙ c.as_mut_slice-places.ensures.len) in
    rw back c.try_fan-self-inside.ensures.sizes.2

pub returns-clause-tries : goal.returns-clause-tries
returns-clause-tries c = λ bound.
    let count : ℕ = c.self.inside.count in
    let places : List Waiting = c.make_places.new.places.items in
    let words : List ℕ = c.try_fan-self-inside.new.words in
    let new : List Waiting = c.try_fan-self-inside.new.places in
    let back : take c.make_places.new.places.len (new ++ drop (length new) places) ≡ new = take_at new (drop (length new) places) c.make_places.new.places.len (c.try_fan-self-inside.auto.places ∙ c.as_mut_slice-places.ensures.len) in
    let start : take count c.as_mut_slice-places.result.now ≡ c.args.self.now = ap (take count) c.as_mut_slice-places.ensures.value ∙ items_still count c.self.inside.places.items places c.args.self.now c.self.invariant c.make_places.ensures.same c.self.view_is in
    ap (λ (k : List Waiting). record { words = words; queue = take c.try_fan-self-inside.result k }) back
    ∙ (c.try_fan-self-inside.ensures.tries bound ∙ ap (λ (k : List Waiting). after_arcs bound c.args.distance (arcs_in c.args.fan.now) (record { words = c.args.words.now; queue = k })) start)

pub returns-clause-count : goal.returns-clause-count
returns-clause-count c = c.try_fan-self-inside.auto.words

pub returns-clause-more : goal.returns-clause-more
returns-clause-more c =
    let places : List Waiting = c.make_places.new.places.items in
    let new : List Waiting = c.try_fan-self-inside.new.places in
    let sizes = c.try_fan-self-inside.ensures.sizes in
    let back : take c.make_places.new.places.len (new ++ drop (length new) places) ≡ new = take_at new (drop (length new) places) c.make_places.new.places.len (c.try_fan-self-inside.auto.places ∙ c.as_mut_slice-places.ensures.len) in
    let before : length c.args.self.now ≡ c.self.inside.count = ap length (sym c.self.view_is) ∙ length-take-le c.self.inside.count c.self.inside.places.items c.self.invariant in
    let after : length (take c.try_fan-self-inside.result new) ≡ c.try_fan-self-inside.result = length-take-le c.try_fan-self-inside.result new sizes.2 in
    rw (back, before, after) sizes.1
