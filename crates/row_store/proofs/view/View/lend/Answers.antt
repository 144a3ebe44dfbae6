use Rattle.std.proofs.Common.{Some, subst, ◌∙◌}
use Rattle.std.specs.Option.{IsSome}
use Rattle.row_store.specs.inside.Places.{IsReady}
use Rattle.row_store.specs.declared.place.Place.{Place}
use Rattle.row_store.proofs.Places.{place_is}
use Rattle.row_store.proofs.view.View.lend.Goals as goal

pub lend-requires-clause-fits : goal.lend-requires-clause-fits
lend-requires-clause-fits c =
    let has = c.requires.1 in
    let same = place_is c.args.self.now.places.items c.args.n.0 has.place c.index.result.now has.at c.index.ensures in
    c.requires.0.fit c.args.n.0 c.index.result.now (has.at ∙ (λ i. Some (same i)))

pub lend-requires-clause-known : goal.lend-requires-clause-known
lend-requires-clause-known c =
    let has = c.requires.1 in
    subst (λ (p : Place). IsSome p.note.known) (place_is c.args.self.now.places.items c.args.n.0 has.place c.index.result.now has.at c.index.ensures) has.known

pub lend-requires-clause-ready : goal.lend-requires-clause-ready
lend-requires-clause-ready c =
    let has = c.requires.1 in
    subst (λ (p : Place). IsReady p.seen) (place_is c.args.self.now.places.items c.args.n.0 has.place c.index.result.now has.at c.index.ensures) has.ready
