use Rattle.std.proofs.Common.{◌≡◌, ◌++◌, ℕ, List, Option, Some, sym, ap, subst, ◌∙◌, arith}
use Rattle.std.proofs.lemmas.Option.{same_Some}
use Rattle.std.specs.Option.{IsSome}
use Rattle.road_network.specs.Net.{source}
use Rattle.road_network.specs.Walk.{IsLeastWalk}
use Rattle.bounded_table.specs.declared.table_row.Entry.{Entry}
use Rattle.bounded_table.specs.Table.{entry_in}
use Rattle.route_rebuild.specs.Numbers.{numbers}
use Rattle.route_rebuild.proofs.StepsBack.{IsStep, found_entry, step_back, numbers_push}
use Rattle.route_rebuild.proofs.walks.walk_back.Invariants.{distance_of}
use Rattle.route_rebuild.proofs.walks.walk_back.Goals as goal

pub loop-at-init : goal.loop-at-init
loop-at-init c =
    let row = c.args.row.now in
    let f = found_entry c.args.net.now c.requires.row.0 row.origin row.entries c.requires.row.1 c.args.n.0 c.find-at.result c.find-at.ensures (subst (λ (k : Option Entry). IsSome k) (sym c.find-at.ensures) c.requires.listed) in
    record { bound = c.requires.row.0; row = c.requires.row.1; node = c.args.n.0; rest = f.0; found = f.1; whole = rw c.new-edges.ensures.items f.1.least }

distance_from : (o : Option Entry) (x : Entry) → o ≡ Some x → distance_of o ≡ x.distance
distance_from o x h = ap distance_of h

pub loop-at-smaller : goal.loop-at-smaller
loop-at-smaller c =
    let n = c.args.net.now in
    let row = c.args.row.now in
    let f = c.loop-at.invariant.found in
    let same : f.entry ≡ c.in-Some.entry = same_Some f.entry c.in-Some.entry (sym f.is ∙ c.in-Some.is) in
    let step : IsStep n c.loop-at.invariant.bound row.origin row.entries c.in-Some-last.last c.loop-at.invariant.rest c.find-at-in-loop-at.result f.entry.distance = step_back n c.loop-at.invariant.bound row.origin row.entries c.invariants.ensures c.loop-at.invariant.row c.loop-at.invariant.node f.entry c.loop-at.invariant.rest f.least f.distance f.last f.within c.in-Some-last.last (ap (λ (k : Entry). k.last) same ∙ c.in-Some-last.is) c.find-at-in-loop-at.result (c.find-at-in-loop-at.ensures ∙ ap (entry_in row.entries) c.from.ensures) in
    omega (arith, distance_from c.find-at-in-loop-at.result step.here.entry step.here.is, distance_from c.loop-at.at f.entry f.is, step.nearer)

pub loop-at-preserved : goal.loop-at-preserved
loop-at-preserved c =
    let n = c.args.net.now in
    let row = c.args.row.now in
    let f = c.loop-at.invariant.found in
    let last = c.in-Some-last.last in
    let same : f.entry ≡ c.in-Some.entry = same_Some f.entry c.in-Some.entry (sym f.is ∙ c.in-Some.is) in
    let step : IsStep n c.loop-at.invariant.bound row.origin row.entries last c.loop-at.invariant.rest c.find-at-in-loop-at.result f.entry.distance = step_back n c.loop-at.invariant.bound row.origin row.entries c.invariants.ensures c.loop-at.invariant.row c.loop-at.invariant.node f.entry c.loop-at.invariant.rest f.least f.distance f.last f.within last (ap (λ (k : Entry). k.last) same ∙ c.in-Some-last.is) c.find-at-in-loop-at.result (c.find-at-in-loop-at.ensures ∙ ap (entry_in row.entries) c.from.ensures) in
    let joined : numbers c.loop-at.edges.items ++ c.loop-at.invariant.rest ≡ numbers c.push.new.self.items ++ step.front =
    ap (λ (k : List ℕ). numbers c.loop-at.edges.items ++ k) step.whole ∙ (sym (numbers_push c.loop-at.edges.items last step.front) ∙ ap (λ (k : List _). numbers k ++ step.front) (sym c.in_ok-push.ensures.items)) in
    record {
      bound = c.loop-at.invariant.bound;
      row = c.loop-at.invariant.row;
      node = source n last.0;
      rest = step.front;
      found = step.here;
      whole = subst (λ (k : List ℕ). IsLeastWalk n row.origin k c.args.n.0) joined c.loop-at.invariant.whole;
    }
