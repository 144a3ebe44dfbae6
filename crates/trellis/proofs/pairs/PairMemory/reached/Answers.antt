use Rattle.std.proofs.Common.{◌≡◌, ◌≤◌, ℕ, Bool, false, not, is_some, Option, Some, None, sym, ap, ◌∙◌, subst, arith}
use Rattle.std.proofs.lemmas.Bool.{false≢true}
use Rattle.bounded_table.specs.Table.{BoundedTable, IsNearRow}
use Rattle.trellis.specs.declared.pairs.Told.{Told}
use Rattle.trellis.specs.Pairs.{TellsPair}
use Rattle.trellis.specs.inside.PairsInside.{shown_pairs}
use Rattle.trellis.proofs.ToldPairs.{pair_told, places_more, told_reached}
use Rattle.trellis.proofs.pairs.PairMemory.reached.Goals.{else-is_none-via-then-is_none+else-near-self, else-is_none-via-else-is_none}
use Rattle.trellis.proofs.pairs.PairMemory.reached.Goals as goal

-- a distance that is one is not none
not_none : (o : Option ℕ) (test : Bool) → is_some o ≡ not test → test ≡ false → o ≡ None → ⊥
not_none (Some x) test is off none = absurd (cc)
not_none None test is off none = absurd (false≢true (is ∙ ap not off))

pub invariant_of-self : goal.invariant_of-self
invariant_of-self c =
    let table = shown_pairs c.self.inside in
    let near = c.args.near.now in
    let row = near.row.now in
    let is : IsNearRow table.network near.reach table.bound near.origin.0 row =
    subst (λ (t : BoundedTable). IsNearRow t.network near.reach t.bound near.origin.0 row) (sym c.self.view_is) c.requires in
    let told : Told = record { origin = near.origin.0; node = c.args.node.0; distance = c.look-distance.result } in
    let whole : c.look-distance.result ≡ None → table.bound ≤ near.reach =
    elim c.else-is_none.branch [
      | else-is_none-via-then-is_none+else-near-self w ↦ λ none. omega (arith, w.if-near-self.false)
      | else-is_none-via-else-is_none w ↦ λ none. absurd (not_none c.look-distance.result c.is_none.result c.is_none.ensures w.if-is_none.false none)
    ] in
    let tells : TellsPair table told.origin told.node told.distance =
    pair_told table near.reach near.origin.0 told.node row told.distance is c.look-distance.ensures whole in
    let lt = c.if-place-len.true in
    record { each = places_more table c.self.inside.places.items _ told c.self.invariant.each (omega (arith, lt)) tells }

pub returns-clause-told : goal.returns-clause-told
returns-clause-told c =
    let table = c.args.self.now in
    let near = c.args.near.now in
    let row = near.row.now in
    let whole : c.look-distance.result ≡ None → table.bound ≤ near.reach =
    elim c.else-is_none.branch [
      | else-is_none-via-then-is_none+else-near-self w ↦ λ none. omega (arith, w.if-near-self.false, ap (λ (t : BoundedTable). t.bound) c.self.view_is)
      | else-is_none-via-else-is_none w ↦ λ none. absurd (not_none c.look-distance.result c.is_none.result c.is_none.ensures w.if-is_none.false none)
    ] in
    rw c.within-2.ensures (told_reached table near c.args.node.0 c.look-distance.result (pair_told table near.reach near.origin.0 c.args.node.0 row c.look-distance.result c.requires c.look-distance.ensures whole))
