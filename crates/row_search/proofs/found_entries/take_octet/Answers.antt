use Rattle.std.proofs.Common.{◌≡◌, ◌<◌, ◌≤◌, ◌⊎◌, ◌+◌, ◌∙◌, ℕ, Bool, List, cond, length, take, ap, inl, inr, arith}
use Rattle.bounded_table.specs.declared.table_row.Entry.{Entry}
use Rattle.row_search.proofs.BoolNumbers.{one_at_most, one_or_none}
use Rattle.row_search.proofs.TakenLabels.{next_taken, none_more, none_yet}
use Rattle.row_search.proofs.found_entries.take_octet.Goals as goal

pub loop-k-init : goal.loop-k-init
loop-k-init c = record {
  inside = omega arith;
  room = omega arith;
  takes = none_yet c.args.bound c.args.octet.first (c.args.octet.first + 0) c.args.words.now (take c.args.count c.args.places.now) (omega arith);
}

pub loop-k-preserved : goal.loop-k-preserved
loop-k-preserved c =
    let inv = c.loop-k.invariant in
    let bound : ℕ = c.args.bound in
    let v : ℕ = c.args.octet.first + c.loop-k.k in
    let words : List ℕ = c.loop-k.words in
    let places : List Entry = c.loop-k.places in
    let end : ℕ = c.loop-k.end in
    let e = c.take_node-labelled.ensures in
    let b : Bool = c.take_node-labelled.result in
    let inside : end < length places = omega (arith, inv.room, c.loop-k-test.true, c.requires.octet.few, c.requires.room, c.loop-k.auto.places) in
    let more : c.from-end.result ≡ cond b 1 0 = one_or_none b c.from-end.result c.from-end.ensures in
    let one : c.from-end.result ≤ 1 = one_at_most b c.from-end.result c.from-end.ensures in
    record {
      inside = omega (arith, c.loop-k-test.true);
      room = omega (arith, inv.room, one);
      takes = next_taken bound c.args.octet.first v (c.args.octet.first + (c.loop-k.k + 1)) c.args.words.now (take c.args.count c.args.places.now) words c.take_node-labelled.new.words places end c.from-end.result c.take_node-labelled.new.place (omega arith) inside e.words e.place (more ∙ ap (λ (k : Bool). cond k 1 0) e.labelled) inv.takes;
    }

pub returns-clause-takes : goal.returns-clause-takes
returns-clause-takes c =
    let inv = c.loop-k.invariant in
    let first : ℕ = c.args.octet.first in
    let node : ℕ = first + c.loop-k.k in
    let past : length c.loop-k.words ≤ node ⊎ (node ≡ first + 8) = elim c.requires.octet.all [
      | inl eight ↦ inr (omega (arith, inv.inside, eight, c.loop-k-test.false))
      | inr last ↦ inl (omega (arith, last, inv.inside, c.loop-k-test.false, c.loop-k.auto.words))
    ] in
    let low : node ≤ first + 8 = omega (arith, inv.inside, c.requires.octet.few) in
    none_more c.args.bound first node (first + 8) c.args.words.now (take c.args.count c.args.places.now) c.loop-k.words (take c.loop-k.end c.loop-k.places) low past inv.takes
