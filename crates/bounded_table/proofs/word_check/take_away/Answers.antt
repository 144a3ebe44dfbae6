use Rattle.std.proofs.Common.{◌≡◌, ◌∷◌, ◌+◌, ◌<◌, ℕ, List, [], None, length, set, drop, get_or, sym, subst, arith, refl}
use Rattle.std.proofs.lemmas.List.{drop_all}
use Rattle.std.proofs.lemmas.Grind.{common_steps}
use Rattle.bounded_table.specs.declared.table_row.Entry.{Entry}
use Rattle.bounded_table.specs.LabelWords.{no_label, word_at}
use Rattle.bounded_table.specs.Table.{entry_in}
use Rattle.bounded_table.proofs.Entries.{no_entry}
use Rattle.bounded_table.proofs.WordChecks.{less_left, none_left}
use Rattle.bounded_table.proofs.word_check.take_away.Goals.{then-node-words, else-node-words}
use Rattle.bounded_table.proofs.word_check.take_away.Goals as goal

pub returns : goal.returns
returns c v =
    let none : drop c.loop-x.x-index c.args.entries.now ≡ [] = drop_all c.loop-x.x-index c.args.entries.now (omega arith) in
    c.loop-x.invariant v (subst (λ (k : List Entry). entry_in k v ≡ None) (sym none) refl)

pub loop-x-preserved : goal.loop-x-preserved
loop-x-preserved c =
    let entries : List Entry = c.args.entries.now in
    let words : List ℕ = c.loop-x.words in
    let i : ℕ = c.loop-x.x-index in
    let lt : i < length entries = c.loop-x-test.true in
    let x : Entry = get_or entries i no_entry in
    let rest : List Entry = drop (i + 1) entries in
    let next : drop i entries ≡ x ∷ rest = grind (arith, common_steps) in
    let bound : ℕ = c.args.bound in
    let word_is : c.no_label-none.result ≡ no_label bound = c.no_label-none.ensures in
    let left : (v : ℕ) → entry_in (x ∷ rest) v ≡ None → word_at bound words v ≡ no_label bound = subst (λ (k : List Entry). (v : ℕ) → entry_in k v ≡ None → word_at bound words v ≡ no_label bound) next c.loop-x.invariant in
    elim c.if-node-words.branch [
      | then-node-words w ↦ subst (λ (k : List ℕ). (v : ℕ) → entry_in rest v ≡ None → word_at bound k v ≡ no_label bound) (sym w.words-is) (subst (λ (k : ℕ). (v : ℕ) → entry_in rest v ≡ None → word_at bound (set words x.node.0 k) v ≡ no_label bound) (sym word_is) (less_left bound x rest words left))
      | else-node-words w ↦ subst (λ (k : List ℕ). (v : ℕ) → entry_in rest v ≡ None → word_at bound k v ≡ no_label bound) (sym w.words-is) (none_left bound x rest words (omega (arith, w.if-node-words.false)) left)
    ]
