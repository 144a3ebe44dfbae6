use Rattle.std.proofs.Common.{◌≡◌, ◌∙◌, ◌+◌, ◌≤◌, ◌-◌, ◌==◌, ◌++◌, ℕ, List, true, false, length, take, drop, min, inr, refl, sym, ap, arith, ⊎_elim, length-append, length-drop, length-take}
use Rattle.std.proofs.Math.Seq.{take-append_seam, take-length}
use Rattle.std.proofs.lemmas.Bool.{eqb-true}
use Rattle.std.proofs.lemmas.Bool.Decides.{nat_tests}
use Rattle.std.specs.Prelude.{nat_lt, slice_range}
use Rattle.edge_io.specs.Memory.{ServesFile}
use Rattle.edge_io.specs.declared.shelf.Taken.TheVariants.{Got, End}
use Rattle.edge_io.proofs.memory_shelf.append_part.Goals as goal

-- at its end a file gives nothing
serves_end : (file : List ℕ) (at most : ℕ) → length file ≤ at → ServesFile file at most End
serves_end file at most behind =
    let past : nat_lt at (length file) ≡ false = grind (arith, nat_tests) in
    inr (rw past refl)

some_left : (left : ℕ) → false ≡ (left == 0) → 1 ≤ left
some_left left none = grind (arith, nat_tests)

serves_some : (file : List ℕ) (at most left count : ℕ) → left + at ≡ length file → 1 ≤ left → count ≡ min left most → ServesFile file at most (Got count)
serves_some file at most left count whole some is =
    let before : nat_lt at (length file) ≡ true = grind (arith, nat_tests) in
    let same : count ≡ min most (length file - at) = omega arith in
    inr (rw (before, same) refl)

rest_is : (file rest : List ℕ) (at : ℕ) → rest ≡ slice_range file at (length file) → rest ≡ drop at file
rest_is file rest at is = is ∙ ap (λ n. take n (drop at file)) (sym (length-drop at file)) ∙ take-length (drop at file)

pub returns-in_default-clause-bytes : goal.returns-in_default-clause-bytes
returns-in_default-clause-bytes c = ⊎_elim (λ past. omega (arith, past)) (λ past. omega (arith, past)) c.in_default.ensures.lookup.0

pub returns-in_default-clause-serves : goal.returns-in_default-clause-serves
returns-in_default-clause-serves c =
    serves_end c.args.file.now c.args.at c.args.most (⊎_elim (λ past. omega (arith, past)) (λ past. omega (arith, past)) c.in_default.ensures.lookup.0)

pub returns-then-is_empty-clause-bytes : goal.returns-then-is_empty-clause-bytes
returns-then-is_empty-clause-bytes c = omega (arith, eqb-true (length c.in-Some.rest.now) 0 (sym c.if-is_empty.ensures), c.in-Some.ensures.lookup.0.3)

pub returns-then-is_empty-clause-serves : goal.returns-then-is_empty-clause-serves
returns-then-is_empty-clause-serves c =
    serves_end c.args.file.now c.args.at c.args.most (omega (arith, eqb-true (length c.in-Some.rest.now) 0 (sym c.if-is_empty.ensures), c.in-Some.ensures.lookup.0.3))

pub overflow_cast-result : goal.overflow_cast-result
overflow_cast-result c = omega (arith, c.min-count.ensures, c.ranges.most)

pub returns-in-Ok-clause-grows : goal.returns-in-Ok-clause-grows
returns-in-Ok-clause-grows c =
    let rest = c.in-Some.rest.now in
    let count = c.min-count.result in
    let into = c.args.into.now.items in
    let some = some_left (length rest) c.if-is_empty.ensures in
    record {
      some = omega (arith, some, c.requires, c.min-count.ensures);
      within = omega (arith, c.min-count.ensures);
      longer = omega (arith, ap (λ (xs : List ℕ). length xs) c.in-Ok.ensures.items, length-append into (take count rest), length-take count rest, c.min-count.ensures);
      front = rw c.in-Ok.ensures.items (take-append_seam into (take count rest));
    }

pub returns-in-Ok-clause-bytes : goal.returns-in-Ok-clause-bytes
returns-in-Ok-clause-bytes c =
    let read = c.in-Some.ensures.lookup.0 in
    let rest = rest_is c.args.file.now c.in-Some.rest.now c.args.at read.2 in
    (omega (arith, c.min-count.ensures, read.3), c.in-Ok.ensures.items ∙ ap (λ (xs : List ℕ). c.args.into.now.items ++ take c.min-count.result xs) rest)

pub returns-in-Ok-clause-serves : goal.returns-in-Ok-clause-serves
returns-in-Ok-clause-serves c =
    serves_some c.args.file.now c.args.at c.args.most (length c.in-Some.rest.now) c.min-count.result c.in-Some.ensures.lookup.0.3 (some_left (length c.in-Some.rest.now) c.if-is_empty.ensures) c.min-count.ensures
