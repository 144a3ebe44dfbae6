-- Right rows rise by origin, and each is the row of its node.
use Rattle.std.proofs.Common.{◌≡◌, ◌<◌, ◌≤◌, ℕ, zero, suc, ◌+◌, Bool, true, false, cond, List, [], ◌∷◌, length, get_or, Option, Some, None, refl, sym, ap, ◌∙◌, subst, arith}
use Rattle.std.specs.Prelude.{nat_lt}
use Rattle.std.proofs.lemmas.Bool.{ltb-true}
use Rattle.bounded_table.proofs.RightRows.{right_rows}
use Rattle.bounded_table.specs.RightRow.{is_right_row}
use Rattle.bounded_table.specs.Table.{IsRow, TableRow}
use Rattle.road_network.specs.Net.{HasNode, IsLawful, Net, target}
use Rattle.trellis.specs.declared.steps.Origin.{Origin}
use Rattle.trellis.specs.declared.steps.Step.{Step}
use Rattle.trellis.specs.Steps.{IsOriginAt, IsRowFor}
use Rattle.cert_checker.specs.inside.RowPlaces.{HaveNoBadRow, IsRowPlace}
use Rattle.cert_checker.specs.Rows.{bad_row_from, first_bad_row, is_next_row}
use Rattle.cert_checker.proofs.RightRows.{both_true, next_within, no_row}

good_first : (t : Bool) (rest : Option ℕ) (k : ℕ) → cond t rest (Some k) ≡ None → (t ≡ true) × (rest ≡ None)
good_first true rest k h = (refl, h)
good_first false rest k h = absurd (cc)

-- the first row is right, and so are the others
parts : (net : Net) (bound least k : ℕ) (row : TableRow) (rows : List TableRow) → bad_row_from net bound least k (row ∷ rows) ≡ None
    → (is_next_row net bound least row ≡ true) × (bad_row_from net bound (row.origin + 1) (k + 1) rows ≡ None)
parts net bound least k row rows h = good_first (is_next_row net bound least row) (bad_row_from net bound (row.origin + 1) (k + 1) rows) k h

-- origins rise, so none is below its place
at_least : (net : Net) (bound least k : ℕ) (rows : List TableRow) (i : ℕ) (d : TableRow) → bad_row_from net bound least k rows ≡ None → i < length rows
    → least + i ≤ (get_or rows i d).origin
at_least net bound least k [] i d h lt = absurd (omega (arith, lt))
at_least net bound least k (row ∷ rows) zero d h lt = let within = next_within net bound least row (parts net bound least k row rows h).0 in omega (arith, within.0)
at_least net bound least k (row ∷ rows) (suc i) d h lt =
    let p = parts net bound least k row rows h in
    let rest = at_least net bound (row.origin + 1) (k + 1) rows i d p.1 (omega (arith, lt)) in
    omega (arith, rest, (next_within net bound least row p.0).0)

pub place_at_most : (net : Net) (rows : List TableRow) (i : ℕ) (d : TableRow) → HaveNoBadRow net rows → i < length rows → i ≤ (get_or rows i d).origin
place_at_most net rows i d right lt = let le = at_least net right.bound 0 0 rows i d right.are lt in omega (arith, le)

right_from : (net : Net) (bound least k : ℕ) (rows : List TableRow) (i : ℕ) (d : TableRow) → bad_row_from net bound least k rows ≡ None → i < length rows
    → is_right_row net bound (get_or rows i d) ≡ true
right_from net bound least k [] i d h lt = absurd (omega (arith, lt))
right_from net bound least k (row ∷ rows) zero d h lt = (both_true _ (is_right_row net bound row) (parts net bound least k row rows h).0).1
right_from net bound least k (row ∷ rows) (suc i) d h lt =
    right_from net bound (row.origin + 1) (k + 1) rows i d (parts net bound least k row rows h).1 (omega (arith, lt))

pub right_node : (net : Net) (rows : List TableRow) (i : ℕ) (d : TableRow) → HaveNoBadRow net rows → i < length rows → HasNode net (get_or rows i d).origin
right_node net rows i d right lt =
    let origin = (get_or rows i d).origin in
    ltb-true origin (length net.nodes) (both_true (nat_lt origin (length net.nodes)) _ (right_from net right.bound 0 0 rows i d right.are lt)).0

-- the row at the place of node v is the row of v
pub row_at_place : (net : Net) (bound : ℕ) (rows : List TableRow) (v place : ℕ) (d : TableRow) → IsLawful net → first_bad_row net bound rows ≡ None → IsRowPlace rows v place
    → IsRow net bound v (get_or rows place d)
row_at_place net bound rows v place d lawful right at =
    subst (λ (s : ℕ). IsRow net bound s (get_or rows place d)) (at.origin d)
    ((right_rows net bound (get_or rows place d) lawful).0 (right_from net bound 0 0 rows place d right at.below)).own

-- the row at the place of the node of a candidate is the row that its ways want
pub row_for : (s : Step) (rank v place : ℕ) (o : Origin) (rows : List TableRow) (row : TableRow) → IsLawful s.net.now
    → first_bad_row s.net.now s.params.now.bound rows ≡ None → IsOriginAt s rank o → v ≡ target o.step.now.net.now o.candidate.edge.0 → IsRowPlace rows v place
    → get_or rows place no_row ≡ row → IsRowFor o row
row_for s rank v place o rows row lawful right at node there is =
    let node_is : v ≡ target s.net.now o.candidate.edge.0 = node ∙ ap (λ (t : Step). target t.net.now o.candidate.edge.0) at.step_is in
    let own = row_at_place s.net.now s.params.now.bound rows v place no_row lawful right there in
    subst (λ (t : Step). IsRow t.net.now t.params.now.bound (target t.net.now o.candidate.edge.0) row) (sym at.step_is)
    (subst (λ (r : TableRow). IsRow s.net.now s.params.now.bound (target s.net.now o.candidate.edge.0) r) is
    (subst (λ (u : ℕ). IsRow s.net.now s.params.now.bound u (get_or rows place no_row)) node_is own))
