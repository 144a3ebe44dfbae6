-- A row that meets the rules is closed exactly where its edges are relaxed, and all labels but the origin's are given.
use Rattle.std.proofs.Common.{◌≡◌, ◌≢◌, ◌↔◌, ℕ, ◌+◌, ◌≤◌, Bool, true, false, ◌&&◌, ◌==◌, nat_lt, cond, inl, inr, List, [], ◌∷◌, length, slice_index_or, Option, Some, None, refl, sym, ap, subst, ◌∙◌, arith}
use Rattle.std.proofs.lemmas.Bool.{cases_Bool, and_parts, false≢true, lt-ltb, ltb-true, eqb-true}
use Rattle.std.proofs.lemmas.Bool.Decides.{eqb_tells}
use Rattle.std.proofs.lemmas.List.Elements.{All-from_recursion, recursion_from_All}
use Rattle.std.proofs.lemmas.List.Sums.{sum_by-cons}
use Rattle.std.proofs.lemmas.Option.{same_Some}
use Rattle.std.specs.List.{All, AllByRecursion, count_by, sum_by}
use Rattle.std.specs.Option.{option_map}
use Rattle.road_network.specs.Net.{Net, HasNode, IsLawful, source, target}
use Rattle.road_network.specs.declared.EdgeId.{EdgeId}
use Rattle.bounded_table.specs.declared.table_row.Entry.{Entry}
use Rattle.bounded_table.specs.declared.table_row.Label.{Label}
use Rattle.bounded_table.specs.Table.{RisesFrom, TableRow, entry_in, label_in, label_of}
use Rattle.bounded_table.specs.Closed.{IsClosedAt, IsReached, origin_label}
use Rattle.bounded_table.specs.inside.Given.{IsGiven, IsRelaxedAt}
use Rattle.bounded_table.specs.RowRules.{MeetsRowRules}
use Rattle.bounded_table.proofs.GivenLabels.{Gives, More, edge_gives, gives_from, gives_label_of, gives_where, given_is_taken, is_given, is_given_by, more_at}
use Rattle.bounded_table.proofs.RowChecks.{entry_at}

-- numbers of at most 1 that add up to how many they are

sum_few : (h : Entry → ℕ) (xs : List Entry) → AllByRecursion (λ y. h y ≤ 1) xs → sum_by h xs ≤ length xs
sum_few h [] few = omega arith
sum_few h (x ∷ xs) few = omega (arith, sum_by-cons h x xs, few.0, sum_few h xs few.1)

all_one : (h : Entry → ℕ) (xs : List Entry) → AllByRecursion (λ y. h y ≤ 1) xs → sum_by h xs ≡ length xs → AllByRecursion (λ y. h y ≡ 1) xs
all_one h [] few full = tt
all_one h (x ∷ xs) few full =
    let rest = sum_few h xs few.1 in
    let first = few.0 in
    let sum = sum_by-cons h x xs in
    (omega (arith, sum, first, rest, full), all_one h xs few.1 (omega (arith, sum, first, rest, full)))

sum_one : (h : Entry → ℕ) (xs : List Entry) → AllByRecursion (λ y. h y ≡ 1) xs → sum_by h xs ≡ length xs
sum_one h [] all = refl
sum_one h (x ∷ xs) all = omega (arith, sum_by-cons h x xs, all.0, sum_one h xs all.1)

-- a test that fails at the entry of node s passes at all others exactly where it passes at all but one
all_but : (has : Entry → Bool) (s : ℕ) (row : List Entry) (o : Entry) → RisesFrom 0 row → entry_in row s ≡ Some o → has o ≡ false → (count_by has row + 1 ≡ length row) ↔ All (λ y. y.node.0 ≢ s → has y ≡ true) row
all_but has s row o rising at not =
    let g : Entry → ℕ = λ y. cond (has y) 1 0 in
    let at_s : Entry → ℕ = λ y. cond (y.node.0 == s) 1 0 in
    let h : Entry → ℕ = λ y. g y + at_s y in
    let sum : sum_by h row ≡ count_by has row + 1 = more_at h g s 1 0 row rising
    (recursion_from_All (More h g s 1) row (λ k d lt. refl)) (λ none. absurd (let e : None ≡ Some o = sym none ∙ at in cc)) in
    let at_origin : (y : Entry) → entry_in row y.node.0 ≡ Some y → y.node.0 ≡ s → has y ≡ false = λ y there same. ap has (same_Some y o (sym there ∙ (ap (entry_in row) same ∙ at))) ∙ not in
    let few : All (λ y. h y ≤ 1) row = λ k d lt.
    let y : Entry = slice_index_or row k d in
    elim (eqb_tells y.node.0 s) [
      | inl t ↦
          let none : g y ≡ 0 = ap (λ (b : Bool). cond b 1 0) (at_origin y (entry_at 0 row rising k d lt) t.1) in
          let one : at_s y ≡ 1 = ap (λ (b : Bool). cond b 1 0) t.0 in
          omega (arith, none, one)
      | inr t ↦
          let none : at_s y ≡ 0 = ap (λ (b : Bool). cond b 1 0) t.0 in
          elim (cases_Bool (has y)) [
            | inl is ↦ let one : g y ≡ 1 = ap (λ (b : Bool). cond b 1 0) is in omega (arith, none, one)
            | inr isnt ↦ let nothing : g y ≡ 0 = ap (λ (b : Bool). cond b 1 0) isnt in omega (arith, none, nothing)
          ]
    ] in (
      λ full k d lt apart.
          let y : Entry = slice_index_or row k d in
          let all : All (λ x. h x ≡ 1) row = All-from_recursion (λ x. h x ≡ 1) row (all_one h row (recursion_from_All (λ x. h x ≤ 1) row few) (omega (arith, sum, full))) in
          let one : h y ≡ 1 = all k d lt in
          let none : at_s y ≡ 0 = elim (eqb_tells y.node.0 s) [ inl t ↦ absurd (apart t.1) | inr t ↦ ap (λ (b : Bool). cond b 1 0) t.0 ] in
          elim (cases_Bool (has y)) [
            | inl is ↦ is
            | inr isnt ↦ let nothing : g y ≡ 0 = ap (λ (b : Bool). cond b 1 0) isnt in absurd (omega (arith, one, none, nothing))
          ],
      λ all.
          let ones : All (λ x. h x ≡ 1) row = λ k d lt.
          let y : Entry = slice_index_or row k d in
          elim (eqb_tells y.node.0 s) [
            | inl t ↦
                let none : g y ≡ 0 = ap (λ (b : Bool). cond b 1 0) (at_origin y (entry_at 0 row rising k d lt) t.1) in
                let one : at_s y ≡ 1 = ap (λ (b : Bool). cond b 1 0) t.0 in
                omega (arith, none, one)
            | inr t ↦
                let none : at_s y ≡ 0 = ap (λ (b : Bool). cond b 1 0) t.0 in
                let one : g y ≡ 1 = ap (λ (b : Bool). cond b 1 0) (all k d lt t.1) in
                omega (arith, none, one)
          ] in
          omega (arith, sum, sum_one h row (recursion_from_All (λ x. h x ≡ 1) row ones)),
    )

-- what is given is reached

given_reached : (n : Net) (bound : ℕ) (row : List Entry) (y : Entry) (last : Option EdgeId) → entry_in row y.node.0 ≡ Some y → y.last ≡ last → is_given_by n bound row (length n.edges) y.node.0 last ≡ true → IsReached n (label_in row) y.node.0 (label_of y)
given_reached n bound row y None at ended h = absurd (false≢true h)
given_reached n bound row y (Some f) at ended h =
    let outer = and_parts (nat_lt f.0 (length n.edges)) (edge_gives n bound row f.0 && (target n f.0 == y.node.0)) h in
    let inner = and_parts (edge_gives n bound row f.0) (target n f.0 == y.node.0) outer.1 in
    let ends : target n f.0 ≡ y.node.0 = eqb-true (target n f.0) y.node.0 inner.1 in
    let by = gives_label_of n bound row f.0 (entry_in row (source n f.0)) inner.0 in
    let label = by.2.label in
    let here : label_in row (target n f.0) ≡ Some (label_of y) = ap (label_in row) ends ∙ ap (option_map label_of) at in
    let same : label.label ≡ label_of y = same_Some label.label (label_of y) (sym label.listed ∙ here) in
    record {
      edge = f.0;
      has = ltb-true f.0 (length n.edges) outer.0;
      ends = ends;
      before = label_of by.0;
      listed = ap (option_map label_of) by.1;
      distance = sym label.distance ∙ ap (λ (l : Label). l.distance) same;
      last = ended;
    }

-- and what is reached is given

entry_of_label : (o : Option Entry) (l : Label) → option_map label_of o ≡ Some l → (x : Entry) × (o ≡ Some x) × (label_of x ≡ l)
entry_of_label None l h = cc
entry_of_label (Some x) l h = (x, refl, same_Some (label_of x) l h)

reached_given : (n : Net) (bound : ℕ) (row : List Entry) (y : Entry) → entry_in row y.node.0 ≡ Some y → y.distance ≤ bound → (r : IsReached n (label_in row) y.node.0 (label_of y)) → is_given n bound row (length n.edges) y ≡ true
reached_given n bound row y at within r =
    let from = entry_of_label (entry_in row (source n r.edge)) r.before r.listed in
    let x : Entry = from.0 in
    let far : x.distance ≡ r.before.distance = ap (λ (l : Label). l.distance) from.2 in
    let by : Gives n bound (label_in row) x.distance r.edge = record {
      within = omega (arith, far, r.distance, within);
      label = record {
        label = label_of y;
        listed = ap (label_in row) r.ends ∙ ap (option_map label_of) at;
        distance = omega (arith, far, r.distance);
        last = r.last;
      };
    } in
    let gives : edge_gives n bound row r.edge ≡ true = gives_from n bound row x r.edge from.1 ∙ gives_where n bound (label_in row) x.distance r.edge by in
    let there : (target n r.edge == y.node.0) ≡ true = elim (eqb_tells (target n r.edge) y.node.0) [ inl t ↦ t.0 | inr t ↦ absurd (t.1 r.ends) ] in
    let inside : nat_lt r.edge (length n.edges) ≡ true = lt-ltb r.edge (length n.edges) r.has in
    ap (is_given_by n bound row (length n.edges) y.node.0) r.last ∙ (rw (inside, gives, there) refl)

pub closed_is : (n : Net) (bound : ℕ) (row : TableRow) → IsLawful n → MeetsRowRules row → HasNode n row.origin → IsGiven n bound row.entries ↔ All (λ x. IsClosedAt n bound row.origin (label_in row.entries) x.node.0 (label_of x)) row.entries
closed_is n bound row lawful rules has =
    let s : ℕ = row.origin in
    let entries : List Entry = row.entries in
    let table : ℕ → Option Label = label_in entries in
    let o = entry_of_label (entry_in entries s) origin_label rules.origin in
    let no_last : o.0.last ≡ None = ap (λ (l : Label). l.last) o.2 in
    let counts = all_but (is_given n bound entries (length n.edges)) s entries o.0 rules.rising o.1 (ap (is_given_by n bound entries (length n.edges) o.0.node.0) no_last) in
    let total = given_is_taken n bound entries rules.rising in (
      λ given.
          let all = counts.0 (omega (arith, given.all, total)) in
          λ k d lt.
          let x : Entry = slice_index_or entries k d in
          let at : entry_in entries x.node.0 ≡ Some x = entry_at 0 entries rules.rising k d lt in
          let seen : IsRelaxedAt n bound table x = given.each k d lt in
          let reached : x.node.0 ≢ s → IsReached n table x.node.0 (label_of x) = λ apart. given_reached n bound entries x x.last at refl (all k d lt apart) in
          record {
            within = seen.within;
            reached = reached;
            relaxed = seen.relaxed;
          },
      λ all.
          record {
            each = λ k d lt.
                let x : Entry = slice_index_or entries k d in
                let at : IsClosedAt n bound s table x.node.0 (label_of x) = all k d lt in
                record {
                  node = elim (eqb_tells x.node.0 s) [
                    | inl t ↦ rw t.1 has
                    | inr t ↦ let r : IsReached n table x.node.0 (label_of x) = at.reached t.1 in subst (HasNode n) r.ends (lawful.targets r.edge r.has)
                  ];
                  within = at.within;
                  relaxed = at.relaxed;
                };
            all = omega (
              arith,
              total,
              counts.1 (λ k d lt apart.
                  let x : Entry = slice_index_or entries k d in
                  let at : entry_in entries x.node.0 ≡ Some x = entry_at 0 entries rules.rising k d lt in
                  let is : IsClosedAt n bound s table x.node.0 (label_of x) = all k d lt in
                  let r : IsReached n table x.node.0 (label_of x) = is.reached apart in
                  reached_given n bound entries x at is.within r),
            );
          },
    )
