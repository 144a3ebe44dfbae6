-- There is one table, and one row.
use Rattle.std.proofs.lemmas.Bool.{cases_order}
use Rattle.std.proofs.Common.{◌≡◌, ◌≢◌, ℕ, ◌+◌, ◌≤◌, inl, inr, List, [], ◌∷◌, Option, Some, refl, sym, ap, subst, ◌∙◌, arith}
use Rattle.std.proofs.lemmas.Bool.Decides.{eqb_tells}
use Rattle.std.proofs.lemmas.Option.{same_Some}
use Rattle.road_network.specs.Net.{Net}
use Rattle.road_network.specs.Walk.{walk_length}
use Rattle.road_network.proofs.Least.{same_least}
use Rattle.bounded_table.specs.declared.table_row.Label.{Label}
use Rattle.bounded_table.specs.declared.table_row.Entry.{Entry}
use Rattle.bounded_table.specs.Table.{IsTable, IsRow, IsLabelOf, RisesFrom, TableRow, label_in, label_of, last_edge}
use Rattle.bounded_table.proofs.ClosedTables.{Found, found, same_label, none_some}
use Rattle.bounded_table.proofs.Entries.{cases_Option, no_label_below}

label_same : (n : Net) (b bound s v : ℕ) (l m : Label) → IsLabelOf n b s v l → IsLabelOf n bound s v m → l ≡ m
label_same n b bound s v l m h k =
    let one : h.walk ≡ k.walk = same_least n s v h.walk k.walk h.least k.least in
    same_label l m (h.distance ∙ (ap (walk_length n) one ∙ sym k.distance)) (h.last ∙ (ap last_edge one ∙ sym k.last))

-- what one table lists, the other lists, which reaches as far or further
pub listed_too : (n : Net) (b bound s : ℕ) (t u : ℕ → Option Label) → b ≤ bound → IsTable n b s t → IsTable n bound s u → (v : ℕ) (l : Label) → t v ≡ Some l → u v ≡ Some l
listed_too n b bound s t u further ti ui v l h =
    let is : IsLabelOf n b s v l = ti.listed v l h in
    let short : walk_length n is.walk ≤ bound = omega (arith, is.distance, is.within, further) in
    let f : Found u v = found u v (u v) refl (ui.reached v is.walk is.least.walk short) in
    f.listed ∙ ap Some (label_same n bound b s v f.label l (ui.listed v f.label f.listed) is)

pub one_table : (n : Net) (bound s : ℕ) (t u : ℕ → Option Label) → IsTable n bound s t → IsTable n bound s u → (v : ℕ) → t v ≡ u v
one_table n bound s t u ti ui v =
    elim (cases_Option (t v)) [
      | inr p ↦ p.1 ∙ sym (listed_too n bound bound s t u (omega arith) ti ui v p.0 p.1)
      | inl none ↦
          elim (cases_Option (u v)) [
            | inl too ↦ none ∙ sym too
            | inr p ↦ listed_too n bound bound s u t (omega arith) ui ti v p.0 p.1 ∙ sym p.1
          ]
    ]

-- rows that list the same at each node are the same
at_front : (x : Entry) (row : List Entry) → label_in (x ∷ row) x.node.0 ≡ Some (label_of x)
at_front x row = elim (eqb_tells x.node.0 x.node.0) [ inl t ↦ rw t.0 refl | inr t ↦ absurd (t.1 refl) ]

behind : (x : Entry) (row : List Entry) (v : ℕ) → x.node.0 ≢ v → label_in (x ∷ row) v ≡ label_in row v
behind x row v apart = elim (eqb_tells x.node.0 v) [ inl t ↦ absurd (apart t.1) | inr t ↦ rw t.0 refl ]

same_entry : (x y : Entry) → x.node.0 ≡ y.node.0 → label_of x ≡ label_of y → x ≡ y
same_entry x y p q =
    ap (λ (k : ℕ). record { node = record { 0 = k }; distance = x.distance; last = x.last }) p ∙ ap (λ (k : Label). record { node = y.node; distance = k.distance; last = k.last }) q

same_rows : (b : ℕ) (xs ys : List Entry) → RisesFrom b xs → RisesFrom b ys → ((v : ℕ) → label_in xs v ≡ label_in ys v) → xs ≡ ys
same_rows b [] [] r q same = refl
same_rows b [] (y ∷ ys) r q same = absurd (none_some (sym (same y.node.0)) (at_front y ys))
same_rows b (x ∷ xs) [] r q same = absurd (none_some (same x.node.0) (at_front x xs))
same_rows b (x ∷ xs) (y ∷ ys) r q same =
    elim (cases_order x.node.0 y.node.0) [
      | inl e ↦
          let front : x ≡ y = same_entry x y e (same_Some (label_of x) (label_of y) (sym (at_front x xs) ∙ (same x.node.0 ∙ (ap (label_in (y ∷ ys)) e ∙ at_front y ys)))) in
          let rise : RisesFrom (x.node.0 + 1) ys = subst (λ (k : ℕ). RisesFrom (k + 1) ys) (sym e) q.1 in
          let rest : xs ≡ ys = same_rows (x.node.0 + 1) xs ys r.1 rise (λ v.
          elim (eqb_tells x.node.0 v) [
            | inl t ↦ no_label_below (x.node.0 + 1) xs r.1 v (omega (arith, t.1)) ∙ sym (no_label_below (x.node.0 + 1) ys rise v (omega (arith, t.1)))
            | inr t ↦ sym (behind x xs v t.1) ∙ (same v ∙ behind y ys v (λ h. t.1 (e ∙ h)))
          ]) in
          ap (λ (k : Entry). k ∷ xs) front ∙ ap (λ (k : List Entry). y ∷ k) rest
      | inr o ↦ elim o [
        | inl lt ↦ absurd (none_some (no_label_below y.node.0 (y ∷ ys) (omega arith, q.1) x.node.0 lt) (sym (same x.node.0) ∙ at_front x xs))
        | inr gt ↦ absurd (none_some (no_label_below x.node.0 (x ∷ xs) (omega arith, r.1) y.node.0 gt) (same y.node.0 ∙ at_front y ys))
      ]
    ]

pub one_row : (n : Net) (bound s : ℕ) (row other : TableRow) → IsRow n bound s row → IsRow n bound s other → row ≡ other
one_row n bound s row other h k =
    let same : row.entries ≡ other.entries = same_rows 0 row.entries other.entries h.rising k.rising (one_table n bound s (label_in row.entries) (label_in other.entries) h.table k.table) in
    ap (λ (q : ℕ). record { origin = q; entries = row.entries }) (h.origin ∙ sym k.origin) ∙ ap (λ (q : List Entry). record { origin = other.origin; entries = q }) same
