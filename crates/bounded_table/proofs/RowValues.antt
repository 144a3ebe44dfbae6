-- The value `row_of` is the row.
use Rattle.std.proofs.Common.{◌≡◌, ◌≢◌, ◌↔◌, ℕ, zero, suc, ◌+◌, ◌<◌, ◌≤◌, ◌⊎◌, ◌==◌, Bool, true, false, inl, inr, List, [], ◌∷◌, ◌++◌, length, Option, Some, None, refl, sym, ap, subst, ◌∙◌, arith}
use mathlib.Core.Path.{fun_ext}
use Rattle.std.proofs.lemmas.Bool.{and_parts, and_from, cases_eq, cases_lt, cases_Bool, eqb-true, eq-eqb, false≢true}
use Rattle.std.proofs.lemmas.Bool.Decides.{eqb_tells}
use Rattle.std.proofs.lemmas.Option.{same_Some}
use Rattle.road_network.specs.Net.{Net, HasEdge, HasNode, IsLawful, source, target, span}
use Rattle.road_network.specs.declared.EdgeId.{EdgeId}
use Rattle.bounded_table.specs.declared.table_row.Label.{Label}
use Rattle.bounded_table.specs.declared.table_row.Entry.{Entry}
use Rattle.bounded_table.specs.Closed.{IsClosed, IsListedBy, IsReached, origin_label}
use Rattle.bounded_table.specs.RowValue.{entry_of}
use Rattle.bounded_table.specs.RowValue.{adds_up, arrives, entries_from, first_arriving, label_within, or_edge, or_label, row_of}
use Rattle.bounded_table.specs.Table.{IsRow, IsTable, RisesFrom, TableRow, label_in}
use Rattle.bounded_table.proofs.ClosedTables.{table_of_closed, none_some}
use Rattle.bounded_table.proofs.Entries.{no_label_below}
use Rattle.bounded_table.proofs.OneRow.{one_row}

-- what is first among the edges below k
abbrev IsFirst : (ℕ → Bool) → ℕ → Option EdgeId → Type 0
IsFirst test k None = (f : ℕ) → f < k → test f ≡ false
IsFirst test k (Some e) = (e.0 < k) × ((test e.0 ≡ true) × ((f : ℕ) → f < e.0 → test f ≡ false))

none_more : (test : ℕ → Bool) (k : ℕ) → IsFirst test k None → test k ≡ false → IsFirst test (suc k) None
none_more test k none not f lt = elim (cases_eq f k) [ inl same ↦ ap test same ∙ not | inr apart ↦ none f (omega arith) ]

first_step : (test : ℕ → Bool) (k : ℕ) (o : Option EdgeId) (b : Bool) → test k ≡ b → IsFirst test k o → IsFirst test (suc k) (or_edge o b k)
first_step test k (Some e) b is first = (omega (arith, first.0), first.1)
first_step test k None true is first = (omega arith, (is, first))
first_step test k None false is first = none_more test k first is

first_is : (n : Net) (table : ℕ → Option Label) (v d k : ℕ) → IsFirst (arrives n table v d) k (first_arriving n table v d k)
first_is n table v d zero = λ f lt. absurd (omega arith)
first_is n table v d (suc k) = first_step (arrives n table v d) k (first_arriving n table v d k) (arrives n table v d k) refl (first_is n table v d k)

-- an edge that arrives adds up from a listed node
record AddsUp (o : Option Label) (length d : ℕ) : Type 0 where
  label : Label
  is : o ≡ Some label
  sum : label.distance + length ≡ d

added_up : (o : Option Label) (length d : ℕ) → adds_up o length d ≡ true → AddsUp o length d
added_up None length d h = absurd (false≢true h)
added_up (Some l) length d h = record { label = l; is = refl; sum = eqb-true (l.distance + length) d h }

-- where a label within d comes from: it is the origin's, or was found at its distance by the first edge that arrives there
record IsNew (n : Net) (s v : ℕ) (l : Label) (d : ℕ) : Type 0 where
  level : ℕ
  low : level < d
  edge : EdgeId
  first : first_arriving n (label_within n s level) v (suc level) (length n.edges) ≡ Some edge
  distance : l.distance ≡ suc level
  last : l.last ≡ Some edge

record IsFoundAt (n : Net) (s v : ℕ) (l : Label) (d : ℕ) : Type 0 where
  here : label_within n s l.distance v ≡ Some l
  within : l.distance ≤ d
  by : ((v ≡ s) × (l ≡ origin_label)) ⊎ IsNew n s v l d

found_first : (n : Net) (s v : ℕ) (l : Label) → (if_s : (v == s) ≡ true) → origin_label ≡ l → IsFoundAt n s v l 0
found_first n s v l if_s is =
    let far : l.distance ≡ 0 = ap (λ (k : Label). k.distance) (sym is) in
    let at : label_within n s 0 v ≡ Some l = rw if_s (ap Some is) in
    record {
      here = ap (λ (k : ℕ). label_within n s k v) far ∙ at;
      within = omega (arith, far);
      by = inl (eqb-true v s if_s, sym is);
    }

found_later : (n : Net) (s v : ℕ) (l : Label) (d : ℕ) → IsFoundAt n s v l d → IsFoundAt n s v l (suc d)
found_later n s v l d f = record {
  here = f.here;
  within = omega (arith, f.within);
  by = elim f.by [
    | inl origin ↦ inl origin
    | inr new ↦ inr (record { level = new.level; low = omega (arith, new.low); edge = new.edge; first = new.first; distance = new.distance; last = new.last })
  ];
}

found_step : (n : Net) (s v : ℕ) (l : Label) (d : ℕ) → ((k : Label) → label_within n s d v ≡ Some k → IsFoundAt n s v k d) → (o : Option Label) → label_within n s d v ≡ o → (e : Option EdgeId) → first_arriving n (label_within n s d) v (suc d) (length n.edges) ≡ e → or_label o e (suc d) ≡ Some l → label_within n s (suc d) v ≡ Some l → IsFoundAt n s v l (suc d)
found_step n s v l d before (Some k) was e first is at = found_later n s v l d (before l (was ∙ is))
found_step n s v l d before None was None first is at = absurd (none_some refl is)
found_step n s v l d before None was (Some e) first is at =
    let same : record { distance = suc d; last = Some e } ≡ l = same_Some (record { distance = suc d; last = Some e }) l is in
    let far : l.distance ≡ suc d = ap (λ (k : Label). k.distance) (sym same) in
    record {
      here = ap (λ (k : ℕ). label_within n s k v) far ∙ at;
      within = omega (arith, far);
      by = inr (record { level = d; low = omega arith; edge = e; first = first; distance = far; last = ap (λ (k : Label). k.last) (sym same) });
    }

found_at : (n : Net) (s v : ℕ) (l : Label) (d : ℕ) → label_within n s d v ≡ Some l → IsFoundAt n s v l d
found_at n s v l zero at =
    elim (cases_Bool (v == s)) [
      | inl is ↦ found_first n s v l is (same_Some origin_label l (rw is at at))
      | inr isnt ↦ absurd (none_some refl (rw isnt at at))
    ]
found_at n s v l (suc d) at = found_step n s v l d (λ k h. found_at n s v k d h) (label_within n s d v) refl (first_arriving n (label_within n s d) v (suc d) (length n.edges)) refl at at

-- a label stays
stays : (n : Net) (s v : ℕ) (l : Label) (d : ℕ) → label_within n s d v ≡ Some l → (m : ℕ) → d ≤ m → label_within n s m v ≡ Some l
stays n s v l d at zero le = let e : zero ≡ d = omega arith in ap (λ (k : ℕ). label_within n s k v) e ∙ at
stays n s v l d at (suc m) le =
    elim (cases_lt m d) [
      | inl lt ↦ let e : suc m ≡ d = omega arith in ap (λ (k : ℕ). label_within n s k v) e ∙ at
      | inr ge ↦ ap (λ (o : Option Label). or_label o (first_arriving n (label_within n s m) v (suc m) (length n.edges)) (suc m)) (stays n s v l d at m ge)
    ]

-- at the distance of an edge that arrives its end is listed no worse
listed_at : (n : Net) (s v e d : ℕ) → HasEdge n e → arrives n (label_within n s d) v (suc d) e ≡ true → (o : Option Label) → label_within n s d v ≡ o → (f : Option EdgeId) → first_arriving n (label_within n s d) v (suc d) (length n.edges) ≡ f → IsListedBy (label_within n s (suc d)) v e (suc d)
listed_at n s v e d has arrives (Some k) was f first = record {
  label = k;
  listed = stays n s v k d was (suc d) (omega arith);
  no_worse = let f = found_at n s v k d was in inl (omega (arith, f.within));
}
listed_at n s v e d has arrives None was None first =
    let is = first_is n (label_within n s d) v (suc d) (length n.edges) in
    let none = rw first at is in
    absurd (false≢true (sym (none e has) ∙ arrives))
listed_at n s v e d has arrives None was (Some f) first =
    let is = first_is n (label_within n s d) v (suc d) (length n.edges) in
    let found = rw first at is in
    record {
      label = record { distance = suc d; last = Some f };
      listed = ap (λ (o : Option Label). or_label o (first_arriving n (label_within n s d) v (suc d) (length n.edges)) (suc d)) was ∙ ap (λ (x : Option EdgeId). or_label None x (suc d)) first;
      no_worse = inr (f, refl, refl, elim (cases_lt e f.0) [ inl lt ↦ absurd (false≢true (sym (found.1.1 e lt) ∙ arrives)) | inr ge ↦ ge ]);
    }

reached_new : (n : Net) (bound s v : ℕ) (l : Label) → IsNew n s v l bound → IsReached n (label_within n s bound) v l
reached_new n bound s v l new =
    let table : ℕ → Option Label = label_within n s new.level in
    let is = first_is n table v (suc new.level) (length n.edges) in
    let found = rw new.first at is in
    let e : ℕ = new.edge.0 in
    let parts = and_parts (target n e == v) (adds_up (table (source n e)) (span n e) (suc new.level)) found.1.0 in
    let up : AddsUp (table (source n e)) (span n e) (suc new.level) = added_up (table (source n e)) (span n e) (suc new.level) parts.1 in
    record {
      edge = e;
      has = found.0;
      ends = eqb-true (target n e) v parts.0;
      before = up.label;
      listed = stays n s (source n e) up.label new.level up.is bound (omega (arith, new.low));
      distance = up.sum ∙ sym new.distance;
      last = new.last;
    }

relaxed_all : (n : Net) (bound s v : ℕ) (l : Label) (e : ℕ) → IsLawful n → label_within n s bound v ≡ Some l → HasEdge n e → source n e ≡ v → (m : ℕ) → l.distance + span n e ≡ suc m → suc m ≤ bound → IsListedBy (label_within n s bound) (target n e) e (suc m)
relaxed_all n bound s v l e lawful at has from m sum short =
    let f : IsFoundAt n s v l bound = found_at n s v l bound at in
    let early : l.distance ≤ m = omega (arith, lawful.not_empty e has) in
    let there : label_within n s m (source n e) ≡ Some l = ap (label_within n s m) from ∙ stays n s v l l.distance f.here m early in
    let adds : adds_up (label_within n s m (source n e)) (span n e) (suc m) ≡ true = ap (λ (o : Option Label). adds_up o (span n e) (suc m)) there ∙ eq-eqb (l.distance + span n e) (suc m) sum in
    let arrives : arrives n (label_within n s m) (target n e) (suc m) e ≡ true = and_from (target n e == target n e) (adds_up (label_within n s m (source n e)) (span n e) (suc m)) (eq-eqb (target n e) (target n e) refl) adds in
    let by = listed_at n s (target n e) e m has arrives (label_within n s m (target n e)) refl (first_arriving n (label_within n s m) (target n e) (suc m) (length n.edges)) refl in
    record { label = by.label; listed = stays n s (target n e) by.label (suc m) by.listed bound short; no_worse = by.no_worse }

one_before : (k : ℕ) → 1 ≤ k → (m : ℕ) × (k ≡ suc m)
one_before zero le = absurd (omega arith)
one_before (suc k) le = (k, refl)

-- the labels within a bound are closed
closed : (n : Net) (bound s : ℕ) → IsLawful n → IsClosed n bound s (label_within n s bound)
closed n bound s lawful =
    let origin : label_within n s 0 s ≡ Some origin_label = rw (eq-eqb s s refl) refl in
    record {
      origin = stays n s s origin_label 0 origin bound (omega arith);
      closed = λ v l at.
          let f : IsFoundAt n s v l bound = found_at n s v l bound at in
          record {
            within = f.within;
            reached = λ apart. elim f.by [ inl same ↦ absurd (apart same.0) | inr new ↦ reached_new n bound s v l new ];
            relaxed = λ e has from short.
                let one : (m : ℕ) × (l.distance + span n e ≡ suc m) = one_before (l.distance + span n e) (omega (arith, lawful.not_empty e has)) in
                subst (λ (k : ℕ). IsListedBy (label_within n s bound) (target n e) e k) (sym one.1) (relaxed_all n bound s v l e lawful at has from one.0 one.1 (omega (arith, one.1)));
          };
    }

-- the entries of a table rise, and list what it lists
entry_rises : (v : ℕ) (o : Option Label) (rest : List Entry) → RisesFrom (v + 1) rest → RisesFrom v (entry_of v o ++ rest)
entry_rises v None [] rises = tt
entry_rises v None (x ∷ rest) rises = (omega (arith, rises.0), rises.1)
entry_rises v (Some l) rest rises = (omega arith, rises)

entries_rise : (table : ℕ → Option Label) (v k : ℕ) → RisesFrom v (entries_from table v k)
entries_rise table v zero = tt
entries_rise table v (suc k) = entry_rises v (table v) (entries_from table (v + 1) k) (entries_rise table (v + 1) k)

label_front : (v : ℕ) (o : Option Label) (rest : List Entry) → label_in rest v ≡ None → label_in (entry_of v o ++ rest) v ≡ o
label_front v None rest none = none
label_front v (Some l) rest none = elim (eqb_tells v v) [ inl t ↦ rw t.0 refl | inr t ↦ absurd (t.1 refl) ]

label_behind : (v w : ℕ) (o : Option Label) (rest : List Entry) → v ≢ w → label_in (entry_of v o ++ rest) w ≡ label_in rest w
label_behind v w None rest apart = refl
label_behind v w (Some l) rest apart = elim (eqb_tells v w) [ inl t ↦ absurd (apart t.1) | inr t ↦ rw t.0 refl ]

entries_label : (table : ℕ → Option Label) (v k w : ℕ) → v ≤ w → w < v + k → label_in (entries_from table v k) w ≡ table w
entries_label table v zero w from to = absurd (omega arith)
entries_label table v (suc k) w from to =
    let rest : List Entry = entries_from table (v + 1) k in
    elim (cases_eq v w) [
      | inl same ↦
          let none : label_in rest v ≡ None = no_label_below (v + 1) rest (entries_rise table (v + 1) k) v (omega arith) in
          subst (λ (x : ℕ). label_in (entry_of v (table v) ++ rest) x ≡ table x) same (label_front v (table v) rest none)
      | inr apart ↦ label_behind v w (table v) rest apart ∙ entries_label table (v + 1) k w (omega arith) (omega arith)
    ]

entries_end : (table : ℕ → Option Label) (v k w : ℕ) → v + k ≤ w → label_in (entries_from table v k) w ≡ None
entries_end table v zero w from = refl
entries_end table v (suc k) w from = label_behind v w (table v) (entries_from table (v + 1) k) (λ same. omega arith) ∙ entries_end table (v + 1) k w (omega arith)

-- no node is labelled that the network does not have
none_beyond : (n : Net) (bound s v : ℕ) → IsLawful n → HasNode n s → length n.nodes ≤ v → (o : Option Label) → label_within n s bound v ≡ o → None ≡ o
none_beyond n bound s v lawful has past None at = refl
none_beyond n bound s v lawful has past (Some l) at =
    absurd (elim (found_at n s v l bound at).by [
      | inl origin ↦ omega (arith, origin.0)
      | inr new ↦
          let r : IsReached n (label_within n s bound) v l = reached_new n bound s v l new in
          omega (arith, r.ends, lawful.targets r.edge r.has)
    ])

same_labels : (n : Net) (bound s v : ℕ) → IsLawful n → HasNode n s → label_in (row_of n bound s).entries v ≡ label_within n s bound v
same_labels n bound s v lawful has =
    let table : ℕ → Option Label = label_within n s bound in
    elim (cases_lt v (length n.nodes)) [
      | inl lt ↦ entries_label table 0 (length n.nodes) v (omega arith) (omega arith)
      | inr past ↦ entries_end table 0 (length n.nodes) v (omega arith) ∙ none_beyond n bound s v lawful has past (table v) refl
    ]

pub row_of_is : (n : Net) (bound s : ℕ) → IsLawful n → HasNode n s → IsRow n bound s (row_of n bound s)
row_of_is n bound s lawful has =
    let same : label_within n s bound ≡ label_in (row_of n bound s).entries = fun_ext (λ v. sym (same_labels n bound s v lawful has)) in
    record {
      origin = refl;
      rising = entries_rise (label_within n s bound) 0 (length n.nodes);
      table = subst (λ (t : ℕ → Option Label). IsTable n bound s t) same (table_of_closed n bound s (label_within n s bound) lawful (closed n bound s lawful));
    }

pub row_values : (n : Net) (bound s : ℕ) (row : TableRow) → IsLawful n → HasNode n s → IsRow n bound s row ↔ (row ≡ row_of n bound s)
row_values n bound s row lawful has = (
  λ is. one_row n bound s row (row_of n bound s) is (row_of_is n bound s lawful has),
  λ same. subst (λ (k : TableRow). IsRow n bound s k) (sym same) (row_of_is n bound s lawful has),
)
