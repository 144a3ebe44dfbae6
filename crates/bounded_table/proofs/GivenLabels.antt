-- Each label that is reached by its last edge is given once: so all are reached where as many are given.
use Rattle.std.proofs.Common.{◌≡◌, ◌≢◌, ℕ, zero, suc, ◌+◌, ◌<◌, ◌≤◌, Bool, true, false, ◌&&◌, ◌==◌, nat_lt, nat_le, cond, inl, inr, List, [], ◌∷◌, length, slice_index_or, take, Option, Some, None, refl, sym, ap, subst, ◌∙◌, arith}
use Rattle.std.proofs.lemmas.Bool.{cases_Bool, cases_eq, and_parts, false_from_ne_true, false≢true, le-ltb, lt-ltb, leb-true, eqb-true}
use Rattle.std.proofs.lemmas.Bool.Decides.{eqb_tells, leb_tells, nat_tests}
use Rattle.std.proofs.lemmas.List.Elements.{recursion_from_All}
use Rattle.std.proofs.lemmas.List.Sums.{count_by-le-length, sum_by-cons, sum_by-take-le, sum_by_more, sum_by_push}
use Rattle.std.proofs.lemmas.Option.{same_Some}
use Rattle.std.specs.List.{AllByRecursion, count_by, sum_by}
use Rattle.std.specs.Option.{option_map}
use Rattle.road_network.specs.Net.{Net, source, target, span, leaving_below}
use Rattle.road_network.specs.declared.EdgeId.{EdgeId}
use Rattle.bounded_table.specs.declared.table_row.Entry.{Entry}
use Rattle.bounded_table.specs.declared.table_row.Label.{Label}
use Rattle.bounded_table.specs.Table.{RisesFrom, entry_in, label_in, label_of}
use Rattle.bounded_table.specs.inside.Given.{gives, given_by, is_edge, is_label_by}
use Rattle.bounded_table.proofs.Entries.{no_entry}
use Rattle.bounded_table.proofs.RowChecks.{entry_at}

-- sums over entries

same_sums : (f g : Entry → ℕ) (xs : List Entry) → AllByRecursion (λ x. f x ≡ g x) xs → sum_by f xs ≡ sum_by g xs
same_sums f g [] all = refl
same_sums f g (x ∷ xs) all = omega (arith, sum_by-cons f x xs, sum_by-cons g x xs, all.0, same_sums f g xs all.1)

-- f is g, and c more at the entry of node u
abbrev pub More : (Entry → ℕ) → (Entry → ℕ) → ℕ → ℕ → Entry → Type 0
More f g u c x = f x ≡ g x + cond (x.node.0 == u) c 0

none_more : (f g : Entry → ℕ) (u c b : ℕ) (xs : List Entry) → u < b → RisesFrom b xs → AllByRecursion (More f g u c) xs → sum_by f xs ≡ sum_by g xs
none_more f g u c b [] low rising all = refl
none_more f g u c b (x ∷ xs) low rising all =
    let first = rising.0 in
    let rest = none_more f g u c (x.node.0 + 1) xs (omega arith) rising.1 all.1 in
    elim (eqb_tells x.node.0 u) [
      | inl t ↦ absurd (omega (arith, t.1))
      | inr t ↦
          let same : f x ≡ g x + 0 = rw t.0 at all.0 in
          omega (arith, sum_by-cons f x xs, sum_by-cons g x xs, same, rest)
    ]

pub more_at : (f g : Entry → ℕ) (u c b : ℕ) (xs : List Entry) → RisesFrom b xs → AllByRecursion (More f g u c) xs → (entry_in xs u ≡ None → c ≡ 0) → sum_by f xs ≡ sum_by g xs + c
more_at f g u c b [] rising all none = let same : c ≡ 0 = none refl in omega (arith, same)
more_at f g u c b (x ∷ xs) rising all none =
    elim (eqb_tells x.node.0 u) [
      | inl t ↦
          let more : f x ≡ g x + c = rw t.0 at all.0 in
          let rest = none_more f g u c (x.node.0 + 1) xs (omega (arith, t.1)) rising.1 all.1 in
          omega (arith, sum_by-cons f x xs, sum_by-cons g x xs, more, rest)
      | inr t ↦
          let same : f x ≡ g x + 0 = rw t.0 at all.0 in
          let rest = more_at f g u c (x.node.0 + 1) xs rising.1 all.1 (rw t.0 at none) in
          omega (arith, sum_by-cons f x xs, sum_by-cons g x xs, same, rest)
    ]

-- the labels that edges below k give, counted at the edges

abbrev pub gives_by : Net → ℕ → List Entry → Entry → ℕ → Bool
gives_by n bound row x e = gives n bound (label_in row) x.distance e

abbrev given_below : Net → ℕ → List Entry → ℕ → Entry → ℕ
given_below n bound row k x = count_by (λ (e : EdgeId). gives_by n bound row x e.0) (leaving_below n x.node.0 k)

given_more : (n : Net) (bound : ℕ) (row : List Entry) (k : ℕ) (x : Entry) → given_below n bound row (suc k) x ≡ given_below n bound row k x + cond (source n k == x.node.0) (cond (gives_by n bound row x k) 1 0) 0
given_more n bound row k x =
    elim (eqb_tells (source n k) x.node.0) [
      | inl t ↦ rw t.0 (sum_by_push (λ (e : EdgeId). cond (gives_by n bound row x e.0) 1 0) (leaving_below n x.node.0 k) (record { 0 = k }))
      | inr t ↦ rw t.0 (let none : given_below n bound row k x ≡ given_below n bound row k x + 0 = omega arith in none)
    ]

-- and at the entries that have those labels

abbrev pub edge_gives_from : Net → ℕ → List Entry → Option Entry → ℕ → Bool
edge_gives_from n bound row None e = false
edge_gives_from n bound row (Some x) e = gives_by n bound row x e

abbrev pub edge_gives : Net → ℕ → List Entry → ℕ → Bool
edge_gives n bound row e = edge_gives_from n bound row (entry_in row (source n e)) e

abbrev pub is_given_by : Net → ℕ → List Entry → ℕ → ℕ → Option EdgeId → Bool
is_given_by n bound row k v None = false
is_given_by n bound row k v (Some e) = nat_lt e.0 k && (edge_gives n bound row e.0 && (target n e.0 == v))

abbrev pub is_given : Net → ℕ → List Entry → ℕ → Entry → Bool
is_given n bound row k y = is_given_by n bound row k y.node.0 y.last

-- what the tests tell

pub record IsGivenLabel (table : ℕ → Option Label) (v d e : ℕ) : Type 0 where
  pub label : Label
  pub listed : table v ≡ Some label
  pub distance : label.distance ≡ d
  pub last : label.last ≡ Some (record { 0 = e })

is_edge_tells : (last : Option EdgeId) (e : ℕ) → is_edge last e ≡ true → last ≡ Some (record { 0 = e })
is_edge_tells None e h = absurd (false≢true h)
is_edge_tells (Some f) e h = ap (λ (k : ℕ). Some (record { 0 = k })) (eqb-true f.0 e h)

pub label_tells : (table : ℕ → Option Label) (v d e : ℕ) (o : Option Label) → table v ≡ o → is_label_by o d e ≡ true → IsGivenLabel table v d e
label_tells table v d e None at h = absurd (false≢true h)
label_tells table v d e (Some l) at h =
    let parts = and_parts (l.distance == d) (is_edge l.last e) h in
    record { label = l; listed = at; distance = eqb-true l.distance d parts.0; last = is_edge_tells l.last e parts.1 }

pub record Gives (n : Net) (bound : ℕ) (table : ℕ → Option Label) (d e : ℕ) : Type 0 where
  pub within : d + span n e ≤ bound
  pub label : IsGivenLabel table (target n e) (d + span n e) e

gives_tells : (n : Net) (bound : ℕ) (table : ℕ → Option Label) (d e : ℕ) → gives n bound table d e ≡ true → Gives n bound table d e
gives_tells n bound table d e h =
    let inner = and_parts (nat_le (d + span n e) bound) (is_label_by (table (target n e)) (d + span n e) e) h in
    record {
      within = leb-true (d + span n e) bound inner.0;
      label = label_tells table (target n e) (d + span n e) e (table (target n e)) refl inner.1;
    }

is_edge_same : (last : Option EdgeId) (e : ℕ) → last ≡ Some (record { 0 = e }) → is_edge last e ≡ true
is_edge_same last e h = rw h (elim (eqb_tells e e) [ inl t ↦ t.0 | inr t ↦ absurd (t.1 refl) ])

pub gives_where : (n : Net) (bound : ℕ) (table : ℕ → Option Label) (d e : ℕ) → Gives n bound table d e → gives n bound table d e ≡ true
gives_where n bound table d e g =
    let within : nat_le (d + span n e) bound ≡ true = elim (leb_tells (d + span n e) bound) [ inl t ↦ t.0 | inr t ↦ absurd (omega (arith, t.1, g.within)) ] in
    let far : (g.label.label.distance == d + span n e) ≡ true = elim (eqb_tells g.label.label.distance (d + span n e)) [ inl t ↦ t.0 | inr t ↦ absurd (t.1 g.label.distance) ] in
    let by : is_edge g.label.label.last e ≡ true = is_edge_same g.label.label.last e g.label.last in
    rw (within, g.label.listed, far, by) refl

-- one more edge

pub gives_from : (n : Net) (bound : ℕ) (row : List Entry) (x : Entry) (e : ℕ) → entry_in row (source n e) ≡ Some x → edge_gives n bound row e ≡ gives_by n bound row x e
gives_from n bound row x e at = ap (λ (o : Option Entry). edge_gives_from n bound row o e) at

more_given : (n : Net) (bound : ℕ) (row : List Entry) (k : ℕ) (x : Entry) → entry_in row x.node.0 ≡ Some x → More (given_below n bound row (suc k)) (given_below n bound row k) (source n k) (cond (edge_gives n bound row k) 1 0) x
more_given n bound row k x at =
    let had : ℕ = given_below n bound row k x in
    let new : ℕ = cond (gives_by n bound row x k) 1 0 in
    let more : given_below n bound row (suc k) x ≡ had + cond (source n k == x.node.0) new 0 = given_more n bound row k x in
    elim (eqb_tells x.node.0 (source n k)) [
      | inl s ↦ elim (eqb_tells (source n k) x.node.0) [
        | inl t ↦
            let same : cond (edge_gives n bound row k) 1 0 ≡ new = ap (λ (b : Bool). cond b 1 0) (gives_from n bound row x k (ap (entry_in row) t.1 ∙ at)) in
            more ∙ ap (λ (b : Bool). had + cond b new 0) t.0 ∙ sym (ap (λ (b : Bool). had + cond b (cond (edge_gives n bound row k) 1 0) 0) s.0 ∙ ap (λ (c : ℕ). had + c) same)
        | inr t ↦ absurd (t.1 (sym s.1))
      ]
      | inr s ↦ elim (eqb_tells (source n k) x.node.0) [
        | inl t ↦ absurd (s.1 (sym t.1))
        | inr t ↦ more ∙ ap (λ (b : Bool). had + cond b new 0) t.0 ∙ sym (ap (λ (b : Bool). had + cond b (cond (edge_gives n bound row k) 1 0) 0) s.0)
      ]
    ]

sum_given : (n : Net) (bound : ℕ) (row : List Entry) (k : ℕ) → RisesFrom 0 row → sum_by (given_below n bound row (suc k)) row ≡ sum_by (given_below n bound row k) row + cond (edge_gives n bound row k) 1 0
sum_given n bound row k rising =
    let P : Entry → Type 0 = More (given_below n bound row (suc k)) (given_below n bound row k) (source n k) (cond (edge_gives n bound row k) 1 0) in
    more_at (given_below n bound row (suc k)) (given_below n bound row k) (source n k) (cond (edge_gives n bound row k) 1 0) 0 row rising
    (recursion_from_All P row (λ i d lt. more_given n bound row k (slice_index_or row i d) (entry_at 0 row rising i d lt)))
    (λ none. ap (λ (o : Option Entry). cond (edge_gives_from n bound row o k) 1 0) none)

-- the entry of the node where edge k ends has that label where edge k gives it
Fits : Net → ℕ → List Entry → ℕ → ℕ → Option EdgeId → Type 0
Fits n bound row k v last = edge_gives n bound row k ≡ true → target n k ≡ v → is_edge last k ≡ true

is_given_suc : (n : Net) (bound : ℕ) (row : List Entry) (k v : ℕ) (f : EdgeId) → f.0 ≢ k → is_given_by n bound row (suc k) v (Some f) ≡ is_given_by n bound row k v (Some f)
is_given_suc n bound row k v f apart =
    let same : nat_lt f.0 (suc k) ≡ nat_lt f.0 k = grind (arith, nat_tests) in
    ap (λ (b : Bool). b && (edge_gives n bound row f.0 && (target n f.0 == v))) same

is_given_here : (n : Net) (bound : ℕ) (row : List Entry) (k v : ℕ) → is_given_by n bound row k v (Some (record { 0 = k })) ≡ false
is_given_here n bound row k v = ap (λ (b : Bool). b && (edge_gives n bound row k && (target n k == v))) (le-ltb k k (omega arith))

is_given_new : (n : Net) (bound : ℕ) (row : List Entry) (k v : ℕ) → is_given_by n bound row (suc k) v (Some (record { 0 = k })) ≡ (edge_gives n bound row k && (target n k == v))
is_given_new n bound row k v = ap (λ (b : Bool). b && (edge_gives n bound row k && (target n k == v))) (lt-ltb k (suc k) (omega arith))

abbrev taken : Net → ℕ → List Entry → ℕ → ℕ → Option EdgeId → ℕ
taken n bound row k v last = cond (is_given_by n bound row k v last) 1 0

-- where edge k does not give the label of node v, nothing is new there
none_taken : (n : Net) (bound : ℕ) (row : List Entry) (k v : ℕ) (last : Option EdgeId) → (edge_gives n bound row k && (target n k == v)) ≡ false → taken n bound row (suc k) v last ≡ taken n bound row k v last
none_taken n bound row k v None fails = refl
none_taken n bound row k v (Some f) fails =
    elim (cases_eq f.0 k) [
      | inl e ↦ ap (λ (b : Bool). cond b 1 0) (subst (λ (j : ℕ). is_given_by n bound row (suc k) v (Some (record { 0 = j })) ≡ is_given_by n bound row k v (Some (record { 0 = j }))) (sym e) (is_given_new n bound row k v ∙ fails ∙ sym (is_given_here n bound row k v)))
      | inr apart ↦ ap (λ (b : Bool). cond b 1 0) (is_given_suc n bound row k v f apart)
    ]

one_taken : (n : Net) (bound : ℕ) (row : List Entry) (k v : ℕ) (last : Option EdgeId) → last ≡ Some (record { 0 = k }) → (edge_gives n bound row k && (target n k == v)) ≡ true → taken n bound row (suc k) v last ≡ taken n bound row k v last + 1
one_taken n bound row k v last is holds =
    let new : taken n bound row (suc k) v last ≡ 1 = ap (λ (b : Bool). cond b 1 0) (ap (is_given_by n bound row (suc k) v) is ∙ is_given_new n bound row k v ∙ holds) in
    let old : taken n bound row k v last ≡ 0 = ap (λ (b : Bool). cond b 1 0) (ap (is_given_by n bound row k v) is ∙ is_given_here n bound row k v) in
    omega (arith, new, old)

abbrev taken_at : Net → ℕ → List Entry → ℕ → Entry → ℕ
taken_at n bound row k y = taken n bound row k y.node.0 y.last

pub gives_label_of : (n : Net) (bound : ℕ) (row : List Entry) (k : ℕ) (o : Option Entry) → edge_gives_from n bound row o k ≡ true → (x : Entry) × (o ≡ Some x) × Gives n bound (label_in row) x.distance k
gives_label_of n bound row k None h = absurd (false≢true h)
gives_label_of n bound row k (Some x) h = (x, refl, gives_tells n bound (label_in row) x.distance k h)

-- the label that edge k gives is that of the entry of its end
given_last : (n : Net) (bound : ℕ) (row : List Entry) (k : ℕ) (y : Entry) → entry_in row y.node.0 ≡ Some y → edge_gives n bound row k ≡ true → target n k ≡ y.node.0 → y.last ≡ Some (record { 0 = k })
given_last n bound row k y at h ends =
    let by = gives_label_of n bound row k (entry_in row (source n k)) h in
    let label = by.2.label in
    let here : label_in row (target n k) ≡ Some (label_of y) = ap (label_in row) ends ∙ ap (option_map label_of) at in
    let same : label.label ≡ label_of y = same_Some label.label (label_of y) (sym label.listed ∙ here) in
    sym (ap (λ (l : Label). l.last) same) ∙ label.last

more_taken : (n : Net) (bound : ℕ) (row : List Entry) (k : ℕ) (y : Entry) → entry_in row y.node.0 ≡ Some y → More (taken_at n bound row (suc k)) (taken_at n bound row k) (target n k) (cond (edge_gives n bound row k) 1 0) y
more_taken n bound row k y at =
    let v : ℕ = y.node.0 in
    let had : ℕ = taken_at n bound row k y in
    let new : ℕ = cond (edge_gives n bound row k) 1 0 in
    elim (eqb_tells v (target n k)) [
      | inl s ↦
          let there : (target n k == v) ≡ true = elim (eqb_tells (target n k) v) [ inl t ↦ t.0 | inr t ↦ absurd (t.1 (sym s.1)) ] in
          let goal_is : had + cond (v == target n k) new 0 ≡ had + new = ap (λ (b : Bool). had + cond b new 0) s.0 in
          elim (cases_Bool (edge_gives n bound row k)) [
            | inl holds ↦
                let one : new ≡ 1 = ap (λ (b : Bool). cond b 1 0) holds in
                let both : (edge_gives n bound row k && (target n k == v)) ≡ true = rw (holds, there) refl in
                one_taken n bound row k v y.last (given_last n bound row k y at holds (sym s.1)) both ∙ sym (goal_is ∙ ap (λ (c : ℕ). had + c) one)
            | inr fails ↦
                let zero_new : new ≡ 0 = ap (λ (b : Bool). cond b 1 0) fails in
                let neither : (edge_gives n bound row k && (target n k == v)) ≡ false = rw fails refl in
                let same : taken_at n bound row (suc k) y ≡ had = none_taken n bound row k v y.last neither in
                let right : had + cond (v == target n k) new 0 ≡ had = goal_is ∙ ap (λ (c : ℕ). had + c) zero_new ∙ omega arith in
                same ∙ sym right
          ]
      | inr s ↦
          let apart : (target n k == v) ≡ false = elim (eqb_tells (target n k) v) [ inl t ↦ absurd (s.1 (sym t.1)) | inr t ↦ t.0 ] in
          let neither : (edge_gives n bound row k && (target n k == v)) ≡ false = elim (cases_Bool (edge_gives n bound row k)) [ inl holds ↦ rw (holds, apart) refl | inr fails ↦ rw fails refl ] in
          let same : taken_at n bound row (suc k) y ≡ had = none_taken n bound row k v y.last neither in
          let right : had + cond (v == target n k) new 0 ≡ had = ap (λ (b : Bool). had + cond b new 0) s.0 ∙ omega arith in
          same ∙ sym right
    ]

none_gives : (n : Net) (bound : ℕ) (row : List Entry) (k : ℕ) → entry_in row (target n k) ≡ None → edge_gives n bound row k ≡ false
none_gives n bound row k none = false_from_ne_true (edge_gives n bound row k) (λ h.
    let by = gives_label_of n bound row k (entry_in row (source n k)) h in
    let nothing : None ≡ Some by.2.label.label = sym (ap (option_map label_of) none) ∙ by.2.label.listed in
    cc)

sum_taken : (n : Net) (bound : ℕ) (row : List Entry) (k : ℕ) → RisesFrom 0 row → sum_by (taken_at n bound row (suc k)) row ≡ sum_by (taken_at n bound row k) row + cond (edge_gives n bound row k) 1 0
sum_taken n bound row k rising =
    let P : Entry → Type 0 = More (taken_at n bound row (suc k)) (taken_at n bound row k) (target n k) (cond (edge_gives n bound row k) 1 0) in
    more_at (taken_at n bound row (suc k)) (taken_at n bound row k) (target n k) (cond (edge_gives n bound row k) 1 0) 0 row rising
    (recursion_from_All P row (λ i d lt. more_taken n bound row k (slice_index_or row i d) (entry_at 0 row rising i d lt)))
    (λ none. ap (λ (b : Bool). cond b 1 0) (none_gives n bound row k none))

none_below : (n : Net) (bound : ℕ) (row : List Entry) (y : Entry) (last : Option EdgeId) → 0 ≡ taken n bound row 0 y.node.0 last
none_below n bound row y None = refl
none_below n bound row y (Some f) = sym (ap (λ (b : Bool). cond (b && (edge_gives n bound row f.0 && (target n f.0 == y.node.0))) 1 0) (le-ltb f.0 0 (omega arith)))

both_sums : (n : Net) (bound : ℕ) (row : List Entry) (k : ℕ) → RisesFrom 0 row → sum_by (given_below n bound row k) row ≡ sum_by (taken_at n bound row k) row
both_sums n bound row zero rising =
    let P : Entry → Type 0 = λ y. given_below n bound row 0 y ≡ taken_at n bound row 0 y in
    same_sums (given_below n bound row 0) (taken_at n bound row 0) row (recursion_from_All P row (λ i d lt. let y : Entry = slice_index_or row i d in none_below n bound row y y.last))
both_sums n bound row (suc k) rising = omega (arith, sum_given n bound row k rising, sum_taken n bound row k rising, both_sums n bound row k rising)

-- as many labels are given as entries have one that is given
pub given_is_taken : (n : Net) (bound : ℕ) (row : List Entry) → RisesFrom 0 row → sum_by (given_by n bound row) row ≡ count_by (is_given n bound row (length n.edges)) row
given_is_taken n bound row rising = both_sums n bound row (length n.edges) rising

pub given_few : (n : Net) (bound : ℕ) (row : List Entry) → RisesFrom 0 row → sum_by (given_by n bound row) row ≤ length row
given_few n bound row rising = omega (arith, given_is_taken n bound row rising, count_by-le-length (is_given n bound row (length n.edges)) row)

-- the count of those that the first entries give, and with the next entry
pub counted_few : (n : Net) (bound place given : ℕ) (row : List Entry) → RisesFrom 0 row → given ≡ sum_by (given_by n bound row) (take place row) → given ≤ length row
counted_few n bound place given row rising is = omega (arith, is, sum_by-take-le (given_by n bound row) row place, given_few n bound row rising)

pub counted_next : (n : Net) (bound place given more : ℕ) (row : List Entry) → place < length row → given ≡ sum_by (given_by n bound row) (take place row) → more ≡ given_by n bound row (slice_index_or row place no_entry) → given + more ≡ sum_by (given_by n bound row) (take (place + 1) row)
counted_next n bound place given more row lt is next = omega (arith, is, next, sum_by_more (given_by n bound row) row place no_entry lt)
