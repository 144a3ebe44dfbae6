-- The rows of the known nodes, where exactly the nodes that pass a test are known.
use Rattle.std.proofs.Common.{◌≡◌, ◌↔◌, inl, inr, ℕ, zero, suc, ◌+◌, ◌<◌, ◌≤◌, Bool, false, true, cond, List, [], ◌∷◌, map, length, Contains, refl, sym, ap, ◌∙◌, subst, ⊎_elim, arith}
use Rattle.std.proofs.lemmas.Bool.{cases_eq, false_from_ne_true}
use Rattle.std.specs.List.{filter, range_with_len}
use Rattle.bounded_table.specs.Known.{IsKnownList, Rises}
use Rattle.bounded_table.specs.RowValue.{row_of, rows_where}
use Rattle.bounded_table.specs.Rows.{RowsState, no_rows}
use Rattle.bounded_table.proofs.Counting.{rising_from}
use Rattle.bounded_table.proofs.KnownNodes.{head_or_tail, in_head, in_tail}
use Rattle.trace_match.specs.inside.Asked.{AsksTraces}
use Rattle.trace_match.specs.Setting.{Setting}
use Rattle.trace_match.specs.Totals.{is_asked_by}
use Rattle.road_network.specs.Net.{Net}
use Rattle.trace_reader.specs.declared.trace.Trace.{Trace}

-- where a test holds exactly of what is listed
abbrev Tells : ℕ → ℕ → List ℕ → (ℕ → Bool) → Type 0
Tells a b known test = (v : ℕ) → a ≤ v → v < b → Contains known v ↔ (test v ≡ true)

-- a rising list of numbers has those that pass the test
listed_from : (k a : ℕ) (known : List ℕ) (test : ℕ → Bool) → Rises a known → ((v : ℕ) → Contains known v → v < a + k) → Tells a (a + k) known test → known ≡ filter test (range_with_len a k)
listed_from zero a [] test rising inside tells = refl
listed_from zero a (x ∷ xs) test rising inside tells = absurd (let low = rising.0 in let high = inside x (in_head x x xs refl) in omega arith)
listed_from (suc k) a [] test rising inside tells =
    let rest = filter test (range_with_len (a + 1) k) in
    let not : test a ≡ false = false_from_ne_true (test a) (λ is. let c = (tells a (omega arith) (omega arith)).1 is in let lt = c.1 in omega arith) in
    listed_from k (a + 1) [] test tt (λ v c. let lt = inside v c in omega arith) (λ v low high. tells v (omega arith) (omega arith))
    ∙ sym (ap (λ (b : Bool). cond b (a ∷ rest) rest) not)
listed_from (suc k) a (x ∷ xs) test rising inside tells =
    let low = rising.0 in
    let rest = filter test (range_with_len (a + 1) k) in
    elim (cases_eq x a) [
      | inl e ↦
          let is : test a ≡ true = (tells a (omega arith) (omega arith)).0 (in_head x a xs e) in
          let behind : xs ≡ rest = listed_from k (a + 1) xs test (subst (λ (b : ℕ). Rises (b + 1) xs) e rising.1)
          (λ v c. let lt = inside v (in_tail x v xs c) in omega arith)
          (λ v from to. (
            λ c. (tells v (omega arith) (omega arith)).0 (in_tail x v xs c),
            λ yes. elim (head_or_tail x v xs ((tells v (omega arith) (omega arith)).1 yes)) [ inl same ↦ absurd (omega (arith, same, e)) | inr c ↦ c ],
          )) in
          ap (λ (v : ℕ). v ∷ xs) e ∙ ap (λ (l : List ℕ). a ∷ l) behind ∙ sym (ap (λ (b : Bool). cond b (a ∷ rest) rest) is)
      | inr apart ↦
          let not : test a ≡ false = false_from_ne_true (test a) (λ is. elim (head_or_tail x a xs ((tells a (omega arith) (omega arith)).1 is)) [
            | inl same ↦ apart same
            | inr c ↦ let above = rising_from (x + 1) xs a rising.1 c in omega arith
          ]) in
          listed_from k (a + 1) (x ∷ xs) test (omega arith, rising.1) (λ v c. let lt = inside v c in omega arith) (λ v from to. tells v (omega arith) (omega arith))
          ∙ sym (ap (λ (b : Bool). cond b (a ∷ rest) rest) not)
    ]

-- the known nodes are those that pass the test
listed : (n : Net) (known : List ℕ) (test : ℕ → Bool) → IsKnownList n known → ((v : ℕ) → Contains known v ↔ (test v ≡ true)) → known ≡ filter test (range_with_len 0 (length n.nodes))
listed n known test is tells =
    listed_from (length n.nodes) 0 known test is.rising (λ v c. let node = is.nodes v c in omega (arith, node)) (λ v low high. tells v)

-- what traces asked for where nothing was known
pub asked_of : (on : Setting) (traces : List Trace) (old new : RowsState) → old ≡ no_rows on.network on.params.bound → AsksTraces on traces old new → IsKnownList new.network new.known
    → map (row_of new.network new.bound) new.known ≡ rows_where on.network on.params.bound (is_asked_by on traces)
asked_of on traces old new fresh asks known =
    let n = on.network in
    let bound = on.params.bound in
    let test = is_asked_by on traces in
    let tells : (v : ℕ) → Contains new.known v ↔ (test v ≡ true) = λ v. (
      λ c. ⊎_elim (λ before. let none : Contains [] v = subst (λ (o : RowsState). Contains o.known v) fresh before in absurd (let lt = none.1 in omega arith)) (λ yes. yes) ((asks.learns v).0 c),
      λ yes. (asks.learns v).1 (inr yes),
    ) in
    ap (λ (m : Net). map (row_of m new.bound) new.known) asks.rows.network
    ∙ ap (λ (b : ℕ). map (row_of n b) new.known) asks.rows.bound
    ∙ ap (map (row_of n bound)) (listed n new.known test (subst (λ (m : Net). IsKnownList m new.known) asks.rows.network known) tells)
