-- Slots that answers fill, and the tickets that drew their numbers.
use Rattle.std.proofs.Common.{◌≡◌, ◌⊎◌, inl, inr, ℕ, zero, suc, ◌+◌, ◌-◌, ◌<◌, ◌≤◌, cond, eqb, List, [], ◌∷◌, ◌++◌, map, length, set, ne_eqb, Option, Some, None, All, Any, Contains, IsSome, refl, sym, ap, ◌∙◌, subst, ⊎_elim, arith}
use Rattle.std.specs.Prelude.{slice_get, slice_index_or}
use Rattle.std.specs.List.{range_with_len, sum_by}
use Rattle.std.proofs.lemmas.Bool.{cases_eq}
use Rattle.std.proofs.lemmas.List.Elements.{All-contains, All-map, All-nil, All-push, All-weaker, Contains-append_left, Contains-push, Contains-push_cases}
use Rattle.std.proofs.lemmas.List.Sums.{sum_by-cons}
use Rattle.match_text.specs.declared.matched.MatchedTrace.{MatchedTrace}
use Rattle.bounded_table.proofs.KnownNodes.{get_set, get_set_else}
use Rattle.tickets.specs.Tickets.{Drawn, times}
use Rattle.match_pool.specs.declared.turn.Partition.{Partition}
use Rattle.match_pool.specs.declared.turn.Turn.{Turn}
use Rattle.match_pool.specs.declared.worker.Done.{Done}
use Rattle.match_pool.specs.Drawing.{number_of_rank}
use Rattle.match_pool.specs.inside.Gathering.{FillsSlots}
use Rattle.match_pool.specs.inside.Turns.{AnswersFor}
use Rattle.match_pool.specs.Working.{Job, done_by, matched_at}
use Rattle.match_pool.proofs.Lists.{default_same}
use Rattle.match_pool.proofs.Yields.{last_by}

-- before the first answer
fills_none : (matched : ℕ → MatchedTrace) (slots : List (Option MatchedTrace)) → FillsSlots matched [] slots slots
fills_none matched slots k low = inr ((λ c. let lt = c.1 in omega arith), refl)

-- one more answer in its slot
fills_one : (matched : ℕ → MatchedTrace) (numbers : List ℕ) (x : ℕ) (old mid : List (Option MatchedTrace)) → FillsSlots matched numbers old mid → x < length mid → FillsSlots matched (numbers ++ x ∷ []) old (set mid x (Some (matched x)))
fills_one matched numbers x old mid f low k lt = elim (cases_eq k x) [
  | inl same ↦ inl (
    subst (Contains (numbers ++ x ∷ [])) (sym same) (Contains-push numbers x),
    subst (λ y. slice_get (set mid x (Some (matched x))) y ≡ Some (Some (matched y))) (sym same) (get_set mid x (Some (matched x)) low),
  )
  | inr apart ↦
      let there = get_set_else mid x k (Some (matched x)) apart in
      ⊎_elim (λ l. inl (Contains-append_left numbers (x ∷ []) k l.0, there ∙ l.1))
      (λ r. inr ((λ c. ⊎_elim r.0 (λ e. apart (sym e)) (Contains-push_cases numbers x k c)), there ∙ r.1))
      (f k lt)
]

pub fills_start : (first : ℕ) (matched : ℕ → MatchedTrace) (numbers : List ℕ) (slots : List (Option MatchedTrace)) → [] ≡ map (done_by first matched) numbers → FillsSlots matched numbers slots slots
fills_start first matched [] slots e = fills_none matched slots
fills_start first matched (n ∷ ns) slots e = absurd (cc)

pub fills_more : (first : ℕ) (matched : ℕ → MatchedTrace) (yielded : List Done) (answer : Done) (old mid : List (Option MatchedTrace))
    → ((numbers : List ℕ) → yielded ≡ map (done_by first matched) numbers → FillsSlots matched numbers old mid)
    → answer.place < first + length mid → (numbers : List ℕ) → yielded ++ answer ∷ [] ≡ map (done_by first matched) numbers
    → FillsSlots matched numbers old (set mid (answer.place - first) (Some answer.matched))
fills_more first matched yielded answer old mid fills low numbers e =
    let r = last_by (done_by first matched) yielded answer numbers e in
    let place : answer.place ≡ first + r.1 = ap (λ (d : Done). d.place) r.4 in
    let at : answer.place - first ≡ r.1 = omega (arith, place) in
    let one = fills_one matched r.0 r.1 old mid (fills r.0 r.3) (omega (arith, place, low)) in
    subst (λ ns. FillsSlots matched ns old (set mid (answer.place - first) (Some answer.matched))) (sym r.2)
    (subst (λ m. FillsSlots matched (r.0 ++ r.1 ∷ []) old (set mid (answer.place - first) (Some m))) (sym (ap (λ (d : Done). d.matched) r.4))
    (subst (λ k. FillsSlots matched (r.0 ++ r.1 ∷ []) old (set mid k (Some (matched r.1)))) (sym at) one))

-- nothing in each slot before the first turn
abbrev pub no_match : Option MatchedTrace
no_match = None

-- the answers of some turns at the partition are put into their slots
abbrev pub Holds : Job → List ℕ → List Turn → List (Option MatchedTrace) → List (Option MatchedTrace) → Type 0
Holds j partition turns old new =
    (k : ℕ) → k < length old → (Contains partition k × (slice_get new k ≡ Some (Some (matched_at j k))))
    ⊎ ((slice_get new k ≡ slice_get old k) × ((rank : ℕ) → rank < length partition → number_of_rank partition rank ≡ k → All (λ (t : Turn). Contains t.ticket.numbers rank → ⊥) turns))

pub holds_none : (j : Job) (partition : List ℕ) (slots : List (Option MatchedTrace)) → Holds j partition [] slots slots
holds_none j partition slots k low = inr (refl, λ rank inside is. All-nil (λ (t : Turn). Contains t.ticket.numbers rank → ⊥))

-- the places of a turn's answers are among those of the slots
pub places_inside : (j : Job) (partition drawn : List ℕ) (done : List Done) → All (λ k. k < length j.traces) partition → AnswersFor j partition drawn done → All (λ (d : Done). (j.first ≤ d.place) × (d.place < j.first + length j.traces)) done
places_inside j partition drawn done low a =
    let count = length j.traces in
    subst (All (λ (d : Done). (j.first ≤ d.place) × (d.place < j.first + count))) (sym a.are)
    (All-map (λ (d : Done). (j.first ≤ d.place) × (d.place < j.first + count)) (done_by j.first (matched_at j)) a.numbers
    (All-weaker (Contains partition) (λ k. (j.first ≤ j.first + k) × (j.first + k < j.first + count))
    (λ k c. let lt : k < count = All-contains (λ m. m < count) partition k low c in (omega arith, omega arith)) a.numbers a.inside))

-- one more turn
pub holds_more : (j : Job) (partition : List ℕ) (turns : List Turn) (turn : Turn) (old mid new : List (Option MatchedTrace))
    → AnswersFor j partition turn.ticket.numbers turn.done → length mid ≡ length old → Holds j partition turns old mid
    → ((numbers : List ℕ) → turn.done ≡ map (done_by j.first (matched_at j)) numbers → FillsSlots (matched_at j) numbers mid new)
    → Holds j partition (turns ++ turn ∷ []) old new
holds_more j partition turns turn old mid new a long h fills k low =
    ⊎_elim (λ l. inl (All-contains (Contains partition) a.numbers k a.inside l.0, l.1))
    (λ r. ⊎_elim (λ l. inl (l.0, r.1 ∙ l.1))
    (λ s. inr (
      r.1 ∙ s.0,
      λ rank inside is. All-push (λ (t : Turn). Contains t.ticket.numbers rank → ⊥) turns turn (s.1 rank inside is)
          (λ c. r.0 (subst (λ (m : ℕ). Contains a.numbers m) is (a.all rank inside c))),
    ))
    (h k low))
    (fills a.numbers a.are k (omega arith))

-- who drew a number
times_some : (x : ℕ) (xs : List ℕ) → 1 ≤ times x xs → Contains xs x
times_some x [] some = absurd (omega arith)
times_some x (y ∷ ys) some = elim (cases_eq y x) [
  | inl same ↦ (0, omega arith, same)
  | inr apart ↦
      let one = sum_by-cons (λ (z : ℕ). cond (eqb z x) 1 0) y ys in
      let first : ℕ = cond (eqb y x) 1 0 in
      let none : first ≡ 0 = ap (λ b. cond b 1 0) (ne_eqb y x apart) in
      let c = times_some x ys (omega (arith, some, one, none)) in
      (suc c.0, (let lt = c.1 in omega arith), c.2)
]

pub some_ticket : (k : ℕ) (turns : List Turn) → 1 ≤ sum_by (λ (t : Drawn). times k t.numbers) (map (λ (t : Turn). t.ticket) turns) → Any (λ (t : Turn). Contains t.ticket.numbers k) turns
some_ticket k [] some = absurd (omega arith)
some_ticket k (turn ∷ turns) some = elim (cases_eq (times k turn.ticket.numbers) 0) [
  | inl none ↦
      let one = sum_by-cons (λ (t : Drawn). times k t.numbers) turn.ticket (map (λ (t : Turn). t.ticket) turns) in
      let rest = some_ticket k turns (omega (arith, some, one, none)) in
      (suc rest.0, rest.1, (let lt = rest.2 in omega arith), rest.3, rest.4)
  | inr more ↦ (0, turn, omega arith, refl, times_some k turn.ticket.numbers (omega (arith, more)))
]

-- where each rank was drawn, the partition's slots are filled
pub partition_filled : (j : Job) (partition : List ℕ) (turns : List Turn) (old new : List (Option MatchedTrace)) → Holds j partition turns old new
    → ((rank : ℕ) → rank < length partition → Any (λ (t : Turn). Contains t.ticket.numbers rank) turns) → FillsSlots (matched_at j) partition old new
partition_filled j partition turns old new h drawn k low =
    ⊎_elim (λ l. inl l)
    (λ r. inr (
      (λ c.
          let at : number_of_rank partition c.0 ≡ k = default_same partition c.0 0 k c.1 ∙ c.2 in
          let d = drawn c.0 c.1 in
          subst (λ (t : Turn). Contains t.ticket.numbers c.0 → ⊥) d.3 (r.1 c.0 c.1 at d.0 d.1 d.2) d.4),
      r.0,
    ))
    (h k low)

-- the traces of these partitions have their matches
abbrev pub AreIn : Job → List Partition → List (Option MatchedTrace) → Type 0
AreIn j partitions slots = (k : ℕ) → k < length j.traces → Any (λ (s : Partition). Contains s.numbers k) partitions → slice_get slots k ≡ Some (Some (matched_at j k))

pub none_in : (j : Job) (slots : List (Option MatchedTrace)) → AreIn j [] slots
none_in j slots k low any = absurd (let lt = any.2 in omega arith)

any_last : {X : Type 0} (P : X → Type 0) (xs : List X) (x : X) → Any P (xs ++ x ∷ []) → Any P xs ⊎ P x
any_last P [] x (zero, y, lt, e, p) = inr (subst P (sym e) p)
any_last P [] x (suc k, y, lt, e, p) = absurd (omega arith)
any_last P (z ∷ xs) x (zero, y, lt, e, p) = inl (zero, y, omega arith, e, p)
any_last P (z ∷ xs) x (suc k, y, lt, e, p) = ⊎_elim (λ r. inl (suc r.0, r.1, (let l = r.2 in omega arith), r.3, r.4)) (λ q. inr q) (any_last P xs x (k, y, omega arith, e, p))

pub more_in : (j : Job) (partitions : List Partition) (partition : Partition) (old new : List (Option MatchedTrace)) → length old ≡ length j.traces → AreIn j partitions old → FillsSlots (matched_at j) partition.numbers old new → AreIn j (partitions ++ partition ∷ []) new
more_in j partitions partition old new long are fills k low any =
    ⊎_elim (λ l. l.1)
    (λ r. ⊎_elim (λ before. r.1 ∙ are k low before) (λ here. absurd (r.0 here)) (any_last (λ (s : Partition). Contains s.numbers k) partitions partition any))
    (fills k (omega arith))

read_of : {A : Type 0} (l : List A) (k : ℕ) (d x : A) → slice_get l k ≡ Some x → slice_index_or l k d ≡ x
read_of [] k d x e = absurd (cc)
read_of (y ∷ ys) zero d x e = cc
read_of (y ∷ ys) (suc k) d x e = read_of ys k d x e

pub some_in_each : (matched : ℕ → MatchedTrace) (slots : List (Option MatchedTrace)) → ((k : ℕ) → k < length slots → slice_get slots k ≡ Some (Some (matched k))) → All IsSome slots
some_in_each matched slots h k d low = subst IsSome (sym (read_of slots k d (Some (matched k)) (h k low))) refl

pub all_from : (matched : ℕ → MatchedTrace) (a : ℕ) (slots : List (Option MatchedTrace)) (all : List MatchedTrace) → map Some all ≡ slots → ((k : ℕ) → k < length slots → slice_get slots k ≡ Some (Some (matched (a + k)))) → all ≡ map matched (range_with_len a (length slots))
all_from matched a [] [] e h = refl
all_from matched a [] (x ∷ xs) e h = absurd (cc)
all_from matched a (s ∷ ss) [] e h = absurd (cc)
all_from matched a (s ∷ ss) (x ∷ xs) e h =
    let head : Some x ≡ s = cc in
    let tail : map Some xs ≡ ss = cc in
    let at : Some s ≡ Some (Some (matched (a + 0))) = h 0 (omega arith) in
    let same : x ≡ matched (a + 0) = cc in
    let zero_more : a + 0 ≡ a = omega arith in
    let rest = all_from matched (a + 1) ss xs tail (λ k low. let step : a + 1 + k ≡ a + suc k = omega arith in rw step (h (suc k) (omega arith))) in
    (λ i. (same ∙ ap matched zero_more) i ∷ rest i)
