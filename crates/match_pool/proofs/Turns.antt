-- The turns of a worker's loop.
use Rattle.std.proofs.Common.{◌≡◌, ◌⊎◌, ◌↔◌, ℕ, zero, suc, ◌+◌, ◌<◌, ◌≤◌, Bool, true, false, ◌||◌, List, [], ◌∷◌, ◌++◌, map, length, is_some, Option, Some, None, Contains, All, true≢false, refl, sym, ap, ◌∙◌, subst, inl, inr, ⊎_elim, arith, append-nil, append_assoc}
use Rattle.std.proofs.lemmas.Bool.{or_cases, or_left, or_right}
use Rattle.std.specs.Prelude.{slice_get, slice_index_or}
use Rattle.std.proofs.lemmas.List.{map-append}
use Rattle.std.proofs.lemmas.List.Elements.{All-head, All-nil, All-push, All-tail, Contains-append_cases, Contains-append_left, Contains-append_right}
use Rattle.std.proofs.lemmas.List.FromFn.{get_or-range_with_len, length-range_with_len}
use Rattle.std.proofs.lemmas.List.Folds.{list_any-append, list_any_at}
use Rattle.std.specs.List.{list_any, range_with_len}
use Rattle.bounded_table.specs.Known.{known_nodes}
use Rattle.bounded_table.specs.Rows.{AsksAll, AsksOnly}
use Rattle.bounded_table.specs.Table.{TableRow}
use Rattle.bounded_table.proofs.KnownNodes.{known_inside, knows_by}
use Rattle.match_text.specs.declared.matched.MatchedTrace.{MatchedTrace}
use Rattle.row_store.specs.Store.{NearSlots, Reading, Stored, knows, near_source, rows_state, source_of}
use Rattle.tickets.specs.Tickets.{Drawn}
use Rattle.trace_match.specs.Match.{asks}
use Rattle.trace_reader.specs.declared.trace.Trace.{Trace}
use Rattle.match_pool.specs.declared.worker.Done.{Done}
use Rattle.match_pool.specs.Drawing.{WorksOn, number_of_rank}
use Rattle.match_pool.specs.Working.{Job, KeepsClaims, Works, ReaderLearnsAsked, asks_at, done_by, matched_at, no_trace}

-- what holds at each draw
pub record Working (j : Job) (partition : List ℕ) (reader : Reading) (drawn : List ℕ) (done : List Done) (reader' : Reading) (drawn' : List ℕ) : Type 0 where
  pub ranks : List ℕ
  pub drawn_are : drawn' ≡ drawn ++ ranks
  pub below : All (λ k. k < length partition) ranks
  pub answers : done ≡ map (done_by j.first (matched_at j)) (map (number_of_rank partition) ranks)
  pub learns : ReaderLearnsAsked j (map (number_of_rank partition) ranks) reader reader'

pub starts : (j : Job) (partition : List ℕ) (reader : Reading) (drawn : List ℕ) → Working j partition reader drawn [] reader drawn
starts j partition reader drawn = record {
  ranks = [];
  drawn_are = sym (append-nil drawn);
  below = All-nil (λ k. k < length partition);
  answers = refl;
  learns = λ v. (λ h. inl h, λ h. ⊎_elim (λ old. old) (λ (is : false ≡ true). cc) h);
}

last_of : (a : Bool) → (a || false) ≡ a
last_of true = refl
last_of false = refl

-- a reader knows a row exactly where its node is among the known ones
get_default : (l : List (Option TableRow)) (i : ℕ) → (slice_get l i ≡ None) ⊎ (slice_get l i ≡ Some (slice_index_or l i None))
get_default [] i = inl refl
get_default (x ∷ xs) zero = inr refl
get_default (x ∷ xs) (suc i) = get_default xs i

none_inside : {A : Type 0} (l : List A) (i : ℕ) → slice_get l i ≡ None → length l ≤ i
none_inside [] i e = omega arith
none_inside (x ∷ xs) zero e = absurd (cc)
none_inside (x ∷ xs) (suc i) e = omega (arith, none_inside xs i e)

beyond : (l : List (Option TableRow)) (i : ℕ) → length l ≤ i → is_some (slice_index_or l i None) ≡ false
beyond [] i long = refl
beyond (x ∷ xs) zero long = absurd (omega arith)
beyond (x ∷ xs) (suc i) long = beyond xs i (omega arith)

seen_node : (l : List (Option TableRow)) (v : ℕ) → (is_some (slice_index_or l v None) ≡ true) ↔ Contains (known_nodes l) v
seen_node l v = ⊎_elim
    (λ none.
    let far = none_inside l v none in
    let not = beyond l v far in
    (λ is. absurd (true≢false (sym is ∙ not)), λ has. absurd (let near = known_inside l v has in omega arith)))
    (λ some. knows_by l v (slice_index_or l v None) some)
    (get_default l v)

pub knows_node : (r : Reading) (v : ℕ) → (knows r v ≡ true) ↔ Contains (known_nodes r.places ++ known_nodes r.near) v
knows_node r v =
    let table = is_some (slice_index_or r.places v None) in
    let near = is_some (slice_index_or r.near v None) in (
      λ is. ⊎_elim
          (λ there. Contains-append_left (known_nodes r.places) (known_nodes r.near) v ((seen_node r.places v).0 there))
          (λ there. Contains-append_right (known_nodes r.places) (known_nodes r.near) v ((seen_node r.near v).0 there))
          (or_cases table near is),
      λ has. ⊎_elim
          (λ there. or_left table near ((seen_node r.places v).1 there))
          (λ there. or_right table near ((seen_node r.near v).1 there))
          (Contains-append_cases (known_nodes r.places) (known_nodes r.near) v has),
    )

asked_more : (j : Job) (numbers : List ℕ) (k v : ℕ) → list_any (asks_at j v) (numbers ++ k ∷ []) ≡ (list_any (asks_at j v) numbers || asks_at j v k)
asked_more j numbers k v = list_any-append (asks_at j v) numbers (k ∷ []) ∙ ap (λ b. list_any (asks_at j v) numbers || b) (last_of (asks_at j v k))

learns_more : (j : Job) (numbers : List ℕ) (k : ℕ) (before mid after : Reading) → ReaderLearnsAsked j numbers before mid → AsksAll (rows_state mid) (rows_state after) (λ v. asks_at j v k ≡ true) → ReaderLearnsAsked j (numbers ++ k ∷ []) before after
learns_more j numbers k before mid after so_far asked v =
    let parts = asked_more j numbers k v in
    let some = list_any (asks_at j v) numbers in
    let one = asks_at j v k in
    let m = knows_node mid v in
    let a = knows_node after v in (
      λ has. ⊎_elim
          (λ old. ⊎_elim (λ first. inl first) (λ is. inr (parts ∙ or_left some one is)) ((so_far v).0 (m.1 old)))
          (λ new. inr (parts ∙ or_right some one new))
          (asked.only.nothing_else v (a.0 has)),
      λ h. a.1 (⊎_elim
          (λ first. asked.only.keeps.known v (m.0 ((so_far v).1 (inl first))))
          (λ is. ⊎_elim (λ old. asked.only.keeps.known v (m.0 ((so_far v).1 (inr old)))) (λ new. asked.all v new) (or_cases some one (sym parts ∙ is)))
          h),
    )

pub goes_on : (j : Job) (partition : List ℕ) (reader : Reading) (drawn : List ℕ) (done : List Done) (mid : Reading) (drawn_mid : List ℕ) (k : ℕ) (matched : MatchedTrace) (done' : List Done) (after : Reading) (drawn' : List ℕ)
    → Working j partition reader drawn done mid drawn_mid → k < length partition → drawn' ≡ drawn_mid ++ k ∷ []
    → matched ≡ matched_at j (number_of_rank partition k)
    → done' ≡ done ++ record { place = j.first + number_of_rank partition k; matched = matched } ∷ []
    → AsksAll (rows_state mid) (rows_state after) (λ v. asks_at j v (number_of_rank partition k) ≡ true)
    → Working j partition reader drawn done' after drawn'
goes_on j partition reader drawn done mid drawn_mid k matched done' after drawn' w below drew is more asked =
    let at = number_of_rank partition in
    let answer = done_by j.first (matched_at j) in
    let longer : map at (w.ranks ++ k ∷ []) ≡ map at w.ranks ++ at k ∷ [] = map-append at w.ranks (k ∷ []) in
    record {
      ranks = w.ranks ++ k ∷ [];
      drawn_are = drew ∙ ap (λ (l : List ℕ). l ++ k ∷ []) w.drawn_are ∙ append_assoc drawn w.ranks (k ∷ []);
      below = All-push (λ n. n < length partition) w.ranks k w.below below;
      answers = more ∙ (λ i. w.answers i ++ record { place = j.first + at k; matched = is i } ∷ []) ∙ sym (map-append answer (map at w.ranks) (at k ∷ [])) ∙ ap (map answer) (sym longer);
      learns = subst (λ (l : List ℕ). ReaderLearnsAsked j l reader after) (sym longer) (learns_more j (map at w.ranks) (at k) reader mid after w.learns asked);
    }

-- a partition of all numbers in their order
same_ranks : (n : ℕ) (ranks : List ℕ) → All (λ k. k < n) ranks → map (number_of_rank (range_with_len 0 n)) ranks ≡ ranks
same_ranks n [] below = refl
same_ranks n (k ∷ ks) below =
    let head : number_of_rank (range_with_len 0 n) k ≡ k = get_or-range_with_len 0 n k 0 (All-head (λ x. x < n) k ks below) ∙ omega arith in
    let tail = same_ranks n ks (All-tail (λ x. x < n) k ks below) in
    λ i. head i ∷ tail i

pub works_on_all : (j : Job) (partition : List ℕ) (reader : Reading) (ticket : Drawn) (done : List Done) (reader' : Reading) (ticket' : Drawn) → partition ≡ range_with_len 0 (length j.traces)
    → WorksOn j partition reader ticket done reader' ticket' → Works j reader ticket done reader' ticket'
works_on_all j partition reader ticket done reader' ticket' whole w =
    let n = length j.traces in
    let long : length partition ≡ n = ap (λ (l : List ℕ). length l) whole ∙ length-range_with_len 0 n in
    let below : All (λ k. k < n) w.ranks = subst (λ (m : ℕ). All (λ k. k < m) w.ranks) long w.below in
    let same : map (number_of_rank partition) w.ranks ≡ w.ranks = ap (λ (l : List ℕ). map (number_of_rank l) w.ranks) whole ∙ same_ranks n w.ranks below in
    record {
      numbers = w.ranks;
      last = w.last;
      drawn = w.drawn;
      below = below;
      above = (let late = w.above in omega (arith, long));
      answers = w.answers ∙ ap (map (done_by j.first (matched_at j))) same;
      learns = subst (λ (l : List ℕ). ReaderLearnsAsked j l reader reader') same w.learns;
    }

-- a number that was drawn is below the count
pub drawn_below : {k x n m : ℕ} → n ≡ m → (k ≡ x) × (x < n) → k < m
drawn_below same at =
    let is = at.0 in
    let low = at.1 in
    omega (arith, same, is, low)

-- a store is told by what its rows' state says of it
same_parts : (xs ys zs ws : List ℕ) → length xs ≡ length ys → xs ++ zs ≡ ys ++ ws → (xs ≡ ys) × (zs ≡ ws)
same_parts [] [] zs ws long same = (refl, same)
same_parts [] (y ∷ ys) zs ws long same = absurd (omega (arith, long))
same_parts (x ∷ xs) [] zs ws long same = absurd (omega (arith, long))
same_parts (x ∷ xs) (y ∷ ys) zs ws long same =
    let head : x ≡ y = cc in
    let tail : xs ++ zs ≡ ys ++ ws = cc in
    let rest = same_parts xs ys zs ws (omega (arith, long)) tail in
    (λ i. head i ∷ rest.0 i, rest.1)

same_near : (a b : Option NearSlots) → near_source b ≡ near_source a → b ≡ a
same_near None None same = refl
same_near None (Some y) same = absurd (cc)
same_near (Some x) None same = absurd (cc)
same_near (Some x) (Some y) same =
    let bound : y.bound ≡ x.bound = cc in
    let cells : y.cells ≡ x.cells = cc in
    λ i. Some (record { bound = bound i; cells = cells i })

same_store : (a b : Stored) → b.network ≡ a.network → source_of b ≡ source_of a → b ≡ a
same_store a b network source =
    let bound : b.bound ≡ a.bound = cc in
    let long : length b.cells ≡ length a.cells = cc in
    let rest : b.cells ++ near_source b.near ≡ a.cells ++ near_source a.near = cc in
    let parts = same_parts b.cells a.cells (near_source b.near) (near_source a.near) long rest in
    let near = same_near a.near b.near parts.1 in
    λ i. record { network = network i; bound = bound i; cells = parts.0 i; near = near i }

-- one more draw, and rows that became known for the trace of number k
pub stays_more : {j : Job} {reader mid after : Reading} {ticket drawn drawn' : Drawn} (k : ℕ) → k < length j.traces → KeepsClaims j reader ticket mid drawn → AsksOnly (rows_state mid) (rows_state after) (λ v. asks_at j v k ≡ true)
    → drawn'.claims ≡ drawn.claims → KeepsClaims j reader ticket after drawn'
stays_more {j} {reader} {mid} {after} k inside stays asked same =
    let keeps = asked.keeps in
    let before = stays.reader.stays in
    record {
      reader = record {
        stays = record {
          store = same_store mid.store after.store keeps.network keeps.source ∙ before.store;
          known = λ n k. (knows_node after n).1 (keeps.known n ((knows_node mid n).0 (before.known n k)));
          held = λ n row e. keeps.held n row (before.held n row e);
        };
        only = λ v known. ⊎_elim
            (λ old. stays.reader.only v ((knows_node mid v).1 old))
            (λ is. inr (list_any_at (λ (t : Trace). asks j.network j.params t v) j.traces k no_trace inside is))
            (asked.nothing_else v ((knows_node after v).0 known));
      };
      claims = same ∙ stays.claims;
    }
