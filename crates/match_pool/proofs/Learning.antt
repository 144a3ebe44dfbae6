-- What some reader knows after all workers have worked, and the turns of all workers at each partition.
use Rattle.std.proofs.Common.{◌≡◌, ◌⊎◌, inl, inr, ℕ, zero, suc, ◌<◌, true, List, [], ◌∷◌, map, length, All, Any, Contains, IsOk, sym, ap, ◌∙◌, subst, ⊎_elim, arith}
use Rattle.std.proofs.lemmas.Bool.{or_cases, or_left, or_right}
use Rattle.std.specs.Prelude.{slice_index_or}
use Rattle.std.specs.List.{AllZip, range_with_len}
use Rattle.std.proofs.lemmas.List.{ext_get_or, get_or_default, get_or-map, length-map}
use Rattle.std.proofs.lemmas.List.FromFn.{get_or-map-range_with_len, length-map-range_with_len}
use Rattle.std.proofs.lemmas.List.Elements.{All-cons, All-head, All-nil, All-tail}
use Rattle.std.proofs.lemmas.List.Folds.{Any-from_list_any}
use Rattle.match_text.specs.declared.matched.MatchedTrace.{MatchedTrace}
use Rattle.row_store.specs.Store.{is_known_to_any, knows}
use Rattle.trace_match.specs.Match.{asks, match_of}
use Rattle.trace_reader.specs.declared.trace.Trace.{Trace}
use Rattle.match_pool.specs.inside.WorkerSet.{Ran, DrewAll, reader_of, turns_of}
use Rattle.match_pool.specs.inside.Dealing.{HasClaims}
use Rattle.match_pool.specs.Drawing.{number_of_rank}
use Rattle.match_pool.specs.inside.Gathering.{AllDrawn, CoverTraces, AreTurnsOver}
use Rattle.match_pool.specs.Learning.{LearnAsked}
use Rattle.match_pool.specs.inside.Tables.{AreColumnsOf}
use Rattle.match_pool.specs.inside.Turns.{IsOver, IsPartitionOf}
use Rattle.match_pool.specs.Working.{Job, ReadsWithin, is_asked_in, asks_at, matched_at, no_trace}
use Rattle.match_pool.specs.declared.worker_set.Worker.{Worker}
use Rattle.match_pool.specs.declared.turn.Partition.{Partition}
use Rattle.match_pool.specs.declared.turn.Turn.{Turn}
use Rattle.match_pool.proofs.Lists.{default_same, of_ok, zip_at, zip_get}
use Rattle.match_pool.proofs.Draws.{still_knows}

-- each worker took its turns at all partitions, and its reader stays
pub record Did (j : Job) (partitions : List Partition) (before after : Worker) : Type 0 where
  pub reader : ReadsWithin j before.reader after.reader
  pub drew_all : DrewAll j partitions after

pub all_did : (j : Job) (partitions : List Partition) (before after : List Worker) → AllZip (Ran j partitions) before after → All (λ (w : Worker). IsOk w.outcome) after → AllZip (Did j partitions) before after
all_did j partitions [] [] ran ok = ran
all_did j partitions [] (y ∷ ys) ran ok = absurd ran
all_did j partitions (x ∷ xs) [] ran ok = absurd ran
all_did j partitions (x ∷ xs) (y ∷ ys) ran ok = (
  record { reader = ran.0.reader; drew_all = of_ok y.outcome (All-head (λ (w : Worker). IsOk w.outcome) y ys ok) ran.0.drew_all },
  all_did j partitions xs ys ran.1 (All-tail (λ (w : Worker). IsOk w.outcome) y ys ok),
)

after_known : (j : Job) (partitions : List Partition) (v : ℕ) (before after : List Worker) → AllZip (Did j partitions) before after → is_known_to_any (map reader_of after) v ≡ true → (is_known_to_any (map reader_of before) v ≡ true) ⊎ (is_asked_in j v ≡ true)
after_known j partitions v [] [] did is = inl is
after_known j partitions v [] (y ∷ ys) did is = absurd did
after_known j partitions v (x ∷ xs) [] did is = absurd did
after_known j partitions v (x ∷ xs) (y ∷ ys) did is =
    let before = is_known_to_any (map reader_of xs) v in
    ⊎_elim
    (λ head. ⊎_elim (λ old. inl (or_left (knows x.reader v) before old)) (λ asked. inr asked) (did.0.reader.only v head))
    (λ tail. ⊎_elim (λ old. inl (or_right (knows x.reader v) before old)) (λ asked. inr asked) (after_known j partitions v xs ys did.1 tail))
    (or_cases (knows y.reader v) (is_known_to_any (map reader_of ys) v) is)

before_known : (j : Job) (partitions : List Partition) (v : ℕ) (before after : List Worker) → AllZip (Did j partitions) before after → is_known_to_any (map reader_of before) v ≡ true → is_known_to_any (map reader_of after) v ≡ true
before_known j partitions v [] [] did is = is
before_known j partitions v [] (y ∷ ys) did is = absurd did
before_known j partitions v (x ∷ xs) [] did is = absurd did
before_known j partitions v (x ∷ xs) (y ∷ ys) did is =
    let after = is_known_to_any (map reader_of ys) v in
    ⊎_elim
    (λ head. or_left (knows y.reader v) after (still_knows x.reader y.reader did.0.reader.stays v head))
    (λ tail. or_right (knows y.reader v) after (before_known j partitions v xs ys did.1 tail))
    (or_cases (knows x.reader v) (is_known_to_any (map reader_of xs) v) is)

-- a turn of each worker at one place
abbrev turns_at : ℕ → Turn → List Worker → List Turn
turns_at place e workers = map (λ (row : List Turn). slice_index_or row place e) (map turns_of workers)

asked_known : (j : Job) (partitions : List Partition) (v place rank : ℕ) (d : Partition) (e : Turn) (before after : List Worker) → AllZip (Did j partitions) before after → place < length partitions → rank < length (slice_index_or partitions place d).numbers
    → asks_at j v (number_of_rank (slice_index_or partitions place d).numbers rank) ≡ true → Any (λ (t : Turn). Contains t.ticket.numbers rank) (turns_at place e after) → is_known_to_any (map reader_of after) v ≡ true
asked_known j partitions v place rank d e [] [] did low inside asks any = absurd (let lt = any.2 in omega arith)
asked_known j partitions v place rank d e [] (y ∷ ys) did low inside asks any = absurd did
asked_known j partitions v place rank d e (x ∷ xs) [] did low inside asks any = absurd did
asked_known j partitions v place rank d e (x ∷ xs) (y ∷ ys) did low inside asks (zero, t, lt, same, c) =
    let taken = did.0.drew_all.each place d e low in
    or_left (knows y.reader v) (is_known_to_any (map reader_of ys) v)
    (taken.learns rank v inside (subst (λ (u : Turn). Contains u.ticket.numbers rank) (sym same) c) asks)
asked_known j partitions v place rank d e (x ∷ xs) (y ∷ ys) did low inside asks (suc i, t, lt, same, c) =
    or_right (knows y.reader v) (is_known_to_any (map reader_of ys) v)
    (asked_known j partitions v place rank d e xs ys did.1 low inside asks (i, t, omega arith, same, c))

pub all_learn : (j : Job) (partitions : List Partition) (by_partition : List (List Turn)) (before after : List Worker) → AllZip (Did j partitions) before after → CoverTraces j partitions → AreColumnsOf (map turns_of after) (length partitions) by_partition → AllZip AllDrawn partitions by_partition
    → LearnAsked j.network j.params j.traces (map reader_of before) (map reader_of after)
all_learn j partitions by_partition before after did cover columns drawn v = (
  after_known j partitions v before after did,
  λ either. ⊎_elim
      (before_known j partitions v before after did)
      (λ asked.
      let some = Any-from_list_any (λ (t : Trace). asks j.network j.params t v) j.traces asked in
      let at : slice_index_or j.traces some.0 no_trace ≡ some.1 = get_or_default j.traces some.0 no_trace some.1 some.2 ∙ some.3 in
      let asks_it : asks_at j v some.0 ≡ true = ap (λ (t : Trace). asks j.network j.params t v) at ∙ some.4 in
      in_partition some.0 asks_it (cover some.0 some.2))
      either,
)
  where
    in_partition : (k : ℕ) → asks_at j v k ≡ true → Any (λ (s : Partition). Contains s.numbers k) partitions → is_known_to_any (map reader_of after) v ≡ true
    in_partition k asks_it (place, partition, low, same, c) =
        let s = slice_index_or partitions place partition in
        let here : Contains s.numbers k = subst (λ (u : Partition). Contains u.numbers k) (sym same) c in
        let number : number_of_rank s.numbers here.0 ≡ k = default_same s.numbers here.0 0 k here.1 ∙ here.2 in
        let asks_here : asks_at j v (number_of_rank s.numbers here.0) ≡ true = ap (asks_at j v) number ∙ asks_it in
        let all = zip_get AllDrawn partitions by_partition place partition [] drawn low in
        let any = all here.0 here.1 in
        let e : Turn = any.1 in
        asked_known j partitions v place here.0 partition e before after did low here.1 asks_here
        (subst (Any (λ (t : Turn). Contains t.ticket.numbers here.0)) (columns.each place e low) any)

-- the readers stay those of their stores
pub readers_stay : (j : Job) (partitions : List Partition) (before after : List Worker) → AllZip (Ran j partitions) before after → AllZip (ReadsWithin j) (map reader_of before) (map reader_of after)
readers_stay j partitions [] [] ran = ran
readers_stay j partitions [] (y ∷ ys) ran = absurd ran
readers_stay j partitions (x ∷ xs) [] ran = absurd ran
readers_stay j partitions (x ∷ xs) (y ∷ ys) ran = (ran.0.reader, readers_stay j partitions xs ys ran.1)

pub rows_wide : (j : Job) (partitions : List Partition) (before after : List Worker) → AllZip (Did j partitions) before after → All (λ (row : List Turn). length row ≡ length partitions) (map turns_of after)
rows_wide j partitions [] [] did = All-nil (λ (row : List Turn). length row ≡ length partitions)
rows_wide j partitions [] (y ∷ ys) did = absurd did
rows_wide j partitions (x ∷ xs) [] did = absurd did
rows_wide j partitions (x ∷ xs) (y ∷ ys) did = All-cons (λ (row : List Turn). length row ≡ length partitions) y.turns.items (map turns_of ys) did.0.drew_all.count (rows_wide j partitions xs ys did.1)

overs : (j : Job) (partitions : List Partition) (place : ℕ) (d : Partition) (e : Turn) (before after : List Worker) → AllZip (Did j partitions) before after → place < length partitions → All (IsOver j (slice_index_or partitions place d)) (turns_at place e after)
overs j partitions place d e [] [] did low = All-nil (IsOver j (slice_index_or partitions place d))
overs j partitions place d e [] (y ∷ ys) did low = absurd did
overs j partitions place d e (x ∷ xs) [] did low = absurd did
overs j partitions place d e (x ∷ xs) (y ∷ ys) did low =
    All-cons (IsOver j (slice_index_or partitions place d)) (slice_index_or y.turns.items place e) (turns_at place e ys) (did.0.drew_all.each place d e low).over (overs j partitions place d e xs ys did.1 low)

pub all_by_partition : (j : Job) (partitions : List Partition) (by_partition : List (List Turn)) (workers : ℕ) (before after : List Worker) → AllZip (Did j partitions) before after → AreColumnsOf (map turns_of after) (length partitions) by_partition
    → All (HasClaims workers) partitions → All (IsPartitionOf j) partitions → length after ≡ workers → AllZip (AreTurnsOver j) partitions by_partition
all_by_partition j partitions by_partition workers before after did columns claims are count =
    zip_at (AreTurnsOver j) partitions by_partition columns.count (λ place d f low.
    let there = slice_index_or by_partition place f in
    let at : there ≡ slice_index_or by_partition place [] = default_same by_partition place f [] (let c = columns.count in omega arith) in
    record {
      is_partition = are place d low;
      all = ap (λ (l : List Turn). length l) at ∙ columns.long place low ∙ length-map after turns_of ∙ count ∙ sym (claims place d low).tickets_are;
      over = λ k t inside. subst (λ (l : List Turn). IsOver j (slice_index_or partitions place d) (slice_index_or l k t)) (sym (at ∙ columns.each place t low))
          (overs j partitions place d t before after did low k t (subst (λ (l : List Turn). k < length l) (at ∙ columns.each place t low) inside));
    })

-- the matches by number are those of the traces
pub matches_are : (j : Job) → map (matched_at j) (range_with_len 0 (length j.traces)) ≡ map (match_of j.network j.params) j.traces
matches_are j = ext_get_or none (map (matched_at j) (range_with_len 0 (length j.traces))) (map (match_of j.network j.params) j.traces)
    (length-map-range_with_len (matched_at j) 0 (length j.traces) ∙ sym (length-map j.traces (match_of j.network j.params)))
    (λ i low.
    let lt : i < length j.traces = (let l = length-map-range_with_len (matched_at j) 0 (length j.traces) in omega arith) in
    get_or-map-range_with_len (matched_at j) 0 (length j.traces) i i none lt (omega arith)
    ∙ sym (get_or-map (match_of j.network j.params) j.traces i no_trace none lt))
  where
    none : MatchedTrace
    none = record { id = 0; labels = []; pieces = [] }
