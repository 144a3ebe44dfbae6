-- A worker's turns, one after the other.
use Rattle.std.proofs.Common.{◌≡◌, ◌≢◌, inl, inr, ℕ, zero, suc, ◌+◌, ◌<◌, ◌≤◌, true, List, [], ◌∷◌, length, length-set, set, get_or-set_other, get_or-set_same, Option, None, Some, is_some, true≢false, refl, sym, ap, ◌∙◌, subst, ⊎_elim, arith}
use Rattle.std.specs.Prelude.{slice_get, slice_index_or}
use Rattle.std.proofs.lemmas.Bool.{cases_eq, cases_lt}
use Rattle.bounded_table.specs.Table.{TableRow}
use Rattle.row_store.specs.Store.{Reading, knows}
use Rattle.match_pool.specs.declared.worker_set.Worker.{Worker}
use Rattle.match_pool.specs.declared.turn.Partition.{Partition}
use Rattle.match_pool.specs.declared.turn.Turn.{Turn}
use Rattle.match_pool.specs.inside.WorkerSet.{CanDrawFrom, DrewAll, DrewFrom}
use Rattle.match_pool.specs.inside.Turns.{IsTurnTaken}
use Rattle.match_pool.specs.Working.{IsReaderFor, Job, ReadsWithin, StaysReader}

stays_none : (r : Reading) → StaysReader r r
stays_none r = record { store = refl; known = λ v k. k; held = λ k row e. e }

stays_then : (a b c : Reading) → StaysReader a b → StaysReader b c → StaysReader a c
stays_then a b c first second = record { store = second.store ∙ first.store; known = λ v k. second.known v (first.known v k); held = λ k row e. second.held k row (first.held k row e) }

pub reads_on : (j : Job) (a b : Reading) → StaysReader a b → IsReaderFor j.network j.params a → IsReaderFor j.network j.params b
reads_on j a b stays reads = record {
  network = ap (λ s. s.network) stays.store ∙ reads.network;
  bound = ap (λ s. s.bound) stays.store ∙ reads.bound;
}

-- what a reader knew it knows
pub still_knows : (a b : Reading) → StaysReader a b → (v : ℕ) → knows a v ≡ true → knows b v ≡ true
still_knows a b stays v known = stays.known v known

pub reads_none : (j : Job) (r : Reading) → ReadsWithin j r r
reads_none j r = record { stays = stays_none r; only = λ v known. inl known }

pub reads_then : (j : Job) (a b c : Reading) → ReadsWithin j a b → ReadsWithin j b c → ReadsWithin j a c
reads_then j a b c first second = record {
  stays = stays_then a b c first.stays second.stays;
  only = λ v known. ⊎_elim (λ old. first.only v old) (λ asked. inr asked) (second.only v known);
}

pub drew_none : (j : Job) (partitions : List Partition) (from : ℕ) (w : Worker) → DrewFrom j partitions from from w w
drew_none j partitions from w = record {
  count = refl;
  each = λ place d e low high. absurd (omega arith);
  early = λ place e low. refl;
  late = λ place e high. refl;
}

taken_on : (j : Job) (a b : Worker) (partition : Partition) (turn : Turn) → StaysReader a.reader b.reader → IsTurnTaken j partition turn a.reader → IsTurnTaken j partition turn b.reader
taken_on j a b partition turn stays taken = record {
  over = taken.over;
  learns = λ rank v low c asked. still_knows a.reader b.reader stays v (taken.learns rank v low c asked);
}

-- one more turn
pub drew_more : (j : Job) (partitions : List Partition) (from place : ℕ) (before mid after : Worker) (partition : Partition) (turn : Turn) → from ≤ place → place < length partitions → length mid.turns.items ≡ length partitions
    → ((d : Partition) → slice_index_or partitions place d ≡ partition) → after.turns.items ≡ set mid.turns.items place turn
    → StaysReader mid.reader after.reader → IsTurnTaken j partition turn after.reader
    → DrewFrom j partitions from place before mid → DrewFrom j partitions from (place + 1) before after
drew_more j partitions from place before mid after partition turn past low long is turns stays taken drew = record {
  count = ap (λ (l : List Turn). length l) turns ∙ length-set mid.turns.items place turn ∙ drew.count;
  each = λ k d e early late. elim (cases_eq k place) [
    | inl same ↦
        let here : slice_index_or after.turns.items place e ≡ turn = ap (λ (l : List Turn). slice_index_or l place e) turns ∙ get_or-set_same mid.turns.items place turn e (omega arith) in
        subst (λ (m : ℕ). IsTurnTaken j (slice_index_or partitions m d) (slice_index_or after.turns.items m e) after.reader) (sym same)
        (subst (λ (s : Partition). IsTurnTaken j s (slice_index_or after.turns.items place e) after.reader) (sym (is d))
        (subst (λ (t : Turn). IsTurnTaken j partition t after.reader) (sym here) taken))
    | inr apart ↦
        let there : slice_index_or after.turns.items k e ≡ slice_index_or mid.turns.items k e = ap (λ (l : List Turn). slice_index_or l k e) turns ∙ get_or-set_other mid.turns.items place k turn e apart in
        subst (λ (t : Turn). IsTurnTaken j (slice_index_or partitions k d) t after.reader) (sym there)
        (taken_on j mid after (slice_index_or partitions k d) (slice_index_or mid.turns.items k e) stays (drew.each k d e early (omega (arith, late, apart))))
  ];
  early = λ k e lt.
      let apart : k ≢ place = omega (arith, lt, past) in
      ap (λ (l : List Turn). slice_index_or l k e) turns ∙ get_or-set_other mid.turns.items place k turn e apart ∙ drew.early k e lt;
  late = λ k e le.
      let apart : k ≢ place = omega (arith, le) in
      ap (λ (l : List Turn). slice_index_or l k e) turns ∙ get_or-set_other mid.turns.items place k turn e apart ∙ drew.late k e (omega (arith, le));
}

-- the turn at the next partition is fresh, and the reader has the rows that are wanted
pub can_go_on : (j : Job) (partitions : List Partition) (from place past : ℕ) (before mid : Worker) → CanDrawFrom j partitions from past before → ReadsWithin j before.reader mid.reader → DrewFrom j partitions from place before mid → from ≤ place → CanDrawFrom j partitions place past mid
can_go_on j partitions from place past before mid can stays drew le = record {
  reader = reads_on j before.reader mid.reader stays.stays can.reader;
  partitions_are = can.partitions_are;
  count = drew.count ∙ can.count;
  fresh = λ k d e low high. ap (λ (t : Turn). t.ticket) (drew.late k e low) ∙ can.fresh k d e (omega arith) high;
}

pub can_from : (j : Job) (partitions : List Partition) (from past : ℕ) (w : Worker) → past ≤ length partitions → CanDrawFrom j partitions 0 (length partitions) w → CanDrawFrom j partitions from past w
can_from j partitions from past w inside can = record {
  reader = can.reader;
  partitions_are = can.partitions_are;
  count = can.count;
  fresh = λ k d e low high. can.fresh k d e (omega arith) (omega arith);
}

-- back at the first partition
pub can_begin_again : (j : Job) (partitions : List Partition) (own : ℕ) (before mid : Worker) → own ≤ length partitions → CanDrawFrom j partitions 0 (length partitions) before → ReadsWithin j before.reader mid.reader → DrewFrom j partitions own (length partitions) before mid → CanDrawFrom j partitions 0 own mid
can_begin_again j partitions own before mid inside can stays drew = record {
  reader = reads_on j before.reader mid.reader stays.stays can.reader;
  partitions_are = can.partitions_are;
  count = drew.count ∙ can.count;
  fresh = λ k d e low high. ap (λ (t : Turn). t.ticket) (drew.early k e high) ∙ can.fresh k d e low (omega arith);
}

pub drew_round : (j : Job) (partitions : List Partition) (own : ℕ) (before mid after : Worker) → CanDrawFrom j partitions 0 (length partitions) before → ReadsWithin j mid.reader after.reader → DrewFrom j partitions own (length partitions) before mid → DrewFrom j partitions 0 own mid after → DrewAll j partitions after
drew_round j partitions own before mid after can stays first second = record {
  count = second.count ∙ first.count ∙ can.count;
  each = λ k d e low. ⊎_elim
      (λ early. second.each k d e (omega arith) early)
      (λ late. subst (λ (t : Turn). IsTurnTaken j (slice_index_or partitions k d) t after.reader) (sym (second.late k e late))
      (taken_on j mid after (slice_index_or partitions k d) (slice_index_or mid.turns.items k e) stays.stays (first.each k d e late low)))
      (cases_lt k own);
}
