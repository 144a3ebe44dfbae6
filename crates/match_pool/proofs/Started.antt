-- Partitions and fresh turns as they are dealt, and workers that were started.
use Rattle.std.proofs.Common.{◌≡◌, ℕ, zero, suc, ◌<◌, List, [], ◌∷◌, map, length, All, Any, Contains, sym, ap, ◌∙◌, subst, arith}
use Rattle.std.specs.List.{AllZip}
use Rattle.std.specs.Prelude.{slice_index_or}
use Rattle.std.proofs.lemmas.List.{length-map}
use Rattle.std.proofs.lemmas.List.Elements.{All-cons, All-contains, All-nil}
use Rattle.row_store.specs.Store.{Reading}
use Rattle.tickets.specs.Tickets.{Drawn, fresh_ticket}
use Rattle.match_pool.specs.inside.WorkerSet.{CanDrawFrom, reader_of}
use Rattle.match_pool.specs.inside.Dealing.{AreDealt, AreFreshTurns, partition_numbers, ticket_of}
use Rattle.match_pool.specs.inside.Gathering.{CoverTraces}
use Rattle.match_pool.specs.inside.Partitions.{ArePartitionsOf}
use Rattle.match_pool.specs.inside.Tables.{AreColumnsOf}
use Rattle.match_pool.specs.inside.Turns.{IsPartitionOf}
use Rattle.match_pool.specs.Working.{IsReaderFor, Job}
use Rattle.match_pool.specs.declared.worker_set.Worker.{Worker}
use Rattle.match_pool.specs.declared.turn.Partition.{Partition}
use Rattle.match_pool.specs.declared.turn.Turn.{Turn}
use Rattle.match_pool.proofs.Lists.{all_of_map, any_of_map, default_same, zip_long}

-- so many turns at a partition in which nothing was drawn
pub record AreFreshAt (workers : ℕ) (partition : Partition) (turns : List Turn) : Type 0 where
  pub count : length turns ≡ workers
  pub fresh : All (λ (t : Turn). t.ticket ≡ fresh_ticket partition.claims.name) turns

pub fresh_at : (workers : ℕ) (partition : Partition) (turns : List Turn) (tickets : List Drawn) → map ticket_of turns ≡ tickets → length tickets ≡ workers → All (λ t. t ≡ fresh_ticket partition.claims.name) tickets → AreFreshAt workers partition turns
fresh_at workers partition turns tickets are count all = record {
  count = sym (length-map turns ticket_of) ∙ ap (λ (l : List Drawn). length l) are ∙ count;
  fresh = all_of_map (λ t. t ≡ fresh_ticket partition.claims.name) ticket_of turns (subst (All (λ t. t ≡ fresh_ticket partition.claims.name)) (sym are) all);
}

pub all_wide : (workers : ℕ) (partitions : List Partition) (turns : List (List Turn)) → AllZip (AreFreshAt workers) partitions turns → All (λ (row : List Turn). length row ≡ workers) turns
all_wide workers [] [] all = All-nil (λ (row : List Turn). length row ≡ workers)
all_wide workers [] (t ∷ ts) all = absurd all
all_wide workers (s ∷ ss) [] all = absurd all
all_wide workers (s ∷ ss) (t ∷ ts) all = All-cons (λ (row : List Turn). length row ≡ workers) t ts all.0.count (all_wide workers ss ts all.1)

column_fresh : (workers w : ℕ) (partitions : List Partition) (turns : List (List Turn)) → AllZip (AreFreshAt workers) partitions turns → w < workers → (f : Turn) (place : ℕ) (d : Partition) (e : Turn) → place < length partitions
    → (slice_index_or (map (λ (row : List Turn). slice_index_or row w f) turns) place e).ticket ≡ fresh_ticket (slice_index_or partitions place d).claims.name
column_fresh workers w [] turns all low f place d e lt = absurd (omega arith)
column_fresh workers w (s ∷ ss) [] all low f place d e lt = absurd all
column_fresh workers w (s ∷ ss) (t ∷ ts) all low f zero d e lt = all.0.fresh w f (let c = all.0.count in omega arith)
column_fresh workers w (s ∷ ss) (t ∷ ts) all low f (suc place) d e lt = column_fresh workers w ss ts all.1 low f place d e (omega arith)

pub by_worker_fresh : (workers : ℕ) (partitions : List Partition) (turns by_worker : List (List Turn)) → AllZip (AreFreshAt workers) partitions turns → AreColumnsOf turns workers by_worker → All (AreFreshTurns partitions) by_worker
by_worker_fresh workers partitions turns by_worker all are w d low =
    let lt : w < workers = (let c = are.count in omega arith) in
    let at : slice_index_or by_worker w d ≡ slice_index_or by_worker w [] = default_same by_worker w d [] low in
    let long = zip_long (AreFreshAt workers) partitions turns all in
    record {
      count = ap (λ (l : List Turn). length l) at ∙ are.long w lt ∙ long;
      fresh = λ place s e inside.
          let f : Turn = e in
          subst (λ (l : List Turn). (slice_index_or l place e).ticket ≡ fresh_ticket (slice_index_or partitions place s).claims.name) (sym (at ∙ are.each w f lt))
          (column_fresh workers w partitions turns all lt f place s e inside);
    }

pub partitions_are : (j : Job) (cuts : List (List ℕ)) (workers : ℕ) (partitions : List Partition) (by_worker : List (List Turn)) → ArePartitionsOf (length j.traces) cuts → AreDealt cuts workers partitions by_worker → All (IsPartitionOf j) partitions
partitions_are j cuts workers partitions by_worker are dealt =
    let inside = all_of_map (λ (l : List ℕ). All (λ k. k < length j.traces) l) partition_numbers partitions (subst (All (λ (l : List ℕ). All (λ k. k < length j.traces) l)) (sym dealt.cuts_are) are.inside) in
    λ k d low. record { inside = inside k d low; all = (dealt.claims k d low).all }

pub partitions_cover : (j : Job) (cuts : List (List ℕ)) (workers : ℕ) (partitions : List Partition) (by_worker : List (List Turn)) → ArePartitionsOf (length j.traces) cuts → AreDealt cuts workers partitions by_worker → CoverTraces j partitions
partitions_cover j cuts workers partitions by_worker are dealt k low =
    any_of_map (λ (l : List ℕ). Contains l k) partition_numbers partitions (subst (Any (λ (l : List ℕ). Contains l k)) (sym dealt.cuts_are) (are.whole k low))

-- started workers can begin
pub all_can_draw : (j : Job) (readers : List Reading) (partitions : List Partition) (by_worker : List (List Turn)) (workers : List Worker) → map reader_of workers ≡ readers → All (IsReaderFor j.network j.params) readers → All (IsPartitionOf j) partitions
    → All (AreFreshTurns partitions) by_worker → All (λ (w : Worker). Contains by_worker w.turns.items) workers → All (CanDrawFrom j partitions 0 (length partitions)) workers
all_can_draw j readers partitions by_worker workers are all is fresh from k d low =
    let reads = all_of_map (IsReaderFor j.network j.params) reader_of workers (subst (All (IsReaderFor j.network j.params)) (sym are) all) in
    let turns = All-contains (AreFreshTurns partitions) by_worker (slice_index_or workers k d).turns.items fresh (from k d low) in
    record {
      reader = reads k d low;
      partitions_are = is;
      count = turns.count;
      fresh = λ place s e early late. turns.fresh place s e late;
    }
