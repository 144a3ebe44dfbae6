use Rattle.std.proofs.Common.{◌≡◌, [], ◌∷◌, ℕ, List, All, length, map, vec_capacity, sym, ap, subst, ◌∙◌, arith}
use Rattle.std.proofs.lemmas.Result.{on_ok_weaker}
use Rattle.std.specs.List.{AllZip}
use Rattle.std.proofs.lemmas.List.{length-map}
use Rattle.std.proofs.lemmas.List.Sums.{get_or-le-sum_by}
use Rattle.std.proofs.lemmas.Slice.Zip.{AllZip-long}
use Rattle.row_store.specs.Store.{Reading}
use Rattle.match_pool.specs.inside.WorkerSet.{CanDrawFrom, Ran, reader_of}
use Rattle.match_pool.specs.inside.Dealing.{partition_numbers}
use Rattle.match_pool.specs.Learning.{LearnAsked}
use Rattle.match_pool.specs.inside.Tables.{AreColumnsOf}
use Rattle.match_pool.specs.Working.{Job, ReadsWithin, job}
use Rattle.match_pool.specs.declared.turn.Partition.{Partition}
use Rattle.match_pool.specs.declared.turn.Turn.{Turn}
use Rattle.match_pool.proofs.Started.{all_can_draw, partitions_are, partitions_cover}
use Rattle.match_pool.proofs.Learning.{all_did, all_learn, all_by_partition, readers_stay, rows_wide}
use Rattle.match_pool.proofs.Draws.{reads_none}
use Rattle.match_pool.proofs.all.match_all.Goals as goal

-- readers that were left alone stay
unmoved : (j : Job) (readers : List Reading) → AllZip (ReadsWithin j) readers readers
unmoved j [] = tt
unmoved j (r ∷ rs) = (reads_none j r, unmoved j rs)

pub deal-requires-clause-cuts : goal.deal-requires-clause-cuts
deal-requires-clause-cuts g c =
    let few = c.requires.can.traces.few in
    let once = c.in_ok-cuts.ensures.partitions.once in
    λ i d low. (let some = get_or-le-sum_by (λ (l : List ℕ). length l) c.in_ok-cuts.cuts.items i d low in omega (arith, few, once, some))

pub start-requires : goal.start-requires
start-requires g c = c.in_ok-partitions.ensures.count ∙ c.len-workers.ensures

pub returns-in_err-worker_set-clause-readers : goal.returns-in_err-worker_set-clause-readers
returns-in_err-worker_set-clause-readers g c =
    subst (AllZip (ReadsWithin (job c.args.net.now c.args.p.now c.args.first c.args.traces.now)) c.args.readers.now) (sym c.in_err-worker_set.ensures.err) (unmoved (job c.args.net.now c.args.p.now c.args.first c.args.traces.now) c.args.readers.now)

pub returns-in_err-cuts-clause-readers : goal.returns-in_err-cuts-clause-readers
returns-in_err-cuts-clause-readers g c = unmoved (job c.args.net.now c.args.p.now c.args.first c.args.traces.now) c.args.readers.now

pub returns-in_err-partitions-clause-readers : goal.returns-in_err-partitions-clause-readers
returns-in_err-partitions-clause-readers g c = unmoved (job c.args.net.now c.args.p.now c.args.first c.args.traces.now) c.args.readers.now

pub run-outcome-requires-clause-count : goal.run-outcome-requires-clause-count
run-outcome-requires-clause-count g c lifetimes within =
    let before = c.in_ok-worker_set.worker_set.workers.items in
    let partitions = c.in_ok-partitions.partitions.items in
    let readers = sym (length-map before reader_of) ∙ ap (λ (l : List Reading). length l) c.in_ok-worker_set.ensures.worker_set.readers_are in
    let cuts = sym (length-map partitions partition_numbers) ∙ ap (λ (l : List (List ℕ)). length l) c.in_ok-partitions.ensures.cuts_are ∙ c.in_ok-cuts.ensures.count in
    let same = ap (λ (l : List Partition). length l) c.as_slice.ensures.value in
    let many = c.len-workers.ensures in
    omega (arith, readers, cuts, same, many)

pub run-outcome-requires-clause-can : goal.run-outcome-requires-clause-can
run-outcome-requires-clause-can g c lifetimes within =
    let j = job c.args.net.now c.args.p.now c.args.first c.args.traces.now in
    let before = c.in_ok-worker_set.worker_set.workers.items in
    let partitions = c.in_ok-partitions.partitions.items in
    let by_worker = c.in_ok-partitions.by_worker.items in
    let dealt = c.in_ok-partitions.ensures in
    let are = partitions_are j c.in_ok-cuts.cuts.items _ partitions by_worker c.in_ok-cuts.ensures.partitions dealt in
    subst (λ (l : List Partition). All (CanDrawFrom j l 0 (length l)) before) (sym c.as_slice.ensures.value)
    (all_can_draw j c.args.readers.now partitions by_worker before c.in_ok-worker_set.ensures.worker_set.readers_are c.requires.readers.each are dealt.fresh c.in_ok-worker_set.ensures.worker_set.turns_are)

pub end-turns-requires : goal.end-turns-requires
end-turns-requires g c =
    let room = c.in_ok-worker_set.ensures.worker_set.room in
    let kept = c.run-outcome.ensures.room in
    let many = AllZip-long _ c.in_ok-worker_set.worker_set.workers.items c.run-outcome.new.self.workers.items c.run-outcome.ensures.ran in
    record {
      no_readers = ap (λ v. v.items) kept.readers ∙ room.no_readers;
      no_turns = ap (λ v. v.items) kept.turns ∙ room.no_turns;
      readers = (let wide = ap (λ v. vec_capacity v) kept.readers in let fits = room.readers in omega arith);
      turns = (let wide = ap (λ v. vec_capacity v) kept.turns in let fits = room.turns in omega arith);
    }

pub returns-in_err-outcome-clause-readers : goal.returns-in_err-outcome-clause-readers
returns-in_err-outcome-clause-readers g c =
    let j = job c.args.net.now c.args.p.now c.args.first c.args.traces.now in
    let before = c.in_ok-worker_set.worker_set.workers.items in
    let after = c.run-outcome.new.self.workers.items in
    let partitions = c.in_ok-partitions.partitions.items in
    let ran = subst (λ (l : List Partition). AllZip (Ran j l) before after) c.as_slice.ensures.value c.run-outcome.ensures.ran in
    subst (λ (rs : List Reading). AllZip (ReadsWithin j) rs c.end-turns.new.readers) c.in_ok-worker_set.ensures.worker_set.readers_are
    (subst (AllZip (ReadsWithin j) (map reader_of before)) (sym c.end-turns.ensures.readers) (readers_stay j partitions before after ran))

pub returns-in_err-by_partition-clause-readers : goal.returns-in_err-by_partition-clause-readers
returns-in_err-by_partition-clause-readers g c =
    let j = job c.args.net.now c.args.p.now c.args.first c.args.traces.now in
    let before = c.in_ok-worker_set.worker_set.workers.items in
    let after = c.run-outcome.new.self.workers.items in
    let partitions = c.in_ok-partitions.partitions.items in
    let ran = subst (λ (l : List Partition). AllZip (Ran j l) before after) c.as_slice.ensures.value c.run-outcome.ensures.ran in
    subst (λ (rs : List Reading). AllZip (ReadsWithin j) rs c.end-turns.new.readers) c.in_ok-worker_set.ensures.worker_set.readers_are
    (subst (AllZip (ReadsWithin j) (map reader_of before)) (sym c.end-turns.ensures.readers) (readers_stay j partitions before after ran))

pub columns_of-requires : goal.columns_of-requires
columns_of-requires g c =
    let j = job c.args.net.now c.args.p.now c.args.first c.args.traces.now in
    let before = c.in_ok-worker_set.worker_set.workers.items in
    let after = c.run-outcome.new.self.workers.items in
    let partitions = c.in_ok-partitions.partitions.items in
    let ran = subst (λ (l : List Partition). AllZip (Ran j l) before after) c.as_slice.ensures.value c.run-outcome.ensures.ran in
    let did = all_did j partitions before after ran c.in_ok-outcome.ensures.all in
    let width : c.len.result ≡ length partitions = (let many = c.len.ensures in let whole = c.in_ok-partitions.partitions.ok.0 in omega (arith, many, whole)) in
    subst (λ (n : ℕ). All (λ (row : List Turn). length row ≡ n) c.end-turns.result.items) (sym width)
    (subst (λ (rows : List (List Turn)). All (λ (row : List Turn). length row ≡ length partitions) rows) (sym c.end-turns.ensures.turns) (rows_wide j partitions before after did))

pub gather-requires-clause-by_partition : goal.gather-requires-clause-by_partition
gather-requires-clause-by_partition g c =
    let j = job c.args.net.now c.args.p.now c.args.first c.args.traces.now in
    let before = c.in_ok-worker_set.worker_set.workers.items in
    let after = c.run-outcome.new.self.workers.items in
    let partitions = c.in_ok-partitions.partitions.items in
    let ran = subst (λ (l : List Partition). AllZip (Ran j l) before after) c.as_slice.ensures.value c.run-outcome.ensures.ran in
    let did = all_did j partitions before after ran c.in_ok-outcome.ensures.all in
    let width : c.len.result ≡ length partitions = (let many = c.len.ensures in let whole = c.in_ok-partitions.partitions.ok.0 in omega (arith, many, whole)) in
    let by_partition = c.in_ok-by_partition.by_partition.items in
    let columns = subst (λ (rows : List (List Turn)). AreColumnsOf rows (length partitions) by_partition) c.end-turns.ensures.turns
    (subst (λ (n : ℕ). AreColumnsOf c.end-turns.result.items n by_partition) width c.in_ok-by_partition.ensures) in
    let dealt = c.in_ok-partitions.ensures in
    let are = partitions_are j c.in_ok-cuts.cuts.items _ partitions c.in_ok-partitions.by_worker.items c.in_ok-cuts.ensures.partitions dealt in
    let readers = sym (length-map before reader_of) ∙ ap (λ (l : List Reading). length l) c.in_ok-worker_set.ensures.worker_set.readers_are in
    let count = AllZip-long _ before after ran ∙ readers ∙ sym c.len-workers.ensures in
    all_by_partition j partitions by_partition c.len-workers.result before after did columns dealt.claims are count

pub gather-requires-clause-whole : goal.gather-requires-clause-whole
gather-requires-clause-whole g c =
    let j = job c.args.net.now c.args.p.now c.args.first c.args.traces.now in
    partitions_cover j c.in_ok-cuts.cuts.items _ c.in_ok-partitions.partitions.items c.in_ok-partitions.by_worker.items c.in_ok-cuts.ensures.partitions c.in_ok-partitions.ensures

pub returns-clause-readers : goal.returns-clause-readers
returns-clause-readers g c =
    let j = job c.args.net.now c.args.p.now c.args.first c.args.traces.now in
    let before = c.in_ok-worker_set.worker_set.workers.items in
    let after = c.run-outcome.new.self.workers.items in
    let partitions = c.in_ok-partitions.partitions.items in
    let ran = subst (λ (l : List Partition). AllZip (Ran j l) before after) c.as_slice.ensures.value c.run-outcome.ensures.ran in
    subst (λ (rs : List Reading). AllZip (ReadsWithin j) rs c.end-turns.new.readers) c.in_ok-worker_set.ensures.worker_set.readers_are
    (subst (AllZip (ReadsWithin j) (map reader_of before)) (sym c.end-turns.ensures.readers) (readers_stay j partitions before after ran))

pub returns-clause-learns : goal.returns-clause-learns
returns-clause-learns g c =
    let j = job c.args.net.now c.args.p.now c.args.first c.args.traces.now in
    let before = c.in_ok-worker_set.worker_set.workers.items in
    let after = c.run-outcome.new.self.workers.items in
    let partitions = c.in_ok-partitions.partitions.items in
    let ran = subst (λ (l : List Partition). AllZip (Ran j l) before after) c.as_slice.ensures.value c.run-outcome.ensures.ran in
    let did = all_did j partitions before after ran c.in_ok-outcome.ensures.all in
    let width : c.len.result ≡ length partitions = (let many = c.len.ensures in let whole = c.in_ok-partitions.partitions.ok.0 in omega (arith, many, whole)) in
    let by_partition = c.in_ok-by_partition.by_partition.items in
    let columns = subst (λ (rows : List (List Turn)). AreColumnsOf rows (length partitions) by_partition) c.end-turns.ensures.turns
    (subst (λ (n : ℕ). AreColumnsOf c.end-turns.result.items n by_partition) width c.in_ok-by_partition.ensures) in
    let n = c.args.net.now in
    let p = c.args.p.now in
    let cover = partitions_cover j c.in_ok-cuts.cuts.items _ partitions c.in_ok-partitions.by_worker.items c.in_ok-cuts.ensures.partitions c.in_ok-partitions.ensures in
    on_ok_weaker c.gather.result (λ drawn.
    subst (λ (rs : List Reading). LearnAsked n p c.args.traces.now rs c.end-turns.new.readers) c.in_ok-worker_set.ensures.worker_set.readers_are
    (subst (LearnAsked n p c.args.traces.now (map reader_of before)) (sym c.end-turns.ensures.readers) (all_learn j partitions by_partition before after did cover columns drawn)))
    c.gather.ensures.drawn

pub cut-requires : goal.cut-requires
cut-requires g c = record { count = (let some = c.requires.readers.some in let many = c.len-workers.ensures in omega (arith, some, many)) }

pub overflow_cast-workers : goal.overflow_cast-workers
overflow_cast-workers g c = (let few = c.requires.readers.few in let many = c.len-workers.ensures in omega (arith, few, many))

pub deal-requires-clause-workers : goal.deal-requires-clause-workers
deal-requires-clause-workers g c =
    let some = c.requires.readers.some in
    let few = c.requires.readers.few in
    let many = c.len-workers.ensures in
    (omega (arith, some, many), omega (arith, few, many))

pub invariant_of-batch : goal.invariant_of-batch
invariant_of-batch g c = record { ground = c.requires.can.ground; lawful = c.requires.can.traces }

pub returns-clause-matched : goal.returns-clause-matched
returns-clause-matched g c = c.gather.ensures.matched
