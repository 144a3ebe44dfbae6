use Rattle.std.proofs.Common.{◌≡◌, List, length, vec_len, rules, sym, ap, subst, arith}
use Rattle.std.specs.List.{AllZip}
use Rattle.std.proofs.lemmas.List.{with_items_is}
use Rattle.match_pool.specs.inside.WorkerSet.{Ran}
use Rattle.match_pool.specs.Drawing.{job_of}
use Rattle.match_pool.specs.declared.worker_set.Worker.{Worker}
use Rattle.match_pool.proofs.Yields.{zip_from}
use Rattle.match_pool.proofs.worker_set.WorkerSet.run.Goals as goal

pub returns-clause-ran : goal.returns-clause-ran
returns-clause-ran g c =
    let did = Ran (job_of c.args.batch.now) c.args.partitions.now in
    let worker_set = c.args.self.now.workers in
    let lent = c.as_mut_slice-workers.result.now in
    let left = c.run_all.new.workers in
    let same : lent ≡ worker_set.items = c.as_mut_slice-workers.ensures.value in
    let kept : length left ≡ length lent = search rules in
    let all = subst (λ workers. AllZip did workers left) same (zip_from did lent left kept c.run_all.ensures) in
    let before : length lent ≡ length worker_set.items = ap (λ (l : List Worker). length l) same in
    let long : length left ≡ vec_len worker_set = (let whole = worker_set.ok.0 in omega arith) in
    subst (AllZip did worker_set.items) (sym (with_items_is worker_set left long)) all
