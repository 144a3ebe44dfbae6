use Rattle.std.proofs.Common.{◌≡◌, ℕ, zero, suc, length, replicate, refl, sym, ap, ◌∙◌, subst, arith}
use Rattle.std.proofs.lemmas.List.Elements.{All-replicate}
use Rattle.match_pool.specs.Learning.{AreReadersFor}
use Rattle.match_pool.specs.Working.{IsReaderFor}
use Rattle.row_store.specs.Store.{Reading, fresh_reading}
use Rattle.match_tests.proofs.workers.readers_of.Goals as goal

length-replicate : (k : ℕ) (r : Reading) → length (replicate k r) ≡ k
length-replicate zero r = refl
length-replicate (suc k) r = omega (arith, length-replicate k r)

pub returns : goal.returns
returns c =
    let low = c.loop-test.false in
    let high = c.loop.auto.counter-end in
    let all : c.loop.counter ≡ c.args.count = omega (arith, low, high) in
    let store = c.args.store.now in
    let size = length-replicate c.args.count (fresh_reading store) in
    let count = c.requires.count in
    subst (AreReadersFor store.network _) (sym (c.loop.invariant ∙ ap (λ n. replicate n (fresh_reading store)) all)) (record {
      some = omega (arith, size, count.0);
      few = omega (arith, size, count.1);
      each = All-replicate (IsReaderFor store.network _) c.args.count (fresh_reading store) (record { network = refl; bound = c.requires.bound });
      store = store;
      shared = All-replicate (λ (r : Reading). r.store ≡ store) c.args.count (fresh_reading store) refl;
    })
