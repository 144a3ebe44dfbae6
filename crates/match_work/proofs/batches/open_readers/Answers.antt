use Rattle.std.proofs.Common.{◌≡◌, replicate, sym, ap, ◌∙◌, subst, arith}
use Rattle.cost_model.specs.Options.{IsAccepted}
use Rattle.cost_model.specs.declared.params.Params.{Params}
use Rattle.row_store.specs.Store.{fresh_reading}
use Rattle.match_work.specs.Sharing.{ShareStore}
use Rattle.match_work.proofs.Sharing.{share_fresh}
use Rattle.match_work.proofs.batches.open_readers.Goals as goal

pub returns-clause-fresh : goal.returns-clause-fresh
returns-clause-fresh c =
    let low = c.loop-test.false in
    let high = c.loop.auto.counter-end in
    let view = ap (λ (p : Params). p.workers) c.params-params.ensures.is in
    let all : c.loop.counter ≡ c.args.matcher.now.params.workers = omega (arith, low, high, view) in
    c.loop.invariant ∙ ap (λ n. replicate n (fresh_reading c.args.store.now)) all

pub returns-clause-shared : goal.returns-clause-shared
returns-clause-shared c =
    let low = c.loop-test.false in
    let high = c.loop.auto.counter-end in
    let view = ap (λ (p : Params). p.workers) c.params-params.ensures.is in
    let all : c.loop.counter ≡ c.args.matcher.now.params.workers = omega (arith, low, high, view) in
    let fresh = c.loop.invariant ∙ ap (λ n. replicate n (fresh_reading c.args.store.now)) all in
    let accepted = subst IsAccepted c.params-params.ensures.is c.params-params.ensures.accepted in
    subst (ShareStore c.args.matcher.now) (sym fresh) (share_fresh c.args.matcher.now c.args.store.now accepted c.requires)
