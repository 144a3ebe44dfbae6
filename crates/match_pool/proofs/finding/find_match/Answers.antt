use Rattle.std.proofs.Common.{◌≡◌, true, sym, ◌∙◌}
use Rattle.std.proofs.lemmas.Result.{IfOk-weaker}
use Rattle.bounded_table.proofs.Asking.{asks_done, asks_err, asks_nothing, asks_ok}
use Rattle.row_store.specs.Store.{rows_state}
use Rattle.trace_match.specs.Match.{asks}
use Rattle.match_pool.proofs.OneFix.{one_asks}
use Rattle.match_pool.proofs.Unmatched.{unmatched_asks, unmatched_is}
use Rattle.match_pool.proofs.finding.find_match.Goals as goal

pub returns-then-len-eq1-clause-asks : goal.returns-then-len-eq1-clause-asks
returns-then-len-eq1-clause-asks c =
    let state = rows_state c.args.reader.now in
    let asked = one_asks c.args.batch.now.net.now c.args.batch.now.params.now c.args.trace.now state (sym c.len.ensures ∙ c.if-len-eq1.true) in
    asks_done asked

pub returns-then-branch-clause-matched : goal.returns-then-branch-clause-matched
returns-then-branch-clause-matched c =
    let n = c.args.batch.now.net.now in
    let p = c.args.batch.now.params.now in
    let trace = c.args.trace.now in
    let same = unmatched_is n p trace c.args.batch.now.ground.options c.requires.trace (c.in_ok-is_surely_far.ensures c.if-branch.true) in
    IfOk-weaker c.unmatched.result _ _ (λ matched is. is ∙ same) c.unmatched.ensures

pub returns-then-branch-clause-asks : goal.returns-then-branch-clause-asks
returns-then-branch-clause-asks c =
    let n = c.args.batch.now.net.now in
    let p = c.args.batch.now.params.now in
    let trace = c.args.trace.now in
    let state = rows_state c.args.reader.now in
    let asked = unmatched_asks n p trace state c.args.batch.now.ground.options c.requires.trace (c.in_ok-is_surely_far.ensures c.if-branch.true) in
    asks_done asked

pub returns-in_err-is_surely_far-clause-asks : goal.returns-in_err-is_surely_far-clause-asks
returns-in_err-is_surely_far-clause-asks c =
    asks_err (asks_nothing (rows_state c.args.reader.now) (λ v. asks c.args.batch.now.net.now c.args.batch.now.params.now c.args.trace.now v ≡ true)) c.from_residual.ensures.0

pub returns-in_err-answer-clause-asks : goal.returns-in_err-answer-clause-asks
returns-in_err-answer-clause-asks c = asks_err c.match_one.ensures.asks.only c.from_residual-in_err-answer.ensures.0

pub returns-clause-asks : goal.returns-clause-asks
returns-clause-asks c = asks_done (asks_ok c.match_one.ensures.asks c.in_ok-answer.was)
