use Rattle.std.proofs.Common.{◌≡◌, ◌∙◌, OnOk, arith, subst}
use Rattle.follow_work.proofs.StreamTakes.{rows-are}
use Rattle.follow_work.proofs.StreamTotals.{can-end, ending-is, few-in-all}
use Rattle.follow_work.proofs.streams.StreamJobJob.finish.Goals as goal

pub close_all-requires-clause-rows : goal.close_all-requires-clause-rows
close_all-requires-clause-rows c = rows-are _ _ _ _ _ c.requires.1

pub close_all-requires-clause-can : goal.close_all-requires-clause-can
close_all-requires-clause-can c = can-end _ _ _ _ _ c.requires.1

pub overflow_add-tally : goal.overflow_add-tally
overflow_add-tally c =
    let few = few-in-all c.args.self.now.matcher.now c.args.self.now.sessions c.args.self.now.rows c.args.self.now.tally c.requires.0 _ _ c.in_ok-pieces.pieces c.requires.1 (c.in_ok-pieces.ensures.ends _ c.requires.1.stands) in
    omega (arith, few)

pub returns : goal.returns
returns c taken has =
    subst (λ t. OnOk c.append_line.result (c.append_line.new.into ≡ t))
    (ending-is c.args.self.now.matcher.now c.args.self.now.sessions c.args.self.now.rows c.close_all.new.rows c.args.self.now.tally taken c.count-ids.result c.in_ok-pieces.pieces c.from.result c.args.into.now c.close_all.new.into
    has (c.in_ok-pieces.ensures.ends _ has.stands) (c.close_all.ensures.asks _ has.stands) c.invariants.ensures (c.from.ensures ∙ c.count.ensures) (c.count-ids.ensures _ has.stands)) c.append_line.ensures
