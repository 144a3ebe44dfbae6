use Rattle.std.proofs.Common.{◌<◌, List, length, arith}
use Rattle.row_search.specs.declared.queue.Waiting.{Waiting}
use Rattle.row_search.proofs.AfterArcs.{next_aside, next_taken}
use Rattle.row_search.proofs.queue.Queue.take.Goals as goal

pub returns-then-next-self : goal.returns-then-next-self
returns-then-next-self c =
    let near : List Waiting = c.loop-self.self-inside.near in
    let lt : c.loop-self.self-inside.head < length near = omega (arith, c.loop-self-test.true, c.len.ensures) in
    next_taken c.loop-self.self-inside.far near c.args.self.now c.loop-self.self-inside.head c.at-next.result lt c.at-next.ensures c.loop-self.invariant.same

pub loop-self-preserved : goal.loop-self-preserved
loop-self-preserved c =
    let near : List Waiting = c.loop-self.self-inside.near in
    let lt : c.loop-self.self-inside.head < length near = omega (arith, c.loop-self-test.true, c.len.ensures) in
    record {
      head = omega (arith, lt);
      same = next_aside c.loop-self.self-inside.far near c.args.self.now c.push.new.self c.loop-self.self-inside.head c.at-next.result lt c.at-next.ensures c.loop-self.invariant.same c.in_ok-push.ensures;
    }
