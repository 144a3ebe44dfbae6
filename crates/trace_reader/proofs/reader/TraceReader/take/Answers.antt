use Rattle.std.proofs.Common.{◌≡◌, ◌-◌, ◌∙◌, false, length, take, drop, ap, sym, subst, arith}
use Rattle.std.proofs.lemmas.Grind.{common_steps}
use Rattle.trace_reader.specs.inside.Parts.{is_reached}
use Rattle.trace_reader.specs.inside.Steps.{Refuses, TakesLine}
use Rattle.trace_reader.proofs.Underway.{underway_more, fails_underway}
use Rattle.trace_reader.proofs.reader.TraceReader.take.Goals as goal

pub returns-in-Err-clause-err : goal.returns-in-Err-clause-err
returns-in-Err-clause-err c = λ _.
    let chunk = c.args.chunk.now in
    let taken = c.loop-taken.taken in
    let rest : take (length chunk - taken) (drop taken chunk) ≡ drop taken chunk = grind (arith, common_steps) in
    let open_end : is_reached c.args.most (length c.loop-taken.into - length c.args.into.now) ≡ false =
    ap (λ n. is_reached c.args.most (length c.loop-taken.into - n)) (sym c.loop-taken.invariant.before) ∙ ap (λ n. is_reached c.args.most (n - c.len-before.result)) (sym c.len.ensures)
    ∙ sym c.is_reached.ensures ∙ c.if-not-is_reached.true in
    fails_underway c.args.self.now chunk c.args.most c.args.into.now taken c.loop-taken.self c.loop-taken.into c.take_line.new.into c.in-Err.found c.loop-taken.invariant.underway open_end
    (subst (λ bytes. Refuses c.loop-taken.self bytes c.loop-taken.into c.in-Err.found) rest c.in-Err.ensures.err) c.in-Err.ensures.same

pub loop-taken-preserved : goal.loop-taken-preserved
loop-taken-preserved c =
    let chunk = c.args.chunk.now in
    let taken = c.loop-taken.taken in
    let rest : take (length chunk - taken) (drop taken chunk) ≡ drop taken chunk = grind (arith, common_steps) in
    let open_end : is_reached c.args.most (length c.loop-taken.into - length c.args.into.now) ≡ false =
    ap (λ n. is_reached c.args.most (length c.loop-taken.into - n)) (sym c.loop-taken.invariant.before) ∙ ap (λ n. is_reached c.args.most (n - c.len-before.result)) (sym c.len.ensures)
    ∙ sym c.is_reached.ensures ∙ c.if-not-is_reached.true in
    record {
      underway =
          underway_more c.args.self.now chunk c.args.most c.args.into.now taken c.in-Ok.bytes c.loop-taken.self c.take_line.new.self c.loop-taken.into c.take_line.new.into
          c.loop-taken.invariant.underway open_end
          (subst (λ bytes. TakesLine c.loop-taken.self bytes c.loop-taken.into c.in-Ok.bytes c.take_line.new.self c.take_line.new.into) rest c.in-Ok.ensures.ok);
      before = c.loop-taken.invariant.before;
      fault = c.in-Ok.ensures.fault ∙ c.loop-taken.invariant.fault;
    }
