use Rattle.std.proofs.Common.{◌≡◌, ◌+◌, ◌∙◌, ◌∷◌, ◌++◌, [], length, take, drop, ap, sym, subst, arith}
use Rattle.std.proofs.lemmas.Result.{err_from_is_err_and}
use Rattle.std.proofs.lemmas.List.{take-append-drop}
use Rattle.std.proofs.lemmas.Grind.{common_steps}
use Rattle.trace_reader.specs.Reading.{read_bytes, refused}
use Rattle.trace_reader.specs.inside.Steps.{start_of, Reaches}
use Rattle.trace_reader.proofs.Places.{HasNo-none, HasNo-before}
use Rattle.trace_reader.proofs.Steps.{refused_in_front, to_first_end, quiet_in_part}
use Rattle.trace_reader.proofs.reader.TraceReader.take_line.Goals as goal

pub end_line-requires : goal.end_line-requires
end_line-requires c = HasNo-before 10 c.args.bytes.now c.in-Some.end c.in-Some.ensures.0

pub returns-in_err-end_line-in-Some-clause-err : goal.returns-in_err-end_line-in-Some-clause-err
returns-in_err-end_line-in-Some-clause-err c =
    let p = err_from_is_err_and c.from_residual.result c.from_residual.ensures.1 in
    let bytes = c.args.bytes.now in
    let place = c.in-Some.end in
    let front : take place bytes ++ 10 ∷ [] ≡ take (place + 1) bytes = sym (to_first_end bytes place c.in-Some.ensures.0.high c.in-Some.ensures.1) in
    rw (p.1, p.2) (λ known.
    subst (λ all. read_bytes (start_of c.args.self.now c.args.into.now) all ≡ refused c.args.into.now c.in_err-end_line-in-Some.field-0.0) (ap (λ xs. xs ++ drop (place + 1) bytes) front ∙ take-append-drop (place + 1) bytes)
    (refused_in_front _ (take place bytes ++ 10 ∷ []) (drop (place + 1) bytes) _ _ (c.in_err-end_line-in-Some.ensures.err known)))

pub keep-requires : goal.keep-requires
keep-requires c = HasNo-none 10 c.args.bytes.now c.in-None.ensures

pub returns-in_ok-end_line-in-Some-clause-ok : goal.returns-in_ok-end_line-in-Some-clause-ok
returns-in_ok-end_line-in-Some-clause-ok c =
    let bytes = c.args.bytes.now in
    let place = c.in-Some.end in
    let below = c.in-Some.ensures.0.high in
    record {
      some = omega arith;
      within = omega arith;
      reached = subst (λ part. Reaches c.args.self.now part c.args.into.now c.end_line.new.self c.end_line.new.into) (sym (to_first_end bytes place below c.in-Some.ensures.1)) c.in_ok-end_line-in-Some.ensures.ok.reached;
      quiet = λ k h. quiet_in_part c.args.self.now bytes c.args.into.now place k (HasNo-before 10 bytes place c.in-Some.ensures.0) (omega arith);
      one = c.in_ok-end_line-in-Some.ensures.ok.one;
    }

pub returns-in_ok-keep-in-None-clause-ok : goal.returns-in_ok-keep-in-None-clause-ok
returns-in_ok-keep-in-None-clause-ok c =
    let bytes = c.args.bytes.now in
    let all : take (length bytes) bytes ≡ bytes = grind (arith, common_steps) in
    record {
      some = c.requires;
      within = omega arith;
      reached = subst (λ part. Reaches c.args.self.now part c.args.into.now c.keep.new.self c.args.into.now) (sym all) (c.in_ok-keep-in-None.ensures.ok c.args.into.now);
      quiet = λ k h. quiet_in_part c.args.self.now bytes c.args.into.now (length bytes) k (rw all (HasNo-none 10 bytes c.in-None.ensures)) (omega arith);
      one = omega arith;
    }
