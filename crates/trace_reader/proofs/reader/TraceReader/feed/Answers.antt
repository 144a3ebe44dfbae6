use Rattle.std.proofs.Common.{◌≡◌, ◌∙◌, ◌++◌, length, take, ap, subst, refl, arith}
use Rattle.std.proofs.lemmas.Grind.{common_steps}
use Rattle.trace_reader.specs.Reader.{StandsFor, Closes}
use Rattle.trace_reader.proofs.Feeding.{feeds_ok, feeds_err}
use Rattle.trace_reader.proofs.reader.TraceReader.feed.Goals as goal

pub returns-in-Ok-clause-fed : goal.returns-in-Ok-clause-fed
returns-in-Ok-clause-fed c = λ fed stands.
    let chunk = c.args.chunk.now in
    let told = c.in-Ok.ensures.ok in
    let whole : take (length chunk) chunk ≡ chunk = grind (arith, common_steps) in
    let all : take c.in-Ok.field-0 chunk ≡ chunk = ap (λ n. take n chunk) (told.2.whole refl) ∙ whole in
    subst (λ bytes. StandsFor c.take.new.self (fed ++ bytes) × Closes fed bytes c.args.into.now c.take.new.into) all
    (feeds_ok c.args.self.now c.take.new.self fed (take c.in-Ok.field-0 chunk) c.args.into.now c.take.new.into stands told.2.reached told.1)

pub returns-in-Err-clause-fed : goal.returns-in-Err-clause-fed
returns-in-Err-clause-fed c = λ fed stands. feeds_err c.args.self.now fed c.args.chunk.now _ c.args.into.now c.take.new.into c.in-Err.fault stands (c.in-Err.ensures.err stands.sound)
