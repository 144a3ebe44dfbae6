use Rattle.std.proofs.Common.{◌≡◌, ◌++◌, refl, sym, subst, append-nil}
use Rattle.std.proofs.lemmas.List.{take_all}
use Rattle.match_work.specs.Matched.{pieces_in}
use Rattle.match_work.specs.inside.Calls.{text_of_matches}
use Rattle.match_work.proofs.TraceMatches.{pieces_next, texts_next}
use Rattle.match_work.proofs.texts.write_matches.Goals as goal

pub loop-matched-init : goal.loop-matched-init
loop-matched-init c = record { text = sym (append-nil c.args.into.now); pieces = refl }

pub loop-matched-preserved : goal.loop-matched-preserved
loop-matched-preserved c =
    let inv = c.loop-matched.invariant in
    record {
      text = texts_next c.args.matches.now c.loop-matched.matched-index c.matched-item.result c.args.into.now c.loop-matched.into c.write_match.new.into c.loop-matched-test.true c.matched-item.is inv.text c.in_ok-write_match.ensures.ok;
      pieces = pieces_next c.args.matches.now c.loop-matched.matched-index c.matched-item.result c.loop-matched.pieces c.len.result c.loop-matched-test.true c.matched-item.is inv.pieces c.len.ensures;
    }

pub returns-clause-text : goal.returns-clause-text
returns-clause-text c =
    subst (λ m. c.loop-matched.into ≡ c.args.into.now ++ text_of_matches m) (take_all c.loop-matched.matched-index c.args.matches.now c.loop-matched-test.false) c.loop-matched.invariant.text

pub returns-clause-pieces : goal.returns-clause-pieces
returns-clause-pieces c =
    subst (λ m. c.loop-matched.pieces ≡ pieces_in m) (take_all c.loop-matched.matched-index c.args.matches.now c.loop-matched-test.false) c.loop-matched.invariant.pieces
