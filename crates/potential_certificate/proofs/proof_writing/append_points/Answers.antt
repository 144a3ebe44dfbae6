use Rattle.std.proofs.Common.{sym, ap, ◌∙◌, ◌++◌, List, ℕ, drop, rules}
use Rattle.std.proofs.lemmas.List.{append-nil}
use Rattle.std.proofs.lemmas.Option.{slice_get_past}
use Rattle.potential_certificate.proofs.KeptFronts.{kept_on, kept_twice, on_err}
use Rattle.potential_certificate.proofs.WrittenLines.{no_lines}
use Rattle.potential_certificate.proofs.proof_writing.append_points.Goals as goal

pub returns-in_default-clause-ok : goal.returns-in_default-clause-ok
returns-in_default-clause-ok c =
    sym (append-nil c.loop-point.into)
    ∙ ap (λ (t : List ℕ). c.loop-point.into ++ t) (sym (no_lines c.loop-point.point (drop c.loop-point.point c.args.ranks.now) c.args.tables.now c.loop-point.unwritten.now c.loop-point.point (slice_get_past c.args.tables.now c.loop-point.point (search rules))))
    ∙ c.loop-point.invariant.all

pub returns-in_err-append_point-clause-err : goal.returns-in_err-append_point-clause-err
returns-in_err-append_point-clause-err c =
    on_err _ (kept_twice c.args.into.now c.loop-point.into c.append_point.new.into c.loop-point.invariant.kept (search (rules, c.append_point.ensures.err)))

pub returns-in_err-write_piece-clause-err : goal.returns-in_err-write_piece-clause-err
returns-in_err-write_piece-clause-err c =
    on_err _ (kept_twice c.args.into.now c.loop-point.into c.write_piece.new.into c.loop-point.invariant.kept
    (kept_on c.loop-point.into _ c.write_piece.new.into (search (rules, c.write_piece.ensures.err) ∙ c.in_ok-append_point.ensures.ok)))
