use Rattle.std.proofs.Common.{◌≡◌, ◌≤◌, ◌+◌, ◌∙◌, ◌∷◌, ◌++◌, [], length, Ok, ap, subst, sym}
use Rattle.std.proofs.lemmas.Bool.{eqb-true}
use Rattle.std.proofs.lemmas.List.{nil_from_length}
use Rattle.std.proofs.lemmas.Result.{err_from_is_err_and}
use Rattle.trace_reader.specs.Content.{read_line}
use Rattle.trace_reader.specs.Reading.{reads, end_line}
use Rattle.trace_reader.specs.Reader.{content_of, progress_of}
use Rattle.trace_reader.proofs.Steps.{refused_in_part, refused_in_front, refused_at_end, ended}
use Rattle.trace_reader.proofs.Unended.{with_part}
use Rattle.trace_reader.proofs.reader.TraceReader.end_line.Goals as goal
use Rattle.trace_reader.proofs.reader.TraceReader.end_line.Goals.{then-is_empty+in_ok-read_line, else-is_empty+in_ok-extend_from_slice+in_ok-read_line-2}

pub returns-in_err-check_limits-clause-err : goal.returns-in_err-check_limits-clause-err
returns-in_err-check_limits-clause-err c =
    let p = err_from_is_err_and c.from_residual.result c.from_residual.ensures.1 in
    rw (p.1, p.2) (λ _. refused_in_front _ c.args.part.now (10 ∷ []) _ _ (refused_in_part c.args.self.now c.args.part.now c.args.into.now _ c.requires c.in_err-check_limits.ensures.err))

pub returns-then-bytes-eq-FILE_LIMIT-clause-err : goal.returns-then-bytes-eq-FILE_LIMIT-clause-err
returns-then-bytes-eq-FILE_LIMIT-clause-err c = λ _.
    refused_at_end c.args.self.now c.args.part.now c.args.into.now c.requires c.in_ok-check_limits.ensures.ok c.if-bytes-eq-FILE_LIMIT.true

pub returns-in_err-read_line-clause-err : goal.returns-in_err-read_line-clause-err
returns-in_err-read_line-clause-err c =
    let reader = c.args.self.now in
    let r = c.from_residual-in_err-read_line in
    let p = err_from_is_err_and r.result r.ensures.1 in
    let empty : reader.line ≡ [] = sym c.as_slice.ensures ∙ nil_from_length c.as_slice.result.now (eqb-true (length c.as_slice.result.now) 0 (sym c.if-is_empty.ensures)) in
    rw (p.1, p.2) (λ known.
    ended reader c.args.part.now c.args.into.now c.requires c.in_ok-check_limits.ensures.ok c.if-bytes-eq-FILE_LIMIT.false
    ∙ ap (end_line (with_part (progress_of reader c.args.into.now) c.args.part.now))
    (ap (λ line. read_line (reader.lines + 1) (content_of reader.content c.args.into.now) (line ++ c.args.part.now)) empty ∙ c.in_err-read_line.ensures.err known))

pub returns-in_err-read_line-2-clause-err : goal.returns-in_err-read_line-2-clause-err
returns-in_err-read_line-2-clause-err c =
    let reader = c.args.self.now in
    let r = c.from_residual-in_err-read_line-2 in
    let p = err_from_is_err_and r.result r.ensures.1 in
    let whole : c.as_slice-else-is_empty.result.now ≡ reader.line ++ c.args.part.now = c.as_slice-else-is_empty.ensures ∙ c.in_ok-extend_from_slice.ensures.ok in
    rw (p.1, p.2) (λ known.
    ended reader c.args.part.now c.args.into.now c.requires c.in_ok-check_limits.ensures.ok c.if-bytes-eq-FILE_LIMIT.false
    ∙ ap (end_line (with_part (progress_of reader c.args.into.now) c.args.part.now))
    (ap (read_line (reader.lines + 1) (content_of reader.content c.args.into.now)) (sym whole) ∙ c.in_err-read_line-2.ensures.err known))

pub returns-clause-ok : goal.returns-clause-ok
returns-clause-ok c =
    let reader = c.args.self.now in
    let part = c.args.part.now in
    let into = c.args.into.now in
    let content = c.if-is_empty.self.1.0 in
    let new = c.if-is_empty.into in
    let read : (read_line (reader.lines + 1) (content_of reader.content into) (reader.line ++ part) ≡ Ok (content_of content new)) × (c.if-is_empty.self.1.1.0 ≡ []) × (length new ≤ length into + 1) =
    elim c.if-is_empty.branch [
      | then-is_empty+in_ok-read_line w ↦
          let empty : reader.line ≡ [] = sym c.as_slice.ensures ∙ nil_from_length c.as_slice.result.now (eqb-true (length c.as_slice.result.now) 0 (sym w.if-is_empty.ensures)) in (
            ap (λ line. read_line (reader.lines + 1) (content_of reader.content into) (line ++ part)) empty
                ∙ w.in_ok-read_line.ensures.ok
                ∙ ap (λ x. Ok (content_of x w.read_line.new.into)) (sym (ap (λ x. x.1.0) w.self-is))
                ∙ ap (λ xs. Ok (content_of content xs)) (sym w.into-is),
            ap (λ x. x.1.1.0) w.self-is ∙ empty,
            subst (λ xs. length xs ≤ length into + 1) (sym w.into-is) w.in_ok-read_line.ensures.one,
          )
      | else-is_empty+in_ok-extend_from_slice+in_ok-read_line-2 w ↦
          let whole : w.as_slice-else-is_empty.result.now ≡ reader.line ++ part = w.as_slice-else-is_empty.ensures ∙ w.in_ok-extend_from_slice.ensures.ok in (
            ap (read_line (reader.lines + 1) (content_of reader.content into)) (sym whole)
                ∙ w.in_ok-read_line-2.ensures.ok
                ∙ ap (λ x. Ok (content_of x w.read_line-else-is_empty.new.into)) (sym (ap (λ x. x.1.0) w.self-is))
                ∙ ap (λ xs. Ok (content_of content xs)) (sym w.into-is),
            ap (λ x. x.1.1.0) w.self-is ∙ w.truncate.ensures,
            subst (λ xs. length xs ≤ length into + 1) (sym w.into-is) w.in_ok-read_line-2.ensures.one,
          )
    ] in
    record {
      reached =
          ended reader part into c.requires c.in_ok-check_limits.ensures.ok c.if-bytes-eq-FILE_LIMIT.false
          ∙ ap (end_line (with_part (progress_of reader into) part)) read.0
          ∙ ap (λ line. reads (record { bytes = reader.bytes + length part + 1; lines = reader.lines + 1; line = line; content = content_of content new })) (sym read.1);
      one = read.2;
    }
