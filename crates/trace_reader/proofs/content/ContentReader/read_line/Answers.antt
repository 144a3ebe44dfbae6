use Rattle.std.proofs.Common.{◌≡◌, ◌∙◌, false, sym}
use Rattle.std.specs.List.{list_all}
use Rattle.std.proofs.lemmas.Result.{on_ok_weaker, MatchResult-weaker}
use Rattle.decimal_text.specs.Blank.{is_blank}
use Rattle.trace_reader.specs.Content.{without_return}
use Rattle.trace_reader.proofs.Lines.{skip_line, bad_header, header_line, row_line, faulty_line}
use Rattle.trace_reader.proofs.content.ContentReader.read_line.Goals as goal

pub returns-then-is_skipped-clause-ok : goal.returns-then-is_skipped-clause-ok
returns-then-is_skipped-clause-ok c = skip_line _ _ _ (rw c.without_return-text.ensures at (sym c.is_skipped.ensures ∙ c.if-is_skipped.true))

pub returns-in-None-read_header-clause-err : goal.returns-in-None-read_header-clause-err
returns-in-None-read_header-clause-err c = λ _.
    bad_header _ _ _ (rw c.without_return-text.ensures at (sym c.is_skipped.ensures ∙ c.if-is_skipped.false)) c.in-None.is
    (rw c.without_return-text.ensures at (sym c.in-None-read_header.ensures))

pub returns-in-Some-read_header-clause-ok : goal.returns-in-Some-read_header-clause-ok
returns-in-Some-read_header-clause-ok c =
    header_line _ _ _ _ (rw c.without_return-text.ensures at (sym c.is_skipped.ensures ∙ c.if-is_skipped.false)) c.in-None.is
    (rw c.without_return-text.ensures at (sym c.in-Some-read_header.ensures))

pub returns-in-Ok-clause-ok : goal.returns-in-Ok-clause-ok
returns-in-Ok-clause-ok c =
    let text = c.without_return-text.ensures in
    let some : list_all is_blank (without_return c.args.line.now) ≡ false = rw text at (sym c.is_skipped.ensures ∙ c.if-is_skipped.false) in
    on_ok_weaker c.add_row.result (λ added. row_line _ _ _ _ _ _ some c.in-Some.is (rw text at c.in-Ok.ensures) added) c.add_row.ensures.ok

pub returns-in-Ok-clause-err : goal.returns-in-Ok-clause-err
returns-in-Ok-clause-err c =
    let text = c.without_return-text.ensures in
    let some : list_all is_blank (without_return c.args.line.now) ≡ false = rw text at (sym c.is_skipped.ensures ∙ c.if-is_skipped.false) in
    MatchResult-weaker c.add_row.result c.add_row.ensures.err (λ _ _. tt) (λ fault told known. row_line _ _ _ _ _ _ some c.in-Some.is (rw text at c.in-Ok.ensures) (told known))

pub returns-in-Err-clause-err : goal.returns-in-Err-clause-err
returns-in-Err-clause-err c = λ _.
    let text = c.without_return-text.ensures in
    faulty_line _ _ _ _ _ (rw text at (sym c.is_skipped.ensures ∙ c.if-is_skipped.false)) c.in-Some.is (rw text at c.in-Err.ensures)
