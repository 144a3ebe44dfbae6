use Rattle.std.proofs.Common.{map, string_bytes}
use Rattle.command_line.specs.Work.{plain}
use Rattle.program_frame.proofs.Asked.{words_refuse}
use Rattle.program_frame.proofs.RunEnds.{promises}
use Rattle.program_run.specs.Words.{every_work}
use Rattle.program_run.proofs.Asked.{asked_command}
use Rattle.program_run.proofs.Lines.{lines_covered}
use Rattle.program_run.proofs.top.run_within.Goals as goal

pub returns-in-Ok : goal.returns-in-Ok
returns-in-Ok g c =
    let words = map string_bytes c.args.words.now in
    let performs = asked_command c.args.program.now.limits words (plain c.in-Ok.command) (g.S.Shelf.state c.args.shelf.now) (g.S.Shelf.state c.perform-ended.new.shelf) (g.K.Sink.state c.args.out.now) (g.K.Sink.state c.perform-ended.new.out) c.perform-ended.result c.in-Ok.ensures.ok c.perform-ended.ensures in
    let said = c.report.ensures in
    rw said.is (promises _ _ _ _ _ _ _ _ _ (lines_covered c.args.program.now.limits words) performs said.puts said.quiet)

pub returns-in-Err : goal.returns-in-Err
returns-in-Err g c =
    let words = map string_bytes c.args.words.now in
    let performs = words_refuse (every_work c.args.program.now.limits) words c.in-Err.fault (g.S.Shelf.state c.args.shelf.now) (g.K.Sink.state c.args.out.now) c.refuse_fault.result c.in-Err.ensures.err c.refuse_fault.ensures in
    let said = c.report-in-Err.ensures in
    rw said.is (promises _ _ _ _ _ _ _ _ _ (lines_covered c.args.program.now.limits words) performs said.puts said.quiet)
