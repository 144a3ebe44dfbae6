use Rattle.std.proofs.Common.{◌≡◌, ◌⊎◌, ◌∙◌, ap, subst, map, string_bytes, inl, Err, Ok}
use Rattle.command_line.specs.Words.{command_of}
use Rattle.command_line.specs.Work.{plain}
use Rattle.command_line.specs.declared.fault.WordsFault.TheVariants.{Memory}
use Rattle.live_pipeline.specs.Words.{asked_of_live_words}
use Rattle.program_frame.proofs.Stages.{memory_performs}
use Rattle.live_pipeline.proofs.Asked.{asked_follow, other_refuse, words_refuse}
use Rattle.live_pipeline.proofs.top.perform.Goals as goal

pub returns-in_default : goal.returns-in_default
returns-in_default g c =
    inl (memory_performs (asked_of_live_words (map string_bytes c.args.words.now)) (g.S.Shelf.state c.args.shelf) (g.K.Sink.state c.args.out.now))

pub returns-in-Err : goal.returns-in-Err
returns-in-Err g c =
    let same = ap (map string_bytes) c.as_slice.ensures.value ∙ c.in-Ok.ensures in
    words_refuse (map string_bytes c.args.words.now) c.in-Err.fault (g.S.Shelf.state c.args.shelf) (g.K.Sink.state c.args.out.now) c.refuse_fault.result (subst (λ ws. (c.in-Err.fault ≡ Memory) ⊎ (command_of ws ≡ Err c.in-Err.fault)) same c.in-Err.ensures.err) c.refuse_fault.ensures

pub returns-in-Follow : goal.returns-in-Follow
returns-in-Follow g c =
    let same = ap (map string_bytes) c.as_slice.ensures.value ∙ c.in-Ok.ensures in
    asked_follow (map string_bytes c.args.words.now) c.in-Ok-read_command.command c.in-Follow.files (g.S.Shelf.state c.args.shelf) (g.S.Shelf.state c.follow_live.result.1) (g.K.Sink.state c.args.out.now) (g.K.Sink.state c.follow_live.new.out) c.follow_live.result.0 (subst (λ ws. command_of ws ≡ Ok (plain c.in-Ok-read_command.command)) same c.in-Ok-read_command.ensures.ok) c.in-Follow.is c.follow_live.ensures

pub returns : goal.returns
returns g c =
    let same = ap (map string_bytes) c.as_slice.ensures.value ∙ c.in-Ok.ensures in
    other_refuse (map string_bytes c.args.words.now) c.in-Ok-read_command.command (g.S.Shelf.state c.args.shelf) (g.K.Sink.state c.args.out.now) c.refuse_fault-refused.result (subst (λ ws. command_of ws ≡ Ok (plain c.in-Ok-read_command.command)) same c.in-Ok-read_command.ensures.ok) c.in_default-work.not-Follow c.refuse_fault-refused.ensures
