use Rattle.std.proofs.Common.{◌∙◌, [], refl, sym, ap}
use Rattle.trace_reader.specs.Content.{no_content}
use Rattle.trace_reader.specs.Reading.{reads, reading_of}
use Rattle.trace_reader.proofs.reader.TraceReader.open.Goals as goal

pub returns : goal.returns
unfolding reading_of
returns c = record {
  given = [];
  reading =
      ap (λ line. reads (record { bytes = 0; lines = 0; line = line; content = no_content })) (sym c.new-2.ensures)
      ∙ ap (λ content. reads (record { bytes = 0; lines = 0; line = c.new-2.result; content = content })) (sym c.new.ensures);
  sound = refl;
}
