use Rattle.table_work.proofs.RowsOfText.{left_short}
use Rattle.table_work.proofs.reading.read_text.Goals as goal

pub read_rows-requires : goal.read_rows-requires
read_rows-requires c = left_short c.args.text.now c.as_slice.result.now c.in-Some.rest.now c.in-Some.ensures c.if-text-gt-TEXT_LIMIT.false
