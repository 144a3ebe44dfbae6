-- What a writer is made of.
use Rattle.std.specs.Prelude.{◌≤◌, length}
use Rattle.table_work.specs.Draft.{Draft}
use Rattle.table_work.specs.TableText.{table_text_limit}
use Rattle.table_work.specs.declared.writing.TableWriter.TheInside.{Inside}

abbrev pub draft_of : Inside → Draft
draft_of a = record { lines = a.text; rows = a.rows }

-- the lines are within the limit, and each row has a byte at least
pub record IsWithinLimit (a : Inside) : Type 0 where
  pub few : a.rows ≤ length a.text
  pub short : length a.text ≤ table_text_limit
