-- A reader of records that is between two of them.
use Rattle.std.specs.Prelude.{ℕ, ◌≡◌, ◌+◌, ◌<◌, ◌∷◌, false, true, List, [], length, reverse, Option, Some, unwrap_or}
use Rattle.csv.specs.Machine.{ends_at_end}
use Rattle.csv.specs.Reading.{Ready, default_config, is_flexible, records_from, source_of}
use Rattle.csv.specs.declared.parser.State.{State}
use Rattle.csv.specs.declared.reader.Reader.{Reader}
use Rattle.csv.specs.declared.reader.Trim.TheVariants as trim
use Rattle.road_network.specs.declared.text.Text.{Text}

-- the bytes of a text that are still to be read
abbrev pub text_in : Text → List ℕ
text_in t = reverse t.reversed.items

-- a reader of a text in memory
abbrev pub TextReader : Type 0
TextReader = Reader Text

-- the text that is still to be read, if it is known
abbrev pub text_known : TextReader → Option (List ℕ)
text_known r = source_of (λ t. Some (text_in t)) r

abbrev pub text_left : TextReader → List ℕ
text_left r = unwrap_or (text_known r) []

-- the records of a text, from a state between two records on
abbrev pub records_after : State → List ℕ → List (List (List ℕ))
records_after s text = records_from default_config (length text + 1) s text

-- the records that are still to be read
abbrev pub records_left : TextReader → List (List (List ℕ))
records_left r = records_after r.state (text_left r)

-- the reader is between two records, takes fields as they are, and takes no record for a header
pub record IsBetween (r : TextReader) : Type 0 where
  pub ready : Ready r
  pub plain : r.trim ≡ trim.None
  pub config : r.config ≡ default_config
  pub flexible : is_flexible r ≡ true
  pub state : ends_at_end r.state ≡ false
  pub known : text_known r ≡ Some (text_left r)

-- a record was read: the first of those that were left
pub record IsNext (old new : TextReader) (fields : List (List ℕ)) : Type 0 where
  pub between : IsBetween new
  pub first : records_left old ≡ fields ∷ records_left new
  pub shorter : length (text_left new) < length (text_left old)
