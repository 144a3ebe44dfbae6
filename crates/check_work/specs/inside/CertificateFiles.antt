-- A certificate's file, read block by block.
use Rattle.std.specs.Prelude.{ℕ, ◌≡◌, ◌≤◌, ◌<◌, ◌+◌, ◌^◌, ◌++◌, Bool, true, false, List, [], Option, length}
use Rattle.edge_io.specs.State.{ShelfState}
use Rattle.potential_certificate.specs.CertificateText.{certificate_text_limit}
use Rattle.program_frame.specs.Read.{IsReadSoFar, IsReadWhole}
use Rattle.check_work.specs.declared.certificate_file.Block.{Block}

-- a block that is to be read has no bytes yet, and begins where the text may still go on
pub record IsToBeRead (block : Block) : Type 0 where
  pub empty : block.bytes.items ≡ []
  pub from : block.from ≤ certificate_text_limit
  pub some : 1 ≤ block.most
  pub few : block.most < 2 ^ 40

-- a block has at most this many bytes, and exactly this many if the file may go on after it
pub record IsOfSize (most : ℕ) (block : Block) (goes_on : Bool) : Type 0 where
  pub few : length block.bytes.items ≤ most
  pub full : goes_on ≡ true → length block.bytes.items ≡ most

-- what was read of a file: all of it, unless it goes on
abbrev pub IsReadUpTo : Option (List ℕ → Option (List ℕ)) → List ℕ → List ℕ → Bool → Type 0
IsReadUpTo told name text true = IsReadSoFar told name text
IsReadUpTo told name text false = IsReadWhole told name certificate_text_limit text

-- a block has the bytes from this place on, for any bytes that were read before it; if the file may go on after it,
-- it is not empty and ends within the limit
pub record ReadsBlock (name : List ℕ) (shelf shelf' : ShelfState) (from : ℕ) (block : Block) (goes_on : Bool)
    : Type 0 where
  pub same : shelf' ≡ shelf
  pub place : block.from ≡ from
  pub some : goes_on ≡ true → 1 ≤ length block.bytes.items
  pub within : goes_on ≡ true → block.from + length block.bytes.items ≤ certificate_text_limit
  pub read : (fed : List ℕ) → length fed ≡ block.from → IsReadSoFar shelf.holds name fed
      → IsReadUpTo shelf.holds name (fed ++ block.bytes.items) goes_on
