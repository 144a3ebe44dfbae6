-- The text of a certificate that comes in blocks.
use denote.Ref.{Bor}
use Rattle.std.specs.Prelude.{ℕ, ◌≡◌, ◌+◌, ◌<◌, ◌⊎◌, ◌++◌, true, nat_le, Bool, List, [], ◌∷◌, fold, length, set, slice_index_or}
use Rattle.std.specs.List.{AllByRecursion, AllZip, flat_map}
use Rattle.bounded_table.specs.Table.{TableRow}
use Rattle.row_text.specs.RowLine.{row_line}
use Rattle.potential_certificate.specs.CertificateText.{proof_text}
use Rattle.potential_certificate.specs.HasText.{AreRowValuesFrom, IsProof}
use Rattle.potential_certificate.specs.declared.drawing.PlacedRead.{PlacedRead}
use Rattle.potential_certificate.specs.declared.gathered.Gathered.{Gathered}
use Rattle.potential_certificate.specs.declared.parts.PartRead.{PartRead}
use Rattle.potential_certificate.specs.declared.proof.TraceProof.{TraceProof}

-- the lines of proofs and of rows, and what comes after them
abbrev pub lines_text : List TraceProof → List TableRow → List ℕ → List ℕ
lines_text proofs rows behind = flat_map proof_text proofs ++ (flat_map row_line rows ++ behind)

-- proofs and rows that have lines
pub record AreLines (proofs : List TraceProof) (rows : List TableRow) : Type 0 where
  pub each : AllByRecursion IsProof proofs
  pub rising : AreRowValuesFrom 0 rows

-- ---- a part of the text

-- what was read of a part is there
pub record IsPartRead (read : PartRead) : Type 0 where
  pub text_is : read.part.now ≡ lines_text read.proofs read.rows read.left.now
  pub are : AreLines read.proofs read.rows

abbrev pub IsReadOf : List ℕ → PartRead → Type 0
IsReadOf part read = (read.part.now ≡ part) × IsPartRead read

-- what was read of each of these parts
abbrev pub AreEachReadOf : List (Bor (List ℕ)) → List PartRead → Type 0
AreEachReadOf parts reads = AllZip (λ part read. IsReadOf part.now read) parts reads

-- what was read of the part at this place
abbrev pub IsPlacedIn : List (Bor (List ℕ)) → PlacedRead → Type 0
IsPlacedIn parts placed =
    (placed.place < length parts)
    × ((d : Bor (List ℕ)) → IsReadOf (slice_index_or parts placed.place d).now placed.read)

-- what was read of parts, put at their places
abbrev pub put_at_places : List PartRead → List PlacedRead → List PartRead
put_at_places reads done = fold (λ all placed. set all placed.place placed.read) reads done

-- what was read of the parts of a text, one after the other
pub record AreReadsOf (text : List ℕ) (reads : List PartRead) : Type 0 where
  pub text_is : flat_map (λ read. read.part.now) reads ≡ text
  pub each : AllByRecursion IsPartRead reads

-- ---- the text so far

-- the first origin of these rows is not below `least`
abbrev pub first_rises_from : ℕ → List TableRow → Bool
first_rises_from least [] = true
first_rises_from least (row ∷ rows) = nat_le least row.origin

-- the least origin of a row after these
abbrev pub least_after : ℕ → List TableRow → ℕ
least_after least [] = least
least_after least (row ∷ rows) = least_after (row.origin + 1) rows

abbrev pub gathered_text : Gathered → List ℕ
gathered_text g = g.first.items ++ lines_text g.proofs.items g.rows.items g.behind.items

abbrev pub IsGathered : Gathered → Type 0
IsGathered g = AreLines g.proofs.items g.rows.items

-- more of the text has come
pub record GathersMore (old : Gathered) (more : List ℕ) (new : Gathered) : Type 0 where
  pub text_is : gathered_text new ≡ gathered_text old ++ more
  pub are : IsGathered new

-- the proofs and rows of a part may follow those so far
pub record GoesOn (g : Gathered) (read : PartRead) : Type 0 where
  pub nothing : g.behind.items ≡ []
  pub apart : (g.rows.items ≡ []) ⊎ (read.proofs ≡ [])
  pub rises : first_rises_from (least_after 0 g.rows.items) read.rows ≡ true
