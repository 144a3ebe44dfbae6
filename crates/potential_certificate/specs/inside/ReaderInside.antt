-- What a reader of blocks is made of.
use Rattle.std.specs.Prelude.{ℕ, ◌≡◌, ◌^◌, ◌-◌, min, List, length}
use Rattle.potential_certificate.specs.inside.Gathering.{IsGathered, gathered_text}
use Rattle.potential_certificate.specs.declared.reader.CertificateReader.TheInside.{Inside}

abbrev pub text_so_far : Inside → List ℕ
text_so_far reader = gathered_text reader.gathered

-- the bytes are counted, as far as 64 bits reach
pub record CountsBytes (reader : Inside) : Type 0 where
  pub are : IsGathered reader.gathered
  pub counted : reader.count ≡ min (length (text_so_far reader)) (2 ^ 64 - 1)
