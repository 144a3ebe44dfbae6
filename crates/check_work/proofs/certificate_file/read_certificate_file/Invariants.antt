use Rattle.std.proofs.Common.{◌≡◌, ◌+◌, ◌-◌, length}
use Rattle.potential_certificate.specs.CertificateText.{certificate_text_limit}
use Rattle.program_frame.specs.Read.{IsReadSoFar}
use Rattle.check_work.specs.inside.CertificateFiles.{ReadsBlock}
use Rattle.check_work.proofs.certificate_file.read_certificate_file.Given as goal

abbrev pub invariant-loop-goes_on : goal.invariant-loop-goes_on
invariant-loop-goes_on g l = record {
  same : g.S.Shelf.state l.shelf ≡ g.S.Shelf.state l.initial.shelf;
  place : length l.reader ≡ l.block.from;
  front : IsReadSoFar (g.S.Shelf.state l.initial.shelf).holds l.name l.reader;
  read : ReadsBlock l.name (g.S.Shelf.state l.initial.shelf) (g.S.Shelf.state l.initial.shelf) l.block.from l.block l.goes_on;
}

abbrev pub decreases-loop-goes_on : goal.decreases-loop-goes_on
decreases-loop-goes_on g l = certificate_text_limit + 1 - l.block.from
