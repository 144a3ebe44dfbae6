use Rattle.std.proofs.Common.{◌≡◌, ◌+◌, ◌≤◌, ◌-◌, length}
use Rattle.potential_certificate.specs.CertificateText.{certificate_text_limit}
use Rattle.check_work.proofs.CertificateFiles.{Front}
use Rattle.check_work.proofs.certificate_file.fill.Given as goal

abbrev pub invariant-loop-block : goal.invariant-loop-block
invariant-loop-block g l = record {
  same : g.S.Shelf.state l.shelf ≡ g.S.Shelf.state l.initial.shelf;
  place : l.block.from ≡ l.initial.block.from;
  within : l.block.from + length l.block.bytes.items ≤ l.end;
  front : Front (g.S.Shelf.state l.initial.shelf) l.name l.block.from l.block.bytes.items;
}

abbrev pub decreases-loop-block : goal.decreases-loop-block
decreases-loop-block g l = certificate_text_limit + 1 - (l.block.from + length l.block.bytes.items)
