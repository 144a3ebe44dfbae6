use Rattle.std.proofs.Common.{rules, sym}
use Rattle.potential_certificate.proofs.Gatherings.{finished}
use Rattle.potential_certificate.proofs.reader.CertificateReader.close.Goals as goal

pub returns-then-branch-clause-ok : goal.returns-then-branch-clause-ok
returns-then-branch-clause-ok c =
    finished c.args.p.now c.args.self c.self.inside.gathered c.settle.new.self c.self.inside.count c.into_certificate.result c.into_certificate.ensures
    (sym c.self.view_is) c.self.invariant.counted (search (rules, c.if-count-le-TEXT_LIMIT.true)) c.in_ok-settle.ensures (c.in_ok-is_closed.ensures (search (rules, c.if-branch.true)))
