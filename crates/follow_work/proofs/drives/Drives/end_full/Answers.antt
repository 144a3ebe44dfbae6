use Rattle.std.proofs.lemmas.Result.{on_ok_weaker}
use Rattle.trace_sessions.specs.Drives.{is_full_of}
use Rattle.follow_work.proofs.DriveEnds.{few-found, full-absent, full-found, none-full}
use Rattle.follow_work.proofs.drives.Drives.end_full.Goals as goal

pub returns-in_default : goal.returns-in_default
returns-in_default c on ended drives drove =
    none-full on ended drives (is_full_of c.args.id) _ _ drove (full-absent c.args.id drives _ c.in_default.is (c.length.ensures drives drove.stands))

pub returns-then-count-lt100000 : goal.returns-then-count-lt100000
returns-then-count-lt100000 c on ended drives drove =
    none-full on ended drives (is_full_of c.args.id) _ _ drove (few-found c.args.id drives _ c.in-Some.count drove.stands.different c.in-Some.is (c.length.ensures drives drove.stands) c.if-count-lt100000.true)

pub returns : goal.returns
returns c =
    on_ok_weaker c.end.result (λ ends on ended drives drove. full-found on ended drives c.args.id _ c.in-Some.count _ _ _ _ drove c.in-Some.is (c.length.ensures drives drove.stands) c.if-count-lt100000.false (ends on ended drives drove)) c.end.ensures
