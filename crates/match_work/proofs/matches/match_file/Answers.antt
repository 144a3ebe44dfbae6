use Rattle.std.proofs.Common.{refl, rules}
use Rattle.match_work.proofs.Jobs.{begun}
use Rattle.match_work.proofs.matches.match_file.Goals as goal

pub work_traces-requires : goal.work_traces-requires
work_traces-requires g c =
    (begun c.args.shared.now.matcher.now c.args.shared.now.store.now c.in_ok-readers.readers _ c.in_ok-readers.ensures.fresh c.in_ok-readers.ensures.shared refl refl refl, search rules, search rules)
