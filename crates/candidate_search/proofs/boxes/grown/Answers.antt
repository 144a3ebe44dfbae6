use Rattle.std.proofs.Common.{rules, to_z, of_z, w32}
use Rattle.candidate_search.proofs.EdgeBoxes.{grown_by}
use Rattle.candidate_search.proofs.boxes.grown.Goals as goal

pub returns : goal.returns
returns c =
    grown_by c.args.extent
    (record {
      low = record { x = to_z w32 (of_z w32 c.less.result); y = to_z w32 (of_z w32 c.less-2.result) };
      high = record { x = to_z w32 (of_z w32 c.more.result); y = to_z w32 (of_z w32 c.more-2.result) };
    })
    c.args.reach (search rules) (search rules) (search rules) (search rules)
