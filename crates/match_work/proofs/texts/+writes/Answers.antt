use Rattle.std.proofs.Common.{rules, ◌-◌, length, arith}
use Rattle.match_work.proofs.TraceMatches.{parts_lawful, pieces_joined}
use Rattle.match_work.proofs.texts.+writes.Goals as goal

pub write_last_apart-join_mut-part-requires-after_bounds : goal.write_last_apart-join_mut-part-requires-after_bounds
write_last_apart-join_mut-part-requires-after_bounds g t c κs within =
    let all = c.args.matches.now in
    let front = c.split_at.result.0.now in
    let last = c.split_at.result.1.now in
    let lawful = parts_lawful (length all - c.max.result) all front last c.split_at.ensures.front c.split_at.ensures.back c.requires.lawful in
    let pieces = pieces_joined all front last c.split_at.ensures.by_index.0 in
    let few = c.requires.few in
    ((lawful.1, omega (arith, pieces, few)), (search rules, (search rules, ((search rules, lawful.0, omega (arith, pieces, few)), search rules))))
