use Rattle.std.proofs.Common.{refl, arith}
use Rattle.std.proofs.lemmas.Result.{on_ok_weaker}
use Rattle.follow_work.proofs.DriveRows.{any-ended, room-ended, row-taken}
use Rattle.follow_work.proofs.drives.Drives.take_row.Goals as goal

pub end_full-requires : goal.end_full-requires
end_full-requires c =
    let some = c.requires.drives in
    any-ended some.on some.ended some.drives _ _ _ _ _ (c.in_ok-end_idle.ensures some.on some.ended some.drives some.drove)

pub take_fix-requires-clause-drives : goal.take_fix-requires-clause-drives
take_fix-requires-clause-drives c =
    let some = c.requires.drives in
    let one = c.in_ok-end_idle.ensures some.on some.ended some.drives some.drove in
    room-ended some.on _ _ _ c.args.id c.end_idle.new.self c.end_full.new.self _ _ one.drove (c.in_ok-end_full.ensures some.on _ _ one.drove)

pub take_fix-requires-clause-few : goal.take_fix-requires-clause-few
take_fix-requires-clause-few c =
    let some = c.requires.drives in
    let one = c.in_ok-end_idle.ensures some.on some.ended some.drives some.drove in
    let two = c.in_ok-end_full.ensures some.on _ _ one.drove in
    let first = one.stays.points in
    let second = two.stays.points in
    let few = c.requires.few in
    omega (arith, first, second, few)

pub returns : goal.returns
returns c =
    on_ok_weaker c.take_fix.result
    (λ takes on ended fleet at.
    let one = c.in_ok-end_idle.ensures on ended fleet.drives at.drove in
    let two = c.in_ok-end_full.ensures on _ _ one.drove in
    row-taken on c.args.idle c.args.id c.args.fix ended fleet c.max-self.result c.args.self.now _ c.end_idle.new.self c.end_full.new.self c.take_fix.new.self _ _ _ _ c.max-self.ensures refl refl at one two (takes on _ _ two.drove))
    c.take_fix.ensures
