use Rattle.std.proofs.Common.{arith}
use Rattle.row_store.proofs.Vouching.{sits}
use Rattle.row_store.proofs.vouchers.VoucherSeat.open.Goals as goal

pub load_new_seat-seat-requires : goal.load_new_seat-seat-requires
load_new_seat-seat-requires c =
    let words = c.requires.table.words in
    let some = c.requires.some in
    (omega (arith, words, some), sits c.args.vouchers.now.shared.key c.args.vouchers.now.shared.table_id.slots)
