use Rattle.std.proofs.Common.{◌∙◌, rules}
use Rattle.row_store.proofs.Vouching.{begins}
use Rattle.row_store.proofs.vouchers.open_vouchers.Goals as goal

pub vacant-requires : goal.vacant-requires
vacant-requires c = begins c.in_ok-name.name c.as_slice.result.now c.len-count.result (c.as_slice.ensures.value ∙ c.in_ok-words.ensures.items_if_clones_equal (λ y k. search rules))
