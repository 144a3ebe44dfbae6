use Rattle.std.proofs.Common.{◌≡◌, ◌-◌, ◌∙◌, ap, arith, length, take, drop, reverse, length-append, take_all}
use Rattle.std.proofs.lemmas.List.{length-drop, length-reverse, length-take}
use Rattle.road_network.proofs.TextRead.{none-left, part-and_rest}
use Rattle.road_network.proofs.text.TextRead.read.Goals as goal

pub returns-clause-bytes : goal.returns-clause-bytes
returns-clause-bytes c =
    let r = c.args.self.now.reversed.items in
    let count = c.min-count.result in
    let left = c.len-2.result - count in
    let whole : take (length c.deref.result.now - left) (drop left c.deref.result.now) ≡ drop left c.deref.result.now =
    take_all (length c.deref.result.now - left) (drop left c.deref.result.now) (omega (arith, length-drop left c.deref.result.now)) in
    let part_is : c.reverse.new.self ≡ reverse (drop left r) = c.reverse.ensures.after ∙ ap reverse (c.copy_from_slice.ensures.after ∙ whole ∙ ap (drop left) c.deref.ensures.value) in
    let rest_is : c.cut.new.self.reversed.items ≡ take left r = c.cut.ensures in
    let size : length c.reverse.new.self ≡ count = omega (arith, ap length part_is, length-reverse (drop left r), length-drop left r, c.len.ensures, c.len-2.ensures, c.min-count.ensures) in (
      part-and_rest r c.args.buf.now c.reverse.new.self c.cut.new.self.reversed.items count left part_is rest_is size,
      λ none some. none-left c.cut.new.self.reversed.items (omega (arith, ap length rest_is, length-take left r, c.len.ensures, c.len-2.ensures, c.min-count.ensures, none, some, length-append c.reverse.new.self (drop count c.args.buf.now), length-drop count c.args.buf.now, size)),
    )
