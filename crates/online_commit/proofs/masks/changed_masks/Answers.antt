use Rattle.std.proofs.Common.{◌≡◌, ◌+◌, ◌-◌, ◌<◌, ◌∷◌, [], ◌++◌, length, get_or, ap, sym, ◌∙◌, subst, arith}
use Rattle.online_commit.specs.inside.Masks.{ArePreviousRanks}
use Rattle.online_commit.proofs.Changing.{IsChanging, changing-all, changing-begin, changing-more, changing-same}
use Rattle.online_commit.proofs.NextCells.{read-at}
use Rattle.online_commit.proofs.masks.changed_masks.Goals as goal

pub loop-back-init : goal.loop-back-init
loop-back-init c =
    let after : c.push.new.self.items ≡ c.live_ranks-mask.result ∷ [] = c.in_ok-push.ensures.items ∙ ap (λ ys. ys ++ c.live_ranks-mask.result ∷ []) c.new-changed.ensures.items in
    subst (λ ys. IsChanging c.args.tables.now c.args.cells.now ys 0 c.ranks_behind-behind.result) (sym after)
    (changing-begin c.args.tables.now c.args.cells.now c.live_ranks-mask.result c.ranks_behind-behind.result c.live_ranks-mask.ensures c.ranks_behind-behind.ensures)

pub loop-back-preserved : goal.loop-back-preserved
loop-back-preserved c =
    let tables = c.args.tables.now in
    let k = c.loop-back.back in
    let same = c.requires.masks.0 in
    let lt = c.loop-back-test.true in
    let less : k < length tables = omega (arith, lt, same) in
    let place : length c.args.masks.now - 1 - k ≡ length tables - 1 - k = ap (λ n. n - 1 - k) same in
    let table : c.index-tables-point.result ≡ get_or tables (length tables - 1 - k) [] =
    read-at tables (length c.args.masks.now - 1 - k) c.index-tables-point.result [] (omega (arith, less, same)) c.index-tables-point.is ∙ ap (λ i. get_or tables i []) place in
    let next : ArePreviousRanks c.index-tables-point.result c.loop-back.behind c.ranks_behind-behind-in-loop-back.result =
    subst (λ cells. ArePreviousRanks cells c.loop-back.behind c.ranks_behind-behind-in-loop-back.result) c.as_slice.ensures c.ranks_behind-behind-in-loop-back.ensures in
    subst (λ ys. IsChanging tables c.args.cells.now ys (k + 1) c.ranks_behind-behind-in-loop-back.result) (sym c.in_ok-push-2.ensures.items)
    (changing-more tables c.args.cells.now c.index-tables-point.result c.loop-back.changed.items k c.loop-back.behind c.ranks_behind-behind-in-loop-back.result less c.loop-back.invariant table next)

pub returns-then-behind-masks : goal.returns-then-behind-masks
returns-then-behind-masks c =
    let tables = c.args.tables.now in
    let k = c.loop-back.back in
    let same = c.requires.masks.0 in
    let lt = c.loop-back-test.true in
    let count = c.loop-back.invariant.count in
    let less : k < length tables = omega (arith, lt, same) in
    let place : length c.args.masks.now - 1 - k ≡ length tables - 1 - k = ap (λ n. n - 1 - k) same in (
      omega (arith, count),
      omega (arith, count, lt),
      changing-same tables c.args.cells.now c.args.masks.now c.loop-back.changed.items k c.loop-back.behind same less c.loop-back.invariant (c.requires.masks.1 (omega (arith, less)))
          (c.if-behind-masks.true ∙ ap (λ i. get_or c.args.masks.now i 0) place),
    )

pub returns : goal.returns
returns c =
    let same = c.requires.masks.0 in
    let ge = c.loop-back-test.false in
    let le = c.loop-back.auto.back-end in
    let count = c.loop-back.invariant.count in (
      omega (arith, count),
      omega (arith, count, le),
      changing-all c.args.tables.now c.args.cells.now c.args.masks.now c.loop-back.changed.items c.loop-back.back c.loop-back.behind same (omega (arith, ge, same)) (omega (arith, le, same)) c.loop-back.invariant,
    )
