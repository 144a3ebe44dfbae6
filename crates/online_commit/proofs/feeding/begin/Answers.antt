use Rattle.std.proofs.Common.{◌<◌, length, sym, subst, arith, rules}
use Rattle.online_commit.specs.inside.Pieces.{IsExtended, MayGrow, shown_piece}
use Rattle.online_commit.proofs.Anew.{first-grows}
use Rattle.online_commit.proofs.feeding.begin.Goals as goal

pub extend-requires : goal.extend-requires
extend-requires c = subst (λ a. MayGrow a c.in_ok-cells.cells) (sym c.no_tail-piece.ensures) (first-grows c.requires.layer.0 c.args.p.now c.args.index c.args.layer c.in_ok-cells.cells c.requires.few c.requires.layer.1 c.in_ok-cells.ensures)

pub returns : goal.returns
returns c =
    let some : 0 < length c.args.layer.candidates = search rules in
    record {
      none = λ e. absurd (omega (arith, some, e));
      some = λ lt. (c.in_ok-cells.cells, c.in_ok-cells.ensures, subst (λ a. IsExtended a c.args.layer c.in_ok-cells.cells (shown_piece c.extend.new.piece) c.in_ok-items.items) c.no_tail-piece.ensures c.in_ok-items.ensures.ok);
    }
