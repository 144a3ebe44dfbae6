use Rattle.std.proofs.Common.{◌≤◌, sym, subst}
use Rattle.std.specs.Int.RustNames.{unsigned_abs}
use Rattle.polyline_geometry.proofs.Signed.{product_fits, product_is, product_small}
use Rattle.polyline_geometry.proofs.segment.product.Goals as goal

pub overflow_mul-result : goal.overflow_mul-result
overflow_mul-result c = product_fits c.args.x c.args.y c.requires.x_in c.requires.y_in

pub returns-clause-value : goal.returns-clause-value
returns-clause-value c = product_is c.args.x c.args.y c.requires.x_in c.requires.y_in

pub returns-clause-small : goal.returns-clause-small
returns-clause-small c =
    subst (λ z. unsigned_abs z ≤ 4_000_000_000_000_000_000) (sym (product_is c.args.x c.args.y c.requires.x_in c.requires.y_in))
    (product_small c.args.x c.args.y c.requires.x_in c.requires.y_in)
