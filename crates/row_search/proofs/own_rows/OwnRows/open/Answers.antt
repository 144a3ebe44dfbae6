use Rattle.std.proofs.lemmas.Result.{err_from_is_err_and}
use Rattle.std.proofs.Common.{◌≡◌, [], ◌∷◌, None, length, length-append, sym, ap, refl, arith}
use Rattle.bounded_table.specs.Known.{known_nodes}
use Rattle.bounded_table.proofs.KnownNodes.{known_none, none_more}
use Rattle.row_search.proofs.own_rows.OwnRows.open.Goals as goal

pub loop-init : goal.loop-init
loop-init c = rw c.in_ok-rows.ensures.items (record { count = refl; none = λ k row e. absurd cc })

pub loop-preserved : goal.loop-preserved
loop-preserved c =
    let s = c.loop in
    rw c.in_ok-push.ensures.items (record {
      count = omega (arith, length-append s.rows.items (None ∷ []), s.invariant.count);
      none = none_more s.rows.items s.invariant.none;
    })

pub invariant_of-result : goal.invariant_of-result
invariant_of-result c =
    let inv = c.loop.invariant in
    let none : known_nodes c.loop.rows.items ≡ [] = known_none 0 c.loop.rows.items inv.none in
    record {
      few = omega (arith, c.invariants.ensures.few_nodes);
      holds = rw c.in_ok-searcher.ensures (record { places_count = omega arith; rows = λ k row e. absurd (inv.none k row e) });
      counted = sym (ap length none);
    }

pub returns : goal.returns
returns c = rw (known_none 0 c.loop.rows.items c.loop.invariant.none, c.in_ok-searcher.ensures) refl

pub returns-in_err-rows : goal.returns-in_err-rows
returns-in_err-rows c = let p = err_from_is_err_and c.from_residual.result c.from_residual.ensures.1 in rw p.1 tt

pub returns-in_err-push : goal.returns-in_err-push
returns-in_err-push c = let p = err_from_is_err_and c.from_residual-in_err-push.result c.from_residual-in_err-push.ensures.1 in rw p.1 tt

pub returns-in_err-searcher : goal.returns-in_err-searcher
returns-in_err-searcher c = let p = err_from_is_err_and c.from_residual-in_err-searcher.result c.from_residual-in_err-searcher.ensures.1 in rw p.1 tt
