use Rattle.std.proofs.lemmas.Result.{err_from_is_err_and}
use Rattle.road_network.specs.Net.{HasNode}
use Rattle.std.proofs.Common.{◌≡◌, ◌<◌, ◌+◌, ℕ, List, Option, Some, None, Contains, is_some, false, true, true≢false, length, set, length-set, refl, sym, ap, subst, ◌∙◌, rules, arith}
use Rattle.std.specs.Prelude.{slice_get}
use Rattle.bounded_table.specs.Known.{known_nodes}
use Rattle.bounded_table.specs.Rows.{RowsState}
use Rattle.bounded_table.specs.Table.{TableRow}
use Rattle.bounded_table.proofs.KnownNodes.{get_at, knows_by, adds, no_more_known, none_from, one_more}
use Rattle.row_search.proofs.HeldRows.{holds_more}
use Rattle.row_search.specs.inside.OwnInside.{IsKept, own_rows}
use Rattle.row_search.specs.declared.own_rows.OwnRows.TheInside.{Inside}
use Rattle.bounded_table.proofs.Asking.{asks_done, asks_err, asks_nothing, asks_one_known, asks_one}
use Rattle.row_search.proofs.own_rows.OwnRows.fill.Goals as goal

-- a node of the network has a place
has_place : (a : Inside) (state : RowsState) (n : ℕ) → own_rows a ≡ state → IsKept a → HasNode state.network n → n < length a.rows.items
has_place a state n view kept has = omega (arith, kept.holds.places_count, ap (λ (k : RowsState). length k.network.nodes) view, has)

pub index-requires : goal.index-requires
index-requires c = let lt = has_place c.self.inside c.args.self.now c.args.n.0 c.self.view_is c.self.invariant c.requires in omega arith

pub same-self : goal.same-self
same-self c = refl

pub returns-then-is_some-clause-err : goal.returns-then-is_some-clause-err
returns-then-is_some-clause-err c = tt

pub returns-then-is_some-clause-again : goal.returns-then-is_some-clause-again
returns-then-is_some-clause-again c = λ _. refl

pub find_from-requires-clause-node : goal.find_from-requires-clause-node
find_from-requires-clause-node c = subst (λ (k : RowsState). HasNode k.network c.args.n.0) (sym c.self.view_is) c.requires

pub find_from-requires-clause-places : goal.find_from-requires-clause-places
find_from-requires-clause-places c = rw c.as_slice.ensures.value c.self.invariant.holds

pub invariant_of-self : goal.invariant_of-self
invariant_of-self c = record { few = c.self.invariant.few; holds = rw c.find_from.ensures.same c.self.invariant.holds; counted = c.self.invariant.counted }

pub returns-in_err-row-clause-asks : goal.returns-in_err-row-clause-asks
returns-in_err-row-clause-asks c = rw (← c.self.view_is, c.find_from.ensures.same) (asks_err (asks_nothing (own_rows c.self.inside) (λ v. v ≡ c.args.n.0)) c.from_residual.ensures.0)

pub returns-in_err-row-clause-err : goal.returns-in_err-row-clause-err
returns-in_err-row-clause-err c = let p = err_from_is_err_and c.from_residual.result c.from_residual.ensures.1 in rw (p.1, c.find_from.ensures.same) c.self.view_is

pub index_mut-requires : goal.index_mut-requires
index_mut-requires c = let lt = has_place c.self.inside c.args.self.now c.args.n.0 c.self.view_is c.self.invariant c.requires in omega arith

pub returns-clause-err : goal.returns-clause-err
returns-clause-err c = tt

pub returns-clause-again : goal.returns-clause-again
returns-clause-again c = λ _. refl

pub returns-then-is_some-clause-asks : goal.returns-then-is_some-clause-asks
returns-then-is_some-clause-asks c =
    let rows : List (Option TableRow) = c.self.inside.rows.items in
    let n : ℕ = c.args.n.0 in
    let lt : n < length rows = has_place c.self.inside c.args.self.now c.args.n.0 c.self.view_is c.self.invariant c.requires in
    let at : slice_get rows n ≡ Some c.index.result.now = get_at rows n c.index.result.now lt c.index.ensures in
    let is : is_some c.index.result.now ≡ true = sym c.is_some.ensures ∙ c.if-is_some.true in
    rw (← c.self.view_is) (asks_done (asks_one_known (own_rows c.self.inside) n ((knows_by rows n c.index.result.now at).0 is)))

pub returns-in_err-row-clause-again : goal.returns-in_err-row-clause-again
returns-in_err-row-clause-again c known =
    let rows : List (Option TableRow) = c.self.inside.rows.items in
    let n : ℕ = c.args.n.0 in
    let lt : n < length rows = has_place c.self.inside c.args.self.now c.args.n.0 c.self.view_is c.self.invariant c.requires in
    let at : slice_get rows n ≡ Some c.index.result.now = get_at rows n c.index.result.now lt c.index.ensures in
    let isnt : is_some c.index.result.now ≡ false = sym c.is_some.ensures ∙ c.if-is_some.false in
    let is : is_some c.index.result.now ≡ true = (knows_by rows n c.index.result.now at).1 (subst (λ (o : RowsState). Contains o.known n) (sym c.self.view_is) known) in
    absurd (true≢false (sym is ∙ isnt))

pub overflow_add-self : goal.overflow_add-self
overflow_add-self c = let few = no_more_known 0 c.self.inside.rows.items in search rules

pub invariant_of-self-2 : goal.invariant_of-self-2
invariant_of-self-2 c =
    let rows : List (Option TableRow) = c.self.inside.rows.items in
    let n : ℕ = c.args.n.0 in
    let lt : n < length rows = has_place c.self.inside c.args.self.now n c.self.view_is c.self.invariant c.requires in
    let isnt : is_some c.index.result.now ≡ false = sym c.is_some.ensures ∙ c.if-is_some.false in
    let at : slice_get rows n ≡ Some c.index.result.now = get_at rows n c.index.result.now lt c.index.ensures in
    let none : slice_get rows n ≡ Some None = at ∙ ap Some (none_from c.index.result.now isnt) in
    let inv = c.self.invariant in
    record {
      few = omega (arith, inv.few, length-set rows n (Some c.in_ok-row.row));
      holds = rw c.in_ok-row.ensures.same (holds_more c.self.inside.searcher rows n c.in_ok-row.row inv.holds lt c.in_ok-row.ensures.row);
      counted = ap (λ (k : ℕ). k + 1) inv.counted ∙ sym (one_more 0 rows n c.in_ok-row.row none);
    }

pub returns-clause-asks : goal.returns-clause-asks
returns-clause-asks c =
    let rows : List (Option TableRow) = c.self.inside.rows.items in
    let lt : c.args.n.0 < length rows = has_place c.self.inside c.args.self.now c.args.n.0 c.self.view_is c.self.invariant c.requires in
    let places = set rows c.args.n.0 (Some c.in_ok-row.row) in
    rw (← c.self.view_is, c.in_ok-row.ensures.same) (asks_done (asks_one (own_rows c.self.inside) c.args.n.0 (known_nodes places) (adds rows c.args.n.0 c.in_ok-row.row lt)))
