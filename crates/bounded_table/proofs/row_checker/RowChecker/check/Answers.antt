use Rattle.std.proofs.Common.{◌≡◌, ℕ, List, ◌++◌, ◌↔◌, IsTrue, length, take, drop, sym, subst, ◌∙◌}
use Rattle.std.proofs.lemmas.List.{take_at}
use Rattle.road_network.specs.Net.{HasNode}
use Rattle.bounded_table.specs.Table.{BoundedTable, IsRow}
use Rattle.bounded_table.proofs.row_checker.RowChecker.check.Goals as goal

pub is_row-requires-clause-origin : goal.is_row-requires-clause-origin
is_row-requires-clause-origin c = subst (λ (k : BoundedTable). HasNode k.network c.args.origin.0) (sym c.self.view_is) c.requires

pub is_row-requires-clause-blank : goal.is_row-requires-clause-blank
is_row-requires-clause-blank c = rw c.as_mut_slice.ensures.value c.self.invariant

pub invariant_of-self : goal.invariant_of-self
invariant_of-self c =
    let old = c.self.inside.words in
    let new : List ℕ = c.is_row.new.words in
    let back : take old.len (new ++ drop (length new) old.items) ≡ new = take_at new (drop (length new) old.items) old.len (c.is_row.auto.words ∙ c.as_mut_slice.ensures.len) in
    rw back c.is_row.ensures.blank

pub returns-clause-same : goal.returns-clause-same
returns-clause-same c = c.self.view_is

pub returns-clause-row : goal.returns-clause-row
returns-clause-row c = subst (λ (k : BoundedTable). IsTrue c.is_row.result ↔ IsRow k.network k.bound c.args.origin.0 c.args.row.now) c.self.view_is c.is_row.ensures.row
