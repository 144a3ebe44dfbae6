use Rattle.std.proofs.Common.{◌≡◌, ℕ, List, ◌++◌, ◌↔◌, IsTrue, length, take, drop, refl, sym, ap, subst, ◌∙◌}
use Rattle.std.proofs.lemmas.List.{take_at}
use Rattle.road_network.specs.Net.{HasNode}
use Rattle.bounded_table.specs.Table.{BoundedTable, IsRow}
use Rattle.row_search.proofs.searcher.Searcher.check.Goals as goal

pub is_row-requires-clause-origin : goal.is_row-requires-clause-origin
is_row-requires-clause-origin c = subst (λ (k : BoundedTable). HasNode k.network c.args.origin.0) (sym c.self.view_is) c.requires

pub is_row-requires-clause-blank : goal.is_row-requires-clause-blank
is_row-requires-clause-blank c =
    let inv = c.self.invariant.clean in
    rw c.as_mut_slice-words.ensures.value (record { low = inv.sized.low; words_count = inv.sized.words_count; none_labelled = inv.none_labelled })

pub way_back_following-self : goal.way_back_following-self
way_back_following-self c = (refl, refl)

pub invariant_of-self : goal.invariant_of-self
invariant_of-self c =
    let inv = c.self.invariant.clean in
    let old = c.self.inside.workspace.words in
    let new : List ℕ = c.is_row.new.words in
    let blank = c.is_row.ensures.blank in
    let back : take old.len (new ++ drop (length new) old.items) ≡ new = take_at new (drop (length new) old.items) old.len (c.is_row.auto.words ∙ c.as_mut_slice-words.ensures.len) in
    record {
      clean = record {
        sized = record { low = inv.sized.low; few = inv.sized.few; words_count = ap length back ∙ blank.words_count; marks = inv.sized.marks };
        none_labelled = rw back blank.none_labelled;
        none_waiting = inv.none_waiting;
      };
      fans = c.self.invariant.fans;
      shared = c.self.invariant.shared;
    }

pub returns-clause-same : goal.returns-clause-same
returns-clause-same c = c.self.view_is

pub returns-clause-row : goal.returns-clause-row
returns-clause-row c = subst (λ (k : BoundedTable). IsTrue c.is_row.result ↔ IsRow k.network k.bound c.args.origin.0 c.args.row.now) c.self.view_is c.is_row.ensures.row
