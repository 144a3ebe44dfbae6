use Rattle.std.proofs.Common.{subst, sym}
use Rattle.std.specs.List.{Contains}
use Rattle.std.proofs.lemmas.List.Filters.{dedup_is}
use Rattle.std.proofs.lemmas.List.Kept.{Contains-from_dedup}
use Rattle.std.proofs.lemmas.List.Sorted.{Contains-permutation, IsPermutation-sym}
use Rattle.grid_index.specs.Rising.{AreRising}
use Rattle.grid_index.proofs.Rising.{kept_dedup, rising_dedup, same}
use Rattle.grid_index.proofs.grid.in_order.Goals as goal

pub returns-clause-rising : goal.returns-clause-rising
returns-clause-rising c =
    let is = dedup_is same c.sort_unstable.new.self.items c.dedup.new.self.items c.dedup.ensures.filtered in
    subst AreRising (sym is) (rising_dedup c.sort_unstable.new.self.items c.sort_unstable.ensures.sorted)

pub returns-clause-keeps : goal.returns-clause-keeps
returns-clause-keeps c = λ e there.
    let is = dedup_is same c.sort_unstable.new.self.items c.dedup.new.self.items c.dedup.ensures.filtered in
    subst (λ xs. Contains xs e) (sym is)
    (kept_dedup c.sort_unstable.new.self.items e (Contains-permutation c.args.edges.items c.sort_unstable.new.self.items e c.sort_unstable.ensures.permutation there))

pub returns-clause-no_others : goal.returns-clause-no_others
returns-clause-no_others c = λ e there.
    let is = dedup_is same c.sort_unstable.new.self.items c.dedup.new.self.items c.dedup.ensures.filtered in
    Contains-permutation c.sort_unstable.new.self.items c.args.edges.items e (IsPermutation-sym c.args.edges.items c.sort_unstable.new.self.items c.sort_unstable.ensures.permutation)
    (Contains-from_dedup same c.sort_unstable.new.self.items e (subst (λ xs. Contains xs e) is there))
