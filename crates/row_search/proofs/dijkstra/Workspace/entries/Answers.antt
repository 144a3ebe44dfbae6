use Rattle.std.proofs.lemmas.Result.{err_from_is_err_and}
use Rattle.std.proofs.Common.{◌≡◌, ◌∷◌, ◌∙◌, List, [], ℕ, length, length-set, set, refl, sym, subst, rules, arith}
use Rattle.std.proofs.lemmas.List.{with_items_is}
use Rattle.std.proofs.lemmas.List.Sorted.{IsPermutation-refl}
use Rattle.std.specs.List.Sorted.{IsPermutation}
use Rattle.row_search.specs.declared.queue.Waiting.{Waiting}
use Rattle.bounded_table.specs.LabelWords.{origin_word}
use Rattle.row_search.specs.inside.Marked.{IsClean}
use Rattle.row_search.proofs.Leaving.{all_marked, fewer_wait, marked_begun, node_taken, taken_inside}
use Rattle.row_search.proofs.MarkedNodes.{keeps_both, sized_here}
use Rattle.row_search.proofs.MergedRows.{most}
use Rattle.row_search.proofs.EdgeLabels.{origin_listed, row_by_edges}
use Rattle.row_search.proofs.ClosedAtEnd.{closed_at_end}
use Rattle.row_search.proofs.Underway.{begun}
use Rattle.row_search.proofs.dijkstra.Workspace.entries.Goals as goal

pub loop-next-init : goal.loop-next-init
loop-next-init g c =
    let n = c.args.fans.now in
    let w = c.args.self.now in
    let clean = c.requires.clean in
    let s : ℕ = c.args.origin.0 in
    let queue : List Waiting = c.start.new.self in
    let x : Waiting = record { distance = 0; node = s } in
    let waits : IsPermutation (x ∷ []) queue = subst (IsPermutation (x ∷ [])) (sym c.in_ok-start.ensures) (IsPermutation-refl (x ∷ [])) in
    let words : List ℕ = set w.words.items s origin_word in
    let same : length words ≡ length w.words.items = length-set w.words.items s origin_word in
    record {
      sized = record { bound = refl; words_count = same; marks = λ count sized. sized };
      searching = record {
        sized = record { low = clean.sized.low; few = clean.sized.few; words_count = same ∙ clean.sized.words_count; marks = clean.sized.marks };
        underway = begun n w.bound s w.words.items queue c.requires.origin clean.sized.words_count clean.none_labelled waits;
        marked = marked_begun w.bound s w.words.items words w.marks queue (omega (arith, clean.sized.words_count, c.requires.origin)) clean.none_labelled refl waits;
      };
    }

pub leave-requires-clause-next : goal.leave-requires-clause-next
leave-requires-clause-next g c =
    let w = c.loop-next.self in
    let perm : IsPermutation w.queue (c.in-Some.next ∷ c.take.new.self) = rw c.in-Some.is at c.in_ok-next.ensures in
    taken_inside c.args.fans.now c.args.origin.0 w c.in-Some.next c.take.new.self perm c.loop-next.invariant.searching

pub loop-next-smaller : goal.loop-next-smaller
loop-next-smaller g c =
    let perm : IsPermutation c.loop-next.self.queue (c.in-Some.next ∷ c.take.new.self) = rw c.in-Some.is at c.in_ok-next.ensures in
    omega (arith, c.in_ok-leave.ensures.leaves.less, fewer_wait c.loop-next.self.queue c.take.new.self c.in-Some.next perm)

pub loop-next-preserved : goal.loop-next-preserved
loop-next-preserved g c =
    let w = c.loop-next.self in
    let s : ℕ = c.args.origin.0 in
    let inv = c.loop-next.invariant in
    let e = c.in_ok-leave.ensures in
    let perm : IsPermutation w.queue (c.in-Some.next ∷ c.take.new.self) = rw c.in-Some.is at c.in_ok-next.ensures in
    record {
      sized = keeps_both c.args.self.now w c.leave.new.self inv.sized (record { bound = e.sized.bound; words_count = e.sized.words_count; marks = e.sized.marks });
      searching = e.leaves.searching s [] (node_taken c.args.fans.now s w c.in-Some.next c.take.new.self perm inv.searching);
    }

-- the queue was found empty
pub take_entries-requires-clause-sized : goal.take_entries-requires-clause-sized
take_entries-requires-clause-sized g c =
    let s = c.loop-next.invariant.sized in
    sized_here (length c.args.fans.now.nodes) c.args.self.now _ c.requires.clean.sized (record { bound = s.bound; words_count = s.words_count; marks = s.marks })

pub take_entries-requires-clause-marked : goal.take_entries-requires-clause-marked
take_entries-requires-clause-marked g c =
    let none : (c.loop-next.self.queue ≡ []) × (c.take.new.self ≡ []) = rw c.in_default.is at c.in_ok-next.ensures in
    let searching = c.loop-next.invariant.searching in (
      all_marked c.args.fans.now c.args.origin.0 c.loop-next.self none.0 searching,
      most c.args.fans.now c.loop-next.self.bound c.args.origin.0 c.loop-next.self.words.items c.loop-next.self.queue searching.underway,
    )

pub take_entries-requires-clause-none_waiting : goal.take_entries-requires-clause-none_waiting
take_entries-requires-clause-none_waiting g c =
    let none : (c.loop-next.self.queue ≡ []) × (c.take.new.self ≡ []) = rw c.in_default.is at c.in_ok-next.ensures in
    none.1

pub write_origin-requires-clause-rising : goal.write_origin-requires-clause-rising
write_origin-requires-clause-rising g c = rw c.as_mut_slice.ensures.value c.in_ok-entries.ensures.entries.rising

pub write_origin-requires-clause-listed : goal.write_origin-requires-clause-listed
write_origin-requires-clause-listed g c =
    let w = c.loop-next.self in
    rw c.as_mut_slice.ensures.value (origin_listed c.args.fans.now w.bound c.args.origin.0 w.words.items w.queue c.in_ok-entries.entries.items c.loop-next.invariant.searching.underway c.in_ok-entries.ensures.entries)

pub returns-clause-row : goal.returns-clause-row
returns-clause-row g c =
    let n = c.args.fans.now in
    let w = c.loop-next.self in
    let s : ℕ = c.args.origin.0 in
    let labels : List ℕ = w.words.items in
    let inv = c.loop-next.invariant in
    let none : (w.queue ≡ []) × (c.take.new.self ≡ []) = rw c.in_default.is at c.in_ok-next.ensures in
    let closed = closed_at_end n w.bound s labels w.queue c.invariants.ensures none.0 inv.searching.underway in
    let written = with_items_is c.in_ok-entries.entries c.write_origin.new.entries (c.write_origin.auto.entries ∙ c.as_mut_slice.ensures.len) in
    let e = c.write_origin.ensures in
    let row = row_by_edges n w.bound s labels w.queue c.in_ok-entries.entries.items c.write_origin.new.entries c.invariants.ensures inv.searching.underway closed c.in_ok-entries.ensures.entries e.rising e.own (rw c.as_mut_slice.ensures.value at e.others) in
    rw (written, ← inv.sized.bound) row

pub returns-clause-clean : goal.returns-clause-clean
returns-clause-clean g c =
    let s = c.loop-next.invariant.sized in
    let ends = c.in_ok-entries.ensures.clean in
    record {
      sized = keeps_both c.args.self.now _ c.take_entries.new.self (record { bound = s.bound; words_count = s.words_count; marks = s.marks }) ends.sized;
      clean = subst (λ (k : ℕ). IsClean k c.take_entries.new.self) s.words_count ends.clean;
    }

pub returns-in_err-entries-clause-row : goal.returns-in_err-entries-clause-row
returns-in_err-entries-clause-row g c = let p = err_from_is_err_and c.from_residual-in_err-entries.result c.from_residual-in_err-entries.ensures.1 in rw p.1 tt

pub returns-in_err-entries-clause-clean : goal.returns-in_err-entries-clause-clean
returns-in_err-entries-clause-clean g c =
    let s = c.loop-next.invariant.sized in
    record {
      sized = keeps_both c.args.self.now _ c.take_entries.new.self (record { bound = s.bound; words_count = s.words_count; marks = s.marks }) c.in_err-entries.ensures.clean.sized;
      clean = search rules;
    }

pub returns-in_err-start-clause-row : goal.returns-in_err-start-clause-row
returns-in_err-start-clause-row g c = let p = err_from_is_err_and c.from_residual.result c.from_residual.ensures.1 in rw p.1 tt

pub returns-in_err-start-clause-clean : goal.returns-in_err-start-clause-clean
returns-in_err-start-clause-clean g c = record {
  sized = record { bound = refl; words_count = length-set c.args.self.now.words.items c.args.origin.0 origin_word; marks = λ count sized. sized };
  clean = search rules;
}

pub returns-in_err-next-clause-row : goal.returns-in_err-next-clause-row
returns-in_err-next-clause-row g c = let p = err_from_is_err_and c.from_residual-in_err-next.result c.from_residual-in_err-next.ensures.1 in rw p.1 tt

pub returns-in_err-next-clause-clean : goal.returns-in_err-next-clause-clean
returns-in_err-next-clause-clean g c =
    let s = c.loop-next.invariant.sized in
    record { sized = record { bound = s.bound; words_count = s.words_count; marks = s.marks }; clean = search rules }

pub returns-in_err-leave-clause-row : goal.returns-in_err-leave-clause-row
returns-in_err-leave-clause-row g c = let p = err_from_is_err_and c.from_residual-in_err-leave.result c.from_residual-in_err-leave.ensures.1 in rw p.1 tt

pub returns-in_err-leave-clause-clean : goal.returns-in_err-leave-clause-clean
returns-in_err-leave-clause-clean g c =
    let e = c.in_err-leave.ensures in
    record {
      sized = keeps_both c.args.self.now c.loop-next.self c.leave.new.self c.loop-next.invariant.sized (record { bound = e.sized.bound; words_count = e.sized.words_count; marks = e.sized.marks });
      clean = search rules;
    }
