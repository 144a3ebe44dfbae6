use Rattle.std.proofs.Common.{◌≡◌, ◌≢◌, ◌++◌, ◌/◌, ◌^◌, List, ℕ, length, map, take, drop, refl, sym, ap, ◌∙◌, arith}
use Rattle.std.proofs.lemmas.Bool.Decides.{nat_tests}
use Rattle.std.proofs.lemmas.List.{get_or_read, take_at}
use Rattle.std.proofs.lemmas.Result.{on_ok_weaker}
use Rattle.road_network.specs.Net.{arc_of, leaving}
use Rattle.road_network.specs.declared.Arc.{Arc}
use Rattle.row_search.specs.declared.queue.Waiting.{Waiting}
use Rattle.row_search.specs.inside.Fans.{arcs_in}
use Rattle.bounded_table.specs.LabelWords.{distance_at, no_label, word_at}
use Rattle.row_search.specs.inside.Underway.{after_arcs, state_of}
use Rattle.bounded_table.specs.Table.{IsRow, label_in}
use Rattle.bounded_table.proofs.ClosedTables.{closed_of_table}
use Rattle.row_search.proofs.LeftByEdges.{left_by_edges, triable}
use Rattle.row_search.proofs.LeftByMerging.{IsLeft, entries_inside, left_by_merging}
use Rattle.row_search.proofs.Leaving.{marked_not_taken}
use Rattle.row_search.proofs.Underway.{not_taken}
use Rattle.row_search.proofs.WholeFans.{tries_all}
use Rattle.row_search.proofs.dijkstra.Workspace.leave.Goals as goal

pub returns-then-distance_in-next-clause-leaves : goal.returns-then-distance_in-next-clause-leaves
returns-then-distance_in-next-clause-leaves g c =
    let w = c.args.self.now in
    let words : List ℕ = w.words.items in
    let next : Waiting = c.args.next in
    let u : ℕ = next.node in
    let at : c.index.result.now ≡ word_at w.bound words u = get_or_read words u c.index.result.now (omega (arith, c.requires.sized.words_count, c.requires.next)) c.index.ensures (no_label w.bound) in
    let far : distance_at w.bound words u ≡ c.distance_in.result = ap (λ (word : ℕ). word / 2 ^ 32) (sym at) ∙ sym c.distance_in.ensures in
    let stale : distance_at w.bound words u ≢ next.distance = grind (arith, nat_tests) in
    record {
      searching = λ s others h. record {
        sized = h.sized;
        underway = not_taken c.args.fans.now w.bound s next words (others ++ w.queue) stale h.underway;
        marked = marked_not_taken w.bound words w.marks next (others ++ w.queue) stale h.marked;
      };
      less = omega arith;
    }

pub mark-requires : goal.mark-requires
mark-requires g c = (length c.args.fans.now.nodes, c.requires.sized.marks, c.requires.next.0)

pub try_fan-requires-clause-arcs : goal.try_fan-requires-clause-arcs
try_fan-requires-clause-arcs g c =
    let n = c.args.fans.now in
    let words : List ℕ = c.as_mut_slice-words.result.now in
    let count : length words ≡ length n.nodes = ap length c.as_mut_slice-words.ensures.value ∙ c.requires.sized.words_count in
    (tries_all _ _ c.fan-fan.ensures c.if-fan.true).triable (length words) (triable n c.args.next.node (length words) c.invariants.ensures count)

pub try_arcs-requires-clause-arcs : goal.try_arcs-requires-clause-arcs
try_arcs-requires-clause-arcs g c =
    let n = c.args.fans.now in
    let words : List ℕ = c.as_mut_slice-words.result.now in
    let count : length words ≡ length n.nodes = ap length c.as_mut_slice-words.ensures.value ∙ c.requires.sized.words_count in
    rw c.arcs.ensures (triable n c.args.next.node (length words) c.invariants.ensures count)

pub returns-then-fan-clause-leaves : goal.returns-then-fan-clause-leaves
returns-then-fan-clause-leaves g c =
    let n = c.args.fans.now in
    let w = c.args.self.now in
    let bound : ℕ = w.bound in
    let next : Waiting = c.args.next in
    let u : ℕ = next.node in
    let at : c.index.result.now ≡ word_at bound w.words.items u = get_or_read w.words.items u c.index.result.now (omega (arith, c.requires.sized.words_count, c.requires.next)) c.index.ensures (no_label bound) in
    let far : distance_at bound w.words.items u ≡ next.distance = ap (λ (word : ℕ). word / 2 ^ 32) (sym at) ∙ (sym c.distance_in.ensures ∙ c.if-distance_in-next.false) in
    let begun : record { words = c.as_mut_slice-words.result.now; queue = w.queue } ≡ state_of w = ap (λ (k : List ℕ). record { words = k; queue = w.queue }) c.as_mut_slice-words.ensures.value in
    let tried : List ℕ = c.try_fan.new.words in
    let count = c.try_fan.ensures.count in
    let back : take w.words.len (tried ++ drop (length tried) w.words.items) ≡ tried = take_at tried (drop (length tried) w.words.items) w.words.len (count ∙ c.as_mut_slice-words.ensures.len) in
    let all = tries_all _ _ c.fan-fan.ensures c.if-fan.true in
    on_ok_weaker c.try_fan.result (λ is. left_by_edges n next w _ (record {
      lawful = c.invariants.ensures;
      node = c.requires.next.0;
      starts = far;
      sized = c.requires.sized;
      keeps = record { bound = refl; words_count = ap length back ∙ (count ∙ ap length c.as_mut_slice-words.ensures.value); marks = c.mark.ensures.sized };
      marks = c.mark.ensures.marks;
      tried = ap (λ (k : List ℕ). record { words = k; queue = c.try_fan.new.self }) back ∙ (is bound ∙ (ap (after_arcs bound next.distance (arcs_in c.fan-fan.result.now)) begun ∙ all.same bound next.distance (state_of w) (triable n u (length w.words.items) c.invariants.ensures c.requires.sized.words_count)));
    }))
    c.try_fan.ensures.tries

pub returns-2-clause-leaves : goal.returns-2-clause-leaves
returns-2-clause-leaves g c =
    let n = c.args.fans.now in
    let w = c.args.self.now in
    let bound : ℕ = w.bound in
    let next : Waiting = c.args.next in
    let u : ℕ = next.node in
    let arcs : List Arc = map (arc_of n) (leaving n u) in
    let at : c.index.result.now ≡ word_at bound w.words.items u = get_or_read w.words.items u c.index.result.now (omega (arith, c.requires.sized.words_count, c.requires.next)) c.index.ensures (no_label bound) in
    let far : distance_at bound w.words.items u ≡ next.distance = ap (λ (word : ℕ). word / 2 ^ 32) (sym at) ∙ (sym c.distance_in.ensures ∙ c.if-distance_in-next.false) in
    let begun : record { words = c.as_mut_slice-words.result.now; queue = w.queue } ≡ state_of w = ap (λ (k : List ℕ). record { words = k; queue = w.queue }) c.as_mut_slice-words.ensures.value in
    let tried : List ℕ = c.try_arcs.new.words in
    let count = c.try_arcs.ensures.count in
    let back : take w.words.len (tried ++ drop (length tried) w.words.items) ≡ tried = take_at tried (drop (length tried) w.words.items) w.words.len (count ∙ c.as_mut_slice-words.ensures.len) in
    on_ok_weaker c.try_arcs.result (λ is. left_by_edges n next w _ (record {
      lawful = c.invariants.ensures;
      node = c.requires.next.0;
      starts = far;
      sized = c.requires.sized;
      keeps = record { bound = refl; words_count = ap length back ∙ (count ∙ ap length c.as_mut_slice-words.ensures.value); marks = c.mark.ensures.sized };
      marks = c.mark.ensures.marks;
      tried = ap (λ (k : List ℕ). record { words = k; queue = c.try_arcs.new.self }) back ∙ (is bound ∙ (ap (after_arcs bound next.distance c.arcs.result.now) begun ∙ ap (λ (k : List Arc). after_arcs bound next.distance k (state_of w)) c.arcs.ensures));
    }))
    c.try_arcs.ensures.tries

pub merge-requires-clause-inside : goal.merge-requires-clause-inside
merge-requires-clause-inside g c k d lt =
    let n = c.args.fans.now in
    let w = c.args.self.now in
    let v : ℕ = c.args.next.node in
    let row = c.in-Some.row.now in
    let is : IsRow n w.bound v row = rw c.requires.known at c.in-Some.ensures in
    let all = entries_inside n w.bound v row.entries c.invariants.ensures c.requires.next.0 is.rising (closed_of_table n w.bound v (label_in row.entries) c.invariants.ensures is.table) k d lt in
    (omega (arith, all.0, c.requires.sized.words_count), omega (arith, all.1, c.requires.sized.low))

pub returns-clause-leaves : goal.returns-clause-leaves
returns-clause-leaves g c =
    let n = c.args.fans.now in
    let w = c.args.self.now in
    let x = c.args.next in
    let row = c.in-Some.row.now in
    let is : IsRow n w.bound x.node row = rw c.requires.known at c.in-Some.ensures in
    let at : c.index.result.now ≡ word_at w.bound w.words.items x.node = get_or_read w.words.items x.node c.index.result.now (omega (arith, c.requires.sized.words_count, c.requires.next.0)) c.index.ensures (no_label w.bound) in
    let starts : distance_at w.bound w.words.items x.node ≡ x.distance = ap (λ (word : ℕ). word / 2 ^ 32) (sym at) ∙ (sym c.distance_in.ensures ∙ c.if-distance_in-next.false) in
    let left : IsLeft n x row w c.merge.new.self = record {
      lawful = c.invariants.ensures;
      node = c.requires.next.0;
      right = is;
      starts = starts;
      sized = c.requires.sized;
      merged = c.merge.ensures;
    } in
    left_by_merging n x row w c.merge.new.self left

pub index-requires : goal.index-requires
index-requires g c = let count = c.requires.sized.words_count in omega arith

pub returns-then-distance_in-next-clause-sized : goal.returns-then-distance_in-next-clause-sized
returns-then-distance_in-next-clause-sized g c = record { bound = refl; words_count = refl; marks = λ count sized. sized }

pub known_row-requires : goal.known_row-requires
known_row-requires g c = rw c.requires.known c.requires.next.0

pub merge-requires-clause-distance : goal.merge-requires-clause-distance
merge-requires-clause-distance g c = let within = c.requires.next.1 in omega arith

pub merge-requires-clause-sized : goal.merge-requires-clause-sized
merge-requires-clause-sized g c =
    let sized = c.requires.sized in
    record { low = sized.low; few = rw sized.words_count sized.few; words_count = refl; marks = rw sized.words_count sized.marks }

pub returns-clause-sized : goal.returns-clause-sized
returns-clause-sized g c = c.merge.ensures.sized

pub arcs-requires : goal.arcs-requires
arcs-requires g c = c.requires.next.0

pub try_arcs-requires-clause-distance : goal.try_arcs-requires-clause-distance
try_arcs-requires-clause-distance g c = c.requires.next.1

pub returns-2-clause-sized : goal.returns-2-clause-sized
returns-2-clause-sized g c =
    let old : List ℕ = c.args.self.now.words.items in
    let tried : List ℕ = c.try_arcs.new.words in
    let count = c.try_arcs.ensures.count in
    let back : take c.args.self.now.words.len (tried ++ drop (length tried) old) ≡ tried = take_at tried (drop (length tried) old) c.args.self.now.words.len (count ∙ c.as_mut_slice-words.ensures.len) in
    record { bound = refl; words_count = ap length back ∙ (count ∙ ap length c.as_mut_slice-words.ensures.value); marks = c.mark.ensures.sized }
