-- Entries laid out by slot are the table of a grid.
use Rattle.std.proofs.Common.{◌≡◌, ℕ, ◌+◌, ◌-◌, ◌*◌, ◌<◌, ◌≤◌, List, length, get_or, take, drop, map, All, pos, refl, sym, ap, ◌∙◌, subst, inl, inr, arith, ⊎_elim, length-drop, length-take}
use Rattle.std.specs.List.{Contains}
use Rattle.std.specs.List.Sorted.{IsPermutation}
use Rattle.std.proofs.lemmas.Bool.{cases_lt}
use Rattle.std.proofs.lemmas.List.{get_or-drop, get_or-map, get_or-take, length-map}
use Rattle.std.proofs.lemmas.List.Elements.{All-drop, All-map, All-take}
use Rattle.std.proofs.lemmas.List.Sorted.{All-permutation, Contains-permutation}
use Rattle.polyline_geometry.specs.declared.plane.Point.{Point}
use Rattle.road_network.specs.Net.{Net}
use Rattle.grid_index.specs.declared.entries.Entry.{Entry}
use Rattle.grid_index.specs.declared.entries.Entries.{Entries}
use Rattle.grid_index.specs.declared.runs.Run.{Run}
use Rattle.grid_index.specs.Cells.{cell, slot}
use Rattle.grid_index.specs.Runs.{IsRun}
use Rattle.grid_index.specs.GridOf.{IsGrid}
use Rattle.grid_index.specs.inside.Entries.{HasAll}
use Rattle.grid_index.specs.inside.Starts.{AreStarts}
use Rattle.grid_index.specs.inside.Table.{HasSlots, members_at, rows_of}
use Rattle.grid_index.proofs.Parts.{runs_are}
use Rattle.grid_index.proofs.Slots.{slot_within}

abbrev starts_at : List ℕ → ℕ → ℕ
starts_at starts s = get_or starts s 0

-- starts rise
starts_rise : (sorted : List Entry) (starts : List ℕ) (count s : ℕ) (d : Entry) → AreStarts sorted starts count → s + 1 < count → starts_at starts s ≤ starts_at starts (s + 1)
starts_rise sorted starts count s d h lt =
    ⊎_elim
    (λ back.
    let here = h.each s (omega (arith, lt)) in
    let next = h.each (s + 1) lt in
    let low = here.before (starts_at starts (s + 1)) d back in
    let high = next.after (starts_at starts (s + 1)) d (omega arith) (omega (arith, back, here.within)) in
    absurd (omega (arith, low, high)))
    (λ le. le)
    (cases_lt (starts_at starts (s + 1)) (starts_at starts s))

-- an entry lies between the starts of its slot
entry_between : (sorted : List Entry) (starts : List ℕ) (count k s : ℕ) (x : Entry) → AreStarts sorted starts count → k < length sorted → get_or sorted k x ≡ x
    → x.slot ≡ s → s + 1 < count → (starts_at starts s ≤ k) × (k < starts_at starts (s + 1))
entry_between sorted starts count k s x h lt is at small =
    let here = h.each s (omega (arith, small)) in
    let next = h.each (s + 1) small in
    let same : (get_or sorted k x).slot ≡ s = ap (λ (e : Entry). e.slot) is ∙ at in (
      ⊎_elim (λ under. let low = here.before k x under in absurd (omega (arith, low, same))) (λ le. le) (cases_lt k (starts_at starts s)),
      ⊎_elim (λ under. under) (λ le. let high = next.after k x le lt in absurd (omega (arith, high, same))) (cases_lt k (starts_at starts (s + 1))),
    )

-- an element between two places is in that part of the list
contains_between : (members : List Run) (r : Run) (a b k : ℕ) → a ≤ k → k < b → b ≤ length members → get_or members k r ≡ r → Contains (take (b - a) (drop a members)) r
contains_between members r a b k low high within is =
    let n = length-take (b - a) (drop a members) in
    let m = length-drop a members in (
      k - a,
      omega (arith, n, m, low, high, within),
      get_or-take (b - a) (drop a members) (k - a) r (omega (arith, low, high)) ∙ get_or-drop a members (k - a) r ∙ ap (λ i. get_or members i r) (omega (arith, low)) ∙ is,
    )

-- the runs at a slot are among all
pub all_at : (P : Run → Type 0) (starts : List ℕ) (members : List Run) (s : ℕ) → All P members → All P (members_at starts members s)
all_at P starts members s h =
    let a = get_or starts s 0 in
    let b = get_or starts (s + 1) 0 in
    All-take P (b - a) (drop a members) (All-drop P a members h)

pub table_of : (net : Net) (side width : ℕ) (s : Entries) (sorted : List Entry) (starts : List ℕ) (members : List Run)
    → 1 ≤ width → HasAll net side width (length net.edges) s → IsPermutation s.at_slots.items sorted
    → AreStarts sorted starts (width * width + 1) → members ≡ map (λ (x : Entry). x.run) sorted
    → HasSlots width starts members × IsGrid (record { net = net; side = side; rows = rows_of width starts members; wide = s.wide.items })
table_of net side width s sorted starts members some all same h is =
    let here : Point = record { x = pos 0; y = pos 0 } in
    let none : Entry = record { slot = 0; run = record { edge = record { 0 = 0 }; first = 0; end = 0; low = here; high = here; twin = record { 0 = 0 } } } in
    let n : length members ≡ length sorted = ap length is ∙ length-map sorted (λ (x : Entry). x.run) in
    let in_members = λ (r : Run) (c w : ℕ) (there : Contains s.at_slots.items (record { slot = slot width c w; run = r })).
    let x : Entry = record { slot = slot width c w; run = r } in
    let found = Contains-permutation s.at_slots.items sorted x same there in
    let under = slot_within width c w some in
    let between = entry_between sorted starts (width * width + 1) found.0 (slot width c w) x h found.1 found.2 refl (omega (arith, under)) in
    let end = (h.each (slot width c w + 1) (omega (arith, under))).within in
    let at : get_or members found.0 r ≡ r
    = ap (λ ms. get_or ms found.0 r) is ∙ get_or-map (λ (y : Entry). y.run) sorted found.0 x r found.1 ∙ ap (λ (y : Entry). y.run) found.2
    in
    contains_between members r (starts_at starts (slot width c w)) (starts_at starts (slot width c w + 1)) found.0 between.0 between.1 (omega (arith, end, n)) at
    in
    let runs : All (IsRun net) members = subst (λ ms. All (IsRun net) ms) (sym is)
    (All-map (IsRun net) (λ (x : Entry). x.run) sorted (All-permutation (λ (x : Entry). IsRun net x.run) s.at_slots.items sorted same all.runs.at_slots))
    in (
      record {
        count = h.count_is;
        order = λ v lt. starts_rise sorted starts (width * width + 1) v none h (omega (arith, lt));
        within = λ v lt. let end = (h.each (v + 1) (omega (arith, lt))).within in omega (arith, end, n);
        corners = λ k d lt. (runs k d lt).run.corners;
      },
      record {
        wide_runs = all.runs.wide;
        cell_runs = λ c r. subst (All (IsRun net)) (sym (runs_are width starts members c r some)) (all_at (IsRun net) starts members (slot width c r) runs);
        complete = λ e i has lt.
            let at = all.entered e i has lt in
            record {
              run = at.run;
              is_run = at.is_run;
              segment = at.segment;
              stands = ⊎_elim (λ l. inl l) (λ r. inr (λ q inside. let c = cell side q.x in let w = cell side q.y in subst (λ l. Contains l at.run) (sym (runs_are width starts members c w some)) (in_members at.run c w (r q inside)))) at.entered;
            };
      },
    )
