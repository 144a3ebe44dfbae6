-- The ranks of a best sequence, as the least rank of the last point and the pointers from there back. Tables and ranks
-- stand in the order of the points where nothing else is said.
use Rattle.std.proofs.Common.{◌≡◌, ◌<◌, ℕ, zero, suc, ◌+◌, ◌-◌, List, [], ◌∷◌, length, get_or, take, reverse, Option, Some, None, refl, sym, ◌∙◌, ap, subst, arith, ⊎_elim}
use Rattle.matching.specs.declared.parts.Cell.{Cell}
use Rattle.matching.specs.Cells.{cell_at}
use Rattle.matching.specs.Local.{AreFirst, AreLinked, AreNext, by_pointers}
use Rattle.matching.specs.Order.{AtMost}
use Rattle.matching.specs.Places.{IsAt}
use Rattle.matching.specs.Sequences.{Trellis, IsBest}
use Rattle.matching.specs.SoFar.{IsRun}
use Rattle.matching.proofs.Chosen.{live_below, live_reached, reached_live}
use Rattle.matching.proofs.Costs.{cost-in_range}
use Rattle.matching.proofs.Linked.{linked_count}
use Rattle.matching.proofs.Lists.{at-get_or, reverse-take}
use Rattle.matching.proofs.Orders.{at_most-both, at_most-le, at_most-tail}
use Rattle.matching.proofs.Runs.{run_at}
use Rattle.cert_checker.specs.Cells.{pointer_of}
use Rattle.cert_checker.proofs.CellTests.{IsLeastRank}

-- the cells of the first point of a run
pub first_at : {L : Type 0} (t : Trellis L) (layers : List L) (tables : List (List Cell)) (l : L) (cells : List Cell)
    → IsRun t layers tables → IsAt layers 0 l → IsAt tables 0 cells → AreFirst t l cells
first_at t layers tables l cells run l-at cells-at = run_at t layers tables 0 l cells run.linked run.within l-at cells-at

-- the cells of two neighbouring points of a run
pub next_at : {L : Type 0} (t : Trellis L) (layers : List L) (tables : List (List Cell)) (k : ℕ) (m l : L) (before cells : List Cell)
    → IsRun t layers tables → IsAt layers k m → IsAt layers (k + 1) l → IsAt tables k before → IsAt tables (k + 1) cells → AreNext t m before l cells
next_at t layers tables k m l before cells run m-at l-at before-at cells-at =
    let linked = run_at t layers tables (k + 1) l cells run.linked run.within l-at cells-at in
    let whole : AreLinked t (l ∷ m ∷ reverse (take k layers)) (cells ∷ before ∷ reverse (take k tables)) =
    subst (λ ys. AreLinked t (l ∷ m ∷ reverse (take k layers)) (cells ∷ ys)) (reverse-take tables k before before-at)
    (subst (λ xs. AreLinked t (l ∷ xs) (cells ∷ reverse (take (k + 1) tables))) (reverse-take layers k m m-at) linked) in
    whole.0

not_lower : (c r k : ℕ) (xs ys : List ℕ) → AtMost c (r ∷ xs) c (k ∷ ys) → k < r → ⊥
not_lower c r k xs ys h lt = ⊎_elim (λ less. omega (arith, less)) (λ eq. ⊎_elim (λ low. omega (arith, low, lt)) (λ same. omega (arith, same.0, lt)) eq.1) h

-- the last rank of a best sequence is the least of least cost, and the others are those of the pointers
pub best_is : {L : Type 0} (t : Trellis L) (l : L) (layers : List L) (cells : List Cell) (tables : List (List Cell)) (r c : ℕ) (rest : List ℕ)
    → AreLinked t (l ∷ layers) (cells ∷ tables) → IsBest t (l ∷ layers) c (r ∷ rest)
    → IsLeastRank cells r c × (rest ≡ by_pointers tables ((cell_at cells r).«from»))
best_is t l layers cells tables r c rest linked best =
    let to = λ (k : ℕ). by_pointers tables ((cell_at cells k).«from») in
    let width = linked_count t l layers cells tables linked in
    let r_in = cost-in_range t l layers r rest c best.costs in
    let live = reached_live t l layers cells tables r c rest linked best.costs in
    let known = live_reached t l layers cells tables r live.0 linked r_in live.1 in
    let same = at_most-both c live.0 rest (to r) (at_most-tail c live.0 r rest (to r) (best.least live.0 (r ∷ to r) known.costs)) (known.least c rest best.costs) in
    let reached = λ (k d : ℕ) (e : (cell_at cells k).cost ≡ Some d).
    let k_in = live_below cells k d e in
    live_reached t l layers cells tables k d linked (omega (arith, k_in, width)) e in (
      record {
        cost-is = live.1 ∙ ap (λ v. let o : Option ℕ = Some v in o) (sym same.0);
        least = λ k d e. at_most-le c d (r ∷ rest) (k ∷ to k) (best.least d (k ∷ to k) (reached k d e).costs);
        first = λ k low e. not_lower c r k rest (to k) (best.least c (k ∷ to k) (reached k c e).costs) low;
      },
      same.1,
    )

by_pointers-parts : (cells : List Cell) (tables : List (List Cell)) (y : Option ℕ) (a : ℕ) (rest : List ℕ)
    → a ∷ rest ≡ by_pointers (cells ∷ tables) y → (y ≡ Some a) × (rest ≡ by_pointers tables ((cell_at cells a).«from»))
by_pointers-parts cells tables None a rest e = absurd (cc)
by_pointers-parts cells tables (Some b) a rest e =
    let same : a ≡ b = cc in
    let others : rest ≡ by_pointers tables ((cell_at cells b).«from») = cc in
    (ap (λ v. let o : Option ℕ = Some v in o) (sym same), others ∙ ap (λ v. by_pointers tables ((cell_at cells v).«from»)) (sym same))

-- the first m ranks are those that the pointer of rank m leads to
abbrev pub LeadsBack : List ℕ → List (List Cell) → ℕ → Type 0
LeadsBack chosen tables m = reverse (take m chosen) ≡ by_pointers (reverse (take m tables)) (pointer_of (get_or tables m []) (Some (get_or chosen m 0)))

-- one point back
step_back : (chosen : List ℕ) (tables : List (List Cell)) (m : ℕ) → m + 1 < length chosen → m + 1 < length tables → LeadsBack chosen tables (m + 1)
    → (pointer_of (get_or tables (m + 1) []) (Some (get_or chosen (m + 1) 0)) ≡ Some (get_or chosen m 0)) × LeadsBack chosen tables m
step_back chosen tables m lt lt2 h =
    let y = pointer_of (get_or tables (m + 1) []) (Some (get_or chosen (m + 1) 0)) in
    let left = reverse-take chosen m (get_or chosen m 0) (at-get_or chosen m 0 (omega (arith, lt))) in
    let right = reverse-take tables m (get_or tables m []) (at-get_or tables m [] (omega (arith, lt2))) in
    by_pointers-parts (get_or tables m []) (reverse (take m tables)) y (get_or chosen m 0) (reverse (take m chosen)) (sym left ∙ h ∙ ap (λ ts. by_pointers ts y) right)

all_back : (chosen : List ℕ) (tables : List (List Cell)) (n d m : ℕ) → m + d ≡ n → n < length chosen → n < length tables → LeadsBack chosen tables n → LeadsBack chosen tables m
all_back chosen tables n zero m e lt lt2 h = let same : n ≡ m = omega (arith, e) in subst (λ k. LeadsBack chosen tables k) same h
all_back chosen tables n (suc d) m e lt lt2 h =
    (step_back chosen tables m (omega (arith, e, lt)) (omega (arith, e, lt2)) (all_back chosen tables n d (m + 1) (omega (arith, e)) lt lt2 h)).1

-- each rank is the pointer of the next one
pub rank_before : (chosen : List ℕ) (tables : List (List Cell)) (n m : ℕ) → m < n → n < length chosen → n < length tables → LeadsBack chosen tables n
    → pointer_of (get_or tables (m + 1) []) (Some (get_or chosen (m + 1) 0)) ≡ Some (get_or chosen m 0)
rank_before chosen tables n m low lt lt2 h =
    (step_back chosen tables m (omega (arith, low, lt)) (omega (arith, low, lt2))
    (all_back chosen tables n (n - (m + 1)) (m + 1) (omega (arith, low)) lt lt2 h)).0

no_pointers : (y : Option ℕ) → by_pointers [] y ≡ []
no_pointers None = refl
no_pointers (Some a) = refl

-- ranks that follow the pointers are those that they lead to
abbrev pub Follows : List ℕ → List (List Cell) → ℕ → Type 0
Follows chosen tables m = (k : ℕ) → k < m → pointer_of (get_or tables (k + 1) []) (Some (get_or chosen (k + 1) 0)) ≡ Some (get_or chosen k 0)

leads_on : (chosen : List ℕ) (tables : List (List Cell)) (m : ℕ) → m < length chosen → m < length tables → Follows chosen tables m
    → by_pointers (reverse (take m tables)) (pointer_of (get_or tables m []) (Some (get_or chosen m 0))) ≡ reverse (take m chosen)
leads_on chosen tables zero lt lt2 follow = no_pointers (pointer_of (get_or tables 0 []) (Some (get_or chosen 0 0)))
leads_on chosen tables (suc m) lt lt2 follow =
    let e : suc m ≡ m + 1 = omega arith in
    let y = pointer_of (get_or tables (m + 1) []) (Some (get_or chosen (m + 1) 0)) in
    let left : reverse (take (m + 1) tables) ≡ get_or tables m [] ∷ reverse (take m tables) = reverse-take tables m (get_or tables m []) (at-get_or tables m [] (omega (arith, lt2))) in
    let right : reverse (take (m + 1) chosen) ≡ get_or chosen m 0 ∷ reverse (take m chosen) = reverse-take chosen m (get_or chosen m 0) (at-get_or chosen m 0 (omega (arith, lt))) in
    let before = leads_on chosen tables m (omega (arith, lt)) (omega (arith, lt2)) (λ k low. follow k (omega (arith, low))) in
    let here : by_pointers (reverse (take (m + 1) tables)) y ≡ reverse (take (m + 1) chosen) =
    ap (by_pointers (reverse (take (m + 1) tables))) (follow m (omega arith))
    ∙ ap (λ ts. by_pointers ts (Some (get_or chosen m 0))) left ∙ ap (λ rs. get_or chosen m 0 ∷ rs) before ∙ sym right in
    subst (λ k. by_pointers (reverse (take k tables)) (pointer_of (get_or tables k []) (Some (get_or chosen k 0))) ≡ reverse (take k chosen)) (sym e) here

-- the same from the last rank on
pub leads_back : (chosen : List ℕ) (tables : List (List Cell)) (m : ℕ) → m < length chosen → m < length tables
    → Follows chosen tables m
    → by_pointers (reverse (take (m + 1) tables)) (Some (get_or chosen m 0)) ≡ reverse (take (m + 1) chosen)
leads_back chosen tables m lt lt2 follow =
    ap (λ ts. by_pointers ts (Some (get_or chosen m 0))) (reverse-take tables m (get_or tables m []) (at-get_or tables m [] lt2))
    ∙ ap (λ rs. get_or chosen m 0 ∷ rs) (leads_on chosen tables m lt lt2 follow)
    ∙ sym (reverse-take chosen m (get_or chosen m 0) (at-get_or chosen m 0 lt))
