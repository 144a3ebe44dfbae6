-- A row in parts: the entries before its origin's, this one, and those after it.
use Rattle.std.proofs.Common.{◌≡◌, ◌≢◌, ℕ, zero, suc, ◌+◌, ◌-◌, ◌<◌, ◌≤◌, ◌⊎◌, inl, inr, List, [], ◌∷◌, ◌++◌, take, drop, length, slice_index_or, refl, sym, ap, subst, ◌∙◌, arith}
use Rattle.std.proofs.lemmas.Bool.Decides.{eqb_tells}
use Rattle.std.proofs.lemmas.List.{drop_more, get_or-drop, get_or-take, length-drop, length-take-le, take-append-drop, take_all}
use Rattle.std.specs.List.{All}
use Rattle.std.specs.Option.{IsSome}
use Rattle.bounded_table.specs.declared.table_row.Entry.{Entry}
use Rattle.std.proofs.lemmas.List.Elements.{All-take, All-drop}
use Rattle.bounded_table.specs.Finding.{IsPlaceOf}
use Rattle.row_search.specs.inside.Marked.{MarkLists, MarksNode}
use Rattle.row_search.specs.inside.Merging.{MarksAlso, merged, merged_entry}
use Rattle.bounded_table.specs.RowRules.{IsRowEntry, MeetsRowRules}
use Rattle.bounded_table.specs.Table.{RisesFrom, TableRow, entry_in}
use Rattle.row_search.proofs.LeftByMerging.{also_more}
use Rattle.bounded_table.proofs.LastEdges.{entry_node}
use Rattle.bounded_table.proofs.RowChecks.{rises_apart}

rises_lower : (b c : ℕ) (row : List Entry) → c ≤ b → RisesFrom b row → RisesFrom c row
rises_lower b c [] le r = tt
rises_lower b c (x ∷ row) le r = (omega (arith, le, r.0), r.1)

pub rises_take : (k b : ℕ) (row : List Entry) → RisesFrom b row → RisesFrom b (take k row)
rises_take zero b row r = tt
rises_take (suc k) b [] r = tt
rises_take (suc k) b (x ∷ row) r = (r.0, rises_take k (x.node.0 + 1) row r.1)

pub rises_drop : (k b : ℕ) (row : List Entry) → RisesFrom b row → RisesFrom b (drop k row)
rises_drop zero b row r = r
rises_drop (suc k) b [] r = tt
rises_drop (suc k) b (x ∷ row) r = rises_lower (x.node.0 + 1) b (drop k row) (omega (arith, r.0)) (rises_drop k (x.node.0 + 1) row r.1)

pub merged_parts : (bound d : ℕ) (xs ys : List Entry) (words : List ℕ) → merged bound d (xs ++ ys) words ≡ merged bound d ys (merged bound d xs words)
merged_parts bound d [] ys words = refl
merged_parts bound d (x ∷ xs) ys words = merged_parts bound d xs ys (merged_entry bound d x words)

in_parts : (xs ys : List Entry) (v : ℕ) → IsSome (entry_in (xs ++ ys) v) → IsSome (entry_in xs v) ⊎ IsSome (entry_in ys v)
in_parts [] ys v some = inr some
in_parts (x ∷ xs) ys v some = elim (eqb_tells x.node.0 v) [
  | inl t ↦ inl (rw t.0 refl)
  | inr t ↦ elim (in_parts xs ys v (rw t.0 at some)) [ inl first ↦ inl (rw t.0 first) | inr later ↦ inr later ]
]

pub also_both : (xs ys : List Entry) (before mid after : MarkLists) → MarksAlso xs before mid → MarksAlso ys mid after → MarksAlso (xs ++ ys) before after
also_both xs ys before mid after first later = record {
  kept = λ v m. later.kept v (first.kept v m);
  listed = λ v some. elim (in_parts xs ys v some) [ inl is ↦ later.kept v (first.listed v is) | inr is ↦ later.listed v is ];
}

-- only the entry at the origin's place has no last edge
pub edges_before : (s m : ℕ) (row : List Entry) → RisesFrom 0 row → All (IsRowEntry s) row → IsPlaceOf row s m → All (λ x. IsSome x.last) (take m row)
edges_before s m row rises others at k d lt =
    let inside : k < m = omega (arith, lt, length-take-le m row (omega (arith, at.0))) in
    let apart = rises_apart 0 row rises k (m - k) m d d (omega (arith, inside)) at.0 in
    let own : (slice_index_or row m d).node.0 ≡ s = entry_node row s (slice_index_or row m d) (at.1 d) in
    let differs : (slice_index_or row k d).node.0 ≢ s = omega (arith, apart, own, inside) in
    subst (λ (x : Entry). IsSome x.last) (sym (get_or-take m row k d inside)) (others k d (omega (arith, inside, at.0)) differs).1

pub edges_after : (s m : ℕ) (row : List Entry) → RisesFrom 0 row → All (IsRowEntry s) row → IsPlaceOf row s m → All (λ x. IsSome x.last) (drop (m + 1) row)
edges_after s m row rises others at k d lt =
    let inside : m + 1 + k < length row = omega (arith, lt, length-drop (m + 1) row) in
    let apart = rises_apart 0 row rises m (1 + k) (m + 1 + k) d d (omega arith) inside in
    let own : (slice_index_or row m d).node.0 ≡ s = entry_node row s (slice_index_or row m d) (at.1 d) in
    let differs : (slice_index_or row (m + 1 + k) d).node.0 ≢ s = omega (arith, apart, own) in
    subst (λ (x : Entry). IsSome x.last) (sym (get_or-drop (m + 1) row k d)) (others (m + 1 + k) d inside differs).1

-- what is known of the entries of a row
pub record AreParts (count s m : ℕ) (row : List Entry) : Type 0 where
  pub rising : RisesFrom 0 row
  pub others : All (IsRowEntry s) row
  pub place : IsPlaceOf row s m
  pub inside : All (λ x. (x.node.0 < count) × (x.distance ≤ 10_000_000)) row

pub parts_inside : (count m : ℕ) (shown : TableRow) (row : List Entry) → MeetsRowRules shown → IsPlaceOf shown.entries shown.origin m → row ≡ shown.entries → All (λ x. (x.node.0 < count) × (x.distance ≤ 10_000_000)) shown.entries → AreParts count shown.origin m row
parts_inside count m shown row rules place is inside = subst (AreParts count shown.origin m) (sym is) (record {
  rising = rules.rising;
  others = rules.others;
  place = place;
  inside = inside;
})

-- each of the two parts may be merged
abbrev pub IsPart : ℕ → List Entry → Type 0
IsPart count part = RisesFrom 0 part × All (λ x. (x.node.0 < count) × (x.distance ≤ 10_000_000) × IsSome x.last) part

pub part_before : (count s m : ℕ) (row : List Entry) → AreParts count s m row → IsPart count (take m row)
part_before count s m row h = (
  rises_take m 0 row h.rising,
  λ k d lt. let i = All-take (λ x. (x.node.0 < count) × (x.distance ≤ 10_000_000)) m row h.inside k d lt in (i.0, i.1, edges_before s m row h.rising h.others h.place k d lt),
)

-- the part after it, as a slice gives it
after_all : (m : ℕ) (row : List Entry) → take (length row - (m + 1)) (drop (m + 1) row) ≡ drop (m + 1) row
after_all m row = take_all (length row - (m + 1)) (drop (m + 1) row) (omega (arith, length-drop (m + 1) row))

pub part_after : (count s m : ℕ) (row : List Entry) → AreParts count s m row → IsPart count (take (length row - (m + 1)) (drop (m + 1) row))
part_after count s m row h = subst (IsPart count) (sym (after_all m row)) (
  rises_drop (m + 1) 0 row h.rising,
  λ k d lt. let i = All-drop (λ x. (x.node.0 < count) × (x.distance ≤ 10_000_000)) (m + 1) row h.inside k d lt in (i.0, i.1, edges_after s m row h.rising h.others h.place k d lt),
)

-- together with the entry between them they are the row
row_of_parts : (m : ℕ) (row : List Entry) (d : Entry) → m < length row → take m row ++ slice_index_or row m d ∷ take (length row - (m + 1)) (drop (m + 1) row) ≡ row
row_of_parts m row d lt = ap (λ (k : List Entry). take m row ++ slice_index_or row m d ∷ k) (after_all m row) ∙ (ap (λ (k : List Entry). take m row ++ k) (sym (drop_more row m d lt)) ∙ take-append-drop m row)

-- so merging them one after another merges the row
pub merged_row : (bound d m : ℕ) (row : List Entry) (none : Entry) (old first own new : List ℕ) → m < length row → first ≡ merged bound d (take m row) old → own ≡ merged_entry bound d (slice_index_or row m none) first → new ≡ merged bound d (take (length row - (m + 1)) (drop (m + 1) row)) own → new ≡ merged bound d row old
merged_row bound d m row none old first own new lt a b c =
    let x : Entry = slice_index_or row m none in
    let after : List Entry = take (length row - (m + 1)) (drop (m + 1) row) in
    let last : new ≡ merged bound d after (merged_entry bound d x (merged bound d (take m row) old)) = c ∙ ap (merged bound d after) (b ∙ ap (merged_entry bound d x) a) in
    last ∙ (sym (merged_parts bound d (take m row) (x ∷ after) old) ∙ ap (λ (k : List Entry). merged bound d k old) (row_of_parts m row none lt))

pub also_row : (m : ℕ) (row : List Entry) (none : Entry) (old first own new : MarkLists) → m < length row → MarksAlso (take m row) old first → MarksNode first (slice_index_or row m none).node.0 own → MarksAlso (take (length row - (m + 1)) (drop (m + 1) row)) own new → MarksAlso row old new
also_row m row none old first own new lt a b c =
    let x : Entry = slice_index_or row m none in
    let after : List Entry = take (length row - (m + 1)) (drop (m + 1) row) in
    subst (λ (k : List Entry). MarksAlso k old new) (row_of_parts m row none lt) (also_both (take m row) (x ∷ after) old first new a (also_more x after first own new b c))
