-- One step back along the least walk.
use Rattle.std.proofs.Common.{reverse, ◌≡◌, ℕ, ◌<◌, ◌≤◌, ◌++◌, List, [], ◌∷◌, Option, Some, None, refl, sym, ap, subst, ◌∙◌, arith}
use Rattle.std.proofs.lemmas.Option.{same_Some}
use Rattle.std.proofs.lemmas.List.{reverse-reverse}
use mathlib.Core.List.{reverse-cons}
use Rattle.std.specs.Option.{IsSome, option_map}
use Rattle.road_network.specs.Net.{Net, IsLawful, source, span}
use Rattle.road_network.specs.Walk.{IsLeastWalk, walk_length}
use Rattle.road_network.specs.declared.EdgeId.{EdgeId}
use Rattle.bounded_table.specs.declared.table_row.Entry.{Entry}
use Rattle.bounded_table.specs.Table.{IsRow, IsLabelOf, last_edge, entry_in, label_in, label_of}
use Rattle.route_rebuild.specs.Numbers.{numbers}
use Rattle.road_network.proofs.Least.{same_least, front_least}

-- an entry, found at a node, with the walk that it tells of
pub record IsFound (n : Net) (bound s : ℕ) (row : List Entry) (v : ℕ) (found : Option Entry) (w : List ℕ) : Type 0 where
  pub entry : Entry
  pub is : found ≡ Some entry
  pub least : IsLeastWalk n s w v
  pub distance : entry.distance ≡ walk_length n w
  pub last : entry.last ≡ last_edge w
  pub within : entry.distance ≤ bound

-- what a row finds at a node is the entry of its least walk
pub found_entry : (n : Net) (bound s : ℕ) (row : List Entry) → IsRow n bound s (record { origin = s; entries = row }) → (v : ℕ) (o : Option Entry) → o ≡ entry_in row v → IsSome o → (w : List ℕ) × IsFound n bound s row v o w
found_entry n bound s row is v None e h = cc
found_entry n bound s row is v (Some x) e h =
    let t : IsLabelOf n bound s v (label_of x) = is.table.listed v (label_of x) (sym (ap (option_map label_of) e)) in
    (t.walk, record { entry = x; is = refl; least = t.least; distance = t.distance; last = t.last; within = t.within })

-- the last step of the walk, and the entry where it began
pub record IsStep (n : Net) (bound s : ℕ) (row : List Entry) (last : EdgeId) (w : List ℕ) (found : Option Entry) (d : ℕ) : Type 0 where
  pub front : List ℕ
  pub whole : w ≡ last.0 ∷ front
  pub here : IsFound n bound s row (source n last.0) found front
  pub nearer : here.entry.distance < d

abbrev pub is_there : {A B : Type 0} (f : A → B) (o : Option A) → IsSome (option_map f o) → IsSome o
is_there f None h = h
is_there f (Some x) h = refl

pub step_back : (n : Net) (bound s : ℕ) (row : List Entry) → IsLawful n → IsRow n bound s (record { origin = s; entries = row }) → (v : ℕ) (x : Entry) (w : List ℕ) → IsLeastWalk n s w v → x.distance ≡ walk_length n w → x.last ≡ last_edge w → x.distance ≤ bound → (last : EdgeId) → x.last ≡ Some last → (found : Option Entry) → found ≡ entry_in row (source n last.0) → IsStep n bound s row last w found x.distance
step_back n bound s row lawful is v x [] least d l short last e found at = let no_edge = sym l ∙ e in cc
step_back n bound s row lawful is v x (f ∷ y) least d l short last e found at =
    let same : f ≡ last.0 = ap (λ (k : EdgeId). k.0) (same_Some (record { 0 = f }) last (sym l ∙ e)) in
    let front : IsLeastWalk n s y (source n last.0) = subst (λ (k : ℕ). IsLeastWalk n s y (source n k)) same (front_least n s v f y least) in
    let far : 1 ≤ span n f = lawful.not_empty f least.walk.0 in
    let there : IsSome (label_in row (source n last.0)) = is.table.reached (source n last.0) y front.walk (omega arith) in
    let here = found_entry n bound s row is (source n last.0) found at (subst (λ (k : Option Entry). IsSome k) (sym at) (is_there label_of (entry_in row (source n last.0)) there)) in
    let one : here.0 ≡ y = same_least n s (source n last.0) here.0 y here.1.least front in
    let fit : IsFound n bound s row (source n last.0) found y = subst (λ (k : List ℕ). IsFound n bound s row (source n last.0) found k) one here.1 in
    record {
      front = y;
      whole = ap (λ (k : ℕ). k ∷ y) same;
      here = fit;
      nearer = omega (arith, fit.distance);
    }

pub numbers_push : (es : List EdgeId) (e : EdgeId) (w : List ℕ) → numbers (es ++ e ∷ []) ++ w ≡ numbers es ++ e.0 ∷ w
numbers_push [] e w = refl
numbers_push (x ∷ es) e w = ap (λ (k : List ℕ). x.0 ∷ k) (numbers_push es e w)

numbers_append : (es : List EdgeId) (e : EdgeId) → numbers (es ++ e ∷ []) ≡ numbers es ++ e.0 ∷ []
numbers_append [] e = refl
numbers_append (x ∷ es) e = ap (λ (k : List ℕ). x.0 ∷ k) (numbers_append es e)

-- the numbers of a list in the other order
numbers_reverse : (es : List EdgeId) → numbers (reverse es) ≡ reverse (numbers es)
numbers_reverse [] = refl
numbers_reverse (e ∷ es) = rw (reverse-cons e es, reverse-cons e.0 (numbers es)) (numbers_append (reverse es) e ∙ ap (λ (k : List ℕ). k ++ e.0 ∷ []) (numbers_reverse es))

pub turned : (es fs : List EdgeId) → fs ≡ reverse es → reverse (numbers fs) ≡ numbers es
turned es fs h = ap (λ (k : List EdgeId). reverse (numbers k)) h ∙ (ap (λ (k : List ℕ). reverse k) (numbers_reverse es) ∙ reverse-reverse (numbers es))
