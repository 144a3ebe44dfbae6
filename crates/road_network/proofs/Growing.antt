-- A draft with one more edge.
use Rattle.std.proofs.Common.{◌≡◌, ℕ, ◌+◌, ◌<◌, ◌≤◌, ◌++◌, Bool, true, false, ltb, List, [], ◌∷◌, None, Some, Option, Ok, Err, inl, inr, refl, sym, ap, ◌∙◌, subst, arith, length, drop, get_or, All, length-append}
use Rattle.std.proofs.lemmas.Bool.{cases_lt}
use Rattle.std.proofs.lemmas.Bool.Decides.{nat_tests}
use Rattle.std.proofs.lemmas.List.{get_or_append_left, get_or_push}
use Rattle.std.proofs.lemmas.List.Folds.{list_any_at}
use Rattle.std.specs.Prelude.{nat_eq, option_map}
use Rattle.std.specs.List.{list_any}
use Rattle.polyline_geometry.specs.declared.plane.Point.{Point}
use Rattle.polyline_geometry.specs.Plane.{InRange, IsLine, line_length}
use Rattle.polyline_geometry.proofs.Lengths.{line_length_some}
use Rattle.road_network.specs.declared.fault.NetworkFault.{NetworkFault}
use Rattle.road_network.specs.declared.fault.NetworkFault.TheVariants as fault
use Rattle.road_network.specs.declared.limits.NetworkLimits.{NetworkLimits}
use Rattle.road_network.specs.declared.limits.NetworkLimits.TheVariants.{Standard, Large}
use Rattle.road_network.specs.Limits.{edge_limit, node_limit, point_limit}
use Rattle.road_network.specs.Net.{Edge, Net, IsLawful, no_edge, point_count}
use Rattle.road_network.specs.NetworkFile.{Row, add_row, edge_with, first_fault, has_name, limit_faults, line_faults, nodes_with, repeated_point, when, with_row}
use Rattle.road_network.proofs.Lines.{line-apart}
use Rattle.road_network.proofs.Names.{from-inside, to-inside, nodes-kept}

-- the first fault of two lists of faults
first-here : (xs ys : List (Option NetworkFault)) (e : NetworkFault) → first_fault xs ≡ Some e → first_fault (xs ++ ys) ≡ Some e
first-here [] ys e h = cc
first-here (None ∷ xs) ys e h = first-here xs ys e h
first-here (Some x ∷ xs) ys e h = h

first-later : (xs ys : List (Option NetworkFault)) → first_fault xs ≡ None → first_fault (xs ++ ys) ≡ first_fault ys
first-later [] ys h = refl
first-later (None ∷ xs) ys h = first-later xs ys h
first-later (Some x ∷ xs) ys h = cc

-- the limits of a network with one more row
abbrev pub limits_with : NetworkLimits → Net → Row → List (Option NetworkFault)
limits_with l n r = limit_faults l (length n.edges + 1) (length (with_row n r).edges) (length (with_row n r).nodes) (point_count (with_row n r).edges) (length r.line)

pub refused-name : (l : NetworkLimits) (n : Net) (r : Row) → has_name n r.name ≡ true → add_row l n r ≡ Err (fault.DuplicateEdge (length n.edges + 1))
unfolding add_row
refused-name l n r h = rw h refl

pub refused-line : (l : NetworkLimits) (n : Net) (r : Row) (e : NetworkFault) → has_name n r.name ≡ false → first_fault (line_faults (length n.edges + 1) r.line) ≡ Some e → add_row l n r ≡ Err e
unfolding add_row
refused-line l n r e h line = rw (h, first-here (line_faults (length n.edges + 1) r.line) (limits_with l n r) e line) refl

pub refused-limit : (l : NetworkLimits) (n : Net) (r : Row) (e : NetworkFault) → has_name n r.name ≡ false → first_fault (line_faults (length n.edges + 1) r.line) ≡ None
    → first_fault (limits_with l n r) ≡ Some e → add_row l n r ≡ Err e
unfolding add_row
refused-limit l n r e h line limit = rw (h, first-later (line_faults (length n.edges + 1) r.line) (limits_with l n r) line, limit) refl

pub accepted : (l : NetworkLimits) (n : Net) (r : Row) → has_name n r.name ≡ false → first_fault (line_faults (length n.edges + 1) r.line) ≡ None
    → first_fault (limits_with l n r) ≡ None → add_row l n r ≡ Ok (with_row n r)
unfolding add_row
accepted l n r h line limit = rw (h, first-later (line_faults (length n.edges + 1) r.line) (limits_with l n r) line, limit) refl

-- what holds of each edge and of one more holds of each edge of the longer list
each-edge : (P : Edge → Type 0) (edges : List Edge) (x : Edge) → ((e : ℕ) → e < length edges → P (get_or edges e no_edge)) → P x
    → (e : ℕ) → e < length (edges ++ x ∷ []) → P (get_or (edges ++ x ∷ []) e no_edge)
each-edge P edges x old new e lt =
    elim (cases_lt e (length edges)) [
      | inl before ↦ subst P (sym (get_or_append_left edges (x ∷ []) no_edge e before)) (old e before)
      | inr after ↦
          let last : length edges ≡ e = omega (arith, lt, length-append edges (x ∷ [])) in
          subst P (sym (get_or_push edges x no_edge e last)) new
    ]

-- no earlier edge has the name that none has
no-name : (edges : List Edge) (name e : ℕ) → list_any (λ x. nat_eq name x.name) edges ≡ false → e < length edges → name ≡ (get_or edges e no_edge).name → ⊥
no-name edges name e none lt same =
    let is : nat_eq name (get_or edges e no_edge).name ≡ true = grind (arith, nat_tests) in
    let some : list_any (λ x. nat_eq name x.name) edges ≡ true = list_any_at (λ x. nat_eq name x.name) edges e no_edge lt is in
    let no : true ≡ false = sym some ∙ none in
    cc

names-differ : (edges : List Edge) (x : Edge) → ((e f : ℕ) → e < length edges → f < length edges → (get_or edges e no_edge).name ≡ (get_or edges f no_edge).name → e ≡ f)
    → list_any (λ y. nat_eq x.name y.name) edges ≡ false
    → (e f : ℕ) → e < length (edges ++ x ∷ []) → f < length (edges ++ x ∷ []) → (get_or (edges ++ x ∷ []) e no_edge).name ≡ (get_or (edges ++ x ∷ []) f no_edge).name → e ≡ f
names-differ edges x differ none e f inside within same =
    let count : length (edges ++ x ∷ []) ≡ length edges + 1 = length-append edges (x ∷ []) in
    let old : (i : ℕ) → i < length edges → get_or (edges ++ x ∷ []) i no_edge ≡ get_or edges i no_edge = λ i lt. get_or_append_left edges (x ∷ []) no_edge i lt in
    let new : (i : ℕ) → length edges ≡ i → get_or (edges ++ x ∷ []) i no_edge ≡ x = λ i last. get_or_push edges x no_edge i last in
    elim (cases_lt e (length edges)) [
      | inl e-old ↦
          elim (cases_lt f (length edges)) [
            | inl f-old ↦ differ e f e-old f-old (ap (λ (k : Edge). k.name) (sym (old e e-old)) ∙ same ∙ ap (λ (k : Edge). k.name) (old f f-old))
            | inr f-new ↦
                let last : length edges ≡ f = omega (arith, within, count) in
                absurd (no-name edges x.name e none e-old (sym (ap (λ (k : Edge). k.name) (sym (old e e-old)) ∙ same ∙ ap (λ (k : Edge). k.name) (new f last))))
          ]
      | inr e-new ↦
          let last : length edges ≡ e = omega (arith, inside, count) in
          elim (cases_lt f (length edges)) [
            | inl f-old ↦ absurd (no-name edges x.name f none f-old (ap (λ (k : Edge). k.name) (sym (new e last)) ∙ same ∙ ap (λ (k : Edge). k.name) (old f f-old)))
            | inr f-new ↦ omega (arith, within, count, last)
          ]
    ]

-- what a row shows that brings no fault
pub record IsFaultless (l : NetworkLimits) (n : Net) (r : Row) : Type 0 where
  pub named : has_name n r.name ≡ false
  pub line : first_fault (line_faults (length n.edges + 1) r.line) ≡ None
  pub limits : first_fault (limits_with l n r) ≡ None
  pub within : All InRange r.line

pub when-none : (b : Bool) (x : NetworkFault) (faults : List (Option NetworkFault)) → first_fault (when b x ∷ faults) ≡ None → (b ≡ false) × (first_fault faults ≡ None)
when-none true x faults h = cc
when-none false x faults h = (refl, h)

some-none : (f : ℕ → NetworkFault) (o : Option ℕ) (faults : List (Option NetworkFault)) → first_fault (option_map f o ∷ faults) ≡ None → (o ≡ None) × (first_fault faults ≡ None)
some-none f None faults h = (refl, h)
some-none f (Some x) faults h = cc

pub not-below : (a b : ℕ) → ltb a b ≡ false → b ≤ a
not-below a b h = grind (arith, nat_tests)

pub record IsGoodLine (line : List Point) : Type 0 where
  pub is : IsLine line
  pub long : 1 ≤ line_length line
  pub short : line_length line ≤ 100_000_000

good-line : (rec : ℕ) (line : List Point) → All InRange line → first_fault (line_faults rec line) ≡ None → IsGoodLine line
good-line rec line within h =
    let two = when-none (ltb (length line) 2) (fault.ShortLine rec) (drop 1 (line_faults rec line)) h in
    let once = some-none (λ place. fault.RepeatedPoint rec place) (repeated_point line) (drop 2 (line_faults rec line)) two.1 in
    let short = when-none (ltb 100_000_000 (line_length line)) (fault.EdgeTooLong rec) [] once.1 in
    let is : IsLine line = record { two = not-below (length line) 2 two.0; in_range = within; differ = line-apart line once.0 } in
    record { is = is; long = line_length_some line is; short = not-below 100_000_000 (line_length line) short.0 }

few_edges-within : (l : NetworkLimits) → edge_limit l ≤ 1_000_000_000
few_edges-within Standard = omega arith
few_edges-within Large = omega arith

few_nodes-within : (l : NetworkLimits) → node_limit l ≤ 1_000_000_000
few_nodes-within Standard = omega arith
few_nodes-within Large = omega arith

few_points-within : (l : NetworkLimits) → point_limit l ≤ 4_000_000_000
few_points-within Standard = omega arith
few_points-within Large = omega arith

pub record KeepsLimits (n : Net) (line : ℕ) : Type 0 where
  pub few_edges : length n.edges ≤ 1_000_000_000
  pub few_nodes : length n.nodes ≤ 1_000_000_000
  pub few_points : point_count n.edges ≤ 4_000_000_000
  pub short_line : line ≤ 1_000_000

pub keeps-limits : (l : NetworkLimits) (rec : ℕ) (n : Net) (line : ℕ) → first_fault (limit_faults l rec (length n.edges) (length n.nodes) (point_count n.edges) line) ≡ None → KeepsLimits n line
keeps-limits l rec n line h =
    let faults = limit_faults l rec (length n.edges) (length n.nodes) (point_count n.edges) line in
    let edges = when-none (ltb (edge_limit l) (length n.edges)) (fault.TooManyEdges rec) (drop 1 faults) h in
    let nodes = when-none (ltb (node_limit l) (length n.nodes)) (fault.TooManyNodes rec) (drop 2 faults) edges.1 in
    let points = when-none (ltb (point_limit l) (point_count n.edges)) (fault.TooManyPoints rec) (drop 3 faults) nodes.1 in
    let short = when-none (ltb 1_000_000 line) (fault.TooManyPoints rec) [] points.1 in
    record {
      few_edges = omega (arith, not-below (edge_limit l) (length n.edges) edges.0, few_edges-within l);
      few_nodes = omega (arith, not-below (node_limit l) (length n.nodes) nodes.0, few_nodes-within l);
      few_points = omega (arith, not-below (point_limit l) (point_count n.edges) points.0, few_points-within l);
      short_line = not-below 1_000_000 line short.0;
    }

pub lawful-more : (l : NetworkLimits) (n : Net) (r : Row) → IsLawful n → IsFaultless l n r → IsLawful (with_row n r)
lawful-more l n r h f =
    let line = good-line (length n.edges + 1) r.line f.within f.line in
    let limits = keeps-limits l (length n.edges + 1) (with_row n r) (length r.line) f.limits in
    let nodes = nodes_with n.nodes r in
    let x : Edge = edge_with nodes r in
    let more : length n.nodes ≤ length nodes = nodes-kept n.nodes r in
    record {
      few_nodes = limits.few_nodes;
      few_edges = limits.few_edges;
      few_points = limits.few_points;
      sources = each-edge (λ (k : Edge). k.«from» < length nodes) n.edges x (λ e lt. omega (arith, h.sources e lt, more)) (from-inside n.nodes r);
      targets = each-edge (λ (k : Edge). k.to < length nodes) n.edges x (λ e lt. omega (arith, h.targets e lt, more)) (to-inside n.nodes r);
      lines = each-edge (λ (k : Edge). IsLine k.line) n.edges x h.lines line.is;
      short_lines = each-edge (λ (k : Edge). length k.line ≤ 1_000_000) n.edges x h.short_lines limits.short_line;
      not_empty = each-edge (λ (k : Edge). 1 ≤ line_length k.line) n.edges x h.not_empty line.long;
      not_long = each-edge (λ (k : Edge). line_length k.line ≤ 100_000_000) n.edges x h.not_long line.short;
      names_differ = names-differ n.edges x h.names_differ f.named;
    }
