-- The file that lists a network is read as that network.
use Rattle.std.proofs.Common.{◌≡◌, ℕ, suc, ◌+◌, ◌*◌, ◌<◌, ◌≤◌, ◌^◌, ◌==◌, ℤ, true, false, List, [], ◌∷◌, ◌++◌, All, length, get_or, map, Ok, None, codes, refl, sym, ap, ap₂, subst, ◌∙◌, inl, inr, arith, add-one, append_assoc, length-append}
use Rattle.std.specs.Prelude.{nat_eq}
use Rattle.std.specs.List.{flat_map, fold, list_any}
use Rattle.std.specs.Ordering.{int_eq}
use Rattle.std.proofs.Math.Seq.{get_or-append_seam}
use Rattle.std.proofs.lemmas.Bool.{cases_Bool, le-ltb, ne_eqb}
use Rattle.std.proofs.lemmas.Bool.Decides.{Decides-int_eq}
use Rattle.std.proofs.lemmas.List.{append-nil, get_or_append_left}
use Rattle.std.proofs.lemmas.List.Elements.{All-from_get_or, All-head, All-tail}
use Rattle.std.proofs.lemmas.List.Folds.{list_any_none}
use Rattle.std.proofs.lemmas.List.Sums.{sum_by-append, sum_by-cons}
use Rattle.csv.specs.Reading.{default_config, records, records_from, strip_bom}
use Rattle.csv.specs.Writing.{default_writer, fields_text, is_blank as is_blank_record, read_back, row_text}
use Rattle.csv.specs.declared.parser.State.TheVariants as st
use Rattle.polyline_geometry.specs.declared.plane.Point.{Point}
use Rattle.polyline_geometry.specs.Plane.{IsLine, line_length}
use Rattle.road_network.specs.declared.limits.NetworkLimits.TheVariants.{Standard}
use Rattle.road_network.specs.Net.{Edge, Net, edge_at, no_edge, node_name, point_count}
use Rattle.road_network.specs.NetworkFile.{add_record, add_records, edge_with, first_fault, has_name, header, is_same, limit_faults, line_faults, network_of_records, no_net, nodes_with, place_of, repeated_after, repeated_point, with_node, with_row}
use Rattle.road_network.proofs.Adding.{file-short, record-read, records-end, records-more}
use Rattle.road_network.proofs.Growing.{accepted}
use Rattle.road_network.proofs.Names.{mentioned, stays}
use Rattle.listed_files.specs.NetworkText.{IsListed, NetworksAreRead, edge_text, end_names, network_text}
use Rattle.listed_files.proofs.Edges.{Fits, edge-length, fields_for, row-is, row-text, row_for}
use Rattle.listed_files.proofs.Nodes.{DoDiffer, differ-all, more-nodes, place-is, place-stays}
use Rattle.listed_files.proofs.Records.{records-back, text_of_records}

-- ---- a line that repeats no point

int-same : (x y : ℤ) → int_eq x y ≡ true → x ≡ y
int-same x y = (Decides-int_eq x y).0

not-same : (a b : Point) → (a ≡ b → ⊥) → is_same b a ≡ false
not-same a b differ =
    elim (cases_Bool (int_eq b.x a.x)) [
      | inl x ↦ elim (cases_Bool (int_eq b.y a.y)) [
        | inl y ↦ absurd (differ (ap₂ (λ p q. record { x = p; y = q }) (sym (int-same b.x a.x x)) (sym (int-same b.y a.y y))))
        | inr y ↦ rw (x, y) refl
      ]
      | inr x ↦ rw x refl
    ]

none-after : (i : ℕ) (a : Point) (rest : List Point) → ((k : ℕ) (d : Point) → k < length rest → get_or (a ∷ rest) k d ≡ get_or rest k d → ⊥) → repeated_after i a rest ≡ None
none-after i a [] apart = refl
none-after i a (b ∷ rest) apart =
    rw (not-same a b (λ same. apart 0 a (omega arith) same)) (none-after (i + 1) b rest (λ k d low same. apart (suc k) d (omega (arith, low)) same))

none-repeated : (line : List Point) → IsLine line → repeated_point line ≡ None
none-repeated [] is = refl
none-repeated (a ∷ rest) is =
    none-after 1 a rest (λ k d low same. is.differ k d (omega (arith, low)) (same ∙ ap (λ i. get_or (a ∷ rest) i d) (sym (add-one k))))

line-free : (rec : ℕ) (line : List Point) → IsLine line → line_length line ≤ 100_000_000 → first_fault (line_faults rec line) ≡ None
line-free rec line is short = rw (le-ltb (length line) 2 is.two, none-repeated line is, le-ltb 100_000_000 (line_length line) short) refl

limits-free : (rec edges nodes points line : ℕ) → edges ≤ 150_000 → nodes ≤ 60_000 → points ≤ 1_000_000 → line ≤ 1_000_000 → first_fault (limit_faults Standard rec edges nodes points line) ≡ None
limits-free rec edges nodes points line few_edges few_nodes few_points short =
    rw (le-ltb 150_000 edges few_edges, le-ltb 60_000 nodes few_nodes, le-ltb 1_000_000 points few_points, le-ltb 1_000_000 line short) refl

-- ---- one more edge

-- a network whose edges are the first of those of the network n, before these
pub record IsBegun (n m : Net) (rest : List Edge) : Type 0 where
  pub edges : n.edges ≡ m.edges ++ rest
  pub nodes : n.nodes ≡ fold with_node m.nodes (flat_map (end_names n) rest)

module _ (n m : Net) (e : Edge) (rest : List Edge) (listed : IsListed n) (begun : IsBegun n m (e ∷ rest)) where
  here : edge_at n (length m.edges) ≡ e
  here = ap (λ edges. get_or edges (length m.edges) no_edge) begun.edges ∙ get_or-append_seam m.edges e rest no_edge

  count : length n.edges ≡ length m.edges + length (e ∷ rest)
  count = ap length begun.edges ∙ length-append m.edges (e ∷ rest)

  inside : length m.edges < length n.edges
  inside = omega (arith, count)

  of-here : (P : Edge → Type 0) → P (edge_at n (length m.edges)) → P e
  of-here P holds = subst P here holds

  from-there : e.«from» < length n.nodes
  from-there = of-here (λ x. x.«from» < length n.nodes) (listed.lawful.sources (length m.edges) inside)

  to-there : e.to < length n.nodes
  to-there = of-here (λ x. x.to < length n.nodes) (listed.lawful.targets (length m.edges) inside)

  is-line : IsLine e.line
  is-line = of-here (λ x. IsLine x.line) (listed.lawful.lines (length m.edges) inside)

  is-short : length e.line ≤ 1_000_000
  is-short = of-here (λ x. length x.line ≤ 1_000_000) (listed.lawful.short_lines (length m.edges) inside)

  not-long : line_length e.line ≤ 100_000_000
  not-long = of-here (λ x. line_length x.line ≤ 100_000_000) (listed.lawful.not_long (length m.edges) inside)

  fits : Fits n e
  fits =
      let line = is-line in
      let two = line.two in
      record {
        name = of-here (λ x. x.name < 2 ^ 32) (listed.edge_ids (length m.edges) no_edge inside);
        start = listed.node_ids e.«from» 0 from-there;
        stop = listed.node_ids e.to 0 to-there;
        some = omega (arith, two);
        within = line.in_range;
      }

  -- the nodes of the network with this edge
  nodes-now : List ℕ
  nodes-now = nodes_with m.nodes (row_for n e)

  nodes-later : n.nodes ≡ fold with_node (nodes_with m.nodes (row_for n e)) (flat_map (end_names n) rest)
  nodes-later = begun.nodes

  differ : DoDiffer n.nodes
  differ = subst DoDiffer (sym listed.numbered) (differ-all (flat_map (end_names n) n.edges) [] (λ u v low. absurd (omega (arith, low))))

  placed : (v : ℕ) → v < length n.nodes → list_any (nat_eq (node_name n v)) (nodes_with m.nodes (row_for n e)) ≡ true → place_of (nodes_with m.nodes (row_for n e)) (node_name n v) ≡ v
  placed v low known =
      sym (place-stays (flat_map (end_names n) rest) (nodes_with m.nodes (row_for n e)) (node_name n v) known)
      ∙ ap (λ names. place_of names (node_name n v)) (sym nodes-later)
      ∙ place-is n.nodes v differ low

  same-edge : edge_with (nodes_with m.nodes (row_for n e)) (row_for n e) ≡ e
  same-edge =
      let start = node_name n e.«from» in
      let stop = node_name n e.to in
      ap₂ (λ (i j : ℕ). record { name = e.name; «from» = i; to = j; line = e.line })
      (placed e.«from» from-there (stays (with_node m.nodes start) start stop (mentioned m.nodes start)))
      (placed e.to to-there (mentioned (with_node m.nodes start) stop))

  new-name : has_name m e.name ≡ false
  new-name =
      list_any_none (λ (x : Edge). e.name == x.name) m.edges
      (All-from_get_or (λ (x : Edge). (e.name == x.name) ≡ false) m.edges no_edge
      (λ i low. ne_eqb e.name (get_or m.edges i no_edge).name (λ same.
      let old : get_or n.edges i no_edge ≡ get_or m.edges i no_edge = ap (λ edges. get_or edges i no_edge) begun.edges ∙ get_or_append_left m.edges (e ∷ rest) no_edge i low in
      let one : length m.edges ≡ i = listed.lawful.names_differ (length m.edges) i inside (omega (arith, low, inside)) (ap (λ (x : Edge). x.name) here ∙ same ∙ ap (λ (x : Edge). x.name) (sym old)) in
      omega (arith, one, low))))

  few-points : point_count (m.edges ++ edge_with (nodes_with m.nodes (row_for n e)) (row_for n e) ∷ []) ≤ 1_000_000
  few-points =
      let all : point_count n.edges ≡ point_count m.edges + point_count (e ∷ rest) = ap point_count begun.edges ∙ sum_by-append (λ (x : Edge). length x.line) m.edges (e ∷ rest) in
      let first : point_count (e ∷ rest) ≡ length e.line + point_count rest = sum_by-cons (λ (x : Edge). length x.line) e rest in
      let now : point_count (m.edges ++ edge_with (nodes_with m.nodes (row_for n e)) (row_for n e) ∷ []) ≡ point_count m.edges + point_count (edge_with (nodes_with m.nodes (row_for n e)) (row_for n e) ∷ []) = sum_by-append (λ (x : Edge). length x.line) m.edges (edge_with (nodes_with m.nodes (row_for n e)) (row_for n e) ∷ []) in
      let last : point_count (edge_with (nodes_with m.nodes (row_for n e)) (row_for n e) ∷ []) ≡ length e.line + 0 = sum_by-cons (λ (x : Edge). length x.line) (edge_with (nodes_with m.nodes (row_for n e)) (row_for n e)) [] in
      let most = listed.points in
      omega (arith, all, first, now, last, most)

  few-nodes : length (nodes_with m.nodes (row_for n e)) ≤ 60_000
  few-nodes =
      let later : length n.nodes ≡ length (fold with_node (nodes_with m.nodes (row_for n e)) (flat_map (end_names n) rest)) = ap length nodes-later in
      let grown = more-nodes (flat_map (end_names n) rest) (nodes_with m.nodes (row_for n e)) in
      let most = listed.nodes in
      omega (arith, later, grown, most)

  edge-added : add_record Standard m (fields_for n e) ≡ Ok (with_row m (row_for n e))
  edge-added =
      let rec = length m.edges + 1 in
      let edges : length (with_row m (row_for n e)).edges ≤ 150_000 = let most = listed.edges in omega (arith, most, count, length-append m.edges (edge_with (nodes_with m.nodes (row_for n e)) (row_for n e) ∷ [])) in
      record-read Standard m rec (fields_for n e) (row_for n e) refl (row-is rec n e fits)
      ∙ accepted Standard m (row_for n e) new-name (line-free rec e.line is-line not-long)
      (limits-free rec (length (with_row m (row_for n e)).edges) (length (with_row m (row_for n e)).nodes) (point_count (with_row m (row_for n e)).edges) (length e.line) edges few-nodes few-points is-short)

  begun-more : IsBegun n (with_row m (row_for n e)) rest
  begun-more = record {
    edges = begun.edges ∙ ap (λ x. m.edges ++ x ∷ rest) (sym same-edge) ∙ sym (append_assoc m.edges (edge_with (nodes_with m.nodes (row_for n e)) (row_for n e) ∷ []) rest);
    nodes = nodes-later;
  }

rest-added : (rest : List Edge) (n m : Net) → IsListed n → IsBegun n m rest → add_records Standard m (map (fields_for n) rest) ≡ Ok n
rest-added [] n m listed begun =
    records-end Standard m
    ∙ ap₂ (λ nodes edges. let net : Net = record { nodes = nodes; edges = edges } in Ok net) (sym begun.nodes) (sym (begun.edges ∙ append-nil m.edges))
rest-added (e ∷ rest) n m listed begun =
    records-more Standard m (with_row m (row_for n e)) (fields_for n e) (map (fields_for n) rest) (edge-added n m e rest listed begun)
    ∙ rest-added rest n (with_row m (row_for n e)) listed (begun-more n m e rest listed begun)

-- ---- the text

text-is : (edges : List Edge) (n : Net) → All (Fits n) edges → text_of_records (map (fields_for n) edges) ≡ flat_map (edge_text n) edges
unfolding text_of_records
text-is [] n all = refl
text-is (e ∷ edges) n all = ap₂ (λ a b. a ++ b) (row-text n e (All-head (Fits n) e edges all)) (text-is edges n (All-tail (Fits n) e edges all))

back-same : (edges : List Edge) (n : Net) → map read_back (map (fields_for n) edges) ≡ map (fields_for n) edges
back-same [] n = refl
back-same (e ∷ edges) n = ap (λ rows. fields_for n e ∷ rows) (back-same edges n)

record HasLength (n : Net) (edges : List Edge) : Type 0 where
  least : length (map (fields_for n) edges) ≤ length (flat_map (edge_text n) edges)
  most : length (flat_map (edge_text n) edges) ≤ 64 * length edges + 44 * point_count edges

texts-length : (edges : List Edge) (n : Net) → All (Fits n) edges → HasLength n edges
texts-length [] n all = record { least = omega arith; most = omega arith }
texts-length (e ∷ edges) n all =
    let here = edge-length n e (All-head (Fits n) e edges all) in
    let later = texts-length edges n (All-tail (Fits n) e edges all) in
    let least = later.least in
    let most = later.most in
    let size = length-append (edge_text n e) (flat_map (edge_text n) edges) in
    let points : point_count (e ∷ edges) ≡ length e.line + point_count edges = sum_by-cons (λ (x : Edge). length x.line) e edges in
    record {
      least = omega (arith, here.0, least, size);
      most = omega (arith, here.1, most, size, points);
    }

all-fit : (n : Net) → IsListed n → All (Fits n) n.edges
all-fit n listed =
    All-from_get_or (Fits n) n.edges no_edge (λ i low.
    let line : IsLine (get_or n.edges i no_edge).line = listed.lawful.lines i low in
    let two = line.two in
    record {
      name = listed.edge_ids i no_edge low;
      start = listed.node_ids (get_or n.edges i no_edge).«from» 0 (listed.lawful.sources i low);
      stop = listed.node_ids (get_or n.edges i no_edge).to 0 (listed.lawful.targets i low);
      some = omega (arith, two);
      within = line.in_range;
    })

pub header-is : row_text default_writer header ≡ codes "edge,from,to,line\n"
unfolding fields_text is_blank_record
header-is = refl

pub mark-free : (rest : List ℕ) → strip_bom (codes "edge,from,to,line\n" ++ rest) ≡ codes "edge,from,to,line\n" ++ rest
unfolding strip_bom
mark-free rest = refl

pub of-records : (rows : List (List (List ℕ))) → network_of_records Standard (header ∷ rows) ≡ add_records Standard no_net rows
unfolding network_of_records
of-records rows = refl

pub networks_are_read : NetworksAreRead
unfolding text_of_records
networks_are_read n listed =
    let lines = flat_map (edge_text n) n.edges in
    let rows = map (fields_for n) n.edges in
    let all = all-fit n listed in
    let size = texts-length n.edges n all in
    let least = size.least in
    let most = size.most in
    let edges = listed.edges in
    let points = listed.points in
    let whole : length (network_text n) ≡ 18 + length lines = length-append (codes "edge,from,to,line\n") lines in
    let same : text_of_records (header ∷ rows) ≡ network_text n = ap₂ (λ a b. a ++ b) header-is (text-is n.edges n all) in
    let turns : length (header ∷ rows) ≤ length (network_text n) + 1 = omega (arith, whole, least) in
    file-short Standard (network_text n) (omega (arith, whole, most, edges, points))
    ∙ ap (λ t. network_of_records Standard (records default_config t)) (mark-free lines)
    ∙ ap (λ t. network_of_records Standard (records_from default_config (length (network_text n) + 1) st.StartRecord t)) (sym same)
    ∙ ap (network_of_records Standard) (records-back (header ∷ rows) (length (network_text n) + 1) turns)
    ∙ ap (λ rs. network_of_records Standard (header ∷ rs)) (back-same n.edges n)
    ∙ of-records rows
    ∙ rest-added n.edges n no_net listed (record { edges = refl; nodes = listed.numbered })
