-- A node is left by merging its row: the search is underway without it, and what is labelled is marked.
use Rattle.std.proofs.Common.{◌≡◌, ℕ, ◌<◌, ◌≤◌, ◌/◌, ◌^◌, inl, inr, length, List, [], ◌∷◌, ◌++◌, slice_index_or, Some, true≢false, sym, ap, subst, ◌∙◌, arith}
use Rattle.std.proofs.lemmas.Bool.{cases_eq}
use Rattle.std.proofs.lemmas.Bool.Decides.{eqb_tells}
use Rattle.std.proofs.lemmas.List.Elements.{recursion_from_All}
use Rattle.std.specs.List.{All, AllByRecursion}
use Rattle.road_network.specs.Net.{Net, HasNode, IsLawful}
use Rattle.row_search.specs.declared.dijkstra.Workspace.{Workspace}
use Rattle.row_search.specs.declared.marks.Marks.{Marks}
use Rattle.row_search.specs.declared.queue.Waiting.{Waiting}
use Rattle.bounded_table.specs.declared.table_row.Entry.{Entry}
use Rattle.bounded_table.specs.Closed.{IsClosed, IsReached, origin_label}
use Rattle.bounded_table.specs.LabelWords.{distance_at, word_at}
use Rattle.row_search.specs.inside.Marked.{IsMarkedIn, IsSized, MarkLists, MarksNode, lists_in}
use Rattle.row_search.specs.inside.Merging.{MarksAlso, MergesAll}
use Rattle.row_search.specs.inside.Searching.{AreMarkedOrWait, Leaves}
use Rattle.bounded_table.specs.Table.{IsRow, RisesFrom, TableRow, entry_in, label_in, label_of}
use Rattle.row_search.specs.inside.Underway.{IsUnderway, NonePending, Waits}
use Rattle.bounded_table.proofs.ClosedTables.{closed_of_table, none_some, some_there}
use Rattle.bounded_table.proofs.Entries.{cases_Option, entry_with}
use Rattle.row_search.proofs.Gaining.{front_or_rest}
use Rattle.row_search.proofs.MarkedNodes.{sized_still}
use Rattle.row_search.proofs.MergedRows.{IsMerge, Merges, by_edge, label_at_entry, merge_keeps, merges}
use Rattle.bounded_table.proofs.RowChecks.{entry_at}

-- the entries of a row are of nodes of the network, within the bound
pub entries_inside : (n : Net) (bound v : ℕ) (row : List Entry) → IsLawful n → HasNode n v → RisesFrom 0 row → IsClosed n bound v (label_in row) → All (λ x. HasNode n x.node.0 × (x.distance ≤ bound)) row
entries_inside n bound v row lawful has rises closed k d lt =
    let x : Entry = slice_index_or row k d in
    let at : entry_in row x.node.0 ≡ Some x = entry_at 0 row rises k d lt in (
      elim (cases_eq x.node.0 v) [
        | inl same ↦ omega (arith, same, has)
        | inr apart ↦
            let r : IsReached n (label_in row) x.node.0 (label_of x) = by_edge n bound v row closed x.node.0 x apart at in
            omega (arith, lawful.targets r.edge r.has, r.ends)
      ],
      (closed.closed x.node.0 (label_of x) (label_at_entry row x.node.0 x at)).within,
    )

-- the row of the node of x was merged at its distance
pub record IsLeft (n : Net) (x : Waiting) (row : TableRow) (old new : Workspace) : Type 0 where
  pub lawful : IsLawful n
  pub node : HasNode n x.node
  pub right : IsRow n old.bound x.node row
  pub starts : distance_at old.bound old.words.items x.node ≡ x.distance
  pub sized : IsSized (length n.nodes) old
  pub merged : MergesAll x.distance row.entries old new

is_closed : (n : Net) (x : Waiting) (row : TableRow) (old new : Workspace) → IsLeft n x row old new → IsClosed n old.bound x.node (label_in row.entries)
is_closed n x row old new h = closed_of_table n old.bound x.node (label_in row.entries) h.lawful h.right.table

is_merge : (n : Net) (x : Waiting) (row : TableRow) (old new : Workspace) → IsLeft n x row old new → IsMerge n old.bound x.node x.distance row.entries old.words.items new.words.items
is_merge n x row old new h =
    let closed : IsClosed n old.bound x.node (label_in row.entries) = is_closed n x row old new h in
    let inside = entries_inside n old.bound x.node row.entries h.lawful h.node h.right.rising closed in
    let all : AllByRecursion (λ y. y.node.0 < length old.words.items) row.entries = recursion_from_All (λ y. y.node.0 < length old.words.items) row.entries (λ k d lt. let has = (inside k d lt).0 in omega (arith, has, h.sized.words_count)) in
    record {
      lawful = h.lawful;
      closed = closed;
      merges = subst (Merges old.bound x.distance row.entries old.words.items) (sym h.merged.words) (merges old.bound x.distance 0 row.entries old.words.items h.right.rising all);
      distance = h.starts;
    }

marked_after : (n : Net) (bound v d : ℕ) (row : List Entry) (old new : List ℕ) (before after : Marks) (queue : List Waiting) → IsMerge n bound v d row old new → MarksAlso row (lists_in before) (lists_in after) → AreMarkedOrWait bound old before (record { distance = d; node = v } ∷ queue) → AreMarkedOrWait bound new after queue
marked_after n bound v d row old new before after queue h also marked u there = elim (cases_Option (entry_in row u)) [
  | inr some ↦ inr (also.listed u (some_there (entry_in row u) some.0 some.1))
  | inl none ↦
      let is : word_at bound new u ≡ word_at bound old u = h.merges.others u none in
      elim (marked u (λ gone. there (is ∙ gone))) [
        | inl waits ↦ elim (front_or_rest (record { distance = d; node = v }) queue (record { distance = distance_at bound old u; node = u }) waits) [
          | inl same ↦ absurd (none_some none (entry_with row u origin_label (ap (λ (k : Waiting). label_in row k.node) same ∙ h.closed.origin)).at)
          | inr rest ↦ inl (subst (λ (k : ℕ). Waits queue u k) (sym (ap (λ (k : ℕ). k / 2 ^ 32) is)) rest)
        ]
        | inr m ↦ inr (also.kept u m)
      ]
]

-- what is marked once the nodes of all entries are
pub also_none : (marks : MarkLists) → MarksAlso [] marks marks
also_none marks = record { kept = λ v m. m; listed = λ v some. absurd (true≢false (sym some)) }

pub also_more : (x : Entry) (row : List Entry) (before mid after : MarkLists) → MarksNode before x.node.0 mid → MarksAlso row mid after → MarksAlso (x ∷ row) before after
also_more x row before mid after too rest = record {
  kept = λ v m. rest.kept v (too.kept v m);
  listed = λ v some. elim (eqb_tells x.node.0 v) [
    | inl t ↦ rest.kept v (subst (IsMarkedIn mid) t.1 too.added)
    | inr t ↦ rest.listed v (rw t.0 at some)
  ];
}

pub left_by_merging : (n : Net) (x : Waiting) (row : TableRow) (old new : Workspace) → IsLeft n x row old new → Leaves n (x ∷ []) old new
left_by_merging n x row old new h =
    let m : IsMerge n old.bound x.node x.distance row.entries old.words.items new.words.items = is_merge n x row old new h in
    record {
      searching = λ s taken going.
          let rest : taken ++ new.queue ≡ taken ++ old.queue = ap (λ (k : List Waiting). taken ++ k) h.merged.queue in
          let underway : IsUnderway n old.bound s (record { words = new.words.items; queue = taken ++ old.queue }) NonePending = merge_keeps n old.bound x.node x.distance s row.entries old.words.items new.words.items (taken ++ old.queue) m going.underway in
          let marked : AreMarkedOrWait old.bound new.words.items new.marks (taken ++ old.queue) = marked_after n old.bound x.node x.distance row.entries old.words.items new.words.items old.marks new.marks (taken ++ old.queue) m h.merged.marks going.marked in
          record {
            sized = sized_still (length n.nodes) old new h.sized h.merged.sized;
            underway = subst (λ (k : List Waiting). IsUnderway n new.bound s (record { words = new.words.items; queue = k }) NonePending) (sym rest) (subst (λ (k : ℕ). IsUnderway n k s (record { words = new.words.items; queue = taken ++ old.queue }) NonePending) (sym h.merged.sized.bound) underway);
            marked = subst (λ (k : List Waiting). AreMarkedOrWait new.bound new.words.items new.marks k) (sym rest) (subst (λ (k : ℕ). AreMarkedOrWait k new.words.items new.marks (taken ++ old.queue)) (sym h.merged.sized.bound) marked);
          };
      less = omega (arith, m.merges.less, ap length h.merged.queue);
    }
