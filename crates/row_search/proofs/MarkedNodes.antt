-- Marks as they are set and removed, and what is done with as the labels of marked nodes are taken out.
use Rattle.std.proofs.Common.{◌≡◌, ◌≢◌, ℕ, ◌+◌, ◌-◌, ◌*◌, ◌/◌, ◌<◌, ◌≤◌, inl, inr, List, [], length, slice_index_or, set, get_or-set_same, get_or-set_other, refl, sym, ap, subst, ◌∙◌, arith}
use Rattle.std.proofs.lemmas.Bool.{cases_eq, cases_lt}
use Rattle.std.proofs.lemmas.List.Elements.{All-nil}
use Rattle.row_search.specs.declared.dijkstra.Workspace.{Workspace}
use Rattle.row_search.specs.declared.marks.Marks.{Marks}
use Rattle.bounded_table.specs.LabelWords.{no_label, word_at}
use Rattle.row_search.specs.inside.Labels.{edge_label_at}
use Rattle.row_search.specs.inside.Marked.{AllMarked, AllTaken, AreListsFor, AreMarksFor, IsMarked, MarkLists, IsSet, IsSized, IsTaken, KeepsSizes, MarksToo, NoneBeyond, NoneOf, Takes, TakesMarked, TakesNodes, Listing, listing}
use Rattle.bounded_table.specs.Table.{label_in}
use Rattle.row_search.proofs.EdgeLabels.{none_by_edge}
use Rattle.row_search.proofs.TakenLabels.{labelled_inside, moved_up}

-- a mark is set, and one is removed
set_here : (marks : List ℕ) (i : ℕ) → i < length marks → IsSet (set marks i 1) i
set_here marks i lt none = omega (arith, none, get_or-set_same marks i 1 0 lt)

set_too : (marks : List ℕ) (i k : ℕ) → i < length marks → IsSet marks k → IsSet (set marks i 1) k
set_too marks i k lt is none = elim (cases_eq k i) [
  | inl same ↦ set_here marks i lt (ap (λ (j : ℕ). slice_index_or (set marks i 1) j 0) (sym same) ∙ none)
  | inr apart ↦ is (sym (get_or-set_other marks i k 1 0 apart) ∙ none)
]

pub set_still : (marks : List ℕ) (i k : ℕ) → k ≢ i → IsSet marks k → IsSet (set marks i 0) k
set_still marks i k apart is none = is (sym (get_or-set_other marks i k 0 0 apart) ∙ none)

-- a node of the network has its marks
pub record HasMarks (m : Marks) (v : ℕ) : Type 0 where
  pub octet : v / 8 < length m.octets.items
  pub region : v / 512 < length m.regions.items
  pub area : v / 262_144 < length m.areas.items

pub has_marks : (count : ℕ) (m : Marks) (v : ℕ) → AreMarksFor count m → v < count → HasMarks m v
has_marks count m v sized lt = record {
  octet = omega (arith, sized.areas, sized.regions, sized.octets, lt);
  region = omega (arith, sized.areas, sized.regions, lt);
  area = omega (arith, sized.areas, lt);
}

-- it is marked
pub marks_too : (old new : Marks) (v : ℕ) → HasMarks old v → new.octets.items ≡ set old.octets.items (v / 8) 1 → new.regions.items ≡ set old.regions.items (v / 512) 1 → new.areas.items ≡ set old.areas.items (v / 262_144) 1 → MarksToo old v new
marks_too old new v has octets regions areas = record {
  kept = λ w m. record {
    octet = subst (λ (k : List ℕ). IsSet k (w / 8)) (sym octets) (set_too old.octets.items (v / 8) (w / 8) has.octet m.octet);
    region = subst (λ (k : List ℕ). IsSet k (w / 512)) (sym regions) (set_too old.regions.items (v / 512) (w / 512) has.region m.region);
    area = subst (λ (k : List ℕ). IsSet k (w / 262_144)) (sym areas) (set_too old.areas.items (v / 262_144) (w / 262_144) has.area m.area);
  };
  added = record {
    octet = subst (λ (k : List ℕ). IsSet k (v / 8)) (sym octets) (set_here old.octets.items (v / 8) has.octet);
    region = subst (λ (k : List ℕ). IsSet k (v / 512)) (sym regions) (set_here old.regions.items (v / 512) has.region);
    area = subst (λ (k : List ℕ). IsSet k (v / 262_144)) (sym areas) (set_here old.areas.items (v / 262_144) has.area);
  };
}

-- as many marks as before
pub as_many : (old new : MarkLists) → length new.octets ≡ length old.octets → length new.regions ≡ length old.regions → length new.areas ≡ length old.areas → (count : ℕ) → AreListsFor count old → AreListsFor count new
as_many old new octets regions areas count sized = record {
  areas = areas ∙ sized.areas;
  regions = omega (arith, regions, areas, sized.regions);
  octets = omega (arith, octets, regions, sized.octets);
}

-- sizes that two steps keep, and what has them
pub keeps_both : (a b c : Workspace) → KeepsSizes a b → KeepsSizes b c → KeepsSizes a c
keeps_both a b c first then_too = record {
  bound = then_too.bound ∙ first.bound;
  words_count = then_too.words_count ∙ first.words_count;
  marks = λ count sized. then_too.marks count (first.marks count sized);
}

pub keeps_none : (a : Workspace) → KeepsSizes a a
keeps_none a = record { bound = refl; words_count = refl; marks = λ count sized. sized }

pub sized_still : (count : ℕ) (a b : Workspace) → IsSized count a → KeepsSizes a b → IsSized count b
sized_still count a b sized keeps = record {
  low = omega (arith, keeps.bound, sized.low);
  few = sized.few;
  words_count = keeps.words_count ∙ sized.words_count;
  marks = keeps.marks count sized.marks;
}

-- and what has them counts its own words
pub sized_here : (count : ℕ) (a b : Workspace) → IsSized count a → KeepsSizes a b → IsSized (length b.words.items) b
sized_here count a b sized keeps = let still : IsSized count b = sized_still count a b sized keeps in subst (λ (k : ℕ). IsSized k b) (sym still.words_count) still

-- up to a number that no marked node lies before, all is taken
pub moved_on : (before : List ℕ) (b c : ℕ) (w : Workspace) → b ≤ c → ((v : ℕ) → IsMarked w.marks v → b ≤ v → c ≤ v) → IsTaken before b w → IsTaken before c w
moved_on before b c w le up h = record {
  taken = moved_up w.bound before b c w.words.items w.found h.taken le (λ v there from. up v (h.marked v there) from);
  marked = h.marked;
}

-- marks of nodes that are done with may go
pub marks_gone : (before : List ℕ) (b : ℕ) (w : Workspace) (m : Marks) → ((v : ℕ) → b ≤ v → IsMarked w.marks v → IsMarked m v) → IsTaken before b w → IsTaken before b (record { bound = w.bound; merge_limit = w.merge_limit; words = w.words; marks = m; queue = w.queue; found = w.found })
marks_gone before b w m still h = record {
  taken = h.taken;
  marked = λ v there. still v (h.taken.above v there) (h.marked v there);
}

-- nodes from the next region on, of another region than this one
pub next_region : (v i : ℕ) → i * 512 ≤ v → v / 512 ≢ i → (i + 1) * 512 ≤ v
next_region v i from apart = elim (cases_lt v ((i + 1) * 512)) [ inl lt ↦ absurd (apart (omega (arith, from, lt))) | inr up ↦ up ]

pub next_area : (v i : ℕ) → i * 262_144 ≤ v → v / 262_144 ≢ i → (i + 1) * 262_144 ≤ v
next_area v i from apart = elim (cases_lt v ((i + 1) * 262_144)) [ inl lt ↦ absurd (apart (omega (arith, from, lt))) | inr up ↦ up ]

-- a mark that is not set is another than that of a node that is marked
pub unset_apart : (marks : List ℕ) (i k : ℕ) → slice_index_or marks i 0 ≡ 0 → IsSet marks k → k ≢ i
unset_apart marks i k none is same = is (ap (λ (j : ℕ). slice_index_or marks j 0) same ∙ none)

-- before the first node nothing is taken
pub none_taken : (w : Workspace) → w.found ≡ [] → AllMarked w.bound w.words.items w.marks × NoneBeyond w.bound w.words.items → IsTaken w.words.items 0 w
none_taken w none marked = record {
  taken = subst (AllTaken w.bound w.words.items 0 w.words.items) (sym none) (record {
    most = marked.1;
    rising = tt;
    below = All-nil (λ x. x.node.0 < 0);
    above = λ v m. omega arith;
    each = λ v. inl (refl, refl);
  });
  marked = marked.0;
}

-- behind the last one no node is labelled, and the entries have all labels
pub all_taken : (before : List ℕ) (b : ℕ) (w : Workspace) → length w.words.items ≤ b → IsTaken before b w → (v : ℕ) → (word_at w.bound w.words.items v ≡ no_label w.bound) × (label_in w.found v ≡ edge_label_at w.bound before v)
all_taken before b w end h v =
    let words : List ℕ = w.words.items in
    let gone : word_at w.bound words v ≡ no_label w.bound = elim (cases_eq (word_at w.bound words v) (no_label w.bound)) [
      | inl is ↦ is
      | inr some ↦ absurd (let up : b ≤ v = h.taken.above v some in let lt : v < length words = labelled_inside w.bound words v some in omega (arith, up, lt, end))
    ] in (
      gone,
      elim (h.taken.each v) [
        | inl kept ↦ kept.1 ∙ sym (none_by_edge w.bound (word_at w.bound before v) (sym kept.0 ∙ gone))
        | inr taken ↦ taken.1
      ],
    )

-- what is not marked is done with at once
next_sector : (regions : List ℕ) (v sector : ℕ) → NoneOf regions sector → sector * 4_096 ≤ v → IsSet regions (v / 512) → (sector + 1) * 4_096 ≤ v
next_sector regions v sector none from is = elim (cases_lt v ((sector + 1) * 4_096)) [
  | inl lt ↦
      let k : ℕ = v / 512 - sector * 8 in
      let at : sector * 8 + k ≡ v / 512 = omega (arith, from, lt) in
      absurd (is (ap (λ (j : ℕ). slice_index_or regions j 0) (sym at) ∙ none k (omega (arith, from, lt))))
  | inr up ↦ up
]

pub sector_skipped : (sector : ℕ) (w : Workspace) → NoneOf w.marks.regions.items sector → Takes (sector * 4_096) ((sector + 1) * 4_096) w w
sector_skipped sector w none = record {
  taken = λ before. moved_on before (sector * 4_096) ((sector + 1) * 4_096) w (omega arith) (λ v m from. next_sector w.marks.regions.items v sector none from m.region);
  queue = refl;
}

pub region_skipped : (region : ℕ) (w : Workspace) → slice_index_or w.marks.regions.items region 0 ≡ 0 → Takes (region * 512) ((region + 1) * 512) w w
region_skipped region w none = record {
  taken = λ before. moved_on before (region * 512) ((region + 1) * 512) w (omega arith) (λ v m from. next_region v region from (unset_apart w.marks.regions.items region (v / 512) none m.region));
  queue = refl;
}

pub area_skipped : (area : ℕ) (w : Workspace) → slice_index_or w.marks.areas.items area 0 ≡ 0 → Takes (area * 262_144) ((area + 1) * 262_144) w w
area_skipped area w none = record {
  taken = λ before. moved_on before (area * 262_144) ((area + 1) * 262_144) w (omega arith) (λ v m from. next_area v area from (unset_apart w.marks.areas.items area (v / 262_144) none m.area));
  queue = refl;
}

-- of a region no octet is taken yet
pub no_octet : (bound from to : ℕ) (old : Listing) → from ≡ to → TakesMarked bound from to old old
no_octet bound from to old same = subst (λ (k : ℕ). TakesMarked bound from k old old) same (record { taken = λ before marked t. t; fewer = λ v there. there; marked = λ v up is. is })

-- those that were not marked are done with at once
pub octets_skipped : (bound from a b : ℕ) (old new : Listing) → a ≤ b → ((octet : ℕ) → a ≤ octet → octet < b → IsSet old.octets octet → ⊥) → TakesMarked bound from (a * 8) old new → TakesMarked bound from (b * 8) old new
octets_skipped bound from a b old new le none t = record {
  taken = λ before marked h. moved_up bound before (a * 8) (b * 8) new.words new.entries (t.taken before marked h) (omega (arith, le))
      (λ v there up. elim (cases_lt v (b * 8)) [
        | inl lt ↦ absurd (none (v / 8) (omega (arith, up)) (omega (arith, lt)) (marked v (t.fewer v there)))
        | inr past ↦ past
      ]);
  fewer = t.fewer;
  marked = λ v up. t.marked v (omega (arith, up, le));
}

-- the labels of another are taken, and its mark
pub octet_taken : (bound from octet : ℕ) (old now new : Listing) → new.octets ≡ set now.octets octet 0 → TakesNodes bound (octet * 8) (octet * 8 + 8) now.words now.entries new.words new.entries → TakesMarked bound from (octet * 8) old now → TakesMarked bound from ((octet + 1) * 8) old new
octet_taken bound from octet old now new octets takes t = record {
  taken = λ before marked h. let next : octet * 8 + 8 ≡ (octet + 1) * 8 = omega arith in subst (λ (k : ℕ). AllTaken bound before k new.words new.entries) next (takes.taken before (t.taken before marked h));
  fewer = λ v there. t.fewer v (takes.fewer v there);
  marked = λ v up is. subst (λ (k : List ℕ). IsSet k (v / 8)) (sym octets) (set_still now.octets octet (v / 8) (λ same. omega (arith, up, same)) (t.marked v (omega (arith, up)) is));
}

-- the labels of a region are taken
pub octets_taken : (region : ℕ) (w new : Workspace) (words octets : List ℕ) → new.bound ≡ w.bound → new.queue ≡ w.queue → new.words.items ≡ words → new.marks.octets.items ≡ octets → TakesMarked w.bound (region * 512) ((region + 1) * 512) (listing w.words.items w.marks.octets.items w.found) (listing words octets new.found) → new.marks.regions.items ≡ w.marks.regions.items → new.marks.areas.items ≡ w.marks.areas.items → Takes (region * 512) ((region + 1) * 512) w new
octets_taken region w new words octets same queue words_are octets_are marked regions areas = record {
  taken = λ before h.
      let takes : TakesMarked w.bound (region * 512) ((region + 1) * 512) (listing w.words.items w.marks.octets.items w.found) (listing new.words.items new.marks.octets.items new.found) = rw (words_are, octets_are) marked in
      let taken : AllTaken w.bound before ((region + 1) * 512) new.words.items new.found = takes.taken before (λ v there. (h.marked v there).octet) h.taken in
      record {
        taken = subst (λ (k : ℕ). AllTaken k before ((region + 1) * 512) new.words.items new.found) (sym same) taken;
        marked = λ v there.
            let labelled : word_at w.bound new.words.items v ≢ no_label w.bound = subst (λ (k : ℕ). word_at k new.words.items v ≢ no_label k) same there in
            let m : IsMarked w.marks v = h.marked v (takes.fewer v labelled) in
            record {
              octet = takes.marked v (taken.above v labelled) m.octet;
              region = subst (λ (k : List ℕ). IsSet k (v / 512)) (sym regions) m.region;
              area = subst (λ (k : List ℕ). IsSet k (v / 262_144)) (sym areas) m.area;
            };
      };
  queue = queue;
}

-- the mark of a region that is done with goes
pub region_gone : (region : ℕ) (before : List ℕ) (w : Workspace) (m : Marks) → m.octets.items ≡ w.marks.octets.items → m.regions.items ≡ set w.marks.regions.items region 0 → m.areas.items ≡ w.marks.areas.items → IsTaken before ((region + 1) * 512) w → IsTaken before ((region + 1) * 512) (record { bound = w.bound; merge_limit = w.merge_limit; words = w.words; marks = m; queue = w.queue; found = w.found })
region_gone region before w m octets regions areas =
    marks_gone before ((region + 1) * 512) w m
    (λ v up marked. record {
      octet = subst (λ (k : List ℕ). IsSet k (v / 8)) (sym octets) marked.octet;
      region = subst (λ (k : List ℕ). IsSet k (v / 512)) (sym regions) (set_still w.marks.regions.items region (v / 512) (λ is. omega (arith, up, is)) marked.region);
      area = subst (λ (k : List ℕ). IsSet k (v / 262_144)) (sym areas) marked.area;
    })
