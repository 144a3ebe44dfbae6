-- What the arcs of a node tell of a row whose words are spread.
use Rattle.std.proofs.Common.{◌≡◌, ◌↔◌, ℕ, ◌+◌, ◌-◌, ◌^◌, ◌<◌, ◌==◌, ◌&&◌, Bool, true, false, inl, inr, cond, List, [], ◌∷◌, length, map, take, slice_index, slice_index_or, refl, sym, ap, subst, ◌∙◌, arith}
use Rattle.std.specs.Prelude.{min, nat_le}
use Rattle.std.proofs.Math.Nat.{min-eq_left, min-eq_right}
use Rattle.std.proofs.lemmas.Bool.{cases_Bool, cases_lt}
use Rattle.std.proofs.lemmas.Bool.Decides.{leb_tells}
use Rattle.std.proofs.lemmas.List.{get_or-take, get_or_default, length-take-le, take_all}
use Rattle.std.proofs.lemmas.List.Elements.{All-more, recursion_from_All}
use Rattle.std.proofs.lemmas.List.Sums.{count_by_more_no, count_by_more_yes, sum_by-cons}
use Rattle.std.specs.List.{All, AllByRecursion, count_by}
use Rattle.road_network.specs.Net.{Net, IsLawful, arc_of, leaving}
use Rattle.road_network.specs.declared.Arc.{Arc}
use Rattle.bounded_table.specs.declared.table_row.Entry.{Entry}
use Rattle.bounded_table.specs.declared.word_check.Tally.{Tally}
use Rattle.bounded_table.specs.Closed.{LeavesRelaxed}
use Rattle.bounded_table.specs.inside.Given.{IsArcRelaxed, arc_gives, given_by}
use Rattle.bounded_table.specs.LabelWords.{no_label, word_at, word_by}
use Rattle.bounded_table.specs.Spread.{IsSpread}
use Rattle.bounded_table.specs.Table.{label_in}
use Rattle.bounded_table.specs.inside.Tally.{IsEnough, IsTally, is_met, word_over}
use Rattle.bounded_table.specs.LabelWords.{IsTriable}
use Rattle.bounded_table.proofs.Arcs.{IsLeaving, arcs_are, count_arcs, known_arcs, no_arc}
use Rattle.bounded_table.proofs.WordChecks.{enough_where, met_where}

-- the words of all nodes are spread
pub record AreSpread (n : Net) (bound : ℕ) (entries : List Entry) (words : List ℕ) : Type 0 where
  pub lawful : IsLawful n
  pub count : length words ≡ length n.nodes
  pub spread : IsSpread bound entries words

there : (n : Net) (bound u : ℕ) (entries : List Entry) (words : List ℕ) (a : Arc) → AreSpread n bound entries words → IsLeaving n u a → slice_index words a.to.0 ≡ word_at bound words a.to.0
there n bound u entries words a s is = get_or_default words a.to.0 0 (no_label bound) (omega (arith, is.end, s.count))

small : (n : Net) (u : ℕ) (a : Arc) → IsLawful n → IsLeaving n u a → a.edge.0 < 2 ^ 32 - 1
small n u a lawful is = omega (arith, is.has, lawful.few_edges)

-- the arcs of a node end at words
pub triable : (n : Net) (u count : ℕ) → IsLawful n → count ≡ length n.nodes → All (IsTriable count) (map (arc_of n) (leaving n u))
triable n u count lawful is k c lt =
    let arc = known_arcs n u lawful k c lt in
    record { end = omega (arith, arc.end, is); not_long = arc.not_long }

-- an arc is enough exactly where it is relaxed or leads beyond the bound
arc_enough : (n : Net) (bound u d : ℕ) (entries : List Entry) (words : List ℕ) (a : Arc) → AreSpread n bound entries words → IsLeaving n u a → IsEnough words (word_by d 0 + 1) a ↔ IsArcRelaxed bound (label_in entries) d a
arc_enough n bound u d entries words a s is =
    let at = there n bound u entries words a s is in
    let w = enough_where bound (label_in entries) a.to.0 a.edge.0 (d + a.length) (word_at bound words a.to.0) (label_in entries a.to.0) refl (s.spread a.to.0) (small n u a s.lawful is) in (
      λ enough. w.0 (omega (arith, enough, at)),
      λ relaxed. let le = w.1 relaxed in omega (arith, le, at),
    )

-- and meets its end's word exactly where it gives the label
arc_met : (n : Net) (bound u d : ℕ) (entries : List Entry) (words : List ℕ) (a : Arc) → AreSpread n bound entries words → IsLeaving n u a → is_met words (word_by d 0 + 1) a ≡ arc_gives bound (label_in entries) d a
arc_met n bound u d entries words a s is =
    let over : word_over (word_by d 0 + 1) a ≡ word_by (d + a.length) a.edge.0 + 1 = omega arith in
    ap (λ (k : ℕ). k == slice_index words a.to.0) over
    ∙ (ap (λ (k : ℕ). word_by (d + a.length) a.edge.0 + 1 == k) (there n bound u entries words a s is)
    ∙ met_where bound a.edge.0 (d + a.length) (word_at bound words a.to.0) (label_in entries a.to.0) (s.spread a.to.0) (small n u a s.lawful is))

same_count : (p q : Arc → Bool) (arcs : List Arc) → AllByRecursion (λ a. p a ≡ q a) arcs → count_by p arcs ≡ count_by q arcs
same_count p q [] all = omega arith
same_count p q (a ∷ arcs) all =
    let one : ℕ = cond (p a) 1 0 in
    let other : ℕ = cond (q a) 1 0 in
    let first : one ≡ other = ap (λ (b : Bool). cond b 1 0) all.0 in
    omega (arith, sum_by-cons (λ (x : Arc). cond (p x) 1 0) a arcs, sum_by-cons (λ (x : Arc). cond (q x) 1 0) a arcs, first, same_count p q arcs all.1)

-- so it is with all arcs of an entry's node
pub relaxed_there : (n : Net) (bound u d : ℕ) (entries : List Entry) (words : List ℕ) → AreSpread n bound entries words → All (IsEnough words (word_by d 0 + 1)) (map (arc_of n) (leaving n u)) ↔ LeavesRelaxed n bound (label_in entries) u d
relaxed_there n bound u d entries words s =
    let arcs : List Arc = map (arc_of n) (leaving n u) in
    let known : All (IsLeaving n u) arcs = known_arcs n u s.lawful in
    let are = arcs_are n u (IsArcRelaxed bound (label_in entries) d) in (
      λ enough. are.0 (λ k c lt. (arc_enough n bound u d entries words (slice_index_or arcs k c) s (known k c lt)).0 (enough k c lt)),
      λ relaxed k c lt. (arc_enough n bound u d entries words (slice_index_or arcs k c) s (known k c lt)).1 (are.1 relaxed k c lt),
    )

pub given_there : (n : Net) (bound : ℕ) (entries : List Entry) (words : List ℕ) (x : Entry) → AreSpread n bound entries words → count_by (is_met words (word_by x.distance 0 + 1)) (map (arc_of n) (leaving n x.node.0)) ≡ given_by n bound entries x
given_there n bound entries words x s =
    let arcs : List Arc = map (arc_of n) (leaving n x.node.0) in
    let known : All (IsLeaving n x.node.0) arcs = known_arcs n x.node.0 s.lawful in
    let p : Arc → Bool = is_met words (word_by x.distance 0 + 1) in
    let q : Arc → Bool = arc_gives bound (label_in entries) x.distance in
    let same : All (λ a. p a ≡ q a) arcs = λ k c lt. arc_met n bound x.node.0 x.distance entries words (slice_index_or arcs k c) s (known k c lt) in
    same_count p q arcs (recursion_from_All (λ a. p a ≡ q a) arcs same) ∙ count_arcs n q (leaving n x.node.0)

-- a tally of the first arcs, and of one more

pub fewer : {X : Type 0} (P : X → Type 0) (xs : List X) (i : ℕ) → i < length xs → All P (take (i + 1) xs) → All P (take i xs)
fewer P xs i lt all k d inside =
    let short : k < i = omega (arith, inside, length-take-le i xs (omega arith)) in
    let here : slice_index_or (take i xs) k d ≡ slice_index_or xs k d = get_or-take i xs k d short in
    let more : slice_index_or (take (i + 1) xs) k d ≡ slice_index_or xs k d = get_or-take (i + 1) xs k d (omega (arith, short)) in
    subst P (more ∙ sym here) (all k d (omega (arith, short, length-take-le (i + 1) xs (omega arith))))

pub last_one : {X : Type 0} (P : X → Type 0) (xs : List X) (i : ℕ) (d : X) → i < length xs → All P (take (i + 1) xs) → P (slice_index_or xs i d)
last_one P xs i d lt all = subst P (get_or-take (i + 1) xs i d (omega arith)) (all i d (omega (arith, length-take-le (i + 1) xs (omega arith))))

-- what looking at an arc adds to a tally
pub record Adds (words : List ℕ) (base : ℕ) (a : Arc) (counts : Bool) (old new : Tally) : Type 0 where
  pub given : new.given ≡ old.given + cond (counts && is_met words base a) 1 0
  pub short : (new.short ≡ false) ↔ ((old.short ≡ false) × IsEnough words base a)

pub tally_more : (words : List ℕ) (base i : ℕ) (arcs : List Arc) (old new : Tally) → i < length arcs → Adds words base (slice_index_or arcs i no_arc) true old new → IsTally words base (take i arcs) old → IsTally words base (take (i + 1) arcs) new
tally_more words base i arcs old new lt adds tally =
    let a : Arc = slice_index_or arcs i no_arc in
    let p : Arc → Bool = is_met words base in
    let P : Arc → Type 0 = IsEnough words base in
    record {
      given = elim (cases_Bool (p a)) [
        | inl met ↦ omega (arith, rw met at adds.given, tally.given, count_by_more_yes p arcs i no_arc lt met)
        | inr not ↦ omega (arith, rw not at adds.given, tally.given, count_by_more_no p arcs i no_arc lt not)
      ];
      short = (
        λ none. let both = adds.short.0 none in All-more P arcs i no_arc lt (tally.short.0 both.0) both.1,
        λ all. adds.short.1 (tally.short.1 (fewer P arcs i lt all), last_one P arcs i no_arc lt all),
      );
    }

-- the arc at a place, or the last one again, which does not count
pub tally_next : (words : List ℕ) (base i last : ℕ) (arcs : List Arc) (a : Arc) (counts : Bool) (old new : Tally) → last + 1 ≡ length arcs → a ≡ slice_index_or arcs (min i last) no_arc → counts ≡ nat_le i last → Adds words base a counts old new → IsTally words base (take i arcs) old → IsTally words base (take (i + 1) arcs) new
tally_next words base i last arcs a counts old new count is counts_is adds tally = elim (cases_lt i (length arcs)) [
  | inl lt ↦
      let at : min i last ≡ i = min-eq_left (omega (arith, lt, count)) in
      let here : a ≡ slice_index_or arcs i no_arc = is ∙ ap (λ (k : ℕ). slice_index_or arcs k no_arc) at in
      let yes : counts ≡ true = counts_is ∙ elim (leb_tells i last) [ inl t ↦ t.0 | inr t ↦ absurd (omega (arith, t.1, lt, count)) ] in
      let adds_here : Adds words base (slice_index_or arcs i no_arc) true old new = subst (λ (k : Bool). Adds words base (slice_index_or arcs i no_arc) k old new) yes (subst (λ (k : Arc). Adds words base k counts old new) here adds) in
      tally_more words base i arcs old new lt adds_here tally
  | inr past ↦
      let at : min i last ≡ last = min-eq_right (omega (arith, past, count)) in
      let here : a ≡ slice_index_or arcs last no_arc = is ∙ ap (λ (k : ℕ). slice_index_or arcs k no_arc) at in
      let no : counts ≡ false = counts_is ∙ elim (leb_tells i last) [ inl t ↦ absurd (omega (arith, t.1, past, count)) | inr t ↦ t.0 ] in
      let same : take i arcs ≡ take (i + 1) arcs = take_all i arcs past ∙ sym (take_all (i + 1) arcs (omega (arith, past))) in
      let whole : IsTally words base arcs old = subst (λ (k : List Arc). IsTally words base k old) (take_all i arcs past) tally in
      let none : new.given ≡ old.given + 0 = rw no at adds.given in
      let again : IsTally words base arcs new = record {
        given = omega (arith, none, whole.given);
        short = (
          λ enough. whole.short.0 (adds.short.0 enough).0,
          λ all. adds.short.1 (whole.short.1 all, subst (IsEnough words base) (sym here) (all last no_arc (omega (arith, count)))),
        );
      } in
      subst (λ (k : List Arc). IsTally words base k new) (sym (take_all (i + 1) arcs (omega (arith, past)))) again
]
