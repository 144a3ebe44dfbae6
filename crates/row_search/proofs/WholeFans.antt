-- Trying the arcs of a whole fan does the same as trying all arcs of its node.
use Rattle.std.proofs.Common.{◌≡◌, ℕ, ◌+◌, ◌-◌, ◌<◌, ◌≤◌, Bool, true, false, List, [], ◌∷◌, length, drop, length-set, slice_index_or, refl, sym, ap, subst, ◌∙◌, arith}
use Rattle.std.specs.Prelude.{IsTrue, min}
use Rattle.std.specs.List.{All}
use Rattle.std.proofs.Math.ListN.{drop_of_length-le}
use Rattle.std.proofs.lemmas.List.Elements.{All-cons, All-nil}
use Rattle.std.proofs.lemmas.Option.{get_or_from_slice_get}
use Rattle.road_network.specs.declared.Arc.{Arc}
use Rattle.row_search.specs.declared.fans.Fan.{Fan}
use Rattle.row_search.specs.inside.Fans.{IsFan, arcs_in}
use Rattle.bounded_table.specs.LabelWords.{word_by}
use Rattle.bounded_table.specs.LabelWords.{IsTriable}
use Rattle.row_search.specs.inside.Underway.{SearchState, after_arc, after_arcs, is_better, words_after}
use Rattle.row_search.proofs.AfterArcs.{AreTried, next_tried}
use Rattle.bounded_table.proofs.Arcs.{no_arc}

-- trying the arcs of the fan leaves what trying these arcs leaves
pub record TriesAll (arcs : List Arc) (fan : Fan) : Type 0 where
  pub triable : (count : ℕ) → All (IsTriable count) arcs → All (IsTriable count) (arcs_in fan)
  pub same : (bound d : ℕ) (state : SearchState) → All (IsTriable (length state.words)) arcs → after_arcs bound d (arcs_in fan) state ≡ after_arcs bound d arcs state

-- trying an arc leaves as many words as there were
words_still : (bound d : ℕ) (a : Arc) (words : List ℕ) (b : Bool) → is_better bound d a words ≡ b → length (words_after bound d a words) ≡ length words
words_still bound d a words true is = rw is (length-set words a.to.0 (word_by (d + a.length) a.edge.0))
words_still bound d a words false is = rw is refl

pub still : (bound d : ℕ) (a : Arc) (state : SearchState) → length (after_arc bound d a state).words ≡ length state.words
still bound d a state = words_still bound d a state.words (is_better bound d a state.words) refl

-- what a fan is made of: the arcs at these places, and then the last one
record IsMadeOf (arcs : List Arc) (last : ℕ) (fan : Fan) : Type 0 where
  count : last + 1 ≡ length arcs
  few : last < 4
  first : fan.first ≡ slice_index_or arcs (min 0 last) no_arc
  second : fan.second ≡ slice_index_or arcs (min 1 last) no_arc
  third : fan.third ≡ slice_index_or arcs (min 2 last) no_arc
  fourth : fan.fourth ≡ slice_index_or arcs (min 3 last) no_arc

-- each of them is one of the arcs
triable_at : (arcs : List Arc) (last i : ℕ) (a : Arc) (count : ℕ) → last + 1 ≡ length arcs → a ≡ slice_index_or arcs (min i last) no_arc → All (IsTriable count) arcs → IsTriable count a
triable_at arcs last i a count many is all = subst (IsTriable count) (sym is) (all (min i last) no_arc (omega (arith, many)))

made_tries_all : (arcs : List Arc) (last : ℕ) (fan : Fan) → IsMadeOf arcs last fan → TriesAll arcs fan
made_tries_all arcs last fan h = record {
  triable = λ count all.
      let P : Arc → Type 0 = IsTriable count in
      let fourth : All P (fan.fourth ∷ []) = All-cons P fan.fourth [] (triable_at arcs last 3 fan.fourth count h.count h.fourth all) (All-nil P) in
      let third : All P (fan.third ∷ fan.fourth ∷ []) = All-cons P fan.third (fan.fourth ∷ []) (triable_at arcs last 2 fan.third count h.count h.third all) fourth in
      let second : All P (fan.second ∷ fan.third ∷ fan.fourth ∷ []) = All-cons P fan.second (fan.third ∷ fan.fourth ∷ []) (triable_at arcs last 1 fan.second count h.count h.second all) third in
      All-cons P fan.first (fan.second ∷ fan.third ∷ fan.fourth ∷ []) (triable_at arcs last 0 fan.first count h.count h.first all) second;
  same = λ bound d state all.
      let many : ℕ = length state.words in
      let one : SearchState = after_arc bound d fan.first state in
      let two : SearchState = after_arc bound d fan.second one in
      let three : SearchState = after_arc bound d fan.third two in
      let four : SearchState = after_arc bound d fan.fourth three in
      let one_still : length one.words ≡ many = still bound d fan.first state in
      let two_still : length two.words ≡ many = still bound d fan.second one ∙ one_still in
      let three_still : length three.words ≡ many = still bound d fan.third two ∙ two_still in
      let first = triable_at arcs last 0 fan.first many h.count h.first all in
      let second = triable_at arcs last 1 fan.second many h.count h.second all in
      let third = triable_at arcs last 2 fan.third many h.count h.third all in
      let fourth = triable_at arcs last 3 fan.fourth many h.count h.fourth all in
      let none : AreTried bound d last 0 arcs state state = record { tries = refl; again = λ low. absurd (omega (arith, low)) } in
      let after_one : AreTried bound d last 1 arcs state one = next_tried bound d last 0 arcs fan.first state state one h.count h.first first.end refl none in
      let after_two : AreTried bound d last 2 arcs state two = next_tried bound d last 1 arcs fan.second state one two h.count h.second (omega (arith, second.end, one_still)) refl after_one in
      let after_three : AreTried bound d last 3 arcs state three = next_tried bound d last 2 arcs fan.third state two three h.count h.third (omega (arith, third.end, two_still)) refl after_two in
      let after_four : AreTried bound d last 4 arcs state four = next_tried bound d last 3 arcs fan.fourth state three four h.count h.fourth (omega (arith, fourth.end, three_still)) refl after_three in
      let short : length arcs ≤ 4 = omega (arith, h.count, h.few) in
      let left : drop 4 arcs ≡ [] = drop_of_length-le arcs short in
      ap (λ (k : List Arc). after_arcs bound d k four) (sym left) ∙ after_four.tries;
}

-- a whole fan is made of its arcs
pub tries_all : (arcs : List Arc) (fan : Fan) → IsFan arcs fan → IsTrue fan.is_whole → TriesAll arcs fan
tries_all arcs fan is whole =
    let has = is.has whole in
    let some : 1 ≤ length arcs = (is.whole.0 whole).0 in
    let few : length arcs ≤ 4 = (is.whole.0 whole).1 in
    let last : ℕ = length arcs - 1 in
    let zero : 0 ≡ min 0 last = omega arith in
    made_tries_all arcs last fan (record {
      count = omega (arith, some);
      few = omega (arith, some, few);
      first = sym (get_or_from_slice_get arcs 0 fan.first no_arc has.first) ∙ ap (λ (k : ℕ). slice_index_or arcs k no_arc) zero;
      second = sym (get_or_from_slice_get arcs (min 1 last) fan.second no_arc has.second);
      third = sym (get_or_from_slice_get arcs (min 2 last) fan.third no_arc has.third);
      fourth = sym (get_or_from_slice_get arcs (min 3 last) fan.fourth no_arc has.fourth);
    })
