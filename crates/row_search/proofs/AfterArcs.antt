-- What trying the arcs of a node leaves, in a queue and beside other nodes that wait.
use Rattle.std.proofs.Common.{◌≡◌, ℕ, ◌+◌, ◌<◌, ◌≤◌, inl, inr, Bool, true, false, cond, length, List, [], ◌∷◌, ◌++◌, take, drop, set, get_or-set_same, slice_get, slice_index_or, Some, refl, sym, ap, subst, ◌∙◌, arith, append_assoc}
use Rattle.std.proofs.lemmas.Grind.{common_steps}
use Rattle.std.proofs.lemmas.List.{take-append-drop, take-set, take_more_set, drop_at, length-take-le}
use Rattle.std.proofs.lemmas.Bool.{cases_lt, le-ltb}
use Rattle.std.proofs.Math.Nat.{min-eq_left, min-eq_right}
use Rattle.std.proofs.Math.ListN.{drop_of_length-le}
use Rattle.std.proofs.lemmas.Option.{get_or_from_slice_get}
use Rattle.std.proofs.lemmas.List.Sorted.{IsPermutation-append_comm, IsPermutation-middle}
use Rattle.std.specs.List.Sorted.{IsPermutation}
use Rattle.road_network.specs.declared.Arc.{Arc}
use Rattle.row_search.specs.declared.queue.Waiting.{Waiting}
use Rattle.std.specs.Prelude.{min}
use Rattle.bounded_table.proofs.Arcs.{no_arc}
use Rattle.row_search.specs.inside.Underway.{SearchState, after_arc, after_arcs, is_better, is_nearer, item_by, with_item, words_after}
use Rattle.bounded_table.specs.LabelWords.{no_label, word_at, word_by}
use Rattle.row_search.proofs.Gaining.{Gains, Tries}

-- a queue gains what is put at its end
gains_at_end : (b : Bool) (x : Waiting) (queue : List Waiting) → Gains b x queue (with_item b x queue)
gains_at_end true x queue = IsPermutation-append_comm (x ∷ []) queue
gains_at_end false x queue = refl

pub tries_arc : (bound d : ℕ) (a : Arc) (state : SearchState) → Tries bound d a state (after_arc bound d a state)
tries_arc bound d a state = record { words = refl; queue = gains_at_end (is_nearer bound d a state.words) (item_by d a) state.queue }

-- a search with other nodes that wait
abbrev pub beside : List Waiting → SearchState → SearchState
beside taken state = record { words = state.words; queue = taken ++ state.queue }

item_beside : (b : Bool) (x : Waiting) (taken queue : List Waiting) → with_item b x (taken ++ queue) ≡ taken ++ with_item b x queue
item_beside true x taken queue = append_assoc taken queue (x ∷ [])
item_beside false x taken queue = refl

-- arcs are tried beside others as without them
pub arcs_beside : (bound d : ℕ) (arcs : List Arc) (taken : List Waiting) (state : SearchState) → after_arcs bound d arcs (beside taken state) ≡ beside taken (after_arcs bound d arcs state)
arcs_beside bound d [] taken state = refl
arcs_beside bound d (a ∷ arcs) taken state =
    let one : after_arc bound d a (beside taken state) ≡ beside taken (after_arc bound d a state) = ap (λ (k : List Waiting). record { words = words_after bound d a state.words; queue = k }) (item_beside (is_nearer bound d a state.words) (item_by d a) taken state.queue) in
    ap (after_arcs bound d arcs) one ∙ arcs_beside bound d arcs taken (after_arc bound d a state)

-- the near list gains what its queue gains
pub arcs_in_queue : (bound d : ℕ) (arcs : List Arc) (words new : List ℕ) (far near after : List Waiting) (head : ℕ) → head ≤ length near → record { words = new; queue = after } ≡ after_arcs bound d arcs (record { words = words; queue = near }) → record { words = new; queue = far ++ drop head after } ≡ after_arcs bound d arcs (record { words = words; queue = far ++ drop head near })
arcs_in_queue bound d arcs words new far near after head inside is =
    let front : List Waiting = take head near in
    let left : SearchState = record { words = words; queue = drop head near } in
    let tried : SearchState = after_arcs bound d arcs left in
    let whole : record { words = words; queue = near } ≡ beside front left = ap (λ (k : List Waiting). record { words = words; queue = k }) (sym (take-append-drop head near)) in
    let split : record { words = new; queue = after } ≡ beside front tried = is ∙ (ap (after_arcs bound d arcs) whole ∙ arcs_beside bound d arcs front left) in
    let rest : drop head after ≡ tried.queue = ap (λ (k : SearchState). drop head k.queue) split ∙ drop_at front tried.queue head (length-take-le head near inside) in
    ap (λ (k : List ℕ). record { words = k; queue = far ++ drop head after }) (ap (λ (k : SearchState). k.words) split)
    ∙ (ap (λ (k : List Waiting). record { words = tried.words; queue = far ++ k }) rest ∙ sym (arcs_beside bound d arcs far left))

-- the place behind the last item takes one more, or stays free
pub item_placed : (b : Bool) (x : Waiting) (places : List Waiting) (end : ℕ) → end < length places → take (end + cond b 1 0) (set places end x) ≡ with_item b x (take end places)
item_placed true x places end lt = take_more_set places end x lt
item_placed false x places end lt = let none : end + 0 ≡ end = omega arith in ap (λ (k : ℕ). take k (set places end x)) none ∙ take-set places end x

-- an arc of the loop is tried
pub arc_placed : (bound d : ℕ) (a : Arc) (words new : List ℕ) (places : List Waiting) (end more : ℕ) (x : Waiting) (b : Bool) → end < length places → new ≡ words_after bound d a words → x ≡ item_by d a → b ≡ is_nearer bound d a words → more ≡ cond b 1 0 → record { words = new; queue = take (end + more) (set places end x) } ≡ after_arc bound d a (record { words = words; queue = take end places })
arc_placed bound d a words new places end more x b lt words_are item nearer count =
    let queue : take (end + more) (set places end x) ≡ with_item b x (take end places) = ap (λ (k : ℕ). take (end + k) (set places end x)) count ∙ item_placed b x places end lt in
    let parts : with_item b x (take end places) ≡ with_item (is_nearer bound d a words) (item_by d a) (take end places) = ap (λ (k : Bool). with_item k x (take end places)) nearer ∙ ap (λ (k : Waiting). with_item (is_nearer bound d a words) k (take end places)) item in
    ap (λ (k : List ℕ). record { words = k; queue = take (end + more) (set places end x) }) words_are
    ∙ ap (λ (k : List Waiting). record { words = words_after bound d a words; queue = k }) (queue ∙ parts)

-- the next item of a list
next_of : (xs : List Waiting) (i : ℕ) (x : Waiting) → i < length xs → slice_get xs i ≡ Some x → drop i xs ≡ x ∷ drop (i + 1) xs
next_of xs i x lt at =
    let is : x ≡ slice_index_or xs i x = sym (get_or_from_slice_get xs i x x at) in
    let next : drop i xs ≡ slice_index_or xs i x ∷ drop (i + 1) xs = grind (arith, common_steps) in
    next ∙ ap (λ (k : Waiting). k ∷ drop (i + 1) xs) (sym is)

-- the next item of the near list is taken
pub next_taken : (far near old : List Waiting) (head : ℕ) (x : Waiting) → head < length near → slice_get near head ≡ Some x → far ++ drop head near ≡ old → IsPermutation old (x ∷ (far ++ drop (head + 1) near))
next_taken far near old head x lt at same =
    subst (λ (k : List Waiting). IsPermutation k (x ∷ (far ++ drop (head + 1) near))) (ap (λ (k : List Waiting). far ++ k) (sym (next_of near head x lt at)) ∙ same) (IsPermutation-middle far x (drop (head + 1) near))

-- or set aside
pub next_aside : (far near old new : List Waiting) (head : ℕ) (x : Waiting) → head < length near → slice_get near head ≡ Some x → far ++ drop head near ≡ old → new ≡ far ++ x ∷ [] → new ++ drop (head + 1) near ≡ old
next_aside far near old new head x lt at same is =
    ap (λ (k : List Waiting). k ++ drop (head + 1) near) is
    ∙ (append_assoc far (x ∷ []) (drop (head + 1) near) ∙ (ap (λ (k : List Waiting). far ++ k) (sym (next_of near head x lt at)) ∙ same))

-- an arc that was just tried gives no_arc better
again_by : (bound d : ℕ) (a : Arc) (words : List ℕ) (b : Bool) → is_better bound d a words ≡ b → a.to.0 < length words → is_better bound d a (words_after bound d a words) ≡ false
again_by bound d a words true is lt =
    let w : ℕ = word_by (d + a.length) a.edge.0 in
    let here : word_at bound (words_after bound d a words) a.to.0 ≡ w = rw is (get_or-set_same words a.to.0 w (no_label bound) lt) in
    rw here (le-ltb w w (omega arith))
again_by bound d a words false is lt = rw is is

-- so it changes no_arc
pub arc_again : (bound d : ℕ) (a : Arc) (state : SearchState) → a.to.0 < length state.words → after_arc bound d a (after_arc bound d a state) ≡ after_arc bound d a state
arc_again bound d a state lt =
    let not : is_better bound d a (words_after bound d a state.words) ≡ false = again_by bound d a state.words (is_better bound d a state.words) refl lt in
    rw not refl

-- what is kept while the arcs of a node are tried in order, and then the last one again
pub record AreTried (bound d last i : ℕ) (arcs : List Arc) (start now : SearchState) : Type 0 where
  pub tries : after_arcs bound d (drop i arcs) now ≡ after_arcs bound d arcs start
  pub again : last < i → after_arc bound d (slice_index_or arcs last no_arc) now ≡ now

-- so it is after one more
pub next_tried : (bound d last i : ℕ) (arcs : List Arc) (a : Arc) (start old new : SearchState) → last + 1 ≡ length arcs → a ≡ slice_index_or arcs (min i last) no_arc → a.to.0 < length old.words → new ≡ after_arc bound d a old → AreTried bound d last i arcs start old → AreTried bound d last (i + 1) arcs start new
next_tried bound d last i arcs a start old new count is lt step h = elim (cases_lt i (length arcs)) [
  | inl inside ↦
      let at : min i last ≡ i = min-eq_left (omega (arith, inside, count)) in
      let here : a ≡ slice_index_or arcs i no_arc = is ∙ ap (λ (k : ℕ). slice_index_or arcs k no_arc) at in
      let next : drop i arcs ≡ slice_index_or arcs i no_arc ∷ drop (i + 1) arcs = grind (arith, common_steps) in
      let first : after_arcs bound d (drop (i + 1) arcs) (after_arc bound d a old) ≡ after_arcs bound d (drop i arcs) old = ap (λ (k : Arc). after_arcs bound d (drop (i + 1) arcs) (after_arc bound d k old)) here ∙ ap (λ (k : List Arc). after_arcs bound d k old) (sym next) in
      record {
        tries = ap (after_arcs bound d (drop (i + 1) arcs)) step ∙ (first ∙ h.tries);
        again = λ low.
            let same : slice_index_or arcs last no_arc ≡ a = ap (λ (k : ℕ). slice_index_or arcs k no_arc) (omega (arith, low, inside, count)) ∙ sym here in
            ap (λ (k : Arc). after_arc bound d k new) same ∙ (ap (after_arc bound d a) step ∙ (arc_again bound d a old lt ∙ sym step));
      }
  | inr past ↦
      let at : min i last ≡ last = min-eq_right (omega (arith, past, count)) in
      let here : a ≡ slice_index_or arcs last no_arc = is ∙ ap (λ (k : ℕ). slice_index_or arcs k no_arc) at in
      let same : new ≡ old = step ∙ (ap (λ (k : Arc). after_arc bound d k old) here ∙ h.again (omega (arith, past, count))) in
      let none : drop i arcs ≡ [] = drop_of_length-le arcs past in
      let no_more : drop (i + 1) arcs ≡ [] = drop_of_length-le arcs (omega (arith, past)) in
      let rest : drop (i + 1) arcs ≡ drop i arcs = no_more ∙ sym none in
      record {
        tries = ap (λ (k : List Arc). after_arcs bound d k new) rest ∙ (ap (after_arcs bound d (drop i arcs)) same ∙ h.tries);
        again = λ low. subst (λ (k : SearchState). after_arc bound d (slice_index_or arcs last no_arc) k ≡ k) (sym same) (h.again (omega (arith, past, count)));
      }
]
