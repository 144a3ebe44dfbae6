-- What is kept of an open piece, in terms of all its points. In this file layers and tables stand in the order of the
-- points.
use Rattle.std.proofs.Common.{◌≡◌, ℕ, ◌+◌, ◌-◌, ◌<◌, ◌≤◌, List, [], ◌∷◌, ◌++◌, Option, Some, None, refl, sym, ap, ◌∙◌, subst, arith, length, drop, take, reverse, get_or}
use Rattle.std.proofs.lemmas.List.{get_or-drop, get_or_append_left, get_or-append-add, length-append, length-drop, length-reverse, length-take-le, length_push, reverse-append, reverse-reverse, take-append-drop}
use Rattle.std.proofs.Math.Seq.{get_or-append_seam}
use Rattle.matching.specs.declared.parts.Cell.{Cell}
use Rattle.matching.specs.declared.parts.Layer.{Layer}
use Rattle.matching.specs.Sequences.{Trellis, added}
use Rattle.matching.specs.Cells.{IsLive, cell_at}
use Rattle.matching.specs.Layers.{candidate_of_rank}
use Rattle.matching.specs.Local.{AreNext, IsLeastCell, IsLeastPointer, IsTightCost, by_pointers, by_way_of}
use Rattle.matching.proofs.Chosen.{live_below}
use Rattle.road_network.specs.declared.Candidate.{Candidate}
use Rattle.route_rebuild.specs.Routes.{no_layer}
use Rattle.online_commit.specs.declared.items.Item.{Item}
use Rattle.online_commit.specs.declared.items.Item.TheVariants.{At}
use Rattle.online_commit.specs.inside.Masks.{AreMasks, ArePreviousRanks, IsLiveMask, IsNotOne, IsOnlyRank, mask_at}
use Rattle.online_commit.specs.inside.Steps.{AreChosen, AreSettled, ranked_item, ranked_items}
use Rattle.online_commit.proofs.Passing.{chain, last_of}
use Rattle.online_commit.proofs.Points.{labels-shift}

-- items of the points after the first `gone`

pub items-shift : (first gone : ℕ) (layers : List Layer) (rank kept : ℕ → ℕ) (j k : ℕ) → ((i : ℕ) → j ≤ i → i < j + k → kept i ≡ rank (gone + i))
    → ranked_items (first + gone) (drop gone layers) kept j k ≡ ranked_items first layers rank (gone + j) k
items-shift first gone layers rank kept j k same =
    labels-shift (ranked_item (first + gone) (drop gone layers) kept) (ranked_item first layers rank) j (gone + j) k
    (λ i lt.
    let place : gone + (j + i) ≡ gone + j + i = omega arith in
    let number : first + gone + (j + i) ≡ first + (gone + j + i) = omega arith in
    ap (λ x. At x (candidate_of_rank (get_or (drop gone layers) (j + i) no_layer) (kept (j + i)))) number
    ∙ ap (λ l. At (first + (gone + j + i)) (candidate_of_rank l (kept (j + i)))) (get_or-drop gone layers (j + i) no_layer ∙ ap (λ x. get_or layers x no_layer) place)
    ∙ ap (λ r. At (first + (gone + j + i)) (candidate_of_rank (get_or layers (gone + j + i) no_layer) r)) (same (j + i) (omega arith) (omega (arith, lt)) ∙ ap rank place))

pub settled-shift : (first gone : ℕ) (layers : List Layer) (masks : List ℕ) (told : ℕ) (items : List Item) → gone ≤ length layers
    → AreSettled (first + gone) (drop gone layers) (mask_at masks) told items → AreSettled first layers (λ i. mask_at masks (i - gone)) (gone + told) items
settled-shift first gone layers masks told items le h =
    let within = h.within in
    let left = length-drop gone layers in
    let end : told + length items ≡ gone + told + length items - gone = omega arith in
    record {
      within = omega (arith, within, left, le);
      single = λ j ge lt. h.single (j - gone) (omega (arith, ge)) (omega (arith, lt, ge));
      ends = λ lt. subst (λ k. IsNotOne (mask_at masks k)) end (h.ends (omega (arith, lt, left)));
      are = λ rank only.
          h.are (λ i. rank (gone + i)) (λ j ge lt.
          let back : gone + j - gone ≡ j = omega arith in
          subst (λ k. IsOnlyRank (mask_at masks k) (rank (gone + j))) back (only (gone + j) (omega (arith, ge)) (omega (arith, lt))))
          ∙ items-shift first gone layers rank (λ i. rank (gone + i)) told (length items) (λ i ge lt. refl);
    }

-- the masks without those of the first points
pub masks-dropped : (tables : List (List Cell)) (masks : List ℕ) (n count : ℕ) → count < n → AreMasks tables (mask_at masks) n → AreMasks (drop count tables) (mask_at (drop count masks)) (n - count)
masks-dropped tables masks n count lt h =
    let last : n - 1 ≡ count + (n - count - 1) = omega (arith, lt) in
    let table : (i : ℕ) → get_or tables (count + i) [] ≡ get_or (drop count tables) i [] = λ i. sym (get_or-drop count tables i []) in
    let mask : (i : ℕ) → mask_at masks (count + i) ≡ mask_at (drop count masks) i = λ i. sym (get_or-drop count masks i 0) in
    record {
      live = subst (λ c. IsLiveMask c (mask_at (drop count masks) (n - count - 1))) (table (n - count - 1))
          (subst (λ m. IsLiveMask (get_or tables (count + (n - count - 1)) []) m) (mask (n - count - 1))
          (subst (λ k. IsLiveMask (get_or tables k []) (mask_at masks k)) last h.live));
      back = λ i inside.
          let next : count + i + 1 ≡ count + (i + 1) = omega arith in
          subst (λ c. ArePreviousRanks c (mask_at (drop count masks) (i + 1)) (mask_at (drop count masks) i)) (table (i + 1))
          (subst (λ m. ArePreviousRanks (get_or tables (count + (i + 1)) []) m (mask_at (drop count masks) i)) (mask (i + 1))
          (subst (λ m. ArePreviousRanks (get_or tables (count + (i + 1)) []) (mask_at masks (count + (i + 1))) m) (mask i)
          (subst (λ k. ArePreviousRanks (get_or tables k []) (mask_at masks k) (mask_at masks (count + i))) next (h.back (count + i) (omega (arith, inside))))));
    }

-- pointers of live cells

added-first : (x y : Option ℕ) (e c : ℕ) → added x y e ≡ Some c → (d : ℕ) × (x ≡ Some d)
added-first None y e c h = absurd (cc)
added-first (Some d) y e c h = (d, refl)

pub tight-pointer : (ways : ℕ → Option ℕ) (n : ℕ) (x y : Option ℕ) (c : ℕ) → IsTightCost ways n x y → x ≡ Some c → (a : ℕ) × (y ≡ Some a) × (d : ℕ) × (ways a ≡ Some d)
tight-pointer ways n None y c tight e = absurd (cc)
tight-pointer ways n (Some b) None c tight e = absurd tight
tight-pointer ways n (Some b) (Some a) c tight e = (a, refl, b, tight.1)

-- a live cell points to a live cell
pub live-pointer : {L : Type 0} (t : Trellis L) (m l : L) (before cells : List Cell) (j : ℕ) → AreNext t m before l cells → IsLive cells j → (a : ℕ) × ((cell_at cells j).«from» ≡ Some a) × IsLive before a
live-pointer t m l before cells j next live =
    let inside : j < t.width l = subst (λ n. j < n) next.count (live_below cells j live.0 live.1) in
    let way = tight-pointer (λ a. by_way_of t m before l a j) (t.width m) ((cell_at cells j).cost) ((cell_at cells j).«from») live.0 (next.each j inside).tight live.1 in
    (way.0, way.1, added-first ((cell_at before way.0).cost) (t.transition m way.0 l j) (t.emission l j) way.2 way.3)

pointed : (ways : ℕ → Option ℕ) (n : ℕ) (x y : Option ℕ) (a : ℕ) → IsTightCost ways n x y → IsLeastPointer ways x y → y ≡ Some a → (d : ℕ) × (ways a ≡ Some d)
pointed ways n None y a tight pointer e = absurd (cc)
pointed ways n (Some c) None a tight pointer e = absurd (cc)
pointed ways n (Some c) (Some b) a tight pointer e = let same : b ≡ a = cc in subst (λ k. (d : ℕ) × (ways k ≡ Some d)) same (c, tight.1)

-- the least cell points to a live one
pub least-live : (cells : List Cell) (last : Cell) (a : ℕ) → IsLeastCell cells last → last.«from» ≡ Some a → IsLive cells a
least-live cells last a h e = pointed (λ j. (cell_at cells j).cost) (length cells) (last.cost) (last.«from») a h.tight h.pointer e

-- the sequence to a rank of one more point
pub chain-more : (tables : List (List Cell)) (cells : List Cell) (j a : ℕ) → (cell_at cells j).«from» ≡ Some a → chain (tables ++ cells ∷ []) j ≡ j ∷ chain tables a
chain-more tables cells j a e = ap (λ ts. by_pointers ts (Some j)) (reverse-append tables (cells ∷ [])) ∙ ap (λ x. j ∷ by_pointers (reverse tables) x) e

-- what was chosen stays chosen
pub chosen-grown : {L : Type 0} (t : Trellis L) (m v : L) (layers : List Layer) (l : Layer) (tables : List (List Cell)) (cells : List Cell) (settled : List Candidate)
    → AreNext t m (last_of tables) v cells → length settled ≤ length layers → ((a : ℕ) → IsLive (last_of tables) a → length (chain tables a) ≡ length layers)
    → AreChosen layers tables settled → AreChosen (layers ++ l ∷ []) (tables ++ cells ∷ []) settled
chosen-grown t m v layers l tables cells settled next le count h j i live lt =
    let push = length_push tables cells in
    let end : length (tables ++ cells ∷ []) - 1 ≡ length tables = omega (arith, push) in
    let last : last_of (tables ++ cells ∷ []) ≡ cells = ap (λ k. get_or (tables ++ cells ∷ []) k []) end ∙ get_or-append_seam tables cells [] [] in
    let back = live-pointer t m v (last_of tables) cells j next (subst (λ c. IsLive c j) last live) in
    let a = back.0 in
    let long = count a back.2 in
    let there : i < length (reverse (chain tables a)) = omega (arith, lt, le, long, length-reverse (chain tables a)) in
    h a i back.2 lt
    ∙ ap (λ x. candidate_of_rank x (get_or (reverse (chain tables a)) i 0)) (sym (get_or_append_left layers (l ∷ []) no_layer i (omega (arith, lt, le))))
    ∙ ap (candidate_of_rank (get_or (layers ++ l ∷ []) i no_layer))
    (sym (get_or_append_left (reverse (chain tables a)) (j ∷ []) 0 i there) ∙ ap (λ ys. get_or ys i 0) (sym (reverse-append (j ∷ []) (chain tables a)))
    ∙ ap (λ ys. get_or (reverse ys) i 0) (sym (chain-more tables cells j a back.1)))

-- the ranks that pointers through the last tables alone lead to

pub pointers-short : (tables : List (List Cell)) (x : Option ℕ) → length (by_pointers tables x) ≤ length tables
pointers-short [] None = omega arith
pointers-short [] (Some a) = omega arith
pointers-short (c ∷ tables) None = omega arith
pointers-short (c ∷ tables) (Some a) = let le = pointers-short tables ((cell_at c a).«from») in omega (arith, le)

pointers-none : (tables : List (List Cell)) → by_pointers tables None ≡ []
pointers-none [] = refl
pointers-none (c ∷ tables) = refl

pointers-split : (xs ys : List (List Cell)) (x : Option ℕ) → (rest : List ℕ) × (by_pointers (xs ++ ys) x ≡ by_pointers xs x ++ rest) × (length rest ≤ length ys)
pointers-split [] ys None = ([], pointers-none ys, omega arith)
pointers-split [] ys (Some a) = (by_pointers ys (Some a), refl, pointers-short ys (Some a))
pointers-split (c ∷ xs) ys None = ([], refl, omega arith)
pointers-split (c ∷ xs) ys (Some a) =
    let on = pointers-split xs ys ((cell_at c a).«from») in
    (on.0, ap (λ r. a ∷ r) on.1, on.2)

-- the ranks at the kept points are the last ones
pub record AreLastRanks (gone : ℕ) (ranks kept : List ℕ) : Type 0 where
  pub count : length kept + gone ≡ length ranks
  pub each : (i : ℕ) → i < length kept → get_or kept i 0 ≡ get_or ranks (gone + i) 0

pub kept-ranks : (tables : List (List Cell)) (gone : ℕ) (ranks kept : List ℕ) (x : Option ℕ) → gone ≤ length tables → length ranks ≡ length tables → reverse ranks ≡ by_pointers (reverse tables) x
    → reverse kept ≡ by_pointers (reverse (drop gone tables)) x → AreLastRanks gone ranks kept
kept-ranks tables gone ranks kept x le count all last =
    let front = take gone tables in
    let back = drop gone tables in
    let split = pointers-split (reverse back) (reverse front) x in
    let rest = split.0 in
    let whole : reverse ranks ≡ reverse kept ++ rest =
    all ∙ ap (λ ts. by_pointers (reverse ts) x) (sym (take-append-drop gone tables)) ∙ ap (λ ts. by_pointers ts x) (reverse-append front back) ∙ split.1 ∙ ap (λ ys. ys ++ rest) (sym last) in
    let is : ranks ≡ reverse rest ++ kept =
    sym (reverse-reverse ranks) ∙ ap reverse whole ∙ reverse-append (reverse kept) rest ∙ ap (λ ys. reverse rest ++ ys) (reverse-reverse kept) in
    let few = split.2 in
    let short = pointers-short (reverse back) x in
    let kept-short = ap length last in
    let sum = ap length is ∙ length-append (reverse rest) kept in
    let front-count : length front ≡ gone = length-take-le gone tables le in
    let rest-count : length (reverse rest) ≡ gone =
    omega (arith, few, short, kept-short, sum, front-count, count, le, length-drop gone tables, length-reverse rest, length-reverse kept, length-reverse back, length-reverse front) in
    record {
      count = omega (arith, sum, rest-count);
      each = λ i lt. sym (ap (λ ys. get_or ys (gone + i) 0) is ∙ ap (λ k. get_or (reverse rest ++ kept) (k + i) 0) (sym rest-count) ∙ get_or-append-add (reverse rest) kept i 0);
    }
