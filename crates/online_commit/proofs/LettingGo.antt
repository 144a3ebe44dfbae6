-- A session of which settled points were let go. In this file layers and tables stand in the order of the points.
use Rattle.std.proofs.Common.{◌≡◌, ℕ, ◌+◌, ◌-◌, ◌<◌, ◌≤◌, List, [], ◌∷◌, ◌++◌, Result, Ok, Err, IfOk, OnErr, refl, sym, ap, ◌∙◌, subst, arith, length, drop, reverse, get_or, ⊎_elim}
use Rattle.std.proofs.lemmas.Bool.{cases_lt}
use Rattle.std.proofs.lemmas.List.{append-nil, append_assoc, drop-drop, get_or-append-add, get_or-drop, get_or_append_left, length-append, length-drop, length-reverse, length_push}
use Rattle.std.proofs.Math.Seq.{get_or-append_seam}
use Rattle.cost_model.specs.declared.params.Params.{Params}
use Rattle.road_network.specs.Net.{Net}
use Rattle.road_network.specs.declared.Candidate.{Candidate}
use Rattle.matching.specs.declared.parts.Cell.{Cell}
use Rattle.matching.specs.declared.parts.Layer.{Layer}
use Rattle.matching.specs.Layers.{candidate_of_rank, no_candidate, trellis}
use Rattle.route_rebuild.specs.Routes.{no_layer}
use Rattle.online_commit.specs.declared.items.Item.{Item}
use Rattle.online_commit.specs.inside.Masks.{AreMasks, IsOnlyRank, mask_at}
use Rattle.online_commit.specs.inside.Pieces.{AreFirstSettled, GoesOn, IsEven, IsExtended, IsLetGo, MayGrow, Piece, Whole, session_with, shorter}
use Rattle.online_commit.specs.Session.{FeedsLayer}
use Rattle.online_commit.specs.inside.Steps.{AreChosen, IsKeptOf, IsSession, seen_session}
use Rattle.online_commit.proofs.Extending.{GoesOnTo, kept-count, tabled-of}
use Rattle.online_commit.proofs.Grown.{grown-fed, grown-session}
use Rattle.online_commit.proofs.Kept.{masks-dropped}
use Rattle.online_commit.proofs.Passing.{chain, masks-from, passed-single}

-- the piece without its first kept points
abbrev left_of : Whole → List Candidate → ℕ → Whole
left_of a settled count = record { first = a.first; told = a.told; layers = a.layers; tables = a.tables; settled = settled; tail = shorter a.tail count }

let-go-is : (old new : Whole) (h : IsLetGo old new) → new ≡ left_of old new.settled h.count
let-go-is old new h =
    ap (λ x. let w : Whole = record { first = x; told = new.told; layers = new.layers; tables = new.tables; settled = new.settled; tail = new.tail } in w) h.first
    ∙ ap (λ x. let w : Whole = record { first = old.first; told = x; layers = new.layers; tables = new.tables; settled = new.settled; tail = new.tail } in w) h.told
    ∙ ap (λ x. let w : Whole = record { first = old.first; told = old.told; layers = x; tables = new.tables; settled = new.settled; tail = new.tail } in w) h.layers
    ∙ ap (λ x. let w : Whole = record { first = old.first; told = old.told; layers = old.layers; tables = x; settled = new.settled; tail = new.tail } in w) h.tables
    ∙ ap (λ x. let w : Whole = record { first = old.first; told = old.told; layers = old.layers; tables = old.tables; settled = new.settled; tail = x } in w) h.tail

-- the candidates that were appended are those of all sequences
let-go-chosen : (n : Net) (p : Params) (old : Whole) (settled : List Candidate) (count : ℕ) → IsSession (session_with n p old) → count ≤ old.tail.told - 1 → AreFirstSettled old.tail old.settled count settled
    → AreChosen old.layers old.tables settled
let-go-chosen n p old settled count is le h j i live lt =
    let s = session_with n p old in
    let kept = is.kept in
    let all = kept-count s is in
    let told = kept.told in
    let front = is.front.within in
    let back = length-reverse old.layers in
    let sum = ap length h.appended ∙ length-append old.settled h.more in
    let more = h.count_is in
    let line = get_or (reverse (chain old.tables j)) i 0 in
    ⊎_elim
    (λ less. ap (λ xs. get_or xs i no_candidate) h.appended ∙ get_or_append_left old.settled h.more no_candidate i less ∙ kept.chosen j i live less)
    (λ ge.
    let k = i - length old.settled in
    let place : length old.settled + k ≡ i = omega (arith, ge) in
    let inside : k < count = omega (arith, lt, sum, more, ge) in
    let each = h.each k inside in
    let some : 0 < length old.layers = omega (arith, inside, le, told, front, back) in
    let below : length old.settled < length old.layers = omega (arith, some, inside, le, told, front, back) in
    let size : length old.tail.layers ≡ length old.layers - length old.settled = ap length kept.layers ∙ length-drop (length old.settled) old.layers in
    let masks = masks-from (length old.settled) old.tables old.tail.masks (length old.layers) below
    (subst (λ m. AreMasks (drop (length old.settled) old.tables) (mask_at old.tail.masks) m) size
    (subst (λ ts. AreMasks ts (mask_at old.tail.masks) (length old.tail.layers)) kept.tables (kept.masks (omega (arith, size, below))))) in
    let passed : line ≡ each.0 =
    passed-single (trellis n p) old.layers old.tables (λ m. mask_at old.tail.masks (m - length old.settled)) (length old.settled) i each.0 j (tabled-of s is some) masks (omega (arith, ge))
    (omega (arith, lt, sum, more, le, told, front, back)) each.1 live in
    ap (λ xs. get_or xs i no_candidate) h.appended ∙ ap (λ m. get_or (old.settled ++ h.more) m no_candidate) (sym place) ∙ get_or-append-add old.settled h.more k no_candidate ∙ each.2
    ∙ ap (λ ls. candidate_of_rank (get_or ls k no_layer) each.0) kept.layers
    ∙ ap (λ l. candidate_of_rank l each.0) (get_or-drop (length old.settled) old.layers k no_layer ∙ ap (λ m. get_or old.layers m no_layer) place)
    ∙ ap (candidate_of_rank (get_or old.layers i no_layer)) (sym passed))
    (cases_lt i (length old.settled))

left-kept : (n : Net) (p : Params) (old : Whole) (settled : List Candidate) (count : ℕ) → IsSession (session_with n p old) → count ≤ old.tail.told - 1 → AreFirstSettled old.tail old.settled count settled
    → IsKeptOf (session_with n p (left_of old settled count))
left-kept n p old settled count is le h =
    let s = session_with n p old in
    let kept = is.kept in
    let all = kept-count s is in
    let told = kept.told in
    let first = kept.first in
    let within = kept.within in
    let front = is.front.within in
    let back = length-reverse old.layers in
    let more = h.count_is in
    let gone : length settled ≡ length old.settled + count = ap length h.appended ∙ length-append old.settled h.more ∙ ap (λ k. length old.settled + k) more in
    let masks = kept.masks_count in
    let sum : count + length old.settled ≡ length settled = omega (arith, gone) in
    let shorter-count : length old.tail.layers - count ≡ length (drop count old.tail.layers) = sym (length-drop count old.tail.layers) in
    record {
      within = omega (arith, within, gone, le, told, front, back);
      first = omega (arith, first, gone);
      told = omega (arith, told, gone, le);
      layers = ap (drop count) kept.layers ∙ drop-drop count (length old.settled) old.layers ∙ ap (λ k. drop k old.layers) (sym gone);
      tables = ap (drop count) kept.tables ∙ drop-drop count (length old.settled) old.tables ∙ ap (λ k. drop k old.tables) (sym gone);
      masks_count = length-drop count old.tail.masks ∙ ap (λ k. k - count) masks ∙ shorter-count;
      masks = λ some.
          subst (λ k. AreMasks (drop count old.tail.tables) (mask_at (drop count old.tail.masks)) k) shorter-count
          (masks-dropped old.tail.tables old.tail.masks (length old.tail.layers) count (omega (arith, some, shorter-count)) (kept.masks (omega (arith, some, shorter-count))));
      chosen = let-go-chosen n p old settled count is le h;
    }

pub let-go-session : (n : Net) (p : Params) (old new : Whole) → IsSession (session_with n p old) → IsLetGo old new → IsSession (session_with n p new)
let-go-session n p old new is h =
    subst (λ w. IsSession (session_with n p w)) (sym (let-go-is old new h))
    (record {
      options = is.options;
      few = is.few;
      layers = is.layers;
      ranks = is.ranks;
      tables_count = is.tables_count;
      open_is = is.open_is;
      kept = left-kept n p old new.settled h.count is h.within h.settled;
      front = is.front;
    })

-- contracts see the same session
pub let-go-seen : (n : Net) (p : Params) (old new : Whole) → IsLetGo old new → seen_session (session_with n p new) ≡ seen_session (session_with n p old)
let-go-seen n p old new h = ap (λ w. seen_session (session_with n p w)) (let-go-is old new h)

-- a session that took a point, and then let points go

pub went-session : {E : Type 0} (n : Net) (p : Params) (old new : Whole) (l : Layer) (cells : List Cell) (r : Result (List Item) E) → GoesOnTo (session_with n p old) l cells
    → IfOk r (GoesOn old l cells new) → OnErr r (new ≡ old) → IsSession (session_with n p new)
went-session n p old new l cells (Ok items) h ok err = let-go-session n p ok.grown new (grown-session (session_with n p old) l cells ok.grown items h ok.is_grown) ok.lets_go
went-session n p old new l cells (Err e) h ok err = subst (λ a. IsSession (session_with n p a)) (sym err) h.session

pub went-fed : {E : Type 0} (n : Net) (p : Params) (old new : Whole) (l : Layer) (cells : List Cell) (r : Result (List Item) E) → GoesOnTo (session_with n p old) l cells
    → IfOk r (GoesOn old l cells new) → IfOk r (FeedsLayer (seen_session (session_with n p old)) l (seen_session (session_with n p new)))
went-fed n p old new l cells (Ok items) h ok =
    subst (λ x. FeedsLayer (seen_session (session_with n p old)) l x items) (sym (let-go-seen n p ok.grown new ok.lets_go)) (grown-fed (session_with n p old) l cells ok.grown items h ok.is_grown)
went-fed n p old new l cells (Err e) h ok = tt

-- each kept point still has its layer, its cells and its mask
pub grown-even : (old new : Piece) (l : Layer) (cells : List Cell) (items : List Item) → MayGrow old cells → IsExtended old l cells new items → IsEven new
grown-even old new l cells items may ext =
    let few = may.few in
    let count = may.tables_count in
    let first = ext.first in
    let told = ext.told in
    let within = ext.settled.within in
    let len = ap length ext.layers ∙ length_push old.layers l in
    let lent = ap length ext.tables ∙ length_push old.tables cells in
    record {
      few = omega (arith, few, first, len);
      tables_count = omega (arith, len, lent, count);
      masks_count = ext.masks_count;
      told = omega (arith, told, within);
    }

-- the candidates of first points, one by one
pub first-none : (a : Piece) (old : List Candidate) → AreFirstSettled a old 0 old
first-none a old = record { more = []; appended = sym (append-nil old); count_is = refl; each = λ i lt. absurd (omega (arith, lt)) }

pub first-more : (a : Piece) (old new : List Candidate) (count r : ℕ) (x : Candidate) → AreFirstSettled a old count new → IsOnlyRank (mask_at a.masks count) r → x ≡ candidate_of_rank (get_or a.layers count no_layer) r
    → AreFirstSettled a old (count + 1) (new ++ x ∷ [])
first-more a old new count r x h only is =
    let c = h.count_is in
    record {
      more = h.more ++ x ∷ [];
      appended = ap (λ ys. ys ++ x ∷ []) h.appended ∙ append_assoc old h.more (x ∷ []);
      count_is = length_push h.more x ∙ ap (λ k. k + 1) c;
      each = λ i lt. ⊎_elim
          (λ less. let e = h.each i less in (e.0, e.1, get_or_append_left h.more (x ∷ []) no_candidate i (omega (arith, less, c)) ∙ e.2))
          (λ ge.
          let at : count ≡ i = omega (arith, lt, ge) in
          let end : i ≡ length h.more = omega (arith, at, c) in
          (r, subst (λ k. IsOnlyRank (mask_at a.masks k) r) at only, ap (λ k. get_or (h.more ++ x ∷ []) k no_candidate) end ∙ get_or-append_seam h.more x [] no_candidate ∙ is ∙ ap (λ k. candidate_of_rank (get_or a.layers k no_layer) r) at))
          (cases_lt i count);
    }
