-- The committed labels are the longest common prefix of the lists of labels.
use Rattle.std.proofs.Common.{◌≡◌, ⊎_elim, ℕ, zero, suc, ◌+◌, ◌-◌, ◌<◌, ◌≤◌, List, [], ◌∷◌, ◌++◌, Option, Some, refl, sym, ap, ◌∙◌, subst, arith, length, map, take, drop, reverse}
use Rattle.std.specs.List.{All}
use Rattle.std.proofs.lemmas.Bool.{cases_lt}
use Rattle.std.proofs.lemmas.List.{append_assoc, append-nil, drop_at, drop-append-le, length-append, length-drop, length-map, length-reverse, length-take-le, take-append-drop, take_all, take_at, take-map}
use Rattle.std.proofs.lemmas.List.Elements.{All-head, All-map, All-tail}
use Rattle.polyline_geometry.specs.Plane.{InRange}
use Rattle.cost_model.specs.declared.params.Params.{Params}
use Rattle.road_network.specs.Net.{Net, IsLawful}
use Rattle.matching.specs.declared.parts.Layer.{Layer}
use Rattle.matching.specs.Committed.{Agree, IsCommitted}
use Rattle.matching.specs.CommittedValue.{committed_of, ends_of}
use Rattle.matching.specs.Layers.{trellis}
use Rattle.matching.specs.Pieces.{IsPiece}
use Rattle.matching.specs.Sequences.{IsBest, IsBestTo}
use Rattle.matching.specs.Value.{best_of, solution}
use Rattle.matching.proofs.CommittedValues.{committed_split, front, front_is, opens_first, whole}
use Rattle.matching.proofs.Lists.{Among}
use Rattle.matching.proofs.SolutionMatches.{best_of-is, solution_is_a_match}
use Rattle.matching.proofs.Splits.{from_point, from_joins, Splits}
use Rattle.match_text.specs.declared.matched.Label.{Label}
use Rattle.online_commit.proofs.Handed.{solution-now}
use Rattle.trace_match.specs.Laws.{LabelsBeginWith, committed_labels}
use Rattle.trace_match.specs.Match.{label_of_rank, labels_of, layer_of, layers_of, match_of}
use Rattle.trace_match.proofs.DifferentEdges.{labels_agree}
use Rattle.trace_match.proofs.FirstLabels.{first_labels}
use Rattle.trace_reader.specs.declared.trace.Fix.{Fix}
use Rattle.trace_reader.specs.declared.trace.Trace.{Trace}
use Rattle.trace_reader.specs.Trace.{IsLawfulTrace, point_of_fix}
use Rattle.trace_sessions.specs.CommonLabels.{CommittedIsCommonPrefix, IsLongestCommonPrefix, LatestIsNear, label_lists, lists_from}
use Rattle.trace_sessions.proofs.LatestPoint.{far-committed, latest-open}
use Rattle.trace_sessions.proofs.BestEnds.{AllIn, IsEnd, all-among, among-all, among-mapped, best-end, end-in, end-length, ends-have, ends-told, some_of}

-- ---- labels

labels-parts : (n : Net) (front back : List Layer) (rs ss : List (Option ℕ)) → length rs ≡ length front → labels_of n (front ++ back) (rs ++ ss) ≡ labels_of n front rs ++ labels_of n back ss
labels-parts n [] back [] ss e = refl
labels-parts n [] back (r ∷ rs) ss e = absurd (omega (arith, e))
labels-parts n (l ∷ front) back [] ss e = absurd (omega (arith, e))
labels-parts n (l ∷ front) back (r ∷ rs) ss e = ap (λ ls. label_of_rank n l r ∷ ls) (labels-parts n front back rs ss (omega (arith, e)))

labels-count : (n : Net) (layers : List Layer) (rs : List (Option ℕ)) → length rs ≡ length layers → length (labels_of n layers rs) ≡ length layers
labels-count n [] rs e = refl
labels-count n (l ∷ layers) [] e = absurd (omega (arith, e))
labels-count n (l ∷ layers) (r ∷ rs) e = ap suc (labels-count n layers rs (omega (arith, e)))

-- labels of ranks of candidates tell the ranks
IsTelling : Net → Params → Layer → Type 0
IsTelling n p l = (x y : ℕ) → x < (trellis n p).width l → y < (trellis n p).width l → label_of_rank n l (Some x) ≡ label_of_rank n l (Some y) → x ≡ y

AreTelling : Net → Params → List Layer → Type 0
AreTelling n p [] = Unit {0}
AreTelling n p (l ∷ layers) = IsTelling n p l × AreTelling n p layers

telling-fixes : (n : Net) (p : Params) (fixes : List Fix) → IsLawful n → All (λ (fix : Fix). InRange (point_of_fix fix)) fixes → AreTelling n p (map (layer_of n p) fixes)
unfolding AreTelling IsTelling
telling-fixes n p [] lawful places = tt
telling-fixes n p (fix ∷ fixes) lawful places = (
  λ x y lx ly same.
      let e : ◌≡◌ {A = Option ℕ} (Some x) (Some y) = (labels_agree n p fix (Some x) (Some y) lawful (All-head (λ (f : Fix). InRange (point_of_fix f)) fix fixes places) lx ly).0 same in
      cc,
  telling-fixes n p fixes lawful (All-tail (λ (f : Fix). InRange (point_of_fix f)) fix fixes places),
)

telling-drop : (n : Net) (p : Params) (k : ℕ) (layers : List Layer) → AreTelling n p layers → AreTelling n p (drop k layers)
unfolding AreTelling
telling-drop n p zero layers h = h
telling-drop n p (suc k) [] h = tt
telling-drop n p (suc k) (l ∷ layers) h = telling-drop n p k layers h.1

heads : (x y : Label) (xs ys : List Label) → x ∷ xs ≡ y ∷ ys → x ≡ y
heads x y xs ys e = cc

tails : (x y : Label) (xs ys : List Label) → x ∷ xs ≡ y ∷ ys → xs ≡ ys
tails x y xs ys e = cc

same-ranks : (n : Net) (p : Params) (layers : List Layer) (xs ys : List ℕ) (m : ℕ) → AreTelling n p layers → AllIn (trellis n p) layers xs → AllIn (trellis n p) layers ys
    → take m (labels_of n layers (some_of xs)) ≡ take m (labels_of n layers (some_of ys)) → take m xs ≡ take m ys
unfolding AreTelling IsTelling AllIn
same-ranks n p layers xs ys zero tells hx hy same = refl
same-ranks n p [] [] [] (suc m) tells hx hy same = refl
same-ranks n p [] [] (y ∷ ys) (suc m) tells hx hy same = absurd hy
same-ranks n p [] (x ∷ xs) ys (suc m) tells hx hy same = absurd hx
same-ranks n p (l ∷ layers) [] ys (suc m) tells hx hy same = absurd hx
same-ranks n p (l ∷ layers) (x ∷ xs) [] (suc m) tells hx hy same = absurd hy
same-ranks n p (l ∷ layers) (x ∷ xs) (y ∷ ys) (suc m) tells hx hy same =
    let xs_left = take m (labels_of n layers (some_of xs)) in
    let ys_left = take m (labels_of n layers (some_of ys)) in
    let now = heads (label_of_rank n l (Some x)) (label_of_rank n l (Some y)) xs_left ys_left same in
    let later = tails (label_of_rank n l (Some x)) (label_of_rank n l (Some y)) xs_left ys_left same in
    ap (λ r. r ∷ take m xs) (tells.0 x y hx.0 hy.0 now) ∙ ap (λ rs. y ∷ rs) (same-ranks n p layers xs ys m tells.1 hx.1 hy.1 later)

-- ---- the law

-- the labels of the open piece with these ranks
abbrev tail_of : Net → List Layer → List ℕ → List Label
tail_of n xs x = labels_of n xs (some_of x)

same-tails : (n : Net) (xs : List Layer) (x y : List ℕ) (k : ℕ) → take k x ≡ take k y → take k (tail_of n xs x) ≡ take k (tail_of n xs y)
same-tails n xs x y k same =
    let f : ℕ → Option ℕ = λ r. Some r in
    first_labels n xs (some_of x) k
    ∙ ap (labels_of n (take k xs)) (take-map f k x ∙ ap (map f) same ∙ sym (take-map f k y))
    ∙ sym (first_labels n xs (some_of y) k)

-- k of the labels behind others
take-behind : (front back : List Label) (first k : ℕ) → length front ≡ first → k ≤ length back → take (first + k) (front ++ back) ≡ front ++ take k back
take-behind front back first k count le =
    ap (λ ls. take (first + k) (front ++ ls)) (sym (take-append-drop k back))
    ∙ ap (take (first + k)) (sym (append_assoc front (take k back) (drop k back)))
    ∙ take_at (front ++ take k back) (drop k back) (first + k) (omega (arith, count, length-append front (take k back), length-take-le k back le))

-- what is known of the labels of a trace whose latest point is in a piece
record Stands (n : Net) (p : Params) (layers : List Layer) (first k : ℕ) (closed : List Label) (b : List ℕ) (committed : List Label) : Type 0 where
  pub count : length closed ≡ first
  pub list : (x : List ℕ) → IsEnd (trellis n p) (reverse (drop first layers)) x
      → labels_of n layers (take first (solution (trellis n p) layers).ranks ++ some_of x) ≡ closed ++ tail_of n (drop first layers) x
  pub end : IsEnd (trellis n p) (reverse (drop first layers)) b
  pub is : committed ≡ closed ++ take k (tail_of n (drop first layers) b)
  pub is-front : IsCommitted (trellis n p) (reverse (drop first layers)) k
  pub tells : AreTelling n p (drop first layers)

tail-count : (n : Net) (p : Params) (xs : List Layer) (x : List ℕ) → IsEnd (trellis n p) (reverse xs) x → length (tail_of n xs x) ≡ length xs
tail-count n p xs x h =
    let f : ℕ → Option ℕ = λ r. Some r in
    labels-count n xs (some_of x) (length-map x f ∙ end-length (trellis n p) (reverse xs) x h ∙ length-reverse xs)

-- two ends have the same first k ranks
same-front : (n : Net) (p : Params) (layers : List Layer) (first k : ℕ) (closed : List Label) (b : List ℕ) (committed : List Label) → Stands n p layers first k closed b committed
    → (x : List ℕ) → IsEnd (trellis n p) (reverse (drop first layers)) x → take k x ≡ take k b
same-front n p layers first k closed b committed s x h =
    ap (take k) h.is ∙ s.is-front.agree h.rank s.end.rank h.price s.end.price h.ranks s.end.ranks h.best s.end.best ∙ ap (take k) (sym s.end.is)

begins-with_committed : (n : Net) (p : Params) (layers : List Layer) (first k : ℕ) (closed : List Label) (b : List ℕ) (committed : List Label) → Stands n p layers first k closed b committed
    → (x : List ℕ) → IsEnd (trellis n p) (reverse (drop first layers)) x
    → LabelsBeginWith (labels_of n layers (take first (solution (trellis n p) layers).ranks ++ some_of x)) committed
begins-with_committed n p layers first k closed b committed s x h =
    let xs = drop first layers in
    let rest = drop k (tail_of n xs x) in (
      rest,
      s.list x h
          ∙ ap (λ ls. closed ++ ls) (sym (take-append-drop k (tail_of n xs x)) ∙ ap (λ ls. ls ++ rest) (same-tails n xs x b k (same-front n p layers first k closed b committed s x h)))
          ∙ sym (append_assoc closed (take k (tail_of n xs b)) rest)
          ∙ ap (λ ls. ls ++ rest) (sym s.is),
    )

-- where the list begins with more labels than those of the closed pieces, these are its next ones
next-labels : (closed tail other rest : List Label) (first : ℕ) → length closed ≡ first → first ≤ length other → closed ++ tail ≡ other ++ rest → tail ≡ drop first other ++ rest
next-labels closed tail other rest first count le same =
    sym (drop_at closed tail first count) ∙ ap (drop first) same ∙ drop-append-le first other rest le

longer : (n : Net) (p : Params) (layers : List Layer) (first k : ℕ) (closed : List Label) (b : List ℕ) (committed : List Label) → Stands n p layers first k closed b committed
    → (other : List Label)
    → ((x : List ℕ) → IsEnd (trellis n p) (reverse (drop first layers)) x
    → LabelsBeginWith (labels_of n layers (take first (solution (trellis n p) layers).ranks ++ some_of x)) other)
    → first ≤ length other → length other ≤ first + k
longer n p layers first k closed b committed s other all le =
    let t = trellis n p in
    let xs = drop first layers in
    let m = length other - first in
    let count : length (drop first other) ≡ m = length-drop first other in
    let tail : (x : List ℕ) (h : IsEnd t (reverse xs) x) → tail_of n xs x ≡ drop first other ++ (all x h).0 = λ x h. next-labels closed (tail_of n xs x) other (all x h).0 first s.count le (sym (s.list x h) ∙ (all x h).1) in
    let same : (x : List ℕ) (h : IsEnd t (reverse xs) x) → take m (tail_of n xs x) ≡ drop first other = λ x h. ap (take m) (tail x h) ∙ take_at (drop first other) (all x h).0 m count in
    let within : m ≤ length (reverse xs) = omega (arith, count, ap length (tail b s.end), length-append (drop first other) (all b s.end).0, tail-count n p xs b s.end, length-reverse xs) in
    let end : (j c : ℕ) (ranks : List ℕ) → IsBestTo t (reverse xs) j c ranks → IsEnd t (reverse xs) (reverse (j ∷ ranks)) = λ j c ranks best. record { rank = j; price = c; ranks = ranks; best = best; is = refl } in
    let agree : Agree t (reverse xs) m = λ j i c d ranks others bj bi.
    let hx = end j c ranks bj in
    let hy = end i d others bi in
    same-ranks n p xs (reverse (j ∷ ranks)) (reverse (i ∷ others)) m s.tells (end-in t xs (reverse (j ∷ ranks)) hx) (end-in t xs (reverse (i ∷ others)) hy)
    (same (reverse (j ∷ ranks)) hx ∙ sym (same (reverse (i ∷ others)) hy)) in
    ⊎_elim (λ more. absurd (s.is-front.longest m more within agree)) (λ few. omega (arith, few)) (cases_lt k m)

law-from : (n : Net) (p : Params) (layers : List Layer) (first k : ℕ) (closed : List Label) (b : List ℕ) (committed : List Label) → Stands n p layers first k closed b committed
    → IsLongestCommonPrefix (lists_from n p layers first) committed
law-from n p layers first k closed b committed s =
    let t = trellis n p in
    let xs = drop first layers in
    let list : List ℕ → List Label = λ x. labels_of n layers (take first (solution t layers).ranks ++ some_of x) in
    let ends = ends_of t (reverse xs) in
    let w = s.is-front.within in
    let size : length committed ≡ first + k = ap length s.is ∙ length-append closed (take k (tail_of n xs b))
    ∙ omega (arith, s.count, length-take-le k (tail_of n xs b) (omega (arith, w, length-reverse xs, tail-count n p xs b s.end))) in
    record {
      common = All-map (λ labels. LabelsBeginWith labels committed) list ends (all-among (λ x. LabelsBeginWith (list x) committed) ends (λ x among. begins-with_committed n p layers first k closed b committed s x (ends-told t (reverse xs) x among)));
      longest = λ other all.
          let each : (x : List ℕ) → IsEnd t (reverse xs) x → LabelsBeginWith (list x) other = λ x h.
          among-all (λ y. LabelsBeginWith (list y) other) ends x (among-mapped list (λ labels. LabelsBeginWith labels other) ends all)
          (subst (λ y. Among y ends) (sym h.is) (ends-have t (reverse xs) h.rank h.price h.ranks h.best)) in
          ⊎_elim (λ few. omega (arith, few, size)) (λ many. let most = longer n p layers first k closed b committed s other each many in omega (arith, most, size)) (cases_lt (length other) first);
    }

stands : (n : Net) (p : Params) (layers : List Layer) (s : Splits (trellis n p) 0 layers) → AreTelling n p layers → 0 < length (drop s.closed layers)
    → Stands n p layers s.closed (front (trellis n p) (drop s.closed layers)) (labels_of n (take s.closed layers) s.ranks) (reverse (best_of (trellis n p) (drop s.closed layers)).ranks)
    (take (committed_of (trellis n p) layers) (labels_of n layers (solution (trellis n p) layers).ranks))
stands n p layers s tells some =
    let t = trellis n p in
    let xs = drop s.closed layers in
    let k = front t xs in
    let best = best_of t xs in
    let b = reverse best.ranks in
    let closed = labels_of n (take s.closed layers) s.ranks in
    let f : ℕ → Option ℕ = λ r. Some r in
    let rest = (from_point t (s.closed + length xs) (drop (length xs) xs)).ranks in
    let piece : IsPiece t xs (length xs) = s.last some in
    let full : take (length xs) xs ≡ xs = take_all (length xs) xs (omega arith) in
    let is_best : IsBest t (reverse xs) best.cost best.ranks =
    subst (λ ys. IsBest t (reverse ys) (best_of t ys).cost (best_of t ys).ranks) full (best_of-is t (take (length xs) xs) piece.can.sequence) in
    let end = best-end t (reverse xs) best.cost best.ranks is_best (omega (arith, some, length-reverse xs)) in
    let ranks : (solution t layers).ranks ≡ s.ranks ++ (some_of b ++ rest) =
    ap (λ v. v.ranks) (solution-now t layers s)
    ∙ ap (λ v. s.ranks ++ v.ranks) (from_joins t s.closed xs (length xs) some piece)
    ∙ ap (λ ys. s.ranks ++ (some_of (reverse (best_of t ys).ranks) ++ rest)) full in
    let w = s.within in
    let size : length (take s.closed layers) ≡ s.closed = length-take-le s.closed layers w in
    let count : length s.ranks ≡ length (take s.closed layers) = s.count ∙ sym size in
    let front_of : take s.closed (solution t layers).ranks ≡ s.ranks = ap (take s.closed) ranks ∙ take_at s.ranks (some_of b ++ rest) s.closed s.count in
    let parts : (tail : List (Option ℕ)) → labels_of n layers (s.ranks ++ tail) ≡ closed ++ labels_of n xs tail = λ tail.
    ap (λ ls. labels_of n ls (s.ranks ++ tail)) (sym (take-append-drop s.closed layers)) ∙ labels-parts n (take s.closed layers) xs s.ranks tail count in
    let committed_is = front_is t xs s.last in
    let low = committed_is.within in
    let all : labels_of n layers (solution t layers).ranks ≡ closed ++ tail_of n xs b =
    ap (labels_of n layers) ranks ∙ parts (some_of b ++ rest)
    ∙ ap (λ ls. closed ++ ls)
    (ap (λ ls. labels_of n ls (some_of b ++ rest)) (sym (append-nil xs))
    ∙ labels-parts n xs [] (some_of b) rest (length-map b f ∙ end-length t (reverse xs) b end ∙ length-reverse xs)
    ∙ append-nil (tail_of n xs b)) in
    record {
      count = labels-count n (take s.closed layers) s.ranks count ∙ size;
      list = λ x h. ap (λ rs. labels_of n layers (rs ++ some_of x)) front_of ∙ parts (some_of x);
      end = end;
      is = ap (take (committed_of t layers)) all
          ∙ ap (λ m. take m (closed ++ tail_of n xs b)) (committed_split t layers s)
          ∙ take-behind closed (tail_of n xs b) s.closed k (labels-count n (take s.closed layers) s.ranks count ∙ size) (omega (arith, low, length-reverse xs, tail-count n p xs b end));
      is-front = committed_is;
      tells = telling-drop n p s.closed layers tells;
    }

-- the latest fix has a candidate

shared-labels : (n : Net) (p : Params) (trace : Trace) → IsLawful n → IsLawfulTrace trace → LatestIsNear (layers_of n p trace)
    → IsLongestCommonPrefix (label_lists n p (layers_of n p trace)) (committed_labels n p trace)
unfolding match_of
shared-labels n p trace lawful trace_lawful near =
    let t = trellis n p in
    let layers = layers_of n p trace in
    let s = whole t layers in
    let first = opens_first t layers s in
    let low = latest-open n p layers near in
    let some : 0 < length (drop s.closed layers) = omega (arith, low, first, length-drop s.closed layers) in
    let tells = telling-fixes n p trace.fixes lawful trace_lawful.in_range in
    let law = law-from n p layers s.closed _ _ _ _ (stands n p layers s tells some) in
    subst (λ at. IsLongestCommonPrefix (lists_from n p layers at) (committed_labels n p trace)) (sym first) law

-- it has none

whole-labels : (n : Net) (p : Params) (trace : Trace) → ¬ LatestIsNear (layers_of n p trace) → committed_labels n p trace ≡ (match_of n p trace).labels
unfolding match_of
whole-labels n p trace far =
    let t = trellis n p in
    let layers = layers_of n p trace in
    let ranks = (solution t layers).ranks in
    let count = labels-count n layers ranks (solution_is_a_match t layers).ranks_count in
    let value = far-committed n p layers far in
    take_all (committed_of t layers) (labels_of n layers ranks) (omega (arith, count, value))

pub committed_is_common_prefix : CommittedIsCommonPrefix
committed_is_common_prefix n p trace lawful trace_lawful = record {
  shared = shared-labels n p trace lawful trace_lawful;
  whole = whole-labels n p trace;
}
