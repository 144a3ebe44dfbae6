-- The parts of a group.
use Rattle.std.proofs.Common.{◌+◌, ◌<◌, List, [], ◌∷◌, ◌++◌, length, All, sym, subst, arith, length-append}
use Rattle.std.specs.List.Sorted.{IsPermutation}
use Rattle.std.proofs.lemmas.List.{append_assoc, get_or-append-add, get_or_append_left}
use Rattle.std.proofs.lemmas.List.Sorted.{All-permutation, length_permutation, IsPermutation-append_comm, IsPermutation-append_left, IsPermutation-append_right, IsPermutation-trans}

pub All-left : {X : Type 0} (P : X → Type 0) (front back : List X) → All P (front ++ back) → All P front
All-left P front back h i d lt = subst P (get_or_append_left front back d i lt) (h i d (omega (arith, lt, length-append front back)))

pub All-right : {X : Type 0} (P : X → Type 0) (front back : List X) → All P (front ++ back) → All P back
All-right P front back h i d lt = subst P (get_or-append-add front back i d) (h (length front + i) d (omega (arith, lt, length-append front back)))

-- what holds of a group holds of its parts
pub All-parts : {X : Type 0} (P : X → Type 0) (group below above : List X) → IsPermutation group (below ++ above) → All P group → All P below × All P above
All-parts P group below above all h =
    let both = All-permutation P group (below ++ above) all h in
    (All-left P below above both, All-right P below above both)

-- a part is shorter where the other has points
pub shorter : {X : Type 0} (group below above : List X) → IsPermutation group (below ++ above) → 0 < length below → 0 < length above
    → (length below < length group) × (length above < length group)
shorter group below above all some more =
    let n = length_permutation group (below ++ above) all in
    let m = length-append below above in
    (omega (arith, n, m, some, more), omega (arith, n, m, some, more))

-- one more in the first part
pub one_more_below : {X : Type 0} (below above : List X) (x : X) → IsPermutation ((below ++ above) ++ x ∷ []) ((below ++ x ∷ []) ++ above)
one_more_below below above x =
    subst (λ l. IsPermutation l ((below ++ x ∷ []) ++ above)) (sym (append_assoc below above (x ∷ [])))
    (subst (IsPermutation (below ++ (above ++ x ∷ []))) (sym (append_assoc below (x ∷ []) above))
    (IsPermutation-append_right below (above ++ x ∷ []) (x ∷ [] ++ above) (IsPermutation-append_comm above (x ∷ []))))

-- one more of a list is in one of the parts
pub one_more : {X : Type 0} (group parts new : List X) (x : X) → IsPermutation group parts → IsPermutation (parts ++ x ∷ []) new → IsPermutation (group ++ x ∷ []) new
one_more group parts new x h k = IsPermutation-trans (group ++ x ∷ []) (parts ++ x ∷ []) new (IsPermutation-append_left (x ∷ []) group parts h) k
