-- Items of points, one by one.
use Rattle.std.proofs.Common.{◌≡◌, ℕ, zero, suc, ◌+◌, ◌<◌, ◌≤◌, List, [], ◌∷◌, ◌++◌, refl, sym, ap, ◌∙◌, arith, map}
use Rattle.std.specs.List.{range_with_len}
use Rattle.std.proofs.lemmas.List.{append_assoc}
use Rattle.online_commit.specs.declared.items.Item.{Item}
use Rattle.online_commit.specs.Items.{points_from}

abbrev pub no_items : ℕ → List Item
no_items k = []

pub points-split : (label : ℕ → Item) (closed : ℕ → List Item) (i a b : ℕ) → points_from label closed i (a + b) ≡ points_from label closed i a ++ points_from label closed (i + a) b
points-split label closed i zero b =
    let e : 0 + b ≡ b = omega arith in
    let f : i ≡ i + 0 = omega arith in
    ap (points_from label closed i) e ∙ ap (λ k. points_from label closed k b) f
points-split label closed i (suc a) b =
    let e : suc a + b ≡ suc (a + b) = omega arith in
    let f : i + 1 + a ≡ i + suc a = omega arith in
    ap (points_from label closed i) e
    ∙ ap (λ xs. (label i ∷ closed i) ++ xs) (points-split label closed (i + 1) a b ∙ ap (λ k. points_from label closed (i + 1) a ++ points_from label closed k b) f)
    ∙ sym (append_assoc (label i ∷ closed i) (points_from label closed (i + 1) a) (points_from label closed (i + suc a) b))

-- the same labels and the same closed pieces give the same items
pub points-same : (label label' : ℕ → Item) (closed closed' : ℕ → List Item) (i n : ℕ)
    → ((k : ℕ) → i ≤ k → k < i + n → label k ≡ label' k) → ((k : ℕ) → i ≤ k → k < i + n → closed k ≡ closed' k)
    → points_from label closed i n ≡ points_from label' closed' i n
points-same label label' closed closed' i zero hl hc = refl
points-same label label' closed closed' i (suc n) hl hc =
    ap (λ x. (x ∷ closed i) ++ points_from label closed (i + 1) n) (hl i (omega arith) (omega arith))
    ∙ ap (λ xs. (label' i ∷ xs) ++ points_from label closed (i + 1) n) (hc i (omega arith) (omega arith))
    ∙ ap (λ xs. (label' i ∷ closed' i) ++ xs)
    (points-same label label' closed closed' (i + 1) n (λ k ge lt. hl k (omega (arith, ge)) (omega (arith, lt))) (λ k ge lt. hc k (omega (arith, ge)) (omega (arith, lt))))

-- where nothing is closed, the items are the labels
pub points-bare : (label : ℕ → Item) (closed : ℕ → List Item) (i n : ℕ) → ((k : ℕ) → i ≤ k → k < i + n → closed k ≡ [])
    → points_from label closed i n ≡ map label (range_with_len i n)
points-bare label closed i zero h = refl
points-bare label closed i (suc n) h =
    ap (λ xs. (label i ∷ xs) ++ points_from label closed (i + 1) n) (h i (omega arith) (omega arith))
    ∙ ap (λ xs. label i ∷ xs) (points-bare label closed (i + 1) n (λ k ge lt. h k (omega (arith, ge)) (omega (arith, lt))))

pub labels-split : (label : ℕ → Item) (i a b : ℕ) → map label (range_with_len i (a + b)) ≡ map label (range_with_len i a) ++ map label (range_with_len (i + a) b)
labels-split label i a b =
    sym (points-bare label no_items i (a + b) (λ k ge lt. refl)) ∙ points-split label no_items i a b
    ∙ ap (λ xs. xs ++ points_from label no_items (i + a) b) (points-bare label no_items i a (λ k ge lt. refl))
    ∙ ap (λ xs. map label (range_with_len i a) ++ xs) (points-bare label no_items (i + a) b (λ k ge lt. refl))

-- the same labels at other places
pub labels-shift : (label label' : ℕ → Item) (i j n : ℕ) → ((k : ℕ) → k < n → label (i + k) ≡ label' (j + k)) → map label (range_with_len i n) ≡ map label' (range_with_len j n)
labels-shift label label' i j zero h = refl
labels-shift label label' i j (suc n) h =
    let a : i ≡ i + 0 = omega arith in
    let b : j ≡ j + 0 = omega arith in
    let first : label i ≡ label' j = ap label a ∙ h 0 (omega arith) ∙ ap label' (sym b) in
    ap (λ x. x ∷ map label (range_with_len (i + 1) n)) first
    ∙ ap (λ xs. label' j ∷ xs)
    (labels-shift label label' (i + 1) (j + 1) n
    (λ k lt. let c : i + 1 + k ≡ i + (k + 1) = omega arith in let d : j + 1 + k ≡ j + (k + 1) = omega arith in
    ap label c ∙ h (k + 1) (omega (arith, lt)) ∙ ap label' (sym d)))

pub labels-same : (label label' : ℕ → Item) (i n : ℕ) → ((k : ℕ) → i ≤ k → k < i + n → label k ≡ label' k) → map label (range_with_len i n) ≡ map label' (range_with_len i n)
labels-same label label' i n h = labels-shift label label' i i n (λ k lt. h (i + k) (omega arith) (omega (arith, lt)))

-- a run of points that ends with a closed piece
pub points-closed : (label : ℕ → Item) (closed : ℕ → List Item) (i n : ℕ) (x : Item) → 0 < n → ((k : ℕ) → i ≤ k → k + 1 < i + n → closed k ≡ [])
    → ((k : ℕ) → k + 1 ≡ i + n → closed k ≡ x ∷ [])
    → points_from label closed i n ≡ map label (range_with_len i n) ++ x ∷ []
points-closed label closed i zero x some none last = absurd (omega (arith, some))
points-closed label closed i (suc m) x some none last =
    let e : suc m ≡ m + 1 = omega arith in
    ap (points_from label closed i) e ∙ points-split label closed i m 1
    ∙ ap (λ xs. xs ++ points_from label closed (i + m) 1) (points-bare label closed i m (λ k ge lt. none k ge (omega (arith, lt))))
    ∙ ap (λ xs. map label (range_with_len i m) ++ ((label (i + m) ∷ xs) ++ [])) (last (i + m) (omega arith))
    ∙ sym (append_assoc (map label (range_with_len i m)) (label (i + m) ∷ []) (x ∷ []))
    ∙ ap (λ xs. xs ++ x ∷ []) (sym (labels-split label i m 1))
    ∙ ap (λ k. map label (range_with_len i k) ++ x ∷ []) (sym e)
