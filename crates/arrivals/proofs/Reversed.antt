-- Values by id, the other way round.
use Rattle.std.proofs.Common.{◌≡◌, ℕ, ◌-◌, ◌<◌, Bool, true, false, cond, if◌then◌else◌, List, [], ◌∷◌, ◌++◌, Option, Some, None, reverse, refl, sym, ap, subst, ◌∙◌, arith, nat_eq, length, take, Result, Ok, Err, OnOk, OnErr}
use Rattle.std.specs.List.{AllByRecursion, IsDistinct}
use Rattle.std.specs.Map.{keys_of, lookup, lookup_entry, remove_entry, set_value}
use Rattle.std.specs.Map.Iter.{TakesFirst}
use Rattle.std.specs.Option.{option_map_or}
use Rattle.std.proofs.lemmas.Bool.Decides.{nat_tests}
use Rattle.std.proofs.lemmas.List.{reverse-append, reverse-reverse, take_all}
use Rattle.std.proofs.lemmas.List.Sorted.{IsPermutation-map, IsPermutation-reverse}
use Rattle.std.proofs.lemmas.Map.Keys.{IsDistinct-IsPermutation, IsDistinct-cons, IsDistinct-head, IsDistinct-tail}
use Rattle.indexmap.specs.IndexMap.{insert_entry}
use Rattle.lru.specs.LruCache.{LruCache, lru_cache, put_entries}
use Rattle.arrivals.specs.inside.Arrived.{IsKept, arrived, newest_first}

eq-flips : (x y : ℕ) → nat_eq x y ≡ nat_eq y x
eq-flips x y = grind (arith, nat_tests)

pub none-kept : (X : Type 0) → IsKept {X = X} None
unfolding IsDistinct
none-kept X = tt

module _ {X : Type 0} where
  -- no entry has the key
  none-among : (k : ℕ) (es : List (ℕ × X)) → AllByRecursion (λ y. nat_eq k y ≡ false) (keys_of es) → lookup (nat_eq k) es ≡ None
  none-among k [] h = refl
  none-among k (e ∷ es) h = ap (λ b. cond b (Some e.1) (lookup (nat_eq k) es)) h.0 ∙ none-among k es h.1

  -- the key of the first entry is not among the others
  head-alone : (id : ℕ) (e : ℕ × X) (es : List (ℕ × X)) → IsDistinct nat_eq (keys_of (e ∷ es)) → nat_eq id e.0 ≡ true → lookup (nat_eq id) es ≡ None
  head-alone id e es different is =
      let same : id ≡ e.0 = grind (arith, nat_tests) in
      ap (λ k. lookup (nat_eq k) es) same ∙ none-among e.0 es (IsDistinct-head nat_eq e.0 (keys_of es) different)

  module _ (t : ℕ → Bool) where
    -- ---- an entry at the end
    lookup-last : (xs : List (ℕ × X)) (e : ℕ × X) → t e.0 ≡ true → lookup t xs ≡ None → lookup t (xs ++ e ∷ []) ≡ Some e.1
    lookup-last [] e is none = ap (λ b. cond b (Some e.1) None) is
    lookup-last (x ∷ xs) e is none = step (t x.0) none (lookup-last xs e is)
      where
        step : (b : Bool) → cond b (Some x.1) (lookup t xs) ≡ None → (lookup t xs ≡ None → lookup t (xs ++ e ∷ []) ≡ Some e.1)
            → cond b (Some x.1) (lookup t (xs ++ e ∷ [])) ≡ Some e.1
        step true none rest = absurd cc
        step false none rest = rest none

    lookup-past : (xs : List (ℕ × X)) (e : ℕ × X) → t e.0 ≡ false → lookup t (xs ++ e ∷ []) ≡ lookup t xs
    lookup-past [] e is = ap (λ b. cond b (Some e.1) None) is
    lookup-past (x ∷ xs) e is = ap (λ o. cond (t x.0) (Some x.1) o) (lookup-past xs e is)

    remove-last : (xs : List (ℕ × X)) (e : ℕ × X) → t e.0 ≡ true → lookup t xs ≡ None → remove_entry t (xs ++ e ∷ []) ≡ xs
    remove-last [] e is none = ap (λ b. cond b [] (e ∷ [])) is
    remove-last (x ∷ xs) e is none = step (t x.0) none (remove-last xs e is)
      where
        step : (b : Bool) → cond b (Some x.1) (lookup t xs) ≡ None → (lookup t xs ≡ None → remove_entry t (xs ++ e ∷ []) ≡ xs)
            → cond b (xs ++ e ∷ []) (x ∷ remove_entry t (xs ++ e ∷ [])) ≡ x ∷ xs
        step true none rest = absurd cc
        step false none rest = ap (λ l. x ∷ l) (rest none)

    remove-past : (xs : List (ℕ × X)) (e : ℕ × X) → t e.0 ≡ false → remove_entry t (xs ++ e ∷ []) ≡ remove_entry t xs ++ e ∷ []
    remove-past [] e is = ap (λ b. cond b [] (e ∷ [])) is
    remove-past (x ∷ xs) e is = step (t x.0) (remove-past xs e is)
      where
        step : (b : Bool) → remove_entry t (xs ++ e ∷ []) ≡ remove_entry t xs ++ e ∷ []
            → cond b (xs ++ e ∷ []) (x ∷ remove_entry t (xs ++ e ∷ [])) ≡ cond b xs (x ∷ remove_entry t xs) ++ e ∷ []
        step true rest = refl
        step false rest = ap (λ l. x ∷ l) rest

    set-last : (xs : List (ℕ × X)) (e : ℕ × X) (w : X) → t e.0 ≡ true → lookup t xs ≡ None → set_value t (xs ++ e ∷ []) w ≡ xs ++ (e.0, w) ∷ []
    set-last [] e w is none = ap (λ b. cond b ((e.0, w) ∷ []) (e ∷ [])) is
    set-last (x ∷ xs) e w is none = step (t x.0) none (set-last xs e w is)
      where
        step : (b : Bool) → cond b (Some x.1) (lookup t xs) ≡ None → (lookup t xs ≡ None → set_value t (xs ++ e ∷ []) w ≡ xs ++ (e.0, w) ∷ [])
            → cond b ((x.0, w) ∷ (xs ++ e ∷ [])) (x ∷ set_value t (xs ++ e ∷ []) w) ≡ x ∷ (xs ++ (e.0, w) ∷ [])
        step true none rest = absurd cc
        step false none rest = ap (λ l. x ∷ l) (rest none)

    set-past : (xs : List (ℕ × X)) (e : ℕ × X) (w : X) → t e.0 ≡ false → set_value t (xs ++ e ∷ []) w ≡ set_value t xs w ++ e ∷ []
    set-past [] e w is = ap (λ b. cond b ((e.0, w) ∷ []) (e ∷ [])) is
    set-past (x ∷ xs) e w is = step (t x.0) (set-past xs e w is)
      where
        step : (b : Bool) → set_value t (xs ++ e ∷ []) w ≡ set_value t xs w ++ e ∷ []
            → cond b ((x.0, w) ∷ (xs ++ e ∷ [])) (x ∷ set_value t (xs ++ e ∷ []) w) ≡ cond b ((x.0, w) ∷ xs) (x ∷ set_value t xs w) ++ e ∷ []
        step true rest = refl
        step false rest = ap (λ l. x ∷ l) rest

  pub reverse-cons : (e : ℕ × X) (es : List (ℕ × X)) → reverse (e ∷ es) ≡ reverse es ++ e ∷ []
  reverse-cons e es = reverse-append (e ∷ []) es

  -- ---- entries with different keys, and the same the other way round
  pub lookup-reverse : (id : ℕ) (es : List (ℕ × X)) → IsDistinct nat_eq (keys_of es) → lookup (nat_eq id) (reverse es) ≡ lookup (nat_eq id) es
  lookup-reverse id [] different = refl
  lookup-reverse id (e ∷ es) different =
      ap (lookup (nat_eq id)) (reverse-cons e es) ∙ step (nat_eq id e.0) refl (lookup-reverse id es (IsDistinct-tail nat_eq e.0 (keys_of es) different))
    where
      step : (b : Bool) → nat_eq id e.0 ≡ b → lookup (nat_eq id) (reverse es) ≡ lookup (nat_eq id) es
          → lookup (nat_eq id) (reverse es ++ e ∷ []) ≡ cond b (Some e.1) (lookup (nat_eq id) es)
      step true is rest = lookup-last (nat_eq id) (reverse es) e is (rest ∙ head-alone id e es different is)
      step false is rest = lookup-past (nat_eq id) (reverse es) e is ∙ rest

  pub remove-reverse : (id : ℕ) (es : List (ℕ × X)) → IsDistinct nat_eq (keys_of es) → reverse (remove_entry (nat_eq id) es) ≡ remove_entry (nat_eq id) (reverse es)
  remove-reverse id [] different = refl
  remove-reverse id (e ∷ es) different =
      step (nat_eq id e.0) refl (remove-reverse id es tail) ∙ ap (remove_entry (nat_eq id)) (sym (reverse-cons e es))
    where
      tail : IsDistinct nat_eq (keys_of es)
      tail = IsDistinct-tail nat_eq e.0 (keys_of es) different

      step : (b : Bool) → nat_eq id e.0 ≡ b → reverse (remove_entry (nat_eq id) es) ≡ remove_entry (nat_eq id) (reverse es)
          → reverse (cond b es (e ∷ remove_entry (nat_eq id) es)) ≡ remove_entry (nat_eq id) (reverse es ++ e ∷ [])
      step true is rest = sym (remove-last (nat_eq id) (reverse es) e is (lookup-reverse id es tail ∙ head-alone id e es different is))
      step false is rest =
          reverse-cons e (remove_entry (nat_eq id) es) ∙ ap (λ l. l ++ e ∷ []) rest ∙ sym (remove-past (nat_eq id) (reverse es) e is)

  pub set-reverse : (id : ℕ) (es : List (ℕ × X)) (w : X) → IsDistinct nat_eq (keys_of es) → reverse (set_value (nat_eq id) es w) ≡ set_value (nat_eq id) (reverse es) w
  set-reverse id [] w different = refl
  set-reverse id (e ∷ es) w different =
      step (nat_eq id e.0) refl (set-reverse id es w tail) ∙ ap (λ l. set_value (nat_eq id) l w) (sym (reverse-cons e es))
    where
      tail : IsDistinct nat_eq (keys_of es)
      tail = IsDistinct-tail nat_eq e.0 (keys_of es) different

      step : (b : Bool) → nat_eq id e.0 ≡ b → reverse (set_value (nat_eq id) es w) ≡ set_value (nat_eq id) (reverse es) w
          → reverse (cond b ((e.0, w) ∷ es) (e ∷ set_value (nat_eq id) es w)) ≡ set_value (nat_eq id) (reverse es ++ e ∷ []) w
      step true is rest =
          reverse-cons (e.0, w) es ∙ sym (set-last (nat_eq id) (reverse es) e w is (lookup-reverse id es tail ∙ head-alone id e es different is))
      step false is rest =
          reverse-cons e (set_value (nat_eq id) es w) ∙ ap (λ l. l ++ e ∷ []) rest ∙ sym (set-past (nat_eq id) (reverse es) e w is)

  -- ---- keys differ
  pub distinct-reverse : (es : List (ℕ × X)) → IsDistinct nat_eq (keys_of es) → IsDistinct nat_eq (keys_of (reverse es))
  distinct-reverse es different =
      IsDistinct-IsPermutation nat_eq eq-flips (keys_of es) (keys_of (reverse es)) (IsPermutation-map (λ e. e.0) es (reverse es) (IsPermutation-reverse es)) different

  all-kept : (P : ℕ → Type 0) (t : ℕ → Bool) (es : List (ℕ × X)) → AllByRecursion P (keys_of es) → AllByRecursion P (keys_of (remove_entry t es))
  all-kept P t [] h = h
  all-kept P t (e ∷ es) h = step (t e.0) (all-kept P t es h.1)
    where
      step : (b : Bool) → AllByRecursion P (keys_of (remove_entry t es)) → AllByRecursion P (keys_of (cond b es (e ∷ remove_entry t es)))
      step true rest = h.1
      step false rest = (h.0, rest)

  pub distinct-remove : (t : ℕ → Bool) (es : List (ℕ × X)) → IsDistinct nat_eq (keys_of es) → IsDistinct nat_eq (keys_of (remove_entry t es))
  distinct-remove t [] different = different
  distinct-remove t (e ∷ es) different = step (t e.0) (distinct-remove t es (IsDistinct-tail nat_eq e.0 (keys_of es) different))
    where
      step : (b : Bool) → IsDistinct nat_eq (keys_of (remove_entry t es)) → IsDistinct nat_eq (keys_of (cond b es (e ∷ remove_entry t es)))
      step true rest = IsDistinct-tail nat_eq e.0 (keys_of es) different
      step false rest =
          IsDistinct-cons nat_eq e.0 (keys_of (remove_entry t es)) (all-kept (λ y. nat_eq e.0 y ≡ false) t es (IsDistinct-head nat_eq e.0 (keys_of es) different)) rest

  all-absent : (id : ℕ) (es : List (ℕ × X)) → lookup (nat_eq id) es ≡ None → AllByRecursion (λ y. nat_eq id y ≡ false) (keys_of es)
  all-absent id [] none = tt
  all-absent id (e ∷ es) none = step (nat_eq id e.0) refl none (all-absent id es)
    where
      step : (b : Bool) → nat_eq id e.0 ≡ b → cond b (Some e.1) (lookup (nat_eq id) es) ≡ None
          → (lookup (nat_eq id) es ≡ None → AllByRecursion (λ y. nat_eq id y ≡ false) (keys_of es))
          → (nat_eq id e.0 ≡ false) × AllByRecursion (λ y. nat_eq id y ≡ false) (keys_of es)
      step true is none rest = absurd cc
      step false is none rest = (is, rest none)

  pub distinct-new : (id : ℕ) (v : X) (es : List (ℕ × X)) → lookup (nat_eq id) es ≡ None → IsDistinct nat_eq (keys_of es) → IsDistinct nat_eq (keys_of ((id, v) ∷ es))
  distinct-new id v es none different = IsDistinct-cons nat_eq id (keys_of es) (all-absent id es none) different

  -- ---- a new key, and a value that is written
  pub no-entry : (t : ℕ → Bool) (es : List (ℕ × X)) → lookup t es ≡ None → lookup_entry t es ≡ None
  no-entry t [] none = refl
  no-entry t (e ∷ es) none = step (t e.0) none (no-entry t es)
    where
      step : (b : Bool) → cond b (Some e.1) (lookup t es) ≡ None → (lookup t es ≡ None → lookup_entry t es ≡ None) → cond b (Some e) (lookup_entry t es) ≡ None
      step true none rest = absurd cc
      step false none rest = rest none

  pub insert-new : (id : ℕ) (v : X) (es : List (ℕ × X)) → lookup (nat_eq id) es ≡ None → insert_entry nat_eq es id v ≡ es ++ (id, v) ∷ []
  insert-new id v [] none = refl
  insert-new id v (e ∷ es) none = step (nat_eq id e.0) none (insert-new id v es)
    where
      step : (b : Bool) → cond b (Some e.1) (lookup (nat_eq id) es) ≡ None → (lookup (nat_eq id) es ≡ None → insert_entry nat_eq es id v ≡ es ++ (id, v) ∷ [])
          → (if b then (e.0, v) ∷ es else e ∷ insert_entry nat_eq es id v) ≡ e ∷ (es ++ (id, v) ∷ [])
      step true none rest = absurd cc
      step false none rest = ap (λ l. e ∷ l) (rest none)

  pub insert-held : (id : ℕ) (v was : X) (es : List (ℕ × X)) → lookup (nat_eq id) es ≡ Some was → set_value (nat_eq id) es v ≡ insert_entry nat_eq es id v
  insert-held id v was [] found = absurd cc
  insert-held id v was (e ∷ es) found = step (nat_eq id e.0) found (insert-held id v was es)
    where
      step : (b : Bool) → cond b (Some e.1) (lookup (nat_eq id) es) ≡ Some was → (lookup (nat_eq id) es ≡ Some was → set_value (nat_eq id) es v ≡ insert_entry nat_eq es id v)
          → cond b ((e.0, v) ∷ es) (e ∷ set_value (nat_eq id) es v) ≡ (if b then (e.0, v) ∷ es else e ∷ insert_entry nat_eq es id v)
      step true found rest = refl
      step false found rest = ap (λ l. e ∷ l) (rest found)

  pub put-new : (id : ℕ) (v : X) (m : LruCache ℕ X) → lookup (nat_eq id) m.entries ≡ None → length m.entries < m.cap → put_entries nat_eq m id v ≡ (id, v) ∷ m.entries
  put-new id v m none room =
      ap (λ o. option_map_or (λ e. (e.0, v) ∷ remove_entry (nat_eq id) m.entries) o ((id, v) ∷ take (m.cap - 1) m.entries)) (no-entry (nat_eq id) m.entries none)
      ∙ ap (λ l. (id, v) ∷ l) (take_all (m.cap - 1) m.entries (omega (arith, room)))

  pub put-kept : {A E : Type 0} (id : ℕ) (v : X) (old new : List (ℕ × X)) (r : Result A E) → IsDistinct nat_eq (keys_of old) → lookup (nat_eq id) old ≡ None
      → OnOk r (new ≡ (id, v) ∷ old) → OnErr r (new ≡ old) → IsDistinct nat_eq (keys_of new)
  put-kept id v old new (Ok x) different none ok err = subst (λ l. IsDistinct nat_eq (keys_of l)) (sym ok) (distinct-new id v old none different)
  put-kept id v old new (Err x) different none ok err = subst (λ l. IsDistinct nat_eq (keys_of l)) (sym err) different

  pub put-last : {A E : Type 0} (id : ℕ) (v : X) (old new : List (ℕ × X)) (now : List (ℕ × X)) (r : Result A E) → reverse old ≡ now → OnOk r (new ≡ (id, v) ∷ old)
      → OnOk r (reverse new ≡ now ++ (id, v) ∷ [])
  put-last id v old new now (Ok x) shows ok = ap reverse ok ∙ reverse-cons (id, v) old ∙ ap (λ l. l ++ (id, v) ∷ []) shows
  put-last id v old new now (Err x) shows ok = tt

  pub put-none : {A E : Type 0} (old new : List (ℕ × X)) (now : List (ℕ × X)) (r : Result A E) → reverse old ≡ now → OnErr r (new ≡ old) → OnErr r (reverse new ≡ now)
  put-none old new now (Ok x) shows err = tt
  put-none old new now (Err x) shows err = ap reverse err ∙ shows

  -- ---- the first of all is taken
  distinct-rest : (xs : List (ℕ × X)) (r : Option (ℕ × X)) (ys : List (ℕ × X)) → TakesFirst (λ e. e) xs r ys → IsDistinct nat_eq (keys_of xs) → IsDistinct nat_eq (keys_of ys)
  distinct-rest xs None ys steps different = subst (λ l. IsDistinct nat_eq (keys_of l)) (steps.0 ∙ sym steps.1) different
  distinct-rest xs (Some e) ys steps different =
      IsDistinct-tail nat_eq e.0 (keys_of ys) (subst (λ l. IsDistinct nat_eq (keys_of l)) steps different)

  pub pop-kept : (es new : List (ℕ × X)) (r : Option (ℕ × X)) → TakesFirst (λ e. e) (reverse es) r (reverse new) → IsDistinct nat_eq (keys_of es) → IsDistinct nat_eq (keys_of new)
  pop-kept es new r steps different =
      subst (λ l. IsDistinct nat_eq (keys_of l)) (reverse-reverse new)
      (distinct-reverse (reverse new) (distinct-rest (reverse es) r (reverse new) steps (distinct-reverse es different)))

  -- ---- the values that a cache has, and the same in the order in which their ids came
  module _ (o : Option (LruCache ℕ X)) (now : List (ℕ × X)) (shows : arrived o ≡ now) (kept : IsKept o) where
    pub distinct-kept : IsDistinct nat_eq (keys_of now)
    distinct-kept = subst (λ l. IsDistinct nat_eq (keys_of l)) shows (distinct-reverse (newest_first o) kept)

    module _ (cache : LruCache ℕ X) (is : o ≡ Some cache) where
      pub distinct-here : IsDistinct nat_eq (keys_of cache.entries)
      distinct-here = subst IsKept is kept

      pub shows-here : reverse cache.entries ≡ now
      shows-here = sym (ap arrived is) ∙ shows

      pub shown-here : cache.entries ≡ reverse now
      shown-here = sym (reverse-reverse cache.entries) ∙ ap reverse shows-here

      pub lookup-here : (id : ℕ) → lookup (nat_eq id) cache.entries ≡ lookup (nat_eq id) now
      lookup-here id = sym (lookup-reverse id cache.entries distinct-here) ∙ ap (lookup (nat_eq id)) shows-here

      pub remove-here : (id : ℕ) → reverse (remove_entry (nat_eq id) cache.entries) ≡ remove_entry (nat_eq id) now
      remove-here id = remove-reverse id cache.entries distinct-here ∙ ap (remove_entry (nat_eq id)) shows-here

      pub set-here : (id : ℕ) (w : X) → reverse (set_value (nat_eq id) cache.entries w) ≡ set_value (nat_eq id) now w
      set-here id w = set-reverse id cache.entries w distinct-here ∙ ap (λ l. set_value (nat_eq id) l w) shows-here
