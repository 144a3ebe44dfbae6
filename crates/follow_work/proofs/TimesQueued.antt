-- The queue of the places of open drives, as a drive begins, has a newer time, or ends.
use Rattle.std.proofs.Common.{◌≡◌, ℕ, ◌<◌, Bool, true, false, cond, List, [], ◌∷◌, Some, None, Result, Ok, Err, OnOk, OnErr, refl, sym, ap, subst, ◌∙◌, arith, nat_eq}
use Rattle.std.specs.Prelude.{IsSome, is_err, is_some}
use Rattle.std.specs.BTreeMap.{is_at}
use Rattle.std.specs.BTreeSet.{BTreeSet, contains}
use Rattle.std.specs.Cmp.{nat_eq_equiv}
use Rattle.std.specs.List.{IsDistinct, list_any}
use Rattle.std.specs.Map.{keys_of, lookup, remove_entry, set_value}
use Rattle.std.proofs.lemmas.Bool.Decides.{nat_tests}
use Rattle.std.proofs.lemmas.Map.{keys-set_value, lookup-remove_entry, lookup-set_value}
use Rattle.indexmap.specs.IndexMap.{insert_entry}
use Rattle.follow_work.specs.declared.times.Drive.{Drive}
use Rattle.follow_work.specs.declared.times.Times.TheInside.{Inside}
use Rattle.follow_work.specs.inside.Times.{AreKept, AreQueued, Moves, Place, has_place, place_cmp, put}
use Rattle.follow_work.proofs.Places.{begun-placed, ended-placed, moved-placed, taken-back}
use Rattle.follow_work.proofs.TimesKept.{lookup-insert, rises-set}

pub on-err : {A E : Type 0} {P : Type 0} (r : Result A E) → is_err r ≡ true → OnErr r P → P
on-err (Ok x) is h = absurd cc
on-err (Err e) is h = h

pub on-ok : {A E : Type 0} {P : Type 0} (r : Result A E) → is_err r ≡ false → OnOk r P → P
on-ok (Ok x) is h = h
on-ok (Err e) is h = absurd cc

one-key : (id x y : ℕ) → nat_eq id x ≡ true → nat_eq id y ≡ nat_eq x y
one-key id x y is =
    let same : id ≡ x = grind (arith, nat_tests) in
    ap (λ k. nat_eq k y) same

module _ (id : ℕ) (d : Drive) (drives after : List (ℕ × Drive)) (queue next : BTreeSet Place) (queued : AreQueued drives queue) where
  -- a drive begins
  pub queued-begun : lookup (nat_eq id) drives ≡ None → after ≡ insert_entry nat_eq drives id d
      → ((q : Place) → contains place_cmp next q ≡ put (contains place_cmp queue) (d.newest, d.number, id) true q) → AreQueued after next
  queued-begun none is puts q =
      puts q ∙ ap (λ h. cond (is_at (place_cmp (d.newest, d.number, id)) q) true h) (queued q)
      ∙ begun-placed (λ j. lookup (nat_eq j) drives) (λ j. lookup (nat_eq j) after) id d (λ j. ap (lookup (nat_eq j)) is ∙ lookup-insert id j d drives none) none q

  -- a drive ends
  pub queued-ended : IsDistinct nat_eq (keys_of drives) → lookup (nat_eq id) drives ≡ Some d → after ≡ remove_entry (nat_eq id) drives
      → ((q : Place) → contains place_cmp next q ≡ put (contains place_cmp queue) (d.newest, d.number, id) false q) → AreQueued after next
  queued-ended different some is puts q =
      puts q ∙ ap (λ h. cond (is_at (place_cmp (d.newest, d.number, id)) q) false h) (queued q)
      ∙ ended-placed (λ j. lookup (nat_eq j) drives) (λ j. lookup (nat_eq j) after) id d
      (λ j. ap (lookup (nat_eq j)) is ∙ lookup-remove_entry nat_eq_equiv (nat_eq id) (one-key id) j drives different) some q

  -- a drive has a newer time
  pub queued-moved : (e : Drive) → d.newest < e.newest → lookup (nat_eq id) drives ≡ Some d → after ≡ set_value (nat_eq id) drives e
      → Moves queue next (d.newest, d.number, id) (e.newest, e.number, id) → AreQueued after next
  queued-moved e newer some is moves q =
      moves q
      ∙ ap (λ h. cond (is_at (place_cmp (d.newest, d.number, id)) q) false (cond (is_at (place_cmp (e.newest, e.number, id)) q) true h)) (queued q)
      ∙ moved-placed (λ j. lookup (nat_eq j) drives) (λ j. lookup (nat_eq j) after) id d e newer
      (λ j. ap (lookup (nat_eq j)) is ∙ lookup-set_value nat_eq_equiv (nat_eq id) (one-key id) j e drives (found some)) some q
    where
      found : lookup (nat_eq id) drives ≡ Some d → IsSome (lookup (nat_eq id) drives)
      found some = ap is_some some

  -- a drive that could not begin
  pub queued-back : (back : BTreeSet Place) → lookup (nat_eq id) drives ≡ None → after ≡ drives
      → ((q : Place) → contains place_cmp next q ≡ put (contains place_cmp queue) (d.newest, d.number, id) true q)
      → ((q : Place) → contains place_cmp back q ≡ put (contains place_cmp next) (d.newest, d.number, id) false q) → AreQueued after back
  queued-back back none is puts takes q =
      takes q ∙ ap (λ h. cond (is_at (place_cmp (d.newest, d.number, id)) q) false h) (puts q)
      ∙ ap (λ h. cond (is_at (place_cmp (d.newest, d.number, id)) q) false (cond (is_at (place_cmp (d.newest, d.number, id)) q) true h)) (queued q)
      ∙ taken-back (λ j. lookup (nat_eq j) drives) (λ j. lookup (nat_eq j) drives) id d none q ∙ ap (λ l. has_place l q) (sym is)

  -- nothing changed
  pub queued-same : next.keys ≡ queue.keys → AreQueued drives next
  queued-same same q = ap (list_any (is_at (place_cmp q))) same ∙ queued q

none_step : (t : ℕ → Bool) (e : ℕ × Drive) (es : List (ℕ × Drive)) (b : Bool) → cond b (Some e.1) (lookup t es) ≡ None → (lookup t es ≡ None → remove_entry t es ≡ es)
    → cond b es (e ∷ remove_entry t es) ≡ e ∷ es
none_step t e es true none rest = absurd cc
none_step t e es false none rest = ap (λ l. e ∷ l) (rest none)

-- an id that is not there leaves all
pub remove-none : (t : ℕ → Bool) (es : List (ℕ × Drive)) → lookup t es ≡ None → remove_entry t es ≡ es
remove-none t [] none = refl
remove-none t (e ∷ es) none = none_step t e es (t e.0) none (remove-none t es)

-- all of it, after a drive has a newer time
pub kept-moved : (a : Inside) (id : ℕ) (d e : Drive) (next : BTreeSet Place) → AreKept a → d.newest < e.newest → e.number ≡ d.number → lookup (nat_eq id) a.drives ≡ Some d
    → Moves a.queue next (d.newest, d.number, id) (e.newest, e.number, id) → AreKept (record { drives = set_value (nat_eq id) a.drives e; queue = next; begun = a.begun })
kept-moved a id d e next kept newer same some moves = record {
  different = subst (IsDistinct nat_eq) (sym (keys-set_value (nat_eq id) a.drives e)) kept.different;
  rises = rises-set (nat_eq id) 0 a.begun d e a.drives some same kept.rises;
  queued = queued-moved id d a.drives (set_value (nat_eq id) a.drives e) a.queue next kept.queued e newer some refl moves;
}
