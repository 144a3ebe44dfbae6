-- What a look at one slot leaves of a reader.
use Rattle.std.proofs.Common.{◌≡◌, inl, inr, ℕ, zero, suc, Bool, cond, true, false, List, [], ◌∷◌, ◌++◌, length, length-set, Option, Some, Result, Ok, Err, OnOk, refl, sym, ap, ◌∙◌, subst, ⊎_elim, arith}
use Rattle.std.proofs.lemmas.List.Elements.{Contains-append_cases, Contains-append_left, Contains-append_right}
use Rattle.std.specs.Prelude.{IsErr, slice_get}
use Rattle.bounded_table.specs.Known.{Adds, Extends, known_nodes}
use Rattle.bounded_table.specs.Rows.{AsksAll, AsksOnly}
use Rattle.bounded_table.specs.Table.{TableRow}
use Rattle.bounded_table.proofs.Asking.{asks_done, asks_err, asks_nothing, asks_ok}
use Rattle.row_store.specs.Store.{AsksSlot, NearSlots, Reading, Sees, SeesNear, SeesTable, Stored, Viewing, lent_places, near_of, rows_state, source_of, table_of, takes_near}
use Rattle.row_store.specs.inside.Views.{Fills}
use Rattle.row_store.proofs.Places.{on_ok, sees_adds, sees_extends}

-- what two lists held they hold one behind the other
extends_both : (a b c d : List (Option TableRow)) → length c ≡ length a → Extends a c → Extends b d → Extends (a ++ b) (c ++ d)
extends_both [] b [] d long first second k row e = second k row e
extends_both [] b (z ∷ c) d long first second k row e = absurd (omega (arith, long))
extends_both (x ∷ a) b [] d long first second k row e = absurd (omega (arith, long))
extends_both (x ∷ a) b (z ∷ c) d long first second zero row e = first zero row e
extends_both (x ∷ a) b (z ∷ c) d long first second (suc k) row e =
    extends_both a b c d (omega (arith, long)) (λ i r f. first (suc i) r f) second k row e

same_length : (before : Viewing) (n : ℕ) (row : TableRow) (after : Viewing) → Sees before n row after → length after.places ≡ length before.places
same_length before n row after s = ap (λ (l : List (Option TableRow)). length l) s.places ∙ length-set before.places n (Some row)

-- one more in the first of two lists, or in the second
adds_first : (a b c : List ℕ) (n : ℕ) → Adds a n c → Adds (a ++ b) n (c ++ b)
adds_first a b c n adds m = (
  λ has. ⊎_elim
      (λ there. ⊎_elim (λ same. inl same) (λ old. inr (Contains-append_left a b m old)) ((adds m).0 there))
      (λ there. inr (Contains-append_right a b m there))
      (Contains-append_cases c b m has),
  λ either. ⊎_elim
      (λ same. Contains-append_left c b m ((adds m).1 (inl same)))
      (λ has. ⊎_elim
      (λ old. Contains-append_left c b m ((adds m).1 (inr old)))
      (λ there. Contains-append_right c b m there)
      (Contains-append_cases a b m has))
      either,
)

adds_second : (a b c : List ℕ) (n : ℕ) → Adds b n c → Adds (a ++ b) n (a ++ c)
adds_second a b c n adds m = (
  λ has. ⊎_elim
      (λ there. inr (Contains-append_left a b m there))
      (λ there. ⊎_elim (λ same. inl same) (λ old. inr (Contains-append_right a b m old)) ((adds m).0 there))
      (Contains-append_cases a c m has),
  λ either. ⊎_elim
      (λ same. Contains-append_right a c m ((adds m).1 (inl same)))
      (λ has. ⊎_elim
      (λ there. Contains-append_left a c m there)
      (λ old. Contains-append_right a c m ((adds m).1 (inr old)))
      (Contains-append_cases a b m has))
      either,
)

-- what a reader holds and knows, where its store is the same
record IsMore (before after : Reading) (n : ℕ) : Type 0 where
  store : after.store ≡ before.store
  held : Extends (before.places ++ before.near) (after.places ++ after.near)
  adds : Adds (known_nodes before.places ++ known_nodes before.near) n (known_nodes after.places ++ known_nodes after.near)

asks_one : (before : Reading) (n : ℕ) (after : Reading) → IsMore before after n → AsksAll (rows_state before) (rows_state after) (λ v. v ≡ n)
asks_one before n after more = record {
  only = record {
    keeps = record {
      network = ap (λ (y : Stored). y.network) more.store;
      bound = ap (λ (y : Stored). y.bound) more.store;
      source = ap source_of more.store;
      held = more.held;
      known = λ v k. (more.adds v).1 (inr k);
    };
    nothing_else = λ v k. ⊎_elim (λ same. inr same) (λ old. inl old) ((more.adds v).0 k);
  };
  all = λ v asked. (more.adds v).1 (inl asked);
}

pub table_asks : (before : Reading) (n : ℕ) (row : TableRow) (after : Reading) → SeesTable before n row after → AsksAll (rows_state before) (rows_state after) (λ v. v ≡ n)
table_asks before n row after s = asks_one before n after (record {
  store = s.store;
  held = subst (λ (l : List (Option TableRow)). Extends (before.places ++ before.near) (after.places ++ l)) (sym s.near)
      (extends_both before.places before.near after.places before.near (same_length (table_of before) n row (table_of after) s.table) (sees_extends (table_of before) n row (table_of after) s.table) (λ k r e. e));
  adds = subst (λ (l : List (Option TableRow)). Adds (known_nodes before.places ++ known_nodes before.near) n (known_nodes after.places ++ known_nodes l)) (sym s.near)
      (adds_first (known_nodes before.places) (known_nodes before.near) (known_nodes after.places) n (sees_adds (table_of before) n row (table_of after) s.table));
})

pub near_asks : (slots : NearSlots) (before : Reading) (n : ℕ) (row : TableRow) (after : Reading) → SeesNear slots before n row after → AsksAll (rows_state before) (rows_state after) (λ v. v ≡ n)
near_asks slots before n row after s = asks_one before n after (record {
  store = s.store;
  held = subst (λ (l : List (Option TableRow)). Extends (before.places ++ before.near) (l ++ after.near)) (sym s.places)
      (extends_both before.places before.near before.places after.near refl (λ k r e. e) (sees_extends (near_of before slots) n row (near_of after slots) s.near));
  adds = subst (λ (l : List (Option TableRow)). Adds (known_nodes before.places ++ known_nodes before.near) n (known_nodes l ++ known_nodes after.near)) (sym s.places)
      (adds_second (known_nodes before.places) (known_nodes before.near) (known_nodes after.near) n (sees_adds (near_of before slots) n row (near_of after slots) s.near));
})

-- ---- a view of a reader, as part of it

abbrev pub with_table : Reading → Viewing → Reading
with_table r view = record r { places = view.places }

abbrev pub with_near : Reading → Viewing → Reading
with_near r view = record r { near = view.places }

pub sees_table : (r : Reading) (n : ℕ) (row : TableRow) (after : Viewing) → Sees (table_of r) n row after → SeesTable r n row (with_table r after)
sees_table r n row after s = record {
  store = refl;
  table = record { slots = refl; places = s.places; stays = s.stays; known = s.known };
  near = refl;
}

pub sees_near : (slots : NearSlots) (r : Reading) (n : ℕ) (row : TableRow) (after : Viewing) → Sees (near_of r slots) n row after → SeesNear slots r n row (with_near r after)
sees_near slots r n row after s = record {
  store = refl;
  near = record { slots = refl; places = s.places; stays = s.stays; known = s.known };
  places = refl;
}

-- what filling the table's slot of node n leaves
pub table_fills : {A E : Type 0} (r : Reading) (n : ℕ) (result : Result A E) (after : Viewing) → Fills (table_of r) n result after → AsksSlot r n result (with_table r after) after.places
table_fills r n result after fills = record {
  asks = record {
    only = ⊎_elim
        (λ (same : after ≡ table_of r). subst (λ (v : Viewing). AsksOnly (rows_state r) (rows_state (with_table r v)) (λ w. w ≡ n)) (sym same) (asks_nothing (rows_state r) (λ w. w ≡ n)))
        (λ (seen : (row : TableRow) × Sees (table_of r) n row after). (table_asks r n seen.0 (with_table r after) (sees_table r n seen.0 after seen.1)).only)
        fills.learns;
    all = on_ok _ _ result (λ seen. (table_asks r n seen.0 (with_table r after) (sees_table r n seen.0 after seen.1)).all) fills.seen;
  };
  seen = on_ok _ _ result (λ seen. (seen.0, seen.1.known)) fills.seen;
}

-- what filling the near slot of node n leaves
pub near_fills : {A E : Type 0} (slots : NearSlots) (r : Reading) (n : ℕ) (result : Result A E) (after : Viewing) → Fills (near_of r slots) n result after → AsksSlot r n result (with_near r after) after.places
near_fills slots r n result after fills = record {
  asks = record {
    only = ⊎_elim
        (λ (same : after ≡ near_of r slots). subst (λ (v : Viewing). AsksOnly (rows_state r) (rows_state (with_near r v)) (λ w. w ≡ n)) (sym same) (asks_nothing (rows_state r) (λ w. w ≡ n)))
        (λ (seen : (row : TableRow) × Sees (near_of r slots) n row after). (near_asks slots r n seen.0 (with_near r after) (sees_near slots r n seen.0 after seen.1)).only)
        fills.learns;
    all = on_ok _ _ result (λ seen. (near_asks slots r n seen.0 (with_near r after) (sees_near slots r n seen.0 after seen.1)).all) fills.seen;
  };
  seen = on_ok _ _ result (λ seen. (seen.0, seen.1.known)) fills.seen;
}

-- ---- the same of a call that answers what it makes of this

abbrev Places : Type 0
Places = List (Option TableRow)

unseen_err : {A E : Type 0} (P : Type 0) (result : Result A E) → IsErr result → OnOk result P
unseen_err P (Ok x) err = absurd (cc)
unseen_err P (Err e) err = tt

pub slot_err : {A B E F : Type 0} {r new : Reading} {n : ℕ} {given : Result A E} {result : Result B F} {places : Places} → AsksSlot r n given new places → IsErr result → AsksSlot r n result new places
slot_err {result = result} slot err = record { asks = asks_err slot.asks.only err; seen = unseen_err _ result err }

seen_any : {A E : Type 0} (P : Type 0) (result : Result A E) → P → OnOk result P
seen_any P (Ok x) p = p
seen_any P (Err e) p = tt

pub slot_ok : {A B E F : Type 0} {r new : Reading} {n : ℕ} {given : Result A E} {result : Result B F} {x : A} {places : Places} → AsksSlot r n given new places → given ≡ Ok x → AsksSlot r n result new places
slot_ok {n = n} {result = result} {places = places} slot is = record {
  asks = asks_done (asks_ok slot.asks is);
  seen = seen_any _ result (subst (λ g. OnOk g ((row : TableRow) × (slice_get places n ≡ Some (Some row)))) is slot.seen);
}

-- the slot that was taken
pub lent_near : {A E : Type 0} {old new : Reading} {n : ℕ} {result : Result A E} (reach : ℕ) → takes_near old old.store.near reach n ≡ true → AsksSlot old n result new new.near → AsksSlot old n result new (lent_places old new reach n)
lent_near {old = old} {new = new} {n = n} {result = result} reach takes slot = subst (λ (b : Bool). AsksSlot old n result new (cond b new.near new.places)) (sym takes) slot

pub lent_table : {A E : Type 0} {old new : Reading} {n : ℕ} {result : Result A E} (reach : ℕ) → takes_near old old.store.near reach n ≡ false → AsksSlot old n result new new.places → AsksSlot old n result new (lent_places old new reach n)
lent_table {old = old} {new = new} {n = n} {result = result} reach takes slot = subst (λ (b : Bool). AsksSlot old n result new (cond b new.near new.places)) (sym takes) slot
