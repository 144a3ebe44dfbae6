-- Places of a reader, one for each node.
use Rattle.std.proofs.Common.{◌≡◌, ◌≢◌, ℕ, zero, suc, ◌+◌, ◌<◌, ◌⊎◌, Bool, false, List, [], ◌∷◌, ◌++◌, map, length, get_or, set, Option, Some, None, Result, Ok, Err, IfSome, OnOk, OnErr, IsOk, IsSome, get_or-set_same, is_some, replicate, length-set, refl, sym, ap, ◌∙◌, subst, ⊎_elim, true≢false, arith}
use Rattle.std.specs.Prelude.{IsTrue, slice_get, slice_index, slice_index_or}
use native.Mathlib.Decide.{ℕ_discrete}
use mathlib.Core.Logic.{dite}
use Rattle.std.specs.declared.alloc.Global.{Global as Heap}
use Rattle.once_cell.specs.Once.{cell_name, Agrees}
use Rattle.road_network.specs.Net.{Net}
use Rattle.bounded_table.specs.Table.{TableRow, IsRow}
use Rattle.bounded_table.specs.Known.{Extends, Adds, known_nodes}
use Rattle.bounded_table.proofs.KnownNodes.{adds, get_set, get_set_else, inside}
use Rattle.row_store.specs.declared.place.Place.{Place}
use Rattle.row_store.specs.declared.place.Seen.{Seen}
use Rattle.row_store.specs.declared.place.Seen.TheVariants.{Nothing, Right, Foreign, Replaced}
use Rattle.row_store.specs.inside.Places.{Fits, IsCheckedFor, IsReady, KeepsSight, StaysBlind, row_in}
use Rattle.row_store.specs.inside.Views.{AllFit, viewing}
use Rattle.row_store.specs.Store.{SlotSet, Viewing, IsSeen, Sees, is_seen}

pub set_same : {A : Type 0} (l : List A) (i : ℕ) (a : A) → slice_get l i ≡ Some a → set l i a ≡ l
set_same [] i a e = refl
set_same (x ∷ xs) zero a e = ap (λ y. y ∷ xs) (let f : x ≡ a = cc in sym f)
set_same (x ∷ xs) (suc i) a e = ap (λ ys. x ∷ ys) (set_same xs i a e)

pub get_at : {A : Type 0} (l : List A) (i : ℕ) (d : A) → i < length l → slice_get l i ≡ Some (get_or l i d)
get_at [] i d h = absurd (omega arith)
get_at (x ∷ xs) zero d h = refl
get_at (x ∷ xs) (suc i) d h = get_at xs i d (omega arith)

abbrev pub known_of : Place → Option TableRow
known_of p = p.note.known

pub map_set : {A B : Type 0} (f : A → B) (l : List A) (i : ℕ) (a : A) → map f (set l i a) ≡ set (map f l) i (f a)
map_set f [] i a = refl
map_set f (x ∷ xs) zero a = refl
map_set f (x ∷ xs) (suc i) a = ap (λ ys. f x ∷ ys) (map_set f xs i a)

pub get_map : {A B : Type 0} (f : A → B) (l : List A) (i : ℕ) (a : A) → slice_get l i ≡ Some a → slice_get (map f l) i ≡ Some (f a)
get_map f [] i a e = absurd (cc)
get_map f (x ∷ xs) zero a e = ap (λ (y : _). Some (f y)) (let p : x ≡ a = cc in p)
get_map f (x ∷ xs) (suc i) a e = get_map f xs i a e

-- where one place changed and fits, all fit
pub all_fit : (F : ℕ → Place → Type 0) (places : List Place) (n : ℕ) (q : Place) → F n q → ((k : ℕ) (p : Place) → slice_get places k ≡ Some p → F k p) → (k : ℕ) (p : Place) → slice_get (set places n q) k ≡ Some p → F k p
all_fit F places n q mine others k p e = dite (ℕ_discrete k n)
    (λ (same : k ≡ n). let there = at_set places n q k p same e in subst (λ (y : ℕ). F y p) (sym same) (subst (F n) there mine))
    (λ ne. others k p (sym (get_set_else places n k q ne) ∙ e))
  where
    at_set : (l : List Place) (n : ℕ) (q : Place) (k : ℕ) (p : Place) → k ≡ n → slice_get (set l n q) k ≡ Some p → q ≡ p
    at_set [] n q k p same e = absurd (cc)
    at_set (x ∷ xs) zero q zero p same e = cc
    at_set (x ∷ xs) zero q (suc k) p same e = absurd (omega arith)
    at_set (x ∷ xs) (suc n) q zero p same e = absurd (omega arith)
    at_set (x ∷ xs) (suc n) q (suc k) p same e = at_set xs n q k p (omega arith) e

pub fits_at : (slots : SlotSet) (places : List Place) (n : ℕ) (x : Place) → AllFit slots places → n < length places → x ≡ get_or places n x → Fits slots.network slots.bound n (slice_index slots.cells n) x
fits_at slots places n x all h e = all n x (get_at places n x h ∙ ap Some (sym e))

pub there : (places : List Place) (n : ℕ) (x : Place) → n < length places → x ≡ get_or places n x → slice_get (map known_of places) n ≡ Some x.note.known
there places n x h e = get_map known_of places n x (get_at places n x h ∙ ap Some (sym e))

pub on_ok : {A E : Type 0} (P Q : Type 0) (r : Result A E) → (P → Q) → OnOk r P → OnOk r Q
on_ok P Q (Ok a) f p = f p
on_ok P Q (Err e) f p = tt

pub on_err : {A E : Type 0} (P Q : Type 0) (r : Result A E) → (P → Q) → OnErr r P → OnErr r Q
on_err P Q (Ok a) f p = tt
on_err P Q (Err e) f p = f p

pub err_so : {A E : Type 0} (P : Type 0) (r : Result A E) → P → OnErr r P
err_so P (Ok a) p = tt
err_so P (Err e) p = p

pub ok_or_none : {A E : Type 0} (P : Type 0) (r : Result A E) → OnErr r P → (P → ⊥) → IsOk r
ok_or_none P (Ok a) p f = refl
ok_or_none P (Err e) p f = absurd (f p)

kept : (before : Option TableRow) (row r : TableRow) → IfSome before (λ y. y ≡ row) → before ≡ Some r → row ≡ r
kept None row r k e = absurd (cc)
kept (Some y) row r k e = let p : y ≡ r = cc in sym k ∙ p

pub settled_seen : (r : Viewing) (slots : SlotSet) (places : List Place) (n : ℕ) (x q : Place) → viewing slots places ≡ r → n < length places → x ≡ get_or places n x → KeepsSight x.note.known q.note.known
    → (row : TableRow) × Sees r n row (viewing slots (set places n q))
settled_seen r slots places n x q is h e k =
    subst (λ (y : Viewing). (row : TableRow) × Sees y n row (viewing slots (set places n q))) is (
      k.0,
      record {
        slots = refl;
        places = map_set known_of places n q ∙ ap (λ (o : Option TableRow). set (map known_of places) n o) k.1;
        stays = λ s f. kept x.note.known k.0 s k.2 (let a = there places n x h e in let b : Some x.note.known ≡ Some (Some s) = sym a ∙ f in cc);
        known = get_map known_of (set places n q) n q (get_set places n q h) ∙ ap Some k.1;
      },
    )

pub settled_err : (r : Viewing) (slots : SlotSet) (places : List Place) (n : ℕ) (x q : Place) → viewing slots places ≡ r → n < length places → x ≡ get_or places n x → StaysBlind x.note.known q.note.known
    → viewing slots (set places n q) ≡ r
settled_err r slots places n x q is h e none =
    let same : map known_of (set places n q) ≡ map known_of places = map_set known_of places n q ∙ set_same (map known_of places) n q.note.known (there places n x h e ∙ ap Some (none.0 ∙ sym none.1)) in
    ap (λ (ps : List (Option TableRow)). record { slots = slots; places = ps }) same ∙ is

pub known_there : (r : Viewing) (slots : SlotSet) (places : List Place) (n : ℕ) (x : Place) → viewing slots places ≡ r → n < length places → x ≡ get_or places n x → slice_get r.places n ≡ Some x.note.known
known_there r slots places n x is h e = subst (λ (y : Viewing). slice_get y.places n ≡ Some x.note.known) is (there places n x h e)

-- a row of the cell is known where the note knows one
pub shows : (s : Seen) (k : Option TableRow) (r : Viewing) (n : ℕ) → k ≡ row_in s → slice_get r.places n ≡ Some k → is_some (row_in s) ≡ is_seen r n
shows s k r n e f = ap is_some (sym e) ∙ ap is_some (sym (get_default r.places n k f))
  where
    get_default : (l : List (Option TableRow)) (i : ℕ) (o : Option TableRow) → slice_get l i ≡ Some o → slice_index_or l i None ≡ o
    get_default [] i o e = absurd (cc)
    get_default (x ∷ xs) zero o e = cc
    get_default (x ∷ xs) (suc i) o e = get_default xs i o e

pub within : (r : Viewing) (slots : SlotSet) (places : List Place) (n : ℕ) → viewing slots places ≡ r → length places ≡ length slots.network.nodes → n < length r.slots.network.nodes → n < length places
within r slots places n is long h = subst (λ (m : ℕ). n < m) (sym long) (subst (λ (y : Viewing). n < length y.slots.network.nodes) (sym is) h)

-- a node that is known is not unknown
pub known_not : (o : Option TableRow) (ps : List (Option TableRow)) (n : ℕ) → slice_get ps n ≡ Some o → (row : TableRow) × (slice_get ps n ≡ Some (Some row)) → o ≡ None → ⊥
known_not o ps n e k none = let a : Some o ≡ Some (Some k.0) = sym e ∙ k.1 in cc

-- after a look at an empty cell
pub unseen : (r : Viewing) (slots : SlotSet) (places : List Place) (n : ℕ) (x q : Place) (looked : Bool) → viewing slots places ≡ r → n < length places → x ≡ get_or places n x → looked ≡ false
    → IsTrue looked ⊎ StaysBlind x.note.known q.note.known → (viewing slots (set places n q) ≡ r) × (IsSeen r n → ⊥)
unseen r slots places n x q looked is h e unfound either =
    ⊎_elim
    (λ (found : IsTrue looked). absurd (true≢false (sym found ∙ unfound)))
    (λ (none : StaysBlind x.note.known q.note.known). (settled_err r slots places n x q is h e none, λ known. known_not x.note.known r.places n (known_there r slots places n x is h e) known none.0))
    either

pub not_blind : (s : Seen) (k : Option TableRow) (ps : List (Option TableRow)) (n : ℕ) → k ≡ row_in s → slice_get ps n ≡ Some k → (row : TableRow) × (slice_get ps n ≡ Some (Some row)) → s ≡ Nothing → ⊥
not_blind s k ps n e f t none = known_not k ps n f t (e ∙ ap row_in none)

pub sight_row : (r : Viewing) (slots : SlotSet) (places : List Place) (n name : ℕ) (x : Place) (s : Seen) → viewing slots places ≡ r → n < length places → x ≡ get_or places n x → Fits slots.network slots.bound n name x → x.seen ≡ s
    → slice_get r.places n ≡ Some (row_in s)
sight_row r slots places n name x s is h e f seen = known_there r slots places n x is h e ∙ ap Some (f.known ∙ ap row_in seen)

pub sight_checked : (r : Viewing) (slots : SlotSet) (places : List Place) (n name : ℕ) (x : Place) (s : Seen) → viewing slots places ≡ r → Fits slots.network slots.bound n name x → x.seen ≡ s
    → IsCheckedFor r.slots.network r.slots.bound n s
sight_checked r slots places n name x s is f seen =
    subst (λ (y : Viewing). IsCheckedFor y.slots.network y.slots.bound n s) is
    (subst (IsCheckedFor slots.network slots.bound n) seen f.checked)

-- a new place at the end
pub fits_more : (slots : SlotSet) (places : List Place) (x : Place) → AllFit slots places → Fits slots.network slots.bound (length places) (slice_index slots.cells (length places)) x → AllFit slots (places ++ x ∷ [])
fits_more slots places x all mine k p e = dite (ℕ_discrete k (length places))
    (λ (same : k ≡ length places). subst (λ (y : ℕ). Fits slots.network slots.bound y (slice_index slots.cells y) p) (sym same) (subst (λ (q : Place). Fits slots.network slots.bound (length places) (slice_index slots.cells (length places)) q) (last places x k p same e) mine))
    (λ ne. all k p (front places x k p ne e))
  where
    last : (l : List Place) (x : Place) (k : ℕ) (p : Place) → k ≡ length l → slice_get (l ++ x ∷ []) k ≡ Some p → x ≡ p
    last [] x zero p same e = cc
    last [] x (suc k) p same e = absurd (omega arith)
    last (y ∷ ys) x zero p same e = absurd (omega arith)
    last (y ∷ ys) x (suc k) p same e = last ys x k p (omega arith) e

    front : (l : List Place) (x : Place) (k : ℕ) (p : Place) → k ≢ length l → slice_get (l ++ x ∷ []) k ≡ Some p → slice_get l k ≡ Some p
    front [] x zero p ne e = absurd (ne refl)
    front [] x (suc k) p ne e = absurd (cc)
    front (y ∷ ys) x zero p ne e = e
    front (y ∷ ys) x (suc k) p ne e = front ys x k p (λ q. ne (ap suc q)) e

pub empty_fits : (slots : SlotSet) (n name : ℕ) (x : Place) → x.note.cell ≡ name → x.note.known ≡ None → x.seen ≡ Nothing → Fits slots.network slots.bound n name x
empty_fits slots n name x cell known seen = record {
  cell = cell;
  known = known ∙ sym (ap row_in seen);
  checked = subst (IsCheckedFor slots.network slots.bound n) (sym seen) tt;
}

pub none_more : (places : List Place) (x : Place) (n : ℕ) → map known_of places ≡ replicate n None → x.note.known ≡ None → map known_of (places ++ x ∷ []) ≡ replicate (n + 1) None
none_more [] x zero e none = ap (λ (o : Option TableRow). o ∷ []) none
none_more [] x (suc n) e none = absurd (cc)
none_more (y ∷ ys) x zero e none = absurd (cc)
none_more (y ∷ ys) x (suc n) e none =
    let tail : map known_of ys ≡ replicate n None = cc in
    let head : y.note.known ≡ None = cc in
    let rec = none_more ys x n tail none in
    let more : suc n + 1 ≡ suc (n + 1) = omega arith in
    (λ k. head k ∷ rec k) ∙ ap (λ (m : ℕ). replicate m None) (sym more)

-- the name of the cell at i
pub name_at : (cells : List (Heap × ℕ)) (i : ℕ) (x : Heap × ℕ) → i < length cells → x ≡ get_or cells i x → cell_name x ≡ slice_index (map cell_name cells) i
name_at [] i x h e = absurd (omega arith)
name_at (y ∷ ys) zero x h e = ap cell_name e
name_at (y ∷ ys) (suc i) x h e = name_at ys i x (omega arith) e

-- where the known row is the row of the node, that row is at hand
pub right_ready : (net : Net) (bound v : ℕ) (s : Seen) (row : TableRow) → IsCheckedFor net bound v s → row_in s ≡ Some row → IsRow net bound v row → IsReady s
right_ready net bound v Nothing row checked e right = tt
right_ready net bound v (Right r) row checked e right = tt
right_ready net bound v (Foreign r) row checked e right =
    let same : r.now ≡ row = cc in
    checked (subst (IsRow net bound v) (sym same) right)
right_ready net bound v (Replaced b) row checked e right = tt

-- writing a place back changes nothing
pub same_fit : (slots : SlotSet) (places : List Place) (n : ℕ) (x q : Place) → AllFit slots places → n < length places → x ≡ get_or places n x → q ≡ x → AllFit slots (set places n q)
same_fit slots places n x q all h e is = subst (AllFit slots) (sym (set_same places n q (get_at places n x h ∙ ap Some (sym e ∙ sym is)))) all

pub same_reading : (r : Viewing) (slots : SlotSet) (places : List Place) (n : ℕ) (x q : Place) → viewing slots places ≡ r → n < length places → x ≡ get_or places n x → q.note.known ≡ x.note.known → viewing slots (set places n q) ≡ r
same_reading r slots places n x q is h e known =
    let same : map known_of (set places n q) ≡ map known_of places = map_set known_of places n q ∙ set_same (map known_of places) n q.note.known (there places n x h e ∙ ap Some (sym known)) in
    ap (λ (ps : List (Option TableRow)). record { slots = slots; places = ps }) same ∙ is

-- one name for both
pub one_cell : (r s : Viewing) (slots other : SlotSet) (places theirs : List Place) (n a b : ℕ) → viewing slots places ≡ r → viewing other theirs ≡ s → r.slots ≡ s.slots → a ≡ slice_index slots.cells n → b ≡ slice_index other.cells n → a ≡ b
one_cell r s slots other places theirs n a b is it same e f =
    e ∙ ap (λ (y : Viewing). slice_index y.slots.cells n) is ∙ ap (λ (y : SlotSet). slice_index y.cells n) same ∙ sym (ap (λ (y : Viewing). slice_index y.slots.cells n) it) ∙ sym f

-- two notes that both know something know the same
pub one_row : (a b : Option TableRow) → IfSome b (Agrees a) → (r : TableRow) × (a ≡ Some r) → (r : TableRow) × (b ≡ Some r) → a ≡ b
one_row None b h k l = absurd (let e = k.1 in cc)
one_row (Some x) None h k l = absurd (let e = l.1 in cc)
one_row (Some x) (Some y) h k l = ap Some h

pub known_here : (o : Option TableRow) (ps : List (Option TableRow)) (n : ℕ) → slice_get ps n ≡ Some o → (row : TableRow) × (slice_get ps n ≡ Some (Some row)) → (r : TableRow) × (o ≡ Some r)
known_here o ps n e k = let a : Some o ≡ Some (Some k.0) = sym e ∙ k.1 in (k.0, cc)

-- and it is the row that is known
pub known_as : (o : Option TableRow) (ps : List (Option TableRow)) (n : ℕ) (row : TableRow) → slice_get ps n ≡ Some o → slice_get ps n ≡ Some (Some row) → o ≡ Some row
known_as o ps n row e k = let a : Some o ≡ Some (Some row) = sym e ∙ k in cc

pub some_is : (o : Option TableRow) (r : TableRow) → o ≡ Some r → IsSome o
some_is None r e = absurd (cc)
some_is (Some x) r e = refl

pub read_back : (places : List Place) (n : ℕ) (q x : Place) → n < length places → x ≡ get_or (set places n q) n x → x ≡ q
read_back places n q x h e = e ∙ get_or-set_same places n q x h

-- what one look at node n leaves
pub sees_extends : (before : Viewing) (n : ℕ) (row : TableRow) (after : Viewing) → Sees before n row after → Extends before.places after.places
sees_extends before n row after s k r e = dite (ℕ_discrete k n)
    (λ (same : k ≡ n).
    let a : slice_get before.places n ≡ Some (Some r) = subst (λ (y : ℕ). slice_get before.places y ≡ Some (Some r)) same e in
    subst (λ (y : ℕ). slice_get after.places y ≡ Some (Some r)) (sym same) (s.known ∙ ap (λ (y : TableRow). Some (Some y)) (s.stays r a)))
    (λ ne. ap (λ (l : List (Option TableRow)). slice_get l k) s.places ∙ get_set_else before.places n k (Some row) ne ∙ e)

pub sees_adds : (before : Viewing) (n : ℕ) (row : TableRow) (after : Viewing) → Sees before n row after → Adds (known_nodes before.places) n (known_nodes after.places)
sees_adds before n row after s =
    let long = inside after.places n (Some row) s.known in
    let a = length-set before.places n (Some row) in
    let b = ap (λ (l : List (Option TableRow)). length l) s.places in
    subst (λ (l : List (Option TableRow)). Adds (known_nodes before.places) n (known_nodes l)) (sym s.places) (adds before.places n row (omega arith))

-- the place that is read at n
pub place_is : (places : List Place) (n : ℕ) (p x : Place) → slice_get places n ≡ Some p → x ≡ get_or places n x → p ≡ x
place_is places n p x at e =
    let there = get_at places n x (inside places n p at) ∙ ap Some (sym e) in
    let same : Some p ≡ Some x = sym at ∙ there in
    cc
